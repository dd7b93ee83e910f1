-- A loop without kind 2 is valid at every period.
-- Assumes nothing.
use Rattle.std.specs.Prelude.{List, [], ◌∷◌, ℕ}
use Rattle.sheet.specs.Core.{Core}
use Rattle.loops.specs.Link.{Link, wire, path, upper, lower, ceiling, link_a, link_b, Chain, ValidLoop, NoPath}
use Rattle.witness.specs.Written.{LoopWritten}

module _ (c : Core) (p q : ℕ) where
  pub chain_plain : (a : ℕ) (ls : List Link) (e : ℕ) → NoPath c ls → Chain c p a ls e → Chain c q a ls e
  chain_plain a [] e n h = h
  chain_plain a (wire j ∷ ls) e n h = (h.0, h.1, chain_plain (link_b c (wire j)) ls e n h.2)
  chain_plain a (path u ws ∷ ls) e n h = absurd n
  chain_plain a (upper b ∷ ls) e n h = (h.0, h.1, chain_plain (link_b c (upper b)) ls e n h.2)
  chain_plain a (lower b ∷ ls) e n h = (h.0, h.1, chain_plain (link_b c (lower b)) ls e n h.2)
  chain_plain a (ceiling j ∷ ls) e n h = (h.0, h.1, chain_plain (link_b c (ceiling j)) ls e n h.2)

  -- the same links at the period q
  abbrev pub valid_plain : (words : List ℕ) (v : ValidLoop c p words) → NoPath c (v.first ∷ v.others) → ValidLoop c q words
  valid_plain words v n = record {
    first = v.first;
    others = v.others;
    words_are = v.words_are;
    short = v.short;
    closed = chain_plain (link_a c v.first) (v.first ∷ v.others) (link_a c v.first) n v.closed;
    negative = v.negative;
  }

  pub written_plain : (w w' : List ℕ) (r : ℕ) (l : LoopWritten c p w w' r) → NoPath c (l.valid.first ∷ l.valid.others) → LoopWritten c q w w' r
  written_plain w w' r l n = record { valid = valid_plain _ l.valid n; once = l.once; plain = λ _. n; few = l.few; kept = l.kept }
