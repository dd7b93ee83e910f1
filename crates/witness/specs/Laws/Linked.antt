-- One link more: words, chain, sum and count; links with different a's are at most n.
-- Assumes nothing.
use Rattle.std.specs.Prelude.{◌≡◌, refl, List, [], ◌∷◌, ◌++◌, map, ℕ, suc, ◌+◌, ◌*◌, ◌≤◌, ◌<◌, ℤ, length}
use Rattle.std.proofs.Common.{sym, ap, ◌∙◌, append-nil, arith, suc-mul, mul-le-mul_right, length-append}
use Rattle.std.proofs.lemmas.List.{length-map}
use Rattle.std.proofs.lemmas.List.Edits.{sets}
use Rattle.sheet.specs.Core.{Core}
use Rattle.sheet.specs.Sheet.{Formed}
use Rattle.sheet.specs.Integer.{up, down}
use Rattle.paths.specs.Path.{end_of}
use Rattle.paths.specs.Laws.Path.{joins_start_lt}
use Rattle.paths.specs.Distinct.{NotIn, NoDup}
use Rattle.paths.specs.Laws.Pigeons.{AllBelow, pigeons}
use Rattle.loops.specs.Link.{Link, wire, path, upper, lower, ceiling, words_of, all_words, link_a, link_b, Good, Chain, NoPath}
use Rattle.loops.specs.Laws.Chain.{chain_append, sum_snoc}
use Rattle.loops.specs.Laws.Words.{words_append}
use Rattle.solver.specs.declared.Rule.{Rule}
use Rattle.solver.specs.declared.Rule.TheVariants as R
use Rattle.witness.specs.Written.{LinkWritten}
use Rattle.witness.specs.Walked.{NoneSlow, Linked}
use Rattle.witness.specs.Laws.Sets.{sets_append}

-- k rows of m, and one more
row_more : (k k' m : ℕ) → k' ≡ k + 1 → k * m + m ≡ k' * m
row_more k k' m e = let q : k' ≡ suc k = omega arith in rw q (sym (suc-mul k m))

module _ (c : Core) where
  -- ---- one link more at the end
  pub not_in_snoc : (x : ℕ) (ls : List Link) (l : Link) → NotIn x (map (link_a c) ls) → (x ≡ link_a c l → ⊥) → NotIn x (map (link_a c) (ls ++ (l ∷ [])))
  not_in_snoc x [] l h f = (f, tt)
  not_in_snoc x (y ∷ ls) l h f = (h.0, not_in_snoc x ls l h.1 f)

  once_snoc : (ls : List Link) (l : Link) → NoDup (map (link_a c) ls) → NotIn (link_a c l) (map (link_a c) ls) → NoDup (map (link_a c) (ls ++ (l ∷ [])))
  once_snoc [] l h f = (tt, tt)
  once_snoc (y ∷ ls) l h f = (not_in_snoc (link_a c y) ls l h.0 (λ e. f.0 (sym e)), once_snoc ls l h.1 f.1)

  plain_snoc : (ls : List Link) (l : Link) → NoPath c ls → NoPath c (l ∷ []) → NoPath c (ls ++ (l ∷ []))
  plain_snoc [] l h f = f
  plain_snoc (wire j ∷ ls) l h f = plain_snoc ls l h f
  plain_snoc (path u ws ∷ ls) l h f = absurd h
  plain_snoc (upper b ∷ ls) l h f = plain_snoc ls l h f
  plain_snoc (lower b ∷ ls) l h f = plain_snoc ls l h f
  plain_snoc (ceiling j ∷ ls) l h f = plain_snoc ls l h f

  words_snoc : (ls : List Link) (l : Link) → all_words (ls ++ (l ∷ [])) ≡ all_words ls ++ words_of l
  words_snoc ls l = words_append ls (l ∷ []) ∙ ap (λ (xs : List ℕ). all_words ls ++ xs) (append-nil (words_of l))

  -- ---- every a is a block
  good_below : Formed c → (p : ℕ) (l : Link) → Good c p l → link_a c l < c.shape.n
  good_below f p (wire j) g = f.from_block j g
  good_below f p (path u ws) g = joins_start_lt c.shape u ws (end_of c.shape u ws) g.0
  good_below f p (upper b) g = g
  good_below f p (lower b) g = f.some_block
  good_below f p (ceiling j) g = f.to_block j g

  chain_below : Formed c → (p a : ℕ) (ls : List Link) (e : ℕ) → Chain c p a ls e → AllBelow c.shape.n (map (link_a c) ls)
  chain_below f p a [] e h = tt
  chain_below f p a (l ∷ ls) e h = (good_below f p l h.1, chain_below f p (link_b c l) ls e h.2)

  -- ---- the links written
  pub linked_none : (p start bottom : ℕ) (w : List ℕ) → Linked c p start start bottom bottom [] w w 0
  linked_none p start bottom w = record { words_are = refl; at_is = refl; few = omega arith; chain = refl; sum = omega arith; once = tt; plain = λ _. tt }

  module _ (p start v top bottom : ℕ) (ls : List Link) (w w' : List ℕ) (at : ℕ) (h : Linked c p start v top bottom ls w w' at) where
    pub linked_next : (r : Rule) (b : ℕ) (z : ℤ) (w'' : List ℕ) (next top' : ℕ) (x : LinkWritten c p r v b z w' w'' at next) → top' + up z ≤ top + down z
        → NotIn v (map (link_a c) ls) → (NoneSlow c p → r ≡ R.Path → ⊥) → Linked c p start b top' bottom (ls ++ (x.link ∷ [])) w w'' next
    linked_next r b z w'' next top' x k f q =
        let l = x.link in
        let long = ap length (words_snoc ls l) ∙ length-append (all_words ls) (words_of l) in
        record {
          words_are =
              x.words_are
              ∙ ap (λ (xs : List ℕ). sets xs at (words_of l)) h.words_are
              ∙ sets_append w (all_words ls) (words_of l) 0 at (omega (arith, h.at_is))
              ∙ ap (λ (xs : List ℕ). sets w 0 xs) (sym (words_snoc ls l));
          at_is = omega (arith, x.next_is, h.at_is, long);
          few = omega (arith, x.next_is, x.few, h.few, row_more (length ls) (length (ls ++ (l ∷ []))) (c.shape.n + 2) (length-append ls (l ∷ [])));
          chain = chain_append c p start ls v (l ∷ []) b h.chain (x.a_is, x.good, x.b_is);
          sum = omega (arith, h.sum, sum_snoc c p ls l, ap up x.k_is, ap down x.k_is);
          once = once_snoc ls l h.once (rw x.a_is f);
          plain = λ none. plain_snoc ls l (h.plain none) (x.plain (q none));
        }

    -- there is room for one more, and all have room
    pub linked_room : Formed c → v < c.shape.n → NotIn v (map (link_a c) ls) → at + (c.shape.n + 2) ≤ c.shape.n * (c.shape.n + 2)
    linked_room g k f =
        let n = c.shape.n in
        let few = pigeons n (v ∷ map (link_a c) ls) (f, h.once) (k, chain_below g p start ls v h.chain) in
        let one : suc (length ls) ≤ n = omega (arith, length-map ls (link_a c)) in
        omega (arith, h.few, mul-le-mul_right (n + 2) one, row_more (length ls) (suc (length ls)) (n + 2) (omega arith))

    pub linked_few : Formed c → at ≤ c.shape.n * (c.shape.n + 2)
    linked_few g =
        let n = c.shape.n in
        let few = pigeons n (map (link_a c) ls) h.once (chain_below g p start ls v h.chain) in
        let all : length ls ≤ n = omega (arith, length-map ls (link_a c)) in
        omega (arith, h.few, mul-le-mul_right (n + 2) all)
