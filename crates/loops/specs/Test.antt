-- A test for valid loops that computes: it reads the words as links, then tests the links, the chain and the sum.
use Rattle.std.specs.Prelude.{Bool, true, false, ◌&&◌, cond, List, [], ◌∷◌, ℕ, ltb, leb, eqb, pos, length, take, drop}
use Rattle.std.specs.Int.Signed.{lt_z}
use Rattle.sheet.specs.Core.{Core, Shape}
use Rattle.paths.specs.Path.{delay_on}
use Rattle.loops.specs.Link.{Link, wire, path, upper, lower, ceiling, link_a, link_b, sum_k}

-- ---- reading
-- one link and the words after it
pub data Lead : Type 0 where
  lead : Link → List ℕ → Lead
  none : Lead

-- whether a path's wires are all there is an argument, so that no more words than there are get counted off
abbrev pub path_lead : Bool → ℕ → ℕ → List ℕ → Lead
path_lead true u count r = lead (path u (take count r)) (drop count r)
path_lead false u count r = none

abbrev pub path_at : ℕ → List ℕ → Lead
path_at u [] = none
path_at u (count ∷ r) = path_lead (leb count (length r)) u count r

abbrev pub kind_at : ℕ → ℕ → List ℕ → Lead
kind_at k x r = cond (eqb k 1) (lead (wire x) r) (cond (eqb k 2) (path_at x r) (cond (eqb k 3) (lead (upper x) r) (cond (eqb k 4) (lead (lower x) r) (cond (eqb k 5) (lead (ceiling x) r) none))))

abbrev pub link_at : List ℕ → Lead
link_at [] = none
link_at (k ∷ []) = none
link_at (k ∷ x ∷ r) = kind_at k x r

-- all the words: a first link and the others
pub data Parsed : Type 0 where
  links : Link → List Link → Parsed
  unreadable : Parsed

abbrev pub before : Link → Parsed → Parsed
before l (links m ls) = links l (m ∷ ls)
before l unreadable = unreadable

-- the list `fuel` bounds the number of links; the words themselves are enough
abbrev pub links_from : List ℕ → Lead → Parsed
links_from [] x = unreadable
links_from (f ∷ fuel) none = unreadable
links_from (f ∷ fuel) (lead l []) = links l []
links_from (f ∷ fuel) (lead l (x ∷ r)) = before l (links_from fuel (link_at (x ∷ r)))

abbrev pub links_of : List ℕ → Parsed
links_of words = links_from words (link_at words)

-- ---- paths
-- whether a path may pass through block b in its middle
abbrev pub passes_test : Shape → ℕ → Bool
passes_test s b = true

abbrev pub onward_test : Shape → ℕ → List ℕ → Bool
onward_test s b [] = true
onward_test s b (j ∷ ws) = passes_test s b

abbrev pub joins_test : Shape → ℕ → List ℕ → Bool
joins_test s u [] = ltb u s.n
joins_test s u (j ∷ ws) = ltb u s.n && (ltb j s.m && (eqb (s.from j) u && (onward_test s (s.to j) ws && joins_test s (s.to j) ws)))

-- ---- links and chains
module _ (c : Core) (p : ℕ) where
  abbrev pub good_test : Link → Bool
  good_test (wire j) = ltb j c.shape.m
  good_test (path u ws) = joins_test c.shape u ws && ltb p (delay_on c.shape u ws)
  good_test (upper b) = ltb b c.shape.n
  good_test (lower b) = ltb b c.shape.n
  good_test (ceiling j) = ltb j c.shape.m

  -- good links that lead from block a to block e
  abbrev pub chain_test : ℕ → List Link → ℕ → Bool
  chain_test a [] e = eqb a e
  chain_test a (l ∷ ls) e = eqb (link_a c l) a && (good_test l && chain_test (link_b c l) ls e)

  abbrev pub loop_test : Parsed → Bool
  loop_test (links l ls) = chain_test (link_a c l) (l ∷ ls) (link_a c l) && lt_z (sum_k c (l ∷ ls)) (pos 0)
  loop_test unreadable = false

-- at most 4,224 words, all of them links, and these a closed chain whose k's add up to less than 0
abbrev pub valid_test : Core → ℕ → List ℕ → Bool
valid_test c p words = leb (length words) 4224 && loop_test c p (links_of words)
