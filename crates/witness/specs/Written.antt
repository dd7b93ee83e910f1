-- What the writer of loops leaves: words that are a valid loop, and all past them as it was.
use Rattle.std.specs.Prelude.{◌≡◌, List, [], ◌∷◌, map, ℕ, ◌+◌, ◌*◌, ◌≤◌, ◌<◌, ℤ, pos, ◌-ℤ◌, length, take}
use Rattle.std.proofs.lemmas.List.Edits.{sets}
use Rattle.sheet.specs.Core.{Core, registers_in, shape_of}
use Rattle.paths.specs.Table.{Best}
use Rattle.paths.specs.Questions.{KeptFrom}
use Rattle.paths.specs.Distinct.{NoDup}
use Rattle.solver.specs.declared.Given.{Given}
use Rattle.solver.specs.declared.Rule.{Rule}
use Rattle.solver.specs.declared.Rule.TheVariants as R
use Rattle.witness.specs.Trace.{Traced, registers_at, delay_at}
use Rattle.loops.specs.Link.{Link, link_a, link_b, link_k, words_of, Good, ValidLoop, NoPath}

-- what a link by the rule r asks to be written: the rule from a to b with bound k
pub data Asked (c : Core) (p : ℕ) (r : Rule) (a b : ℕ) (k : ℤ) : Type 0 where
  for_upper : r ≡ R.Limit → a < c.shape.n → b ≡ 0 → k ≡ c.upper a → Asked c p r a b k
  for_path : r ≡ R.Path → (W D : ℕ) → Best c.shape c.registers a b W D → p < D → k ≡ pos W -ℤ pos 1 → Asked c p r a b k
  for_wire : (j : ℕ) → j < c.shape.m → r ≡ R.Wire j → a ≡ c.shape.from j → b ≡ c.shape.to j → k ≡ pos (c.registers j) → Asked c p r a b k
  for_ceiling : (j : ℕ) → j < c.shape.m → r ≡ R.Ceiling j → a ≡ c.shape.to j → b ≡ c.shape.from j → k ≡ pos (c.ceiling j) -ℤ pos (c.registers j) → Asked c p r a b k

-- the words of a best path's link of kind 2 were written at the front, and there are r of them
pub record PathWritten (s : List ℕ) (g : Given) (a b : ℕ) (w w' : List ℕ) (r : ℕ) : Type 0 where
  pub wires : List ℕ
  pub traced : Traced (shape_of s) (registers_in s) a b (registers_at g a b) (delay_at g a b) wires
  pub words_are : w' ≡ sets w 0 (2 ∷ a ∷ length wires ∷ wires)
  pub count : r ≡ 3 + length wires

-- the link l for it was written from place `at` on, and `next` is the place after it
pub record LinkWritten (c : Core) (p : ℕ) (r : Rule) (a b : ℕ) (k : ℤ) (w w' : List ℕ) (at next : ℕ) : Type 0 where
  pub link : Link
  pub good : Good c p link
  pub a_is : link_a c link ≡ a
  pub b_is : link_b c link ≡ b
  pub k_is : link_k c link ≡ k
  pub words_are : w' ≡ sets w at (words_of link)
  pub next_is : next ≡ at + length (words_of link)
  pub few : length (words_of link) ≤ c.shape.n + 2
  pub plain : (r ≡ R.Path → ⊥) → NoPath c (link ∷ [])

-- the first r words are a valid loop that has no block twice as an a; all past them is as it was
pub record LoopWritten (c : Core) (p : ℕ) (w w' : List ℕ) (r : ℕ) : Type 0 where
  pub valid : ValidLoop c p (take r w')
  pub once : NoDup (map (link_a c) (valid.first ∷ valid.others))
  -- where no path is too slow there is no link of kind 2
  pub plain : ((u v W D : ℕ) → Best c.shape c.registers u v W D → p < D → ⊥) → NoPath c (valid.first ∷ valid.others)
  pub few : r ≤ c.shape.n * (c.shape.n + 2)
  pub kept : KeptFrom r w w'
