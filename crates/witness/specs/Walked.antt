-- The links written so far, along the walk of links from where the solver is stuck.
use Rattle.std.specs.Prelude.{◌≡◌, List, [], ◌∷◌, map, ℕ, zero, suc, ◌+◌, ◌*◌, ◌≤◌, ◌<◌, length, get_or}
use Rattle.std.proofs.lemmas.List.Edits.{sets}
use Rattle.sheet.specs.Core.{Core, core_of}
use Rattle.sheet.specs.Integer.{up, down}
use Rattle.paths.specs.Table.{Best}
use Rattle.paths.specs.Distinct.{NotIn, NoDup}
use Rattle.loops.specs.Link.{Link, all_words, link_a, Chain, sum_k, NoPath}
use Rattle.solver.specs.declared.Given.{Given}
use Rattle.solver.specs.declared.Standing.{Standing}
use Rattle.solver.specs.declared.Broken.{Broken}
use Rattle.solver.specs.Walk.{iter, Past}
use Rattle.solver.specs.State.{State, Stuck}
use Rattle.witness.specs.Stands.{Stands}

-- the solver stopped on the sheet s: the rule x leaves no solution
pub record Halted (s : List ℕ) (g : Given) (t : Standing) (x : Broken) : Type 0 where
  pub stands : Stands s g
  pub state : State g t
  pub stuck : Stuck g t x

-- where the walk of links from b ends: at a, or at the host if it does not meet a
pub record Ends (par : List ℕ) (a b start : ℕ) : Type 0 where
  pub steps : ℕ
  pub there : iter par steps b ≡ start
  pub past : Past par a b steps
  pub host : (start ≡ a → ⊥) → start ≡ 0

-- how far the walk from v is from the host, if not beyond `most`
abbrev pub far : ℕ → List ℕ → ℕ → ℕ
far zero par v = 0
far (suc most) par zero = 0
far (suc most) par (suc v) = suc (far most par (get_or par (suc v) 0))

-- no path is too slow
abbrev pub NoneSlow : Core → ℕ → Type 0
NoneSlow c p = (u v W D : ℕ) → Best c.shape c.registers u v W D → p < D → ⊥

-- the words of the links ls stand before place `at`; the links lead from block `start` to v, and their k's with `top` make at most `bottom`
pub record Linked (c : Core) (p start v top bottom : ℕ) (ls : List Link) (w w' : List ℕ) (at : ℕ) : Type 0 where
  pub words_are : w' ≡ sets w 0 (all_words ls)
  pub at_is : at ≡ length (all_words ls)
  pub few : at ≤ length ls * (c.shape.n + 2)
  pub chain : Chain c p start ls v
  pub sum : top + up (sum_k c ls) ≤ bottom + down (sum_k c ls)
  pub once : NoDup (map (link_a c) ls)
  pub plain : NoneSlow c p → NoPath c ls

-- k steps of the walk from b are written, and it is at v
pub record Walked (s : List ℕ) (g : Given) (t : Standing) (x : Broken) (start : ℕ) (ends : Ends t.next x.a x.b start) (w w' : List ℕ) (at v : ℕ) : Type 0 where
  pub k : ℕ
  pub soon : k ≤ ends.steps
  pub here : iter t.next k x.b ≡ v
  pub links : List Link
  pub linked : Linked (core_of s) g.period start v (get_or t.lags v 0 + 1) (get_or t.lags start 0) links w w' at
  pub apart : (y : ℕ) → (y ≡ start → ⊥) → (y ≡ x.a → ⊥) → ((j : ℕ) → j < k → y ≡ iter t.next j x.b → ⊥) → NotIn y (map (link_a (core_of s)) links)

-- a loop that does not end at a begins with the lower limit of a
abbrev pub Begun : ℕ → ℕ → List ℕ → List ℕ → ℕ → Type 0
Begun start a w w' at = (start ≡ a → (w' ≡ w) × (at ≡ 0)) × ((start ≡ a → ⊥) → (w' ≡ sets w 0 (4 ∷ a ∷ [])) × (at ≡ 2))

-- a loop at the solver's period is being written from where it stopped, and the walk is at v
pub record Underway (s : List ℕ) (g : Given) (t : Standing) (x : Broken) (start : ℕ) (w w' : List ℕ) (at v : ℕ) : Type 0 where
  pub ends : Ends t.next x.a x.b start
  pub walked : Walked s g t x start ends w w' at v
