-- The walk as code goes along it, from where the solver stopped.
-- Assumes nothing.
use Rattle.std.specs.Prelude.{◌≡◌, refl, List, ◌++◌, ℕ, ◌+◌, ◌*◌, ◌≤◌, ◌<◌, ℤ, length, get_or, take, drop}
use Rattle.std.proofs.Common.{arith, mul-le-mul}
use Rattle.sheet.specs.Core.{core_of}
use Rattle.solver.specs.declared.Given.{Given}
use Rattle.solver.specs.declared.Standing.{Standing}
use Rattle.solver.specs.declared.Broken.{Broken}
use Rattle.solver.specs.declared.Rule.{Rule}
use Rattle.solver.specs.declared.Rule.TheVariants as R
use Rattle.solver.specs.System.{rule}
use Rattle.witness.specs.Trace.{Known}
use Rattle.witness.specs.Written.{Asked, LinkWritten, LoopWritten}
use Rattle.witness.specs.Walked.{Halted, Ends, far, Begun, Underway}
use Rattle.witness.specs.Laws.Link.{link_placed}
use Rattle.witness.specs.Laws.Walked.{few_blocks, blocks, halted_knows, rule_bound, held_bound, begins, begins_room, walked_start, walked_in, walked_room, walked_less, walked_next, walked_ends}

module _ {s : List ℕ} {g : Given} {t : Standing} {x : Broken} (h : Halted s g t x) where
  -- a link's words are few
  pub few_words : {r : Rule} {a b : ℕ} {w w' : List ℕ} {next : ℕ} → (z : ℤ) × Asked (core_of s) g.period r a b z → ((z : ℤ) → Asked (core_of s) g.period r a b z → LinkWritten (core_of s) g.period r a b z w w' 0 next)
      → next ≤ g.n + 2
  few_words d l = let L = l d.0 d.1 in omega (arith, L.next_is, L.few, blocks h)

  -- ---- before the walk
  pub halted_small : g.n * (g.n + 2) ≤ 4224
  halted_small = let l : g.n + 2 ≤ 66 = omega (arith, few_blocks h) in mul-le-mul (few_blocks h) l

  pub halted_known : Known s g x.rule
  halted_known = halted_knows h x.rule x.a x.b h.stuck.k (rule h.stuck.says)

  pub halted_asked : (z : ℤ) × Asked (core_of s) g.period x.rule x.a x.b z
  halted_asked = let B = rule_bound h in (B.z, B.asked)

  module _ {start : ℕ} (ends : Ends t.next x.a x.b start) {w w' : List ℕ} {at : ℕ} (o : Begun start x.a w w' at) where
    pub begun_room : at + (g.n + 2) ≤ g.n * (g.n + 2)
    begun_room = begins_room h start ends w w' at (begins h start ends w w' at o)

    pub underway_start : (v : List ℕ) (next : ℕ) → g.n * (g.n + 2) ≤ length w' → ((z : ℤ) → Asked (core_of s) g.period x.rule x.a x.b z → LinkWritten (core_of s) g.period x.rule x.a x.b z (drop at w') v 0 next)
        → Underway s g t x start w (take at w' ++ v) (at + next) x.b
    underway_start v next room l =
        let B = rule_bound h in
        record {
          ends = ends;
          walked =
              walked_start h start ends w w' at (begins h start ends w w' at o) _ _
              (link_placed w' v at (omega (arith, begun_room, blocks h)) (l B.z B.asked));
        }

  -- ---- a turn of the walk
  module _ {start : ℕ} {w w' : List ℕ} {at v : ℕ} (U : Underway s g t x start w w' at v) where
    pub underway_in : v < g.n
    underway_in = walked_in h start U.ends w w' at v U.walked

    pub underway_small : v < 64
    underway_small = omega (arith, underway_in, few_blocks h)

    pub underway_known : Known s g (get_or t.rules v R.Limit)
    underway_known = let k = h.state.held v underway_in in halted_knows h _ v _ k.0 k.1

    pub underway_asked : (z : ℤ) × Asked (core_of s) g.period (get_or t.rules v R.Limit) v (get_or t.next v 0) z
    underway_asked = let B = held_bound h v underway_in in (B.z, B.asked)

    module _ (f : v ≡ start → ⊥) where
      pub underway_room : at + (g.n + 2) ≤ g.n * (g.n + 2)
      underway_room = walked_room h start U.ends w w' at v U.walked f

      pub underway_less : far 64 t.next (get_or t.next v 0) < far 64 t.next v
      underway_less = walked_less h start U.ends w w' at v U.walked f

      pub underway_next : (part : List ℕ) (next : ℕ) → g.n * (g.n + 2) ≤ length w'
          → ((z : ℤ) → Asked (core_of s) g.period (get_or t.rules v R.Limit) v (get_or t.next v 0) z → LinkWritten (core_of s) g.period (get_or t.rules v R.Limit) v (get_or t.next v 0) z (drop at w') part 0 next)
          → Underway s g t x start w (take at w' ++ part) (at + next) (get_or t.next v 0)
      unfolding underway_in
      underway_next part next room l =
          let B = held_bound h v underway_in in
          record {
            ends = U.ends;
            walked = walked_next h start U.ends w w' at v U.walked f _ _ _ (link_placed w' part at (omega (arith, underway_room, blocks h)) (l B.z B.asked)) refl;
          }

    pub underway_ends : v ≡ start → g.n * (g.n + 2) ≤ length w → LoopWritten (core_of s) g.period w w' at
    underway_ends q room = walked_ends h start U.ends w w' at v U.walked q room
