-- A link of the solver's, on a sheet, asks for a link of a loop with the same bound.
-- Assumes nothing.
use Rattle.std.specs.Prelude.{◌≡◌, refl, List, ℕ, ◌+◌, ◌*◌, ◌<◌, get_or, ℤ, pos, ◌-ℤ◌}
use Rattle.std.proofs.Common.{◌∙◌, arith}
use Rattle.sheet.specs.Core.{core_of, shape_of, blocks_in, wires_in, registers_in, delay_in, lower_in, upper_in}
use Rattle.sheet.specs.Integer.{up, down}
use Rattle.sheet.specs.Laws.Integer.{minus}
use Rattle.sheet.specs.Laws.Sheet.{upper_parts}
use Rattle.paths.specs.Table.{Best, Entry, best, none}
use Rattle.solver.specs.declared.Given.{Given}
use Rattle.solver.specs.declared.Rule.{Rule}
use Rattle.solver.specs.declared.Rule.TheVariants as R
use Rattle.solver.specs.System.{Says, path, wire, ceiling, Link, rule, upper}
use Rattle.witness.specs.Stands.{Slow, Stands}
use Rattle.witness.specs.Written.{Asked, for_upper, for_path, for_wire, for_ceiling}

-- the bound k of a link of the solver's is held as z + 32,768
pub record Bound (s : List ℕ) (g : Given) (r : Rule) (a b k : ℕ) : Type 0 where
  pub z : ℤ
  pub asked : Asked (core_of s) g.period r a b z
  pub z_is : up z + 32768 ≡ k + down z

-- only a path's rule is a path rule
rule_slow : (g : Given) (r : Rule) (a b k : ℕ) → Says g r a b k → r ≡ R.Path → Slow g
rule_slow g r a b k (path e x y l q) h = record { a = a; b = b; a_block = x; b_block = y; slow = l }
rule_slow g r a b k (wire j l e x y q) h = cc
rule_slow g r a b k (ceiling j l e x y q) h = cc

pub link_slow : (g : Given) (r : Rule) (a b k : ℕ) → Link g r a b k → r ≡ R.Path → Slow g
link_slow g r a b k (rule l) h = rule_slow g r a b k l h
link_slow g r a b k (upper e x q) h = cc

module _ (s : List ℕ) (g : Given) (h : Stands s g) where
  -- an entry with a delay above a period is a path's
  slow_best : (a b W D p : ℕ) → Entry (shape_of s) (registers_in s) a b W D → p < D → Best (shape_of s) (registers_in s) a b W D
  slow_best a b W D p (best x) l = x
  slow_best a b W D p (none f x y) l = absurd (omega arith)

  pub rule_asked : (r : Rule) (a b k : ℕ) → Says g r a b k → Bound s g r a b k
  rule_asked r a b k (path e x y l q) =
      let W = get_or g.registers (a * g.n + b) 0 in
      let D = get_or g.delays (a * g.n + b) 0 in
      let t : Entry (shape_of s) (registers_in s) a b W D = rw h.n_is (h.table (record { a = a; b = b; a_block = x; b_block = y; slow = l }) a b (omega (arith, h.n_is)) (omega (arith, h.n_is))) in
      record { z = pos W -ℤ pos 1; asked = for_path e W D (slow_best a b W D g.period t l) l refl; z_is = omega (arith, minus (pos W) (pos 1)) }
  rule_asked r a b k (wire j l e x y q) =
      let l' : j < wires_in s = omega (arith, h.m_is) in
      record { z = pos (registers_in s j); asked = for_wire j l' e (x ∙ h.from_is j l') (y ∙ h.to_is j l') refl; z_is = omega (arith, h.wires_is j l') }
  rule_asked r a b k (ceiling j l e x y q) =
      let l' : j < wires_in s = omega (arith, h.m_is) in
      record {
        z = pos ((core_of s).ceiling j) -ℤ pos (registers_in s j);
        asked = for_ceiling j l' e (x ∙ h.to_is j l') (y ∙ h.from_is j l') refl;
        z_is = omega (arith, h.ceilings_is j l', minus (pos ((core_of s).ceiling j)) (pos (registers_in s j)));
      }

  pub link_asked : (r : Rule) (a b k : ℕ) → a < g.n → Link g r a b k → Bound s g r a b k
  link_asked r a b k l (rule h) = rule_asked r a b k h
  link_asked r a b k l (upper e x q) =
      let l' : a < blocks_in s = omega (arith, h.n_is) in
      record {
        z = upper_in s a;
        asked = for_upper e l' x refl;
        z_is = omega (arith, h.upper_is a l', upper_parts a (delay_in s a) (lower_in s a) (upper_in s a) (h.sound.formed.block a l'));
      }
