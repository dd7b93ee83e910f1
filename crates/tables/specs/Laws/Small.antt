-- On a sound core a best path has few registers and a small delay, since it is short.
-- Assumes nothing.
use Rattle.std.specs.Prelude.{List, [], ◌∷◌, ℕ, ◌+◌, ◌*◌, ◌≤◌, ◌<◌, length}
use Rattle.std.proofs.Common.{arith}
use Rattle.sheet.specs.Core.{Core}
use Rattle.sheet.specs.Sheet.{Formed}
use Rattle.paths.specs.Path.{Joins, registers_on, delay_on}
use Rattle.paths.specs.Table.{Best, Sound}
use Rattle.tables.specs.Laws.Entry.{fewest_short}

-- a wire has at most 2,000 registers
registers_small : (c : Core) → Formed c → (u : ℕ) (ws : List ℕ) (v : ℕ) → Joins c.shape u ws v → registers_on c.registers ws ≤ 2000 * length ws
registers_small c f u [] v h = omega arith
registers_small c f u (j ∷ ws) v h = omega (arith, f.few j h.1, registers_small c f (c.shape.to j) ws v h.4)

-- a block has a delay of at most 10,000
pub delay_small : (c : Core) → Formed c → (u : ℕ) (ws : List ℕ) (v : ℕ) → Joins c.shape u ws v → delay_on c.shape u ws ≤ 10000 * length ws + 10000
delay_small c f u [] v h = omega (arith, (f.block u h.0).small)
delay_small c f u (j ∷ ws) v h = omega (arith, (f.block u h.0).small, delay_small c f (c.shape.to j) ws v h.4)

module _ (c : Core) (S : Sound c) (u v W D : ℕ) (b : Best c.shape c.registers u v W D) where
  short : length b.way.wires < c.shape.n
  short =
      fewest_short c.shape c.registers S.no_loop u v b.way.wires b.way.joins
      (λ xs h. omega (arith, b.fewest xs h, b.way.registers_is))

  pub best_few : W ≤ 150000
  best_few = omega (arith, short, S.formed.few_blocks, b.way.registers_is, registers_small c S.formed u b.way.wires v b.way.joins)

  pub best_quick : D ≤ 640000
  best_quick = omega (arith, short, S.formed.few_blocks, b.way.delay_is, delay_small c S.formed u b.way.wires v b.way.joins)
