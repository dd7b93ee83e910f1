-- The solver's lists hold a sheet's numbers, and its path table where there is a path rule.
use Rattle.std.specs.Prelude.{◌≡◌, List, ℕ, ◌+◌, ◌*◌, ◌<◌, get_or}
use Rattle.sheet.specs.Lag.{excess}
use Rattle.sheet.specs.Core.{blocks_in, wires_in, lower_in, upper_in, from_in, to_in, registers_in, shape_of, core_of}
use Rattle.paths.specs.Table.{Table}
use Rattle.paths.specs.Questions.{SoundSheet}
use Rattle.solver.specs.declared.Given.{Given}

-- there is a path rule: some pair's delay exceeds the period
pub record Slow (g : Given) : Type 0 where
  pub a : ℕ
  pub b : ℕ
  pub a_block : a < g.n
  pub b_block : b < g.n
  pub slow : g.period < get_or g.delays (a * g.n + b) 0

pub record Stands (s : List ℕ) (g : Given) : Type 0 where
  pub sound : SoundSheet s
  pub n_is : g.n ≡ blocks_in s
  pub m_is : g.m ≡ wires_in s
  pub lower_is : (b : ℕ) → b < blocks_in s → get_or g.lower b 0 ≡ excess (lower_in s b)
  pub upper_is : (b : ℕ) → b < blocks_in s → get_or g.upper b 0 ≡ excess (upper_in s b)
  pub from_is : (j : ℕ) → j < wires_in s → get_or g.from j 0 ≡ from_in s j
  pub to_is : (j : ℕ) → j < wires_in s → get_or g.to j 0 ≡ to_in s j
  -- 01's column "k", as code holds it: kinds 1 and 5
  pub wires_is : (j : ℕ) → j < wires_in s → get_or g.wires j 0 ≡ registers_in s j + 32768
  pub ceilings_is : (j : ℕ) → j < wires_in s → get_or g.ceilings j 0 + registers_in s j ≡ (core_of s).ceiling j + 32768
  pub table : Slow g → Table (shape_of s) (registers_in s) g.registers g.delays
