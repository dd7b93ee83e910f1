-- What the solver is given once it is loaded from a sheet.
use Rattle.std.specs.Prelude.{◌≡◌, List, ℕ, ◌+◌, ◌-◌, replicate}
use Rattle.solver.specs.declared.Given.{Given}
use Rattle.solver.specs.System.{Fit}
use Rattle.witness.specs.Stands.{Stands}

-- 01's column "k", as code holds it (k + 32,768), of a wire with w registers: kind 1, and kind 5 with the wire's ceiling
abbrev pub wire_bound : ℕ → ℕ
wire_bound w = w + 32768

abbrev pub ceiling_bound : ℕ → ℕ → ℕ
ceiling_bound ceiling w = ceiling + 32768 - w

-- no path table yet, and no path rules
pub record Unused (g : Given) : Type 0 where
  pub period_is : g.period ≡ 4294967295
  pub registers_are : g.registers ≡ replicate 4096 0
  pub delays_are : g.delays ≡ replicate 4096 0

-- what the solver is given stands for the sheet, and its numbers are small enough for code
pub record Held (s : List ℕ) (g : Given) : Type 0 where
  pub stands : Stands s g
  pub fit : Fit g

pub record Loaded (s : List ℕ) (g : Given) : Type 0 where
  pub held : Held s g
  pub unused : Unused g
