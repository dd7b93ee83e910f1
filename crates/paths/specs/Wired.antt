-- What the lists of a wiring hold.
use Rattle.std.specs.Prelude.{◌≡◌, List, ℕ, replicate}
use Rattle.sheet.specs.Core.{Shape, blocks_in, wires_in, from_in, to_in, registers_in}
use Rattle.sheet.specs.Filled.{filled}
use Rattle.paths.specs.Lists.{held, list_shape}
use Rattle.paths.specs.declared.wiring.Wiring.{Wiring}

-- its shape, with these delays
abbrev pub wired : Wiring → List ℕ → Shape
wired w delays = list_shape w.n w.m delays w.from w.to

-- the registers of each wire
abbrev pub weights : Wiring → ℕ → ℕ
weights w = held w.registers

-- filled from a sheet, and 0 past its wires
pub record WiringOf (s : List ℕ) (w : Wiring) : Type 0 where
  pub n_is : w.n ≡ blocks_in s
  pub m_is : w.m ≡ wires_in s
  pub from_is : w.from ≡ filled (from_in s) w.m (replicate 256 0)
  pub to_is : w.to ≡ filled (to_in s) w.m (replicate 256 0)
  pub registers_is : w.registers ≡ filled (registers_in s) w.m (replicate 256 0)
