-- The rules that lags keep to meet a period: the wires' and ranges' (permitted lags), and one for each path that is too slow.
use Rattle.std.specs.Prelude.{ℕ, ◌<◌, ℤ, pos, ◌-ℤ◌, ◌≤ℤ◌}
use Rattle.sheet.specs.Core.{Core}
use Rattle.paths.specs.Table.{Best}
use Rattle.moves.specs.Lags.{Permitted}

-- lag(u) - lag(v) <= W - 1 for each pair u, v with an entry W, D of the path table and D above the period p, u = v included
pub record Keeps (c : Core) (p : ℕ) (r : ℕ → ℤ) : Type 0 where
  pub permitted : Permitted c r
  pub path : (u v W D : ℕ) → Best c.shape c.registers u v W D → p < D → (r u -ℤ r v) ≤ℤ (pos W -ℤ pos 1)
