-- The order of the table: fewer registers, or as many and at least the delay.
use Rattle.std.specs.Prelude.{◌≡◌, ℕ, ◌≤◌, ◌<◌}

pub data Ahead (W D W' D' : ℕ) : Type 0 where
  fewer : W < W' → Ahead W D W' D'
  level : W ≡ W' → D' ≤ D → Ahead W D W' D'
