-- A sheet's rules as one table of keys: its path table, with the wires' ceilings folded in, and the blocks' limits.
use Rattle.std.specs.Prelude.{◌≡◌, cond, List, ℕ, ◌+◌, ◌*◌, ◌≤◌, ◌<◌, ltb, ℤ, length, get_or}
use Rattle.sheet.specs.Lag.{excess}
use Rattle.sheet.specs.Core.{blocks_in, wires_in, lower_in, upper_in, from_in, to_in, registers_in, shape_of, core_of}
use Rattle.paths.specs.Path.{Joins, registers_on, delay_on}
use Rattle.paths.specs.Table.{Way}
use Rattle.paths.specs.Questions.{SoundSheet}

-- what stands for the pair u, v: no rule that binds, a path's key, or a wire's ceiling
pub data Key (s : List ℕ) (u v k : ℕ) : Type 0 where
  loose : 2098200576 ≤ k → Key s u v k
  path : u < blocks_in s → v < blocks_in s → (W D : ℕ) → Way (shape_of s) (registers_in s) u v W D → k + D ≡ (W + 1) * 1048576 → Key s u v k
  ceiling : (j : ℕ) → j < wires_in s → v ≡ from_in s j → u ≡ to_in s j → k + registers_in s j * 1048576 ≡ ((core_of s).ceiling j + 1) * 1048576 → Key s u v k

pub record Ruled (s keys lower upper : List ℕ) : Type 0 where
  pub sound : SoundSheet s
  pub keys_long : length keys ≡ 4096
  pub lower_long : length lower ≡ 64
  pub upper_long : length upper ≡ 64
  pub small : (i : ℕ) → get_or keys i 0 ≤ 2099249152
  pub key : (u v : ℕ) → u < 64 → v < 64 → Key s u v (get_or keys (v * 64 + u) 0)
  pub paths : (u v : ℕ) (ws : List ℕ) → Joins (shape_of s) u ws v → get_or keys (v * 64 + u) 0 + delay_on (shape_of s) u ws ≤ (registers_on (registers_in s) ws + 1) * 1048576
  pub ceilings : (j : ℕ) → j < wires_in s → get_or keys (from_in s j * 64 + to_in s j) 0 + registers_in s j * 1048576 ≤ ((core_of s).ceiling j + 1) * 1048576
  pub lower_is : (b : ℕ) → b < blocks_in s → get_or lower b 0 ≡ excess (lower_in s b)
  pub upper_is : (b : ℕ) → b < blocks_in s → get_or upper b 0 ≡ excess (upper_in s b)
  -- blocks that the sheet does not have stand at lag 0
  pub lower_other : (b : ℕ) → b < 64 → blocks_in s ≤ b → get_or lower b 0 ≡ 32768
  pub upper_other : (b : ℕ) → b < 64 → blocks_in s ≤ b → get_or upper b 0 ≡ 32768

-- lags of n blocks, as 64 excess numbers
abbrev pub padded : ℕ → (ℕ → ℤ) → ℕ → ℕ
padded n r b = cond (ltb b n) (excess (r b)) 32768
