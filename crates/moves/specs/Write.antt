-- How the moved sheet is written: inner to this crate. The sheet is copied, then each field that changes is put anew.
use Rattle.std.specs.Prelude.{◌≡◌, List, ℕ, zero, suc, ◌+◌, ◌*◌, ◌-◌, ◌%◌, ◌≤◌, ℤ, length, get_or}
use Rattle.sheet.specs.Bytes.{put16}
use Rattle.sheet.specs.Lag.{excess}
use Rattle.sheet.specs.Core.{blocks_in, wires_in, lower_in, upper_in, from_in, to_in, registers_in}
use Rattle.sheet.specs.Filled.{filled}
use Rattle.sheet.specs.declared.block.Limit.{Limit}
use Rattle.sheet.specs.declared.block.Limit.TheVariants.{Lower, Upper}

-- val k in two bytes at base + 8 k, for each k below n
unfoldable pub puts : ℕ → (ℕ → ℕ) → ℕ → List ℕ → List ℕ
puts base val zero l = l
puts base val (suc n) l = put16 (puts base val n l) (base + 8 * n) (val n)

-- a block's lower or upper limit
abbrev pub limit_in : List ℕ → Limit → ℕ → ℤ
limit_in s Lower b = lower_in s b
limit_in s Upper b = upper_in s b

-- the 16 bits of a block's limit less its lag
abbrev pub limit_bits : List ℕ → (ℕ → ℤ) → Limit → ℕ → ℕ
limit_bits s r which b = (excess (limit_in s which b) + 32768 - excess (r b) + 32768) % 65536

-- a wire's registers once moved
abbrev pub moved_registers : List ℕ → (ℕ → ℤ) → ℕ → ℕ
moved_registers s r j = registers_in s j + excess (r (to_in s j)) - excess (r (from_in s j))

-- where the limits and the registers stand
abbrev pub limits_from : Limit → ℕ
limits_from Lower = 20
limits_from Upper = 22

abbrev pub registers_from : ℕ → ℕ
registers_from n = 20 + 8 * n

-- both limits of n blocks, less their lags
abbrev pub limits_put : List ℕ → (ℕ → ℤ) → ℕ → List ℕ → List ℕ
limits_put s r n l = puts (limits_from Upper) (limit_bits s r Upper) n (puts (limits_from Lower) (limit_bits s r Lower) n l)

abbrev pub copied : List ℕ → List ℕ → List ℕ
copied s l = filled (λ i. get_or s i 0) (length s) l

abbrev pub written : List ℕ → (ℕ → ℤ) → List ℕ → List ℕ
written s r l =
    puts (registers_from (blocks_in s)) (moved_registers s r) (wires_in s)
    (limits_put s r (blocks_in s)
    (copied s l))

-- what a wire's new registers are
pub record RegistersMoved (s : List ℕ) (r : ℕ → ℤ) (j x : ℕ) : Type 0 where
  pub is : x ≡ moved_registers s r j
  pub few : x ≤ 2000
