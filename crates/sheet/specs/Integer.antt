-- An integer as a difference of two naturals, `up z - down z`.
use Rattle.std.specs.Prelude.{ℕ, suc, ℤ, pos, negsuc}

abbrev pub up : ℤ → ℕ
up (pos k) = k
up (negsuc k) = 0

abbrev pub down : ℤ → ℕ
down (pos k) = 0
down (negsuc k) = suc k
