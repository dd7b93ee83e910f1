-- Lags are integers; code holds a lag z as its excess number, the natural number z + 32,768.
use Rattle.std.specs.Prelude.{ℕ, ◌+◌, ◌-◌, ℤ, pos, negsuc}
use Rattle.std.proofs.Math.IntN.{sub_ℕ}

abbrev pub excess : ℤ → ℕ
excess (pos k) = 32768 + k
excess (negsuc k) = 32767 - k

-- the lag that an excess number stands for
abbrev pub lag_of : ℕ → ℤ
lag_of e = sub_ℕ e 32768
