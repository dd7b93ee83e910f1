-- What the machine makes of the sum and the difference that turn a lag into its excess number and back.
-- Assumes nothing.
use mathlib.Core.Path.{◌≡◌, ap, ◌∙◌}
use Prim.Native.Nat.{ℕ, ◌<◌}
use native.Mathlib.Omega.{arith}
use lib.IntN.{ℤ, pos, ◌+ℤ◌, ◌-ℤ◌}
use mir.Syntax.{w16, w32}
use mir.Val.{SFits, to_z, of_z}
use mir.Facts.{to_z-of_z, to_z_pos, sfits_widen}
use Rattle.sheet.specs.Lag.{excess, lag_of}
use Rattle.sheet.specs.Laws.Lag.{plus_excess, excess_fits, mag_lag}

module _ (z : ℤ) (f : SFits w16 z) where
  wide : to_z w32 (of_z w32 (to_z w16 (of_z w16 z))) ≡ z
  wide = ap (λ (y : ℤ). to_z w32 (of_z w32 y)) (to_z-of_z f) ∙ to_z-of_z (sfits_widen {w = w16} {w' = w32} tt f)

  pub sum : to_z w32 (of_z w32 (to_z w16 (of_z w16 z))) +ℤ pos 32768 ≡ pos (excess z)
  sum = ap (λ (y : ℤ). y +ℤ pos 32768) wide ∙ plus_excess z f.sfits

  pub sum_fits : SFits w32 (pos (excess z))
  sum_fits = record { sfits = omega (arith, excess_fits z f.sfits) }

  pub sum_read : to_z w32 (of_z w32 (to_z w32 (of_z w32 (to_z w16 (of_z w16 z))) +ℤ pos 32768)) ≡ pos (excess z)
  sum_read = ap (λ (y : ℤ). to_z w32 (of_z w32 y)) sum ∙ to_z-of_z sum_fits

module _ (e : ℕ) (h : e < 65536) where
  pub difference : to_z w32 e -ℤ pos 32768 ≡ lag_of e
  difference = ap (λ (y : ℤ). y -ℤ pos 32768) (to_z_pos w32 {n = e} (omega arith))

  pub lag_fits : SFits w16 (lag_of e)
  lag_fits = record { sfits = mag_lag e h }

  pub difference_read : to_z w32 (of_z w32 (to_z w32 e -ℤ pos 32768)) ≡ lag_of e
  difference_read = ap (λ (y : ℤ). to_z w32 (of_z w32 y)) difference ∙ to_z-of_z (sfits_widen {w = w16} {w' = w32} tt lag_fits)

  pub lag_read : to_z w16 (of_z w16 (to_z w32 (of_z w32 (to_z w32 e -ℤ pos 32768)))) ≡ lag_of e
  lag_read = ap (λ (y : ℤ). to_z w16 (of_z w16 y)) difference_read ∙ to_z-of_z lag_fits
