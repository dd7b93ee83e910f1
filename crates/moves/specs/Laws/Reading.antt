-- The tests on excess numbers are the tests of 01 on lags.
-- Assumes nothing.
use Rattle.std.specs.Prelude.{◌≡◌, List, ℕ, ◌+◌, ◌<◌, ◌≤◌, ℤ, ◌≤ℤ◌}
use Rattle.std.proofs.Common.{ap, ◌∙◌, arith, inl}
use Rattle.std.specs.Int.Signed.{mag}
use Rattle.sheet.specs.Lag.{excess}
use Rattle.sheet.specs.Core.{core_of, blocks_in, wires_in, lower_in, upper_in, from_in, to_in, registers_in}
use Rattle.sheet.specs.Sheet.{BlockGood}
use Rattle.sheet.specs.Reads.{ExcessIs, BlockIs, WireIs}
use Rattle.sheet.specs.Laws.Lag.{order, moved_low, moved_high}
use Rattle.sheet.specs.Laws.Sheet.{lower_fits, upper_fits}
use Rattle.sheet.specs.Rules.{First, FirstOf, answer}
use Rattle.sheet.specs.Laws.Rules.{place_found, search_stops}
use Rattle.moves.specs.Move.{range_rules, fit_rules}
use Rattle.moves.specs.Lags.{InRange, Fits}

-- ---- one block: its lag's excess number e against its limits
module _ (s : List ℕ) (r : ℕ → ℤ) (b d lo up e : ℕ) (i : BlockIs s b d lo up) (g : BlockGood s b) (x : ExcessIs (r b) e) where
  low : lower_in s b ≤ℤ r b → lo ≤ e
  low h = omega (arith, (order (lower_in s b) (r b) (lower_fits _ _ _ _ g) x.fits).0 h, i.lower_is, x.is)

  high : r b ≤ℤ upper_in s b → e ≤ up
  high h = omega (arith, (order (r b) (upper_in s b) x.fits (upper_fits _ _ _ _ g)).0 h, i.upper_is, x.is)

  pub below_range : e < lo → InRange (core_of s) r b → ⊥
  below_range h k = omega (arith, low k.0)

  pub above_range : up < e → InRange (core_of s) r b → ⊥
  above_range h k = omega (arith, high k.1)

  pub within_range : lo ≤ e → e ≤ up → InRange (core_of s) r b
  within_range h k = (
    (order (lower_in s b) (r b) (lower_fits _ _ _ _ g) x.fits).1 (omega (arith, i.lower_is, x.is)),
    (order (r b) (upper_in s b) x.fits (upper_fits _ _ _ _ g)).1 (omega (arith, i.upper_is, x.is)),
  )

-- ---- one wire: the excess numbers a and b of the lags at its two ends
module _ (s : List ℕ) (r : ℕ → ℤ) (j f t w a b : ℕ) (i : WireIs s j f t w) (x : ExcessIs (r f) a) (y : ExcessIs (r t) b) where
  x_is : a ≡ excess (r (from_in s j))
  x_is = x.is ∙ ap (λ (k : ℕ). excess (r k)) i.from_is

  y_is : b ≡ excess (r (to_in s j))
  y_is = y.is ∙ ap (λ (k : ℕ). excess (r k)) i.to_is

  x_fits : mag (r (from_in s j)) < 32768
  x_fits = rw i.from_is at x.fits

  y_fits : mag (r (to_in s j)) < 32768
  y_fits = rw i.to_is at y.fits

  pub too_few : w + b < a → Fits (core_of s) r j → ⊥
  too_few h k =
      omega (arith, (moved_low (r (from_in s j)) (r (to_in s j)) x_fits y_fits (registers_in s j)).0 k.0, i.registers_is, x_is, y_is)

  pub too_many : a + 2000 < w + b → Fits (core_of s) r j → ⊥
  too_many h k =
      omega (arith, (moved_high (r (from_in s j)) (r (to_in s j)) x_fits y_fits (registers_in s j) 2000).0 k.1, i.registers_is, x_is, y_is)

  pub just_right : a ≤ w + b → w + b ≤ a + 2000 → Fits (core_of s) r j
  just_right h k = (
    (moved_low (r (from_in s j)) (r (to_in s j)) x_fits y_fits (registers_in s j)).1 (omega (arith, i.registers_is, x_is, y_is)),
    (moved_high (r (from_in s j)) (r (to_in s j)) x_fits y_fits (registers_in s j) 2000).1 (omega (arith, i.registers_is, x_is, y_is)),
  )

-- ---- refusals 8 and 9, from where a search ended: at the first lag or wire that breaks its rule, or past all
module _ (s : List ℕ) (r : ℕ → ℤ) where
  pub lag_out : (b : ℕ) → b < blocks_in s → ((k : ℕ) → k < b → (InRange (core_of s) r k → ⊥) → ⊥) → (InRange (core_of s) r b → ⊥) → First (range_rules s r) (answer 8 b 0)
  lag_out b h before bad =
      let f : FirstOf (λ k. InRange (core_of s) r k → ⊥) (blocks_in s) b = search_stops _ _ b h before bad in
      inl (place_found (λ k. InRange (core_of s) r k → ⊥) (blocks_in s) (λ k. answer 8 k 0) b f h)

  pub wire_out : (j : ℕ) → j < wires_in s → ((k : ℕ) → k < j → (Fits (core_of s) r k → ⊥) → ⊥) → (Fits (core_of s) r j → ⊥) → First (fit_rules s r) (answer 9 j 0)
  wire_out j h before bad =
      let f : FirstOf (λ k. Fits (core_of s) r k → ⊥) (wires_in s) j = search_stops _ _ j h before bad in
      inl (place_found (λ k. Fits (core_of s) r k → ⊥) (wires_in s) (λ k. answer 9 k 0) j f h)
