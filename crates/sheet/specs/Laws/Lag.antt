-- Lags and their excess numbers say the same: round trip, order, sums, rules, and the 16 bits of the sheet.
-- A lag is an i16: `mag z < 32768`. Assumes nothing.
use Rattle.std.specs.Prelude.{◌≡◌, ◌↔◌, ℕ, suc, ◌+◌, ◌-◌, ◌%◌, ◌<◌, ◌≤◌, ℤ, pos, negsuc, ◌+ℤ◌, ◌-ℤ◌, ◌≤ℤ◌}
use Rattle.std.proofs.Common.{ap, ◌∙◌, arith, to_z}
use Rattle.std.proofs.Math.Decide.{dec_le, dec_lt}
use Rattle.std.specs.Int.Signed.{mag}
use Rattle.std.specs.Int.{w16}
use Rattle.std.proofs.Math.Facts.{to_z_pos, to_z-neg}
use Rattle.sheet.specs.Lag.{excess, lag_of}
use Rattle.sheet.specs.Integer.{up, down}
use Rattle.sheet.specs.Laws.Integer.{sub_le, sub_lt, sub_parts, plus, minus, le_parts, parts_le, parts_eq}

-- ---- the excess number is the lag plus 32,768
pub excess_parts : (z : ℤ) → mag z < 32768 → excess z + down z ≡ up z + 32768
excess_parts (pos k) h = omega arith
excess_parts (negsuc k) h = omega arith

pub excess_fits : (z : ℤ) → mag z < 32768 → excess z < 65536
excess_fits (pos k) h = omega arith
excess_fits (negsuc k) h = omega arith

pub plus_excess : (z : ℤ) → mag z < 32768 → z +ℤ pos 32768 ≡ pos (excess z)
plus_excess z h = parts_eq (z +ℤ pos 32768) (pos (excess z)) (omega (arith, plus z (pos 32768), excess_parts z h))

-- ---- round trip
pub lag_excess : (z : ℤ) → mag z < 32768 → lag_of (excess z) ≡ z
lag_excess z h = parts_eq (lag_of (excess z)) z (omega (arith, sub_parts (excess z) 32768, excess_parts z h))

mag_lag' : (e : ℕ) → e < 65536 → Dec (32768 ≤ e) → mag (lag_of e) < 32768
mag_lag' e h (yes k) = rw (sub_le e 32768 k) (omega arith)
mag_lag' e h (no k) = rw (sub_lt e 32768 (omega arith)) (omega arith)

pub mag_lag : (e : ℕ) → e < 65536 → mag (lag_of e) < 32768
mag_lag e h = mag_lag' e h (dec_le 32768 e)

pub excess_lag : (e : ℕ) → e < 65536 → excess (lag_of e) ≡ e
excess_lag e h = omega (arith, excess_parts (lag_of e) (mag_lag e h), sub_parts e 32768)

-- ---- two lags
module _ (a b : ℤ) (ha : mag a < 32768) (hb : mag b < 32768) where
  -- order, both ways
  pub order : a ≤ℤ b ↔ excess a ≤ excess b
  order = (
    λ h. omega (arith, le_parts a b h, excess_parts a ha, excess_parts b hb),
    λ h. parts_le a b (omega (arith, excess_parts a ha, excess_parts b hb)),
  )

  pub excess_inj : excess a ≡ excess b → a ≡ b
  excess_inj h = parts_eq a b (omega (arith, excess_parts a ha, excess_parts b hb))

  -- a rule lag(a) - lag(b) <= k
  pub rule : (k : ℤ) → mag k < 32768 → (a -ℤ b) ≤ℤ k ↔ excess a + 32768 ≤ excess b + excess k
  rule k hk = (
    λ h. omega (arith, le_parts (a -ℤ b) k h, minus a b, excess_parts a ha, excess_parts b hb, excess_parts k hk),
    λ h. parts_le (a -ℤ b) k (omega (arith, minus a b, excess_parts a ha, excess_parts b hb, excess_parts k hk)),
  )

  -- the move rule, w + lag(b) - lag(a): its value, and that it lies in a range from 0
  pub moved_is : (w x : ℕ) → pos w +ℤ b -ℤ a ≡ pos x ↔ x + excess a ≡ w + excess b
  moved_is w x = (
    λ h. omega (arith, ap up h, ap down h, minus (pos w +ℤ b) a, plus (pos w) b, excess_parts a ha, excess_parts b hb),
    λ h. parts_eq (pos w +ℤ b -ℤ a) (pos x) (omega (arith, minus (pos w +ℤ b) a, plus (pos w) b, excess_parts a ha, excess_parts b hb)),
  )

  pub moved_low : (w : ℕ) → pos 0 ≤ℤ (pos w +ℤ b -ℤ a) ↔ excess a ≤ w + excess b
  moved_low w = (
    λ h. omega (arith, le_parts (pos 0) (pos w +ℤ b -ℤ a) h, minus (pos w +ℤ b) a, plus (pos w) b, excess_parts a ha, excess_parts b hb),
    λ h. parts_le (pos 0) (pos w +ℤ b -ℤ a) (omega (arith, minus (pos w +ℤ b) a, plus (pos w) b, excess_parts a ha, excess_parts b hb)),
  )

  pub moved_high : (w x : ℕ) → (pos w +ℤ b -ℤ a) ≤ℤ pos x ↔ w + excess b ≤ x + excess a
  moved_high w x = (
    λ h. omega (arith, le_parts (pos w +ℤ b -ℤ a) (pos x) h, minus (pos w +ℤ b) a, plus (pos w) b, excess_parts a ha, excess_parts b hb),
    λ h. parts_le (pos w +ℤ b -ℤ a) (pos x) (omega (arith, minus (pos w +ℤ b) a, plus (pos w) b, excess_parts a ha, excess_parts b hb)),
  )

-- ---- the 16 bits x as an i16 (two's complement), and back
twos' : (x : ℕ) → x < 65536 → Dec (x < 32768) → to_z w16 x ≡ lag_of ((x + 32768) % 65536)
twos' x h (yes k) = to_z_pos w16 {n = x} k ∙ parts_eq (pos x) (lag_of ((x + 32768) % 65536)) (omega (arith, sub_parts ((x + 32768) % 65536) 32768))
twos' x h (no k) =
    let e : x ≡ 65536 - suc (65535 - x) = omega arith in
    ap (λ (n : ℕ). to_z w16 n) e
    ∙ to_z-neg w16 (65535 - x) (omega arith)
    ∙ parts_eq (negsuc (65535 - x)) (lag_of ((x + 32768) % 65536)) (omega (arith, sub_parts ((x + 32768) % 65536) 32768))

pub twos : (x : ℕ) → x < 65536 → to_z w16 x ≡ lag_of ((x + 32768) % 65536)
twos x h = twos' x h (dec_lt x 32768)

pub mag_bits : (x : ℕ) → x < 65536 → mag (to_z w16 x) < 32768
mag_bits x h = rw (twos x h) (mag_lag ((x + 32768) % 65536) (omega arith))

pub excess_bits : (x : ℕ) → x < 65536 → excess (to_z w16 x) ≡ (x + 32768) % 65536
excess_bits x h = rw (twos x h) (excess_lag ((x + 32768) % 65536) (omega arith))

-- the bits to write for an excess number
pub bits_lag : (e : ℕ) → e < 65536 → to_z w16 ((e + 32768) % 65536) ≡ lag_of e
bits_lag e h =
    let q : ((e + 32768) % 65536 + 32768) % 65536 ≡ e = omega arith in
    twos ((e + 32768) % 65536) (omega arith) ∙ ap lag_of q
