-- What reading and writing numbers in a list of bytes comes to.
-- Assumes nothing.
use Rattle.std.specs.Prelude.{◌≡◌, List, ◌⊎◌, ℕ, ◌+◌, ◌/◌, ◌%◌, ◌<◌, length, get_or, set}
use Rattle.std.proofs.Common.{◌∙◌, inl, inr, arith, length-set, get_or-set_same, get_or-set_other}
use Rattle.std.proofs.Math.Decide.{ℕ_discrete, dec_lt}
use Rattle.std.proofs.Math.Seq.{set_out}
use Rattle.sheet.specs.Bytes.{Bytes, u16_at, u32_at, put16}

pub u16_below : (s : List ℕ) (at : ℕ) → Bytes s → u16_at s at < 65536
u16_below s at h = omega (arith, h.below at, h.below (at + 1))

pub u32_below : (s : List ℕ) (at : ℕ) → Bytes s → u32_at s at < 4294967296
u32_below s at h = omega (arith, u16_below s at h, u16_below s (at + 2) h)

pub length_put16 : (s : List ℕ) (at x : ℕ) → length (put16 s at x) ≡ length s
length_put16 s at x = length-set (set s at (x % 256)) (at + 1) (x / 256) ∙ length-set s at (x % 256)

-- ---- bytes one by one
module _ (s : List ℕ) (at x : ℕ) where
  pub put16_low : at + 1 < length s → get_or (put16 s at x) at 0 ≡ x % 256
  put16_low h =
      get_or-set_other (set s at (x % 256)) (at + 1) at (x / 256) 0 (λ e. omega arith)
      ∙ get_or-set_same s at (x % 256) 0 (omega arith)

  pub put16_high : at + 1 < length s → get_or (put16 s at x) (at + 1) 0 ≡ x / 256
  put16_high h = get_or-set_same (set s at (x % 256)) (at + 1) (x / 256) 0 (omega (arith, length-set s at (x % 256)))

  pub put16_other : (k : ℕ) → (k ≡ at → ⊥) → (k ≡ at + 1 → ⊥) → get_or (put16 s at x) k 0 ≡ get_or s k 0
  put16_other k p q = get_or-set_other (set s at (x % 256)) (at + 1) k (x / 256) 0 q ∙ get_or-set_other s at k (x % 256) 0 p

  -- what was written is read back
  pub put16_read : at + 1 < length s → u16_at (put16 s at x) at ≡ x
  put16_read h = omega (arith, put16_low h, put16_high h)

  -- every other number is as it was
  pub put16_apart : (k : ℕ) → (k + 1 < at) ⊎ (at + 1 < k) → u16_at (put16 s at x) k ≡ u16_at s k
  put16_apart k (inl h) = omega (arith, put16_other k (λ e. omega arith) (λ e. omega arith), put16_other (k + 1) (λ e. omega arith) (λ e. omega arith))
  put16_apart k (inr h) = omega (arith, put16_other k (λ e. omega arith) (λ e. omega arith), put16_other (k + 1) (λ e. omega arith) (λ e. omega arith))

-- ---- bytes stay bytes
below_set : (l : List ℕ) (i y k : ℕ) → y < 256 → get_or l k 0 < 256 → Dec (k ≡ i) → Dec (i < length l) → get_or (set l i y) k 0 < 256
below_set l i y k h g (yes e) (yes b) = rw (e, get_or-set_same l i y 0 b) h
below_set l i y k h g (yes e) (no b) = rw (set_out l i y (omega arith)) g
below_set l i y k h g (no e) (yes b) = rw (get_or-set_other l i k y 0 e) g
below_set l i y k h g (no e) (no b) = rw (get_or-set_other l i k y 0 e) g

pub bytes_set : (l : List ℕ) (i y : ℕ) → y < 256 → Bytes l → Bytes (set l i y)
bytes_set l i y h g = record { below = λ k. below_set l i y k h (g.below k) (ℕ_discrete k i) (dec_lt i (length l)) }

pub bytes_put16 : (s : List ℕ) (at x : ℕ) → x < 65536 → Bytes s → Bytes (put16 s at x)
bytes_put16 s at x h g = bytes_set (set s at (x % 256)) (at + 1) (x / 256) (omega arith) (bytes_set s at (x % 256) (omega arith) g)
