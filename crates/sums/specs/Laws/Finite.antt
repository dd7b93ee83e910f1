-- Tests put together, and what they say when they pass.
-- Assumes nothing.
use Rattle.std.specs.Prelude.{◌≡◌, refl, Bool, true, false, cond, List, [], ◌∷◌, ℕ, zero, suc, ◌<◌, T, ℤ, ◌≤ℤ◌}
use Rattle.std.proofs.Common.{sym, subst, arith}
use Rattle.std.proofs.Math.Decide.{dec_lt}
use Rattle.std.specs.Float.Ieee.Fits.{and_l, and_r}
use Rattle.std.specs.Int.Signed.{le_z}
use Rattle.sheet.specs.Laws.Integer.{le_parts, parts_eq}
use Rattle.sums.specs.Test.{every, implies, all_below, some_below, same_z}

-- ---- each test of a list
abbrev pub Each : List Bool → Type 0
Each [] = Unit {0}
Each (b ∷ bs) = T b × Each bs

pub each : (bs : List Bool) → T (every bs) → Each bs
each [] t = tt
each (b ∷ bs) t = (and_l b (every bs) t, each bs (and_r b (every bs) t))

pub implied : (b x : Bool) → T (implies b x) → b ≡ true → T x
implied b x t e = subst (λ (a : Bool). T (implies a x)) e t

-- ---- at the numbers below n
pub all_below_lem : (n : ℕ) (f : ℕ → Bool) → T (all_below n f) → (k : ℕ) → k < n → T (f k)
all_below_lem zero f t k h = absurd (omega arith)
all_below_lem (suc n) f t k h =
    elim (dec_lt k n) [
      | yes l ↦ all_below_lem n f (and_r (f n) (all_below n f) t) k l
      | no l ↦ let e : n ≡ k = omega arith in subst (λ (i : ℕ). T (f i)) e (and_l (f n) (all_below n f) t)
    ]

pub some_below_lem : (n : ℕ) (f : ℕ → Bool) → T (some_below n f) → (k : ℕ) × (k < n) × T (f k)
some_below_lem zero f t = absurd t
some_below_lem (suc n) f t = go (f n) refl t (some_below_lem n f)
  where
    go : (b : Bool) → f n ≡ b → T (cond b true (some_below n f)) → (T (some_below n f) → (k : ℕ) × (k < n) × T (f k)) → (k : ℕ) × (k < suc n) × T (f k)
    go true e u rest = (n, omega arith, subst T (sym e) tt)
    go false e u rest = let q = rest u in (q.0, omega (arith, q.1), q.2)

-- ---- integers
pub le_told : (x y : ℤ) → T (le_z x y) → x ≤ℤ y
le_told x y t = record { le = t }

pub same_told : (x y : ℤ) → T (same_z x y) → x ≡ y
same_told x y t =
    parts_eq x y (omega (arith, le_parts x y (le_told x y (and_l (le_z x y) (le_z y x) t)), le_parts y x (le_told y x (and_r (le_z x y) (le_z y x) t))))
