-- What a store does to the sum of a list.
-- Assumes nothing.
use Rattle.std.specs.Prelude.{◌≡◌, List, [], ◌∷◌, ℕ, zero, suc, ◌+◌, ◌<◌, length, get_or, set}
use Rattle.std.proofs.Common.{arith, not-suc-le-zero, le_of_suc-le-suc}
use Rattle.sheet.specs.Sum.{sum}

pub sum_set : (l : List ℕ) (i y : ℕ) → i < length l → sum (set l i y) + get_or l i 0 ≡ sum l + y
unfolding sum
sum_set [] i y h = absurd (not-suc-le-zero h)
sum_set (x ∷ xs) zero y h = omega arith
sum_set (x ∷ xs) (suc i) y h = omega (arith, sum_set xs i y (le_of_suc-le-suc h))
