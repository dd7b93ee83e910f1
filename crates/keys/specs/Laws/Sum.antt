-- The sum of a table of keys is bounded.
-- Assumes nothing.
use Rattle.std.specs.Prelude.{List, [], ◌∷◌, ℕ, suc, ◌*◌, ◌≤◌, ◌<◌, length, get_or}
use Rattle.std.proofs.Common.{arith}
use Rattle.sheet.specs.Sum.{sum}

pub sum_most : (l : List ℕ) → ((i : ℕ) → i < length l → get_or l i 0 ≤ 2099249152) → sum l ≤ 2099249152 * length l
unfolding sum
sum_most [] h = omega arith
sum_most (x ∷ xs) h = omega (arith, h 0 (omega arith), sum_most xs (λ i l. h (suc i) (omega (arith, l))))
