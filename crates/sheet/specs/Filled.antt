-- A list whose first n entries were stored anew: entry i is f i below n, and all else is as it was.
use Rattle.std.specs.Prelude.{List, ℕ, zero, suc, set}

unfoldable pub filled : {A : Type 0} → (ℕ → A) → ℕ → List A → List A
filled f zero l = l
filled f (suc n) l = set (filled f n l) n (f n)
