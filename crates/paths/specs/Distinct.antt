-- A list of numbers none of which stands in it twice.
use Rattle.std.specs.Prelude.{◌≢◌, List, [], ◌∷◌, ℕ}

abbrev pub NotIn : ℕ → List ℕ → Type 0
NotIn x [] = Unit {0}
NotIn x (y ∷ ys) = (x ≢ y) × NotIn x ys

abbrev pub NoDup : List ℕ → Type 0
NoDup [] = Unit {0}
NoDup (x ∷ xs) = NotIn x xs × NoDup xs
