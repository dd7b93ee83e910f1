-- The lists that a record gives after its sheet: entry k is the number in bytes 2k and 2k + 1, as far as the bytes go.
use Rattle.std.specs.Prelude.{◌≡◌, List, ℕ, ◌+◌, ◌*◌, ◌<◌, length, get_or}
use Rattle.records.specs.declared.lent.TheConstants.{LONGEST}

-- by what reads a number at a place; whatever is read past the end of the list
abbrev pub GivenBy : {A : Type 0} → (List ℕ → ℕ → A) → List ℕ → List A → Type 0
GivenBy {A} read more l = (k : ℕ) → k < LONGEST → 2 * k + 1 < length more → (past : A) → get_or l k past ≡ read more (2 * k)
