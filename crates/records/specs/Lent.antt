-- What a lent list holds where nothing has been written since before the call.
use Rattle.std.specs.Prelude.{◌≡◌, List, ℕ, ◌+◌, ◌*◌, ◌%◌, ◌<◌, ◌≤◌, get_or, ℤ, pos}
use Rattle.sheet.specs.Lag.{excess, lag_of}
use Rattle.records.specs.declared.lent.TheConstants.{LONGEST}

-- Entry k of a lent list of u32: no table has a number as large.
abbrev pub entry_before : ℕ → ℕ
entry_before k = 3000000000 + k

-- Byte k of a lent sheet: 256 bytes in a row all differ.
abbrev pub byte_before : ℕ → ℕ
byte_before k = (7 * k + 3) % 256

-- Entry k of a lent loop list: blocks, wires, kinds and counts of a loop are all smaller.
abbrev pub word_before : ℕ → ℕ
word_before k = 50000 + k

-- Entry k of a lent lag list, as an excess number: the lag 20,000 + k is in no range.
abbrev pub excess_before : ℕ → ℕ
excess_before k = 52768 + k

-- the lag itself
abbrev pub lag_before : ℕ → ℤ
lag_before k = lag_of (excess_before k)

-- entry k is what it was before the call, whatever is read past the end of the list
abbrev pub AsBefore : {A : Type 0} → (ℕ → A) → List A → ℕ → Type 0
AsBefore {A} before l k = (past : A) → get_or l k past ≡ before k

abbrev pub KeptFrom : {A : Type 0} → (ℕ → A) → ℕ → List A → Type 0
KeptFrom before first l = (k : ℕ) → first ≤ k → k < LONGEST → AsBefore before l k

abbrev pub LagsKeptFrom : ℕ → List ℤ → Type 0
LagsKeptFrom first l = (k : ℕ) → first ≤ k → k < LONGEST → excess (get_or l k (pos 0)) ≡ excess_before k
