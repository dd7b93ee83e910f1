-- The records of a case file, byte by byte: second/README.md has the format.
use Rattle.std.specs.Prelude.{◌≡◌, List, ℕ, ◌+◌, ◌*◌, ◌<◌, ◌≤◌, ◌⊎◌, ◌==◌, ◌||◌, drop, cond, length, Result, MatchResult}
use Rattle.sheet.specs.Bytes.{u16_at}
use Rattle.records.specs.declared.lent.TheConstants.{LONGEST}
use Rattle.compare.specs.declared.record.BadRecord.{BadRecord}
use Rattle.compare.specs.declared.record.Question.{Question}
use Rattle.compare.specs.declared.record.Question.TheVariants.{Check, Period, Table, Move, Lags, Best, Loop}

abbrev pub code_of : Question → ℕ
code_of Check = 1
code_of Period = 2
code_of Table = 3
code_of Move = 4
code_of Lags = 5
code_of Best = 6
code_of Loop = 7

-- the question with this code, or none where no question has it
abbrev pub Decodes : ℕ → Result Question BadRecord → Type 0
Decodes code r = MatchResult r (λ question. code_of question ≡ code) (λ _. (code ≡ 0) ⊎ (7 < code))

-- how many bytes come after the sheet: the a lags of a move, the a words of a loop check
abbrev pub after_sheet : ℕ → ℕ → ℕ
after_sheet code a = cond ((code == 4) || (code == 7)) (2 * a) 0

-- the bytes from the record's sheet on, and those from after its sheet on
abbrev pub sheet_on : List ℕ → List ℕ
sheet_on bytes = drop 12 bytes

abbrev pub more_on : List ℕ → List ℕ
more_on bytes = drop (u16_at bytes 2) (sheet_on bytes)

-- a whole record lies at the start of the bytes
pub record Whole (bytes : List ℕ) : Type 0 where
  pub head : 12 ≤ length bytes
  pub code : (0 < u16_at bytes 0) × (u16_at bytes 0 ≤ 7)
  pub first : u16_at bytes 4 ≤ LONGEST
  pub second : u16_at bytes 6 ≤ LONGEST
  pub room : 12 + u16_at bytes 2 + after_sheet (u16_at bytes 0) (u16_at bytes 4) ≤ length bytes
