-- The moved sheet, byte for byte, and the question move.
use Rattle.std.specs.Prelude.{◌≡◌, List, [], ◌∷◌, ◌++◌, ℕ, ◌+◌, ◌<◌, ℤ, ◌-ℤ◌, length, get_or, take}
use Rattle.sheet.specs.Bytes.{Bytes}
use Rattle.sheet.specs.Core.{core_of, blocks_in, wires_in, block_at, wire_at, lower_in, upper_in, registers_in}
use Rattle.sheet.specs.Rules.{Rule, First, answer, first_place, stage}
use Rattle.sheet.specs.Sheet.{frame_rules}
use Rattle.sheet.specs.declared.answer.Answer.{Answer}
use Rattle.paths.specs.Questions.{sound_rules, room_rules, KeptFrom}
use Rattle.moves.specs.Lags.{lags_in, InRange, Fits, MovedTo}

-- the k bytes from a place on are the same in both
abbrev pub Copied : List ℕ → List ℕ → ℕ → ℕ → Type 0
Copied s t at k = (i : ℕ) → i < k → get_or t (at + i) 0 ≡ get_or s (at + i) 0

-- 01: "the moved sheet: registers by the move rule, both lag limits of each block less its lag, all else copied"
pub record MovedSheet (s : List ℕ) (r : ℕ → ℤ) (t : List ℕ) : Type 0 where
  pub bytes : Bytes t
  pub long : length t ≡ length s
  pub header : Copied s t 0 16
  pub delay : (b : ℕ) → b < blocks_in s → Copied s t (block_at b) 4
  pub lower_is : (b : ℕ) → b < blocks_in s → lower_in t b ≡ lower_in s b -ℤ r b
  pub upper_is : (b : ℕ) → b < blocks_in s → upper_in t b ≡ upper_in s b -ℤ r b
  pub ends : (j : ℕ) → j < wires_in s → Copied s t (wire_at (blocks_in s) j) 4
  pub registers_is : MovedTo (core_of s) r (registers_in t)
  pub spare : (j : ℕ) → j < wires_in s → Copied s t (wire_at (blocks_in s) j + 6) 2

-- ---- the question: the answer, and the lent sheet after it
pub record MoveOutcome : Type 0 where
  pub says : Answer
  pub moved : List ℕ

abbrev pub move_outcome : Answer → List ℕ → MoveOutcome
move_outcome a l = record { says = a; moved = l }

-- 8: "move: a lag outside its range", place "first such block"; 9: "move: a wire would leave 0 to 2,000", place "first such wire"
abbrev pub range_rules : List ℕ → (ℕ → ℤ) → List (Rule Answer)
range_rules s r = first_place (λ b. InRange (core_of s) r b → ⊥) (blocks_in s) (λ b. answer 8 b 0) ∷ []

abbrev pub fit_rules : List ℕ → (ℕ → ℤ) → List (Rule Answer)
fit_rules s r = first_place (λ j. Fits (core_of s) r j → ⊥) (wires_in s) (λ j. answer 9 j 0) ∷ []

abbrev pub lag_rules : List ℕ → (ℕ → ℤ) → List (Rule Answer)
lag_rules s r = range_rules s r ++ fit_rules s r

-- the first bytes of the lent list are the moved sheet, and all past them is as it was
pub record MoveDone (s : List ℕ) (r : ℕ → ℤ) (l : List ℕ) (o : MoveOutcome) : Type 0 where
  pub says_done : o.says ≡ answer 0 0 0
  pub moved_sheet : MovedSheet s r (take (length s) o.moved)
  pub rest : KeptFrom (length s) l o.moved

-- 01: "Lists needed: move, n lags (further ones are not read), then the sheet's length"
abbrev pub move_after_frame : List ℕ → List ℤ → List ℕ → List (Rule MoveOutcome)
move_after_frame s lags l =
    stage (λ a. move_outcome a l) (room_rules (length lags) (blocks_in s) (length l) (length s))
    ++ (stage (λ a. move_outcome a l) (sound_rules s)
    ++ (stage (λ a. move_outcome a l) (lag_rules s (lags_in lags))
    ++ (record { when = Unit; gives = MoveDone s (lags_in lags) l } ∷ [])))

abbrev pub MoveRight : List ℕ → List ℤ → List ℕ → MoveOutcome → Type 0
MoveRight s lags l o = First (stage (λ a. move_outcome a l) (frame_rules s) ++ move_after_frame s lags l) o
