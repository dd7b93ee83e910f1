-- The question path table: its promise, of the input, the lent lists before, and the outcome.
use Rattle.std.specs.Prelude.{◌≡◌, List, [], ◌∷◌, ◌++◌, ℕ, ◌*◌, length}
use Rattle.sheet.specs.Core.{blocks_in, registers_in, shape_of}
use Rattle.sheet.specs.Rules.{Rule, First, answer, stage}
use Rattle.sheet.specs.Sheet.{frame_rules}
use Rattle.sheet.specs.declared.answer.Answer.{Answer}
use Rattle.paths.specs.Table.{Table}
use Rattle.paths.specs.Questions.{sound_rules, room_rules, KeptFrom}

-- ---- path table: the answer, and both lent lists after it
pub record TableOutcome : Type 0 where
  pub says : Answer
  pub registers : List ℕ
  pub delays : List ℕ

abbrev pub table_outcome : Answer → List ℕ → List ℕ → TableOutcome
table_outcome a r d = record { says = a; registers = r; delays = d }

-- 01: "two tables of u32; row u holds n entries from entry u times n"
pub record TableDone (s r d : List ℕ) (o : TableOutcome) : Type 0 where
  pub says_done : o.says ≡ answer 0 0 0
  pub table : Table (shape_of s) (registers_in s) o.registers o.delays
  pub registers_kept : KeptFrom (blocks_in s * blocks_in s) r o.registers
  pub delays_kept : KeptFrom (blocks_in s * blocks_in s) d o.delays

-- 01: "Lists needed: path table, n² entries in each (registers first, delays second)"; "A refusal writes nothing"
abbrev pub table_after_frame : List ℕ → List ℕ → List ℕ → List (Rule TableOutcome)
table_after_frame s r d =
    stage (λ a. table_outcome a r d) (room_rules (length r) (blocks_in s * blocks_in s) (length d) (blocks_in s * blocks_in s))
    ++ (stage (λ a. table_outcome a r d) (sound_rules s)
    ++ (record { when = Unit; gives = TableDone s r d } ∷ []))

abbrev pub TableRight : List ℕ → List ℕ → List ℕ → TableOutcome → Type 0
TableRight s r d o = First (stage (λ a. table_outcome a r d) (frame_rules s) ++ table_after_frame s r d) o
