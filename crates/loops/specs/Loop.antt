-- The question: check a loop, for a sheet, a period c and a list of u16 words.
use Rattle.std.specs.Prelude.{List, [], ◌∷◌, ◌++◌, ℕ}
use Rattle.sheet.specs.Core.{core_of}
use Rattle.sheet.specs.Rules.{Rule, First, answer, refusal}
use Rattle.sheet.specs.Sheet.{frame_rules}
use Rattle.sheet.specs.declared.answer.Answer.{Answer}
use Rattle.paths.specs.Questions.{sound_rules}
use Rattle.loops.specs.Link.{ValidLoop}

-- 12: "loop check: the loop offered is not a valid one"; else "yes"
abbrev pub loop_after_frame : List ℕ → ℕ → List ℕ → List (Rule Answer)
loop_after_frame s c words = sound_rules s ++ (refusal (ValidLoop (core_of s) c words → ⊥) (answer 12 0 0) ∷ refusal Unit (answer 0 0 0) ∷ [])

abbrev pub LoopRight : List ℕ → ℕ → List ℕ → Answer → Type 0
LoopRight s c words a = First (frame_rules s ++ loop_after_frame s c words) a
