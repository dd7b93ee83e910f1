-- The solver at work on a sheet: where it may start, where it rests, and what one run of it gives.
use Rattle.std.specs.Prelude.{◌≡◌, Result, Ok, Err, List, ◌++◌, ℤ, ℕ}
use Rattle.sheet.specs.Core.{core_of}
use Rattle.sheet.specs.Rules.{Rule, stage}
use Rattle.paths.specs.Questions.{sound_rules}
use Rattle.promises.specs.Lags.{NonePermitted}
use Rattle.promises.specs.Questions.{LagsOutcome, lags_outcome, lag_room, lags_last, best_last}
use Rattle.refusals.specs.declared.Aim.{Aim}
use Rattle.refusals.specs.declared.Aim.TheVariants as A
use Rattle.solver.specs.declared.Given.{Given}
use Rattle.solver.specs.declared.Standing.{Standing}
use Rattle.solver.specs.State.{State, AllHold}
use Rattle.witness.specs.Stands.{Stands}
use Rattle.witness.specs.Written.{LoopWritten}

-- the solver stands somewhere on the sheet s
pub record Solving (s : List ℕ) (g : Given) (t : Standing) : Type 0 where
  pub stands : Stands s g
  pub state : State g t

-- and all rules hold
pub record Resting (s : List ℕ) (g : Given) (t : Standing) : Type 0 where
  pub solving : Solving s g t
  pub rest : AllHold g t.lags

-- a run of the solver comes to rest, or a loop of so many words was written
abbrev pub Ran : List ℕ → Given → Standing → List ℕ → List ℕ → Result (Unit {0}) ℕ → Type 0
Ran s g t w w' (Ok rest) = Resting s g t × (w' ≡ w)
Ran s g t w w' (Err count) = LoopWritten (core_of s) g.period w w' count

pub record Solved (s : List ℕ) (g : Given) (t : Standing) (w w' : List ℕ) (r : Result (Unit {0}) ℕ) : Type 0 where
  pub ran : Ran s g t w w' r

-- ---- both lag questions at once: what is asked for tells the last rules
abbrev pub last_of : List ℕ → Aim → List ℤ → List ℕ → List (Rule LagsOutcome)
last_of s (A.At c) l w = lags_last s c l w
last_of s A.Least l w = best_last s l w

abbrev pub after_frame_of : List ℕ → Aim → List ℤ → List ℕ → List (Rule LagsOutcome)
after_frame_of s aim l w = stage (λ a. lags_outcome a l w) (lag_room s l w) ++ (stage (λ a. lags_outcome a l w) (sound_rules s) ++ last_of s aim l w)

-- where nothing was found: the best period has no permitted lags to look among; lags at a period are looked for once more
abbrev pub Hopeless : List ℕ → Aim → Type 0
Hopeless s (A.At c) = Unit
Hopeless s A.Least = NonePermitted (core_of s)
