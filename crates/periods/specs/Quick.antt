-- The quick way to lags: what the descent found for a question, and what that says of the sheet.
use Rattle.std.specs.Prelude.{◌≡◌, List, ◌++◌, ℕ, ◌<◌, min, ℤ, length, get_or, Option, Some, None}
use Rattle.sheet.specs.Rules.{First, stage}
use Rattle.sheet.specs.Sheet.{frame_rules}
use Rattle.promises.specs.Questions.{LagsOutcome, lags_outcome}
use Rattle.sheet.specs.Lag.{lag_of}
use Rattle.sheet.specs.Core.{core_of}
use Rattle.descent.specs.System.{Keeps}
use Rattle.descent.specs.State.{AtRest}
use Rattle.descent.specs.Least.{LeastRest}
use Rattle.descent.specs.declared.rules.Rules.{Rules}
use Rattle.promises.specs.Lags.{Largest, Least}
use Rattle.refusals.specs.Solving.{Hopeless, after_frame_of}
use Rattle.refusals.specs.declared.Aim.{Aim}
use Rattle.refusals.specs.declared.Aim.TheVariants as A
use Rattle.periods.specs.declared.quick.Found.{Found}

-- on a table of keys. Periods from 1,048,575 on ask for no more than that one does: no path without a register is longer.
abbrev pub Sought : Rules → Aim → Option Found → Type 0
Sought g (A.At c) (Some f) = (f.value ≡ 0) × AtRest g (min c 1048575) f.lags
Sought g A.Least (Some f) = LeastRest g 1048575 f.value f.lags
Sought g (A.At c) None = Unit
Sought g A.Least None = (x : ℕ → ℕ) → Keeps g.keys.now g.lower.now g.upper.now 1048575 x → ⊥

-- lags that can be written out
pub record Lags (e : List ℕ) : Type 0 where
  pub long : length e ≡ 64
  pub small : (b : ℕ) → b < 64 → get_or e b 0 < 65536

-- on a sheet: the lags and the value answer the question, or there was nothing to find
abbrev pub Answers : List ℕ → Aim → Option Found → Type 0
Answers s (A.At c) (Some f) = Lags f.lags × Largest (core_of s) c (λ b. lag_of (get_or f.lags b 0)) × (f.value ≡ 0)
Answers s A.Least (Some f) = Lags f.lags × Largest (core_of s) f.value (λ b. lag_of (get_or f.lags b 0)) × Least (core_of s) f.value
Answers s aim None = Hopeless s aim

pub record Quick (s : List ℕ) (aim : Aim) (found : Option Found) : Type 0 where
  pub answers : Answers s aim found

-- both lag questions, by what is asked for: `LagsRight` or `BestRight`
abbrev pub LagsBy : List ℕ → Aim → List ℤ → List ℕ → LagsOutcome → Type 0
LagsBy s aim l w o = First (stage (λ a. lags_outcome a l w) (frame_rules s) ++ after_frame_of s aim l w) o
