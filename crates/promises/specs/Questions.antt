-- The questions period as it stands, lags at period c and best period: each promise is one definition.
use Rattle.std.specs.Prelude.{◌≡◌, List, [], ◌∷◌, ◌++◌, ℕ, ◌+◌, ◌*◌, ◌≤◌, ℤ, length, get_or, take}
use Rattle.sheet.specs.Core.{blocks_in, registers_in, shape_of, core_of}
use Rattle.sheet.specs.Rules.{Rule, First, answer, stage}
use Rattle.sheet.specs.Sheet.{frame_rules}
use Rattle.sheet.specs.declared.answer.Answer.{Answer}
use Rattle.paths.specs.Table.{Period}
use Rattle.paths.specs.Questions.{sound_rules, room_rules, KeptFrom}
use Rattle.moves.specs.Lags.{lags_in}
use Rattle.promises.specs.Lags.{Largest, Least, NonePermitted, NoneMeets, LoopGiven, PlainLoop, LagsKeptFrom}

-- 01: "With answer 0 the value is the period"
abbrev pub PeriodDone : List ℕ → Answer → Type 0
PeriodDone s a = (p : ℕ) × Period (shape_of s) (registers_in s) p × (a ≡ answer 0 0 p)

abbrev pub PeriodRight : List ℕ → Answer → Type 0
PeriodRight s a = First (frame_rules s ++ (sound_rules s ++ (record { when = Unit; gives = PeriodDone s } ∷ []))) a

-- ---- lags at period c, and best period: the answer, and both lent lists after it
pub record LagsOutcome : Type 0 where
  pub says : Answer
  pub lags : List ℤ
  pub words : List ℕ

abbrev pub lags_outcome : Answer → List ℤ → List ℕ → LagsOutcome
lags_outcome a l w = record { says = a; lags = l; words = w }

-- 01: "the two lag questions, n lags (i16), then n(n + 2) words (u16) for a loop"
abbrev pub words_needed : ℕ → ℕ
words_needed n = n * (n + 2)

-- the first n lags are the largest that meet p; "the loop list [is unchanged] by answer 0"
pub record LagsDone (s : List ℕ) (p value : ℕ) (l : List ℤ) (w : List ℕ) (o : LagsOutcome) : Type 0 where
  pub says_done : o.says ≡ answer 0 0 value
  pub largest : Largest (core_of s) p (lags_in o.lags)
  pub lags_kept : LagsKeptFrom (blocks_in s) l o.lags
  pub words_kept : o.words ≡ w

-- 01: "10 and 11 write a loop and return its word count"; "a lag list is unchanged by 10 and 11"; "Of the loop list only the counted words are written."
pub record LagsRefused (s : List ℕ) (number : ℕ) (Loop : List ℕ → Type 0) (l : List ℤ) (w : List ℕ) (o : LagsOutcome) : Type 0 where
  pub count : ℕ
  pub says_refused : o.says ≡ answer number 0 count
  pub loop : Loop (take count o.words)
  pub few : count ≤ words_needed (blocks_in s)
  pub words_kept : KeptFrom count w o.words
  pub lags_kept : o.lags ≡ l

-- 10: "the two lag questions: no permitted lags exist"
abbrev pub none_rule : List ℕ → List ℤ → List ℕ → Rule LagsOutcome
none_rule s l w = record { when = NonePermitted (core_of s); gives = LagsRefused s 10 (PlainLoop (core_of s)) l w }

-- 11: "lags at period c: permitted lags exist, none meets c"
abbrev pub slow_rule : List ℕ → ℕ → List ℤ → List ℕ → Rule LagsOutcome
slow_rule s c l w = record { when = NoneMeets (core_of s) c; gives = LagsRefused s 11 (LoopGiven (core_of s) c) l w }

abbrev pub lag_room : List ℕ → List ℤ → List ℕ → List (Rule Answer)
lag_room s l w = room_rules (length l) (blocks_in s) (length w) (words_needed (blocks_in s))

abbrev pub lags_last : List ℕ → ℕ → List ℤ → List ℕ → List (Rule LagsOutcome)
lags_last s c l w = none_rule s l w ∷ slow_rule s c l w ∷ record { when = Unit; gives = LagsDone s c 0 l w } ∷ []

abbrev pub lags_after_frame : List ℕ → ℕ → List ℤ → List ℕ → List (Rule LagsOutcome)
lags_after_frame s c l w = stage (λ a. lags_outcome a l w) (lag_room s l w) ++ (stage (λ a. lags_outcome a l w) (sound_rules s) ++ lags_last s c l w)

abbrev pub LagsRight : List ℕ → ℕ → List ℤ → List ℕ → LagsOutcome → Type 0
LagsRight s c l w o = First (stage (λ a. lags_outcome a l w) (frame_rules s) ++ lags_after_frame s c l w) o

-- 01: "the least period met by permitted lags, and the largest lags that meet it"; the value is that period
pub record BestDone (s : List ℕ) (l : List ℤ) (w : List ℕ) (o : LagsOutcome) : Type 0 where
  pub period : ℕ
  pub least : Least (core_of s) period
  pub done : LagsDone s period period l w o

abbrev pub best_last : List ℕ → List ℤ → List ℕ → List (Rule LagsOutcome)
best_last s l w = none_rule s l w ∷ record { when = Unit; gives = BestDone s l w } ∷ []

abbrev pub best_after_frame : List ℕ → List ℤ → List ℕ → List (Rule LagsOutcome)
best_after_frame s l w = stage (λ a. lags_outcome a l w) (lag_room s l w) ++ (stage (λ a. lags_outcome a l w) (sound_rules s) ++ best_last s l w)

abbrev pub BestRight : List ℕ → List ℤ → List ℕ → LagsOutcome → Type 0
BestRight s l w o = First (stage (λ a. lags_outcome a l w) (frame_rules s) ++ best_after_frame s l w) o

-- ---- how far two right outcomes agree. 01: "The one listed exception [..] is which valid loop, with its word count, accompanies 10 or 11."
pub record Alike (o p : LagsOutcome) : Type 0 where
  pub number_same : o.says.number ≡ p.says.number
  pub place_same : o.says.place ≡ p.says.place
  pub lags_same : o.lags ≡ p.lags
  pub words_long : length o.words ≡ length p.words
  -- past the words that both count
  pub words_past : (i : ℕ) → o.says.value ≤ i → p.says.value ≤ i → get_or o.words i 0 ≡ get_or p.words i 0
  -- unless the number is 10 or 11
  pub else_same : (o.says.number ≡ 10 → ⊥) → (o.says.number ≡ 11 → ⊥) → o ≡ p
