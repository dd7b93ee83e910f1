-- The order of refusals. 01: "They are tried in the order 1 to 12; the first that applies is given."
-- One definition for every question: an outcome is the answer together with every lent list after it.
use Rattle.std.specs.Prelude.{◌≡◌, ◌⊎◌, Bool, true, false, List, [], ◌∷◌, map, ℕ, ◌<◌, ◌≤◌, Result, Ok, Err}
use Rattle.sheet.specs.declared.answer.Answer.{Answer}
use Rattle.sheet.specs.declared.refusal.Refusal.{Refusal}
use Rattle.sheet.specs.declared.refusal.Refusal.TheVariants as R

abbrev pub answer : ℕ → ℕ → ℕ → Answer
answer k p v = record { number = k; place = p; value = v }

-- 01's number, place and value for each refusal. 01: "A refusal's value is 0, except the word count with 10 and 11."
abbrev pub refusal_answer : Refusal → Answer
refusal_answer R.Short = answer 1 0 0
refusal_answer R.Counts = answer 2 0 0
refusal_answer R.Offsets = answer 3 0 0
refusal_answer R.FirstList = answer 4 0 0
refusal_answer R.SecondList = answer 4 1 0
refusal_answer (R.Block b) = answer 5 b 0
refusal_answer (R.Wire j) = answer 6 j 0
refusal_answer (R.Loop b) = answer 7 b 0
refusal_answer (R.Lag b) = answer 8 b 0
refusal_answer (R.Registers j) = answer 9 j 0
refusal_answer (R.NoLags words) = answer 10 0 words
refusal_answer (R.NoLagsAt words) = answer 11 0 words
refusal_answer R.NoProof = answer 12 0 0

-- 01: "With answer 0 the value is the period in the two questions that give one, else 0."
abbrev pub said : Result ℕ Refusal → Answer
said (Ok value) = answer 0 0 value
said (Err r) = refusal_answer r

-- when a rule applies, and which outcomes it allows
pub record Rule (A : Type 0) : Type 1 where
  pub when : Type 0
  pub gives : A → Type 0

module _ {A : Type 0} where
  -- the first rule that applies allows the outcome o
  abbrev pub First : List (Rule A) → A → Type 0
  First [] o = ⊥
  First (r ∷ rs) o = (r.when × r.gives o) ⊎ ((r.when → ⊥) × First rs o)

  -- no rule applies
  abbrev pub None : List (Rule A) → Type 0
  None [] = Unit
  None (r ∷ rs) = (r.when → ⊥) × None rs

  -- any two outcomes that one rule allows are alike, in the sense of `Like`; with `◌≡◌` the rules are exact
  abbrev pub Tight : (A → A → Type 0) → List (Rule A) → Type 0
  Tight Like [] = Unit
  Tight Like (r ∷ rs) = ((o p : A) → r.gives o → r.gives p → Like o p) × Tight Like rs

  abbrev pub Exact : List (Rule A) → Type 0
  Exact rs = Tight ◌≡◌ rs

  -- an answer's rule in a question: `keep a` is the answer a with every lent list as it was
  abbrev pub kept : (Answer → A) → Rule Answer → Rule A
  kept keep r = record { when = r.when; gives = λ o. (a : Answer) × r.gives a × (o ≡ keep a) }

  abbrev pub stage : (Answer → A) → List (Rule Answer) → List (Rule A)
  stage keep rs = map (kept keep) rs

-- a refusal that names no place
abbrev pub refusal : Type 0 → Answer → Rule Answer
refusal w a = record { when = w; gives = λ b. b ≡ a }

-- the first index below m with the property P, or m where there is none
pub record FirstOf (P : ℕ → Type 0) (m r : ℕ) : Type 0 where
  pub within : r ≤ m
  pub before : (k : ℕ) → k < r → P k → ⊥
  pub found : r < m → P r

-- a refusal at the first index below m with the property P: `says r` is the answer for the place r
abbrev pub first_place : (ℕ → Type 0) → ℕ → (ℕ → Answer) → Rule Answer
first_place P m says = record {
  when = (k : ℕ) × (k < m) × P k;
  gives = λ a. (r : ℕ) × FirstOf P m r × (r < m) × (a ≡ says r);
}

-- what a stage of a question says: it refuses by its first rule that applies, or none applies
abbrev pub Staged : {T : Type 0} → List (Rule Answer) → Result T Refusal → Type 0
Staged rs (Ok x) = None rs
Staged rs (Err r) = First rs (refusal_answer r)

-- what a test says of a fact
abbrev pub Told : Type 0 → Bool → Type 0
Told P true = P
Told P false = P → ⊥
