-- Two outcomes that conform are alike; stages one after another; first places are unique.
-- Assumes nothing.
use Rattle.std.specs.Prelude.{◌≡◌, refl, ◌⊎◌, List, [], ◌∷◌, ◌++◌, Bool, true, false, ℕ, ◌<◌, ◌≤◌, Result, Ok, Err}
use Rattle.std.proofs.Common.{sym, ap, ◌∙◌, subst, inl, inr, arith}
use Rattle.std.proofs.Math.Decide.{dec_lt}
use Rattle.sheet.specs.Rules.{Rule, First, None, Tight, Exact, stage, FirstOf, first_place, Staged, Told, refusal_answer}
use Rattle.sheet.specs.declared.answer.Answer.{Answer}
use Rattle.sheet.specs.declared.refusal.Refusal.{Refusal}

module _ {A : Type 0} (Like : A → A → Type 0) where
  -- agreement: with `Like` as equality the outcomes are one, else they are as alike as the rules hold them
  pub agree : (rs : List (Rule A)) → Tight Like rs → (o p : A) → First rs o → First rs p → Like o p
  agree [] t o p f g = absurd f
  agree (r ∷ rs) t o p (inl f) (inl g) = t.0 o p f.1 g.1
  agree (r ∷ rs) t o p (inl f) (inr g) = absurd (g.0 f.0)
  agree (r ∷ rs) t o p (inr f) (inl g) = absurd (f.0 g.0)
  agree (r ∷ rs) t o p (inr f) (inr g) = agree rs t.1 o p f.1 g.1

  pub tight_both : (rs ts : List (Rule A)) → Tight Like rs → Tight Like ts → Tight Like (rs ++ ts)
  tight_both [] ts t u = u
  tight_both (r ∷ rs) ts t u = (t.0, tight_both rs ts t.1 u)

  -- exact rules are as tight as any likeness that each outcome has with itself
  pub exact_tight : ((o : A) → Like o o) → (rs : List (Rule A)) → Exact rs → Tight Like rs
  exact_tight same [] e = tt
  exact_tight same (r ∷ rs) e = (λ o p f g. subst (Like o) (e.0 o p f g) (same o), exact_tight same rs e.1)

module _ {A : Type 0} where
  -- ---- one stage after another
  pub first_left : (rs ts : List (Rule A)) (o : A) → First rs o → First (rs ++ ts) o
  first_left [] ts o f = absurd f
  first_left (r ∷ rs) ts o (inl f) = inl f
  first_left (r ∷ rs) ts o (inr f) = inr (f.0, first_left rs ts o f.1)

  pub first_right : (rs ts : List (Rule A)) (o : A) → None rs → First ts o → First (rs ++ ts) o
  first_right [] ts o n f = f
  first_right (r ∷ rs) ts o n f = inr (n.0, first_right rs ts o n.1 f)

  pub none_both : (rs ts : List (Rule A)) → None rs → None ts → None (rs ++ ts)
  none_both [] ts n k = k
  none_both (r ∷ rs) ts n k = (n.0, none_both rs ts n.1 k)

  pub none_left : (rs ts : List (Rule A)) → None (rs ++ ts) → None rs
  none_left [] ts n = tt
  none_left (r ∷ rs) ts n = (n.0, none_left rs ts n.1)

  pub none_right : (rs ts : List (Rule A)) → None (rs ++ ts) → None ts
  none_right [] ts n = n
  none_right (r ∷ rs) ts n = none_right rs ts n.1

  -- rules of which none applies are passed over
  pub skip : (rs ts : List (Rule A)) (o : A) → None rs → First (rs ++ ts) o → First ts o
  skip [] ts o n f = f
  skip (r ∷ rs) ts o n (inl f) = absurd (n.0 f.0)
  skip (r ∷ rs) ts o n (inr f) = skip rs ts o n.1 f.1

  -- ---- a stage of answers as a stage of a question
  module _ (keep : Answer → A) where
    pub stage_exact : (rs : List (Rule Answer)) → Exact rs → Exact (stage keep rs)
    stage_exact [] e = tt
    stage_exact (r ∷ rs) e = (λ o p f g. f.2 ∙ ap keep (e.0 f.0 g.0 f.1 g.1) ∙ sym g.2, stage_exact rs e.1)

    stage_first : (rs : List (Rule Answer)) (a : Answer) → First rs a → First (stage keep rs) (keep a)
    stage_first [] a f = absurd f
    stage_first (r ∷ rs) a (inl f) = inl (f.0, (a, f.1, refl))
    stage_first (r ∷ rs) a (inr f) = inr (f.0, stage_first rs a f.1)

    stage_none : (rs : List (Rule Answer)) → None rs → None (stage keep rs)
    stage_none [] n = tt
    stage_none (r ∷ rs) n = (n.0, stage_none rs n.1)

    -- a question ends at a stage that refuses, and goes on after one that passes
    pub ends : (rs : List (Rule Answer)) (ts : List (Rule A)) (a : Answer) → First rs a → First (stage keep rs ++ ts) (keep a)
    ends rs ts a f = first_left (stage keep rs) ts (keep a) (stage_first rs a f)

    pub goes_on : (rs : List (Rule Answer)) (ts : List (Rule A)) (o : A) → None rs → First ts o → First (stage keep rs ++ ts) o
    goes_on rs ts o n f = first_right (stage keep rs) ts o (stage_none rs n) f

-- a stage of which no rule applies is passed over
pub skip_stage : {A : Type 0} (keep : Answer → A) (rs : List (Rule Answer)) (ts : List (Rule A)) (o : A) → None rs → First (stage keep rs ++ ts) o → First ts o
skip_stage keep rs ts o n f = skip (stage keep rs) ts o (stage_none keep rs n) f

-- a question ended at a stage, or none of its rules applied
pub unstage : {A : Type 0} (keep : Answer → A) (says : A → Answer) → ((a : Answer) → says (keep a) ≡ a) → (rs : List (Rule Answer)) (ts : List (Rule A)) (o : A)
    → First (stage keep rs ++ ts) o → First rs (says o) ⊎ (None rs × First ts o)
unstage keep says back [] ts o f = inr (tt, f)
unstage keep says back (r ∷ rs) ts o (inl f) =
    let e : says o ≡ f.1.0 = ap says f.1.2 ∙ back f.1.0 in
    inl (inl (f.0, subst r.gives (sym e) f.1.1))
unstage keep says back (r ∷ rs) ts o (inr f) = go (unstage keep says back rs ts o f.1)
  where
    go : First rs (says o) ⊎ (None rs × First ts o) → First (r ∷ rs) (says o) ⊎ (None (r ∷ rs) × First ts o)
    go (inl g) = inl (inr (f.0, g))
    go (inr g) = inr ((f.0, g.0), g.1)

-- what a stage's result says once its case is known
module _ {T : Type 0} (rs : List (Rule Answer)) (o : Result T Refusal) where
  pub refused : (r : Refusal) → Staged rs o → o ≡ Err r → First rs (refusal_answer r)
  refused r h e = subst (Staged rs) e h

  pub passed : (x : T) → Staged rs o → o ≡ Ok x → None rs
  passed x h e = subst (Staged rs) e h

-- ---- first places
module _ (P : ℕ → Type 0) (m : ℕ) where
  pub first_unique : (r q : ℕ) → FirstOf P m r → FirstOf P m q → r ≡ q
  first_unique r q f g =
      elim (dec_lt r q) [
        | yes h ↦ absurd (g.before r h (f.found (omega (arith, g.within))))
        | no h ↦ elim (dec_lt q r) [ yes k ↦ absurd (f.before q k (g.found (omega (arith, f.within)))) | no k ↦ omega arith ]
      ]

  -- a search in order: it stops at the first such index, or it has passed all
  pub search_stops : (r : ℕ) → r < m → ((k : ℕ) → k < r → P k → ⊥) → P r → FirstOf P m r
  search_stops r h before found = record { within = omega arith; before = before; found = λ _. found }

  pub search_ends : (r : ℕ) → m ≤ r → ((k : ℕ) → k < r → P k → ⊥) → FirstOf P m m
  search_ends r h before = record { within = omega arith; before = λ k g. before k (omega arith); found = λ g. absurd (omega arith) }

  module _ (says : ℕ → Answer) where
    pub place_exact : (a b : Answer) → (first_place P m says).gives a → (first_place P m says).gives b → a ≡ b
    place_exact a b f g = f.3 ∙ ap says (first_unique f.0 g.0 f.1 g.1) ∙ sym g.3

    -- a search that ended at r below m, and one that ended at m
    pub place_found : (r : ℕ) → FirstOf P m r → r < m → (first_place P m says).when × (first_place P m says).gives (says r)
    place_found r f h = ((r, h, f.found h), (r, f, h, refl))

    pub place_none : (r : ℕ) → FirstOf P m r → m ≤ r → (first_place P m says).when → ⊥
    place_none r f h w = f.before w.0 (omega (arith, w.1)) w.2

pub refusal_exact : (c a b : Answer) → a ≡ c → b ≡ c → a ≡ b
refusal_exact c a b f g = f ∙ sym g

-- what a test says once it is known
pub told_true : (P : Type 0) (b : Bool) → Told P b → b ≡ true → P
told_true P b h e = subst (Told P) e h

pub told_false : (P : Type 0) (b : Bool) → Told P b → b ≡ false → P → ⊥
told_false P b h e = subst (Told P) e h

-- a later stage after rules of which none applies
pub staged_after : {T : Type 0} (rs ts : List (Rule Answer)) (o : Result T Refusal) → None rs → Staged ts o → Staged (rs ++ ts) o
staged_after rs ts (Ok x) n h = none_both rs ts n h
staged_after rs ts (Err r) n h = first_right rs ts (refusal_answer r) n h

-- ---- an answer 0 comes from none of the refusals
abbrev pub NonZero : List (Rule Answer) → Type 0
NonZero [] = Unit {0}
NonZero (r ∷ rs) = ((a : Answer) → r.gives a → a.number ≡ 0 → ⊥) × NonZero rs

pub nonzero_both : (rs ts : List (Rule Answer)) → NonZero rs → NonZero ts → NonZero (rs ++ ts)
nonzero_both [] ts n k = k
nonzero_both (r ∷ rs) ts n k = (n.0, nonzero_both rs ts n.1 k)

pub past : (rs ts : List (Rule Answer)) (a : Answer) → NonZero rs → a.number ≡ 0 → First (rs ++ ts) a → None rs × First ts a
past [] ts a n z f = (tt, f)
past (r ∷ rs) ts a n z (inl f) = absurd (n.0 a f.1 z)
past (r ∷ rs) ts a n z (inr f) = let q = past rs ts a n.1 z f.1 in ((f.0, q.0), q.1)

module _ {A : Type 0} (keep : Answer → A) (says : A → Answer) (back : (a : Answer) → says (keep a) ≡ a) where
  pub past_stage : (rs : List (Rule Answer)) (ts : List (Rule A)) (o : A) → NonZero rs → (says o).number ≡ 0 → First (stage keep rs ++ ts) o → None rs × First ts o
  past_stage [] ts o n z f = (tt, f)
  past_stage (r ∷ rs) ts o n z (inl f) =
      let g = f.1 in
      let e : says o ≡ g.0 = ap says g.2 ∙ back g.0 in
      absurd (n.0 g.0 g.1 (sym (ap (λ (x : Answer). x.number) e) ∙ z))
  past_stage (r ∷ rs) ts o n z (inr f) = let q = past_stage rs ts o n.1 z f.1 in ((f.0, q.0), q.1)

pub refusal_nonzero : (c : Answer) → 0 < c.number → (a : Answer) → a ≡ c → a.number ≡ 0 → ⊥
refusal_nonzero c h a e z = omega (arith, ap (λ (x : Answer). x.number) e)

pub place_nonzero : (P : ℕ → Type 0) (m : ℕ) (says : ℕ → Answer) → ((r : ℕ) → 0 < (says r).number) → (a : Answer) → (first_place P m says).gives a → a.number ≡ 0 → ⊥
place_nonzero P m says h a f z = omega (arith, ap (λ (x : Answer). x.number) f.3, h f.0)
