-- What the answers of the two lag questions mean (demand 2), on bytes, through the questions' own promises.
-- Assumes nothing.
use Rattle.std.specs.Prelude.{◌≡◌, ◌⊎◌, ◌↔◌, List, ℕ, ◌≤◌, ℤ, length, take}
use Rattle.std.proofs.Common.{sym, ap, subst, inl, inr, arith, length-take-le}
use Rattle.sheet.specs.Core.{core_of}
use Rattle.sheet.specs.Rules.{First, answer}
use Rattle.sheet.specs.declared.answer.Answer.{Answer}
use Rattle.paths.specs.Questions.{SoundSheet}
use Rattle.paths.specs.Laws.Questions.{sheet_sound}
use Rattle.moves.specs.Lags.{lags_in, Permitted, Meets}
use Rattle.loops.specs.Link.{ValidLoop}
use Rattle.loops.specs.Loop.{LoopRight}
use Rattle.loops.specs.Laws.Question.{loop_agrees, loop_rest, loop_yes_lem}
use Rattle.promises.specs.Lags.{NonePermitted, NoneMeets, LoopGiven, PlainLoop}
use Rattle.promises.specs.Questions.{LagsOutcome, LagsDone, LagsRefused, lags_last, LagsRight, BestDone, best_last, BestRight}
use Rattle.promises.specs.Laws.Asked.{LongLists, asked_means, asked_reached}

-- ---- the three ends of lags at period c, and the two of best period
pub data LagsEnd (s : List ℕ) (c : ℕ) (l : List ℤ) (w : List ℕ) (o : LagsOutcome) : Type 0 where
  forbidden : NonePermitted (core_of s) → LagsRefused s 10 (PlainLoop (core_of s)) l w o → LagsEnd s c l w o
  slow : NoneMeets (core_of s) c → LagsRefused s 11 (LoopGiven (core_of s) c) l w o → LagsEnd s c l w o
  found : LagsDone s c 0 l w o → LagsEnd s c l w o

pub data BestEnd (s : List ℕ) (l : List ℤ) (w : List ℕ) (o : LagsOutcome) : Type 0 where
  forbidden : NonePermitted (core_of s) → LagsRefused s 10 (PlainLoop (core_of s)) l w o → BestEnd s l w o
  found : BestDone s l w o → BestEnd s l w o

number_of : {a b : Answer} → a ≡ b → a.number ≡ b.number
number_of e = ap (λ (x : Answer). x.number) e

-- ---- what an answer means, whatever the lists
module _ (s : List ℕ) (c : ℕ) (l : List ℤ) (w : List ℕ) (o : LagsOutcome) where
  lags_last_lem : First (lags_last s c l w) o → LagsEnd s c l w o
  lags_last_lem (inl f) = forbidden f.0 f.1
  lags_last_lem (inr (x, inl f)) = slow f.0 f.1
  lags_last_lem (inr (x, inr (y, inl f))) = found f.1
  lags_last_lem (inr (x, inr (y, inr f))) = absurd f.1

  -- refused with 1 to 7, or one of the three ends, on a sound sheet
  pub lags_mean : LagsRight s c l w o → ((1 ≤ o.says.number) × (o.says.number ≤ 7)) ⊎ (SoundSheet s × LagsEnd s c l w o)
  lags_mean h = elim (asked_means s l w (lags_last s c l w) o h) [ inl e ↦ inl e | inr r ↦ inr (r.sound, lags_last_lem r.ends_with) ]

  module _ (h : LagsRight s c l w o) where
    -- with 0 both lists were long enough
    pub lags_long : o.says.number ≡ 0 → LongLists s l w
    lags_long z = elim (asked_means s l w (lags_last s c l w) o h) [ inl e ↦ absurd (omega (arith, e)) | inr r ↦ r.long ]

    -- 0: "done"
    pub lags_mean_done : o.says.number ≡ 0 → SoundSheet s × LagsDone s c 0 l w o
    lags_mean_done z = go (lags_mean h)
      where
        go : ((1 ≤ o.says.number) × (o.says.number ≤ 7)) ⊎ (SoundSheet s × LagsEnd s c l w o) → SoundSheet s × LagsDone s c 0 l w o
        go (inl e) = absurd (omega (arith, e))
        go (inr (y, forbidden f r)) = absurd (omega (arith, number_of r.says_refused))
        go (inr (y, slow f r)) = absurd (omega (arith, number_of r.says_refused))
        go (inr (y, found d)) = (y, d)

    -- 10: "no permitted lags exist"
    pub lags_mean_none : o.says.number ≡ 10 → SoundSheet s × NonePermitted (core_of s) × LagsRefused s 10 (PlainLoop (core_of s)) l w o
    lags_mean_none z = go (lags_mean h)
      where
        go : ((1 ≤ o.says.number) × (o.says.number ≤ 7)) ⊎ (SoundSheet s × LagsEnd s c l w o) → SoundSheet s × NonePermitted (core_of s) × LagsRefused s 10 (PlainLoop (core_of s)) l w o
        go (inl e) = absurd (omega (arith, e))
        go (inr (y, forbidden f r)) = (y, f, r)
        go (inr (y, slow f r)) = absurd (omega (arith, number_of r.says_refused))
        go (inr (y, found d)) = absurd (omega (arith, number_of d.says_done))

    -- 11: "permitted lags exist, none meets c"
    pub lags_mean_slow : o.says.number ≡ 11 → SoundSheet s × NoneMeets (core_of s) c × LagsRefused s 11 (LoopGiven (core_of s) c) l w o
    lags_mean_slow z = go (lags_mean h)
      where
        go : ((1 ≤ o.says.number) × (o.says.number ≤ 7)) ⊎ (SoundSheet s × LagsEnd s c l w o) → SoundSheet s × NoneMeets (core_of s) c × LagsRefused s 11 (LoopGiven (core_of s) c) l w o
        go (inl e) = absurd (omega (arith, e))
        go (inr (y, forbidden f r)) = absurd (omega (arith, number_of r.says_refused))
        go (inr (y, slow f r)) = (y, f, r)
        go (inr (y, found d)) = absurd (omega (arith, number_of d.says_done))

module _ (s : List ℕ) (l : List ℤ) (w : List ℕ) (o : LagsOutcome) where
  best_last_lem : First (best_last s l w) o → BestEnd s l w o
  best_last_lem (inl f) = forbidden f.0 f.1
  best_last_lem (inr (x, inl f)) = found f.1
  best_last_lem (inr (x, inr f)) = absurd f.1

  -- refused with 1 to 7, or one of the two ends, on a sound sheet
  pub best_means : BestRight s l w o → ((1 ≤ o.says.number) × (o.says.number ≤ 7)) ⊎ (SoundSheet s × BestEnd s l w o)
  best_means h = elim (asked_means s l w (best_last s l w) o h) [ inl e ↦ inl e | inr r ↦ inr (r.sound, best_last_lem r.ends_with) ]

  module _ (h : BestRight s l w o) where
    -- with 0 both lists were long enough
    pub best_long : o.says.number ≡ 0 → LongLists s l w
    best_long z = elim (asked_means s l w (best_last s l w) o h) [ inl e ↦ absurd (omega (arith, e)) | inr r ↦ r.long ]

    -- 0: "done"
    pub best_means_done : o.says.number ≡ 0 → SoundSheet s × BestDone s l w o
    best_means_done z = go (best_means h)
      where
        go : ((1 ≤ o.says.number) × (o.says.number ≤ 7)) ⊎ (SoundSheet s × BestEnd s l w o) → SoundSheet s × BestDone s l w o
        go (inl e) = absurd (omega (arith, e))
        go (inr (y, forbidden f r)) = absurd (omega (arith, number_of r.says_refused))
        go (inr (y, found d)) = (y, d)

    -- 10: "no permitted lags exist"
    pub best_means_none : o.says.number ≡ 10 → SoundSheet s × NonePermitted (core_of s) × LagsRefused s 10 (PlainLoop (core_of s)) l w o
    best_means_none z = go (best_means h)
      where
        go : ((1 ≤ o.says.number) × (o.says.number ≤ 7)) ⊎ (SoundSheet s × BestEnd s l w o) → SoundSheet s × NonePermitted (core_of s) × LagsRefused s 10 (PlainLoop (core_of s)) l w o
        go (inl e) = absurd (omega (arith, e))
        go (inr (y, forbidden f r)) = (y, f, r)
        go (inr (y, found d)) = absurd (omega (arith, number_of d.done.says_done))

-- ---- T5: on a sound sheet with lists that are long enough, each number is given exactly when its fact holds
module _ (s : List ℕ) (l : List ℤ) (w : List ℕ) (h : SoundSheet s) (long : LongLists s l w) (o : LagsOutcome) where
  module _ (c : ℕ) (f : LagsRight s c l w o) where
    -- which of the three ends it was
    pub lags_end : LagsEnd s c l w o
    lags_end = lags_last_lem s c l w o (asked_reached s l w (lags_last s c l w) h long o f)

    -- 10: "no permitted lags exist"
    pub lags_ten : (o.says.number ≡ 10) ↔ NonePermitted (core_of s)
    lags_ten = (λ z. (lags_mean_none s c l w o f z).1, λ n. go n lags_end)
      where
        go : NonePermitted (core_of s) → LagsEnd s c l w o → o.says.number ≡ 10
        go n (forbidden x r) = number_of r.says_refused
        go n (slow x r) = absurd (n x.lags x.permitted)
        go n (found d) = absurd (n (lags_in o.lags) d.largest.meets.permitted)

    -- 11: "permitted lags exist, none meets c"
    pub lags_eleven : (o.says.number ≡ 11) ↔ NoneMeets (core_of s) c
    lags_eleven = (λ z. (lags_mean_slow s c l w o f z).1, λ n. go n lags_end)
      where
        go : NoneMeets (core_of s) c → LagsEnd s c l w o → o.says.number ≡ 11
        go n (forbidden x r) = absurd (x n.lags n.permitted)
        go n (slow x r) = number_of r.says_refused
        go n (found d) = absurd (n.none (lags_in o.lags) d.largest.meets)

    -- 0: some lags meet c
    pub lags_zero : (o.says.number ≡ 0) ↔ ((r : ℕ → ℤ) × Meets (core_of s) c r)
    lags_zero = (λ z. (lags_in o.lags, (lags_mean_done s c l w o f z).1.largest.meets), λ n. go n lags_end)
      where
        go : (r : ℕ → ℤ) × Meets (core_of s) c r → LagsEnd s c l w o → o.says.number ≡ 0
        go n (forbidden x r) = absurd (x n.0 n.1.permitted)
        go n (slow x r) = absurd (x.none n.0 n.1)
        go n (found d) = number_of d.says_done

  module _ (f : BestRight s l w o) where
    -- which of the two ends it was
    pub best_end : BestEnd s l w o
    best_end = best_last_lem s l w o (asked_reached s l w (best_last s l w) h long o f)

    -- 10: "no permitted lags exist"
    pub best_ten : (o.says.number ≡ 10) ↔ NonePermitted (core_of s)
    best_ten = (λ z. (best_means_none s l w o f z).1, λ n. go n best_end)
      where
        go : NonePermitted (core_of s) → BestEnd s l w o → o.says.number ≡ 10
        go n (forbidden x r) = number_of r.says_refused
        go n (found d) = absurd (n d.least.lags d.least.met.permitted)

    -- 0: some lags are permitted
    pub best_zero : (o.says.number ≡ 0) ↔ ((r : ℕ → ℤ) × Permitted (core_of s) r)
    best_zero = (λ z. let d = (best_means_done s l w o f z).1 in (d.least.lags, d.least.met.permitted), λ n. go n best_end)
      where
        go : (r : ℕ → ℤ) × Permitted (core_of s) r → BestEnd s l w o → o.says.number ≡ 0
        go n (forbidden x r) = absurd (x n.0 n.1)
        go n (found d) = number_of d.done.says_done

-- ---- T5: the loop written passes the loop check
-- the words that an answer counts
abbrev pub counted : LagsOutcome → List ℕ
counted o = take o.says.value o.words

-- a valid loop on a sound sheet gets a yes
loop_passes : (s : List ℕ) → SoundSheet s → (p : ℕ) (words : List ℕ) → ValidLoop (core_of s) p words → (a : Answer) → LoopRight s p words a → a ≡ answer 0 0 0
loop_passes s h p words v a f = loop_agrees s p words a (answer 0 0 0) f (loop_rest s p words (answer 0 0 0) h.formed.framed (loop_yes_lem s p words (sheet_sound s h) v))

module _ (s : List ℕ) (l : List ℤ) (w : List ℕ) (o : LagsOutcome) where
  -- they are the loop that was promised
  counted_is : (k : ℕ) (L : List ℕ → Type 0) → LagsRefused s k L l w o → L (counted o)
  counted_is k L r = subst (λ (n : ℕ). L (take n o.words)) (sym (ap (λ (x : Answer). x.value) r.says_refused)) r.loop

  -- and the count is theirs
  pub count_exact : LongLists s l w → (k : ℕ) (L : List ℕ → Type 0) → LagsRefused s k L l w o → length (counted o) ≡ o.says.value
  count_exact long k L r =
      length-take-le o.says.value o.words (omega (arith, ap (λ (x : Answer). x.value) r.says_refused, r.few, r.words_kept.long, long.words_long))

  -- 11: at the period asked
  pub lags_loop_eleven : (c : ℕ) → LagsRight s c l w o → o.says.number ≡ 11 → (a : Answer) → LoopRight s c (counted o) a → a ≡ answer 0 0 0
  lags_loop_eleven c f z a k =
      let m = lags_mean_slow s c l w o f z in
      loop_passes s m.0 c (counted o) (counted_is 11 (LoopGiven (core_of s) c) m.2).valid a k

  -- a loop without kind 2 passes at every period
  ten : SoundSheet s → LagsRefused s 10 (PlainLoop (core_of s)) l w o → (p : ℕ) (a : Answer) → LoopRight s p (counted o) a → a ≡ answer 0 0 0
  ten h r p a k = loop_passes s h p (counted o) ((counted_is 10 (PlainLoop (core_of s)) r).given p).valid a k

  -- 10 of lags at period c
  pub lags_loop_ten : (c : ℕ) → LagsRight s c l w o → o.says.number ≡ 10 → (p : ℕ) (a : Answer) → LoopRight s p (counted o) a → a ≡ answer 0 0 0
  lags_loop_ten c f z = let m = lags_mean_none s c l w o f z in ten m.0 m.2

  -- 10 of best period
  pub best_loop_ten : BestRight s l w o → o.says.number ≡ 10 → (p : ℕ) (a : Answer) → LoopRight s p (counted o) a → a ≡ answer 0 0 0
  best_loop_ten f z = let m = best_means_none s l w o f z in ten m.0 m.2
