-- T7 for the questions on lags: two right outcomes are alike. It rests on every field of what they promise.
-- Assumes nothing.
use Rattle.std.specs.Prelude.{◌≡◌, refl, ◌⊎◌, List, ℕ, ℤ, pos}
use Rattle.std.proofs.Common.{sym, ap, ◌∙◌, subst, inl, inr, arith, ext_get_or}
use Rattle.std.proofs.Math.Decide.{dec_lt}
use Rattle.sheet.specs.Core.{blocks_in, core_of}
use Rattle.sheet.specs.declared.answer.Answer.{Answer}
use Rattle.moves.specs.Lags.{lags_in}
use Rattle.promises.specs.Lags.{LoopGiven, PlainLoop}
use Rattle.promises.specs.Questions.{LagsOutcome, lags_outcome, LagsDone, LagsRefused, lags_last, LagsRight, BestDone, best_last, BestRight, Alike}
use Rattle.promises.specs.Laws.Lags.{largest_unique, least_unique}
use Rattle.promises.specs.Laws.Asked.{itself, asked_agrees}

module _ (s : List ℕ) (l : List ℤ) (w : List ℕ) (o p : LagsOutcome) where
  -- lags found at one period, in lists kept past them, are one outcome
  done_equal : (c v : ℕ) → LagsDone s c v l w o → LagsDone s c v l w p → o ≡ p
  done_equal c v a b =
      let e = a.says_done ∙ sym b.says_done in
      let f : o.lags ≡ p.lags =
      ext_get_or (pos 0) o.lags p.lags (a.lags_kept.long ∙ sym b.lags_kept.long)
      (λ i h. elim (dec_lt i (blocks_in s)) [
        | yes k ↦ largest_unique (core_of s) c (lags_in o.lags) (lags_in p.lags) a.largest b.largest i k
        | no k ↦ a.lags_kept.past i (omega arith) ∙ sym (b.lags_kept.past i (omega arith))
      ]) in
      let g = a.words_kept ∙ sym b.words_kept in
      ap (λ (x : Answer). lags_outcome x o.lags o.words) e
      ∙ ap (λ (x : List ℤ). lags_outcome p.says x o.words) f
      ∙ ap (λ (x : List ℕ). lags_outcome p.says p.lags x) g

  -- 10 and 11 differ in the loop and its count alone
  refused_alike : (k : ℕ) (L : List ℕ → Type 0) → (k ≡ 10) ⊎ (k ≡ 11) → LagsRefused s k L l w o → LagsRefused s k L l w p → Alike o p
  refused_alike k L which a b =
      let ea = ap (λ (x : Answer). x.number) a.says_refused in
      let va = ap (λ (x : Answer). x.value) a.says_refused in
      let vb = ap (λ (x : Answer). x.value) b.says_refused in
      record {
        number_same = ea ∙ sym (ap (λ (x : Answer). x.number) b.says_refused);
        place_same = ap (λ (x : Answer). x.place) a.says_refused ∙ sym (ap (λ (x : Answer). x.place) b.says_refused);
        lags_same = a.lags_kept ∙ sym b.lags_kept;
        words_long = a.words_kept.long ∙ sym b.words_kept.long;
        words_past = λ i g h. a.words_kept.past i (omega (arith, va)) ∙ sym (b.words_kept.past i (omega (arith, vb)));
        else_same = λ f g. elim which [ inl q ↦ absurd (f (ea ∙ q)) | inr q ↦ absurd (g (ea ∙ q)) ];
      }

-- two right outcomes of lags at period c are alike
pub lags_agrees : (s : List ℕ) (c : ℕ) (l : List ℤ) (w : List ℕ) (o p : LagsOutcome) → LagsRight s c l w o → LagsRight s c l w p → Alike o p
lags_agrees s c l w =
    asked_agrees s l w (lags_last s c l w)
    (λ o p. refused_alike s l w o p 10 (PlainLoop (core_of s)) (inl refl), (λ o p. refused_alike s l w o p 11 (LoopGiven (core_of s) c) (inr refl), (λ o p a b. subst (Alike o) (done_equal s l w o p c 0 a b) (itself o), tt)))

-- and two of best period
pub best_agrees : (s : List ℕ) (l : List ℤ) (w : List ℕ) (o p : LagsOutcome) → BestRight s l w o → BestRight s l w p → Alike o p
best_agrees s l w = asked_agrees s l w (best_last s l w) (λ o p. refused_alike s l w o p 10 (PlainLoop (core_of s)) (inl refl), (both, tt))
  where
    both : (o p : LagsOutcome) → BestDone s l w o → BestDone s l w p → Alike o p
    both o p a b =
        let e : b.period ≡ a.period = least_unique (core_of s) b.period a.period b.least a.least in
        let d : LagsDone s a.period a.period l w p = rw e at b.done in
        subst (Alike o) (done_equal s l w o p a.period a.period a.done d) (itself o)
