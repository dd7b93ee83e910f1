-- T7: two outcomes of one move are one. It rests on every field of what a done move promises.
-- Assumes nothing.
use Rattle.std.specs.Prelude.{◌≡◌, refl, List, ◌++◌, ℕ, ℤ, length, get_or, take}
use Rattle.std.proofs.Common.{sym, ap, ◌∙◌, arith, ext_get_or, get_or-take}
use Rattle.std.proofs.Math.Decide.{dec_lt}
use Rattle.sheet.specs.Rules.{Rule, Tight, Exact, answer, stage}
use Rattle.sheet.specs.Sheet.{FormedSheet, frame_rules}
use Rattle.sheet.specs.Laws.Rules.{agree, tight_both, exact_tight, stage_exact, refusal_exact, place_exact}
use Rattle.sheet.specs.Laws.Formed.{frame_exact}
use Rattle.sheet.specs.declared.answer.Answer.{Answer}
use Rattle.paths.specs.Questions.{sound_rules}
use Rattle.paths.specs.Laws.Questions.{sound_exact}
use Rattle.moves.specs.Lags.{lags_in}
use Rattle.moves.specs.Move.{lag_rules, MoveOutcome, move_outcome, MoveDone, move_after_frame, MoveRight}
use Rattle.moves.specs.Laws.Sheets.{moved_unique}
use Rattle.moves.specs.Laws.Theorems.{keep, room, last, after_sound, move_means}

module _ (s : List ℕ) (lags : List ℤ) (l : List ℕ) where
  -- two moved sheets in two lists that kept the rest are one list
  same_moved : (o p : MoveOutcome) → MoveDone s (lags_in lags) l o → MoveDone s (lags_in lags) l p → FormedSheet s → o ≡ p
  same_moved o p a b f =
      let e = moved_unique s f (lags_in lags) (take (length s) o.moved) (take (length s) p.moved) a.moved_sheet b.moved_sheet in
      let g : o.moved ≡ p.moved =
      ext_get_or 0 o.moved p.moved (a.rest.long ∙ sym b.rest.long)
      (λ i h. elim (dec_lt i (length s)) [
        | yes k ↦ sym (get_or-take (length s) o.moved i 0 k) ∙ ap (λ (x : List ℕ). get_or x i 0) e ∙ get_or-take (length s) p.moved i 0 k
        | no k ↦ a.rest.past i (omega arith) ∙ sym (b.rest.past i (omega arith))
      ]) in
      ap (λ (x : Answer). move_outcome x o.moved) (a.says_done ∙ sym b.says_done) ∙ ap (move_outcome p.says) g

  -- an answer 0 says that the sheet is formed, and then the moved sheet is one
  Like : MoveOutcome → MoveOutcome → Type 0
  Like o p = (o.says.number ≡ 0 → FormedSheet s) → o ≡ p

  done_like : (o p : MoveOutcome) → MoveDone s (lags_in lags) l o → MoveDone s (lags_in lags) l p → Like o p
  unfolding Like
  done_like o p a b f = same_moved o p a b (f (ap (λ (x : Answer). x.number) a.says_done))

  exactly : (rs : List (Rule Answer)) → Exact rs → Tight Like (stage (keep s lags l) rs)
  unfolding Like
  exactly rs e = exact_tight Like (λ o f. refl) (stage (keep s lags l) rs) (stage_exact (keep s lags l) rs e)

  pub move_agrees : (o p : MoveOutcome) → MoveRight s lags l o → MoveRight s lags l p → o ≡ p
  unfolding Like
  move_agrees o p h k =
      agree Like (stage (keep s lags l) (frame_rules s) ++ move_after_frame s lags l)
      (tight_both Like (stage (keep s lags l) (frame_rules s)) (move_after_frame s lags l) (exactly (frame_rules s) (frame_exact s))
      (tight_both Like (stage (keep s lags l) (room s lags l)) (stage (keep s lags l) (sound_rules s) ++ after_sound s lags l)
      (exactly (room s lags l) (refusal_exact (answer 4 0 0), (refusal_exact (answer 4 1 0), tt)))
      (tight_both Like (stage (keep s lags l) (sound_rules s)) (after_sound s lags l) (exactly (sound_rules s) (sound_exact s))
      (tight_both Like (stage (keep s lags l) (lag_rules s (lags_in lags))) (last s lags l)
      (exactly (lag_rules s (lags_in lags)) (place_exact _ _ _, (place_exact _ _ _, tt)))
      (done_like, tt)))))
      o p h k (λ z. (move_means s lags l o h z).sound.formed)
