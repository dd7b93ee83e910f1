-- How the question check a loop ends, and that two conforming answers are one.
-- Assumes nothing.
use Rattle.std.specs.Prelude.{◌≡◌, refl, List, [], ◌∷◌, ◌++◌, ℕ}
use Rattle.std.proofs.Common.{inl, inr}
use Rattle.sheet.specs.Core.{core_of}
use Rattle.sheet.specs.Rules.{Rule, First, None, Exact, answer, refusal}
use Rattle.sheet.specs.Sheet.{Framed, frame_rules, entry_rules}
use Rattle.sheet.specs.Laws.Rules.{agree, tight_both, first_left, first_right, refusal_exact, place_exact}
use Rattle.sheet.specs.Laws.Sheet.{framed_none}
use Rattle.sheet.specs.Laws.Formed.{frame_exact, entry_exact}
use Rattle.sheet.specs.declared.answer.Answer.{Answer}
use Rattle.paths.specs.Questions.{loop_rules, sound_rules}
use Rattle.loops.specs.Link.{ValidLoop}
use Rattle.loops.specs.Loop.{loop_after_frame, LoopRight}

module _ (s : List ℕ) (c : ℕ) (words : List ℕ) where
  abbrev last : List (Rule Answer)
  last = refusal (ValidLoop (core_of s) c words → ⊥) (answer 12 0 0) ∷ refusal Unit (answer 0 0 0) ∷ []

  pub loop_refused : (a : Answer) → First (frame_rules s) a → LoopRight s c words a
  loop_refused a f = first_left (frame_rules s) (loop_after_frame s c words) a f

  pub loop_rest : (a : Answer) → Framed s → First (loop_after_frame s c words) a → LoopRight s c words a
  loop_rest a f h = first_right (frame_rules s) (loop_after_frame s c words) a (framed_none s f) h

  pub loop_unsound : (a : Answer) → First (sound_rules s) a → First (loop_after_frame s c words) a
  loop_unsound a f = first_left (sound_rules s) last a f

  pub loop_yes_lem : None (sound_rules s) → ValidLoop (core_of s) c words → First (loop_after_frame s c words) (answer 0 0 0)
  loop_yes_lem h v = first_right (sound_rules s) last (answer 0 0 0) h (inr (λ bad. bad v, inl (tt, refl)))

  pub loop_no_lem : None (sound_rules s) → (ValidLoop (core_of s) c words → ⊥) → First (loop_after_frame s c words) (answer 12 0 0)
  loop_no_lem h bad = first_right (sound_rules s) last (answer 12 0 0) h (inl (bad, refl))

  sound_exact : Exact (sound_rules s)
  sound_exact = tight_both ◌≡◌ (entry_rules s) (loop_rules s) (entry_exact s) (place_exact _ _ _, tt)

  -- two answers to one sheet, period and list of words are one
  pub loop_agrees : (a b : Answer) → LoopRight s c words a → LoopRight s c words b → a ≡ b
  loop_agrees =
      agree ◌≡◌ (frame_rules s ++ loop_after_frame s c words)
      (tight_both ◌≡◌ (frame_rules s) (loop_after_frame s c words) (frame_exact s)
      (tight_both ◌≡◌ (sound_rules s) last sound_exact (refusal_exact (answer 12 0 0), (refusal_exact (answer 0 0 0), tt))))
