-- How the question move ends.
-- Assumes nothing.
use Rattle.std.specs.Prelude.{◌≡◌, refl, List, [], ◌∷◌, ◌++◌, ℕ, ◌≤◌, ℤ, length, pos}
use Rattle.std.proofs.Common.{inl, arith}
use Rattle.sheet.specs.Bytes.{Bytes}
use Rattle.sheet.specs.Core.{core_of, blocks_in}
use Rattle.sheet.specs.Rules.{Rule, First, None, answer, stage}
use Rattle.sheet.specs.Sheet.{Framed, FormedSheet, frame_rules}
use Rattle.sheet.specs.Laws.Rules.{ends, goes_on}
use Rattle.sheet.specs.Laws.Sheet.{framed_none}
use Rattle.std.proofs.Math.Decide.{dec_le}
use Rattle.sheet.specs.Laws.Formed.{stable, dec_le_ℤ}
use Rattle.sheet.specs.declared.answer.Answer.{Answer}
use Rattle.paths.specs.Questions.{sound_rules, room_rules}
use Rattle.moves.specs.Lags.{lags_in, moved_by, Permitted}
use Rattle.moves.specs.Move.{lag_rules, MoveOutcome, move_outcome, MoveDone, move_after_frame, MoveRight}
use Rattle.moves.specs.Write.{written}
use Rattle.moves.specs.Laws.Written.{written_moved, rest_kept}

-- ---- lags to which 8 and 9 do not apply are permitted
pub none_permitted : (s : List ℕ) (r : ℕ → ℤ) → None (lag_rules s r) → Permitted (core_of s) r
none_permitted s r h = record {
  in_range = λ b k. (
    stable (dec_le_ℤ ((core_of s).lower b) (r b)) (λ q. h.0 (b, k, λ i. q i.0)),
    stable (dec_le_ℤ (r b) ((core_of s).upper b)) (λ q. h.0 (b, k, λ i. q i.1)),
  );
  fits = λ j k. (
    stable (dec_le_ℤ (pos 0) (moved_by (core_of s) r j)) (λ q. h.1.0 (j, k, λ i. q i.0)),
    stable (dec_le_ℤ (moved_by (core_of s) r j) (pos ((core_of s).ceiling j))) (λ q. h.1.0 (j, k, λ i. q i.1)),
  );
}

pub permitted_none : (s : List ℕ) (r : ℕ → ℤ) → Permitted (core_of s) r → None (lag_rules s r)
permitted_none s r p = (λ h. h.2 (p.in_range h.0 h.1), (λ h. h.2 (p.fits h.0 h.1), tt))

module _ (s : List ℕ) (lags : List ℤ) (l : List ℕ) where
  abbrev keep : Answer → MoveOutcome
  keep a = move_outcome a l

  abbrev room : List (Rule Answer)
  room = room_rules (length lags) (blocks_in s) (length l) (length s)

  abbrev last : List (Rule MoveOutcome)
  last = record { when = Unit {0}; gives = MoveDone s (lags_in lags) l } ∷ []

  abbrev after_sound : List (Rule MoveOutcome)
  after_sound = stage keep (lag_rules s (lags_in lags)) ++ last

  abbrev after_room : List (Rule MoveOutcome)
  after_room = stage keep (sound_rules s) ++ after_sound

  pub move_refused : (a : Answer) → First (frame_rules s) a → MoveRight s lags l (move_outcome a l)
  move_refused a f = ends keep (frame_rules s) (move_after_frame s lags l) a f

  pub move_rest : (o : MoveOutcome) → Framed s → First (move_after_frame s lags l) o → MoveRight s lags l o
  move_rest o f h = goes_on keep (frame_rules s) (move_after_frame s lags l) o (framed_none s f) h

  pub move_short : (a : Answer) → First room a → First (move_after_frame s lags l) (move_outcome a l)
  move_short a f = ends keep room after_room a f

  module _ (roomy : None room) where
    pub move_unsound : (a : Answer) → First (sound_rules s) a → First (move_after_frame s lags l) (move_outcome a l)
    move_unsound a f = goes_on keep room after_room (move_outcome a l) roomy (ends keep (sound_rules s) after_sound a f)

    pub move_forbidden : (a : Answer) → None (sound_rules s) → First (lag_rules s (lags_in lags)) a → First (move_after_frame s lags l) (move_outcome a l)
    move_forbidden a k f =
        goes_on keep room after_room (move_outcome a l) roomy
        (goes_on keep (sound_rules s) after_sound (move_outcome a l) k (ends keep (lag_rules s (lags_in lags)) last a f))

    pub move_done : (l' : List ℕ) → FormedSheet s → None (sound_rules s) → None (lag_rules s (lags_in lags)) → l' ≡ written s (lags_in lags) l → Bytes l'
        → First (move_after_frame s lags l) (move_outcome (answer 0 0 0) l')
    move_done l' f k q e b =
        let p = none_permitted s (lags_in lags) q in
        let h : length s ≤ length l = stable (dec_le (length s) (length l)) (λ k. roomy.1.0 (omega arith)) in
        goes_on keep room after_room _ roomy
        (goes_on keep (sound_rules s) after_sound _ k
        (goes_on keep (lag_rules s (lags_in lags)) last _ q (inl (
          tt,
          record {
            says_done = refl;
            moved_sheet = rw e (written_moved s f (lags_in lags) p l h (rw e at b));
            rest = rw e (rest_kept s f (lags_in lags) p l h);
          },
        ))))
