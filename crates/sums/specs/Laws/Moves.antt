-- A sheet that passes the tests is the moved sheet; a wire that passes is the first that would leave its limits.
-- Assumes nothing.
use Rattle.std.specs.Prelude.{◌≡◌, refl, List, [], ◌∷◌, ◌++◌, ℕ, ◌+◌, ◌≤◌, ◌<◌, T, eqb, ltb, ℤ, pos, ◌-ℤ◌, length, get_or}
use Rattle.std.proofs.Common.{inl, inr, arith, T_not, ltb→lt, eqb→eq, take_at}
use Rattle.std.proofs.Math.Decide.{dec_lt}
use Rattle.std.specs.Float.Ieee.Fits.{and_i}
use Rattle.std.specs.Int.Signed.{le_z}
use Rattle.std.proofs.Math.ListN.{get_or-eq_default}
use Rattle.sheet.specs.Core.{core_of, blocks_in, wires_in, block_at, wire_at, lower_in, upper_in, registers_in}
use Rattle.sheet.specs.Rules.{Rule, First, answer, stage}
use Rattle.sheet.specs.Laws.Rules.{goes_on, place_found, search_stops}
use Rattle.sheet.specs.declared.answer.Answer.{Answer}
use Rattle.paths.specs.Questions.{SoundSheet, sound_rules, room_rules}
use Rattle.paths.specs.Laws.Questions.{sheet_sound}
use Rattle.moves.specs.Lags.{lags_in, moved_by, InRange, Fits, Permitted}
use Rattle.moves.specs.Move.{Copied, MovedSheet, MoveOutcome, move_outcome, lag_rules, MoveDone, MoveRight}
use Rattle.moves.specs.Laws.Questions.{permitted_none, move_rest, move_forbidden}
use Rattle.sums.specs.Lines.{over}
use Rattle.sums.specs.Test.{every, same_z, copied_test, moved_tests, range_tests, fit_tests, leaves_tests}
use Rattle.sums.specs.Laws.Finite.{each, all_below_lem, same_told}
use Rattle.sums.specs.Laws.Lags.{range_told, fits_told}
use Rattle.sums.specs.Laws.Over.{over_long, over_past}

module _ (s : List ℕ) (r : ℕ → ℤ) where
  module _ (t : List ℕ) (p : T (every (moved_tests s t r))) where
    copied : (at k : ℕ) → T (copied_test s t at k) → Copied s t at k
    copied at k h i l = eqb→eq (get_or t (at + i) 0) (get_or s (at + i) 0) (all_below_lem k (λ (i : ℕ). eqb (get_or t (at + i) 0) (get_or s (at + i) 0)) h i l)

    pub long_told : length t ≡ length s
    long_told = eqb→eq (length t) (length s) (each (moved_tests s t r) p).1.0

    pub moved_told : MovedSheet s r t
    moved_told =
        let h = each (moved_tests s t r) p in
        let n = blocks_in s in
        let m = wires_in s in
        record {
          bytes = record {
            below = λ i. elim (dec_lt i (length t)) [
              | yes l ↦ ltb→lt (get_or t i 0) 256 (all_below_lem (length t) (λ (i : ℕ). ltb (get_or t i 0) 256) h.0 i l)
              | no l ↦ omega (arith, get_or-eq_default t 0 {n = i} (omega arith))
            ];
          };
          long = long_told;
          header = copied 0 16 h.1.1.0;
          delay = λ b k. copied (block_at b) 4 (all_below_lem n (λ (b : ℕ). copied_test s t (block_at b) 4) h.1.1.1.0 b k);
          lower_is = λ b k. same_told (lower_in t b) (lower_in s b -ℤ r b) (all_below_lem n (λ (b : ℕ). same_z (lower_in t b) (lower_in s b -ℤ r b)) h.1.1.1.1.0 b k);
          upper_is = λ b k. same_told (upper_in t b) (upper_in s b -ℤ r b) (all_below_lem n (λ (b : ℕ). same_z (upper_in t b) (upper_in s b -ℤ r b)) h.1.1.1.1.1.0 b k);
          ends = λ j k. copied (wire_at n j) 4 (all_below_lem m (λ (j : ℕ). copied_test s t (wire_at n j) 4) h.1.1.1.1.1.1.0 j k);
          registers_is = λ j k.
              same_told (pos (registers_in t j)) (moved_by (core_of s) r j) (all_below_lem m (λ (j : ℕ). same_z (pos (registers_in t j)) (moved_by (core_of s) r j)) h.1.1.1.1.1.1.1.0 j k);
          spare = λ j k. copied (wire_at n j + 6) 2 (all_below_lem m (λ (j : ℕ). copied_test s t (wire_at n j + 6) 2) h.1.1.1.1.1.1.1.1.0 j k);
        }

  -- refusal 9: all lags are in range, and the wire is the first that does not fit
  pub leaves_told : (place : ℕ) → T (every (leaves_tests (core_of s) r place)) → First (lag_rules s r) (answer 9 place 0)
  leaves_told place t =
      let c = core_of s in
      let h = each (leaves_tests c r place) t in
      let ranged : (b : ℕ) → b < blocks_in s → InRange c r b = λ b k. range_told c r b (all_below_lem (blocks_in s) (λ (b : ℕ). every (range_tests c r b)) h.0 b k) in
      let k = ltb→lt place (wires_in s) h.1.0 in
      let first =
      search_stops (λ (j : ℕ). Fits c r j → ⊥) (wires_in s) place k
      (λ j l bad. bad (fits_told c r j (all_below_lem place (λ (j : ℕ). every (fit_tests c r j)) h.1.1.0 j l)))
      (λ f. T_not (every (fit_tests c r place)) h.1.1.1.0 (fits_tested f)) in
      inr (λ x. x.2 (ranged x.0 x.1), inl (place_found (λ (j : ℕ). Fits c r j → ⊥) (wires_in s) (λ j. answer 9 j 0) place first k))
    where
      fits_tested : Fits (core_of s) r place → T (every (fit_tests (core_of s) r place))
      fits_tested f = and_i (le_z (pos 0) (moved_by (core_of s) r place)) (every (le_z (moved_by (core_of s) r place) (pos ((core_of s).ceiling place)) ∷ [])) f.0.le (and_i (le_z (moved_by (core_of s) r place) (pos ((core_of s).ceiling place))) (every []) f.1.le tt)

-- ---- the question
module _ (s : List ℕ) (lags : List ℤ) (l : List ℕ) (h : SoundSheet s) (lags_long : blocks_in s ≤ length lags) (long : length s ≤ length l) where
  abbrev keep : Answer → MoveOutcome
  keep a = move_outcome a l

  abbrev last : List (Rule MoveOutcome)
  last = record { when = Unit {0}; gives = MoveDone s (lags_in lags) l } ∷ []

  pub moves_right : Permitted (core_of s) (lags_in lags) → (t : List ℕ) → T (every (moved_tests s t (lags_in lags))) → MoveRight s lags l (move_outcome (answer 0 0 0) (over t l))
  moves_right p t m =
      let e = long_told s (lags_in lags) t m in
      let after_sound = stage keep (lag_rules s (lags_in lags)) ++ last in
      move_rest s lags l (move_outcome (answer 0 0 0) (over t l)) h.formed.framed
      (goes_on keep (room_rules (length lags) (blocks_in s) (length l) (length s)) (stage keep (sound_rules s) ++ after_sound) _ (λ k. omega arith, (λ k. omega arith, tt))
      (goes_on keep (sound_rules s) after_sound _ (sheet_sound s h)
      (goes_on keep (lag_rules s (lags_in lags)) last _ (permitted_none s (lags_in lags) p) (inl (
        tt,
        record {
          says_done = refl;
          moved_sheet = rw (take_at t _ (length s) e) (moved_told s (lags_in lags) t m);
          rest = record { long = over_long t l (omega (arith, e)); past = λ i k. over_past t l 0 i (omega (arith, e)) };
        },
      )))))

  pub leaves_right : (place : ℕ) → T (every (leaves_tests (core_of s) (lags_in lags) place)) → MoveRight s lags l (move_outcome (answer 9 place 0) l)
  leaves_right place t =
      move_rest s lags l (move_outcome (answer 9 place 0) l) h.formed.framed
      (move_forbidden s lags l (λ k. omega (arith, lags_long), (λ k. omega (arith, long), tt)) (answer 9 place 0) (sheet_sound s h) (leaves_told s (lags_in lags) place t))
