-- A line that passes its test is right.
-- Assumes nothing.
use Rattle.std.specs.Prelude.{◌≡◌, refl, true, List, [], ◌∷◌, ◌++◌, ℕ, ◌+◌, ◌*◌, ◌≤◌, T, ℤ, pos, length, get_or}
use Rattle.std.proofs.Common.{sym, ◌∙◌, subst, inl, inr, arith, T_not, leb→le, ltb→lt, eqb→eq}
use Rattle.std.specs.Float.Ieee.Bits.{is_true}
use Rattle.std.specs.Int.Signed.{le_z, lt_z}
use Rattle.std.proofs.Math.ListN.{get_or-append}
use Rattle.std.proofs.Math.Seq.{take-append_seam}
use Rattle.sheet.specs.Core.{Core, core_of, shape_of, blocks_in, registers_in}
use Rattle.sheet.specs.Rules.{Rule, First, answer, stage}
use Rattle.sheet.specs.Sheet.{Formed, frame_rules}
use Rattle.sheet.specs.Laws.Rules.{first_right, skip_stage}
use Rattle.sheet.specs.Laws.Sheet.{framed_none}
use Rattle.sheet.specs.Laws.Formed.{formed_core}
use Rattle.sheet.specs.declared.answer.Answer.{Answer}
use Rattle.paths.specs.Table.{Period}
use Rattle.paths.specs.Questions.{SoundSheet, sound_rules, room_rules}
use Rattle.tables.specs.Questions.{TableOutcome, table_outcome, TableDone, table_after_frame, TableRight}
use Rattle.paths.specs.Laws.Questions.{sheet_sound, sound_checks}
use Rattle.tables.specs.Laws.Entry.{entry_unique}
use Rattle.moves.specs.Lags.{lags_in}
use Rattle.loops.specs.Test.{valid_test}
use Rattle.loops.proofs.Tested as Lt
use Rattle.loops.specs.Laws.Question.{loop_rest, loop_yes_lem, loop_no_lem}
use Rattle.promises.specs.Lags.{Largest, LoopGiven, PlainLoop}
use Rattle.promises.specs.Questions.{PeriodDone, PeriodRight, LagsOutcome, lags_outcome, words_needed, LagsDone, LagsRefused, lags_last, LagsRight, best_last, BestRight}
use Rattle.promises.specs.Laws.Asked.{asked_rest, asked_last, best_none, best_done, lags_none, lags_slow, lags_done, plain_none, given_none}
use Rattle.sums.specs.Lines.{over, Line, sound, period, entry, best, lags_at, meet, slow, stuck, loop_yes, loop_no, moves, leaves, EntrySaid, LessThan, right}
use Rattle.sums.specs.Test.{every, less_tests, registers_to, delay_to, entry_tests, given_tests, paths_of, tests, test}
use Rattle.sums.specs.Laws.Finite.{each, all_below_lem, some_below_lem, le_told}
use Rattle.sums.specs.Laws.Sound.{sound_told}
use Rattle.sums.specs.Laws.Lags.{permitted_told, largest_same, entry_told, period_told, meet_told, largest_told, least_told}
use Rattle.sums.specs.Laws.Loops.{sum_told, given_told, plain_given}
use Rattle.sums.specs.Laws.Over.{over_long, over_past}
use Rattle.sums.specs.Laws.Moves.{moves_right, leaves_right}

-- ---- each question, on a sound sheet
module _ (s : List ℕ) (h : SoundSheet s) where
  formed : Formed (core_of s)
  formed = formed_core s h.formed

  period_right : (p : ℕ) → Period (shape_of s) (registers_in s) p → PeriodRight s (answer 0 0 p)
  period_right p d =
      let last : List (Rule Answer) = record { when = Unit; gives = PeriodDone s } ∷ [] in
      first_right (frame_rules s) (sound_rules s ++ last) (answer 0 0 p) (framed_none s h.formed.framed)
      (first_right (sound_rules s) last (answer 0 0 p) (sheet_sound s h) (inl (tt, (p, d, refl))))

  -- a right outcome of the path table has the table
  module _ (r d : List ℕ) (r_long : blocks_in s * blocks_in s ≤ length r) (d_long : blocks_in s * blocks_in s ≤ length d) (o : TableOutcome) where
    abbrev keep : Answer → TableOutcome
    keep a = table_outcome a r d

    abbrev last : List (Rule TableOutcome)
    last = record { when = Unit {0}; gives = TableDone s r d } ∷ []

    last_done : First last o → TableDone s r d o
    last_done (inl f) = f.1
    last_done (inr f) = absurd (f.0 tt)

    table_done : TableRight s r d o → TableDone s r d o
    table_done f =
        let n = blocks_in s * blocks_in s in
        last_done
        (skip_stage keep (sound_rules s) last o (sheet_sound s h)
        (skip_stage keep (room_rules (length r) n (length d) n) (stage keep (sound_rules s) ++ last) o (λ k. omega arith, (λ k. omega arith, tt))
        (skip_stage keep (frame_rules s) (table_after_frame s r d) o (framed_none s h.formed.framed) f)))

  entry_right : (P : ℕ → ℕ → List ℕ) (u v W D : ℕ) → T (every (entry_tests (core_of s) P u v W D)) → EntrySaid s u v W D
  entry_right P u v W D t =
      let c = core_of s in
      let g = each (entry_tests c P u v W D) t in
      let hu = ltb→lt u (blocks_in s) g.1.0 in
      let hv = ltb→lt v (blocks_in s) g.1.1.0 in
      let w = eqb→eq (registers_to c P u v) W g.1.1.1.0 in
      let e = eqb→eq (delay_to c P u v) D g.1.1.1.1.0 in (
        hu,
        hv,
        λ r d k l o f.
            let done = table_done r d k l o f in
            let i = u * blocks_in s + v in
            let q = entry_unique (shape_of s) (registers_in s) u v (get_or o.registers i 0) (get_or o.delays i 0) (registers_to c P u v) (delay_to c P u v) (done.table u v hu hv) (entry_told c P g.0 u v hu hv) in
            record { done = done.says_done; registers_are = q.0 ∙ w; delay_is = q.1 ∙ e },
      )

  -- ---- the lag questions
  module _ (l : List ℤ) (w : List ℕ) (l_long : blocks_in s ≤ length l) (w_long : words_needed (blocks_in s) ≤ length w) where
    asked_lags : (c : ℕ) (o : LagsOutcome) → First (lags_last s c l w) o → LagsRight s c l w o
    asked_lags c o f =
        asked_rest s l w (lags_last s c l w) o h.formed.framed (asked_last s l w (lags_last s c l w) (blocks_in s) refl l_long w_long o (sheet_sound s h) f)

    asked_best : (o : LagsOutcome) → First (best_last s l w) o → BestRight s l w o
    asked_best o f =
        asked_rest s l w (best_last s l w) o h.formed.framed (asked_last s l w (best_last s l w) (blocks_in s) refl l_long w_long o (sheet_sound s h) f)

    -- the lags at the front of the lent list
    module _ (lags : List ℤ) (lags_are : length lags ≡ blocks_in s) where
      lags_over : (p value : ℕ) → Largest (core_of s) p (lags_in lags) → LagsDone s p value l w (lags_outcome (answer 0 0 value) (over lags l) w)
      lags_over p value g = record {
        says_done = refl;
        largest = largest_same (core_of s) formed (lags_in lags) (lags_in (over lags l)) (λ b k. get_or-append lags _ (pos 0) b (omega arith)) p g;
        lags_kept = record { long = over_long lags l (omega arith); past = λ i k. over_past lags l (pos 0) i (omega arith) };
        words_kept = refl;
      }

    -- the words at the front of the lent list
    words_over : (number : ℕ) (Loop : List ℕ → Type 0) (words : List ℕ) → Loop words → length words ≤ words_needed (blocks_in s)
        → LagsRefused s number Loop l w (lags_outcome (answer number 0 (length words)) l (over words w))
    words_over number Loop words loop few = record {
      count = length words;
      says_refused = refl;
      loop = rw (take-append_seam words _) loop;
      few = few;
      words_kept = record { long = over_long words w (omega arith); past = λ i k. over_past words w 0 i k };
      lags_kept = refl;
    }

-- ---- the test is sound
less_told : (n : ℕ) (r q : ℕ → ℤ) → T (every (less_tests n r q)) → LessThan n r q
less_told n r q t =
    let g = each (less_tests n r q) t in
    let b = some_below_lem n (λ (b : ℕ). lt_z (r b) (q b)) g.1.0 in
    (λ b k. le_told (r b) (q b) (all_below_lem n (λ (b : ℕ). le_z (r b) (q b)) g.0 b k), (b.0, b.1, record { lt = b.2 }))

few_of : (c : Core) (p : ℕ) (words : List ℕ) → T (every (given_tests c p words)) → length words ≤ words_needed c.shape.n
few_of c p words t = leb→le (length words) (words_needed c.shape.n) (each (given_tests c p words) t).1.1.0

told : (x : Line) → T (test x) → right x
told (sound s) t = sound_checks s (sound_told s (each (tests (sound s)) t).0)
told (period s p) t =
    let g = each (tests (period s p)) t in
    period_right s (sound_told s g.0) p (period_told (core_of s) (paths_of s) p g.1.0)
told (entry s u v W D) t =
    let g = each (tests (entry s u v W D)) t in
    entry_right s (sound_told s g.0) (paths_of s) u v W D g.1.0
told (best s p lags why before) t =
    let g = each (tests (best s p lags why before)) t in
    let h = sound_told s g.0 in
    let a = largest_told (core_of s) (paths_of s) (lags_in lags) p (formed s h) why g.1.0 in
    let e = eqb→eq (length lags) (blocks_in s) g.1.1.0 in
    λ l w i j. asked_best s h l w i j _ (best_done s l w _ (record {
      period = p;
      least = least_told (core_of s) (formed s h) p before (lags_in lags) g.1.1.1.0 a.meets;
      done = lags_over s h l w i j lags e p p a;
    }))
told (lags_at s c lags why) t =
    let g = each (tests (lags_at s c lags why)) t in
    let h = sound_told s g.0 in
    let a = largest_told (core_of s) (paths_of s) (lags_in lags) c (formed s h) why g.1.0 in
    let e = eqb→eq (length lags) (blocks_in s) g.1.1.0 in
    λ l w i j. asked_lags s h l w i j c _ (lags_done s l w _ c (lags_over s h l w i j lags e c 0 a))
told (meet s c lags larger) t =
    let g = each (tests (meet s c lags larger)) t in
    (meet_told (core_of s) (paths_of s) (lags_in lags) c g.1.0, less_told (blocks_in s) (lags_in lags) (lags_in larger) g.1.1.0)
told (slow s c words permitted) t =
    let g = each (tests (slow s c words permitted)) t in
    let h = sound_told s g.0 in
    let k = given_told (core_of s) words c g.1.0 in
    λ l w i j. asked_lags s h l w i j c _
    (lags_slow s l w _ c (lags_in permitted) (permitted_told (core_of s) (lags_in permitted) g.1.1.0) (given_none (core_of s) (formed s h) c words k)
    (words_over s h l w i j 11 (LoopGiven (core_of s) c) words k (few_of (core_of s) c words g.1.0)))
told (stuck s words) t =
    let g = each (tests (stuck s words)) t in
    let h = sound_told s g.0 in
    let k = plain_given (core_of s) words g.1.0 g.1.1.0 in
    let none = plain_none (core_of s) (formed s h) words k in
    let few = few_of (core_of s) 0 words g.1.0 in (
      λ l w i j. asked_best s h l w i j _ (best_none s l w _ none (words_over s h l w i j 10 (PlainLoop (core_of s)) words k few)),
      λ c l w i j. asked_lags s h l w i j c _ (lags_none s l w _ c none (words_over s h l w i j 10 (PlainLoop (core_of s)) words k few)),
      λ c. loop_rest s c words (answer 0 0 0) h.formed.framed (loop_yes_lem s c words (sheet_sound s h) (k.given c).valid),
    )
told (loop_yes s c words sum) t =
    let g = each (tests (loop_yes s c words sum)) t in
    let h = sound_told s g.0 in
    let v = Lt.test_sound (core_of s) c words (is_true (valid_test (core_of s) c words) g.1.0) in
    (loop_rest s c words (answer 0 0 0) h.formed.framed (loop_yes_lem s c words (sheet_sound s h) v), λ v. sum_told (core_of s) words c v sum g.1.1.0)
told (loop_no s c words) t =
    let g = each (tests (loop_no s c words)) t in
    let h = sound_told s g.0 in
    let b = valid_test (core_of s) c words in
    loop_rest s c words (answer 12 0 0) h.formed.framed (loop_no_lem s c words (sheet_sound s h) (λ v. T_not b g.1.0 (subst T (sym (Lt.test_complete (core_of s) c words v)) tt)))
told (moves s lags moved) t =
    let g = each (tests (moves s lags moved)) t in
    let h = sound_told s g.0 in
    λ l k. moves_right s lags l h (leb→le (blocks_in s) (length lags) g.1.0) k (permitted_told (core_of s) (lags_in lags) g.1.1.0) moved g.1.1.1.0
told (leaves s lags place) t =
    let g = each (tests (leaves s lags place)) t in
    let h = sound_told s g.0 in
    λ l k. leaves_right s lags l h (leb→le (blocks_in s) (length lags) g.1.0) k place g.1.1.0

pub test_sound : (x : Line) → test x ≡ true → right x
test_sound x e = told x (subst T (sym e) tt)
