-- How the two lag questions end, whatever their last rules are; and that two right outcomes are alike (T7).
-- Assumes nothing.
use Rattle.std.specs.Prelude.{◌≡◌, refl, ◌⊎◌, List, ◌++◌, ℕ, ◌+◌, ◌*◌, ◌≤◌, ◌<◌, ℤ, length}
use Rattle.std.proofs.Common.{ap, inl, inr, arith}
use Rattle.sheet.specs.Core.{Core, blocks_in, core_of}
use Rattle.sheet.specs.Rules.{Rule, First, None, Tight, Exact, answer, stage}
use Rattle.sheet.specs.Sheet.{Framed, Formed, frame_rules}
use Rattle.sheet.specs.Laws.Rules.{agree, tight_both, exact_tight, stage_exact, refusal_exact, ends, goes_on, skip_stage, unstage}
use Rattle.sheet.specs.Laws.Sheet.{framed_none}
use Rattle.sheet.specs.Laws.Formed.{frame_exact}
use Rattle.sheet.specs.declared.answer.Answer.{Answer}
use Rattle.paths.specs.Questions.{SoundSheet, sound_rules}
use Rattle.paths.specs.Laws.Questions.{sound_exact, sound_sheet, sheet_sound}
use Rattle.moves.specs.Lags.{lags_in, Permitted, Meets}
use Rattle.loops.specs.Laws.Out.{rules_out, rules_all_out}
use Rattle.promises.specs.Lags.{NonePermitted, LoopGiven, PlainLoop}
use Rattle.promises.specs.Questions.{LagsOutcome, lags_outcome, words_needed, lag_room, LagsDone, LagsRefused, lags_last, BestDone, best_last, Alike}

-- 01: "the two lag questions, n lags (i16), then n(n + 2) words (u16) for a loop": both lists are long enough
pub record LongLists (s : List ℕ) (l : List ℤ) (w : List ℕ) : Type 0 where
  pub lags_long : blocks_in s ≤ length l
  pub words_long : words_needed (blocks_in s) ≤ length w

-- an outcome is like itself
pub itself : (o : LagsOutcome) → Alike o o
itself o = record { number_same = refl; place_same = refl; lags_same = refl; words_long = refl; words_past = λ i g h. refl; else_same = λ a b. refl }

-- the refusals 1 to 7
numbered : (a b : Answer) → 1 ≤ b.number → b.number ≤ 7 → a ≡ b → (1 ≤ a.number) × (a.number ≤ 7)
numbered a b h g q = let f = ap (λ (x : Answer). x.number) q in (omega (arith, f), omega (arith, f))

module _ (s : List ℕ) (l : List ℤ) (w : List ℕ) (last : List (Rule LagsOutcome)) where
  abbrev keep : Answer → LagsOutcome
  keep a = lags_outcome a l w

  abbrev says : LagsOutcome → Answer
  says o = o.says

  abbrev after_room : List (Rule LagsOutcome)
  after_room = stage keep (sound_rules s) ++ last

  abbrev after_frame : List (Rule LagsOutcome)
  after_frame = stage keep (lag_room s l w) ++ after_room

  -- a lag question with these last rules: the outcome is right, and the same after a right header
  abbrev pub Asked : LagsOutcome → Type 0
  Asked o = First (stage keep (frame_rules s) ++ after_frame) o

  abbrev pub AskedAfter : LagsOutcome → Type 0
  AskedAfter o = First after_frame o

  -- ---- ways out: 1 to 3, and the rest after a right header
  pub asked_refused : (a : Answer) → First (frame_rules s) a → Asked (lags_outcome a l w)
  asked_refused a f = ends keep (frame_rules s) after_frame a f

  pub asked_rest : (o : LagsOutcome) → Framed s → AskedAfter o → Asked o
  asked_rest o f h = goes_on keep (frame_rules s) after_frame o (framed_none s f) h

  -- 4
  module _ (n : ℕ) (n_is : n ≡ blocks_in s) where
    needed : n * (n + 2) ≡ words_needed (blocks_in s)
    needed = rw n_is

    -- place "0 if the first list is, else 1"
    pub lags_short : length l < n → AskedAfter (lags_outcome (answer 4 0 0) l w)
    lags_short h = ends keep (lag_room s l w) after_room (answer 4 0 0) (inl (omega arith, refl))

    pub words_short : n ≤ length l → length w < n * (n + 2) → AskedAfter (lags_outcome (answer 4 1 0) l w)
    words_short g h = ends keep (lag_room s l w) after_room (answer 4 1 0) (inr (λ k. omega arith, inl (omega (arith, needed), refl)))

    module _ (g : n ≤ length l) (h : n * (n + 2) ≤ length w) where
      pub asked_roomy : None (lag_room s l w)
      asked_roomy = (λ k. omega arith, (λ k. omega (arith, needed), tt))

      -- 5 to 7, and the last rules
      pub asked_unsound : (a : Answer) → First (sound_rules s) a → AskedAfter (lags_outcome a l w)
      asked_unsound a f = goes_on keep (lag_room s l w) after_room (lags_outcome a l w) asked_roomy (ends keep (sound_rules s) last a f)

      pub asked_last : (o : LagsOutcome) → None (sound_rules s) → First last o → AskedAfter o
      asked_last o k f = goes_on keep (lag_room s l w) after_room o asked_roomy (goes_on keep (sound_rules s) last o k f)

  -- ---- what a right outcome says
  -- it was refused with 1 to 7, or the last rules were reached
  pub record Reached (o : LagsOutcome) : Type 0 where
    pub sound : SoundSheet s
    pub long : LongLists s l w
    pub ends_with : First last o

  -- on a sound sheet with long lists the last rules are reached
  pub asked_reached : SoundSheet s → LongLists s l w → (o : LagsOutcome) → Asked o → First last o
  asked_reached h long o f =
      skip_stage keep (sound_rules s) last o (sheet_sound s h)
      (skip_stage keep (lag_room s l w) after_room o (asked_roomy (blocks_in s) refl long.lags_long long.words_long)
      (skip_stage keep (frame_rules s) after_frame o (framed_none s h.formed.framed) f))

  -- refused with 1 to 7
  abbrev Early : LagsOutcome → Type 0
  Early o = (1 ≤ o.says.number) × (o.says.number ≤ 7)

  frame_early : (o : LagsOutcome) → First (frame_rules s) o.says → Early o
  frame_early o (inl f) = numbered o.says (answer 1 0 0) (omega arith) (omega arith) f.1
  frame_early o (inr (x, inl f)) = numbered o.says (answer 2 0 0) (omega arith) (omega arith) f.1
  frame_early o (inr (x, inr (y, inl f))) = numbered o.says (answer 3 0 0) (omega arith) (omega arith) f.1
  frame_early o (inr (x, inr (y, inr f))) = absurd f.1

  room_early : (o : LagsOutcome) → First (lag_room s l w) o.says → Early o
  room_early o (inl f) = numbered o.says (answer 4 0 0) (omega arith) (omega arith) f.1
  room_early o (inr (x, inl f)) = numbered o.says (answer 4 1 0) (omega arith) (omega arith) f.1
  room_early o (inr (x, inr f)) = absurd f.1

  sound_early : (o : LagsOutcome) → First (sound_rules s) o.says → Early o
  sound_early o (inl f) = numbered o.says (answer 5 f.1.0 0) (omega arith) (omega arith) f.1.3
  sound_early o (inr (x, inl f)) = numbered o.says (answer 6 f.1.0 0) (omega arith) (omega arith) f.1.3
  sound_early o (inr (x, inr (y, inl f))) = numbered o.says (answer 7 f.1.0 0) (omega arith) (omega arith) f.1.3
  sound_early o (inr (x, inr (y, inr f))) = absurd f.1

  -- where 4 does not apply the lists are long enough
  pub long_of : None (lag_room s l w) → LongLists s l w
  long_of n = record { lags_long = omega (arith, n.0); words_long = omega (arith, n.1.0) }

  -- one or the other
  pub asked_means : (o : LagsOutcome) → Asked o → ((1 ≤ o.says.number) × (o.says.number ≤ 7)) ⊎ Reached o
  asked_means o h = frame (unstage keep says (λ a. refl) (frame_rules s) after_frame o h)
    where
      sound : None (frame_rules s) → None (lag_room s l w) → First (sound_rules s) o.says ⊎ (None (sound_rules s) × First last o) → Early o ⊎ Reached o
      sound f g (inl k) = inl (sound_early o k)
      sound f g (inr k) = inr (record { sound = sound_sheet s f k.0; long = long_of g; ends_with = k.1 })

      room : None (frame_rules s) → First (lag_room s l w) o.says ⊎ (None (lag_room s l w) × First after_room o) → Early o ⊎ Reached o
      room f (inl k) = inl (room_early o k)
      room f (inr k) = sound f k.0 (unstage keep says (λ a. refl) (sound_rules s) last o k.1)

      frame : First (frame_rules s) o.says ⊎ (None (frame_rules s) × First after_frame o) → Early o ⊎ Reached o
      frame (inl k) = inl (frame_early o k)
      frame (inr k) = room k.0 (unstage keep says (λ a. refl) (lag_room s l w) after_room o k.1)

  -- ---- T7: right outcomes are alike if those that one of the last rules allows are
  exactly : (rs : List (Rule Answer)) → Exact rs → Tight Alike (stage keep rs)
  exactly rs e = exact_tight Alike itself (stage keep rs) (stage_exact keep rs e)

  pub asked_agrees : Tight Alike last → (o p : LagsOutcome) → Asked o → Asked p → Alike o p
  asked_agrees t =
      agree Alike (stage keep (frame_rules s) ++ after_frame)
      (tight_both Alike (stage keep (frame_rules s)) after_frame (exactly (frame_rules s) (frame_exact s))
      (tight_both Alike (stage keep (lag_room s l w)) after_room (exactly (lag_room s l w) (refusal_exact (answer 4 0 0), (refusal_exact (answer 4 1 0), tt)))
      (tight_both Alike (stage keep (sound_rules s)) last (exactly (sound_rules s) (sound_exact s)) t)))

-- ---- the last rules, one by one
module _ (s : List ℕ) (l : List ℤ) (w : List ℕ) (o : LagsOutcome) where
  -- best period: no permitted lags exist
  pub best_none : NonePermitted (core_of s) → LagsRefused s 10 (PlainLoop (core_of s)) l w o → First (best_last s l w) o
  best_none h r = inl (h, r)

  -- the least period with the largest lags that meet it
  pub best_done : BestDone s l w o → First (best_last s l w) o
  best_done d = inr (λ h. h d.least.lags d.least.met.permitted, inl (tt, d))

  module _ (c : ℕ) where
    -- lags at period c: no permitted lags exist
    pub lags_none : NonePermitted (core_of s) → LagsRefused s 10 (PlainLoop (core_of s)) l w o → First (lags_last s c l w) o
    lags_none h r = inl (h, r)

    -- permitted lags exist, none meets c
    pub lags_slow : (q : ℕ → ℤ) → Permitted (core_of s) q → ((r : ℕ → ℤ) → Meets (core_of s) c r → ⊥) → LagsRefused s 11 (LoopGiven (core_of s) c) l w o → First (lags_last s c l w) o
    lags_slow q p h r = inr (λ g. g q p, inl (record { lags = q; permitted = p; none = h }, r))

    -- the largest lags that meet c
    pub lags_done : LagsDone s c 0 l w o → First (lags_last s c l w) o
    lags_done d =
        let m = d.largest.meets in
        inr (λ h. h (lags_in o.lags) m.permitted, inr (λ h. h.none (lags_in o.lags) m, inl (tt, d)))

-- a loop given with 10 says that no permitted lags exist
pub plain_none : (c : Core) → Formed c → (words : List ℕ) → PlainLoop c words → NonePermitted c
plain_none c f words h = rules_all_out c f 0 words (h.given 0).valid (h.plain 0)

-- a loop given with 11 says that none meets the period
pub given_none : (c : Core) → Formed c → (p : ℕ) (words : List ℕ) → LoopGiven c p words → (r : ℕ → ℤ) → Meets c p r → ⊥
given_none c f p words h = rules_out c f p words h.valid
