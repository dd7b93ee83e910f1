-- Demands 2 and 3 as far as moves go, on bytes, through the questions' own promises.
-- Assumes nothing.
use Rattle.std.specs.Prelude.{◌≡◌, refl, ◌↔◌, List, [], ◌∷◌, ◌++◌, ℕ, ◌+◌, ◌*◌, ◌≤◌, ◌<◌, ℤ, pos, ◌+ℤ◌, ◌-ℤ◌, length, get_or, take}
use Rattle.std.proofs.Common.{sym, ap, ◌∙◌, subst, inl, inr, arith}
use Rattle.std.specs.Int.Signed.{mag}
use Rattle.sheet.specs.Core.{core_of, blocks_in, lower_in, upper_in, from_in, to_in, registers_in}
use Rattle.sheet.specs.Rules.{Rule, First, answer, stage}
use Rattle.sheet.specs.Sheet.{FormedSheet, frame_rules}
use Rattle.sheet.specs.Laws.Rules.{skip_stage, past_stage, NonZero, place_nonzero}
use Rattle.sheet.specs.Laws.Sheet.{framed_none}
use Rattle.sheet.specs.Laws.Formed.{formed_core, frame_nonzero}
use Rattle.sheet.specs.declared.answer.Answer.{Answer}
use Rattle.paths.specs.Path.{Step, Walks, walked}
use Rattle.paths.specs.Table.{Entry, best, none}
use Rattle.paths.specs.Questions.{SoundSheet, sound_rules, room_rules, CheckRight}
use Rattle.tables.specs.Questions.{TableOutcome, TableRight}
use Rattle.paths.specs.Laws.Questions.{sound_nonzero, room_nonzero, sound_sheet, sheet_sound, sound_checks}
use Rattle.tables.specs.Laws.Questions.{table_means}
use Rattle.tables.specs.Laws.Entry.{entry_unique}
use Rattle.paths.specs.Laws.Same.{same_sym, joins_same}
use Rattle.moves.specs.Lags.{lags_in, InRange, Permitted, Meets, Larger, Smaller}
use Rattle.moves.specs.Move.{MovedSheet, lag_rules, MoveOutcome, move_outcome, MoveDone, move_after_frame, MoveRight}
use Rattle.moves.specs.Laws.Questions.{none_permitted, permitted_none}
use Rattle.moves.specs.Laws.Written.{lag_fits}
use Rattle.moves.specs.Laws.Lags.{closed_walk_kept}
use Rattle.moves.specs.Laws.Moved.{same_wires, range_after, loop_unmoved, entry_moved, permitted_after, permitted_before, meets_after, meets_before}
use Rattle.moves.specs.Laws.Sheets.{same_blocks, moved_core, moved_formed, moved_unique, moves_compose, moved_by_zeros}
use Rattle.moves.specs.Laws.Lattice.{meets_larger, meets_smaller}
use Rattle.sheet.specs.Bytes.{Bytes}

lag_nonzero : (s : List ℕ) (r : ℕ → ℤ) → NonZero (lag_rules s r)
lag_nonzero s r = (place_nonzero _ _ (λ b. answer 8 b 0) (λ b. omega arith), (place_nonzero _ _ (λ j. answer 9 j 0) (λ j. omega arith), tt))

module _ (s : List ℕ) (lags : List ℤ) (l : List ℕ) where
  abbrev pub keep : Answer → MoveOutcome
  keep a = move_outcome a l

  abbrev pub says : MoveOutcome → Answer
  says o = o.says

  abbrev pub room : List (Rule Answer)
  room = room_rules (length lags) (blocks_in s) (length l) (length s)

  abbrev pub last : List (Rule MoveOutcome)
  last = record { when = Unit {0}; gives = MoveDone s (lags_in lags) l } ∷ []

  abbrev pub after_sound : List (Rule MoveOutcome)
  after_sound = stage keep (lag_rules s (lags_in lags)) ++ last

  -- ---- what an answer 0 means
  pub record MoveMeans (o : MoveOutcome) : Type 0 where
    pub sound : SoundSheet s
    pub permitted : Permitted (core_of s) (lags_in lags)
    pub done : MoveDone s (lags_in lags) l o

  last_done : (o : MoveOutcome) → First last o → MoveDone s (lags_in lags) l o
  last_done o (inl g) = g.1
  last_done o (inr g) = absurd (g.0 tt)

  pub move_means : (o : MoveOutcome) → MoveRight s lags l o → o.says.number ≡ 0 → MoveMeans o
  move_means o h z =
      let p = past_stage keep says (λ a. refl) (frame_rules s) (move_after_frame s lags l) o (frame_nonzero s) z h in
      let q = past_stage keep says (λ a. refl) room (stage keep (sound_rules s) ++ after_sound) o (room_nonzero (length lags) (blocks_in s) (length l) (length s)) z p.1 in
      let t = past_stage keep says (λ a. refl) (sound_rules s) after_sound o (sound_nonzero s) z q.1 in
      let k = past_stage keep says (λ a. refl) (lag_rules s (lags_in lags)) last o (lag_nonzero s (lags_in lags)) z t.1 in
      record { sound = sound_sheet s p.0 t.0; permitted = none_permitted s (lags_in lags) k.0; done = last_done o k.1 }

-- a lag outside its range is refused with 8
first_eight : (s : List ℕ) (t : List ℤ) (l : List ℕ) (o : MoveOutcome) (b : ℕ) → b < blocks_in s → (InRange (core_of s) (lags_in t) b → ⊥)
    → First (stage (λ a. move_outcome a l) (lag_rules s (lags_in t)) ++ last s t l) o → o.says.number ≡ 8
first_eight s t l o b h out (inl f) =
    let g = f.1 in
    ap (λ (x : MoveOutcome). x.says.number) g.2 ∙ ap (λ (x : Answer). x.number) g.1.3
first_eight s t l o b h out (inr f) = absurd (f.0 (b, h, out))

-- permitted lags move a sound sheet, where the lists are long enough
pub permitted_moves : (s : List ℕ) (lags : List ℤ) (l : List ℕ) (o : MoveOutcome) → SoundSheet s → Permitted (core_of s) (lags_in lags) → blocks_in s ≤ length lags → length s ≤ length l
    → MoveRight s lags l o → MoveDone s (lags_in lags) l o
permitted_moves s lags l o h p g k f =
    last_done s lags l o
    (skip_stage (keep s lags l) (lag_rules s (lags_in lags)) (last s lags l) o (permitted_none s (lags_in lags) p)
    (skip_stage (keep s lags l) (sound_rules s) (after_sound s lags l) o (sheet_sound s h)
    (skip_stage (keep s lags l) (room s lags l) (stage (keep s lags l) (sound_rules s) ++ after_sound s lags l) o (λ w. omega arith, (λ w. omega arith, tt))
    (skip_stage (keep s lags l) (frame_rules s) (move_after_frame s lags l) o (framed_none s h.formed.framed) f))))

-- lags that agree on the blocks move a sheet alike
pub moved_alike : (s : List ℕ) → FormedSheet s → (q r : ℕ → ℤ) (t : List ℕ) → ((b : ℕ) → b < blocks_in s → q b ≡ r b) → MovedSheet s q t → MovedSheet s r t
moved_alike s f q r t e m = record {
  bytes = m.bytes;
  long = m.long;
  header = m.header;
  delay = m.delay;
  lower_is = λ b h. m.lower_is b h ∙ ap (λ (x : ℤ). lower_in s b -ℤ x) (e b h);
  upper_is = λ b h. m.upper_is b h ∙ ap (λ (x : ℤ). upper_in s b -ℤ x) (e b h);
  ends = m.ends;
  registers_is = λ j h.
      m.registers_is j h
      ∙ ap (λ (x : ℤ). pos (registers_in s j) +ℤ x -ℤ q (from_in s j)) (e (to_in s j) (f.wire j h).to_block)
      ∙ ap (λ (x : ℤ). pos (registers_in s j) +ℤ r (to_in s j) -ℤ x) (e (from_in s j) (f.wire j h).from_block);
  spare = m.spare;
}

-- ---- the moved sheet of a sound sheet is sound
pub moved_sound : (s : List ℕ) (r : ℕ → ℤ) (t : List ℕ) → SoundSheet s → Permitted (core_of s) r → MovedSheet s r t → SoundSheet t
moved_sound s r t h p mv = record {
  formed = moved_formed s r t mv h.formed p;
  free = λ b l. h.free b (loop_unmoved (core_of s) (core_of t) r (moved_core s r t mv) b l);
}

module _ (s : List ℕ) (lags : List ℤ) (l : List ℕ) (o : MoveOutcome) (h : MoveRight s lags l o) (z : o.says.number ≡ 0) where
  abbrev r : ℕ → ℤ
  r = lags_in lags

  abbrev s' : List ℕ
  s' = take (length s) o.moved

  means : MoveMeans s lags l o
  means = move_means s lags l o h z

  mv : MovedSheet s (lags_in lags) (take (length s) o.moved)
  mv = means.done.moved_sheet

  -- T6, demand 2: every closed walk keeps its registers
  pub walk_kept : (u : ℕ) (xs : List Step) → Walks (core_of s).shape u xs u → walked (core_of s').registers xs ≡ walked (core_of s).registers xs
  walk_kept u xs k = closed_walk_kept (core_of s) r (core_of s').registers mv.registers_is u xs k

  -- T8: check answers 0 on the moved sheet
  pub moved_checks : CheckRight s' (answer 0 0 0)
  moved_checks = sound_checks s' (moved_sound s r s' means.sound means.permitted mv)

  -- T8: its table is the old one, with W + r(v) - r(u) and the same D where a path exists, and no-path pairs as they were
  pub record EntryMoved (u v W D W' D' : ℕ) : Type 0 where
    pub delay_same : D' ≡ D
    pub registers_moved : (W < 4294967295) → pos W' ≡ pos W +ℤ r v -ℤ r u
    pub none_same : W ≡ 4294967295 → W' ≡ 4294967295

  entry_by : (u v W D W' D' : ℕ) → u < blocks_in s → v < blocks_in s → Entry (core_of s).shape (core_of s).registers u v W D → Entry (core_of s').shape (core_of s').registers u v W' D' → EntryMoved u v W D W' D'
  entry_by u v W D W' D' hu hv (best b) e =
      let q = entry_moved (core_of s) (core_of s') r (moved_core s r s' mv) (formed_core s means.sound.formed) means.permitted (λ j k. omega arith) u v W D (best b) in
      let w = entry_unique (core_of s').shape (core_of s').registers u v W' D' q.0 D e q.1 in
      record {
        delay_same = w.1;
        registers_moved = λ k. ap pos w.0 ∙ q.2 b.way.wires b.way.joins;
        none_same = λ k. absurd (omega (arith, b.small));
      }
  entry_by u v W D W' D' hu hv (none g x y) (best b) =
      absurd (g b.way.wires (joins_same (same_sym (same_wires (core_of s) (core_of s') r (moved_core s r s' mv))) u b.way.wires v b.way.joins))
  entry_by u v W D W' D' hu hv (none g x y) (none g' x' y') =
      record { delay_same = y' ∙ sym y; registers_moved = λ k. absurd (omega arith); none_same = λ k. x' }

  pub table_moved : (r₀ d₀ r₁ d₁ : List ℕ) (a b : TableOutcome) → TableRight s r₀ d₀ a → a.says.number ≡ 0 → TableRight s' r₁ d₁ b → b.says.number ≡ 0
      → (u v : ℕ) → u < blocks_in s → v < blocks_in s
      → EntryMoved u v (get_or a.registers (u * blocks_in s + v) 0) (get_or a.delays (u * blocks_in s + v) 0) (get_or b.registers (u * blocks_in s + v) 0) (get_or b.delays (u * blocks_in s + v) 0)
  table_moved r₀ d₀ r₁ d₁ a b ha za hb zb u v hu hv =
      let n = same_blocks s r s' mv in
      let ta = (table_means s r₀ d₀ a ha za).1 in
      let tb = (table_means s' r₁ d₁ b hb zb).1 in
      entry_by u v _ _ _ _ hu hv (ta.table u v hu hv)
      (subst (λ (k : ℕ). Entry (core_of s').shape (core_of s').registers u v (get_or b.registers (u * k + v) 0) (get_or b.delays (u * k + v) 0)) n (tb.table u v (omega (arith, n)) (omega (arith, n))))

  -- T9: lags on the moved sheet are permitted, or meet a period, exactly if the sums are and do on the sheet
  pub second_permitted : (t : ℕ → ℤ) → Permitted (core_of s') t ↔ Permitted (core_of s) (λ b. r b +ℤ t b)
  second_permitted t =
      let c = moved_core s r s' mv in
      let f = formed_core s means.sound.formed in
      (permitted_after (core_of s) (core_of s') r c f t, permitted_before (core_of s) (core_of s') r c f t)

  pub second_meets : (p : ℕ) (t : ℕ → ℤ) → Meets (core_of s') p t ↔ Meets (core_of s) p (λ b. r b +ℤ t b)
  second_meets p t =
      let c = moved_core s r s' mv in
      let f = formed_core s means.sound.formed in
      (meets_after (core_of s) (core_of s') r c f t p, meets_before (core_of s) (core_of s') r c f t p)

  -- T9: both routes give one sheet, byte for byte
  pub one_sheet : (t q : List ℤ) (l₂ l₃ : List ℕ) (o₂ o₃ : MoveOutcome) → MoveRight s' t l₂ o₂ → o₂.says.number ≡ 0 → MoveRight s q l₃ o₃ → o₃.says.number ≡ 0
      → ((b : ℕ) → b < blocks_in s → lags_in q b ≡ r b +ℤ lags_in t b) → take (length s') o₂.moved ≡ take (length s) o₃.moved
  one_sheet t q l₂ l₃ o₂ o₃ h₂ z₂ h₃ z₃ e =
      let m₂ = move_means s' t l₂ o₂ h₂ z₂ in
      let m₃ = move_means s q l₃ o₃ h₃ z₃ in
      let f = means.sound.formed in
      let x = moves_compose s f r (lags_in t) s' (take (length s') o₂.moved) mv m₂.done.moved_sheet in
      let y = moved_alike s f (lags_in q) (λ b. r b +ℤ lags_in t b) (take (length s) o₃.moved) e m₃.done.moved_sheet in
      moved_unique s f (λ b. r b +ℤ lags_in t b) (take (length s') o₂.moved) (take (length s) o₃.moved) x y

  -- where some sum is no i16, moving the moved sheet by t is refused with 8
  sum_out : (t : List ℤ) (b : ℕ) → b < blocks_in s → 32768 ≤ mag (r b +ℤ lags_in t b) → InRange (core_of s') (lags_in t) b → ⊥
  sum_out t b k g i =
      let c = moved_core s r s' mv in
      let f = means.sound.formed in
      omega (arith, lag_fits s f (λ k. r k +ℤ lags_in t k) b k (range_after (core_of s) (core_of s') r c (formed_core s f) (lags_in t) b k i))

  pub sum_refused : (t : List ℤ) (l₂ : List ℕ) (o₂ : MoveOutcome) → MoveRight s' t l₂ o₂ → blocks_in s ≤ length t → length s ≤ length l₂
      → (b : ℕ) → b < blocks_in s → 32768 ≤ mag (r b +ℤ lags_in t b) → o₂.says.number ≡ 8
  sum_refused t l₂ o₂ h₂ lt ll b k g =
      let n = same_blocks s r s' mv in
      let y = moved_sound s r s' means.sound means.permitted mv in
      let k₂ : Answer → MoveOutcome = λ a. move_outcome a l₂ in
      let room₂ = room_rules (length t) (blocks_in s') (length l₂) (length s') in
      let last₂ = last s' t l₂ in
      let after₂ = stage k₂ (lag_rules s' (lags_in t)) ++ last₂ in
      let p = skip_stage k₂ (frame_rules s') (move_after_frame s' t l₂) o₂ (framed_none s' y.formed.framed) h₂ in
      let q = skip_stage k₂ room₂ (stage k₂ (sound_rules s') ++ after₂) o₂ (λ w. omega (arith, n), (λ w. omega (arith, mv.long), tt)) p in
      let w = skip_stage k₂ (sound_rules s') after₂ o₂ (sheet_sound s' y) q in
      first_eight s' t l₂ o₂ b (omega (arith, n)) (sum_out t b k g) w

-- ---- T11 on a sheet, and the move by zeros
module _ (s : List ℕ) (h : SoundSheet s) (p : ℕ) (r t q : ℕ → ℤ) (a : Meets (core_of s) p r) (b : Meets (core_of s) p t) where
  pub larger_meets : ((k : ℕ) → k < blocks_in s → Larger (r k) (t k) (q k)) → Meets (core_of s) p q
  larger_meets = meets_larger (core_of s) (formed_core s h.formed) p r t q a b

  pub smaller_meets : ((k : ℕ) → k < blocks_in s → Smaller (r k) (t k) (q k)) → Meets (core_of s) p q
  smaller_meets = meets_smaller (core_of s) (formed_core s h.formed) p r t q a b

pub zeros_move : (s : List ℕ) (lags : List ℤ) (l : List ℕ) (o : MoveOutcome) → Bytes s → ((b : ℕ) → b < blocks_in s → lags_in lags b ≡ pos 0)
    → MoveRight s lags l o → o.says.number ≡ 0 → take (length s) o.moved ≡ s
zeros_move s lags l o y e h z =
    let m = move_means s lags l o h z in
    let f = m.sound.formed in
    moved_unique s f (λ b. pos 0) (take (length s) o.moved) s (moved_alike s f (lags_in lags) (λ b. pos 0) (take (length s) o.moved) e m.done.moved_sheet) (moved_by_zeros s y)
