-- How the question path table ends.
-- Assumes nothing.
use Rattle.std.specs.Prelude.{◌≡◌, refl, List, [], ◌∷◌, ◌++◌, ℕ, ◌*◌, length}
use Rattle.std.proofs.Common.{inl, inr, arith}
use Rattle.sheet.specs.Core.{blocks_in, registers_in, shape_of}
use Rattle.sheet.specs.Rules.{Rule, First, None, answer, stage}
use Rattle.sheet.specs.Sheet.{Framed, frame_rules}
use Rattle.sheet.specs.Laws.Rules.{ends, goes_on, past_stage}
use Rattle.sheet.specs.Laws.Sheet.{framed_none}
use Rattle.sheet.specs.Laws.Formed.{frame_nonzero}
use Rattle.sheet.specs.declared.answer.Answer.{Answer}
use Rattle.paths.specs.Laws.Questions.{sound_nonzero, room_nonzero, sound_sheet}
use Rattle.tables.specs.Row.{Rows}
use Rattle.paths.specs.Questions.{SoundSheet, sound_rules, room_rules}
use Rattle.tables.specs.Questions.{TableOutcome, table_outcome, TableDone, table_after_frame, TableRight}

-- ---- path table
module _ (s r d : List ℕ) where
  abbrev pub keep : Answer → TableOutcome
  keep a = table_outcome a r d

  abbrev pub room : List (Rule Answer)
  room = room_rules (length r) (blocks_in s * blocks_in s) (length d) (blocks_in s * blocks_in s)

  abbrev pub last : List (Rule TableOutcome)
  last = record { when = Unit {0}; gives = TableDone s r d } ∷ []

  pub table_refused : (a : Answer) → First (frame_rules s) a → TableRight s r d (table_outcome a r d)
  table_refused a f = ends keep (frame_rules s) (table_after_frame s r d) a f

  pub table_rest : (o : TableOutcome) → Framed s → First (table_after_frame s r d) o → TableRight s r d o
  table_rest o f h = goes_on keep (frame_rules s) (table_after_frame s r d) o (framed_none s f) h

  pub table_short : (a : Answer) → First room a → First (table_after_frame s r d) (table_outcome a r d)
  table_short a f = ends keep room (stage keep (sound_rules s) ++ last) a f

  module _ (roomy : None room) where
    pub table_unsound : (a : Answer) → First (sound_rules s) a → First (table_after_frame s r d) (table_outcome a r d)
    table_unsound a f =
        goes_on keep room (stage keep (sound_rules s) ++ last) (table_outcome a r d) roomy (ends keep (sound_rules s) last a f)

    pub table_sound : (n : ℕ) → n ≡ blocks_in s → (r' d' : List ℕ) → None (sound_rules s) → Rows (shape_of s) (registers_in s) n r d r' d' → First (table_after_frame s r d) (table_outcome (answer 0 0 0) r' d')
    table_sound n n_is r' d' k t =
        goes_on keep room (stage keep (sound_rules s) ++ last) _ roomy
        (goes_on keep (sound_rules s) last _ k (inl (
          tt,
          record {
            says_done = refl;
            table = λ u v a b. t.entry u v (omega (arith, n_is)) b;
            registers_kept = t.ws_kept;
            delays_kept = t.ds_kept;
          },
        )))

-- path table answers 0 only with the table of a sound sheet
pub table_means : (s r d : List ℕ) (o : TableOutcome) → TableRight s r d o → o.says.number ≡ 0 → SoundSheet s × TableDone s r d o
table_means s r d o h z =
    let k : Answer → TableOutcome = λ a. table_outcome a r d in
    let y : TableOutcome → Answer = λ x. x.says in
    let room = room_rules (length r) (blocks_in s * blocks_in s) (length d) (blocks_in s * blocks_in s) in
    let p = past_stage k y (λ a. refl) (frame_rules s) (table_after_frame s r d) o (frame_nonzero s) z h in
    let q = past_stage k y (λ a. refl) room (stage k (sound_rules s) ++ (record { when = Unit; gives = TableDone s r d } ∷ [])) o (room_nonzero (length r) (blocks_in s * blocks_in s) (length d) (blocks_in s * blocks_in s)) z p.1 in
    let t = past_stage k y (λ a. refl) (sound_rules s) (record { when = Unit; gives = TableDone s r d } ∷ []) o (sound_nonzero s) z q.1 in
    (sound_sheet s p.0 t.0, last_done s r d o t.1)
  where
    last_done : (s r d : List ℕ) (o : TableOutcome) → First (record { when = Unit {0}; gives = TableDone s r d } ∷ []) o → TableDone s r d o
    last_done s r d o (inl g) = g.1
    last_done s r d o (inr g) = absurd (g.0 tt)
