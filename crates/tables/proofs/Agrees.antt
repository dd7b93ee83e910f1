-- Two outcomes of the question path table are one. It rests on every field of what a done table promises.
-- Assumes nothing.
use Rattle.std.specs.Prelude.{◌≡◌, List, ◌++◌, ℕ, ◌+◌, ◌*◌, ◌/◌, ◌%◌, ◌<◌, get_or}
use Rattle.std.proofs.Common.{sym, ap, ◌∙◌, arith, div-add-mod', div-lt_iff_lt-mul, mod-lt, ext_get_or}
use Rattle.std.proofs.Math.Decide.{ℕ_discrete, dec_lt}
use Rattle.sheet.specs.Core.{blocks_in, registers_in, shape_of}
use Rattle.sheet.specs.Rules.{answer, stage}
use Rattle.sheet.specs.Sheet.{frame_rules}
use Rattle.sheet.specs.Laws.Rules.{agree, tight_both, stage_exact, refusal_exact}
use Rattle.sheet.specs.Laws.Formed.{frame_exact}
use Rattle.sheet.specs.declared.answer.Answer.{Answer}
use Rattle.paths.specs.Laws.Questions.{sound_exact}
use Rattle.paths.specs.Questions.{sound_rules, KeptFrom}
use Rattle.tables.specs.Questions.{TableOutcome, table_outcome, TableDone, table_after_frame, TableRight}
use Rattle.tables.specs.Laws.Entry.{entry_unique}
use Rattle.tables.specs.Laws.Questions.{keep, room, last}

module _ (s r d : List ℕ) where
  abbrev n : ℕ
  n = blocks_in s

  -- below n² both hold the table's entry, past it what was there
  row_of : (i : ℕ) → i < n * n → 0 < n
  row_of i h = elim (ℕ_discrete n 0) [ yes e ↦ absurd (omega (arith, h, ap (λ (k : ℕ). k * n) e)) | no e ↦ omega arith ]

  module _ (o p : TableOutcome) (a : TableDone s r d o) (b : TableDone s r d p) where
    same_entry : (i : ℕ) → i < n * n → (get_or o.registers i 0 ≡ get_or p.registers i 0) × (get_or o.delays i 0 ≡ get_or p.delays i 0)
    same_entry i h =
        let pos = row_of i h in
        let u : ℕ = i / n in
        let v : ℕ = i % n in
        let e : u * n + v ≡ i = div-add-mod' i n in
        let u_lt : u < n = (div-lt_iff_lt-mul pos).1 h in
        let v_lt : v < n = mod-lt i pos in
        rw (← e) (entry_unique (shape_of s) (registers_in s) u v _ _ _ _ (a.table u v u_lt v_lt) (b.table u v u_lt v_lt))

    same_list : (x y : List ℕ) (l : List ℕ) → KeptFrom (n * n) l x → KeptFrom (n * n) l y → ((i : ℕ) → i < n * n → get_or x i 0 ≡ get_or y i 0) → x ≡ y
    same_list x y l f g h =
        ext_get_or 0 x y (f.long ∙ sym g.long)
        (λ i k. elim (dec_lt i (n * n)) [ yes q ↦ h i q | no q ↦ f.past i (omega arith) ∙ sym (g.past i (omega arith)) ])

    same_outcome : o ≡ p
    same_outcome =
        let e = a.says_done ∙ sym b.says_done in
        let f = same_list o.registers p.registers r a.registers_kept b.registers_kept (λ i h. (same_entry i h).0) in
        let g = same_list o.delays p.delays d a.delays_kept b.delays_kept (λ i h. (same_entry i h).1) in
        ap (λ (x : Answer). table_outcome x o.registers o.delays) e
        ∙ ap (λ (x : List ℕ). table_outcome p.says x o.delays) f
        ∙ ap (λ (x : List ℕ). table_outcome p.says p.registers x) g

  pub table_agrees : (o p : TableOutcome) → TableRight s r d o → TableRight s r d p → o ≡ p
  table_agrees =
      agree ◌≡◌ (stage (keep s r d) (frame_rules s) ++ table_after_frame s r d)
      (tight_both ◌≡◌ (stage (keep s r d) (frame_rules s)) (table_after_frame s r d) (stage_exact (keep s r d) (frame_rules s) (frame_exact s))
      (tight_both ◌≡◌ (stage (keep s r d) (room s r d)) (stage (keep s r d) (sound_rules s) ++ (last s r d)) (stage_exact (keep s r d) (room s r d) (refusal_exact (answer 4 0 0), (refusal_exact (answer 4 1 0), tt)))
      (tight_both ◌≡◌ (stage (keep s r d) (sound_rules s)) (last s r d) (stage_exact (keep s r d) (sound_rules s) (sound_exact s)) (same_outcome, tt))))
