-- T2: the period is the largest delay among entries with 0 registers; and how the question period ends.
-- Assumes nothing.
use Rattle.std.specs.Prelude.{◌≡◌, refl, List, [], ◌∷◌, ◌++◌, ℕ, ◌+◌, ◌*◌, ◌≤◌, ◌<◌, get_or}
use Rattle.std.proofs.Common.{sym, ap, ◌∙◌, inl, arith}
use Rattle.sheet.specs.Core.{Shape, registers_in, shape_of}
use Rattle.sheet.specs.Rules.{Rule, First, None, answer}
use Rattle.sheet.specs.Sheet.{Framed, frame_rules}
use Rattle.sheet.specs.Laws.Rules.{agree, tight_both, first_left, first_right}
use Rattle.sheet.specs.Laws.Formed.{frame_exact}
use Rattle.sheet.specs.Laws.Sheet.{framed_none}
use Rattle.sheet.specs.declared.answer.Answer.{Answer}
use Rattle.paths.specs.Path.{Joins, registers_on, delay_on}
use Rattle.paths.specs.Table.{Period, Way, Entry, best, none, Table}
use Rattle.paths.specs.Questions.{sound_rules}
use Rattle.paths.specs.Laws.Path.{joins_start_lt, joins_end_lt}
use Rattle.paths.specs.Laws.Questions.{sound_exact}
use Rattle.paths.specs.Laws.Same.{SameWires, SameDelays, same_sym, joins_same, registers_same}
use Rattle.paths.proofs.Delays.{delay_same}
use Rattle.promises.specs.Questions.{PeriodDone, PeriodRight}

-- ---- T2
-- r is the largest delay among the entries with 0 registers, of n rows of n entries
pub record Longest (n : ℕ) (registers delays : List ℕ) (r : ℕ) : Type 0 where
  pub start : ℕ
  pub end : ℕ
  pub start_block : start < n
  pub end_block : end < n
  pub free : get_or registers (start * n + end) 0 ≡ 0
  pub here : get_or delays (start * n + end) 0 ≡ r
  pub most : (u v : ℕ) → u < n → v < n → get_or registers (u * n + v) 0 ≡ 0 → get_or delays (u * n + v) 0 ≤ r

module _ (s : Shape) (w : ℕ → ℕ) where
  entry_way : (u v W D r : ℕ) → Entry s w u v W D → W ≡ 0 → D ≡ r → Way s w u v 0 r
  entry_way u v W D r (best b) p q =
      record { wires = b.way.wires; joins = b.way.joins; registers_is = b.way.registers_is ∙ p; delay_is = b.way.delay_is ∙ q }
  entry_way u v W D r (none f a d) p q = absurd (omega arith)

  entry_most : (u v W D r : ℕ) (ws : List ℕ) → Joins s u ws v → registers_on w ws ≡ 0 → Entry s w u v W D → (W ≡ 0 → D ≤ r) → delay_on s u ws ≤ r
  entry_most u v W D r ws j z (best b) g = omega (arith, b.longest ws j (omega (arith, b.fewest ws j)), g (omega (arith, b.fewest ws j)))
  entry_most u v W D r ws j z (none f a d) g = absurd (f ws j)

  pub longest_period : (registers delays : List ℕ) (r : ℕ) → Table s w registers delays → Longest s.n registers delays r → Period s w r
  longest_period registers delays r t l = record {
    start = l.start;
    end = l.end;
    way = entry_way l.start l.end _ _ r (t l.start l.end l.start_block l.end_block) l.free l.here;
    largest = λ u v ws j z.
        let hu = joins_start_lt s u ws v j in
        let hv = joins_end_lt s u ws v j in
        entry_most u v _ _ r ws j z (t u v hu hv) (l.most u v hu hv);
  }

-- ---- agreement
pub period_unique : (s : List ℕ) (p q : ℕ) → Period (shape_of s) (registers_in s) p → Period (shape_of s) (registers_in s) q → p ≡ q
period_unique s p q a b =
    omega (
      arith,
      b.largest a.start a.end a.way.wires a.way.joins a.way.registers_is,
      a.way.delay_is,
      a.largest b.start b.end b.way.wires b.way.joins b.way.registers_is,
      b.way.delay_is,
    )

pub period_agrees : (s : List ℕ) (a b : Answer) → PeriodRight s a → PeriodRight s b → a ≡ b
period_agrees s =
    agree ◌≡◌ (frame_rules s ++ (sound_rules s ++ last)) (tight_both ◌≡◌ (frame_rules s) (sound_rules s ++ last) (frame_exact s) (tight_both ◌≡◌ (sound_rules s) last (sound_exact s) (one, tt)))
  where
    last : List (Rule Answer)
    last = record { when = Unit {0}; gives = PeriodDone s } ∷ []

    one : (a b : Answer) → PeriodDone s a → PeriodDone s b → a ≡ b
    one a b f g = f.2 ∙ ap (answer 0 0) (period_unique s f.0 g.0 f.1 g.1) ∙ sym g.2

-- ---- shapes that agree have one period
module _ {s t : Shape} {w x : ℕ → ℕ} (e : SameWires s t w x) (d : SameDelays s t) where
  pub period_same : (p : ℕ) → Period s w p → Period t x p
  period_same p q =
      let h = q.way.joins in
      record {
        start = q.start;
        end = q.end;
        way = record {
          wires = q.way.wires;
          joins = joins_same e q.start q.way.wires q.end h;
          registers_is = sym (registers_same e q.start q.way.wires q.end h) ∙ q.way.registers_is;
          delay_is = sym (delay_same e d q.start q.way.wires q.end h) ∙ q.way.delay_is;
        };
        largest = λ u v ws j z.
            let g = joins_same (same_sym e) u ws v j in
            omega (arith, q.largest u v ws g (registers_same e u ws v g ∙ z), delay_same e d u ws v g);
      }

-- ---- how the question period ends
module _ (s : List ℕ) where
  abbrev last : List (Rule Answer)
  last = record { when = Unit {0}; gives = PeriodDone s } ∷ []

  pub period_refused : (a : Answer) → First (frame_rules s) a → PeriodRight s a
  period_refused a f = first_left (frame_rules s) (sound_rules s ++ last) a f

  pub period_unsound : (a : Answer) → Framed s → First (sound_rules s) a → PeriodRight s a
  period_unsound a f h = first_right (frame_rules s) (sound_rules s ++ last) a (framed_none s f) (first_left (sound_rules s) last a h)

  pub period_found : (p : ℕ) → Framed s → None (sound_rules s) → Period (shape_of s) (registers_in s) p → PeriodRight s (answer 0 0 p)
  period_found p f h q =
      first_right (frame_rules s) (sound_rules s ++ last) (answer 0 0 p) (framed_none s f)
      (first_right (sound_rules s) last (answer 0 0 p) h (inl (tt, (p, q, refl))))
