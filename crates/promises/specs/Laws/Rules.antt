-- T3: lags meet a period exactly if they keep all rules; from the table's promise alone.
-- Assumes nothing.
use Rattle.std.specs.Prelude.{◌≡◌, ◌↔◌, List, ℕ, ◌≤◌, ◌<◌, ℤ, pos, ◌-ℤ◌, ◌≤ℤ◌}
use Rattle.std.proofs.Common.{arith}
use Rattle.std.proofs.Math.Decide.{dec_le, ℕ_discrete}
use Rattle.sheet.specs.Core.{Core}
use Rattle.sheet.specs.Integer.{up}
use Rattle.sheet.specs.Laws.Integer.{minus, le_parts, parts_le}
use Rattle.paths.specs.Path.{Joins, registers_on, delay_on}
use Rattle.paths.specs.Table.{Best, Entry, best, none}
use Rattle.paths.specs.Laws.Path.{joins_start_lt, joins_end_lt}
use Rattle.moves.specs.Lags.{moved_by, MovedTo, Meets}
use Rattle.moves.specs.Laws.Lags.{telescope}
use Rattle.moves.specs.Laws.Lattice.{moved_to}
use Rattle.promises.specs.Rules.{Keeps}

module _ (c : Core) (p : ℕ) (r : ℕ → ℤ) where
  -- ---- lags that meet the period keep a register on each slow path
  pub meets_keeps : Meets c p r → Keeps c p r
  meets_keeps h = record { permitted = h.permitted; path = slow }
    where
      slow : (u v W D : ℕ) → Best c.shape c.registers u v W D → p < D → (r u -ℤ r v) ≤ℤ (pos W -ℤ pos 1)
      slow u v W D b l =
          let ws = b.way.wires in
          let x : ℕ → ℕ = λ j. up (moved_by c r j) in
          let mx = moved_to c r h.permitted in
          let t = telescope c r x mx u ws v b.way.joins in
          elim (ℕ_discrete (registers_on x ws) 0) [
            | yes z ↦ absurd (omega (arith, h.quick x mx u v ws b.way.joins z, b.way.delay_is))
            | no z ↦ parts_le (r u -ℤ r v) (pos W -ℤ pos 1) (omega (arith, t, b.way.registers_is, minus (r u) (r v), minus (pos W) (pos 1)))
          ]

  -- ---- a path that lost all its registers is as short on registers as any, so its delay is at most its entry's
  module _ (k : Keeps c p r) (x : ℕ → ℕ) (m : MovedTo c r x) (u v : ℕ) (ws : List ℕ) (j : Joins c.shape u ws v) (z : registers_on x ws ≡ 0) where
    by_entry : (W D : ℕ) → Best c.shape c.registers u v W D → Dec (D ≤ p) → delay_on c.shape u ws ≤ p
    by_entry W D b (yes l) =
        let t = telescope c r x m u ws v j in
        let t' = telescope c r x m u b.way.wires v b.way.joins in
        let e : registers_on c.registers ws ≡ W = omega (arith, t, t', b.way.registers_is, b.fewest ws j) in
        omega (arith, b.longest ws j e)
    by_entry W D b (no l) =
        let t = telescope c r x m u ws v j in
        let q = le_parts (r u -ℤ r v) (pos W -ℤ pos 1) (k.path u v W D b (omega arith)) in
        absurd (omega (arith, t, q, minus (r u) (r v), minus (pos W) (pos 1), b.fewest ws j))

    quick_by : (W D : ℕ) → Entry c.shape c.registers u v W D → delay_on c.shape u ws ≤ p
    quick_by W D (best b) = by_entry W D b (dec_le D p)
    quick_by W D (none f a d) = absurd (f ws j)

  module _ (Wt Dt : ℕ → ℕ → ℕ) (table : (u v : ℕ) → u < c.shape.n → v < c.shape.n → Entry c.shape c.registers u v (Wt u v) (Dt u v)) where
    pub keeps_meets : Keeps c p r → Meets c p r
    keeps_meets k = record {
      permitted = k.permitted;
      quick = λ x m u v ws j z. quick_by k x m u v ws j z (Wt u v) (Dt u v) (table u v (joins_start_lt c.shape u ws v j) (joins_end_lt c.shape u ws v j));
    }

    pub meets_iff_keeps : Meets c p r ↔ Keeps c p r
    meets_iff_keeps = (meets_keeps, keeps_meets)
