-- T11: of two lag lists that meet a period, the list of larger and the list of smaller lags meet it too.
-- Assumes nothing.
use Rattle.std.specs.Prelude.{◌≡◌, refl, ◌⊎◌, List, ℕ, ◌+◌, ◌≤◌, ◌<◌, ℤ, pos, negsuc, ◌+ℤ◌, ◌≤ℤ◌}
use Rattle.std.proofs.Common.{sym, ap, inl, inr, arith}
use Rattle.sheet.specs.Core.{Core}
use Rattle.sheet.specs.Sheet.{Formed}
use Rattle.sheet.specs.Integer.{up, down}
use Rattle.sheet.specs.Laws.Integer.{plus, minus, le_parts, parts_le, parts_eq}
use Rattle.paths.specs.Path.{Joins, registers_on, delay_on}
use Rattle.paths.specs.Laws.Path.{joins_start_lt, joins_end_lt}
use Rattle.moves.specs.Lags.{moved_by, InRange, Permitted, MovedTo, Meets, Larger, Smaller}
use Rattle.moves.specs.Laws.Lags.{telescope}

-- permitted lags move every wire to a number of registers
pub moved_to : (c : Core) (r : ℕ → ℤ) → Permitted c r → MovedTo c r (λ j. up (moved_by c r j))
moved_to c r p j h =
    parts_eq (pos (up (moved_by c r j))) (moved_by c r j) (omega (arith, non_negative (moved_by c r j) (omega (arith, le_parts (pos 0) (moved_by c r j) (p.fits j h).0))))
  where
    non_negative : (z : ℤ) → down z ≤ up z → down z ≡ 0
    non_negative (pos k) h = refl
    non_negative (negsuc k) h = absurd (omega arith)

-- ---- a wire's limits, from lags that are no smaller at one end and no larger at the other
module _ (c : Core) (j : ℕ) where
  abbrev a : ℕ
  a = c.shape.from j

  abbrev b : ℕ
  b = c.shape.to j

  pub value : (r : ℕ → ℤ) → up (moved_by c r j) + up (r a) + down (r b) ≡ c.registers j + up (r b) + down (r a) + down (moved_by c r j)
  value r = omega (arith, minus (pos (c.registers j) +ℤ r b) (r a), plus (pos (c.registers j)) (r b))

  keeps_low : (r q : ℕ → ℤ) → r b ≤ℤ q b → q a ≤ℤ r a → pos 0 ≤ℤ moved_by c r j → pos 0 ≤ℤ moved_by c q j
  keeps_low r q h k l =
      parts_le (pos 0) (moved_by c q j) (omega (arith, value r, value q, le_parts (r b) (q b) h, le_parts (q a) (r a) k, le_parts (pos 0) (moved_by c r j) l))

  keeps_high : (r q : ℕ → ℤ) → q b ≤ℤ r b → r a ≤ℤ q a → moved_by c r j ≤ℤ pos (c.ceiling j) → moved_by c q j ≤ℤ pos (c.ceiling j)
  keeps_high r q h k l =
      parts_le (moved_by c q j) (pos (c.ceiling j)) (omega (arith, value r, value q, le_parts (q b) (r b) h, le_parts (r a) (q a) k, le_parts (moved_by c r j) (pos (c.ceiling j)) l))

same_le : (x y : ℤ) → x ≡ y → x ≤ℤ y
same_le x y e = parts_le x y (omega (arith, ap up e, ap down e))

range_one : (c : Core) (r s q : ℕ → ℤ) (b : ℕ) → InRange c r b → InRange c s b → (q b ≡ r b) ⊎ (q b ≡ s b) → InRange c q b
range_one c r s q b h k (inl e) = rw e h
range_one c r s q b h k (inr e) = rw e k

module _ (c : Core) (f : Formed c) (r s q : ℕ → ℤ) where
  -- ---- a path that lost all its registers under q had lost them under r, where q keeps r at one end
  module _ (p : ℕ) (h : Meets c p r) (x : ℕ → ℕ) (m : MovedTo c q x) (u v : ℕ) (ws : List ℕ) (k : Joins c.shape u ws v) (z : registers_on x ws ≡ 0) where
    quick_by : r v ≤ℤ q v → q u ≤ℤ r u → delay_on c.shape u ws ≤ p
    quick_by g l =
        let y : ℕ → ℕ = λ j. up (moved_by c r j) in
        let my = moved_to c r h.permitted in
        h.quick y my u v ws k
        (omega (arith, telescope c r y my u ws v k, telescope c q x m u ws v k, le_parts (r v) (q v) g, le_parts (q u) (r u) l))

  module _ (g : (b : ℕ) → b < c.shape.n → Larger (r b) (s b) (q b)) where
    pub permitted_larger : Permitted c r → Permitted c s → Permitted c q
    permitted_larger h k = record {
      in_range = λ b l. range_one c r s q b (h.in_range b l) (k.in_range b l) (g b l).one_of;
      fits = λ j l.
          let ga = g (c.shape.from j) (f.from_block j l) in
          let gb = g (c.shape.to j) (f.to_block j l) in (
            elim ga.one_of [
              | inl e ↦ keeps_low c j r q gb.above_first (same_le _ _ e) (h.fits j l).0
              | inr e ↦ keeps_low c j s q gb.above_second (same_le _ _ e) (k.fits j l).0
            ],
            elim gb.one_of [
              | inl e ↦ keeps_high c j r q (same_le _ _ e) ga.above_first (h.fits j l).1
              | inr e ↦ keeps_high c j s q (same_le _ _ e) ga.above_second (k.fits j l).1
            ],
          );
    }

  module _ (g : (b : ℕ) → b < c.shape.n → Smaller (r b) (s b) (q b)) where
    pub permitted_smaller : Permitted c r → Permitted c s → Permitted c q
    permitted_smaller h k = record {
      in_range = λ b l. range_one c r s q b (h.in_range b l) (k.in_range b l) (g b l).one_of;
      fits = λ j l.
          let ga = g (c.shape.from j) (f.from_block j l) in
          let gb = g (c.shape.to j) (f.to_block j l) in (
            elim gb.one_of [
              | inl e ↦ keeps_low c j r q (same_le _ _ (sym e)) ga.below_first (h.fits j l).0
              | inr e ↦ keeps_low c j s q (same_le _ _ (sym e)) ga.below_second (k.fits j l).0
            ],
            elim ga.one_of [
              | inl e ↦ keeps_high c j r q gb.below_first (same_le _ _ (sym e)) (h.fits j l).1
              | inr e ↦ keeps_high c j s q gb.below_second (same_le _ _ (sym e)) (k.fits j l).1
            ],
          );
    }

module _ (c : Core) (f : Formed c) (p : ℕ) (r s q : ℕ → ℤ) (h : Meets c p r) (k : Meets c p s) where
  pub meets_larger : ((b : ℕ) → b < c.shape.n → Larger (r b) (s b) (q b)) → Meets c p q
  meets_larger g = record {
    permitted = permitted_larger c f r s q g h.permitted k.permitted;
    quick = λ x m u v ws j z.
        let gu = g u (joins_start_lt c.shape u ws v j) in
        let gv = g v (joins_end_lt c.shape u ws v j) in
        elim gu.one_of [
          | inl e ↦ quick_by c f r s q p h x m u v ws j z gv.above_first (same_le _ _ e)
          | inr e ↦ quick_by c f s r q p k x m u v ws j z gv.above_second (same_le _ _ e)
        ];
  }

  pub meets_smaller : ((b : ℕ) → b < c.shape.n → Smaller (r b) (s b) (q b)) → Meets c p q
  meets_smaller g = record {
    permitted = permitted_smaller c f r s q g h.permitted k.permitted;
    quick = λ x m u v ws j z.
        let gu = g u (joins_start_lt c.shape u ws v j) in
        let gv = g v (joins_end_lt c.shape u ws v j) in
        elim gv.one_of [
          | inl e ↦ quick_by c f r s q p h x m u v ws j z (same_le _ _ (sym e)) gu.below_first
          | inr e ↦ quick_by c f s r q p k x m u v ws j z (same_le _ _ (sym e)) gu.below_second
        ];
  }
