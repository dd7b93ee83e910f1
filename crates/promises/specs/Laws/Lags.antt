-- T1: largest lags and the least period are unique; what a move does to them. All on cores. (That the least period is an
-- entry of the path table stands in proofs/Entries.)
-- Assumes nothing.
use Rattle.std.specs.Prelude.{◌≡◌, ◌⊎◌, ◌↔◌, ℕ, zero, suc, ◌≤◌, ◌<◌, ℤ, ◌+ℤ◌, ◌-ℤ◌}
use Rattle.std.proofs.Common.{subst, inl, inr, arith}
use Rattle.std.proofs.Math.Path.{fun_ext}
use Rattle.std.proofs.Math.Decide.{dec_lt}
use Rattle.sheet.specs.Core.{Core}
use Rattle.sheet.specs.Sheet.{Formed}
use Rattle.sheet.specs.Laws.Integer.{plus, minus, le_parts, parts_le, parts_eq}
use Rattle.paths.specs.Path.{registers_on}
use Rattle.paths.specs.Table.{Period}
use Rattle.paths.specs.Laws.Same.{same_sym, joins_same}
use Rattle.paths.proofs.Delays.{delay_same}
use Rattle.moves.specs.Lags.{Permitted, Meets, Moved}
use Rattle.moves.specs.Laws.Lags.{telescope}
use Rattle.moves.specs.Laws.Moved.{same_wires, same_delays, permitted_after, permitted_before, meets_after, meets_before}
use Rattle.promises.specs.Lags.{Largest, Least, NonePermitted, NoneMeets}

module _ (c : Core) where
  -- lags that meet a period meet every longer one
  pub meets_longer : (p q : ℕ) (r : ℕ → ℤ) → Meets c p r → p ≤ q → Meets c q r
  meets_longer p q r m h = record { permitted = m.permitted; quick = λ x mx u v ws j z. omega (arith, m.quick x mx u v ws j z) }

  -- 01: ""Largest" is one list"
  pub largest_unique : (p : ℕ) (r q : ℕ → ℤ) → Largest c p r → Largest c p q → (b : ℕ) → b < c.shape.n → r b ≡ q b
  largest_unique p r q a d b h =
      parts_eq (r b) (q b) (omega (arith, le_parts (q b) (r b) (a.largest q d.meets b h), le_parts (r b) (q b) (d.largest r a.meets b h)))

  -- there is one least period
  pub least_unique : (p q : ℕ) → Least c p → Least c q → p ≡ q
  least_unique p q a b = omega (arith, a.least q b.lags b.met, b.least p a.lags a.met)

  -- lags that are the largest at a period are the largest at each shorter one that they meet
  pub largest_least : (p q : ℕ) (r : ℕ → ℤ) → Largest c q r → p ≤ q → Meets c p r → Largest c p r
  largest_least p q r a h m = record { meets = m; largest = λ t k b l. a.largest t (meets_longer p q t k h) b l }

-- ---- a search below m: an index with the property, or none has it
pub below_some : (P : ℕ → Type 0) (m : ℕ) → ((k : ℕ) → k < m → P k ⊎ (P k → ⊥)) → ((k : ℕ) × (k < m) × P k) ⊎ ((k : ℕ) → k < m → P k → ⊥)
below_some P zero d = inr (λ k h. absurd (omega arith))
below_some P (suc m) d = go (d m (omega arith)) (below_some P m (λ k h. d k (omega arith)))
  where
    go : P m ⊎ (P m → ⊥) → ((k : ℕ) × (k < m) × P k) ⊎ ((k : ℕ) → k < m → P k → ⊥) → ((k : ℕ) × (k < suc m) × P k) ⊎ ((k : ℕ) → k < suc m → P k → ⊥)
    go (inl y) e = inl (m, omega arith, y)
    go (inr f) (inl e) = inl (e.0, omega (arith, e.1), e.2)
    go (inr f) (inr e) = inr (λ k h y. elim (dec_lt k m) [ yes l ↦ e k l y | no l ↦ let q : k ≡ m = omega arith in f (subst P q y) ])

-- ---- a move takes its lags off the largest, and leaves the least period and both refusals as they are
module _ (c c' : Core) (r : ℕ → ℤ) (mv : Moved c r c') (f : Formed c) where
  -- lags q are those already moved by and the rest
  whole : (q : ℕ → ℤ) → q ≡ (λ b. r b +ℤ (q b -ℤ r b))
  whole q = fun_ext (λ b. parts_eq (q b) (r b +ℤ (q b -ℤ r b)) (omega (arith, plus (r b) (q b -ℤ r b), minus (q b) (r b))))

  -- permitted lags, and lags that meet a period, do so on the moved core once r is taken off
  pub permitted_less : (q : ℕ → ℤ) → Permitted c q → Permitted c' (λ b. q b -ℤ r b)
  permitted_less q h = permitted_before c c' r mv f (λ b. q b -ℤ r b) (subst (Permitted c) (whole q) h)

  pub meets_less : (p : ℕ) (q : ℕ → ℤ) → Meets c p q → Meets c' p (λ b. q b -ℤ r b)
  meets_less p q h = meets_before c c' r mv f (λ b. q b -ℤ r b) p (subst (Meets c p) (whole q) h)

  -- no permitted lags exist on the moved core either
  pub none_permitted_moved : NonePermitted c → NonePermitted c'
  none_permitted_moved h t k = h (λ b. r b +ℤ t b) (permitted_after c c' r mv f t k)

  -- permitted lags exist on the moved core too, and none meets p
  pub none_meets_moved : (p : ℕ) → NoneMeets c p → NoneMeets c' p
  none_meets_moved p h = record {
    lags = λ b. h.lags b -ℤ r b;
    permitted = permitted_less h.lags h.permitted;
    none = λ t k. h.none (λ b. r b +ℤ t b) (meets_after c c' r mv f t p k);
  }

  -- the largest lags on the moved core are those on the core less r
  pub largest_moved : (p : ℕ) (q : ℕ → ℤ) → Largest c p q → Largest c' p (λ b. q b -ℤ r b)
  largest_moved p q a = record {
    meets = meets_less p q a.meets;
    largest = λ t k b h.
        let g = a.largest (λ k. r k +ℤ t k) (meets_after c c' r mv f t p k) b (omega (arith, mv.n_is)) in
        parts_le (t b) (q b -ℤ r b) (omega (arith, le_parts (r b +ℤ t b) (q b) g, plus (r b) (t b), minus (q b) (r b)));
  }

  -- the least period is the same
  pub least_moved : (p : ℕ) → Least c p → Least c' p
  least_moved p a = record {
    lags = λ b. a.lags b -ℤ r b;
    met = meets_less p a.lags a.met;
    least = λ q t k. a.least q (λ b. r b +ℤ t b) (meets_after c c' r mv f t q k);
  }

  -- ---- 01: "They meet a period c if also the moved period is at most c."
  module _ (h : Permitted c r) (q : ℕ) (d : Period c'.shape c'.registers q) where
    -- the moved period is that of some path of c
    period_met : (p : ℕ) → Meets c p r → q ≤ p
    period_met p m =
        let j = joins_same (same_sym (same_wires c c' r mv)) d.start d.way.wires d.end d.way.joins in
        omega (
          arith,
          m.quick c'.registers mv.registers_is d.start d.end d.way.wires j d.way.registers_is,
          delay_same (same_wires c c' r mv) (same_delays c c' r mv) d.start d.way.wires d.end j,
          d.way.delay_is,
        )

    -- and the lags meet it
    met_period : Meets c q r
    met_period = record {
      permitted = h;
      quick = λ x m u v ws j z.
          let y = mv.registers_is in
          let e : registers_on c'.registers ws ≡ 0 = omega (arith, telescope c r x m u ws v j, telescope c r c'.registers y u ws v j) in
          omega (
            arith,
            d.largest u v ws (joins_same (same_wires c c' r mv) u ws v j) e,
            delay_same (same_wires c c' r mv) (same_delays c c' r mv) u ws v j,
          );
    }

    -- so they meet p exactly if the moved period is at most p
    pub moved_period : (p : ℕ) → Meets c p r ↔ (q ≤ p)
    moved_period p = (period_met p, λ k. meets_longer c q p r met_period k)
