-- The solver's numbers and the lags that they stand for: its solutions are the lags that keep all rules, and where it rests they are the largest.
-- Assumes nothing.
use Rattle.std.specs.Prelude.{◌≡◌, refl, List, ℕ, ◌+◌, ◌*◌, ◌≤◌, ◌<◌, ℤ, pos, ◌-ℤ◌, ◌≤ℤ◌, get_or}
use Rattle.std.proofs.Common.{ap, ◌∙◌, arith}
use Rattle.sheet.specs.Lag.{excess, lag_of}
use Rattle.sheet.specs.Core.{blocks_in, wires_in, registers_in, shape_of, core_of}
use Rattle.sheet.specs.Sheet.{Formed}
use Rattle.sheet.specs.Integer.{up, down}
use Rattle.sheet.specs.Laws.Integer.{minus, sub_parts, le_parts, parts_le}
use Rattle.sheet.specs.Laws.Sheet.{lower_parts, upper_parts}
use Rattle.sheet.specs.Laws.Formed.{formed_core}
use Rattle.paths.specs.Table.{Best, Entry, Table, best, none}
use Rattle.paths.specs.Laws.Path.{joins_start_lt, joins_end_lt}
use Rattle.tables.specs.Laws.Entry.{entry_unique}
use Rattle.moves.specs.Lags.{moved_by, InRange, Fits, Permitted, Meets}
use Rattle.moves.specs.Laws.Lattice.{value}
use Rattle.moves.specs.Laws.Written as L
use Rattle.solver.specs.declared.Given.{Given}
use Rattle.solver.specs.declared.Standing.{Standing}
use Rattle.solver.specs.declared.Rule.{Rule}
use Rattle.solver.specs.declared.Rule.TheVariants as R
use Rattle.solver.specs.System.{Says, path, wire, ceiling, Solution, tabled}
use Rattle.solver.specs.State.{State, AllHold}
use Rattle.solver.specs.Laws.Begun.{rest_solves}
use Rattle.witness.specs.Stands.{Stands}
use Rattle.promises.specs.Lags.{Largest}
use Rattle.promises.specs.Rules.{Keeps}
use Rattle.promises.specs.Laws.Rules.{meets_keeps, keeps_meets}

module _ {s : List ℕ} {g : Given} (S : Stands s g) where
  formed : Formed (core_of s)
  formed = formed_core s S.sound.formed

  -- the entry of a pair at the solver's place for it: of a path table, and of any pair with a path rule
  abbrev EntryAt : ℕ → ℕ → Type 0
  EntryAt u v = Entry (shape_of s) (registers_in s) u v (get_or g.registers (u * g.n + v) 0) (get_or g.delays (u * g.n + v) 0)

  entry_at : Table (shape_of s) (registers_in s) g.registers g.delays → (u v : ℕ) → u < g.n → v < g.n → EntryAt u v
  entry_at T u v hu hv = rw S.n_is (T u v (omega (arith, S.n_is)) (omega (arith, S.n_is)))

  pub entry_slow : (u v : ℕ) → u < g.n → v < g.n → g.period < get_or g.delays (u * g.n + v) 0 → EntryAt u v
  entry_slow u v hu hv l = entry_at (S.table (record { a = u; b = v; a_block = hu; b_block = hv; slow = l })) u v hu hv

  -- both limits of a block, without subtraction
  low_parts : (b : ℕ) → b < g.n → get_or g.lower b 0 + down ((core_of s).lower b) ≡ up ((core_of s).lower b) + 32768
  low_parts b h =
      let k : b < blocks_in s = omega (arith, S.n_is) in
      omega (arith, S.lower_is b k, lower_parts b _ _ _ (formed.block b k))

  high_parts : (b : ℕ) → b < g.n → get_or g.upper b 0 + down ((core_of s).upper b) ≡ up ((core_of s).upper b) + 32768
  high_parts b h =
      let k : b < blocks_in s = omega (arith, S.n_is) in
      omega (arith, S.upper_is b k, upper_parts b _ _ _ (formed.block b k))

  -- ---- lags that keep all rules are a solution
  module _ (r : ℕ → ℤ) (K : Keeps (core_of s) g.period r) where
    -- the excess number of a permitted lag
    lag_parts : (b : ℕ) → b < g.n → excess (r b) + down (r b) ≡ up (r b) + 32768
    lag_parts b h =
        let k : b < blocks_in s = omega (arith, S.n_is) in
        L.lag_parts s S.sound.formed r b k (K.permitted.in_range b k)

    kept_path : (a b W D : ℕ) → a < g.n → b < g.n → Entry (shape_of s) (registers_in s) a b W D → g.period < D → excess (r a) + 32768 ≤ excess (r b) + (W + 32767)
    kept_path a b W D ha hb (best e) l =
        omega (arith, lag_parts a ha, lag_parts b hb, le_parts (r a -ℤ r b) (pos W -ℤ pos 1) (K.path a b W D e l), minus (r a) (r b), minus (pos W) (pos 1))
    kept_path a b W D ha hb (none f x y) l = absurd (omega arith)

    from_lt : (j : ℕ) → j < wires_in s → (core_of s).shape.from j < g.n
    from_lt j h = omega (arith, S.n_is, formed.from_block j h)

    to_lt : (j : ℕ) → j < wires_in s → (core_of s).shape.to j < g.n
    to_lt j h = omega (arith, S.n_is, formed.to_block j h)

    kept : (q : Rule) (a b k : ℕ) → Says g q a b k → excess (r a) + 32768 ≤ excess (r b) + k
    kept q a b k (path ei ha hb hd ek) = rw ek (kept_path a b _ _ ha hb (entry_slow a b ha hb hd) hd)
    kept q a b k (wire j hj ei ea eb ek) =
        let h : j < wires_in s = omega (arith, S.m_is) in
        let u = (core_of s).shape.from j in
        let v = (core_of s).shape.to j in
        omega (
          arith,
          ap (λ (x : ℕ). excess (r x)) (ea ∙ S.from_is j h),
          ap (λ (x : ℕ). excess (r x)) (eb ∙ S.to_is j h),
          S.wires_is j h,
          lag_parts u (from_lt j h),
          lag_parts v (to_lt j h),
          value (core_of s) j r,
          le_parts (pos 0) (moved_by (core_of s) r j) (K.permitted.fits j h).0,
        )
    kept q a b k (ceiling j hj ei ea eb ek) =
        let h : j < wires_in s = omega (arith, S.m_is) in
        let u = (core_of s).shape.from j in
        let v = (core_of s).shape.to j in
        omega (
          arith,
          ap (λ (x : ℕ). excess (r x)) (eb ∙ S.from_is j h),
          ap (λ (x : ℕ). excess (r x)) (ea ∙ S.to_is j h),
          S.ceilings_is j h,
          lag_parts u (from_lt j h),
          lag_parts v (to_lt j h),
          value (core_of s) j r,
          le_parts (moved_by (core_of s) r j) (pos ((core_of s).ceiling j)) (K.permitted.fits j h).1,
        )

    pub solution_of : Solution g (λ b. excess (r b))
    solution_of = record {
      keeps = kept;
      low = λ b h.
          let i = K.permitted.in_range b (omega (arith, S.n_is)) in
          omega (arith, low_parts b h, lag_parts b h, le_parts ((core_of s).lower b) (r b) i.0);
      high = λ b h.
          let i = K.permitted.in_range b (omega (arith, S.n_is)) in
          omega (arith, high_parts b h, lag_parts b h, le_parts (r b) ((core_of s).upper b) i.1);
    }

  -- ---- a solution's lags are permitted, and with a path table they keep all rules
  module _ (x : ℕ → ℕ) (X : Solution g x) where
    abbrev lags : ℕ → ℤ
    lags b = lag_of (x b)

    range : (b : ℕ) → b < blocks_in s → InRange (core_of s) lags b
    range b k =
        let h : b < g.n = omega (arith, S.n_is) in (
          parts_le ((core_of s).lower b) (lags b) (omega (arith, sub_parts (x b) 32768, low_parts b h, X.low b h)),
          parts_le (lags b) ((core_of s).upper b) (omega (arith, sub_parts (x b) 32768, high_parts b h, X.high b h)),
        )

    fits : (j : ℕ) → j < wires_in s → Fits (core_of s) lags j
    fits j h =
        let l : j < g.m = omega (arith, S.m_is) in
        let u = (core_of s).shape.from j in
        let v = (core_of s).shape.to j in
        let eu = ap x (S.from_is j h) in
        let ev = ap x (S.to_is j h) in (
          parts_le (pos 0) (moved_by (core_of s) lags j)
              (omega (
                arith,
                X.keeps (R.Wire j) (get_or g.from j 0) (get_or g.to j 0) (get_or g.wires j 0) (wire j l refl refl refl refl),
                eu,
                ev,
                S.wires_is j h,
                sub_parts (x u) 32768,
                sub_parts (x v) 32768,
                value (core_of s) j lags,
              )),
          parts_le (moved_by (core_of s) lags j) (pos ((core_of s).ceiling j))
              (omega (
                arith,
                X.keeps (R.Ceiling j) (get_or g.to j 0) (get_or g.from j 0) (get_or g.ceilings j 0) (ceiling j l refl refl refl refl),
                eu,
                ev,
                S.ceilings_is j h,
                sub_parts (x u) 32768,
                sub_parts (x v) 32768,
                value (core_of s) j lags,
              )),
        )

    pub permitted_of : Permitted (core_of s) lags
    permitted_of = record { in_range = range; fits = fits }

    module _ (T : Table (shape_of s) (registers_in s) g.registers g.delays) where
      slow : (u v W D : ℕ) → Best (shape_of s) (registers_in s) u v W D → g.period < D → (lags u -ℤ lags v) ≤ℤ (pos W -ℤ pos 1)
      slow u v W D b l =
          let hu : u < g.n = omega (arith, S.n_is, joins_start_lt (shape_of s) u b.way.wires v b.way.joins) in
          let hv : v < g.n = omega (arith, S.n_is, joins_end_lt (shape_of s) u b.way.wires v b.way.joins) in
          let e = entry_unique (shape_of s) (registers_in s) u v W D _ _ (best b) (entry_at T u v hu hv) in
          parts_le (lags u -ℤ lags v) (pos W -ℤ pos 1)
          (omega (
            arith,
            X.keeps R.Path u v (W + 32767) (path refl hu hv (omega (arith, e.1)) (omega (arith, e.0))),
            sub_parts (x u) 32768,
            sub_parts (x v) 32768,
            minus (lags u) (lags v),
            minus (pos W) (pos 1),
          ))

      pub keeps_of : Keeps (core_of s) g.period lags
      keeps_of = record { permitted = permitted_of; path = slow }

      pub meets_of : Meets (core_of s) g.period lags
      meets_of = keeps_meets (core_of s) g.period lags _ _ T keeps_of

  -- ---- at rest the lags are permitted, and with a path table the largest
  module _ {t : Standing} (St : State g t) (all : AllHold g t.lags) where
    pub rest_permitted : Permitted (core_of s) (λ b. lag_of (get_or t.lags b 0))
    rest_permitted = permitted_of (λ b. get_or t.lags b 0) (rest_solves St all)

    pub rest_largest : Table (shape_of s) (registers_in s) g.registers g.delays → Largest (core_of s) g.period (λ b. lag_of (get_or t.lags b 0))
    rest_largest T = record {
      meets = meets_of (λ b. get_or t.lags b 0) (rest_solves St all) T;
      largest = λ q m b h.
          let K = meets_keeps (core_of s) g.period q m in
          let k : b < g.n = omega (arith, S.n_is) in
          parts_le (q b) (lag_of (get_or t.lags b 0))
          (omega (arith, St.most (λ i. excess (q i)) (solution_of q K) b k, lag_parts q K b k, sub_parts (get_or t.lags b 0) 32768));
    }

  -- ---- a path table, for another period
  pub stands_with : (q : ℕ) (registers delays : List ℕ) → Table (shape_of s) (registers_in s) registers delays → Stands s (tabled g q registers delays)
  stands_with q registers delays T = record {
    sound = S.sound;
    n_is = S.n_is;
    m_is = S.m_is;
    lower_is = S.lower_is;
    upper_is = S.upper_is;
    from_is = S.from_is;
    to_is = S.to_is;
    wires_is = S.wires_is;
    ceilings_is = S.ceilings_is;
    table = λ _. T;
  }
