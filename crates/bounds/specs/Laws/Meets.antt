-- T3 on the table of keys: below the period 1048576 lags meet a period exactly if they keep its rules.
-- Assumes nothing.
use Rattle.std.specs.Prelude.{◌≡◌, refl, List, [], ◌∷◌, ℕ, ◌+◌, ◌*◌, ◌≤◌, ◌<◌, ℤ, pos, ◌≤ℤ◌, get_or}
use Rattle.std.proofs.Common.{ap, ◌∙◌, arith, lt-ltb, le-ltb}
use Rattle.std.proofs.Math.Decide.{dec_lt}
use Rattle.sheet.specs.Lag.{excess, lag_of}
use Rattle.sheet.specs.Core.{blocks_in, wires_in, lower_in, upper_in, from_in, to_in, registers_in, shape_of, core_of}
use Rattle.sheet.specs.Sheet.{Formed}
use Rattle.sheet.specs.Integer.{up, down}
use Rattle.sheet.specs.Laws.Integer.{sub_parts, le_parts, parts_le}
use Rattle.sheet.specs.Laws.Sheet.{lower_parts, upper_parts}
use Rattle.sheet.specs.Laws.Formed.{formed_core, formed_numbers}
use Rattle.paths.specs.Path.{Joins, registers_on, delay_on}
use Rattle.paths.specs.Table.{Way}
use Rattle.paths.specs.Laws.Path.{joins_start_lt, joins_end_lt}
use Rattle.moves.specs.Lags.{moved_by, InRange, Fits, Permitted, MovedTo, Meets}
use Rattle.moves.specs.Laws.Lags.{telescope, loop_back}
use Rattle.moves.specs.Laws.Lattice.{value, moved_to}
use Rattle.moves.specs.Laws.Written as L
use Rattle.descent.specs.System.{Fit, Keeps, Floor}
use Rattle.descent.specs.State.{AtRest}
use Rattle.descent.specs.declared.rules.Rules.{Rules}
use Rattle.bounds.specs.Ruled.{Key, loose, path, ceiling, Ruled, padded}
use Rattle.bounds.specs.Laws.Slow.{slow, free_quick}

module _ {s keys lower upper : List ℕ} (R : Ruled s keys lower upper) where
  formed : Formed (core_of s)
  formed = formed_core s R.sound.formed

  few : blocks_in s ≤ 64
  few = formed.few_blocks

  -- ---- both limits, as numbers
  limits : (b : ℕ) → b < 64 → (31768 ≤ get_or lower b 0) × (get_or lower b 0 ≤ get_or upper b 0) × (get_or upper b 0 ≤ 33768)
  limits b h = go (dec_lt b (blocks_in s))
    where
      go : Dec (b < blocks_in s) → (31768 ≤ get_or lower b 0) × (get_or lower b 0 ≤ get_or upper b 0) × (get_or upper b 0 ≤ 33768)
      go (yes k) =
          let q = formed_numbers (core_of s) formed b k in
          (omega (arith, R.lower_is b k, q.lowest), omega (arith, R.lower_is b k, R.upper_is b k, q.ordered), omega (arith, R.upper_is b k, q.highest))
      go (no k) =
          let l = R.lower_other b h (omega arith) in
          let u = R.upper_other b h (omega arith) in
          (omega arith, omega arith, omega arith)

  pub ruled_fit : Fit keys lower upper
  ruled_fit =
      let some = formed.some_block in
      let host = (formed_numbers (core_of s) formed 0 some).host refl in
      record {
        keys_long = R.keys_long;
        lower_long = R.lower_long;
        upper_long = R.upper_long;
        keys_small = R.small;
        low = λ b h. (limits b h).0;
        ordered = λ b h. (limits b h).1;
        high = λ b h. (limits b h).2;
        host_lower = R.lower_is 0 some ∙ host.1;
        host_upper = R.upper_is 0 some ∙ host.2;
      }

  low_parts : (b : ℕ) → b < blocks_in s → get_or lower b 0 + down (lower_in s b) ≡ up (lower_in s b) + 32768
  low_parts b k = omega (arith, R.lower_is b k, lower_parts b _ _ _ (formed.block b k))

  high_parts : (b : ℕ) → b < blocks_in s → get_or upper b 0 + down (upper_in s b) ≡ up (upper_in s b) + 32768
  high_parts b k = omega (arith, R.upper_is b k, upper_parts b _ _ _ (formed.block b k))

  -- ---- lags that meet a period keep its rules
  module _ (p : ℕ) (short : p < 1048576) (r : ℕ → ℤ) (M : Meets (core_of s) p r) where
    abbrev e : ℕ → ℕ
    e = padded (blocks_in s) r

    inside : (b : ℕ) → b < blocks_in s → e b ≡ excess (r b)
    inside b k = rw (lt-ltb b (blocks_in s) k)

    outside : (b : ℕ) → blocks_in s ≤ b → e b ≡ 32768
    outside b k = rw (le-ltb b (blocks_in s) k)

    lag_parts : (b : ℕ) → b < blocks_in s → e b + down (r b) ≡ up (r b) + 32768
    lag_parts b k = omega (arith, inside b k, L.lag_parts s R.sound.formed r b k (M.permitted.in_range b k))

    within : (b : ℕ) → b < 64 → (get_or lower b 0 ≤ e b) × (e b ≤ get_or upper b 0)
    within b h = go (dec_lt b (blocks_in s))
      where
        go : Dec (b < blocks_in s) → (get_or lower b 0 ≤ e b) × (e b ≤ get_or upper b 0)
        go (yes k) =
            let i = M.permitted.in_range b k in (
              omega (arith, low_parts b k, lag_parts b k, le_parts (lower_in s b) (r b) i.0),
              omega (arith, high_parts b k, lag_parts b k, le_parts (r b) (upper_in s b) i.1),
            )
        go (no k) =
            let o = outside b (omega arith) in
            (omega (arith, R.lower_other b h (omega arith)), omega (arith, R.upper_other b h (omega arith)))

    x : ℕ → ℕ
    x j = up (moved_by (core_of s) r j)

    moved : MovedTo (core_of s) r x
    unfolding x
    moved = moved_to (core_of s) r M.permitted

    kept_path : (a b W D k : ℕ) → a < blocks_in s → b < blocks_in s → Way (shape_of s) (registers_in s) a b W D → k + D ≡ (W + 1) * 1048576 → e a * 1048576 + 1048576 ≤ e b * 1048576 + k + p
    kept_path a b W D k ha hb y q =
        let t = telescope (core_of s) r x moved a y.wires b y.joins in
        let d = slow (shape_of s) x p 1048576 (omega arith) (M.quick x moved) a b y.wires y.joins in
        omega (arith, t, d, y.registers_is, y.delay_is, lag_parts a ha, lag_parts b hb)

    kept_ceiling : (a b k j : ℕ) → j < wires_in s → b ≡ from_in s j → a ≡ to_in s j → k + registers_in s j * 1048576 ≡ ((core_of s).ceiling j + 1) * 1048576 → e a * 1048576 + 1048576 ≤ e b * 1048576 + k + p
    kept_ceiling a b k j h eb ea q =
        let ha = formed.to_block j h in
        let hb = formed.from_block j h in
        omega (
          arith,
          ap e ea,
          ap e eb,
          lag_parts (to_in s j) ha,
          lag_parts (from_in s j) hb,
          value (core_of s) j r,
          le_parts (moved_by (core_of s) r j) (pos ((core_of s).ceiling j)) (M.permitted.fits j h).1,
        )

    kept : (a b k : ℕ) → a < 64 → b < 64 → Key s a b k → e a * 1048576 + 1048576 ≤ e b * 1048576 + k + p
    kept a b k ha hb (loose l) = omega (arith, within a ha, within b hb, limits a ha, limits b hb)
    kept a b k ha hb (path la lb W D y q) = kept_path a b W D k la lb y q
    kept a b k ha hb (ceiling j h eb ea q) = kept_ceiling a b k j h eb ea q

    pub meets_keeps : Keeps keys lower upper p (padded (blocks_in s) r)
    meets_keeps = record { rule = λ a b ha hb. kept a b _ ha hb (R.key a b ha hb); low = λ b h. (within b h).0; high = λ b h. (within b h).1 }

  -- ---- lags that keep a period's rules meet it
  module _ (p : ℕ) (short : p < 1048576) (x : ℕ → ℕ) (K : Keeps keys lower upper p x) where
    abbrev lags : ℕ → ℤ
    lags b = lag_of (x b)

    range : (b : ℕ) → b < blocks_in s → InRange (core_of s) lags b
    range b k =
        let h : b < 64 = omega (arith, few) in (
          parts_le (lower_in s b) (lags b) (omega (arith, sub_parts (x b) 32768, low_parts b k, K.low b h)),
          parts_le (lags b) (upper_in s b) (omega (arith, sub_parts (x b) 32768, high_parts b k, K.high b h)),
        )

    rule_at : (a b : ℕ) → a < blocks_in s → b < blocks_in s → x a * 1048576 + 1048576 ≤ x b * 1048576 + get_or keys (b * 64 + a) 0 + p
    rule_at a b ha hb = K.rule a b (omega (arith, few)) (omega (arith, few))

    fits : (j : ℕ) → j < wires_in s → Fits (core_of s) lags j
    fits j h =
        let u = from_in s j in
        let v = to_in s j in
        let hu = formed.from_block j h in
        let hv = formed.to_block j h in
        let one = R.paths u v (j ∷ []) (hu, h, refl, tt, (hv, refl)) in (
          parts_le (pos 0) (moved_by (core_of s) lags j) (omega (arith, one, rule_at u v hu hv, sub_parts (x u) 32768, sub_parts (x v) 32768, value (core_of s) j lags)),
          parts_le (moved_by (core_of s) lags j) (pos ((core_of s).ceiling j))
              (omega (arith, R.ceilings j h, rule_at v u hv hu, sub_parts (x u) 32768, sub_parts (x v) 32768, value (core_of s) j lags)),
        )

    quick : (y : ℕ → ℕ) → MovedTo (core_of s) lags y → (u v : ℕ) (ws : List ℕ) → Joins (shape_of s) u ws v → registers_on y ws ≡ 0 → delay_on (shape_of s) u ws ≤ p
    quick y m u v ws j z =
        let hu = joins_start_lt (shape_of s) u ws v j in
        let hv = joins_end_lt (shape_of s) u ws v j in
        omega (arith, telescope (core_of s) lags y m u ws v j, R.paths u v ws j, rule_at u v hu hv, sub_parts (x u) 32768, sub_parts (x v) 32768)

    pub keeps_meets : Meets (core_of s) p (λ b. lag_of (x b))
    keeps_meets = record { permitted = record { in_range = range; fits = fits }; quick = quick }

  -- ---- permitted lags meet every period from 640,000 on
  pub permitted_meets : (p : ℕ) → 640000 ≤ p → (r : ℕ → ℤ) → Permitted (core_of s) r → Meets (core_of s) p r
  permitted_meets p h r P = record {
    permitted = P;
    quick = λ y m u v ws j z.
        omega (arith, free_quick (core_of s) formed y (λ b l. R.sound.free b (loop_back (core_of s) r y m b l)) u v ws j z);
  }

-- ---- what the descent finds
-- lags at rest are the largest that meet the period
module _ {s : List ℕ} {g : Rules} (R : Ruled s g.keys.now g.lower.now g.upper.now) {c : ℕ} (short : c < 1048576) {e : List ℕ} (A : AtRest g c e) where
  pub rest_meets : Meets (core_of s) c (λ b. lag_of (get_or e b 0))
  rest_meets = keeps_meets R c short (λ b. get_or e b 0) A.keeps

  pub rest_largest : (q : ℕ → ℤ) → Meets (core_of s) c q → (b : ℕ) → b < blocks_in s → q b ≤ℤ lag_of (get_or e b 0)
  rest_largest q M b h =
      let k : b < 64 = omega (arith, few R) in
      parts_le (q b) (lag_of (get_or e b 0))
      (omega (arith, A.state.most (padded (blocks_in s) q) (meets_keeps R c short q M) b k, lag_parts R c short q M b h, sub_parts (get_or e b 0) 32768))

-- no lags meet a period below the floor
pub floor_none : {s keys lower upper : List ℕ} → Ruled s keys lower upper → {c : ℕ} → c < 1048576 → {r : ℕ} → Floor keys lower upper r → c < r → (q : ℕ → ℤ) → Meets (core_of s) c q → ⊥
floor_none {s} R {c} short F h q M = F c (padded (blocks_in s) q) h (meets_keeps R c short q M)
