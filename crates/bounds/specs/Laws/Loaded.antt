-- Lists that were loaded and filled from a sound sheet are its rules.
-- Assumes nothing.
use Rattle.std.specs.Prelude.{◌≡◌, ◌⊎◌, List, ℕ, ◌+◌, ◌-◌, ◌*◌, ◌/◌, ◌%◌, ◌≤◌, ◌<◌, length, get_or, replicate}
use Rattle.std.proofs.Common.{ap, ◌∙◌, inl, inr, arith}
use Rattle.std.proofs.Math.Decide.{dec_lt}
use Rattle.std.proofs.lemmas.List.{length-replicate, get_or-replicate}
use Rattle.std.proofs.Math.ListN.{get_or-eq_default}
use Rattle.sheet.specs.Lag.{excess}
use Rattle.sheet.specs.Core.{blocks_in, wires_in, lower_in, upper_in, from_in, to_in, registers_in, shape_of, core_of}
use Rattle.sheet.specs.Filled.{filled}
use Rattle.sheet.specs.Laws.Filled.{length_filled, filled_at, filled_past}
use Rattle.sheet.specs.Laws.Formed.{formed_core}
use Rattle.paths.specs.Wired.{wired, weights}
use Rattle.paths.specs.declared.wiring.Wiring.{Wiring}
use Rattle.paths.specs.Table.{Way}
use Rattle.paths.specs.Questions.{SoundSheet}
use Rattle.paths.specs.Laws.Path.{joins_start_lt, joins_end_lt}
use Rattle.paths.specs.Laws.Same.{same_sym, joins_same, registers_same}
use Rattle.paths.proofs.Delays.{delay_same, way_same}
use Rattle.paths.specs.Laws.Loaded.{Loaded}
use Rattle.keys.specs.Keys.{Loose, Slow, Keyed, Folded}
use Rattle.bounds.specs.Ruled.{Key, loose, path, ceiling, Ruled}
use Rattle.bounds.specs.Laws.Slow.{slow, free_quick}

-- ---- one list of limits, filled for n blocks over lag 0
module _ (f : ℕ → ℕ) (n : ℕ) (l : List ℕ) (e : l ≡ filled f n (replicate 64 32768)) where
  limit_long : length l ≡ 64
  limit_long = ap length e ∙ length_filled f n (replicate 64 32768) ∙ length-replicate {A = ℕ} 64 32768

  limit_at : n ≤ 64 → (b : ℕ) → b < n → get_or l b 0 ≡ f b
  limit_at k b h = ap (λ (x : List ℕ). get_or x b 0) e ∙ filled_at f n (replicate 64 32768) b 0 h (omega (arith, length-replicate {A = ℕ} 64 32768))

  limit_past : (b : ℕ) → n ≤ b → b < 64 → get_or l b 0 ≡ 32768
  limit_past b h k = ap (λ (x : List ℕ). get_or x b 0) e ∙ filled_past f n (replicate 64 32768) b 0 h ∙ get_or-replicate 64 b 32768 0 k

module _ {s : List ℕ} (S : SoundSheet s) {w : Wiring} {delays : List ℕ} (L : Loaded s w delays) where
  -- what the filler of keys needs
  pub slow_paths : Slow (wired w delays) (weights w)
  slow_paths = record {
    bound = λ u v ws j.
        let f = formed_core s S.formed in
        omega (
          arith,
          slow (shape_of s) (registers_in s) 640000 640000 (omega arith) (free_quick (core_of s) f (registers_in s) S.free) u v ws (joins_same L.same u ws v j),
          registers_same L.same u ws v j,
          delay_same L.same L.same_delays u ws v j,
        );
  }

  module _ {raw keys : List ℕ} (K : Keyed (wired w delays) (weights w) raw) (F : Folded w w.m raw keys) where
    n_is : w.n ≡ blocks_in s
    n_is = L.same.n_is

    m_is : w.m ≡ wires_in s
    m_is = L.same.m_is

    -- an entry of the path table
    real : (u v k : ℕ) → u < blocks_in s → v < blocks_in s → Loose k ⊎ ((W : ℕ) × (D : ℕ) × Way (wired w delays) (weights w) u v W D × (k + D ≡ (W + 1) * 1048576)) → Key s u v k
    real u v k hu hv (inl l) = loose l
    real u v k hu hv (inr x) = path hu hv x.0 x.1 (way_same L.same L.same_delays u v x.0 x.1 x.2) x.3

    raw_key : (u v : ℕ) → u < 64 → v < 64 → Dec (u < w.n) → Dec (v < w.n) → Key s u v (get_or raw (v * 64 + u) 0)
    raw_key u v hu hv (yes a) (yes b) = real u v _ (omega (arith, n_is)) (omega (arith, n_is)) (K.right u v a b).real
    raw_key u v hu hv (no a) b = loose (K.outside u v hu hv (inl (omega arith)))
    raw_key u v hu hv (yes a) (no b) = loose (K.outside u v hu hv (inr (omega arith)))

    abbrev Falls : ℕ → Type 0
    Falls i = (get_or keys i 0 ≡ get_or raw i 0)
        ⊎ ((j : ℕ) × (j < w.m) × (i ≡ get_or w.from j 0 * 64 + get_or w.to j 0) × (get_or keys i 0 ≡ (2001 - get_or w.registers j 0) * 1048576))

    folded_key : (u v : ℕ) → u < 64 → v < 64 → Falls (v * 64 + u) → Key s u v (get_or keys (v * 64 + u) 0)
    folded_key u v hu hv (inl e) = rw e (raw_key u v hu hv (dec_lt u w.n) (dec_lt v w.n))
    folded_key u v hu hv (inr x) =
        let j = x.0 in
        let h = x.1 in
        let t : get_or w.to j 0 < 64 = omega (arith, w.wires.to_block j h, w.wires.few_blocks) in
        let f : get_or w.from j 0 < 64 = omega (arith, w.wires.from_block j h, w.wires.few_blocks) in
        let q = x.2 in
        let ev : v ≡ get_or w.from j 0 = omega arith in
        let eu : u ≡ get_or w.to j 0 = omega arith in
        ceiling j (omega (arith, m_is)) (ev ∙ L.same.from_is j h) (eu ∙ L.same.to_is j h) (omega (arith, x.3, L.same.w_is j h, w.wires.few j h))

    raw_small : (i : ℕ) → Dec (i < 4096) → get_or raw i 0 ≤ 2099249152
    raw_small i (yes h) =
        let e : i / 64 * 64 + i % 64 ≡ i = omega arith in
        rw e at (K.high (i % 64) (i / 64) (omega arith) (omega arith))
    raw_small i (no h) = omega (arith, get_or-eq_default {A = ℕ} raw 0 {n = i} (omega (arith, K.long)))

    pub ruled : (n : ℕ) {lower upper : List ℕ} → n ≡ blocks_in s → lower ≡ filled (λ b. excess (lower_in s b)) n (replicate 64 32768)
        → upper ≡ filled (λ b. excess (upper_in s b)) n (replicate 64 32768) → Ruled s keys lower upper
    ruled n {lower} {upper} e low high = record {
      sound = S;
      keys_long = F.long;
      lower_long = limit_long _ n lower low;
      upper_long = limit_long _ n upper high;
      small = λ i. omega (arith, F.falls i, raw_small i (dec_lt i 4096));
      key = λ u v hu hv. folded_key u v hu hv (F.real (v * 64 + u));
      paths = λ u v ws j.
          let back = joins_same (same_sym L.same) u ws v j in
          let hu = joins_start_lt _ u ws v back in
          let hv = joins_end_lt _ u ws v back in
          omega (
            arith,
            F.falls (v * 64 + u),
            (K.right u v hu hv).least ws back,
            registers_same L.same u ws v back,
            delay_same L.same L.same_delays u ws v back,
          );
      ceilings = λ j h.
          let k : j < w.m = omega (arith, m_is) in
          let f = L.same.from_is j k in
          let t = L.same.to_is j k in
          let at : get_or w.from j 0 * 64 + get_or w.to j 0 ≡ from_in s j * 64 + to_in s j = omega arith in
          omega (arith, rw at at (F.held j k), L.same.w_is j k, w.wires.few j k);
      lower_is = λ b h. limit_at _ n lower low (omega (arith, e, n_is, w.wires.few_blocks)) b (omega (arith, e));
      upper_is = λ b h. limit_at _ n upper high (omega (arith, e, n_is, w.wires.few_blocks)) b (omega (arith, e));
      lower_other = λ b h k. limit_past _ n lower low b (omega (arith, e)) h;
      upper_other = λ b h k. limit_past _ n upper high b (omega (arith, e)) h;
    }
