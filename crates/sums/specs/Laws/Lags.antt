-- Lags that pass the tests are permitted, meet their period, and are the largest; the period that passes is the sheet's.
-- Assumes nothing.
use Rattle.std.specs.Prelude.{◌≡◌, refl, List, [], ℕ, zero, suc, ◌<◌, T, eqb, ltb, leb, ℤ, pos, ◌-ℤ◌, ◌≤ℤ◌, get_or}
use Rattle.std.proofs.Common.{sym, ap, ◌∙◌, arith, eq-eqb, lt-ltb, leb→le, eqb→eq}
use Rattle.std.specs.Float.Ieee.Fits.{and_l, and_r}
use Rattle.std.specs.Float.Ieee.Bits.{is_true}
use Rattle.std.specs.Int.Signed.{le_z}
use Rattle.sheet.specs.Core.{Core}
use Rattle.sheet.specs.Sheet.{Formed}
use Rattle.sheet.specs.Integer.{up, down}
use Rattle.sheet.specs.Laws.Integer.{parts_le}
use Rattle.paths.specs.Table.{Entry, best, Period}
use Rattle.paths.specs.Laws.Path.{joins_start_lt, joins_end_lt}
use Rattle.tables.specs.Laws.Entry.{entry_unique}
use Rattle.moves.specs.Lags.{moved_by, Fits, Permitted, Meets}
use Rattle.loops.specs.Link.{sum_k}
use Rattle.loops.specs.Test.{chain_test, valid_test}
use Rattle.loops.proofs.Tested.{chain_sound, test_sound}
use Rattle.loops.specs.Laws.Out.{host_zero, chain_kept, meets_keeps, rules_out}
use Rattle.promises.specs.Lags.{Largest, Least}
use Rattle.promises.specs.Laws.Rules.{keeps_meets}
use Rattle.theorems.specs.Laws.Search.{least_next}
use Rattle.sums.specs.Lines.{Chains}
use Rattle.sums.specs.Test.{every, all_below, some_below, range_tests, fit_tests, permitted_tests, registers_to, delay_to, table_test, long_test, short_test, period_tests, slow_test, meet_tests, held_tests, largest_tests, before_test}
use Rattle.sums.specs.Laws.Finite.{each, implied, all_below_lem, some_below_lem, le_told, same_told}
use Rattle.sums.specs.Laws.Entries.{leads, table_told}

module _ (c : Core) where
  pub range_told : (r : ℕ → ℤ) (b : ℕ) → T (every (range_tests c r b)) → (c.lower b ≤ℤ r b) × (r b ≤ℤ c.upper b)
  range_told r b t = let h = each (range_tests c r b) t in (le_told (c.lower b) (r b) h.0, le_told (r b) (c.upper b) h.1.0)

  pub fits_told : (r : ℕ → ℤ) (j : ℕ) → T (every (fit_tests c r j)) → Fits c r j
  fits_told r j t = let h = each (fit_tests c r j) t in (le_told (pos 0) (moved_by c r j) h.0, le_told (moved_by c r j) (pos (c.ceiling j)) h.1.0)

  pub permitted_told : (r : ℕ → ℤ) → T (every (permitted_tests c r)) → Permitted c r
  permitted_told r t =
      let h = each (permitted_tests c r) t in
      record {
        in_range = λ b k. range_told r b (all_below_lem c.shape.n (λ (b : ℕ). every (range_tests c r b)) h.0 b k);
        fits = λ j k. fits_told r j (all_below_lem c.shape.m (λ (j : ℕ). every (fit_tests c r j)) h.1.0 j k);
      }

  -- ---- only the lags of the blocks matter
  module _ (f : Formed c) (r q : ℕ → ℤ) (same : (b : ℕ) → b < c.shape.n → q b ≡ r b) where
    moved_same : (j : ℕ) → j < c.shape.m → moved_by c q j ≡ moved_by c r j
    moved_same j h = rw (same (c.shape.to j) (f.to_block j h), same (c.shape.from j) (f.from_block j h)) refl

    permitted_same : Permitted c r → Permitted c q
    permitted_same h = record {
      in_range = λ b k. rw (same b k) (h.in_range b k);
      fits = λ j k. rw (moved_same j k) (h.fits j k);
    }

    meets_same : (p : ℕ) → Meets c p r → Meets c p q
    meets_same p h = record { permitted = permitted_same h.permitted; quick = λ x m. h.quick x (λ j k. m j k ∙ moved_same j k) }

    pub largest_same : (p : ℕ) → Largest c p r → Largest c p q
    largest_same p h = record { meets = meets_same p h.meets; largest = λ t m b k. rw (same b k) (h.largest t m b k) }

  -- ---- from a table that passes
  module _ (P : ℕ → ℕ → List ℕ) where
    pub entry_told : T (table_test c P) → (u v : ℕ) → u < c.shape.n → v < c.shape.n → Entry c.shape c.registers u v (registers_to c P u v) (delay_to c P u v)
    entry_told t u v hu hv = best (table_told c P t u hu v hv)

    pub period_told : (p : ℕ) → T (every (period_tests c P p)) → Period c.shape c.registers p
    period_told p t =
        let h = each (period_tests c P p) t in
        let n = c.shape.n in
        let a = some_below_lem n (λ (u : ℕ). some_below n (long_test c P p u)) h.1.0 in
        let u = a.0 in
        let b = some_below_lem n (long_test c P p u) a.2 in
        let v = b.0 in
        record {
          start = u;
          end = v;
          way = record {
            wires = P u v;
            joins = (leads c P h.0 u a.1 v b.1).0;
            registers_is = eqb→eq (registers_to c P u v) 0 (and_l (eqb (registers_to c P u v) 0) (eqb (delay_to c P u v) p) b.2);
            delay_is = eqb→eq (delay_to c P u v) p (and_r (eqb (registers_to c P u v) 0) (eqb (delay_to c P u v) p) b.2);
          };
          largest = λ x y ws j z.
              let hx = joins_start_lt c.shape x ws y j in
              let hy = joins_end_lt c.shape x ws y j in
              let e = table_told c P h.0 x hx y hy in
              let o : registers_to c P x y ≡ 0 = omega (arith, e.fewest ws j) in
              let s = all_below_lem n (short_test c P p x) (all_below_lem n (λ (u : ℕ). all_below n (short_test c P p u)) h.1.1.0 x hx) y hy in
              let l = leb→le (delay_to c P x y) p (implied (eqb (registers_to c P x y) 0) (leb (delay_to c P x y) p) s (eq-eqb (registers_to c P x y) 0 o)) in
              omega (arith, l, e.longest ws j (z ∙ sym o));
        }

    module _ (r : ℕ → ℤ) (p : ℕ) where
      pub meet_told : T (every (meet_tests c P r p)) → Meets c p r
      meet_told t =
          let h = each (meet_tests c P r p) t in
          let n = c.shape.n in
          keeps_meets c p r (registers_to c P) (delay_to c P) (entry_told h.0) (record {
            permitted = permitted_told r h.1.0;
            path = λ u v W D b l.
                let hu = joins_start_lt c.shape u b.way.wires v b.way.joins in
                let hv = joins_end_lt c.shape u b.way.wires v b.way.joins in
                let e = entry_unique c.shape c.registers u v W D (registers_to c P u v) (delay_to c P u v) (best b) (entry_told h.0 u v hu hv) in
                let s = all_below_lem n (slow_test c P r p u) (all_below_lem n (λ (u : ℕ). all_below n (slow_test c P r p u)) h.1.1.0 u hu) v hv in
                let g : p < delay_to c P u v = omega (arith, e.1) in
                rw e.0
                (le_told (r u -ℤ r v) (pos (registers_to c P u v) -ℤ pos 1)
                (implied (ltb p (delay_to c P u v)) (le_z (r u -ℤ r v) (pos (registers_to c P u v) -ℤ pos 1)) s (lt-ltb p (delay_to c P u v) g)));
          })

      pub largest_told : Formed c → (why : Chains) → T (every (largest_tests c P r p why)) → Largest c p r
      largest_told f why t =
          let h = each (largest_tests c P r p why) t in
          record {
            meets = meet_told h.0;
            largest = λ q m b k.
                let chain = get_or why b [] in
                let g = each (held_tests c P r p why b) (all_below_lem c.shape.n (λ (b : ℕ). every (held_tests c P r p why b)) h.1.0 b k) in
                let z = chain_sound c p b chain 0 (is_true (chain_test c p b chain 0) g.0) in
                let e = same_told (sum_k c chain) (r b) g.1.0 in
                parts_le (q b) (r b)
                (omega (
                  arith,
                  chain_kept c f q m.permitted p b chain 0 z (meets_keeps c f q m.permitted p m),
                  host_zero c f q m.permitted,
                  ap up e,
                  ap down e,
                ));
          }

  -- ---- the least period
  pub least_told : Formed c → (p : ℕ) (words : List ℕ) (r : ℕ → ℤ) → T (before_test c p words) → Meets c p r → Least c p
  least_told f zero words r t m = record { lags = r; met = m; least = λ q x k. omega arith }
  least_told f (suc p) words r t m =
      least_next c (suc p) r p (omega arith) m (rules_out c f p words (test_sound c p words (is_true (valid_test c p words) t)))
