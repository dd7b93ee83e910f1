-- A row from its clearing to its end: n rounds, or fewer where one changes nothing, give the table's entries.
-- Assumes nothing.
use Rattle.std.specs.Prelude.{◌≡◌, refl, ◌⊎◌, List, ℕ, ◌+◌, ◌*◌, ◌-◌, ◌≤◌, ◌<◌, length, get_or, set, Bool, false}
use Rattle.std.proofs.Common.{ap, ◌∙◌, subst, inl, inr, arith, length-set, get_or-set_same}
use Rattle.sheet.specs.Core.{Shape}
use Rattle.sheet.specs.Filled.{filled}
use Rattle.sheet.specs.Laws.Filled.{length_filled, filled_at}
use Rattle.paths.specs.Lists.{held}
use Rattle.paths.specs.Table.{LoopAt, Way}
use Rattle.tables.specs.Row.{Row, Round, Rounded, RowRight}
use Rattle.tables.specs.Order.{Ahead, level}
use Rattle.tables.specs.Laws.Rows.{Covers, covers_start, covers_next, covers_still, covered_entry}
use Rattle.paths.proofs.Way.{way_start}
use Rattle.paths.proofs.Way.{Limits}
use Rattle.tables.specs.Laws.Relax.{entry}

-- a row after `done` rounds
pub record Filling (s : Shape) (w : ℕ → ℕ) (u done : ℕ) (ws ds : List ℕ) : Type 0 where
  pub row : Row s w u (256 * done) ws ds
  pub covers : Covers s w u done (held ws) (held ds)

module _ (s : Shape) (w : ℕ → ℕ) (u : ℕ) (g : Limits s w) (u_lt : u < s.n) where
  -- ---- the cleared row: the start block alone
  module _ (ws₀ ds₀ ws ds : List ℕ) (d : ℕ) (ws_long : length ws₀ ≡ s.n) (ds_long : length ds₀ ≡ s.n) (d_is : d ≡ s.delay u)
      (ws_is : ws ≡ set (filled (λ _. 4294967295) s.n ws₀) u 0) (ds_is : ds ≡ set (filled (λ _. 0) s.n ds₀) u d) where
    far : (v : ℕ) → v < s.n → get_or (filled (λ _. 4294967295) s.n ws₀) v 0 ≡ 4294967295
    far v l = filled_at (λ _. 4294967295) s.n ws₀ v 0 l (omega arith)

    none : (v : ℕ) → v < s.n → get_or (filled (λ _. 0) s.n ds₀) v 0 ≡ 0
    none v l = filled_at (λ _. 0) s.n ds₀ v 0 l (omega arith)

    cleared : (P : ℕ → ℕ → ℕ → Type 0) → P u 0 d → ((v : ℕ) → P v (get_or (filled (λ _. 4294967295) s.n ws₀) v 0) (get_or (filled (λ _. 0) s.n ds₀) v 0)) → (v : ℕ) → P v (get_or ws v 0) (get_or ds v 0)
    cleared P p all v =
        rw (ws_is, ds_is)
        (entry P (filled (λ _. 4294967295) s.n ws₀) (filled (λ _. 0) s.n ds₀) u 0 d
        (omega (arith, length_filled (λ _. 4294967295) s.n ws₀)) (omega (arith, length_filled (λ _. 0) s.n ds₀)) p all v)

    pub cleared_row : Row s w u 0 ws ds
    cleared_row = record {
      ws_long = ap length ws_is ∙ simp length-set (length_filled (λ _. 4294967295) s.n ws₀ ∙ ws_long);
      ds_long = ap length ds_is ∙ simp length-set (length_filled (λ _. 0) s.n ds₀ ∙ ds_long);
      real = cleared (λ (v a b : ℕ). v < s.n → a < 4294967295 → Way s w u v a b) (λ _ _. rw d_is (way_start s w u u_lt)) (λ v l h. absurd (omega (arith, far v l)));
      blank = cleared (λ (v a b : ℕ). v < s.n → (a < 4294967295) ⊎ ((a ≡ 4294967295) × (b ≡ 0))) (λ _. inl (omega arith)) (λ v l. inr (far v l, none v l));
      few = cleared (λ (v a b : ℕ). v < s.n → a < 4294967295 → a ≤ 2000 * 0) (λ _ _. omega arith) (λ v l h. absurd (omega (arith, far v l)));
      small = cleared (λ (v a b : ℕ). v < s.n → b ≤ 10000 * (0 + 1)) (λ _. omega (arith, g.small u u_lt)) (λ v l. omega (arith, none v l));
    }

    start_ahead : Ahead (get_or ws u 0) (get_or ds u 0) 0 (s.delay u)
    start_ahead =
        rw (ws_is, ds_is, get_or-set_same (filled (λ _. 4294967295) s.n ws₀) u 0 0 (omega (arith, length_filled (λ _. 4294967295) s.n ws₀)), get_or-set_same (filled (λ _. 0) s.n ds₀) u d 0 (omega (arith, length_filled (λ _. 0) s.n ds₀)))
        (level refl (omega arith))

  module _ (free : (b : ℕ) → LoopAt s w b → ⊥) (n_le : s.n ≤ 64) where
    pub filling_start : (ws₀ ds₀ ws ds : List ℕ) (d : ℕ) → length ws₀ ≡ s.n → length ds₀ ≡ s.n → d ≡ s.delay u
        → ws ≡ set (filled (λ _. 4294967295) s.n ws₀) u 0 → ds ≡ set (filled (λ _. 0) s.n ds₀) u d → Filling s w u 0 ws ds
    filling_start ws₀ ds₀ ws ds d p q e a b = record {
      row = cleared_row ws₀ ds₀ ws ds d p q e a b;
      covers = covers_start s w u free g.few (held ws) (held ds) (start_ahead ws₀ ds₀ ws ds d p q e a b);
    }

    right : (k : ℕ) (ws ds : List ℕ) → Row s w u k ws ds → Covers s w u s.n (held ws) (held ds) → RowRight s w u ws ds
    right k ws ds r c = record {
      ws_long = r.ws_long;
      ds_long = r.ds_long;
      entry = λ v l. covered_entry s w u free g.few n_le (held ws) (held ds) c v (r.real v l) (r.blank v l);
    }

    module _ (done : ℕ) (ws ds ws' ds' : List ℕ) (improved : Bool) (few : done < s.n) (f : Filling s w u done ws ds)
        (r : Rounded s w u (256 * done + 256) ws ds ws' ds' improved) where
      pub filling_turn : Filling s w u (done + 1) ws' ds'
      filling_turn = record {
        row = subst (λ (k : ℕ). Row s w u k ws' ds') (omega arith) r.row;
        covers = covers_next s w u free g.few done (omega arith) (held ws) (held ds) (held ws') (held ds') f.covers r.round;
      }

      -- nothing improved: the row covers every path
      still_covers : improved ≡ false → Covers s w u s.n (held ws') (held ds')
      still_covers e =
          let q = r.still e in
          let o : Round s w u s.m (held ws') (held ds') (held ws') (held ds') = rw (← q.0, ← q.1) at r.round in
          let c : Covers s w u done (held ws') (held ds') = rw (q.0, q.1) f.covers in
          subst (λ (k : ℕ). Covers s w u k (held ws') (held ds')) (omega arith)
          (covers_still s w u free g.few (held ws') (held ds') o (s.n - done) done (omega arith) c)

      pub filling_stops : improved ≡ false → RowRight s w u ws' ds'
      filling_stops e = right (256 * done + 256) ws' ds' r.row (still_covers e)

    pub filling_ends : (done : ℕ) (ws ds : List ℕ) → s.n ≤ done → done ≤ s.n → Filling s w u done ws ds → RowRight s w u ws ds
    filling_ends done ws ds l h f = right (256 * done) ws ds f.row (subst (λ (k : ℕ). Covers s w u k (held ws) (held ds)) (omega arith) f.covers)
