-- What trying one wire does to a row, and what a round of tries comes to.
-- Assumes nothing.
use Rattle.std.specs.Prelude.{◌≡◌, refl, Bool, true, false, ◌||◌, ◌⊎◌, List, ℕ, ◌+◌, ◌*◌, ◌≤◌, ◌<◌, length, get_or, set}
use Rattle.std.proofs.Common.{sym, ap, ◌∙◌, subst, true≢false, inl, arith, below_more, length-set, get_or-set_same, get_or-set_other}
use Rattle.std.proofs.Math.Decide.{ℕ_discrete}
use Rattle.paths.proofs.Way.{Limits}
use Rattle.sheet.specs.Core.{Shape}
use Rattle.paths.specs.Lists.{held}
use Rattle.paths.specs.Table.{Way}
use Rattle.tables.specs.Row.{base_w, offer_w, offer_d, Row, Relaxed, Round, Rounded}
use Rattle.tables.specs.Order.{Ahead}
use Rattle.tables.specs.Laws.Ahead.{ahead_registers, ahead_refl, ahead_trans, ahead_add}
use Rattle.tables.specs.Laws.Rows.{base_way, base_few, base_small, base_ahead}
use Rattle.paths.proofs.Way.{way_more}

-- ---- a fact on each entry after two stores at t: on what was stored, and on each other entry as it was
entry_by : (P : ℕ → ℕ → ℕ → Type 0) (ws ds : List ℕ) (t x y : ℕ) → t < length ws → t < length ds → P t x y
    → ((v : ℕ) → P v (get_or ws v 0) (get_or ds v 0)) → (v : ℕ) → Dec (v ≡ t) → P v (get_or (set ws t x) v 0) (get_or (set ds t y) v 0)
entry_by P ws ds t x y l m p all v (yes e) =
    subst (λ (k : ℕ). P k (get_or (set ws t x) k 0) (get_or (set ds t y) k 0)) (sym e) (rw (get_or-set_same ws t x 0 l, get_or-set_same ds t y 0 m) p)
entry_by P ws ds t x y l m p all v (no ne) = rw (get_or-set_other ws t v x 0 ne, get_or-set_other ds t v y 0 ne) (all v)

pub entry : (P : ℕ → ℕ → ℕ → Type 0) (ws ds : List ℕ) (t x y : ℕ) → t < length ws → t < length ds → P t x y
    → ((v : ℕ) → P v (get_or ws v 0) (get_or ds v 0)) → (v : ℕ) → P v (get_or (set ws t x) v 0) (get_or (set ds t y) v 0)
entry P ws ds t x y l m p all v = entry_by P ws ds t x y l m p all v (ℕ_discrete v t)

module _ (s : Shape) (w : ℕ → ℕ) (u : ℕ) (g : Limits s w) (u_lt : u < s.n) where
  pub row_more : (k k' : ℕ) (ws ds : List ℕ) → k ≤ k' → Row s w u k ws ds → Row s w u k' ws ds
  row_more k k' ws ds l r = record {
    ws_long = r.ws_long;
    ds_long = r.ds_long;
    real = r.real;
    blank = r.blank;
    few = λ v h n. omega (arith, r.few v h n);
    small = λ v h. omega (arith, r.small v h);
  }

  module _ (k j : ℕ) (ws ds ws' ds' : List ℕ) (k_le : k ≤ 16384) (j_lt : j < s.m) (row : Row s w u k ws ds) where
    t_lt : s.to j < s.n
    t_lt = g.to_block j j_lt

    improved : Relaxed s w u j ws ds ws' ds' true → (P : ℕ → ℕ → ℕ → Type 0) → P (s.to j) (offer_w s w u (held ws) j) (offer_d s w u (held ds) j)
        → ((v : ℕ) → P v (get_or ws v 0) (get_or ds v 0)) → (v : ℕ) → P v (get_or ws' v 0) (get_or ds' v 0)
    improved r P p all v =
        rw (r.2, r.3)
        (entry P ws ds (s.to j) (offer_w s w u (held ws) j) (offer_d s w u (held ds) j) (omega (arith, row.ws_long, t_lt)) (omega (arith, row.ds_long, t_lt)) p all v)

    offer_few : base_w u (held ws) (s.from j) < 4294967295 → offer_w s w u (held ws) j ≤ 2000 * (k + 1)
    offer_few h =
        omega (arith, base_few s w u k ws ds row u_lt (s.from j) (g.from_block j j_lt) h (ℕ_discrete (s.from j) u), g.few j j_lt)

    offer_small : offer_d s w u (held ds) j ≤ 10000 * (k + 2)
    offer_small =
        omega (
          arith,
          base_small s w u k ws ds row u_lt (s.from j) (g.from_block j j_lt) (g.small u u_lt) (ℕ_discrete (s.from j) u),
          g.small (s.to j) t_lt,
        )

    relaxed_true : Relaxed s w u j ws ds ws' ds' true → Row s w u (k + 1) ws' ds'
    relaxed_true r = record {
      ws_long = ap length r.2 ∙ simp length-set row.ws_long;
      ds_long = ap length r.3 ∙ simp length-set row.ds_long;
      real = improved r (λ (v a b : ℕ). v < s.n → a < 4294967295 → Way s w u v a b)
          (λ _ _. way_more s w u (s.from j) _ _ j
          (base_way s w u k ws ds row u_lt (s.from j) (g.from_block j j_lt) r.0 (ℕ_discrete (s.from j) u)) j_lt refl t_lt)
          row.real;
      blank = improved r (λ (v a b : ℕ). v < s.n → (a < 4294967295) ⊎ ((a ≡ 4294967295) × (b ≡ 0)))
          (λ _. inl (omega (arith, offer_few r.0)))
          row.blank;
      few = improved r (λ (v a b : ℕ). v < s.n → a < 4294967295 → a ≤ 2000 * (k + 1))
          (λ _ _. offer_few r.0)
          (λ v h n. omega (arith, row.few v h n));
      small = improved r (λ (v a b : ℕ). v < s.n → b ≤ 10000 * (k + 1 + 1))
          (λ _. omega (arith, offer_small))
          (λ v h. omega (arith, row.small v h));
    }

    pub relaxed_row : (b : Bool) → Relaxed s w u j ws ds ws' ds' b → Row s w u (k + 1) ws' ds'
    relaxed_row true r = relaxed_true r
    relaxed_row false r = rw (r.1, r.2) (row_more k (k + 1) ws ds (omega arith) row)

    -- ---- the row never falls back, and what the wire offered is no longer ahead of it
    pub relaxed_keeps : (b : Bool) → Relaxed s w u j ws ds ws' ds' b → (v : ℕ) → Ahead (get_or ws' v 0) (get_or ds' v 0) (get_or ws v 0) (get_or ds v 0)
    relaxed_keeps true r v =
        improved r (λ (v a b : ℕ). Ahead a b (get_or ws v 0) (get_or ds v 0)) r.1 (λ v. ahead_refl _ _) v
    relaxed_keeps false r v = rw (r.1, r.2) (ahead_refl _ _)

    relaxed_tried : (b : Bool) → Relaxed s w u j ws ds ws' ds' b → base_w u (held ws) (s.from j) < 4294967295
        → Ahead (get_or ws' (s.to j) 0) (get_or ds' (s.to j) 0) (offer_w s w u (held ws) j) (offer_d s w u (held ds) j)
    relaxed_tried true r h =
        rw (r.2, r.3, get_or-set_same ws (s.to j) (offer_w s w u (held ws) j) 0 (omega (arith, row.ws_long, t_lt)), get_or-set_same ds (s.to j) (offer_d s w u (held ds) j) 0 (omega (arith, row.ds_long, t_lt)))
        (ahead_refl _ _)
    relaxed_tried false r h = rw (r.1, r.2) (r.0 h)

    module _ (W D : ℕ → ℕ) (o : Round s w u j W D (held ws) (held ds)) (b : Bool) (r : Relaxed s w u j ws ds ws' ds' b) where
      now_tried : base_w u W (s.from j) < 4294967295 → Ahead (held ws' (s.to j)) (held ds' (s.to j)) (offer_w s w u W j) (offer_d s w u D j)
      now_tried h =
          let a = base_ahead s w u W D (held ws) (held ds) (s.from j) (o.keeps (s.from j) (g.from_block j j_lt)) (ℕ_discrete (s.from j) u) in
          ahead_trans (relaxed_tried b r (omega (arith, ahead_registers a))) (ahead_add (w j) (s.delay (s.to j)) _ _ _ _ a)

      pub round_next : Round s w u (j + 1) W D (held ws') (held ds')
      round_next = record {
        keeps = λ v l. ahead_trans (relaxed_keeps b r v) (o.keeps v l);
        wire = below_more
            (λ (i : ℕ). base_w u W (s.from i) < 4294967295 → Ahead (held ws' (s.to i)) (held ds' (s.to i)) (offer_w s w u W i) (offer_d s w u D i))
            j
            (λ i l h. ahead_trans (relaxed_keeps b r (s.to i)) (o.wire i l h))
            now_tried;
      }

  pub round_none : (W D : ℕ → ℕ) → Round s w u 0 W D W D
  round_none W D = record { keeps = λ v l. ahead_refl _ _; wire = λ j l. absurd (omega arith) }

-- ---- a round that has tried the wires below j; `improved` says whether there was an improvement
pub record Part (s : Shape) (w : ℕ → ℕ) (u k j : ℕ) (ws₀ ds₀ ws ds : List ℕ) (improved : Bool) : Type 0 where
  pub row : Row s w u (k + j) ws ds
  pub round : Round s w u j (held ws₀) (held ds₀) (held ws) (held ds)
  pub still : improved ≡ false → (ws ≡ ws₀) × (ds ≡ ds₀)

module _ (s : Shape) (w : ℕ → ℕ) (u k : ℕ) (ws₀ ds₀ : List ℕ) (g : Limits s w) (u_lt : u < s.n) where
  pub part_start : Row s w u k ws₀ ds₀ → Part s w u k 0 ws₀ ds₀ ws₀ ds₀ false
  part_start r = record {
    row = row_more s w u g u_lt k (k + 0) ws₀ ds₀ (omega arith) r;
    round = round_none s w u g u_lt (held ws₀) (held ds₀);
    still = λ _. (refl, refl);
  }

  module _ (j : ℕ) (ws ds ws' ds' : List ℕ) (improved : Bool) (p : Part s w u k j ws₀ ds₀ ws ds improved) (j_lt : j < s.m) (few : k + j ≤ 16384) where
    pub part_next : (b : Bool) → Relaxed s w u j ws ds ws' ds' b → Part s w u k (j + 1) ws₀ ds₀ ws' ds' (improved || b)
    part_next b r = record {
      row = row_more s w u g u_lt (k + j + 1) (k + (j + 1)) ws' ds' (omega arith) (relaxed_row s w u g u_lt (k + j) j ws ds ws' ds' few j_lt p.row b r);
      round = round_next s w u g u_lt (k + j) j ws ds ws' ds' few j_lt p.row (held ws₀) (held ds₀) p.round b r;
      still = go improved b p.still r;
    }
      where
        go : (i b : Bool) → (i ≡ false → (ws ≡ ws₀) × (ds ≡ ds₀)) → Relaxed s w u j ws ds ws' ds' b → (i || b) ≡ false → (ws' ≡ ws₀) × (ds' ≡ ds₀)
        go true true q r e = absurd (true≢false e)
        go true false q r e = absurd (true≢false e)
        go false true q r e = absurd (true≢false e)
        go false false q r e = (r.1 ∙ (q refl).0, r.2 ∙ (q refl).1)

  pub part_end : (ws ds : List ℕ) (j : ℕ) (improved : Bool) → s.m ≤ j → j ≤ s.m → s.m ≤ 256 → Part s w u k j ws₀ ds₀ ws ds improved → Rounded s w u (k + 256) ws₀ ds₀ ws ds improved
  part_end ws ds j improved l h few p = record {
    row = row_more s w u g u_lt (k + j) (k + 256) ws ds (omega arith) p.row;
    round = subst (λ (i : ℕ). Round s w u i (held ws₀) (held ds₀) (held ws) (held ds)) (omega arith) p.round;
    still = p.still;
  }
