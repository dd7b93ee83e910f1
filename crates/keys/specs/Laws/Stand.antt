-- Why each entry is what it is: kept by a wire that is tried, and enough at the end.
-- Assumes nothing.
use Rattle.std.specs.Prelude.{◌≡◌, refl, ◌⊎◌, List, [], ◌∷◌, ◌++◌, ℕ, ◌+◌, ◌*◌, ◌≤◌, ◌<◌, get_or}
use Rattle.std.proofs.Common.{sym, ap, subst, inl, inr, arith}
use Rattle.sheet.specs.Core.{Shape}
use Rattle.paths.specs.Path.{Joins, registers_on, delay_on}
use Rattle.paths.specs.Table.{Way}
use Rattle.paths.specs.Laws.Path.{passes_all, registers_snoc, between_passes, joins_snoc, joins_start_lt, joins_end_lt}
use Rattle.paths.proofs.Delays.{delay_snoc}
use Rattle.paths.proofs.Way.{Limits}
use Rattle.paths.proofs.Way.{way_more, way_start}
use Rattle.keys.specs.Keys.{entry, Loose, Slow, Keyed}
use Rattle.keys.specs.Filling.{Blank, Lanes, Stand, Stand.way, Stand.far, Stand.sunk, Standing, Holds}

module _ (s : Shape) (w : ℕ → ℕ) where
  -- one wire more
  pub stand_more : (u j k x : ℕ) → Limits s w → j < s.m → Stand s w u (s.from j) k → x + s.delay (s.to j) ≡ k + w j * 1048576 → Stand s w u (s.to j) x
  stand_more u j k x g hj (way W D p e) q =
      way (W + w j) (D + s.delay (s.to j)) (way_more s w u (s.from j) W D j p hj refl (g.to_block j hj)) (omega (arith, e, q))
  stand_more u j k x g hj (far e) q = sunk (s.from j) (j ∷ []) (g.from_block j hj, hj, refl, tt, (g.to_block j hj, refl)) (omega (arith, e, q))
  stand_more u j k x g hj (sunk y ws p e) q =
      sunk y (ws ++ (j ∷ []))
      (joins_snoc s y ws (s.from j) j p hj refl (g.to_block j hj) (between_passes s ws (s.from j) (j ∷ []) (passes_all s (s.from j))))
      (omega (arith, e, q, registers_snoc w ws j, delay_snoc s y ws j))

  -- a key is a path's, or loose
  pub stand_real : (u v k : ℕ) → Slow s w → Stand s w u v k → Loose k ⊎ ((W : ℕ) × (D : ℕ) × Way s w u v W D × (k + D ≡ (W + 1) * 1048576))
  stand_real u v k S (way W D p e) = inr (W, D, p, e)
  stand_real u v k S (far e) = inl (omega arith)
  stand_real u v k S (sunk x ws p e) = inl (omega (arith, S.bound x v ws p, e))

  -- the table before the first sweep
  pub standing_blank : {delays keys : List ℕ} → s.n ≤ 64 → Blank s.n delays keys → ((b : ℕ) → get_or delays b 0 ≡ s.delay b) → Standing s w keys
  standing_blank {delays} {keys} narrow B same = record {
    long = B.long;
    high = λ u v hu hv. high u v (B.rest u v hu hv);
    stands = λ u v hu hv. stands u v (B.rest u v hu hv);
    start = λ u h. omega (arith, B.own u h, same u);
  }
    where
      own_at : (u v : ℕ) → u < s.n → u ≡ v → entry keys u v + s.delay u ≡ 1048576
      own_at u v h e = rw (← e) (omega (arith, B.own u h, same u))

      high : (u v : ℕ) → (entry keys u v ≡ 2099249152) ⊎ ((u < s.n) × (u ≡ v)) → entry keys u v ≤ 2099249152
      high u v (inl e) = omega (arith, e)
      high u v (inr e) = omega (arith, own_at u v e.0 e.1)

      stands : (u v : ℕ) → (entry keys u v ≡ 2099249152) ⊎ ((u < s.n) × (u ≡ v)) → Stand s w u v (entry keys u v)
      stands u v (inl e) = far e
      stands u v (inr e) = way 0 (s.delay u) (subst (λ (b : ℕ). Way s w u b 0 (s.delay u)) e.1 (way_start s w u e.0)) (omega (arith, own_at u v e.0 e.1))

  -- a wire was tried
  module _ (g : Limits s w) (narrow : s.n ≤ 64) (j : ℕ) (hj : j < s.m) {keys keys' : List ℕ} {r : ℕ} (T : Standing s w keys)
      (L : Lanes (s.from j) (s.to j) (w j * 1048576) (s.delay (s.to j)) 64 keys keys' r) where
    pub standing_tried : Standing s w keys'
    standing_tried = record {
      long = L.long;
      high = λ u v hu hv. omega (arith, L.falls u v hu hv, T.high u v hu hv);
      stands = λ u v hu hv. go u v hu hv (L.kept u v hu hv);
      start = λ u h. omega (arith, L.falls u u (omega arith) (omega arith), T.start u h);
    }
      where
        go : (u v : ℕ) → u < 64 → v < 64 → (entry keys' u v ≡ entry keys u v) ⊎ ((v ≡ s.to j) × (entry keys' u v + s.delay (s.to j) ≡ entry keys u (s.from j) + w j * 1048576)) → Stand s w u v (entry keys' u v)
        go u v hu hv (inl e) = rw e (T.stands u v hu hv)
        go u v hu hv (inr e) =
            subst (λ (b : ℕ). Stand s w u b (entry keys' u v)) (sym e.0)
            (stand_more u j (entry keys u (s.from j)) (entry keys' u v) g hj (T.stands u (s.from j) hu (omega (arith, g.from_block j hj))) e.1)

  -- ---- at the end: where all wires hold, no path is better than what stands
  module _ {keys : List ℕ} (narrow : s.n ≤ 64) (S : Slow s w) (T : Standing s w keys) (all : (j : ℕ) → j < s.m → Holds s w keys j) where
    along : (u x : ℕ) (ws : List ℕ) (v : ℕ) → u < 64 → Joins s x ws v → entry keys u v + delay_on s x ws ≤ entry keys u x + registers_on w ws * 1048576 + s.delay x
    along u x [] v hu p = rw p.1 (omega arith)
    along u x (j ∷ ws) v hu p =
        omega (arith, along u (s.to j) ws v hu p.4, all j p.1 u hu, ap (λ (b : ℕ). entry keys u b) p.2, p.2)

    least : (u v : ℕ) (ws : List ℕ) → Joins s u ws v → entry keys u v + delay_on s u ws ≤ (registers_on w ws + 1) * 1048576
    least u v ws p =
        let h : u < s.n = joins_start_lt s u ws v p in
        omega (arith, along u u ws v (omega arith) p, T.start u h)

    -- a block that the core does not have ends no path
    no_way : (u v k : ℕ) → (s.n ≤ u) ⊎ (s.n ≤ v) → Loose k ⊎ ((W : ℕ) × (D : ℕ) × Way s w u v W D × (k + D ≡ (W + 1) * 1048576)) → Loose k
    no_way u v k o (inl l) = l
    no_way u v k (inl o) (inr (W, D, p, e)) = absurd (omega (arith, joins_start_lt s u p.wires v p.joins, o))
    no_way u v k (inr o) (inr (W, D, p, e)) = absurd (omega (arith, joins_end_lt s u p.wires v p.joins, o))

    pub keyed : Keyed s w keys
    keyed = record {
      long = T.long;
      right = λ u v hu hv. record {
        small = T.high u v (omega arith) (omega arith);
        least = least u v;
        real = stand_real u v (entry keys u v) S (T.stands u v (omega arith) (omega arith));
      };
      high = T.high;
      outside = λ u v hu hv o. no_way u v (entry keys u v) o (stand_real u v (entry keys u v) S (T.stands u v hu hv));
    }
