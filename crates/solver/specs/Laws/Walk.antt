-- Walks along links: they are short, they pass no block twice, and a new link keeps every walk's end.
-- Assumes nothing.
use Rattle.std.specs.Prelude.{ℕ, zero, suc, ◌+◌, ◌<◌, ◌≤◌, ◌≡◌, refl, List, false, length, get_or, set, replicate}
use Rattle.std.proofs.Common.{ap, sym, subst, ◌∙◌, arith, add-one, below_more, length-set, get_or-set_same, get_or-set_other}
use Rattle.std.proofs.Math.Decide.{ℕ_discrete}
use Rattle.std.proofs.lemmas.List.{get_or-replicate, length-replicate}
use Rattle.solver.specs.Walk.{Depth, Rooted, iter, Past, Met}
use Rattle.sheet.specs.Sum.{sum}
use Rattle.sheet.specs.Laws.Sum.{sum_set}

pub iter_in : (n : ℕ) (par : List ℕ) → Rooted n par → (v : ℕ) → v < n → (k : ℕ) → iter par k v < n
iter_in n par R v h zero = h
iter_in n par R v h (suc k) = R.inside (iter par k v) (iter_in n par R v h k)

same_depth : (par : List ℕ) (d d' v : ℕ) → Depth par d v → Depth par d' v → d ≡ d'
same_depth par zero zero v p q = refl
same_depth par zero (suc d') v p q = absurd (q.0 p)
same_depth par (suc d) zero v p q = absurd (p.0 q)
same_depth par (suc d) (suc d') v p q = ap suc (same_depth par d d' (get_or par v 0) p.1 q.1)

-- marks: a list of ones, of which those of the blocks that are as near to the host as d are still set; there are more of them than d
marked : (n : ℕ) (par : List ℕ) → Rooted n par → (ms : List ℕ) → length ms ≡ n → (d v : ℕ) → v < n → Depth par d v
    → ((w j : ℕ) → w < n → Depth par j w → j ≤ d → get_or ms w 0 ≡ 1) → d < sum ms
marked n par R ms el zero v h p f =
    omega (arith, f v zero h p (omega arith), sum_set ms v 0 (omega arith))
marked n par R ms el (suc d) v h p f =
    omega (
      arith,
      f v (suc d) h p (omega arith),
      sum_set ms v 0 (omega arith),
      marked n par R (set ms v 0)
          (length-set ms v 0 ∙ el) d (get_or par v 0) (R.inside v h) p.1 (λ w j hw q le.
          get_or-set_other ms v w 0 0 (λ e. let z : j ≡ suc d = same_depth par j (suc d) v (subst (λ (u : ℕ). Depth par j u) e q) p in omega arith)
          ∙ f w j hw q (omega arith)),
    )

sum_ones : (n : ℕ) → sum (replicate n 1) ≡ n
unfolding sum
sum_ones zero = refl
sum_ones (suc n) = omega (arith, sum_ones n)

-- a walk is shorter than the number of blocks
pub short : (n : ℕ) (par : List ℕ) → Rooted n par → (d v : ℕ) → v < n → Depth par d v → d < n
short n par R d v h p =
    omega (
      arith,
      sum_ones n,
      marked n par R (replicate n 1) (length-replicate n 1) d v h p
          (λ w j hw q le. get_or-replicate n w 1 0 hw),
    )

-- a new link from a to b keeps every walk's end
relink : (par : List ℕ) (a b : ℕ) → a < length par → (a ≡ 0 → ⊥) → (db : ℕ) → Depth (set par a b) db b
    → (d v : ℕ) → Depth par d v → (d' : ℕ) × Depth (set par a b) d' v
relink par a b ha na db pb zero v p = (0, p)
relink par a b ha na db pb (suc d) v p = go (relink par a b ha na db pb d (get_or par v 0) p.1) (ℕ_discrete v a)
  where
    go : ((d' : ℕ) × Depth (set par a b) d' (get_or par v 0)) → Dec (v ≡ a) → (d' : ℕ) × Depth (set par a b) d' v
    go r (yes e) = (suc db, (p.0, subst (λ (u : ℕ). Depth (set par a b) db u) (sym (ap (λ (u : ℕ). get_or (set par a b) u 0) e ∙ get_or-set_same par a b 0 ha)) pb))
    go r (no ne) =
        (suc r.0, (p.0, subst (λ (u : ℕ). Depth (set par a b) r.0 u) (sym (get_or-set_other par a v b 0 ne)) r.1))

pub rooted_set : (n : ℕ) (par : List ℕ) (a b : ℕ) → Rooted n par → a < n → b < n → (a ≡ 0 → ⊥)
    → ((d : ℕ) × Depth (set par a b) d b) → Rooted n (set par a b)
rooted_set n par a b R ha hb na pb =
    record {
      room = rw length-set R.room;
      inside = λ v hv. go v hv (ℕ_discrete v a);
      ends = λ v hv. let q = R.ends v hv in relink par a b (omega (arith, R.room)) na pb.0 pb.1 q.0 v q.1;
    }
  where
    go : (v : ℕ) → v < n → Dec (v ≡ a) → get_or (set par a b) v 0 < n
    go v hv (yes e) = omega (arith, ap (λ (u : ℕ). get_or (set par a b) u 0) e, get_or-set_same par a b 0 (omega (arith, R.room)))
    go v hv (no ne) = omega (arith, get_or-set_other par a v b 0 ne, R.inside v hv)

-- the walk from b to a, after k steps at v
pub record Walking (n : ℕ) (par : List ℕ) (a b v k : ℕ) : Type 0 where
  pub inside : v < n
  pub here : iter par k b ≡ v
  pub back : (x d : ℕ) → Depth (set par a x) d v → (d' : ℕ) × Depth (set par a x) d' b
  pub more : (d : ℕ) → Depth par d v → k + d < n
  pub apart : b ≡ a → v ≡ a
  pub past : Past par a b k

pub walk_start : (n : ℕ) (par : List ℕ) (a b : ℕ) → Rooted n par → b < n → Walking n par a b b 0
walk_start n par a b R h =
    record {
      inside = h;
      here = refl;
      back = λ x d p. (d, p);
      more = λ d p. omega (arith, short n par R d b h p);
      apart = λ q. q;
      past = λ j lt. absurd (omega (arith, lt));
    }

module _ {n : ℕ} {par : List ℕ} {a b v k : ℕ} (R : Rooted n par) (W : Walking n par a b v k) where
  pub walk_step : (v ≡ a → ⊥) → (v ≡ 0 → ⊥) → Walking n par a b (get_or par v 0) (k + 1)
  walk_step na nz =
      record {
        inside = R.inside v W.inside;
        here = rw add-one (ap (λ (u : ℕ). get_or par u 0) W.here);
        back = λ x d p. W.back x (suc d) (nz, rw (get_or-set_other par a v x 0 na) p);
        more = λ d p. omega (arith, W.more (suc d) (nz, p));
        apart = λ q. absurd (na (W.apart q));
        past =
            below_more (λ j. (iter par j b ≡ a → ⊥) × (iter par j b ≡ 0 → ⊥)) k W.past
            ((λ q. na (sym W.here ∙ q)), (λ q. nz (sym W.here ∙ q)));
      }

  pub walk_end : (v ≡ a → ⊥) → v ≡ 0 → Met par a b false
  walk_end na z = record { apart = λ q. na (W.apart q); rooted = λ x. W.back x 0 z; steps = k; there = W.here ∙ z; past = W.past }

  pub walk_over : n ≤ k → ⊥
  walk_over le = let q = R.ends v W.inside in omega (arith, W.more q.0 q.1)

-- p steps down a walk that has not ended take p off its depth
down : (par : List ℕ) (b d p : ℕ) → Depth par d b → ((j : ℕ) → j < p → iter par j b ≡ 0 → ⊥) → (d' : ℕ) × Depth par d' (iter par p b) × (d' + p ≡ d)
down par b d zero D f = (d, D, omega arith)
down par b d (suc p) D f = go (down par b d p D (λ j lt. f j (omega arith)))
  where
    step : (d' : ℕ) → Depth par d' (iter par p b) → d' + p ≡ d → (d'' : ℕ) × Depth par d'' (get_or par (iter par p b) 0) × (d'' + suc p ≡ d)
    step zero q e = absurd (f p (omega arith) q)
    step (suc d'') q e = (d'', q.1, omega arith)

    go : ((d' : ℕ) × Depth par d' (iter par p b) × (d' + p ≡ d)) → (d'' : ℕ) × Depth par d'' (get_or par (iter par p b) 0) × (d'' + suc p ≡ d)
    go q = step q.0 q.1 q.2

-- two places of a walk that has not ended are two blocks
pub distinct : (par : List ℕ) (b d p q : ℕ) → Depth par d b → ((j : ℕ) → j < q → iter par j b ≡ 0 → ⊥) → p < q → iter par p b ≡ iter par q b → ⊥
distinct par b d p q D f lt e =
    let x = down par b d p D (λ j h. f j (omega arith)) in
    let y = down par b d q D f in
    let z : x.0 ≡ y.0 = same_depth par x.0 y.0 (iter par q b) (subst (λ (u : ℕ). Depth par x.0 u) e x.1) y.1 in
    omega (arith, x.2, y.2)
