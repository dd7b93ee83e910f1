-- A push keeps what is known of the lags.
-- Assumes nothing.
use Rattle.std.specs.Prelude.{ℕ, ◌<◌, ◌≤◌, ◌≡◌, List, get_or}
use Rattle.std.proofs.Common.{inl, inr, arith}
use Rattle.descent.specs.State.{Below, State, Stays, Lowered, Pushed}
use Rattle.descent.specs.declared.rules.Rules.{Rules}
use Rattle.descent.specs.Laws.System.{whole}

module _ {g : Rules} {c v : ℕ} {e e' : List ℕ} (S : State g c e) (hv : v < 64) (P : Pushed g.keys.now c v (get_or e v 0) e e' 64) where
  pub no_rise : (u : ℕ) → u < 64 → get_or e' u 0 ≤ get_or e u 0
  no_rise u h = go (P.done u h)
    where
      go : Lowered g.keys.now c v (get_or e v 0) e e' u → get_or e' u 0 ≤ get_or e u 0
      go (inl l) = omega (arith, l)
      go (inr l) = omega (arith, l.1)

  pub pushed_below : Below g c e'
  pushed_below s K u h = go (P.done u h)
    where
      go : Lowered g.keys.now c v (get_or e v 0) e e' u → s u ≤ get_or e' u 0
      go (inl l) = omega (arith, l.1, whole K u v h hv, S.most s K v hv)
      go (inr l) = omega (arith, l.1, S.most s K u h)

  pub pushed_state : ((u : ℕ) → u < 64 → get_or g.lower.now u 0 ≤ get_or e' u 0) → State g c e'
  pushed_state low = record {
    fit = S.fit;
    e_long = P.e_long;
    most = pushed_below;
    low = low;
    high = λ u h. omega (arith, no_rise u h, S.high u h);
  }

  -- where v stands as it did, its rules hold now
  pub own_kept : get_or e' v 0 ≡ get_or e v 0 → (u : ℕ) → u < 64 → Stays g.keys.now c v (get_or e' v 0) e' u
  own_kept q u h = go (P.done u h)
    where
      go : Lowered g.keys.now c v (get_or e v 0) e e' u → Stays g.keys.now c v (get_or e' v 0) e' u
      go (inl l) = omega (arith, l.1)
      go (inr l) = omega (arith, l.0, l.1)

  -- and where w stands as it did, rules of w that held hold still
  pub still_kept : (w : ℕ) → get_or e' w 0 ≡ get_or e w 0 → ((u : ℕ) → u < 64 → Stays g.keys.now c w (get_or e w 0) e u) → (u : ℕ) → u < 64 → Stays g.keys.now c w (get_or e' w 0) e' u
  still_kept w q f u h = omega (arith, f u h, no_rise u h)
