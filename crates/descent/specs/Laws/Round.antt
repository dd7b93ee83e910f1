-- Blocks taken one after another, round after round.
-- Assumes nothing.
use Rattle.std.specs.Prelude.{Bool, true, false, ℕ, ◌<◌, ◌≤◌, ◌≡◌, List, get_or, set, replicate, Result, Ok, Err, OnOk}
use Rattle.std.proofs.Common.{sym, ◌∙◌, inl, arith, length-set, get_or-set_same, get_or-set_other}
use Rattle.std.proofs.Math.Decide.{ℕ_discrete}
use Rattle.std.proofs.lemmas.List.{get_or-replicate, length-replicate}
use Rattle.sheet.specs.Sum.{sum}
use Rattle.sheet.specs.Laws.Sum.{sum_set}
use Rattle.descent.specs.State.{State, IsColumn, Falls, Stays, Pushed, Under, Going, Stepped}
use Rattle.descent.specs.Chain.{Sinking}
use Rattle.descent.specs.declared.rules.NoLags.{NoLags}
use Rattle.descent.specs.declared.rules.Rules.{Rules}
use Rattle.descent.specs.Laws.Push.{no_rise, pushed_below, pushed_state, own_kept, still_kept}

module _ {g : Rules} {c : ℕ} {e seen : List ℕ} (G : Going g c e seen) where
  -- the column of a block, at its lag
  pub column : {v : ℕ} → v < 64 → IsColumn g.keys.now c v (get_or e v 0)
  column {v} h =
      let S = G.state in
      record {
        table = record { long = S.fit.keys_long; small = S.fit.keys_small; c_small = G.c_small };
        v_small = h;
        some_lag = omega (arith, S.low v h, S.fit.low v h);
        lag_small = omega (arith, S.high v h, S.fit.high v h);
      }

  module _ {v : ℕ} (hv : v < 64) where
    module _ (moved : get_or seen v 0 ≡ get_or e v 0 → ⊥) where
      -- v is seen where it stands
      abbrev now_seen : List ℕ
      now_seen = set seen v (get_or e v 0)

      seen_less : sum now_seen < sum seen
      seen_less = omega (arith, sum_set seen v (get_or e v 0) (omega (arith, G.seen_long)), G.above v hv)

      seen_same : (w : ℕ) → (w ≡ v → ⊥) → get_or now_seen w 0 ≡ get_or seen w 0
      seen_same w n = get_or-set_other seen v w (get_or e v 0) 0 n

      seen_here : get_or now_seen v 0 ≡ get_or e v 0
      seen_here = get_or-set_same seen v (get_or e v 0) 0 (omega (arith, G.seen_long))

      -- lags that have not risen, and rules that hold where lags stand as they did
      going_on : {e' : List ℕ} → State g c e' → ((w : ℕ) → w < 64 → get_or e' w 0 ≤ get_or e w 0)
          → (get_or e' v 0 ≡ get_or e v 0 → (u : ℕ) → u < 64 → Stays g.keys.now c v (get_or e' v 0) e' u)
          → ((w : ℕ) → w < 64 → get_or e' w 0 ≡ get_or e w 0 → ((u : ℕ) → u < 64 → Stays g.keys.now c w (get_or e w 0) e u) → (u : ℕ) → u < 64 → Stays g.keys.now c w (get_or e' w 0) e' u)
          → Going g c e' now_seen
      going_on {e'} S' fall own others = record {
        state = S';
        c_small = G.c_small;
        seen_long = length-set seen v (get_or e v 0) ∙ G.seen_long;
        above = λ w h. over w h (ℕ_discrete w v);
        quiet = λ w h. at w h (ℕ_discrete w v);
      }
        where
          over : (w : ℕ) → w < 64 → Dec (w ≡ v) → get_or e' w 0 ≤ get_or now_seen w 0
          over w h (yes q) = rw q (omega (arith, fall v hv, seen_here))
          over w h (no n) = omega (arith, fall w h, seen_same w n, G.above w h)

          at : (w : ℕ) → w < 64 → Dec (w ≡ v) → get_or e' w 0 ≡ get_or now_seen w 0 → (u : ℕ) → u < 64 → Stays g.keys.now c w (get_or e' w 0) e' u
          at w h (yes q) t = rw q (own (rw q at t ∙ seen_here))
          at w h (no n) t =
              let same : get_or e' w 0 ≡ get_or e w 0 = omega (arith, fall w h, seen_same w n, G.above w h, t) in
              others w h same (G.quiet w h (sym same ∙ t ∙ seen_same w n))

      -- column v lowers nothing
      pub step_still : {some : Bool} → Falls g.keys.now c v (get_or e v 0) e 64 some → some ≡ false → Stepped g c v e seen e (set seen v (get_or e v 0))
      step_still C z = record {
        on = going_on G.state (λ w _. omega arith) (λ _. C.none z) (λ w h _ f. f);
        less = record { done = inl (omega (arith, seen_less)) };
      }

      module _ {e' : List ℕ} (P : Pushed g.keys.now c v (get_or e v 0) e e' 64) {sunk : Bool} (U : Under g.lower.now e' 64 sunk) where
        -- column v is pushed
        pub step_pushed : sunk ≡ false → Stepped g c v e seen e' (set seen v (get_or e v 0))
        step_pushed z = record {
          on = going_on (pushed_state G.state hv P (U.none z)) (no_rise G.state hv P) (own_kept G.state hv P) (λ w _. still_kept G.state hv P w);
          less = record { done = inl (omega (arith, seen_less, P.less)) };
        }

        -- and a test says what it may
        pub step_tested : sunk ≡ false → (r : Result (Unit {0}) NoLags) → OnOk r (Stepped g c v e seen e' (set seen v (get_or e v 0)))
        step_tested z (Ok _) = step_pushed z
        step_tested z (Err _) = tt

        -- and a block has sunk
        pub sinking : sunk ≡ true → Sinking g c e'
        sinking z =
            let s = U.one z in
            record { fit = G.state.fit; e_long = P.e_long; most = pushed_below G.state hv P; block = s.0; inside = s.1; under = s.2 }

-- ---- the rounds: all blocks count as moved at first, none at the end
pub going_start : {g : Rules} {c : ℕ} {e : List ℕ} → State g c e → c < 1048576 → Going g c e (replicate 64 40000)
going_start {e = e} S hc =
    let far : (w : ℕ) → w < 64 → get_or e w 0 < get_or (replicate 64 40000) w 0 = λ w h. omega (arith, get_or-replicate {A = ℕ} 64 w 40000 0 h, S.high w h, S.fit.high w h) in
    record {
      state = S;
      c_small = hc;
      seen_long = length-replicate {A = ℕ} 64 40000;
      above = λ w h. omega (arith, far w h);
      quiet = λ w h z. absurd (omega (arith, far w h, z));
    }
