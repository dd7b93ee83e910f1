-- The period that lags at rest reach, and the search for the least.
-- Assumes nothing.
use Rattle.std.specs.Prelude.{min, ℕ, ◌+◌, ◌*◌, ◌-◌, ◌<◌, ◌≤◌, ◌≡◌, List, get_or}
use Rattle.std.proofs.Common.{arith, below_more}
use Rattle.std.proofs.Math.Decide.{dec_le}
use Rattle.descent.specs.System.{key, Floor}
use Rattle.descent.specs.State.{AtRest}
use Rattle.descent.specs.declared.rules.Rules.{Rules}
use Rattle.descent.specs.Laws.System.{state_stays}
use Rattle.descent.specs.Least.{Kept, Lags, Resting, Reach, Scaled, Near, Nearing, Nears}

-- ---- scaled lags
pub lag_small : {e : List ℕ} {u : ℕ} → Lags e → u < 64 → (31768 ≤ get_or e u 0) × (get_or e u 0 ≤ 33768)
lag_small {u = u} L h = (L.low u h, L.high u h)

pub near_key : {keys scaled : List ℕ} {v plus u : ℕ} → Nearing keys scaled v plus → u < 64 → (get_or keys (v * 64 + u) 0 ≤ 2099249152) × (get_or scaled u 0 ≤ get_or keys (v * 64 + u) 0 + plus)
near_key {v = v} {u = u} N h = (N.keys_small (v * 64 + u), N.enough u h)

pub near_turn : {keys scaled : List ℕ} {v plus best u r least : ℕ} (x : ℕ) → Near keys scaled v plus best u r → x + get_or scaled u 0 ≡ get_or keys (v * 64 + u) 0 + plus → least ≡ min r x → Near keys scaled v plus best (u + 1) least
near_turn {keys} {scaled} {v} {plus} {u = u} {least = least} x N q m = record {
  within = omega (arith, N.within);
  each = below_more (λ (w : ℕ). least + get_or scaled w 0 ≤ get_or keys (v * 64 + w) 0 + plus) u (λ w l. omega (arith, N.each w l)) (omega arith);
  most = λ d l f. omega (arith, f u (omega arith), N.most d l (λ w k. f w (omega (arith, k))));
}

module _ {keys e scaled : List ℕ} {v plus : ℕ} (R : Resting keys e) (S : Scaled e scaled 64) (hv : v < 64) (q : plus + 31768 * 1048576 ≡ get_or e v 0 * 1048576 + 1048575) where
  pub nears_more : {least r : ℕ} → Nears keys e v least → Near keys scaled v plus least 64 r → Nears keys e (v + 1) r
  nears_more {least} {r} M N = record {
    within = omega (arith, M.within, N.within);
    each = λ a b ha hb. below_more (λ (w : ℕ). get_or e a 0 * 1048576 + 1048576 + r ≤ get_or e w 0 * 1048576 + key keys a w + 1048575) v
        (λ w l. omega (arith, M.each a w ha l, N.within)) (omega (arith, N.each a ha, S.each a ha)) b hb;
    most = λ d l f. N.most d (M.most d l f) (λ u h. omega (arith, f u v h hv, S.each u h));
  }

pub reach_end : {keys e : List ℕ} {k least r : ℕ} → Nears keys e k least → 64 ≤ k → r + least ≡ 1048575 → Reach keys e r
reach_end {keys} {e} {k} {least} {r} M le q = record {
  small = omega arith;
  kept = λ a b ha hb. omega (arith, M.each a b ha (omega arith));
  least = λ d K. short d K (dec_le 1048575 d);
}
  where
    short : (d : ℕ) → Kept keys e d → Dec (1048575 ≤ d) → r ≤ d
    short d K (yes h) = omega arith
    short d K (no h) = omega (arith, M.most (1048575 - d) (omega arith) (λ a b ha hb. omega (arith, K a b ha hb)))

-- the search has come to the periods from `low` on, and to lags at rest at `high`
pub record Searched (g : Rules) (c low high : ℕ) (e : List ℕ) : Type 0 where
  pub rest : AtRest g high e
  pub floor : Floor g.keys.now g.lower.now g.upper.now low
  pub within : high ≤ c

-- lags at rest below are at rest at the period that they reach
pub search_down : {g : Rules} {c low high middle h : ℕ} {e e' : List ℕ} → Searched g c low high e
    → AtRest g middle e' → middle ≤ high → Reach g.keys.now e' h → Searched g c low h e'
search_down {middle = middle} H A le R =
    let S = A.state in
    let w : _ ≤ middle = R.least middle A.keeps.rule in
    record {
      rest = record {
        state = state_stays w S;
        keeps = record { rule = R.kept; low = A.keeps.low; high = A.keeps.high };
      };
      floor = H.floor;
      within = omega (arith, w, H.within);
    }
