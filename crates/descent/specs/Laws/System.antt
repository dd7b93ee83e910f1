-- Where lags begin, what a shorter period keeps, and when lags are at rest.
-- Assumes nothing.
use Rattle.std.specs.Prelude.{ℕ, ◌+◌, ◌<◌, ◌≤◌, List, get_or}
use Rattle.std.proofs.Common.{arith}
use Rattle.descent.specs.System.{slack, Fit, Keeps, Floor}
use Rattle.descent.specs.State.{State, AtRest, Stays}
use Rattle.descent.specs.declared.rules.Rules.{Rules}

-- the start, at every period
pub begun : {g : Rules} → Fit g.keys.now g.lower.now g.upper.now → (c : ℕ) → State g c g.upper.now
begun F c = record { fit = F; e_long = F.upper_long; most = λ s K b h. K.high b h; low = F.ordered; high = λ b h. omega arith }

-- ---- a shorter period asks for more
pub keeps_longer : {keys lower upper : List ℕ} {c d : ℕ} {s : ℕ → ℕ} → c ≤ d → Keeps keys lower upper c s → Keeps keys lower upper d s
keeps_longer le K = record { rule = λ a b ha hb. omega (arith, K.rule a b ha hb); low = K.low; high = K.high }

pub state_stays : {g : Rules} {c d : ℕ} {e : List ℕ} → c ≤ d → State g d e → State g c e
state_stays le S = record { fit = S.fit; e_long = S.e_long; most = λ s K. S.most s (keeps_longer le K); low = S.low; high = S.high }

-- at rest the lags are the largest
pub rest_largest : {g : Rules} {c : ℕ} {e : List ℕ} → AtRest g c e → (s : ℕ → ℕ) → Keeps g.keys.now g.lower.now g.upper.now c s → (b : ℕ) → b < 64 → s b ≤ get_or e b 0
rest_largest R = R.state.most

-- ---- periods without lags
pub floor_none : {keys lower upper : List ℕ} → Floor keys lower upper 0
floor_none c s h K = absurd (omega (arith, h))

pub floor_next : {keys lower upper : List ℕ} {c : ℕ} → ((s : ℕ → ℕ) → Keeps keys lower upper c s → ⊥) → Floor keys lower upper (c + 1)
floor_next f d s h K = f s (keeps_longer (omega arith) K)

-- ---- what lags that keep the rules say in whole numbers
pub whole : {keys lower upper : List ℕ} {c : ℕ} {s : ℕ → ℕ} → Keeps keys lower upper c s → (a b : ℕ) → a < 64 → b < 64 → s a + 1 ≤ s b + slack keys c a b
whole K a b ha hb = omega (arith, K.rule a b ha hb)

-- where all rules hold in whole numbers, the lags are at rest
pub at_rest : {g : Rules} {c : ℕ} {e : List ℕ} → State g c e → ((w u : ℕ) → w < 64 → u < 64 → Stays g.keys.now c w (get_or e w 0) e u) → AtRest g c e
at_rest S f = record {
  state = S;
  keeps = record { rule = λ a b ha hb. omega (arith, f b a hb ha); low = S.low; high = S.high };
}
