-- The solver's state is kept where a broken rule lowers a block.
-- Assumes nothing.
use Rattle.std.specs.Prelude.{ℕ, ◌+◌, ◌<◌, ◌≤◌, ◌≡◌, true, List, get_or, set}
use Rattle.std.proofs.Common.{ap, ◌∙◌, arith, length-set, get_or-set_same, get_or-set_other}
use Rattle.std.proofs.Math.Decide.{ℕ_discrete}
use Rattle.solver.specs.declared.Given.{Given}
use Rattle.solver.specs.declared.Standing.{Standing}
use Rattle.solver.specs.declared.Rule.{Rule}
use Rattle.solver.specs.declared.Rule.TheVariants as R
use Rattle.solver.specs.System.{Says, path, wire, ceiling, Link, rule, Fit, Solution}
use Rattle.solver.specs.Walk.{Miss}
use Rattle.solver.specs.State.{State, Swept}
use Rattle.sheet.specs.Sum.{sum}
use Rattle.sheet.specs.Laws.Sum.{sum_set}
use Rattle.solver.specs.Laws.Walk.{rooted_set}

-- a rule's ends are blocks, and its k is small enough for code
pub record Ends (g : Given) (a b k : ℕ) : Type 0 where
  pub a_block : a < g.n
  pub b_block : b < g.n
  pub k_small : k ≤ 200000

pub rule_ends : {g : Given} {r : Rule} {a b k : ℕ} → Fit g → Says g r a b k → Ends g a b k
rule_ends {g} {r} {a} {b} {k} F (path ei ha hb hd ek) = record { a_block = ha; b_block = hb; k_small = omega (arith, F.paths_small a b ha hb hd) }
rule_ends F (wire j hj ei ea eb ek) = record {
  a_block = omega (arith, F.from_block j hj);
  b_block = omega (arith, F.to_block j hj);
  k_small = omega (arith, F.wires_small j hj);
}
rule_ends F (ceiling j hj ei ea eb ek) = record {
  a_block = omega (arith, F.to_block j hj);
  b_block = omega (arith, F.from_block j hj);
  k_small = omega (arith, F.ceilings_small j hj);
}

-- the host stays at 0
pub host_zero : {g : Given} {t : Standing} → State g t → get_or t.lags 0 0 ≡ 32768
host_zero {g} St = let z = St.fit.some_block in omega (arith, St.low 0 z, St.high 0 z, St.fit.host_lower, St.fit.host_upper)

-- the store of a broken rule
module _
    {g : Given}
    {t : Standing}
    (St : State g t)
    {r : Rule}
    {a b k x : ℕ}
    (S : Says g r a b k)
    (br : get_or t.lags b 0 + k < get_or t.lags a 0 + 32768)
    (ex : x + 32768 ≡ get_or t.lags b 0 + k)
    (lx : get_or g.lower a 0 ≤ x)
    (M : Miss t.next a b) where
  ha : a < g.n
  ha = (rule_ends St.fit S).a_block

  hb : b < g.n
  hb = (rule_ends St.fit S).b_block

  a_long : a < 64
  a_long = omega (arith, ha, St.fit.few_blocks)

  e_same : get_or (set t.lags a x) a 0 ≡ x
  e_same = get_or-set_same t.lags a x 0 (omega (arith, a_long, St.lags_long))

  -- no block rises
  falls : (v : ℕ) → get_or (set t.lags a x) v 0 ≤ get_or t.lags v 0
  falls v = go (ℕ_discrete v a)
    where
      go : Dec (v ≡ a) → get_or (set t.lags a x) v 0 ≤ get_or t.lags v 0
      go (yes q) = omega (arith, e_same, ap (λ (u : ℕ). get_or (set t.lags a x) u 0) q, ap (λ (u : ℕ). get_or t.lags u 0) q)
      go (no q) = omega (arith, get_or-set_other t.lags a v x 0 q)

  pub sum_falls : sum (set t.lags a x) < sum t.lags
  sum_falls = omega (arith, sum_set t.lags a x (omega (arith, a_long, St.lags_long)))

  -- the host is at its lower limit, so no rule that is kept lowers it
  not_host : a ≡ 0 → ⊥
  not_host q = omega (arith, lx, host_zero St, ap (λ (u : ℕ). get_or t.lags u 0) q, ap (λ (u : ℕ). get_or g.lower u 0) q, St.fit.host_lower)

  most' : (s : ℕ → ℕ) → Solution g s → (v : ℕ) → v < g.n → s v ≤ get_or (set t.lags a x) v 0
  most' s sol v hv = go (ℕ_discrete v a)
    where
      go : Dec (v ≡ a) → s v ≤ get_or (set t.lags a x) v 0
      go (yes q) = omega (arith, e_same, ap (λ (u : ℕ). get_or (set t.lags a x) u 0) q, ap s q, sol.keeps r a b k S, St.most s sol b hb)
      go (no q) = omega (arith, get_or-set_other t.lags a v x 0 q, St.most s sol v hv)

  low' : (v : ℕ) → v < g.n → get_or g.lower v 0 ≤ get_or (set t.lags a x) v 0
  low' v hv = go (ℕ_discrete v a)
    where
      go : Dec (v ≡ a) → get_or g.lower v 0 ≤ get_or (set t.lags a x) v 0
      go (yes q) = omega (arith, e_same, ap (λ (u : ℕ). get_or (set t.lags a x) u 0) q, ap (λ (u : ℕ). get_or g.lower u 0) q)
      go (no q) = omega (arith, get_or-set_other t.lags a v x 0 q, St.low v hv)

  abbrev Held' : ℕ → Type 0
  Held' v =
      (κ : ℕ)
      × Link g (get_or (set t.rules a r) v R.Limit) v (get_or (set t.next a b) v 0) κ
      × (get_or (set t.lags a x) (get_or (set t.next a b) v 0) 0 + κ ≤ get_or (set t.lags a x) v 0 + 32768)

  held' : (v : ℕ) → v < g.n → Held' v
  held' v hv = go (ℕ_discrete v a)
    where
      go : Dec (v ≡ a) → Held' v
      go (yes q) =
          rw (q, get_or-set_same t.rules a r R.Limit (omega (arith, a_long, St.rules_long)), get_or-set_same t.next a b 0 (omega (arith, a_long, St.next_long)))
          (k, rule S, omega (arith, e_same, get_or-set_other t.lags a b x 0 M.apart))
      go (no q) =
          let h = St.held v hv in
          rw (get_or-set_other t.rules a v r R.Limit q, get_or-set_other t.next a v b 0 q, get_or-set_other t.lags a v x 0 q)
          (h.0, h.1, omega (arith, h.2, falls (get_or t.next v 0)))

  pub stored : State g (record { lags = set t.lags a x; next = set t.next a b; rules = set t.rules a r })
  stored =
      record {
        fit = St.fit;
        lags_long = length-set t.lags a x ∙ St.lags_long;
        next_long = length-set t.next a b ∙ St.next_long;
        rules_long = length-set t.rules a r ∙ St.rules_long;
        most = most';
        low = low';
        high = λ v hv. omega (arith, falls v, St.high v hv);
        rooted = rooted_set g.n t.next a b St.rooted ha hb not_host (M.rooted b);
        held = held';
      }

-- the rule was broken, and a is lowered to what it allows
pub step_lowers : {g : Given} {Done : List ℕ → Type 0} {t : Standing} → State g t → {r : Rule} {a b k : ℕ} → Says g r a b k → (x : ℕ) → x + 32768 ≡ get_or t.lags b 0 + k
    → x < get_or t.lags a 0 → get_or g.lower a 0 ≤ x → Miss t.next a b → Swept g Done t (record { lags = set t.lags a x; next = set t.next a b; rules = set t.rules a r }) true
step_lowers {t = t} St {a = a} {b} {k} S x q lt le M =
    let br : get_or t.lags b 0 + k < get_or t.lags a 0 + 32768 = omega arith in
    record {
      state = stored St S br q le M;
      less = λ _. sum_falls St S br q le M;
      same = λ z. cc;
    }
