-- Where the solver begins, every block at its upper limit; and a state without path rules is one with the rules of a path table.
-- Assumes nothing.
use Rattle.std.specs.Prelude.{ℕ, ◌+◌, ◌*◌, ◌<◌, ◌≤◌, ◌≡◌, refl, List, get_or, replicate}
use Rattle.std.proofs.Common.{ap, arith}
use Rattle.std.proofs.Math.Decide.{ℕ_discrete, dec_lt}
use Rattle.std.proofs.lemmas.List.{get_or-replicate, length-replicate}
use Rattle.std.proofs.Math.ListN.{get_or-eq_default}
use Rattle.solver.specs.declared.Given.{Given}
use Rattle.solver.specs.declared.Standing.{Standing}
use Rattle.solver.specs.declared.Rule.{Rule}
use Rattle.solver.specs.declared.Rule.TheVariants as R
use Rattle.solver.specs.System.{Says, path, wire, ceiling, Link, rule, upper, Fit, Solution, tabled, Within}
use Rattle.solver.specs.Walk.{Depth, Rooted}
use Rattle.solver.specs.State.{State, AllHold}

-- no links yet: every block is held by its upper limit, which leads to the host
abbrev pub none : List ℕ
none = replicate 64 0

-- no path table yet
abbrev pub blank : List ℕ
blank = replicate 4096 0

pub blank_quick : (period : ℕ) → Within blank period
blank_quick period = record { all = λ i. go i (dec_lt i 4096) }
  where
    go : (i : ℕ) → Dec (i < 4096) → get_or blank i 0 ≤ period
    go i (yes h) = omega (arith, get_or-replicate {A = ℕ} 4096 i 0 0 h)
    go i (no h) = omega (arith, get_or-eq_default {A = ℕ} blank 0 {n = i} (omega (arith, length-replicate {A = ℕ} 4096 0)))

module _ {g : Given} (F : Fit g) where
  none_at : (b : ℕ) → b < g.n → get_or none b 0 ≡ 0
  none_at b h = get_or-replicate 64 b 0 0 (omega (arith, F.few_blocks))

  none_rooted : Rooted g.n none
  none_rooted =
      record {
        room = omega (arith, F.few_blocks, length-replicate {A = ℕ} 64 0);
        inside = λ v h. omega (arith, none_at v h, F.some_block);
        ends = λ v h. go v h (ℕ_discrete v 0);
      }
    where
      go : (v : ℕ) → v < g.n → Dec (v ≡ 0) → (d : ℕ) × Depth none d v
      go v h (yes z) = (0, z)
      go v h (no nz) = (1, (nz, none_at v h))

  pub begun : State g (record { lags = g.upper; next = none; rules = replicate 64 R.Limit })
  begun =
      record {
        fit = F;
        lags_long = F.upper_long;
        next_long = length-replicate {A = ℕ} 64 0;
        rules_long = length-replicate {A = Rule} 64 R.Limit;
        most = λ s sol v h. sol.high v h;
        low = λ v h. F.ordered v h;
        high = λ v h. omega arith;
        rooted = none_rooted;
        held = λ v h. (
          get_or g.upper v 0,
          upper (get_or-replicate 64 v R.Limit R.Limit (omega (arith, F.few_blocks))) (none_at v h) refl,
          omega (arith, ap (λ (u : ℕ). get_or g.upper u 0) (none_at v h), F.host_upper),
        );
      }

-- ---- a path table and a period, where there was no path rule: rules are added, none is taken away
module _ {g : Given} (quick : Within g.delays g.period) (p : ℕ) (registers delays : List ℕ) where
  rule_stays : {r : Rule} {a b k : ℕ} → Says g r a b k → Says (tabled g p registers delays) r a b k
  rule_stays {a = a} {b = b} (path ei ha hb hd ek) = absurd (omega (arith, quick.all (a * g.n + b)))
  rule_stays (wire j hj ei ea eb ek) = wire j hj ei ea eb ek
  rule_stays (ceiling j hj ei ea eb ek) = ceiling j hj ei ea eb ek

  link_stays : {r : Rule} {a b k : ℕ} → Link g r a b k → Link (tabled g p registers delays) r a b k
  link_stays (rule r) = rule (rule_stays r)
  link_stays (upper ei eb ek) = upper ei eb ek

  solution_stays : {s : ℕ → ℕ} → Solution (tabled g p registers delays) s → Solution g s
  solution_stays sol = record { keeps = λ r a b k l. sol.keeps r a b k (rule_stays l); low = sol.low; high = sol.high }

  pub state_stays : {t : Standing} → Fit (tabled g p registers delays) → State g t → State (tabled g p registers delays) t
  state_stays F St =
      record {
        fit = F;
        lags_long = St.lags_long;
        next_long = St.next_long;
        rules_long = St.rules_long;
        most = λ s sol. St.most s (solution_stays sol);
        low = St.low;
        high = St.high;
        rooted = St.rooted;
        held = λ b h. let l = St.held b h in (l.0, link_stays l.1, l.2);
      }

-- ---- at rest the lags are a solution, and the largest
pub rest_solves : {g : Given} {t : Standing} → State g t → AllHold g t.lags → Solution g (λ b. get_or t.lags b 0)
rest_solves St all = record { keeps = all; low = St.low; high = St.high }
