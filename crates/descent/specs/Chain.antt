-- Chains of rules, and what it means that lags have sunk.
use Rattle.std.specs.Prelude.{◌≡◌, List, ℕ, ◌+◌, ◌*◌, ◌≤◌, ◌<◌, ◌-◌, min, length, get_or}
use Rattle.descent.specs.System.{key, slack, Fit}
use Rattle.descent.specs.State.{Below}
use Rattle.descent.specs.declared.chain.Chain.{Chain}
use Rattle.descent.specs.declared.rules.Rules.{Rules}

-- numbers that keep every rule at period d
abbrev pub RulesKept : List ℕ → ℕ → (ℕ → ℕ) → Type 0
RulesKept keys d s = (a b : ℕ) → a < 64 → b < 64 → s a + 1 ≤ s b + slack keys d a b

-- rules along at most k links lead from `start`: what they say together, at every period below `until`
pub record Chained (keys : List ℕ) (c start k : ℕ) (r : Chain) : Type 0 where
  pub inside : r.end < 64
  pub some : 64 ≤ r.total + k
  pub small : r.total ≤ 64 + k * 2003
  pub beyond : c < r.until
  pub says : (d : ℕ) (s : ℕ → ℕ) → d < r.until → RulesKept keys d s → s start + 64 ≤ s r.end + r.total

-- the chain goes on by the rule (end, next)
pub record Eased (keys : List ℕ) (c next : ℕ) (chain r : Chain) : Type 0 where
  pub leads : r.end ≡ next
  pub adds : r.total + 1 ≡ chain.total + slack keys c chain.end next
  pub lasts : r.until ≡ min chain.until ((slack keys c chain.end next + 1) * 1048576 - key keys chain.end next)

-- some block's lag, if any keep the rules at period c, lies below its lower limit
pub record Sinking (g : Rules) (c : ℕ) (e : List ℕ) : Type 0 where
  pub fit : Fit g.keys.now g.lower.now g.upper.now
  pub e_long : length e ≡ 64
  pub most : Below g c e
  pub block : ℕ
  pub inside : block < 64
  pub under : get_or e block 0 < get_or g.lower.now block 0
