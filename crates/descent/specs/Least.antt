-- The least period, and the period that lags at rest reach.
use Rattle.std.specs.Prelude.{◌≡◌, List, ℕ, ◌+◌, ◌*◌, ◌≤◌, ◌<◌, length, get_or}
use Rattle.descent.specs.System.{key, Floor}
use Rattle.descent.specs.State.{AtRest}
use Rattle.descent.specs.declared.rules.Rules.{Rules}

-- at rest at r, which is the least period that has lags, and no longer than c
pub record LeastRest (g : Rules) (c r : ℕ) (e : List ℕ) : Type 0 where
  pub rest : AtRest g r e
  pub floor : Floor g.keys.now g.lower.now g.upper.now r
  pub within : r ≤ c

-- the lags keep every rule at period c
abbrev pub Kept : List ℕ → List ℕ → ℕ → Type 0
Kept keys e c = (a b : ℕ) → a < 64 → b < 64 → get_or e a 0 * 1048576 + 1048576 ≤ get_or e b 0 * 1048576 + key keys a b + c

-- lags, small enough for code
pub record Lags (e : List ℕ) : Type 0 where
  pub long : length e ≡ 64
  pub low : (b : ℕ) → b < 64 → 31768 ≤ get_or e b 0
  pub high : (b : ℕ) → b < 64 → get_or e b 0 ≤ 33768

-- lags whose reach can be taken
pub record Resting (keys e : List ℕ) : Type 0 where
  pub keys_long : length keys ≡ 4096
  pub keys_small : (i : ℕ) → get_or keys i 0 ≤ 2099249152
  pub lags : Lags e
  pub kept : Kept keys e 1048575

-- r is the least period at which the lags keep every rule
pub record Reach (keys e : List ℕ) (r : ℕ) : Type 0 where
  pub small : r ≤ 1048575
  pub kept : Kept keys e r
  pub least : (d : ℕ) → Kept keys e d → r ≤ d

-- the first k lags, one step up, from 31,768 on and in periods
pub record Scaled (e scaled : List ℕ) (k : ℕ) : Type 0 where
  pub long : length scaled ≡ 64
  pub each : (u : ℕ) → u < k → get_or scaled u 0 + 31768 * 1048576 ≡ get_or e u 0 * 1048576 + 1048576

-- what is left of 1,048,575 under the rules of the first k blocks with v, where `plus` stands for v: the least of it and `best`
pub record Near (keys scaled : List ℕ) (v plus best k r : ℕ) : Type 0 where
  pub within : r ≤ best
  pub each : (u : ℕ) → u < k → r + get_or scaled u 0 ≤ get_or keys (v * 64 + u) 0 + plus
  pub most : (d : ℕ) → d ≤ best → ((u : ℕ) → u < k → d + get_or scaled u 0 ≤ get_or keys (v * 64 + u) 0 + plus) → d ≤ r

-- what code needs for that
pub record Nearing (keys scaled : List ℕ) (v plus : ℕ) : Type 0 where
  pub keys_long : length keys ≡ 4096
  pub keys_small : (i : ℕ) → get_or keys i 0 ≤ 2099249152
  pub scaled_long : length scaled ≡ 64
  pub v_small : v < 64
  pub plus_small : plus ≤ 2098200575
  pub enough : (u : ℕ) → u < 64 → get_or scaled u 0 ≤ get_or keys (v * 64 + u) 0 + plus

-- the same under the rules of all blocks with the first k
pub record Nears (keys e : List ℕ) (k r : ℕ) : Type 0 where
  pub within : r ≤ 1048575
  pub each : (a b : ℕ) → a < 64 → b < k → get_or e a 0 * 1048576 + 1048576 + r ≤ get_or e b 0 * 1048576 + key keys a b + 1048575
  pub most : (d : ℕ) → d ≤ 1048575 → ((a b : ℕ) → a < 64 → b < 64 → get_or e a 0 * 1048576 + 1048576 + d ≤ get_or e b 0 * 1048576 + key keys a b + 1048575) → d ≤ r
