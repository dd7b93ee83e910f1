-- The rules that lags keep, as code holds them: a lag is its excess number, and a rule's k is held as k + 32,768.
-- Rules are read from the wires' lists and the path table; they stand in no list of their own.
use Rattle.std.specs.Prelude.{◌≡◌, List, ℕ, ◌+◌, ◌*◌, ◌≤◌, ◌<◌, length, get_or}
use Rattle.solver.specs.declared.Given.{Given}
use Rattle.solver.specs.declared.Rule.{Rule}
use Rattle.solver.specs.declared.Rule.TheVariants as R

-- the same with another period and path table
abbrev pub tabled : Given → ℕ → List ℕ → List ℕ → Given
tabled g p registers delays = record g { period = p; registers = registers; delays = delays }

-- no delay is above `most`
pub record Within (delays : List ℕ) (most : ℕ) : Type 0 where
  pub all : (i : ℕ) → get_or delays i 0 ≤ most

-- the rule r, a path's, wire j's or that of the ceiling of wire j, says lag(a) - lag(b) <= k
pub data Says (g : Given) (r : Rule) (a b k : ℕ) : Type 0 where
  path : r ≡ R.Path → a < g.n → b < g.n → g.period < get_or g.delays (a * g.n + b) 0 → k ≡ get_or g.registers (a * g.n + b) 0 + 32767 → Says g r a b k
  wire : (j : ℕ) → j < g.m → r ≡ R.Wire j → a ≡ get_or g.from j 0 → b ≡ get_or g.to j 0 → k ≡ get_or g.wires j 0 → Says g r a b k
  ceiling : (j : ℕ) → j < g.m → r ≡ R.Ceiling j → a ≡ get_or g.to j 0 → b ≡ get_or g.from j 0 → k ≡ get_or g.ceilings j 0 → Says g r a b k

-- what holds a block at its lag: a rule that says so, or its upper limit, which leads to the host
pub data Link (g : Given) (r : Rule) (a b k : ℕ) : Type 0 where
  rule : Says g r a b k → Link g r a b k
  upper : r ≡ R.Limit → b ≡ 0 → k ≡ get_or g.upper a 0 → Link g r a b k

-- the numbers are small enough for code, and the host's lag is 0
pub record Fit (g : Given) : Type 0 where
  pub some_block : 0 < g.n
  pub few_blocks : g.n ≤ 64
  pub few_wires : g.m ≤ 256
  pub lower_long : length g.lower ≡ 64
  pub upper_long : length g.upper ≡ 64
  pub from_long : length g.from ≡ 256
  pub to_long : length g.to ≡ 256
  pub wires_long : length g.wires ≡ 256
  pub ceilings_long : length g.ceilings ≡ 256
  pub registers_long : length g.registers ≡ 4096
  pub delays_long : length g.delays ≡ 4096
  pub from_block : (j : ℕ) → j < g.m → get_or g.from j 0 < g.n
  pub to_block : (j : ℕ) → j < g.m → get_or g.to j 0 < g.n
  pub wires_small : (j : ℕ) → j < g.m → get_or g.wires j 0 ≤ 200000
  pub ceilings_small : (j : ℕ) → j < g.m → get_or g.ceilings j 0 ≤ 200000
  pub paths_small : (a b : ℕ) → a < g.n → b < g.n → g.period < get_or g.delays (a * g.n + b) 0 → get_or g.registers (a * g.n + b) 0 ≤ 150000
  pub host_lower : get_or g.lower 0 0 ≡ 32768
  pub host_upper : get_or g.upper 0 0 ≡ 32768
  pub ordered : (b : ℕ) → b < g.n → get_or g.lower b 0 ≤ get_or g.upper b 0
  pub upper_small : (b : ℕ) → b < g.n → get_or g.upper b 0 ≤ 65536

-- lags, as excess numbers, that keep every rule and both limits
pub record Solution (g : Given) (s : ℕ → ℕ) : Type 0 where
  pub keeps : (r : Rule) (a b k : ℕ) → Says g r a b k → s a + 32768 ≤ s b + k
  pub low : (b : ℕ) → b < g.n → get_or g.lower b 0 ≤ s b
  pub high : (b : ℕ) → b < g.n → s b ≤ get_or g.upper b 0

-- a rule from a to b with bound k holds of the list e
abbrev pub Holds : List ℕ → ℕ → ℕ → ℕ → Type 0
Holds e a b k = get_or e a 0 + 32768 ≤ get_or e b 0 + k
