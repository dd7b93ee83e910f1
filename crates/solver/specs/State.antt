-- What holds of where the solver stands between two rules, and what each of its functions gives.
use Rattle.std.specs.Prelude.{◌≡◌, ◌⊎◌, Bool, true, false, Result, Ok, Err, List, ℕ, ◌+◌, ◌*◌, ◌≤◌, ◌<◌, length, get_or}
use Rattle.solver.specs.declared.Given.{Given}
use Rattle.solver.specs.declared.Standing.{Standing}
use Rattle.solver.specs.declared.Broken.{Broken}
use Rattle.solver.specs.declared.Rule.{Rule}
use Rattle.solver.specs.declared.Rule.TheVariants as R
use Rattle.solver.specs.System.{Says, Link, Fit, Solution, Holds}
use Rattle.solver.specs.Walk.{Rooted, Hit}
use Rattle.sheet.specs.Sum.{sum}

-- Every solution lies at or below the lags, a block is at or above what its rule asks, and following links ends at the host.
pub record State (g : Given) (t : Standing) : Type 0 where
  pub fit : Fit g
  pub lags_long : length t.lags ≡ 64
  pub next_long : length t.next ≡ 64
  pub rules_long : length t.rules ≡ 64
  pub most : (s : ℕ → ℕ) → Solution g s → (b : ℕ) → b < g.n → s b ≤ get_or t.lags b 0
  pub low : (b : ℕ) → b < g.n → get_or g.lower b 0 ≤ get_or t.lags b 0
  pub high : (b : ℕ) → b < g.n → get_or t.lags b 0 ≤ get_or g.upper b 0
  pub rooted : Rooted g.n t.next
  pub held : (b : ℕ) → b < g.n → (k : ℕ) × Link g (get_or t.rules b R.Limit) b (get_or t.next b 0) k × (get_or t.lags (get_or t.next b 0) 0 + k ≤ get_or t.lags b 0 + 32768)

-- why a broken rule leaves no solution: it asks for less than the lower limit of a, or the links from b lead to a
pub record Stuck (g : Given) (t : Standing) (x : Broken) : Type 0 where
  pub k : ℕ
  pub says : Says g x.rule x.a x.b k
  pub broken : get_or t.lags x.b 0 + k < get_or t.lags x.a 0 + 32768
  pub why : Hit t.next x.a x.b ⊎ (get_or t.lags x.b 0 + k < get_or g.lower x.a 0 + 32768)

-- rules were tried and are kept, and `lowered` says whether one of them lowered a lag; where none did, what they say is `Done`
pub record Swept (g : Given) (Done : List ℕ → Type 0) (t t' : Standing) (lowered : Bool) : Type 0 where
  pub state : State g t'
  pub less : lowered ≡ true → sum t'.lags < sum t.lags
  pub same : lowered ≡ false → (t'.lags ≡ t.lags) × Done t'.lags

-- the rules are kept, or one of them leaves no solution
abbrev pub Turned : (g : Given) → (List ℕ → Type 0) → Standing → Standing → Result Bool Broken → Type 0
Turned g Done t t' (Ok lowered) = Swept g Done t t' lowered
Turned g Done t t' (Err x) = State g t' × Stuck g t' x

-- ---- what the sweeps go over: the rules from lists of the wires' ends, and the rules of the path table, row by row
-- the rules of the first k wires hold
abbrev pub WiresHold : List ℕ → List ℕ → List ℕ → ℕ → List ℕ → Type 0
WiresHold from to bounds k e = (j : ℕ) → j < k → Holds e (get_or from j 0) (get_or to j 0) (get_or bounds j 0)

-- the rule of the pair u, v holds, where its delay exceeds the period
abbrev pub PathHolds : Given → ℕ → ℕ → List ℕ → Type 0
PathHolds g u v e = g.period < get_or g.delays (u * g.n + v) 0 → Holds e u v (get_or g.registers (u * g.n + v) 0 + 32767)

abbrev pub RowHolds : Given → ℕ → ℕ → List ℕ → Type 0
RowHolds g u k e = (v : ℕ) → v < k → PathHolds g u v e

abbrev pub PathsHold : Given → ℕ → List ℕ → Type 0
PathsHold g k e = (u : ℕ) → u < k → RowHolds g u g.n e

-- all rules hold
abbrev pub AllHold : Given → List ℕ → Type 0
AllHold g e = (r : Rule) (a b k : ℕ) → Says g r a b k → Holds e a b k

-- the rounds have ended: the lags are a solution and the largest, or a rule leaves none
abbrev pub Settled : Given → Standing → Result (Unit {0}) Broken → Type 0
Settled g t (Ok done) = State g t × AllHold g t.lags
Settled g t (Err x) = State g t × Stuck g t x
