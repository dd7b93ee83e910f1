-- What holds of lags on their way down, and what each function gives.
use Rattle.std.specs.Prelude.{◌≡◌, ◌⊎◌, Bool, true, false, List, ℕ, ◌+◌, ◌≤◌, ◌<◌, length, get_or}
use Rattle.sheet.specs.Sum.{sum}
use Rattle.descent.specs.System.{slack, Fit, Keeps, Floor}
use Rattle.descent.specs.declared.rules.Rules.{Rules}

-- all lags that keep the rules at period c lie at or below e
abbrev pub Below : Rules → ℕ → List ℕ → Type 0
Below g c e = (s : ℕ → ℕ) → Keeps g.keys.now g.lower.now g.upper.now c s → (b : ℕ) → b < 64 → s b ≤ get_or e b 0

-- e holds each block's lag, on its way down from the upper limits
pub record State (g : Rules) (c : ℕ) (e : List ℕ) : Type 0 where
  pub fit : Fit g.keys.now g.lower.now g.upper.now
  pub e_long : length e ≡ 64
  pub most : Below g c e
  pub low : (b : ℕ) → b < 64 → get_or g.lower.now b 0 ≤ get_or e b 0
  pub high : (b : ℕ) → b < 64 → get_or e b 0 ≤ get_or g.upper.now b 0

-- lags at rest: they keep all rules at period c, and are the largest that do
pub record AtRest (g : Rules) (c : ℕ) (e : List ℕ) : Type 0 where
  pub state : State g c e
  pub keeps : Keeps g.keys.now g.lower.now g.upper.now c (λ b. get_or e b 0)

-- no lags exist below period r, which is beyond c
pub record Stop (g : Rules) (c r : ℕ) : Type 0 where
  pub beyond : c < r
  pub floor : Floor g.keys.now g.lower.now g.upper.now r

-- ---- testing: some of the first k blocks is such that Yes, or all are such that No
pub record SomeBlock (Yes No : ℕ → Type 0) (k : ℕ) (some : Bool) : Type 0 where
  pub none : some ≡ false → (u : ℕ) → u < k → No u
  pub one : some ≡ true → (u : ℕ) × (u < k) × Yes u

-- ---- what code needs of the keys, and of column v: the rules (u, v), where v has lag ev
pub record Table (keys : List ℕ) (c : ℕ) : Type 0 where
  pub long : length keys ≡ 4096
  pub small : (i : ℕ) → get_or keys i 0 ≤ 2099249152
  pub c_small : c < 1048576

pub record IsColumn (keys : List ℕ) (c v ev : ℕ) : Type 0 where
  pub table : Table keys c
  pub v_small : v < 64
  pub some_lag : 0 < ev
  pub lag_small : ev ≤ 33768

-- the rule (u, v) asks block u to be below this
abbrev pub bar : List ℕ → ℕ → ℕ → ℕ → ℕ → ℕ
bar keys c v ev u = ev + slack keys c u v

-- column v does not lower block u
abbrev pub Stays : List ℕ → ℕ → ℕ → ℕ → List ℕ → ℕ → Type 0
Stays keys c v ev e u = get_or e u 0 < bar keys c v ev u

-- whether column v lowers one of the first k blocks
abbrev pub Falls : List ℕ → ℕ → ℕ → ℕ → List ℕ → ℕ → Bool → Type 0
Falls keys c v ev e = SomeBlock (λ u. bar keys c v ev u ≤ get_or e u 0) (λ u. Stays keys c v ev e u)

-- block u was lowered by column v, or stayed
abbrev pub Lowered : List ℕ → ℕ → ℕ → ℕ → List ℕ → List ℕ → ℕ → Type 0
Lowered keys c v ev e e' u =
    ((bar keys c v ev u ≤ get_or e u 0) × (get_or e' u 0 + 1 ≡ bar keys c v ev u)) ⊎ (Stays keys c v ev e u × (get_or e' u 0 ≡ get_or e u 0))

-- column v was pushed through the first k blocks; of the links nothing need be known
pub record Pushed (keys : List ℕ) (c v ev : ℕ) (e e' : List ℕ) (k : ℕ) : Type 0 where
  pub e_long : length e' ≡ 64
  pub done : (u : ℕ) → u < k → Lowered keys c v ev e e' u
  pub rest : (u : ℕ) → k ≤ u → get_or e' u 0 ≡ get_or e u 0
  pub less : sum e' ≤ sum e

-- whether one of the first k blocks stands below its lower limit
abbrev pub Under : List ℕ → List ℕ → ℕ → Bool → Type 0
Under lower e = SomeBlock (λ u. get_or e u 0 < get_or lower u 0) (λ u. get_or lower u 0 ≤ get_or e u 0)

-- ---- rounds: a block that stands where it was last seen has all the rules of its column kept
pub record Going (g : Rules) (c : ℕ) (e seen : List ℕ) : Type 0 where
  pub state : State g c e
  pub c_small : c < 1048576
  pub seen_long : length seen ≡ 64
  pub above : (w : ℕ) → w < 64 → get_or e w 0 ≤ get_or seen w 0
  pub quiet : (w : ℕ) → w < 64 → get_or e w 0 ≡ get_or seen w 0 → (u : ℕ) → u < 64 → Stays g.keys.now c w (get_or e w 0) e u

-- the lags and where they were last seen: this falls with every block taken
abbrev pub work : List ℕ → List ℕ → ℕ
work e seen = sum e + sum seen

-- work was done, or all is as it was and the first blocks stood where they were last seen
pub record Worked (e seen e' seen' : List ℕ) (Idle : Type 0) : Type 0 where
  pub done : (work e' seen' < work e seen) ⊎ ((e' ≡ e) × (seen' ≡ seen) × Idle)

-- block v was tried
pub record Stepped (g : Rules) (c v : ℕ) (e seen e' seen' : List ℕ) : Type 0 where
  pub on : Going g c e' seen'
  pub less : Worked e seen e' seen' (get_or e v 0 ≡ get_or seen v 0)

-- the same of the first k blocks
pub record Rounded (g : Rules) (c k : ℕ) (e seen e' seen' : List ℕ) : Type 0 where
  pub on : Going g c e' seen'
  pub less : Worked e seen e' seen' ((w : ℕ) → w < k → get_or e w 0 ≡ get_or seen w 0)

-- whether one of the first k blocks has moved since it was last seen
abbrev pub Left : List ℕ → List ℕ → ℕ → Bool → Type 0
Left e seen = SomeBlock (λ w. get_or e w 0 ≡ get_or seen w 0 → ⊥) (λ w. get_or e w 0 ≡ get_or seen w 0)
