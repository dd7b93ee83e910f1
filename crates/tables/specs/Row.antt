-- A row of the table while it is filled: inner to this crate.
-- The row of block u holds for each block v the registers W v and the delay D v of some path, or 4,294,967,295 and 0.
use Rattle.std.specs.Prelude.{◌≡◌, Bool, true, false, cond, ◌⊎◌, List, ℕ, ◌+◌, ◌*◌, ◌≤◌, ◌<◌, eqb, length, get_or, set}
use Rattle.sheet.specs.Core.{Shape}
use Rattle.paths.specs.Lists.{held}
use Rattle.paths.specs.Table.{Way, Entry}
use Rattle.paths.specs.Questions.{KeptFrom}
use Rattle.tables.specs.Order.{Ahead}

-- where a wire out of block f starts: at the bare start block u, (0, its delay), or at what the row holds for f
abbrev pub base_of : ℕ → ℕ → (ℕ → ℕ) → ℕ → ℕ
base_of start u X f = cond (eqb f u) start (X f)

abbrev pub base_w : ℕ → (ℕ → ℕ) → ℕ → ℕ
base_w u W f = base_of 0 u W f

abbrev pub base_d : Shape → ℕ → (ℕ → ℕ) → ℕ → ℕ
base_d s u D f = base_of (s.delay u) u D f

module _ (s : Shape) (w : ℕ → ℕ) (u : ℕ) where
  -- what wire j offers to the block that it leads to
  abbrev pub offer_w : (ℕ → ℕ) → ℕ → ℕ
  offer_w W j = base_w u W (s.from j) + w j

  abbrev pub offer_d : (ℕ → ℕ) → ℕ → ℕ
  offer_d D j = base_d s u D (s.from j) + s.delay (s.to j)

  -- after k improvements
  pub record Row (k : ℕ) (ws ds : List ℕ) : Type 0 where
    pub ws_long : length ws ≡ s.n
    pub ds_long : length ds ≡ s.n
    pub real : (v : ℕ) → v < s.n → get_or ws v 0 < 4294967295 → Way s w u v (get_or ws v 0) (get_or ds v 0)
    pub blank : (v : ℕ) → v < s.n → (get_or ws v 0 < 4294967295) ⊎ ((get_or ws v 0 ≡ 4294967295) × (get_or ds v 0 ≡ 0))
    pub few : (v : ℕ) → v < s.n → get_or ws v 0 < 4294967295 → get_or ws v 0 ≤ 2000 * k
    pub small : (v : ℕ) → v < s.n → get_or ds v 0 ≤ 10000 * (k + 1)

  -- wire j was tried on a row: it improved the block that it leads to, or it offers nothing better
  abbrev pub Relaxed : ℕ → List ℕ → List ℕ → List ℕ → List ℕ → Bool → Type 0
  Relaxed j ws ds ws' ds' true =
      (base_w u (held ws) (s.from j) < 4294967295)
      × Ahead (offer_w (held ws) j) (offer_d (held ds) j) (get_or ws (s.to j) 0) (get_or ds (s.to j) 0)
      × (ws' ≡ set ws (s.to j) (offer_w (held ws) j))
      × (ds' ≡ set ds (s.to j) (offer_d (held ds) j))
  Relaxed j ws ds ws' ds' false =
      (base_w u (held ws) (s.from j) < 4294967295 → Ahead (get_or ws (s.to j) 0) (get_or ds (s.to j) 0) (offer_w (held ws) j) (offer_d (held ds) j))
      × (ws' ≡ ws)
      × (ds' ≡ ds)

  -- a round over the wires below i: no entry falls back, and each wire has been tried
  pub record Round (i : ℕ) (W D W' D' : ℕ → ℕ) : Type 0 where
    pub keeps : (v : ℕ) → v < s.n → Ahead (W' v) (D' v) (W v) (D v)
    pub wire : (j : ℕ) → j < i → base_w u W (s.from j) < 4294967295 → Ahead (W' (s.to j)) (D' (s.to j)) (offer_w W j) (offer_d D j)

  -- a row after a round over all wires; `improved` says whether there was an improvement
  pub record Rounded (k : ℕ) (ws ds ws' ds' : List ℕ) (improved : Bool) : Type 0 where
    pub row : Row k ws' ds'
    pub round : Round s.m (held ws) (held ds) (held ws') (held ds')
    pub still : improved ≡ false → (ws' ≡ ws) × (ds' ≡ ds)

  -- the finished row
  pub record RowRight (ws ds : List ℕ) : Type 0 where
    pub ws_long : length ws ≡ s.n
    pub ds_long : length ds ≡ s.n
    pub entry : (v : ℕ) → v < s.n → Entry s w u v (get_or ws v 0) (get_or ds v 0)

-- tables whose rows below u are right; from entry n² on both lists are as they were
pub record Rows (s : Shape) (w : ℕ → ℕ) (u : ℕ) (ws₀ ds₀ ws ds : List ℕ) : Type 0 where
  pub entry : (x v : ℕ) → x < u → v < s.n → Entry s w x v (get_or ws (x * s.n + v) 0) (get_or ds (x * s.n + v) 0)
  pub ws_kept : KeptFrom (s.n * s.n) ws₀ ws
  pub ds_kept : KeptFrom (s.n * s.n) ds₀ ds
