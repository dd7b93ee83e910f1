-- The path table as one number for each pair of blocks; ceilings folded into it; an order of the wires.
-- A path's key is its registers and one, times 1,048,576, less its delay: the lower, the fewer registers, then the longer.
use Rattle.std.specs.Prelude.{◌≡◌, ◌⊎◌, List, ℕ, ◌+◌, ◌*◌, ◌-◌, ◌≤◌, ◌<◌, length, get_or}
use Rattle.sheet.specs.Core.{Shape}
use Rattle.paths.specs.Path.{Joins, registers_on, delay_on}
use Rattle.paths.specs.Table.{Way}
use Rattle.paths.specs.declared.wiring.Wiring.{Wiring}

-- the entry of the pair u, v: all start blocks u of one end block v stand together
abbrev pub entry : List ℕ → ℕ → ℕ → ℕ
entry keys u v = get_or keys (v * 64 + u) 0

-- a key that stands for no path with 2,000 registers or fewer: 2,001 times 1,048,576 or more
abbrev pub Loose : ℕ → Type 0
Loose k = 2098200576 ≤ k

module _ (s : Shape) (w : ℕ → ℕ) where
  -- for each of its registers and one, a path takes at most 640,000: its key is far above 0
  pub record Slow : Type 0 where
    pub bound : (u v : ℕ) (ws : List ℕ) → Joins s u ws v → delay_on s u ws ≤ (registers_on w ws + 1) * 640000

  -- k is the least key of the paths from u to v, as far as there are any with 2,000 registers or fewer
  pub record KeyRight (u v k : ℕ) : Type 0 where
    pub small : k ≤ 2099249152
    pub least : (ws : List ℕ) → Joins s u ws v → k + delay_on s u ws ≤ (registers_on w ws + 1) * 1048576
    pub real : Loose k ⊎ ((W : ℕ) × (D : ℕ) × Way s w u v W D × (k + D ≡ (W + 1) * 1048576))

  -- the filled table; the places of blocks that the core does not have stand for no path
  pub record Keyed (keys : List ℕ) : Type 0 where
    pub long : length keys ≡ 4096
    pub right : (u v : ℕ) → u < s.n → v < s.n → KeyRight u v (entry keys u v)
    pub high : (u v : ℕ) → u < 64 → v < 64 → entry keys u v ≤ 2099249152
    pub outside : (u v : ℕ) → u < 64 → v < 64 → (s.n ≤ u) ⊎ (s.n ≤ v) → Loose (entry keys u v)

-- the rule of the ceiling of each of the first m wires, lag(t) - lag(f) ≤ 2000 - w, is folded into the entry of the pair t, f
pub record Folded (w : Wiring) (m : ℕ) (keys keys' : List ℕ) : Type 0 where
  pub long : length keys' ≡ 4096
  pub falls : (i : ℕ) → get_or keys' i 0 ≤ get_or keys i 0
  pub held : (j : ℕ) → j < m → entry keys' (get_or w.to j 0) (get_or w.from j 0) ≤ (2001 - get_or w.registers j 0) * 1048576
  pub real : (i : ℕ) → (get_or keys' i 0 ≡ get_or keys i 0)
      ⊎ ((j : ℕ) × (j < m) × (i ≡ get_or w.from j 0 * 64 + get_or w.to j 0) × (get_or keys' i 0 ≡ (2001 - get_or w.registers j 0) * 1048576))

-- an order in which every wire stands
pub record Turns (m : ℕ) (turns : List ℕ) : Type 0 where
  pub long : length turns ≡ 256
  pub below : (p : ℕ) → p < m → get_or turns p 0 < m
  pub every : (j : ℕ) → j < m → (p : ℕ) × (p < m) × (get_or turns p 0 ≡ j)
