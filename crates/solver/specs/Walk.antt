-- Following links: `par` holds for each of n blocks the next one, and every walk ends at the host.
use Rattle.std.specs.Prelude.{◌≡◌, Bool, true, false, List, ℕ, zero, suc, ◌≤◌, ◌<◌, length, get_or, set}

-- from v the walk reaches the host for the first time after d steps
abbrev pub Depth : List ℕ → ℕ → ℕ → Type 0
Depth par zero v = v ≡ 0
Depth par (suc d) v = (v ≡ 0 → ⊥) × Depth par d (get_or par v 0)

pub record Rooted (n : ℕ) (par : List ℕ) : Type 0 where
  pub room : n ≤ length par
  pub inside : (v : ℕ) → v < n → get_or par v 0 < n
  pub ends : (v : ℕ) → v < n → (d : ℕ) × Depth par d v

-- the block that k steps lead to
abbrev pub iter : List ℕ → ℕ → ℕ → ℕ
iter par zero v = v
iter par (suc k) v = get_or par (iter par k v) 0

-- the walk from b meets neither a nor the host in the first k steps
abbrev pub Past : List ℕ → ℕ → ℕ → ℕ → Type 0
Past par a b k = (j : ℕ) → j < k → (iter par j b ≡ a → ⊥) × (iter par j b ≡ 0 → ⊥)

-- the walk from b meets a, and not the host before
pub record Hit (par : List ℕ) (a b : ℕ) : Type 0 where
  pub steps : ℕ
  pub there : iter par steps b ≡ a
  pub past : Past par a b steps

-- it does not: it ends at the host, and does so also where a is led elsewhere
pub record Miss (par : List ℕ) (a b : ℕ) : Type 0 where
  pub apart : b ≡ a → ⊥
  pub rooted : (x : ℕ) → (d : ℕ) × Depth (set par a x) d b
  pub steps : ℕ
  pub there : iter par steps b ≡ 0
  pub past : Past par a b steps

-- what a test says of the walk from b
abbrev pub Met : List ℕ → ℕ → ℕ → Bool → Type 0
Met par a b true = Hit par a b
Met par a b false = Miss par a b
