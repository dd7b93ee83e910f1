-- Lags on a core: the move rule, permitted lags, and the period that they meet. All in integers, in 01's words.
use Rattle.std.specs.Prelude.{◌≡◌, ◌⊎◌, List, ℕ, ◌≤◌, ◌<◌, ℤ, pos, ◌+ℤ◌, ◌-ℤ◌, ◌≤ℤ◌, get_or}
use Rattle.sheet.specs.Core.{Core}
use Rattle.paths.specs.Path.{Joins, registers_on, delay_on}

-- the lags that a lent list of i16 holds, one for each block
abbrev pub lags_in : List ℤ → ℕ → ℤ
lags_in l b = get_or l b (pos 0)

-- 01: "Move by lags: a wire from u to v with w registers gets w + lag(v) - lag(u)"
abbrev pub moved_by : Core → (ℕ → ℤ) → ℕ → ℤ
moved_by c r j = pos (c.registers j) +ℤ r (c.shape.to j) -ℤ r (c.shape.from j)

-- 01: "each lies in its block's range"
abbrev pub InRange : Core → (ℕ → ℤ) → ℕ → Type 0
InRange c r b = (c.lower b ≤ℤ r b) × (r b ≤ℤ c.upper b)

-- 01: "every wire ends with 0 to 2,000 registers"
abbrev pub Fits : Core → (ℕ → ℤ) → ℕ → Type 0
Fits c r j = (pos 0 ≤ℤ moved_by c r j) × (moved_by c r j ≤ℤ pos (c.ceiling j))

-- 01: "Lags are **permitted** if each lies in its block's range and every wire ends with 0 to 2,000 registers."
pub record Permitted (c : Core) (r : ℕ → ℤ) : Type 0 where
  pub in_range : (b : ℕ) → b < c.shape.n → InRange c r b
  pub fits : (j : ℕ) → j < c.shape.m → Fits c r j

-- the registers x are those of the moved core
abbrev pub MovedTo : Core → (ℕ → ℤ) → (ℕ → ℕ) → Type 0
MovedTo c r x = (j : ℕ) → j < c.shape.m → pos (x j) ≡ moved_by c r j

-- 01: "They **meet** a period c if also the moved period is at most c." (`p` here; the period is the largest delay of a register-free path)
pub record Meets (c : Core) (p : ℕ) (r : ℕ → ℤ) : Type 0 where
  pub permitted : Permitted c r
  pub quick : (x : ℕ → ℕ) → MovedTo c r x → (u v : ℕ) (ws : List ℕ) → Joins c.shape u ws v → registers_on x ws ≡ 0 → delay_on c.shape u ws ≤ p

-- the core c' is c moved by r: "registers by the move rule, both lag limits of each block less its lag, all else copied"
pub record Moved (c : Core) (r : ℕ → ℤ) (c' : Core) : Type 0 where
  pub n_is : c'.shape.n ≡ c.shape.n
  pub m_is : c'.shape.m ≡ c.shape.m
  pub delay_is : (b : ℕ) → b < c.shape.n → c'.shape.delay b ≡ c.shape.delay b
  pub from_is : (j : ℕ) → j < c.shape.m → c'.shape.from j ≡ c.shape.from j
  pub to_is : (j : ℕ) → j < c.shape.m → c'.shape.to j ≡ c.shape.to j
  pub registers_is : MovedTo c r c'.registers
  pub ceiling_is : (j : ℕ) → j < c.shape.m → c'.ceiling j ≡ c.ceiling j
  pub lower_is : (b : ℕ) → b < c.shape.n → c'.lower b ≡ c.lower b -ℤ r b
  pub upper_is : (b : ℕ) → b < c.shape.n → c'.upper b ≡ c.upper b -ℤ r b

-- c is the larger of a and b, and the smaller of them
pub record Larger (a b c : ℤ) : Type 0 where
  pub above_first : a ≤ℤ c
  pub above_second : b ≤ℤ c
  pub one_of : (c ≡ a) ⊎ (c ≡ b)

pub record Smaller (a b c : ℤ) : Type 0 where
  pub below_first : c ≤ℤ a
  pub below_second : c ≤ℤ b
  pub one_of : (c ≡ a) ⊎ (c ≡ b)
