-- Rules on a table of keys: 64 blocks, the host is block 0, and a period below 1,048,576 eases all rules alike.
use Rattle.std.specs.Prelude.{◌≡◌, List, ℕ, ◌+◌, ◌*◌, ◌/◌, ◌≤◌, ◌<◌, length, get_or}

-- the key of the pair a, b
abbrev pub key : List ℕ → ℕ → ℕ → ℕ
key keys a b = get_or keys (b * 64 + a) 0

-- the rule of the pair a, b for whole numbers: s a + 1 <= s b + slack
abbrev pub slack : List ℕ → ℕ → ℕ → ℕ → ℕ
slack keys c a b = (key keys a b + c) / 1048576

-- the numbers are small enough for code, and the host's lag is 0
pub record Fit (keys lower upper : List ℕ) : Type 0 where
  pub keys_long : length keys ≡ 4096
  pub lower_long : length lower ≡ 64
  pub upper_long : length upper ≡ 64
  pub keys_small : (i : ℕ) → get_or keys i 0 ≤ 2099249152
  pub low : (b : ℕ) → b < 64 → 31768 ≤ get_or lower b 0
  pub ordered : (b : ℕ) → b < 64 → get_or lower b 0 ≤ get_or upper b 0
  pub high : (b : ℕ) → b < 64 → get_or upper b 0 ≤ 33768
  pub host_lower : get_or lower 0 0 ≡ 32768
  pub host_upper : get_or upper 0 0 ≡ 32768

-- lags, as excess numbers, that keep every rule at period c and both limits
pub record Keeps (keys lower upper : List ℕ) (c : ℕ) (s : ℕ → ℕ) : Type 0 where
  pub rule : (a b : ℕ) → a < 64 → b < 64 → s a * 1048576 + 1048576 ≤ s b * 1048576 + key keys a b + c
  pub low : (b : ℕ) → b < 64 → get_or lower b 0 ≤ s b
  pub high : (b : ℕ) → b < 64 → s b ≤ get_or upper b 0

-- no period below `low` has lags
abbrev pub Floor : List ℕ → List ℕ → List ℕ → ℕ → Type 0
Floor keys lower upper low = (c : ℕ) (s : ℕ → ℕ) → c < low → Keeps keys lower upper c s → ⊥
