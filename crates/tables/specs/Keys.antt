-- A row of the table while it is filled, with one number for each block: inner to this crate.
-- A key holds registers W and delay D as W times 4,294,967,296 plus 2,147,483,648 less D, so that the lower key is the pair ahead.
use Rattle.std.specs.Prelude.{◌≡◌, Bool, List, [], ◌∷◌, ℕ, zero, suc, ◌+◌, ◌*◌, ◌-◌, ◌/◌, ◌%◌, ◌≤◌, ◌<◌, length, get_or}
use Rattle.sheet.specs.Core.{Shape}
use Rattle.tables.specs.Row.{Relaxed, Rounded, RowRight}

-- the registers and the delay of a key
abbrev pub key_w : ℕ → ℕ
key_w k = k / 4294967296

abbrev pub key_d : ℕ → ℕ
key_d k = 2147483648 - k % 4294967296

-- the first n keys, each decoded
unfoldable pub decoded : (ℕ → ℕ) → ℕ → List ℕ → List ℕ
decoded f zero l = []
decoded f (suc n) [] = []
decoded f (suc n) (x ∷ l) = f x ∷ decoded f n l

abbrev pub row_w : ℕ → List ℕ → List ℕ
row_w n keys = decoded key_w n keys

abbrev pub row_d : ℕ → List ℕ → List ℕ
row_d n keys = decoded key_d n keys

-- keys that the decoding loses nothing of
pub record Whole (n : ℕ) (keys : List ℕ) : Type 0 where
  pub long : length keys ≡ 64
  pub half : (v : ℕ) → v < n → get_or keys v 0 % 4294967296 ≤ 2147483648

-- what wire j costs: its registers on a key, and 10,000 less the delay of the block that it leads to
abbrev pub cost_at : List ℕ → List ℕ → List ℕ → ℕ → ℕ
cost_at delays to registers j = get_or registers j 0 * 4294967296 + 10000 - get_or delays (get_or to j 0) 0

pub record Costs (s : Shape) (w : ℕ → ℕ) (costs : List ℕ) : Type 0 where
  pub long : length costs ≡ 256
  pub cost : (j : ℕ) → j < s.m → get_or costs j 0 + s.delay (s.to j) ≡ w j * 4294967296 + 10000

module _ (s : Shape) (w : ℕ → ℕ) (u : ℕ) where
  -- wire j was tried
  pub record Tried (j : ℕ) (keys keys' : List ℕ) (b : Bool) : Type 0 where
    pub whole : Whole s.n keys'
    pub relaxed : Relaxed s w u j (row_w s.n keys) (row_d s.n keys) (row_w s.n keys') (row_d s.n keys') b

  -- all wires were tried
  pub record TriedAll (k : ℕ) (keys keys' : List ℕ) (improved : Bool) : Type 0 where
    pub whole : Whole s.n keys'
    pub rounded : Rounded s w u k (row_w s.n keys) (row_d s.n keys) (row_w s.n keys') (row_d s.n keys') improved

  -- the finished row
  pub record KeysRight (keys : List ℕ) : Type 0 where
    pub whole : Whole s.n keys
    pub right : RowRight s w u (row_w s.n keys) (row_d s.n keys)
