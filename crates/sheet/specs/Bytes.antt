-- Numbers in a list of bytes. 01: "Little-endian."
use Rattle.std.specs.Prelude.{List, ℕ, ◌+◌, ◌*◌, ◌/◌, ◌%◌, ◌<◌, get_or, set, ℤ}
use Rattle.std.specs.Int.{w16}
use Rattle.std.proofs.Common.{to_z}

-- what a lent slice of bytes is: each entry is below 256
pub record Bytes (s : List ℕ) : Type 0 where
  pub below : (i : ℕ) → get_or s i 0 < 256

-- the u16 and the u32 at a place
abbrev pub u16_at : List ℕ → ℕ → ℕ
u16_at s at = get_or s at 0 + 256 * get_or s (at + 1) 0

abbrev pub u32_at : List ℕ → ℕ → ℕ
u32_at s at = u16_at s at + 65536 * u16_at s (at + 2)

-- the i16 at a place: its 16 bits as the language reads an i16
abbrev pub i16_at : List ℕ → ℕ → ℤ
i16_at s at = to_z w16 (u16_at s at)

-- what writing a u16 at a place leaves
abbrev pub put16 : List ℕ → ℕ → ℕ → List ℕ
put16 s at x = set (set s at (x % 256)) (at + 1) (x / 256)
