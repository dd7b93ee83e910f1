-- The core of a sheet: what its bytes mean. Blocks and wires keep their numbers; wires are never merged and never sorted.
use Rattle.std.specs.Prelude.{List, ℕ, ◌+◌, ◌*◌, ℤ}
use Rattle.sheet.specs.Bytes.{u16_at, u32_at, i16_at}

-- what a move leaves as it is: the blocks with their delays, and the wires' ends
pub record Shape : Type 0 where
  pub n : ℕ
  pub m : ℕ
  pub delay : ℕ → ℕ
  pub from : ℕ → ℕ
  pub to : ℕ → ℕ

pub record Core : Type 0 where
  pub shape : Shape
  pub registers : ℕ → ℕ
  -- the most registers that a wire may end with
  pub ceiling : ℕ → ℕ
  -- the range in which a block's lag may lie
  pub lower : ℕ → ℤ
  pub upper : ℕ → ℤ

-- 01: "Header of 16 bytes: blocks n (u16), wires m (u16), offset of the block table (u32), offset of the wire table (u32), total length (u32)."
abbrev pub blocks_in : List ℕ → ℕ
blocks_in s = u16_at s 0

abbrev pub wires_in : List ℕ → ℕ
wires_in s = u16_at s 2

-- 01: "The block table starts at 16, the wire table at 16 + 8n, the total is 16 + 8n + 8m"
abbrev pub block_at : ℕ → ℕ
block_at b = 16 + 8 * b

abbrev pub wire_at : ℕ → ℕ → ℕ
wire_at n j = 16 + 8 * n + 8 * j

-- 01: "Block, 8 bytes: delay u32 [..]; lower and upper lag, i16 each"
abbrev pub delay_in : List ℕ → ℕ → ℕ
delay_in s b = u32_at s (block_at b)

abbrev pub lower_in : List ℕ → ℕ → ℤ
lower_in s b = i16_at s (block_at b + 4)

abbrev pub upper_in : List ℕ → ℕ → ℤ
upper_in s b = i16_at s (block_at b + 6)

-- 01: "Wire, 8 bytes: from u16, to u16, registers u16 (0 to 2,000), and a u16 that is zero."
abbrev pub from_in : List ℕ → ℕ → ℕ
from_in s j = u16_at s (wire_at (blocks_in s) j)

abbrev pub to_in : List ℕ → ℕ → ℕ
to_in s j = u16_at s (wire_at (blocks_in s) j + 2)

abbrev pub registers_in : List ℕ → ℕ → ℕ
registers_in s j = u16_at s (wire_at (blocks_in s) j + 4)

abbrev pub spare_in : List ℕ → ℕ → ℕ
spare_in s j = u16_at s (wire_at (blocks_in s) j + 6)

-- the ceiling that a wire's spare field stands for. 01: "every wire ends with 0 to 2,000 registers"
abbrev pub ceiling_of : ℕ → ℕ
ceiling_of spare = 2000

abbrev pub shape_of : List ℕ → Shape
shape_of s = record { n = blocks_in s; m = wires_in s; delay = delay_in s; from = from_in s; to = to_in s }

abbrev pub core_of : List ℕ → Core
core_of s = record {
  shape = shape_of s;
  registers = registers_in s;
  ceiling = λ j. ceiling_of (spare_in s j);
  lower = lower_in s;
  upper = upper_in s;
}
