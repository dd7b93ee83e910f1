-- What a sheet must be, and the refusals 1, 2, 3, 5 and 6 that it earns else, as 01 has them.
use Rattle.std.specs.Prelude.{◌≡◌, ◌⊎◌, List, [], ◌∷◌, ◌++◌, ℕ, ◌+◌, ◌*◌, ◌<◌, ◌≤◌, length, ℤ, pos, negsuc, ◌-ℤ◌, ◌≤ℤ◌, Result, Ok, Err}
use Rattle.sheet.specs.Bytes.{u32_at}
use Rattle.sheet.specs.Core.{Core, blocks_in, wires_in, delay_in, lower_in, upper_in, from_in, to_in, registers_in, spare_in}
use Rattle.sheet.specs.Rules.{Rule, answer, refusal, first_place}
use Rattle.sheet.specs.declared.answer.Answer.{Answer}
use Rattle.sheet.specs.declared.block.Block.{Block}
use Rattle.sheet.specs.declared.wire.Wire.{Wire}
use Rattle.sheet.specs.declared.entry.BadEntry.{BadEntry}

-- ---- one block, one wire
-- 01: "from -1,000 to 1,000" (`negsuc 999` is -1,000)
abbrev pub LagLimits : ℤ → Type 0
LagLimits z = (negsuc 999 ≤ℤ z) × (z ≤ℤ pos 1000)

-- 01: "Block, 8 bytes: delay u32, 0 to 10,000; lower and upper lag, i16 each, from -1,000 to 1,000, lower not above upper,
-- upper minus lower at most 1,000." "Block 0 is the host, the outside world: delay 0, both lags 0."
pub record BlockRule (b delay : ℕ) (lower upper : ℤ) : Type 0 where
  pub small : delay ≤ 10000
  pub lower_limits : LagLimits lower
  pub upper_limits : LagLimits upper
  pub ordered : lower ≤ℤ upper
  pub narrow : (upper -ℤ lower) ≤ℤ pos 1000
  pub host : b ≡ 0 → (delay ≡ 0) × (lower ≡ pos 0) × (upper ≡ pos 0)

-- 01: "Wire, 8 bytes: from u16, to u16, registers u16 (0 to 2,000), and a u16 that is zero." 6: ".. or an end is n or more"
pub record WireRule (n from to registers spare : ℕ) : Type 0 where
  pub from_block : from < n
  pub to_block : to < n
  pub few : registers ≤ 2000
  pub blank : spare ≡ 0

abbrev pub BlockGood : List ℕ → ℕ → Type 0
BlockGood s b = BlockRule b (delay_in s b) (lower_in s b) (upper_in s b)

abbrev pub WireGood : List ℕ → ℕ → Type 0
WireGood s j = WireRule (blocks_in s) (from_in s j) (to_in s j) (registers_in s j) (spare_in s j)

-- ---- 01's number, place and value for each case of a reader's answer
abbrev pub block_answer : Result Block BadEntry → Answer
block_answer (Ok block) = answer 0 0 0
block_answer (Err bad) = answer 5 bad.number 0

abbrev pub wire_answer : Result Wire BadEntry → Answer
wire_answer (Ok wire) = answer 0 0 0
wire_answer (Err bad) = answer 6 bad.number 0

-- ---- the refusals, stage by stage
-- 01: "The block table starts at 16, the wire table at 16 + 8n, the total is 16 + 8n + 8m, and the lent slice has that length"
pub record Offsets (s : List ℕ) : Type 0 where
  pub blocks_at : u32_at s 4 ≡ 16
  pub wires_at : u32_at s 8 ≡ 16 + 8 * blocks_in s
  pub total : u32_at s 12 ≡ 16 + 8 * blocks_in s + 8 * wires_in s
  pub whole : length s ≡ 16 + 8 * blocks_in s + 8 * wires_in s

-- 1: "fewer than 16 bytes"; 2: "n outside 1 to 64, or m above 256"; 3: "an offset, the total or the slice length is wrong"
abbrev pub frame_rules : List ℕ → List (Rule Answer)
frame_rules s =
    refusal (length s < 16) (answer 1 0 0)
    ∷ refusal ((blocks_in s < 1) ⊎ ((64 < blocks_in s) ⊎ (256 < wires_in s))) (answer 2 0 0)
    ∷ refusal (Offsets s → ⊥) (answer 3 0 0)
    ∷ []

-- 5: "a block entry breaks its rule", place "first such block"
-- 6: "a wire entry breaks its rule, or an end is n or more", "the place is the number of the first such wire"
abbrev pub block_rules : List ℕ → List (Rule Answer)
block_rules s = first_place (λ b. BlockGood s b → ⊥) (blocks_in s) (λ b. block_answer (Err (record { number = b }))) ∷ []

abbrev pub wire_rules : List ℕ → List (Rule Answer)
wire_rules s = first_place (λ j. WireGood s j → ⊥) (wires_in s) (λ j. wire_answer (Err (record { number = j }))) ∷ []

abbrev pub entry_rules : List ℕ → List (Rule Answer)
entry_rules s = block_rules s ++ wire_rules s

-- ---- what a sheet that passes guarantees
-- 1, 2 and 3
pub record Framed (s : List ℕ) : Type 0 where
  pub some_block : 1 ≤ blocks_in s
  pub few_blocks : blocks_in s ≤ 64
  pub few_wires : wires_in s ≤ 256
  pub offsets : Offsets s

-- 1, 2, 3, 5 and 6
pub record FormedSheet (s : List ℕ) : Type 0 where
  pub framed : Framed s
  pub block : (b : ℕ) → b < blocks_in s → BlockGood s b
  pub wire : (j : ℕ) → j < wires_in s → WireGood s j

-- the same of the core, for every crate above
pub record Formed (c : Core) : Type 0 where
  pub some_block : 1 ≤ c.shape.n
  pub few_blocks : c.shape.n ≤ 64
  pub few_wires : c.shape.m ≤ 256
  pub block : (b : ℕ) → b < c.shape.n → BlockRule b (c.shape.delay b) (c.lower b) (c.upper b)
  pub from_block : (j : ℕ) → j < c.shape.m → c.shape.from j < c.shape.n
  pub to_block : (j : ℕ) → j < c.shape.m → c.shape.to j < c.shape.n
  pub few : (j : ℕ) → j < c.shape.m → c.registers j ≤ 2000
