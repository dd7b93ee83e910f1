-- What each reader of a sheet's bytes gives, case by case.
use Rattle.std.specs.Prelude.{◌≡◌, List, ℕ, ◌+◌, ◌<◌, ◌≤◌, ℤ, Result, Ok, Err}
use Rattle.std.specs.Int.Signed.{mag}
use Rattle.sheet.specs.Lag.{excess}
use Rattle.sheet.specs.Core.{blocks_in, wires_in, delay_in, lower_in, upper_in, from_in, to_in, registers_in}
use Rattle.sheet.specs.Rules.{First, refusal_answer}
use Rattle.sheet.specs.Sheet.{BlockGood, WireGood, Framed, frame_rules}
use Rattle.sheet.specs.declared.block.Block.{Block}
use Rattle.sheet.specs.declared.block.Limit.{Limit}
use Rattle.sheet.specs.declared.block.Limit.TheVariants as L
use Rattle.sheet.specs.declared.wire.Wire.{Wire}
use Rattle.sheet.specs.declared.entry.BadEntry.{BadEntry}
use Rattle.sheet.specs.declared.refusal.Refusal.{Refusal}
use Rattle.sheet.specs.declared.opened.Opened.{Opened}

-- r is the excess number of the i16 z
pub record ExcessIs (z : ℤ) (r : ℕ) : Type 0 where
  pub is : r ≡ excess z
  pub below : r < 65536
  pub fits : mag z < 32768

-- a block's rule on its numbers as code holds them, the lags as excess numbers
pub record BlockNumbers (b delay lower upper : ℕ) : Type 0 where
  pub small : delay ≤ 10000
  pub lowest : 31768 ≤ lower
  pub highest : upper ≤ 33768
  pub ordered : lower ≤ upper
  pub narrow : upper ≤ lower + 1000
  pub host : b ≡ 0 → (delay ≡ 0) × (lower ≡ 32768) × (upper ≡ 32768)

-- block b of the sheet, by its numbers
pub record BlockIs (s : List ℕ) (b delay lower upper : ℕ) : Type 0 where
  pub delay_is : delay ≡ delay_in s b
  pub lower_is : lower ≡ excess (lower_in s b)
  pub upper_is : upper ≡ excess (upper_in s b)
  pub numbers : BlockNumbers b delay lower upper

-- wire j of the sheet, by its numbers
pub record WireIs (s : List ℕ) (j from to registers : ℕ) : Type 0 where
  pub from_is : from ≡ from_in s j
  pub to_is : to ≡ to_in s j
  pub registers_is : registers ≡ registers_in s j
  pub from_block : from < blocks_in s
  pub to_block : to < blocks_in s
  pub few : registers ≤ 2000

-- one of a block's limits
abbrev pub limit_of : Block → Limit → ℕ
limit_of block L.Lower = block.lower
limit_of block L.Upper = block.upper

abbrev pub BlockGiven : List ℕ → ℕ → Result Block BadEntry → Type 0
BlockGiven s b (Ok block) = BlockIs s b block.delay block.lower block.upper × BlockGood s b
BlockGiven s b (Err bad) = (bad.number ≡ b) × (BlockGood s b → ⊥)

abbrev pub WireGiven : List ℕ → ℕ → Result Wire BadEntry → Type 0
WireGiven s j (Ok wire) = WireIs s j wire.from wire.to wire.registers × WireGood s j
WireGiven s j (Err bad) = (bad.number ≡ j) × (WireGood s j → ⊥)

abbrev pub FrameGiven : List ℕ → Result Opened Refusal → Type 0
FrameGiven s (Ok sheet) = (sheet.bytes.now ≡ s) × (sheet.n ≡ blocks_in s) × (sheet.m ≡ wires_in s) × Framed s
FrameGiven s (Err r) = First (frame_rules s) (refusal_answer r)
