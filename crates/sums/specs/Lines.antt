-- 01, "Sums on the ring and on small sheets": the lines marked P, as one table. What each line says is `right`.
use Rattle.std.specs.Prelude.{◌≡◌, List, [], ◌∷◌, ◌++◌, ℕ, ◌+◌, ◌*◌, ◌/◌, ◌%◌, ◌≤◌, ◌<◌, ℤ, pos, neg_ℤ, ◌≤ℤ◌, ◌<ℤ◌, length, get_or, drop}
use Rattle.std.specs.Int.{w16}
use Rattle.std.proofs.Common.{of_z}
use Rattle.sheet.specs.Core.{core_of, blocks_in}
use Rattle.sheet.specs.Rules.{answer}
use Rattle.paths.specs.Questions.{CheckRight}
use Rattle.tables.specs.Questions.{TableOutcome, TableRight}
use Rattle.moves.specs.Lags.{lags_in, Meets}
use Rattle.moves.specs.Move.{move_outcome, MoveRight}
use Rattle.loops.specs.Link.{Link, sum_k, ValidLoop}
use Rattle.loops.specs.Link as L
use Rattle.loops.specs.Loop.{LoopRight}
use Rattle.promises.specs.Questions.{PeriodRight, lags_outcome, words_needed, LagsRight, BestRight}

-- ---- sheets, written down block by block and wire by wire; what is claimed is of their bytes
-- a block with its delay and its lower and upper lag; a wire with its two ends and its registers
pub data Block : Type 0 where
  block : ℕ → ℤ → ℤ → Block

pub data Wire : Type 0 where
  wire : ℕ → ℕ → ℕ → Wire

-- 01: "Little-endian."
abbrev pub two : ℕ → List ℕ
two x = x % 256 ∷ x / 256 ∷ []

abbrev pub four : ℕ → List ℕ
four x = two (x % 65536) ++ two (x / 65536)

abbrev pub block_bytes : List Block → List ℕ
block_bytes [] = []
block_bytes (block d l u ∷ bs) = four d ++ two (of_z w16 l) ++ two (of_z w16 u) ++ block_bytes bs

abbrev pub wire_bytes : List Wire → List ℕ
wire_bytes [] = []
wire_bytes (wire f t w ∷ ws) = two f ++ two t ++ two w ++ two 0 ++ wire_bytes ws

-- the header, the blocks, the wires
abbrev pub sheet : List Block → List Wire → List ℕ
sheet bs ws =
    let n = length bs in
    let m = length ws in
    two n ++ two m ++ four 16 ++ four (16 + 8 * n) ++ four (16 + 8 * n + 8 * m) ++ block_bytes bs ++ wire_bytes ws

abbrev pub less : ℕ → ℤ
less k = neg_ℤ (pos k)

abbrev pub host : Block
host = block 0 (pos 0) (pos 0)

-- 01: "The ring: delays 0, 3, 4, 5; wires 0: 0 to 1 with 1 register, 1: 1 to 2 with 0, 2: 2 to 3 with 0, 3: 3 to 0 with 1";
-- the lag limits of blocks 1 and 3 vary, those of block 2 are -2 and 2
abbrev pub ring_with : ℤ → ℤ → ℤ → ℤ → List ℕ
ring_with lower1 upper1 lower3 upper3 =
    sheet (host ∷ block 3 lower1 upper1 ∷ block 4 (less 2) (pos 2) ∷ block 5 lower3 upper3 ∷ [])
    (wire 0 1 1 ∷ wire 1 2 0 ∷ wire 2 3 0 ∷ wire 3 0 1 ∷ [])

-- "lags of blocks 1 to 3 from -2 to 2"
abbrev pub ring : List ℕ
ring = ring_with (less 2) (pos 2) (less 2) (pos 2)

-- "block 1 limited to 0..2 and block 3 to -2..0"; "block 1 limited to 1..1 and block 3 to -2..0"
abbrev pub narrow_ring : List ℕ
narrow_ring = ring_with (pos 0) (pos 2) (less 2) (pos 0)

abbrev pub stuck_ring : List ℕ
stuck_ring = ring_with (pos 1) (pos 1) (less 2) (pos 0)

-- "blocks 0 and 1, wires 0 to 1 with 1, 0 to 1 with 3, 1 to 0 with 0, lag of block 1 from -2 to 2"; its delay is 0
abbrev pub pair_with : ℤ → ℤ → ℕ → ℕ → ℕ → List ℕ
pair_with lower upper a b c = sheet (host ∷ block 0 lower upper ∷ []) (wire 0 1 a ∷ wire 0 1 b ∷ wire 1 0 c ∷ [])

abbrev pub pair : List ℕ
pair = pair_with (less 2) (pos 2) 1 3 0

-- "host alone, no wires"
abbrev pub host_alone : List ℕ
host_alone = sheet (host ∷ []) []

-- ---- lines
-- a lent list after xs were written at its front
abbrev pub over : {A : Type 0} → List A → List A → List A
over xs l = xs ++ drop (length xs) l

-- why lags are the largest: for each block a chain of links from it to the host. Not claimed: the test needs it
abbrev pub Chains : Type 0
Chains = List (List Link)

pub data Line : Type 0 where
  -- check a sheet: done
  sound : (s : List ℕ) → Line
  -- period as it stands
  period : (s : List ℕ) (p : ℕ) → Line
  -- an entry of the path table: from u to v, registers and delay
  entry : (s : List ℕ) (u v registers delay : ℕ) → Line
  -- best period and its lags; the words of a loop that rules out the period before it are not claimed
  best : (s : List ℕ) (p : ℕ) (lags : List ℤ) (why : Chains) (before : List ℕ) → Line
  -- lags at period c
  lags_at : (s : List ℕ) (c : ℕ) (lags : List ℤ) (why : Chains) → Line
  -- lags that meet c, are nowhere above the larger ones and somewhere below
  meet : (s : List ℕ) (c : ℕ) (lags larger : List ℤ) → Line
  -- lags at period c: refusal 11, with this loop; the permitted lags are not claimed
  slow : (s : List ℕ) (c : ℕ) (words : List ℕ) (permitted : List ℤ) → Line
  -- refusal 10 in both lag questions, with this loop; the loop check says yes to it at every period
  stuck : (s : List ℕ) (words : List ℕ) → Line
  -- check a loop: yes, with this sum of the k's; and 12
  loop_yes : (s : List ℕ) (c : ℕ) (words : List ℕ) (sum : ℤ) → Line
  loop_no : (s : List ℕ) (c : ℕ) (words : List ℕ) → Line
  -- move by lags: the moved sheet, and refusal 9 at a wire
  moves : (s : List ℕ) (lags : List ℤ) (moved : List ℕ) → Line
  leaves : (s : List ℕ) (lags : List ℤ) (place : ℕ) → Line

-- ---- what a line says
-- whatever lists are lent, if they are long enough: every right outcome of the path table is done and has the entry
pub record HasEntry (s : List ℕ) (u v registers delay : ℕ) (o : TableOutcome) : Type 0 where
  pub done : o.says ≡ answer 0 0 0
  pub registers_are : get_or o.registers (u * blocks_in s + v) 0 ≡ registers
  pub delay_is : get_or o.delays (u * blocks_in s + v) 0 ≡ delay

abbrev pub EntrySaid : List ℕ → ℕ → ℕ → ℕ → ℕ → Type 0
EntrySaid s u v registers delay =
    (u < blocks_in s)
    × (v < blocks_in s)
    × ((r d : List ℕ) → blocks_in s * blocks_in s ≤ length r → blocks_in s * blocks_in s ≤ length d
    → (o : TableOutcome) → TableRight s r d o → HasEntry s u v registers delay o)

-- the same for the lag questions: the lags, or the words, stand at the front of the lent list, and all else is as it was
abbrev pub Lent : List ℕ → (List ℤ → List ℕ → Type 0) → Type 0
Lent s Says = (l : List ℤ) (w : List ℕ) → blocks_in s ≤ length l → words_needed (blocks_in s) ≤ length w → Says l w

-- and for the move
abbrev pub LentSheet : List ℕ → (List ℕ → Type 0) → Type 0
LentSheet s Says = (l : List ℕ) → length s ≤ length l → Says l

-- 01: "are smaller"
abbrev pub LessThan : ℕ → (ℕ → ℤ) → (ℕ → ℤ) → Type 0
LessThan n r q = ((b : ℕ) → b < n → r b ≤ℤ q b) × ((b : ℕ) × (b < n) × (r b <ℤ q b))

abbrev pub right : Line → Type 0
right (sound s) = CheckRight s (answer 0 0 0)
right (period s p) = PeriodRight s (answer 0 0 p)
right (entry s u v registers delay) = EntrySaid s u v registers delay
right (best s p lags why before) = Lent s (λ l w. BestRight s l w (lags_outcome (answer 0 0 p) (over lags l) w))
right (lags_at s c lags why) = Lent s (λ l w. LagsRight s c l w (lags_outcome (answer 0 0 0) (over lags l) w))
right (meet s c lags larger) = Meets (core_of s) c (lags_in lags) × LessThan (blocks_in s) (lags_in lags) (lags_in larger)
right (slow s c words permitted) = Lent s (λ l w. LagsRight s c l w (lags_outcome (answer 11 0 (length words)) l (over words w)))
right (stuck s words) =
    Lent s (λ l w. BestRight s l w (lags_outcome (answer 10 0 (length words)) l (over words w)))
    × ((c : ℕ) → Lent s (λ l w. LagsRight s c l w (lags_outcome (answer 10 0 (length words)) l (over words w))))
    × ((c : ℕ) → LoopRight s c words (answer 0 0 0))
right (loop_yes s c words sum) = LoopRight s c words (answer 0 0 0) × ((v : ValidLoop (core_of s) c words) → sum_k (core_of s) (v.first ∷ v.others) ≡ sum)
right (loop_no s c words) = LoopRight s c words (answer 12 0 0)
right (moves s lags moved) = LentSheet s (λ l. MoveRight s lags l (move_outcome (answer 0 0 0) (over moved l)))
right (leaves s lags place) = LentSheet s (λ l. MoveRight s lags l (move_outcome (answer 9 place 0) l))

-- every line of a table is right
abbrev pub AllRight : List Line → Type 0
AllRight [] = Unit {0}
AllRight (x ∷ xs) = right x × AllRight xs

-- ---- the table
abbrev lags0001 : List ℤ
lags0001 = pos 0 ∷ pos 0 ∷ pos 0 ∷ pos 1 ∷ []

abbrev lags0011 : List ℤ
lags0011 = pos 0 ∷ pos 0 ∷ pos 1 ∷ pos 1 ∷ []

abbrev lags0000 : List ℤ
lags0000 = pos 0 ∷ pos 0 ∷ pos 0 ∷ pos 0 ∷ []

-- a path is slow up to the period that its delay exceeds
abbrev why0001 : Chains
why0001 = [] ∷ (L.path 1 (1 ∷ 2 ∷ 3 ∷ []) ∷ []) ∷ (L.path 2 (2 ∷ 3 ∷ []) ∷ []) ∷ (L.wire 3 ∷ []) ∷ []

abbrev why0011 : Chains
why0011 = [] ∷ (L.path 1 (1 ∷ 2 ∷ 3 ∷ []) ∷ []) ∷ (L.wire 2 ∷ L.wire 3 ∷ []) ∷ (L.wire 3 ∷ []) ∷ []

-- 01: "The words 2 1 1 1, 2 2 1 2, 2 3 2 3 0"
abbrev slow_words : List ℕ
slow_words = 2 ∷ 1 ∷ 1 ∷ 1 ∷ 2 ∷ 2 ∷ 1 ∷ 2 ∷ 2 ∷ 3 ∷ 2 ∷ 3 ∷ 0 ∷ []

-- 01: "Words 4 1, 1 1, 1 2, 3 3"
abbrev stuck_words : List ℕ
stuck_words = 4 ∷ 1 ∷ 1 ∷ 1 ∷ 1 ∷ 2 ∷ 3 ∷ 3 ∷ []

abbrev pub table : List Line
table =
    -- "period 12. Table 3 to 1: 2 registers, delay 8. Table 1 to 0: 1 and 12."
    period ring 12
    ∷ entry ring 3 1 2 8
    ∷ entry ring 1 0 1 12
    -- "best 7, lags 0, 0, 0, 1. Lags 0, -1, -1, 0 also meet 7 and are smaller."
    ∷ best ring 7 lags0001 why0001 slow_words
    ∷ meet ring 7 (pos 0 ∷ less 1 ∷ less 1 ∷ pos 0 ∷ []) lags0001
    -- "at 8: 0, 0, 0, 1"; "at 9 and 11: 0, 0, 1, 1"; "at 12: 0, 1, 1, 1"
    ∷ lags_at ring 8 lags0001 why0001
    ∷ lags_at ring 9 lags0011 why0011
    ∷ lags_at ring 11 lags0011 why0011
    ∷ lags_at ring 12 (pos 0 ∷ pos 1 ∷ pos 1 ∷ pos 1 ∷ []) ([] ∷ (L.wire 1 ∷ L.wire 2 ∷ L.wire 3 ∷ []) ∷ (L.wire 2 ∷ L.wire 3 ∷ []) ∷ (L.wire 3 ∷ []) ∷ [])
    -- "at 6: refusal 11. The words 2 1 1 1, 2 2 1 2, 2 3 2 3 0 are a valid loop; sum -1. At 7 the same words get 12."
    ∷ slow ring 6 slow_words lags0000
    ∷ loop_yes ring 6 slow_words (less 1)
    ∷ loop_no ring 7 slow_words
    -- "block 1 limited to 0..2 and block 3 to -2..0: best 12, lags all 0"
    ∷ best narrow_ring 12 lags0000 ([] ∷ (L.wire 1 ∷ L.wire 2 ∷ L.upper 3 ∷ []) ∷ (L.wire 2 ∷ L.upper 3 ∷ []) ∷ (L.upper 3 ∷ []) ∷ []) (4 ∷ 1 ∷ 2 ∷ 1 ∷ 2 ∷ 1 ∷ 2 ∷ 3 ∷ 3 ∷ [])
    -- "block 1 limited to 1..1 and block 3 to -2..0: refusal 10. Words 4 1, 1 1, 1 2, 3 3 are valid."
    ∷ stuck stuck_ring stuck_words
    -- "lag -1 gives 0, 2, 1; lag -2 gives refusal 9 at wire 0; lag 1 gives refusal 9 at wire 2"
    ∷ moves pair (pos 0 ∷ less 1 ∷ []) (pair_with (less 1) (pos 3) 0 2 1)
    ∷ leaves pair (pos 0 ∷ less 2 ∷ []) 0
    ∷ leaves pair (pos 0 ∷ pos 1 ∷ []) 2
    -- "host alone, no wires: best 0, lag 0"
    ∷ best host_alone 0 (pos 0 ∷ []) ([] ∷ []) []
    -- and each of these sheets is sound
    ∷ sound ring
    ∷ sound narrow_ring
    ∷ sound stuck_ring
    ∷ sound pair
    ∷ sound host_alone
    ∷ []
