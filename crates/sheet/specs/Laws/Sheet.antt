-- A sheet's rules on integers and on excess numbers are the same; what the rules leave is a formed sheet.
-- Assumes nothing.
use Rattle.std.specs.Prelude.{◌≡◌, refl, ◌⊎◌, List, ℕ, ◌+◌, ◌%◌, ◌<◌, ◌≤◌, length, ℤ, pos, negsuc, ◌-ℤ◌, Result, Ok, Err}
use Rattle.std.proofs.Common.{ap, subst, inl, inr, arith, to_z}
use Rattle.std.specs.Int.Signed.{mag}
use Rattle.std.specs.Int.{w16}
use Rattle.sheet.specs.Lag.{excess}
use Rattle.sheet.specs.Bytes.{u16_at}
use Rattle.sheet.specs.Core.{wire_at, blocks_in, wires_in, delay_in, lower_in, upper_in, from_in, to_in, registers_in, spare_in}
use Rattle.sheet.specs.Rules.{First, None, FirstOf, answer, refusal_answer}
use Rattle.sheet.specs.Sheet.{LagLimits, BlockRule, WireRule, BlockGood, WireGood, frame_rules, block_rules, wire_rules, Offsets, Framed}
use Rattle.sheet.specs.Reads.{ExcessIs, BlockNumbers, BlockGiven, BlockIs, WireIs, WireGiven, FrameGiven}
use Rattle.sheet.specs.Integer.{up, down}
use Rattle.sheet.specs.Laws.Integer.{le_parts, parts_le, parts_eq, minus}
use Rattle.sheet.specs.Laws.Lag.{excess_parts, mag_bits, excess_bits}
use Rattle.sheet.specs.Laws.Rules.{place_found, search_stops}
use Rattle.sheet.specs.declared.block.Block.{Block}
use Rattle.sheet.specs.declared.wire.Wire.{Wire}
use Rattle.sheet.specs.declared.entry.BadEntry.{BadEntry}
use Rattle.sheet.specs.declared.opened.Opened.{Opened}
use Rattle.sheet.specs.declared.refusal.Refusal.{Refusal}

-- ---- the block rule on excess numbers
pub limits_fit : (z : ℤ) → LagLimits z → mag z < 32768
limits_fit (pos k) h = omega (arith, le_parts (pos k) (pos 1000) h.1)
limits_fit (negsuc k) h = omega (arith, le_parts (negsuc 999) (negsuc k) h.0)

module _ (b d : ℕ) (l u : ℤ) where
  pub lower_fits : BlockRule b d l u → mag l < 32768
  lower_fits r = limits_fit l r.lower_limits

  pub upper_fits : BlockRule b d l u → mag u < 32768
  upper_fits r = limits_fit u r.upper_limits

  -- both limits and their excess numbers, without subtraction
  pub lower_parts : BlockRule b d l u → excess l + down l ≡ up l + 32768
  lower_parts r = excess_parts l (lower_fits r)

  pub upper_parts : BlockRule b d l u → excess u + down u ≡ up u + 32768
  upper_parts r = excess_parts u (upper_fits r)

  pub block_numbers : BlockRule b d l u → BlockNumbers b d (excess l) (excess u)
  block_numbers r =
      let el = lower_parts r in
      let eu = upper_parts r in
      record {
        small = r.small;
        lowest = omega (arith, le_parts (negsuc 999) l r.lower_limits.0);
        highest = omega (arith, le_parts u (pos 1000) r.upper_limits.1);
        ordered = omega (arith, le_parts l u r.ordered);
        narrow = omega (arith, le_parts (u -ℤ l) (pos 1000) r.narrow, minus u l);
        host = λ z. ((r.host z).0, ap excess (r.host z).1, ap excess (r.host z).2);
      }

  pub numbers_block : mag l < 32768 → mag u < 32768 → BlockNumbers b d (excess l) (excess u) → BlockRule b d l u
  numbers_block hl hu r =
      let el = excess_parts l hl in
      let eu = excess_parts u hu in
      record {
        small = r.small;
        lower_limits = (parts_le (negsuc 999) l (omega (arith, r.lowest)), parts_le l (pos 1000) (omega (arith, r.ordered, r.highest)));
        upper_limits = (parts_le (negsuc 999) u (omega (arith, r.lowest, r.ordered)), parts_le u (pos 1000) (omega (arith, r.highest)));
        ordered = parts_le l u (omega (arith, r.ordered));
        narrow = parts_le (u -ℤ l) (pos 1000) (omega (arith, r.narrow, minus u l));
        host = λ z. ((r.host z).0, parts_eq l (pos 0) (omega (arith, (r.host z).1)), parts_eq u (pos 0) (omega (arith, (r.host z).2)));
      }

-- ---- the i16 whose 16 bits were read as y
pub excess_read : (x y : ℕ) → y ≡ x → y < 65536 → ExcessIs (to_z w16 x) ((y + 32768) % 65536)
excess_read x y e h =
    let g : x < 65536 = omega arith in
    record { is = rw (excess_bits x g) (omega arith); below = omega arith; fits = mag_bits x g }

-- ---- an entry's numbers, tied to the sheet that they were read from
module _ (s : List ℕ) (b d lo up : ℕ) (p : d ≡ delay_in s b) (q : ExcessIs (lower_in s b) lo) (r : ExcessIs (upper_in s b) up) where
  pub block_good : BlockNumbers b d lo up → BlockIs s b d lo up × BlockGood s b
  block_good h = (
    record { delay_is = p; lower_is = q.is; upper_is = r.is; numbers = h },
    numbers_block b (delay_in s b) (lower_in s b) (upper_in s b) q.fits r.fits (rw (p, q.is, r.is) at h),
  )

  pub block_bad : (BlockNumbers b d lo up → ⊥) → BlockGood s b → ⊥
  block_bad h g = h (rw (p, q.is, r.is) (block_numbers b (delay_in s b) (lower_in s b) (upper_in s b) g))

module _ (s : List ℕ) (n j f t w z : ℕ) (e : n ≡ blocks_in s)
    (ef : f ≡ u16_at s (wire_at n j)) (et : t ≡ u16_at s (wire_at n j + 2)) (ew : w ≡ u16_at s (wire_at n j + 4)) (ez : z ≡ u16_at s (wire_at n j + 6)) where
  pub wire_good : WireRule n f t w z → WireIs s j f t w × WireGood s j
  wire_good g =
      let pf : f ≡ from_in s j = rw e at ef in
      let pt : t ≡ to_in s j = rw e at et in
      let pw : w ≡ registers_in s j = rw e at ew in
      let pz : z ≡ spare_in s j = rw e at ez in
      let h : WireRule (blocks_in s) f t w z = rw e at g in (
        record { from_is = pf; to_is = pt; registers_is = pw; from_block = h.from_block; to_block = h.to_block; few = h.few },
        rw (pf, pt, pw, pz) at h,
      )

  pub wire_bad : (WireRule n f t w z → ⊥) → WireGood s j → ⊥
  wire_bad h g = h (rw (e, ef, et, ew, ez, e) g)

-- ---- what a reader's answer says once its case is known
module _ (s : List ℕ) (i : ℕ) where
  pub block_read : (r : Result Block BadEntry) (block : Block) → BlockGiven s i r → r ≡ Ok block → BlockIs s i block.delay block.lower block.upper × BlockGood s i
  block_read r block h e = subst (BlockGiven s i) e h

  pub block_refused : (r : Result Block BadEntry) (bad : BadEntry) → BlockGiven s i r → r ≡ Err bad → BlockGood s i → ⊥
  block_refused r bad h e = (subst (BlockGiven s i) e h).1

  pub wire_read : (r : Result Wire BadEntry) (wire : Wire) → WireGiven s i r → r ≡ Ok wire → WireIs s i wire.from wire.to wire.registers × WireGood s i
  wire_read r wire h e = subst (WireGiven s i) e h

  pub wire_refused : (r : Result Wire BadEntry) (bad : BadEntry) → WireGiven s i r → r ≡ Err bad → WireGood s i → ⊥
  wire_refused r bad h e = (subst (WireGiven s i) e h).1

pub frame_read : (s : List ℕ) (r : Result Opened Refusal) (sheet : Opened) → FrameGiven s r → r ≡ Ok sheet → (sheet.n ≡ blocks_in s) × (sheet.m ≡ wires_in s) × Framed s
frame_read s r sheet h e = let q = subst (FrameGiven s) e h in (q.1, q.2, q.3)

pub frame_refused : (s : List ℕ) (r : Result Opened Refusal) (x : Refusal) → FrameGiven s r → r ≡ Err x → First (frame_rules s) (refusal_answer x)
frame_refused s r x h e = subst (FrameGiven s) e h

-- ---- the frame's refusals, one by one
module _ (s : List ℕ) where
  pub too_short : length s < 16 → First (frame_rules s) (answer 1 0 0)
  too_short h = inl (h, refl)

  pub counts_wrong : 16 ≤ length s → (blocks_in s < 1) ⊎ ((64 < blocks_in s) ⊎ (256 < wires_in s)) → First (frame_rules s) (answer 2 0 0)
  counts_wrong l h = inr (λ g. omega arith, inl (h, refl))

  counts_right : 1 ≤ blocks_in s → blocks_in s ≤ 64 → wires_in s ≤ 256 → (blocks_in s < 1) ⊎ ((64 < blocks_in s) ⊎ (256 < wires_in s)) → ⊥
  counts_right h k g (inl x) = omega arith
  counts_right h k g (inr (inl x)) = omega arith
  counts_right h k g (inr (inr x)) = omega arith

  pub offsets_wrong : 16 ≤ length s → 1 ≤ blocks_in s → blocks_in s ≤ 64 → wires_in s ≤ 256 → (Offsets s → ⊥) → First (frame_rules s) (answer 3 0 0)
  offsets_wrong l h k g o = inr (λ z. omega arith, inr (counts_right h k g, inl (o, refl)))

  pub framed_none : Framed s → None (frame_rules s)
  framed_none f =
      (λ z. omega (arith, f.offsets.whole, f.some_block), (counts_right f.some_block f.few_blocks f.few_wires, (λ o. o f.offsets, tt)))

-- ---- the entries' refusals, one by one, from where a search ended: at the first bad entry, or past all
module _ (s : List ℕ) where
  pub first_block : (b : ℕ) → b < blocks_in s → ((k : ℕ) → k < b → (BlockGood s k → ⊥) → ⊥) → (BlockGood s b → ⊥) → First (block_rules s) (answer 5 b 0)
  first_block b h before bad =
      let f : FirstOf (λ k. BlockGood s k → ⊥) (blocks_in s) b = search_stops _ _ b h before bad in
      inl (place_found (λ k. BlockGood s k → ⊥) (blocks_in s) (λ k. answer 5 k 0) b f h)

  pub first_wire : (j : ℕ) → j < wires_in s → ((k : ℕ) → k < j → (WireGood s k → ⊥) → ⊥) → (WireGood s j → ⊥) → First (wire_rules s) (answer 6 j 0)
  first_wire j h before bad =
      let f : FirstOf (λ k. WireGood s k → ⊥) (wires_in s) j = search_stops _ _ j h before bad in
      inl (place_found (λ k. WireGood s k → ⊥) (wires_in s) (λ k. answer 6 k 0) j f h)

  pub all_blocks : ((k : ℕ) → k < blocks_in s → (BlockGood s k → ⊥) → ⊥) → None (block_rules s)
  all_blocks h = (λ w. h w.0 w.1 w.2, tt)

  pub all_wires : ((k : ℕ) → k < wires_in s → (WireGood s k → ⊥) → ⊥) → None (wire_rules s)
  all_wires h = (λ w. h w.0 w.1 w.2, tt)
