-- What the refusals 1, 2, 3, 5 and 6 leave is a formed sheet, and its core is formed; each refusal gives one answer.
-- Assumes nothing.
use Rattle.std.proofs.Common.{inl, inr, arith}
use Rattle.std.specs.Prelude.{List, ℕ, ◌+◌, ◌*◌, ◌<◌, length, ℤ, pos, negsuc, ◌-ℤ◌, ◌≤ℤ◌}
use Rattle.std.proofs.Math.Decide.{dec_le, dec_lt, ℕ_discrete}
use Rattle.std.proofs.Math.IntN.{ℤ_discrete}
use Rattle.sheet.specs.Bytes.{u32_at}
use Rattle.sheet.specs.Lag.{excess}
use Rattle.sheet.specs.Core.{Core, core_of, blocks_in, wires_in, delay_in, lower_in, upper_in, from_in, to_in, registers_in, spare_in}
use Rattle.sheet.specs.Rules.{None, Exact, answer}
use Rattle.sheet.specs.Sheet.{BlockRule, WireRule, frame_rules, entry_rules, Offsets, Framed, FormedSheet, Formed}
use Rattle.sheet.specs.Reads.{BlockNumbers}
use Rattle.sheet.specs.Integer.{up, down}
use Rattle.sheet.specs.Laws.Integer.{le_parts, parts_le}
use Rattle.sheet.specs.Laws.Rules.{NonZero, refusal_exact, place_exact, refusal_nonzero, place_nonzero}
use Rattle.sheet.specs.Laws.Sheet.{block_numbers}

-- ---- a rule that does not fail holds, since each of its parts is decided
pub stable : {A : Type 0} → Dec A → ((A → ⊥) → ⊥) → A
stable (yes a) nn = a
stable (no f) nn = absurd (nn f)

pub dec_le_ℤ : (x y : ℤ) → Dec (x ≤ℤ y)
dec_le_ℤ x y =
    elim (dec_le (up x + down y) (up y + down x)) [ yes h ↦ yes (parts_le x y h) | no h ↦ no (λ k. h (le_parts x y k)) ]

module _ (b d : ℕ) (l u : ℤ) (nn : (BlockRule b d l u → ⊥) → ⊥) where
  pub block_stable : BlockRule b d l u
  block_stable = record {
    small = stable (dec_le d 10000) (λ k. nn (λ r. k r.small));
    lower_limits = (
      stable (dec_le_ℤ (negsuc 999) l) (λ k. nn (λ r. k r.lower_limits.0)),
      stable (dec_le_ℤ l (pos 1000)) (λ k. nn (λ r. k r.lower_limits.1)),
    );
    upper_limits = (
      stable (dec_le_ℤ (negsuc 999) u) (λ k. nn (λ r. k r.upper_limits.0)),
      stable (dec_le_ℤ u (pos 1000)) (λ k. nn (λ r. k r.upper_limits.1)),
    );
    ordered = stable (dec_le_ℤ l u) (λ k. nn (λ r. k r.ordered));
    narrow = stable (dec_le_ℤ (u -ℤ l) (pos 1000)) (λ k. nn (λ r. k r.narrow));
    host = λ z. (
      stable (ℕ_discrete d 0) (λ k. nn (λ r. k (r.host z).0)),
      stable (ℤ_discrete l (pos 0)) (λ k. nn (λ r. k (r.host z).1)),
      stable (ℤ_discrete u (pos 0)) (λ k. nn (λ r. k (r.host z).2)),
    );
  }

module _ (n f t w z : ℕ) (nn : (WireRule n f t w z → ⊥) → ⊥) where
  pub wire_stable : WireRule n f t w z
  wire_stable = record {
    from_block = stable (dec_lt f n) (λ k. nn (λ r. k r.from_block));
    to_block = stable (dec_lt t n) (λ k. nn (λ r. k r.to_block));
    few = stable (dec_le w 2000) (λ k. nn (λ r. k r.few));
    blank = stable (ℕ_discrete z 0) (λ k. nn (λ r. k r.blank));
  }

module _ (s : List ℕ) where
  offsets_stable : ((Offsets s → ⊥) → ⊥) → Offsets s
  offsets_stable nn = record {
    blocks_at = stable (ℕ_discrete (u32_at s 4) 16) (λ k. nn (λ r. k r.blocks_at));
    wires_at = stable (ℕ_discrete (u32_at s 8) (16 + 8 * blocks_in s)) (λ k. nn (λ r. k r.wires_at));
    total = stable (ℕ_discrete (u32_at s 12) (16 + 8 * blocks_in s + 8 * wires_in s)) (λ k. nn (λ r. k r.total));
    whole = stable (ℕ_discrete (length s) (16 + 8 * blocks_in s + 8 * wires_in s)) (λ k. nn (λ r. k r.whole));
  }

  -- ---- what the refusals leave
  pub none_framed : None (frame_rules s) → Framed s
  none_framed h =
      let few = h.1.0 in
      record {
        some_block = stable (dec_le 1 (blocks_in s)) (λ k. few (inl (omega arith)));
        few_blocks = stable (dec_le (blocks_in s) 64) (λ k. few (inr (inl (omega arith))));
        few_wires = stable (dec_le (wires_in s) 256) (λ k. few (inr (inr (omega arith))));
        offsets = offsets_stable h.1.1.0;
      }

  pub none_formed : Framed s → None (entry_rules s) → FormedSheet s
  none_formed f h = record {
    framed = f;
    block = λ b k. block_stable b (delay_in s b) (lower_in s b) (upper_in s b) (λ bad. h.0 (b, k, bad));
    wire = λ j k. wire_stable (blocks_in s) (from_in s j) (to_in s j) (registers_in s j) (spare_in s j) (λ bad. h.1.0 (j, k, bad));
  }

  -- and no refusal applies to a formed sheet
  pub formed_none : FormedSheet s → None (entry_rules s)
  formed_none f = (λ h. h.2 (f.block h.0 h.1), (λ h. h.2 (f.wire h.0 h.1), tt))

  pub formed_core : FormedSheet s → Formed (core_of s)
  formed_core f = record {
    some_block = f.framed.some_block;
    few_blocks = f.framed.few_blocks;
    few_wires = f.framed.few_wires;
    block = f.block;
    from_block = λ j h. (f.wire j h).from_block;
    to_block = λ j h. (f.wire j h).to_block;
    few = λ j h. (f.wire j h).few;
  }

  -- ---- each refusal gives one answer
  pub frame_exact : Exact (frame_rules s)
  frame_exact = (refusal_exact _, (refusal_exact _, (refusal_exact _, tt)))

  pub entry_exact : Exact (entry_rules s)
  entry_exact = (place_exact _ _ _, (place_exact _ _ _, tt))

-- a formed core's blocks, as numbers
pub formed_numbers : (c : Core) → Formed c → (b : ℕ) → b < c.shape.n → BlockNumbers b (c.shape.delay b) (excess (c.lower b)) (excess (c.upper b))
formed_numbers c f b h = block_numbers b (c.shape.delay b) (c.lower b) (c.upper b) (f.block b h)

-- ---- none of them answers 0
pub frame_nonzero : (s : List ℕ) → NonZero (frame_rules s)
frame_nonzero s = (
  refusal_nonzero (answer 1 0 0) (omega arith),
  (
    refusal_nonzero (answer 2 0 0) (omega arith),
    (
      refusal_nonzero (answer 3 0 0) (omega arith),
      tt,
    ),
  ),
)

pub entry_nonzero : (s : List ℕ) → NonZero (entry_rules s)
entry_nonzero s = (place_nonzero _ _ (λ b. answer 5 b 0) (λ b. omega arith), (place_nonzero _ _ (λ j. answer 6 j 0) (λ j. omega arith), tt))
