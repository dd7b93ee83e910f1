-- The moved sheet as bytes: its core is the moved core, it is formed, there is one, and two moves compose.
-- Assumes nothing.
use Rattle.std.specs.Prelude.{◌≡◌, refl, List, ℕ, ◌+◌, ◌*◌, ◌-◌, ◌/◌, ◌%◌, ◌<◌, ℤ, pos, ◌+ℤ◌, ◌-ℤ◌, get_or}
use Rattle.std.proofs.Common.{sym, ap, ◌∙◌, subst, arith, ext_get_or}
use Rattle.std.proofs.Math.Decide.{dec_lt, ℕ_discrete}
use Rattle.std.specs.Int.{w16}
use Rattle.std.proofs.Math.Facts.{to_z_inj}
use Rattle.sheet.specs.Bytes.{Bytes, u16_at, u32_at, i16_at}
use Rattle.sheet.specs.Core.{core_of, blocks_in, wires_in, block_at, wire_at, delay_in, lower_in, upper_in, from_in, to_in, registers_in, spare_in}
use Rattle.sheet.specs.Sheet.{FormedSheet, Formed}
use Rattle.sheet.specs.Integer.{up}
use Rattle.sheet.specs.Laws.Integer.{plus, minus, parts_eq}
use Rattle.sheet.specs.Laws.Bytes.{u16_below}
use Rattle.sheet.specs.Laws.Formed.{formed_core}
use Rattle.moves.specs.Lags.{Permitted, Moved}
use Rattle.moves.specs.Move.{MovedSheet, Copied}
use Rattle.moves.specs.Laws.Moved.{formed_moved, moved_twice}

-- ---- numbers in bytes that were copied
module _ (s t : List ℕ) (at k : ℕ) (c : Copied s t at k) where
  byte : (i x : ℕ) → i < k → x ≡ at + i → get_or t x 0 ≡ get_or s x 0
  byte i x h e = rw e (c i h)

  pub u16_copied : (i x : ℕ) → i + 1 < k → x ≡ at + i → u16_at t x ≡ u16_at s x
  u16_copied i x h e = omega (arith, byte i x (omega arith) e, byte (i + 1) (x + 1) h (omega arith))

module _ (s : List ℕ) (r : ℕ → ℤ) (t : List ℕ) (mv : MovedSheet s r t) where
  pub same_blocks : blocks_in t ≡ blocks_in s
  same_blocks = u16_copied s t 0 16 mv.header 0 0 (omega arith) refl

  pub same_count : wires_in t ≡ wires_in s
  same_count = u16_copied s t 0 16 mv.header 2 2 (omega arith) refl

  header_u32 : (i : ℕ) → i + 3 < 16 → u32_at t i ≡ u32_at s i
  header_u32 i h = omega (arith, u16_copied s t 0 16 mv.header i i (omega arith) (omega arith), u16_copied s t 0 16 mv.header (i + 2) (i + 2) (omega arith) (omega arith))

  same_delay : (b : ℕ) → b < blocks_in s → delay_in t b ≡ delay_in s b
  same_delay b h =
      omega (
        arith,
        u16_copied s t (block_at b) 4 (mv.delay b h) 0 (block_at b) (omega arith) (omega arith),
        u16_copied s t (block_at b) 4 (mv.delay b h) 2 (block_at b + 2) (omega arith) refl,
      )

  -- a wire's field, wherever the wire table starts
  field : (j k x : ℕ) → u16_at t (wire_at (blocks_in s) j + k) ≡ x → u16_at t (wire_at (blocks_in t) j + k) ≡ x
  field j k x e = ap (λ (n : ℕ). u16_at t (wire_at n j + k)) same_blocks ∙ e

  same_from : (j : ℕ) → j < wires_in s → from_in t j ≡ from_in s j
  same_from j h =
      ap (λ (n : ℕ). u16_at t (wire_at n j)) same_blocks ∙ u16_copied s t (wire_at (blocks_in s) j) 4 (mv.ends j h) 0 (wire_at (blocks_in s) j) (omega arith) (omega arith)

  same_to : (j : ℕ) → j < wires_in s → to_in t j ≡ to_in s j
  same_to j h = field j 2 _ (u16_copied s t (wire_at (blocks_in s) j) 4 (mv.ends j h) 2 (wire_at (blocks_in s) j + 2) (omega arith) refl)

  same_spare : (j : ℕ) → j < wires_in s → spare_in t j ≡ spare_in s j
  same_spare j h = field j 6 _ (u16_copied s t (wire_at (blocks_in s) j + 6) 2 (mv.spare j h) 0 (wire_at (blocks_in s) j + 6) (omega arith) (omega arith))

  pub moved_core : Moved (core_of s) r (core_of t)
  moved_core = record {
    n_is = same_blocks;
    m_is = same_count;
    delay_is = same_delay;
    from_is = same_from;
    to_is = same_to;
    registers_is = mv.registers_is;
    ceiling_is = λ j h. refl;
    lower_is = mv.lower_is;
    upper_is = mv.upper_is;
  }

  -- ---- T8: the moved sheet is formed
  module _ (f : FormedSheet s) (p : Permitted (core_of s) r) where
    formed : Formed (core_of t)
    formed = formed_moved (core_of s) (core_of t) r moved_core (formed_core s f) p (λ j h. omega arith)

    pub moved_formed : FormedSheet t
    moved_formed =
        let o = f.framed.offsets in
        let n = same_blocks in
        let m = same_count in
        record {
          framed = record {
            some_block = omega (arith, n, f.framed.some_block);
            few_blocks = omega (arith, n, f.framed.few_blocks);
            few_wires = omega (arith, m, f.framed.few_wires);
            offsets = record {
              blocks_at = header_u32 4 (omega arith) ∙ o.blocks_at;
              wires_at = omega (arith, header_u32 8 (omega arith), o.wires_at, n);
              total = omega (arith, header_u32 12 (omega arith), o.total, n, m);
              whole = omega (arith, mv.long, o.whole, n, m);
            };
          };
          block = formed.block;
          wire = λ j h.
              let k : j < wires_in s = omega (arith, m) in
              record { from_block = formed.from_block j h; to_block = formed.to_block j h; few = formed.few j h; blank = same_spare j k ∙ (f.wire j k).blank };
        }

-- ---- there is one moved sheet
module _ (a b : List ℕ) (x : Bytes a) (y : Bytes b) where
  -- two bytes that make the same number are the same
  pair : (at : ℕ) → u16_at a at ≡ u16_at b at → (i : ℕ) → i < 2 → get_or a (at + i) 0 ≡ get_or b (at + i) 0
  pair at e i h =
      elim (ℕ_discrete i 0) [
        | yes z ↦ rw z (omega (arith, zero_at a, zero_at b, x.below at, x.below (at + 1), y.below at, y.below (at + 1)))
        | no z ↦
            let q : i ≡ 1 = omega arith in
            rw q (omega (arith, x.below at, x.below (at + 1), y.below at, y.below (at + 1)))
      ]
    where
      zero_at : (l : List ℕ) → get_or l (at + 0) 0 ≡ get_or l at 0
      zero_at l = ap (λ (k : ℕ). get_or l k 0) (omega arith)

  signed : (at : ℕ) → i16_at a at ≡ i16_at b at → u16_at a at ≡ u16_at b at
  signed at e =
      to_z_inj {w = w16} {a = u16_at a at} {b = u16_at b at} (record { fits = omega (arith, u16_below a at x) }) (record { fits = omega (arith, u16_below b at y) }) e

module _ (s : List ℕ) (f : FormedSheet s) (r : ℕ → ℤ) (a b : List ℕ) (p : MovedSheet s r a) (q : MovedSheet s r b) where
  abbrev n : ℕ
  n = blocks_in s

  abbrev m : ℕ
  m = wires_in s

  abbrev Same : ℕ → Type 0
  Same i = get_or a i 0 ≡ get_or b i 0

  both : (at k : ℕ) → Copied s a at k → Copied s b at k → (i : ℕ) → i < k → Same (at + i)
  both at k c d i h = c i h ∙ sym (d i h)

  -- a field of eight bytes, in three parts
  eight : (at : ℕ) → ((i : ℕ) → i < 4 → Same (at + i)) → ((i : ℕ) → i < 2 → Same (at + 4 + i)) → ((i : ℕ) → i < 2 → Same (at + 6 + i)) → (i : ℕ) → i < 8 → Same (at + i)
  eight at x y z i h =
      elim (dec_lt i 4) [
        | yes k ↦ x i k
        | no k ↦ elim (dec_lt i 6) [
          | yes g ↦ let e : at + i ≡ at + 4 + (i - 4) = omega arith in rw e (y (i - 4) (omega arith))
          | no g ↦ let e : at + i ≡ at + 6 + (i - 6) = omega arith in rw e (z (i - 6) (omega arith))
        ]
      ]

  block_same : (k : ℕ) → k < n → (i : ℕ) → i < 8 → Same (block_at k + i)
  block_same k h =
      eight (block_at k) (both (block_at k) 4 (p.delay k h) (q.delay k h))
      (pair a b p.bytes q.bytes (block_at k + 4) (signed a b p.bytes q.bytes (block_at k + 4) (p.lower_is k h ∙ sym (q.lower_is k h))))
      (pair a b p.bytes q.bytes (block_at k + 6) (signed a b p.bytes q.bytes (block_at k + 6) (p.upper_is k h ∙ sym (q.upper_is k h))))

  registers_same : (j : ℕ) → j < m → u16_at a (wire_at n j + 4) ≡ u16_at b (wire_at n j + 4)
  registers_same j h =
      sym (ap (λ (k : ℕ). u16_at a (wire_at k j + 4)) (same_blocks s r a p))
      ∙ ap up (p.registers_is j h ∙ sym (q.registers_is j h))
      ∙ ap (λ (k : ℕ). u16_at b (wire_at k j + 4)) (same_blocks s r b q)

  wire_same : (j : ℕ) → j < m → (i : ℕ) → i < 8 → Same (wire_at n j + i)
  wire_same j h =
      eight (wire_at n j) (both (wire_at n j) 4 (p.ends j h) (q.ends j h))
      (pair a b p.bytes q.bytes (wire_at n j + 4) (registers_same j h))
      (both (wire_at n j + 6) 2 (p.spare j h) (q.spare j h))

  at_byte : (i : ℕ) → i < 16 + 8 * n + 8 * m → Same i
  at_byte i h =
      elim (dec_lt i 16) [
        | yes k ↦ let e : i ≡ 0 + i = omega arith in rw e (both 0 16 p.header q.header i k)
        | no k ↦ elim (dec_lt i (16 + 8 * n)) [
          | yes g ↦
              let e : i ≡ block_at ((i - 16) / 8) + (i - 16) % 8 = omega arith in
              rw e (block_same ((i - 16) / 8) (omega arith) ((i - 16) % 8) (omega arith))
          | no g ↦
              let e : i ≡ wire_at n ((i - 16 - 8 * n) / 8) + (i - 16 - 8 * n) % 8 = omega arith in
              rw e (wire_same ((i - 16 - 8 * n) / 8) (omega arith) ((i - 16 - 8 * n) % 8) (omega arith))
        ]
      ]

  pub moved_unique : a ≡ b
  moved_unique = ext_get_or 0 a b (p.long ∙ sym q.long) (λ i h. at_byte i (omega (arith, p.long, f.framed.offsets.whole)))

-- ---- T9: a second move is the move by the sum of both, byte for byte
module _ (s : List ℕ) (f : FormedSheet s) (r t : ℕ → ℤ) (s' z : List ℕ) (p : MovedSheet s r s') (q : MovedSheet s' t z) where
  less_twice : (x a b : ℤ) → (x -ℤ a) -ℤ b ≡ x -ℤ (a +ℤ b)
  less_twice x a b = parts_eq ((x -ℤ a) -ℤ b) (x -ℤ (a +ℤ b)) (omega (arith, minus (x -ℤ a) b, minus x a, minus x (a +ℤ b), plus a b))

  twice : (at k : ℕ) → Copied s s' at k → Copied s' z at k → Copied s z at k
  twice at k c d i h = d i h ∙ c i h

  ends_twice : (j : ℕ) → j < wires_in s → Copied s' z (wire_at (blocks_in s) j) 4
  ends_twice j h = subst (λ (n : ℕ). Copied s' z (wire_at n j) 4) (same_blocks s r s' p) (q.ends j (omega (arith, same_count s r s' p)))

  spare_twice : (j : ℕ) → j < wires_in s → Copied s' z (wire_at (blocks_in s) j + 6) 2
  spare_twice j h = subst (λ (n : ℕ). Copied s' z (wire_at n j + 6) 2) (same_blocks s r s' p) (q.spare j (omega (arith, same_count s r s' p)))

  pub moves_compose : MovedSheet s (λ b. r b +ℤ t b) z
  moves_compose =
      let n = same_blocks s r s' p in
      record {
        bytes = q.bytes;
        long = q.long ∙ p.long;
        header = twice 0 16 p.header q.header;
        delay = λ b h. twice (block_at b) 4 (p.delay b h) (q.delay b (omega (arith, n)));
        lower_is = λ b h. q.lower_is b (omega (arith, n)) ∙ ap (λ (x : ℤ). x -ℤ t b) (p.lower_is b h) ∙ less_twice (lower_in s b) (r b) (t b);
        upper_is = λ b h. q.upper_is b (omega (arith, n)) ∙ ap (λ (x : ℤ). x -ℤ t b) (p.upper_is b h) ∙ less_twice (upper_in s b) (r b) (t b);
        ends = λ j h. twice (wire_at (blocks_in s) j) 4 (p.ends j h) (ends_twice j h);
        registers_is = λ j h. q.registers_is j (omega (arith, same_count s r s' p)) ∙ moved_twice (core_of s) (core_of s') r (moved_core s r s' p) (formed_core s f) t j h;
        spare = λ j h. twice (wire_at (blocks_in s) j + 6) 2 (p.spare j h) (spare_twice j h);
      }

-- ---- moving by zeros gives the sheet itself
module _ (s : List ℕ) (b : Bytes s) where
  less_zero : (x : ℤ) → x ≡ x -ℤ pos 0
  less_zero x = parts_eq x (x -ℤ pos 0) (omega (arith, minus x (pos 0)))

  pub moved_by_zeros : MovedSheet s (λ k. pos 0) s
  moved_by_zeros = record {
    bytes = b;
    long = refl;
    header = λ i h. refl;
    delay = λ k h i g. refl;
    lower_is = λ k h. less_zero (lower_in s k);
    upper_is = λ k h. less_zero (upper_in s k);
    ends = λ j h i g. refl;
    registers_is = λ j h. parts_eq (pos (registers_in s j)) (pos (registers_in s j) +ℤ pos 0 -ℤ pos 0) (omega (arith, minus (pos (registers_in s j) +ℤ pos 0) (pos 0), plus (pos (registers_in s j)) (pos 0)));
    spare = λ j h i g. refl;
  }
