-- What was written is the moved sheet, and nothing past it was touched.
-- Assumes nothing.
use Rattle.std.specs.Prelude.{◌≡◌, ◌⊎◌, List, ℤ, pos, negsuc, ◌-ℤ◌, length, get_or, take}
use Rattle.std.proofs.Math.Path.{refl}
use Rattle.std.proofs.Common.{sym, ap, ◌∙◌, inl, inr, arith, length-take-le, get_or-take, to_z}
use Prim.Native.Nat.{ℕ, zero, suc, ◌+◌, ◌*◌, ◌-◌, ◌%◌, ◌<◌, ◌≤◌}
use Rattle.std.proofs.Math.Decide.{ℕ_discrete, dec_lt}
use Rattle.std.specs.Int.Signed.{mag}
use Rattle.std.proofs.Math.ListN.{get_or-eq_default}
use Rattle.std.specs.Int.{w16}
use Rattle.sheet.specs.Lag.{excess, lag_of}
use Rattle.sheet.specs.Bytes.{Bytes, u16_at}
use Rattle.sheet.specs.Core.{core_of, blocks_in, wires_in, block_at, wire_at, lower_in, upper_in, from_in, to_in, registers_in}
use Rattle.sheet.specs.Sheet.{LagLimits, FormedSheet}
use Rattle.sheet.specs.Laws.Filled.{length_filled, filled_at, filled_past}
use Rattle.sheet.specs.Integer.{up, down}
use Rattle.sheet.specs.Laws.Integer.{sub_parts, minus, le_parts, parts_le, parts_eq}
use Rattle.sheet.specs.Laws.Lag.{excess_parts, bits_lag, order, moved_is, moved_low}
use Rattle.sheet.specs.Laws.Bytes.{put16_other, put16_read, put16_apart}
use Rattle.sheet.specs.Laws.Sheet.{limits_fit, lower_fits, upper_fits, block_numbers}
use Rattle.paths.specs.Questions.{KeptFrom}
use Rattle.moves.specs.Lags.{InRange, Permitted, MovedTo}
use Rattle.moves.specs.Move.{MovedSheet, Copied}
use Rattle.sheet.specs.declared.block.Limit.TheVariants.{Lower, Upper}
use Rattle.moves.specs.Write.{puts, limit_bits, moved_registers, registers_from, copied, written}
use Rattle.moves.specs.Laws.Writing.{length_puts}

-- ---- reading after puts
module _ (base : ℕ) (val : ℕ → ℕ) where
  -- a byte that is none of those put
  pub puts_other : (n : ℕ) (l : List ℕ) (i : ℕ) → ((k : ℕ) → k < n → (i ≡ base + 8 * k → ⊥) × (i ≡ base + 8 * k + 1 → ⊥)) → get_or (puts base val n l) i 0 ≡ get_or l i 0
  unfolding puts
  puts_other zero l i a = refl
  puts_other (suc n) l i a =
      put16_other (puts base val n l) (base + 8 * n) (val n) i (a n (omega arith)).0 (a n (omega arith)).1
      ∙ puts_other n l i (λ k h. a k (omega arith))

  read_by : (n k : ℕ) (l : List ℕ) → k < suc n → base + 8 * n + 1 < length l → (k < n → u16_at (puts base val n l) (base + 8 * k) ≡ val k) → Dec (k ≡ n) → u16_at (puts base val (suc n) l) (base + 8 * k) ≡ val k
  unfolding puts
  read_by n k l h g below (yes e) = rw e (put16_read (puts base val n l) (base + 8 * n) (val n) (omega (arith, length_puts base val n l)))
  read_by n k l h g below (no e) = put16_apart (puts base val n l) (base + 8 * n) (val n) (base + 8 * k) (inl (omega arith)) ∙ below (omega arith)

  pub puts_read : (n k : ℕ) (l : List ℕ) → k < n → base + 8 * n ≤ length l + 6 → u16_at (puts base val n l) (base + 8 * k) ≡ val k
  puts_read zero k l h g = absurd (omega arith)
  puts_read (suc n) k l h g = read_by n k l h (omega arith) (λ b. puts_read n k l b (omega arith)) (ℕ_discrete k n)

-- ---- integers from the bits written
limit_less : (z r : ℤ) → mag z < 32768 → mag r < 32768 → excess r ≤ excess z + 32768 → excess z + 32768 - excess r < 65536 → to_z w16 ((excess z + 32768 - excess r + 32768) % 65536) ≡ z -ℤ r
limit_less z r hz hr h k =
    bits_lag (excess z + 32768 - excess r) k
    ∙ parts_eq (lag_of (excess z + 32768 - excess r)) (z -ℤ r) (omega (arith, sub_parts (excess z + 32768 - excess r) 32768, minus z r, excess_parts z hz, excess_parts r hr))

-- ---- lags in range are small
module _ (s : List ℕ) (f : FormedSheet s) (r : ℕ → ℤ) (b : ℕ) (h : b < blocks_in s) (p : InRange (core_of s) r b) where
  lag_limits : LagLimits (r b)
  lag_limits = (
    parts_le (negsuc 999) (r b) (omega (arith, le_parts (negsuc 999) (lower_in s b) (f.block b h).lower_limits.0, le_parts (lower_in s b) (r b) p.0)),
    parts_le (r b) (pos 1000) (omega (arith, le_parts (upper_in s b) (pos 1000) (f.block b h).upper_limits.1, le_parts (r b) (upper_in s b) p.1)),
  )

  pub lag_fits : mag (r b) < 32768
  lag_fits = limits_fit (r b) lag_limits

  -- a lag and its excess number, without subtraction
  pub lag_parts : excess (r b) + down (r b) ≡ up (r b) + 32768
  lag_parts = excess_parts (r b) lag_fits

  lag_between : (excess (lower_in s b) ≤ excess (r b)) × (excess (r b) ≤ excess (upper_in s b))
  lag_between = (
    (order (lower_in s b) (r b) (lower_fits _ _ _ _ (f.block b h)) lag_fits).0 p.0,
    (order (r b) (upper_in s b) lag_fits (upper_fits _ _ _ _ (f.block b h))).0 p.1,
  )

  pub lower_less : to_z w16 (limit_bits s r Lower b) ≡ lower_in s b -ℤ r b
  lower_less =
      let q = block_numbers _ _ _ _ (f.block b h) in
      limit_less (lower_in s b) (r b) (lower_fits _ _ _ _ (f.block b h)) lag_fits (omega (arith, q, lag_between)) (omega (arith, q, lag_between))

  pub upper_less : to_z w16 (limit_bits s r Upper b) ≡ upper_in s b -ℤ r b
  upper_less =
      let q = block_numbers _ _ _ _ (f.block b h) in
      limit_less (upper_in s b) (r b) (upper_fits _ _ _ _ (f.block b h)) lag_fits (omega (arith, q, lag_between)) (omega (arith, q, lag_between))

-- ---- the written list
module _ (s : List ℕ) (f : FormedSheet s) (r : ℕ → ℤ) (p : Permitted (core_of s) r) (l : List ℕ) (room : length s ≤ length l) where
  abbrev n : ℕ
  n = blocks_in s

  abbrev m : ℕ
  m = wires_in s

  abbrev lows : List ℕ
  lows = puts 20 (limit_bits s r Lower) n (copied s l)

  abbrev ups : List ℕ
  ups = puts 22 (limit_bits s r Upper) n lows

  whole : length s ≡ 16 + 8 * n + 8 * m
  whole = f.framed.offsets.whole

  length_copied : length (copied s l) ≡ length l
  length_copied = length_filled (λ i. get_or s i 0) (length s) l

  length_lows : length lows ≡ length l
  length_lows = length_puts 20 (limit_bits s r Lower) n (copied s l) ∙ length_copied

  length_ups : length ups ≡ length l
  length_ups = length_puts 22 (limit_bits s r Upper) n lows ∙ length_lows

  pub length_written : length (written s r l) ≡ length l
  length_written = length_puts (registers_from n) (moved_registers s r) m ups ∙ length_ups

  -- a byte that no step puts
  other : (i : ℕ) → ((k : ℕ) → k < n → (i < 20 + 8 * k) ⊎ (23 + 8 * k < i)) → ((k : ℕ) → k < m → (i < 20 + 8 * n + 8 * k) ⊎ (21 + 8 * n + 8 * k < i)) → get_or (written s r l) i 0 ≡ get_or (copied s l) i 0
  other i a b =
      puts_other (registers_from n) (moved_registers s r) m ups i (λ k h. elim (b k h) [ inl q ↦ (λ e. omega arith, λ e. omega arith) | inr q ↦ (λ e. omega arith, λ e. omega arith) ])
      ∙ puts_other 22 (limit_bits s r Upper) n lows i (λ k h. elim (a k h) [ inl q ↦ (λ e. omega arith, λ e. omega arith) | inr q ↦ (λ e. omega arith, λ e. omega arith) ])
      ∙ puts_other 20 (limit_bits s r Lower) n (copied s l) i (λ k h. elim (a k h) [ inl q ↦ (λ e. omega arith, λ e. omega arith) | inr q ↦ (λ e. omega arith, λ e. omega arith) ])

  copied_at : (i : ℕ) → i < length s → get_or (copied s l) i 0 ≡ get_or s i 0
  copied_at i h = filled_at (λ k. get_or s k 0) (length s) l i 0 h room

  -- past the sheet
  pub rest_kept : KeptFrom (length s) l (written s r l)
  rest_kept = record {
    long = length_written;
    past = λ i h. other i (λ k q. inr (omega (arith, whole))) (λ k q. inr (omega (arith, whole))) ∙ filled_past (λ k. get_or s k 0) (length s) l i 0 h;
  }

  abbrev t : List ℕ
  t = take (length s) (written s r l)

  at_t : (i : ℕ) → i < length s → get_or t i 0 ≡ get_or (written s r l) i 0
  at_t i h = get_or-take (length s) (written s r l) i 0 h

  same : (i : ℕ) → i < length s → ((k : ℕ) → k < n → (i < 20 + 8 * k) ⊎ (23 + 8 * k < i)) → ((k : ℕ) → k < m → (i < 20 + 8 * n + 8 * k) ⊎ (21 + 8 * n + 8 * k < i)) → get_or t i 0 ≡ get_or s i 0
  same i h a b = at_t i h ∙ other i a b ∙ copied_at i h

  header_same : Copied s t 0 16
  header_same i h = same (0 + i) (omega (arith, whole)) (λ k q. inl (omega arith)) (λ k q. inl (omega arith))

  header_n : blocks_in t ≡ blocks_in s
  header_n = omega (arith, header_same 0 (omega arith), header_same 1 (omega arith))

  delay_same : (b : ℕ) → b < n → Copied s t (block_at b) 4
  delay_same b h i g = same (block_at b + i) (omega (arith, whole)) (λ k q. elim (dec_lt b (suc k)) [ yes x ↦ inl (omega arith) | no x ↦ inr (omega arith) ]) (λ k q. inl (omega arith))

  ends_same : (j : ℕ) → j < m → Copied s t (wire_at n j) 4
  ends_same j h i g =
      same (wire_at n j + i) (omega (arith, whole)) (λ k q. inr (omega arith)) (λ k q. elim (dec_lt j (suc k)) [ yes x ↦ inl (omega arith) | no x ↦ inr (omega arith) ])

  spare_same : (j : ℕ) → j < m → Copied s t (wire_at n j + 6) 2
  spare_same j h i g =
      same (wire_at n j + 6 + i) (omega (arith, whole)) (λ k q. inr (omega arith)) (λ k q. elim (dec_lt j k) [ yes x ↦ inl (omega arith) | no x ↦ inr (omega arith) ])

  -- the fields that were put
  u16_t : (at : ℕ) → at + 1 < length s → u16_at t at ≡ u16_at (written s r l) at
  u16_t at h = omega (arith, at_t at (omega arith), at_t (at + 1) h)

  lower_written : (b : ℕ) → b < n → u16_at t (block_at b + 4) ≡ limit_bits s r Lower b
  lower_written b h =
      let e : block_at b + 4 ≡ 20 + 8 * b = omega arith in
      let a1 = puts_other (registers_from n) (moved_registers s r) m ups (20 + 8 * b) (λ k q. (λ z. omega arith, λ z. omega arith)) in
      let a2 = puts_other (registers_from n) (moved_registers s r) m ups (20 + 8 * b + 1) (λ k q. (λ z. omega arith, λ z. omega arith)) in
      let b1 = puts_other 22 (limit_bits s r Upper) n lows (20 + 8 * b) (λ k q. (λ z. omega arith, λ z. omega arith)) in
      let b2 = puts_other 22 (limit_bits s r Upper) n lows (20 + 8 * b + 1) (λ k q. (λ z. omega arith, λ z. omega arith)) in
      u16_t (block_at b + 4) (omega (arith, whole))
      ∙ ap (u16_at (written s r l)) e
      ∙ omega (arith, a1, a2, b1, b2)
      ∙ puts_read 20 (limit_bits s r Lower) n b (copied s l) h (omega (arith, whole, length_copied))

  upper_written : (b : ℕ) → b < n → u16_at t (block_at b + 6) ≡ limit_bits s r Upper b
  upper_written b h =
      let e : block_at b + 6 ≡ 22 + 8 * b = omega arith in
      let a1 = puts_other (registers_from n) (moved_registers s r) m ups (22 + 8 * b) (λ k q. (λ z. omega arith, λ z. omega arith)) in
      let a2 = puts_other (registers_from n) (moved_registers s r) m ups (22 + 8 * b + 1) (λ k q. (λ z. omega arith, λ z. omega arith)) in
      u16_t (block_at b + 6) (omega (arith, whole))
      ∙ ap (u16_at (written s r l)) e
      ∙ omega (arith, a1, a2)
      ∙ puts_read 22 (limit_bits s r Upper) n b lows h (omega (arith, whole, length_lows))

  registers_written : (j : ℕ) → j < m → u16_at t (wire_at n j + 4) ≡ moved_registers s r j
  registers_written j h =
      let e : wire_at n j + 4 ≡ registers_from n + 8 * j = omega arith in
      u16_t (wire_at n j + 4) (omega (arith, whole))
      ∙ ap (u16_at (written s r l)) e
      ∙ puts_read (registers_from n) (moved_registers s r) m j ups h (omega (arith, whole, length_ups))

  registers_right : MovedTo (core_of s) r (registers_in t)
  registers_right j h =
      let fr = (f.wire j h).from_block in
      let to = (f.wire j h).to_block in
      let hf = lag_fits s f r (from_in s j) fr (p.in_range (from_in s j) fr) in
      let ht = lag_fits s f r (to_in s j) to (p.in_range (to_in s j) to) in
      let e : registers_in t j ≡ moved_registers s r j = ap (λ (k : ℕ). u16_at t (wire_at k j + 4)) header_n ∙ registers_written j h in
      let low = (moved_low (r (from_in s j)) (r (to_in s j)) hf ht (registers_in s j)).0 (p.fits j h).0 in
      sym ((moved_is (r (from_in s j)) (r (to_in s j)) hf ht (registers_in s j) (registers_in t j)).1 (omega (arith, e, low)))

  bytes_t : Bytes (written s r l) → Bytes t
  bytes_t g = record { below = λ i. elim (dec_lt i (length s)) [ yes h ↦ omega (arith, at_t i h, g.below i) | no h ↦ omega (arith, get_or-eq_default t 0 {n = i} (omega (arith, length-take-le (length s) (written s r l) (omega (arith, length_written))))) ] }

  pub written_moved : Bytes (written s r l) → MovedSheet s r (take (length s) (written s r l))
  written_moved g = record {
    bytes = bytes_t g;
    long = length-take-le (length s) (written s r l) (omega (arith, length_written));
    header = header_same;
    delay = delay_same;
    lower_is = λ b h. ap (to_z w16) (lower_written b h) ∙ lower_less s f r b h (p.in_range b h);
    upper_is = λ b h. ap (to_z w16) (upper_written b h) ∙ upper_less s f r b h (p.in_range b h);
    ends = ends_same;
    registers_is = registers_right;
    spare = spare_same;
  }
