-- The loops that write the moved sheet: their turns, and the bounds on what they write.
-- Assumes nothing.
use Rattle.std.specs.Prelude.{◌≡◌, List, ◌++◌, ℤ, ◌/◌, length, get_or, set, drop}
use Rattle.std.proofs.Math.Path.{refl}
use Rattle.std.proofs.Common.{ap, sym, ◌∙◌, arith, ext_get_or, length-append, length-drop, get_or-append-add, get_or-drop}
use Rattle.std.proofs.Math.Decide.{dec_lt}
use Rattle.std.proofs.lemmas.List.{get_or_append_left, set_comm}
use Prim.Native.Nat.{ℕ, zero, suc, ◌+◌, ◌*◌, ◌-◌, ◌%◌, ◌<◌, ◌≤◌}
use Rattle.std.proofs.Math.Numerals.{add-one}
use Rattle.sheet.specs.Lag.{excess}
use Rattle.sheet.specs.Bytes.{put16}
use Rattle.sheet.specs.Core.{core_of, blocks_in, wires_in, lower_in, upper_in, from_in, to_in, registers_in}
use Rattle.sheet.specs.Sheet.{FormedSheet}
use Rattle.sheet.specs.Reads.{ExcessIs, BlockIs, WireIs, limit_of}
use Rattle.sheet.specs.Laws.Filled.{length_filled, filled_at, filled_past}
use Rattle.sheet.specs.declared.block.Block.{Block}
use Rattle.sheet.specs.declared.block.Limit.{Limit}
use Rattle.sheet.specs.Laws.Lag.{order, moved_low, moved_high}
use Rattle.sheet.specs.Laws.Bytes.{length_put16}
use Rattle.sheet.specs.Laws.Sheet.{block_numbers, lower_fits, upper_fits}
use Rattle.moves.specs.Lags.{Permitted}
use Rattle.sheet.specs.declared.block.Limit.TheVariants.{Lower, Upper}
use Rattle.moves.specs.Write.{puts, limit_bits, moved_registers, limits_from, limits_put, registers_from, copied, written, limit_in, RegistersMoved}

module _ (base : ℕ) (val : ℕ → ℕ) where
  pub puts_none : (l : List ℕ) → puts base val 0 l ≡ l
  unfolding puts
  puts_none l = refl

  pub puts_turn : (b : ℕ) (l₀ l l' : List ℕ) (at x : ℕ) → l ≡ puts base val b l₀ → at ≡ base + 8 * b → x ≡ val b → l' ≡ put16 l at x → l' ≡ puts base val (b + 1) l₀
  unfolding puts
  puts_turn b l₀ l l' at x p a q e = e ∙ rw (p, a, q, add-one b)

  pub puts_done : (b n : ℕ) (l₀ l : List ℕ) → l ≡ puts base val b l₀ → b ≤ n → n ≤ b → l ≡ puts base val n l₀
  puts_done b n l₀ l p h k = p ∙ ap (λ (i : ℕ). puts base val i l₀) (omega arith)

  pub length_puts : (n : ℕ) (l : List ℕ) → length (puts base val n l) ≡ length l
  unfolding puts
  length_puts zero l = refl
  length_puts (suc n) l = length_put16 (puts base val n l) (base + 8 * n) (val n) ∙ length_puts n l

-- ---- fields that lie apart are put in either order
put16_swap : (l : List ℕ) (a b x y : ℕ) → a + 1 < b → put16 (put16 l a x) b y ≡ put16 (put16 l b y) a x
put16_swap l a b x y h =
    ap (λ (m : List ℕ). set m (b + 1) (y / 256))
    (set_comm (set l a (x % 256)) (a + 1) b (x / 256) (y % 256) (λ e. omega arith) ∙ ap (λ (m : List ℕ). set m (a + 1) (x / 256)) (set_comm l a b (x % 256) (y % 256) (λ e. omega arith)))
    ∙ set_comm (set (set l b (y % 256)) a (x % 256)) (a + 1) (b + 1) (x / 256) (y / 256) (λ e. omega arith)
    ∙ ap (λ (m : List ℕ). set m (a + 1) (x / 256)) (set_comm (set l b (y % 256)) a (b + 1) (x % 256) (y / 256) (λ e. omega arith))

puts_swap : (base : ℕ) (val : ℕ → ℕ) (n : ℕ) (l : List ℕ) (at x : ℕ) → base + 8 * n < at + 7 → puts base val n (put16 l at x) ≡ put16 (puts base val n l) at x
unfolding puts
puts_swap base val zero l at x h = refl
puts_swap base val (suc n) l at x h =
    ap (λ (m : List ℕ). put16 m (base + 8 * n) (val n)) (puts_swap base val n l at x (omega arith))
    ∙ sym (put16_swap (puts base val n l) (base + 8 * n) at (val n) x (omega arith))

-- one more block's limits, the lower first
pub limits_turn : (s : List ℕ) (r : ℕ → ℤ) (b : ℕ) (l₀ l l₁ l₂ : List ℕ) (low high x y : ℕ) → l ≡ limits_put s r b l₀ → low ≡ 20 + 8 * b → high ≡ 22 + 8 * b
    → x ≡ limit_bits s r Lower b → y ≡ limit_bits s r Upper b → l₁ ≡ put16 l low x → l₂ ≡ put16 l₁ high y → l₂ ≡ limits_put s r (b + 1) l₀
limits_turn s r b l₀ l l₁ l₂ low high x y p q₁ q₂ e₁ e₂ f₁ f₂ =
    let lows = puts 20 (limit_bits s r Lower) b l₀ in
    let more : put16 lows low x ≡ puts 20 (limit_bits s r Lower) (b + 1) l₀ = puts_turn 20 (limit_bits s r Lower) b l₀ lows _ low x refl q₁ e₁ refl in
    let still = puts_swap 22 (limit_bits s r Upper) b lows low x (omega arith) in
    puts_turn 22 (limit_bits s r Upper) b (puts 20 (limit_bits s r Lower) (b + 1) l₀) l₁ l₂ high y
    (f₁ ∙ ap (λ (m : List ℕ). put16 m low x) p ∙ sym still ∙ ap (puts 22 (limit_bits s r Upper) b) more) q₂ e₂ f₂

pub bits_is : (e a E A : ℕ) → e ≡ E → a ≡ A → (e + 32768 - a + 32768) % 65536 ≡ (E + 32768 - A + 32768) % 65536
bits_is e a E A p q = rw (p, q)

-- the bytes of the sheet, then what was there
pub copied_is : (s l : List ℕ) → length s ≤ length l → s ++ drop (length s) l ≡ copied s l
copied_is s l h =
    ext_get_or 0 (s ++ drop (length s) l) (copied s l) (omega (arith, length-append s (drop (length s) l), length-drop (length s) l, length_filled (λ i. get_or s i 0) (length s) l))
    (λ i k. at i (dec_lt i (length s)))
  where
    at : (i : ℕ) → Dec (i < length s) → get_or (s ++ drop (length s) l) i 0 ≡ get_or (copied s l) i 0
    at i (yes q) = get_or_append_left s (drop (length s) l) 0 i q ∙ sym (filled_at (λ k. get_or s k 0) (length s) l i 0 q h)
    at i (no q) =
        let e : length s + (i - length s) ≡ i = omega arith in
        rw e at (get_or-append-add s (drop (length s) l) (i - length s) 0)
        ∙ rw e at (get_or-drop (length s) l (i - length s) 0)
        ∙ sym (filled_past (λ k. get_or s k 0) (length s) l i 0 (omega arith))

-- the four steps together
pub written_made : (s : List ℕ) (r : ℕ → ℤ) (l : List ℕ) (n m : ℕ) (l₁ l₂ l₃ l₄ : List ℕ) → n ≡ blocks_in s → m ≡ wires_in s → l₁ ≡ copied s l
    → l₂ ≡ puts (limits_from Lower) (limit_bits s r Lower) n l₁ → l₃ ≡ puts (limits_from Upper) (limit_bits s r Upper) n l₂
    → l₄ ≡ puts (registers_from n) (moved_registers s r) m l₃ → l₄ ≡ written s r l
written_made s r l n m l₁ l₂ l₃ l₄ p q a b c d = d ∙ rw (c, b, a, p, q)

module _ (s : List ℕ) (f : FormedSheet s) where
  -- ---- a limit as it is read
  pub limit_is : (b : ℕ) (block : Block) → BlockIs s b block.delay block.lower block.upper → (which : Limit) (x : ℕ) → x ≡ limit_of block which → x ≡ excess (limit_in s which b)
  limit_is b block i Lower x e = e ∙ i.lower_is
  limit_is b block i Upper x e = e ∙ i.upper_is

  module _ (r : ℕ → ℤ) (p : Permitted (core_of s) r) where
    -- ---- a permitted lag is small
    module _ (b e : ℕ) (h : b < blocks_in s) (x : ExcessIs (r b) e) where
      pub lag_low : 31768 ≤ e
      lag_low =
          omega (
            arith,
            (order (lower_in s b) (r b) (lower_fits _ _ _ _ (f.block b h)) x.fits).0 (p.in_range b h).0,
            (block_numbers _ _ _ _ (f.block b h)).lowest,
            x.is,
          )

      pub lag_high : e ≤ 33768
      lag_high =
          omega (
            arith,
            (order (r b) (upper_in s b) x.fits (upper_fits _ _ _ _ (f.block b h))).0 (p.in_range b h).1,
            (block_numbers _ _ _ _ (f.block b h)).highest,
            x.is,
          )

    -- ---- a wire's registers once moved
    module _ (j fr t w a b : ℕ) (h : j < wires_in s) (i : WireIs s j fr t w) (x : ExcessIs (r fr) a) (y : ExcessIs (r t) b) where
      a_is : a ≡ excess (r (from_in s j))
      a_is = x.is ∙ ap (λ (k : ℕ). excess (r k)) i.from_is

      b_is : b ≡ excess (r (to_in s j))
      b_is = y.is ∙ ap (λ (k : ℕ). excess (r k)) i.to_is

      pub enough : a ≤ w + b
      enough =
          omega (
            arith,
            (moved_low (r (from_in s j)) (r (to_in s j)) (rw i.from_is at x.fits) (rw i.to_is at y.fits) (registers_in s j)).0 (p.fits j h).0,
            i.registers_is,
            a_is,
            b_is,
          )

      pub registers_moved : RegistersMoved s r j (w + b - a)
      registers_moved = record {
        is = omega (arith, i.registers_is, a_is, b_is);
        few = omega (
          arith,
          (moved_high (r (from_in s j)) (r (to_in s j)) (rw i.from_is at x.fits) (rw i.to_is at y.fits) (registers_in s j) 2000).0 (p.fits j h).1,
          i.registers_is,
          a_is,
          b_is,
        );
      }
