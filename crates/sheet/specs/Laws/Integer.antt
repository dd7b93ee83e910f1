-- Integers as differences of two naturals, `up z - down z`: a law on integers becomes one that `omega` proves.
-- A fact on integers goes in by `plus`, `minus`, `le_parts`, and comes out by `parts_le`, `parts_eq`.
-- Assumes nothing.
use Rattle.std.specs.Prelude.{◌≡◌, refl, ℕ, zero, suc, ◌+◌, ◌-◌, ◌<◌, ◌≤◌, ℤ, pos, negsuc, neg_ℤ, ◌+ℤ◌, ◌-ℤ◌, ◌≤ℤ◌}
use Rattle.std.proofs.Common.{ap, arith, lt-ltb, le-ltb, le→leb, leb→le}
use Rattle.std.proofs.Math.Decide.{dec_lt}
use Rattle.std.proofs.Math.IntN.{sub_ℕ}
use Rattle.sheet.specs.Integer.{up, down}

-- a difference of naturals, by its sign
pub sub_le : (a b : ℕ) → b ≤ a → sub_ℕ a b ≡ pos (a - b)
sub_le a b h = rw (le-ltb a b h)

pub sub_lt : (a b : ℕ) → a < b → sub_ℕ a b ≡ negsuc (b - suc a)
sub_lt a b h = rw (lt-ltb a b h)

parts' : (a b : ℕ) → Dec (a < b) → up (sub_ℕ a b) + b ≡ a + down (sub_ℕ a b)
parts' a b (yes h) = rw (sub_lt a b h) (omega arith)
parts' a b (no h) = rw (sub_le a b (omega arith)) (omega arith)

pub sub_parts : (a b : ℕ) → up (sub_ℕ a b) + b ≡ a + down (sub_ℕ a b)
sub_parts a b = parts' a b (dec_lt a b)

pub plus : (x y : ℤ) → up (x +ℤ y) + (down x + down y) ≡ up x + up y + down (x +ℤ y)
plus (pos a) (pos b) = omega arith
plus (pos a) (negsuc b) = omega (arith, sub_parts a (suc b))
plus (negsuc a) (pos b) = omega (arith, sub_parts b (suc a))
plus (negsuc a) (negsuc b) = omega arith

pub negated : (x : ℤ) → up (neg_ℤ x) + up x ≡ down x + down (neg_ℤ x)
negated (pos zero) = refl
negated (pos (suc k)) = omega arith
negated (negsuc k) = omega arith

pub minus : (x y : ℤ) → up (x -ℤ y) + (down x + up y) ≡ up x + down y + down (x -ℤ y)
minus x y = omega (arith, plus x (neg_ℤ y), negated y)

pub le_parts : (x y : ℤ) → x ≤ℤ y → up x + down y ≤ up y + down x
le_parts (pos a) (pos b) h = omega (arith, leb→le a b h.le)
le_parts (pos a) (negsuc b) h = absurd h.le
le_parts (negsuc a) (pos b) h = omega arith
le_parts (negsuc a) (negsuc b) h = omega (arith, leb→le b a h.le)

pub parts_le : (x y : ℤ) → up x + down y ≤ up y + down x → x ≤ℤ y
parts_le (pos a) (pos b) h = record { le = le→leb a b (omega arith) }
parts_le (pos a) (negsuc b) h = absurd (let k : 1 ≤ 0 = omega arith in omega arith)
parts_le (negsuc a) (pos b) h = record { le = tt }
parts_le (negsuc a) (negsuc b) h = record { le = le→leb b a (omega arith) }

pub parts_eq : (x y : ℤ) → up x + down y ≡ up y + down x → x ≡ y
parts_eq (pos a) (pos b) h = ap pos (omega arith)
parts_eq (pos a) (negsuc b) h = absurd (omega arith)
parts_eq (negsuc a) (pos b) h = absurd (omega arith)
parts_eq (negsuc a) (negsuc b) h = ap negsuc (omega arith)
