use Rattle.std.proofs.Common.{◌≡◌, ℕ, ◌<◌, Bool, true, false, Option, None, Some, sym, arith}
use Rattle.std.proofs.Math.Dec.{eqb}
use Rattle.std.proofs.lemmas.Bool.{eqb-true, eq-eqb}
use Rattle.std.specs.Option.{SomeIff, option_eq}
use Rattle.sheet.specs.Rules.{Told}
use Rattle.witness.proofs.trace.adds.Goals as goal

told_equal : (b : Bool) (z n : ℕ) → b ≡ eqb z n → Told (n ≡ z) b
told_equal true z n e = sym (eqb-true z n (sym e))
told_equal false z n e = λ q. let h : eqb z n ≡ true = eq-eqb z n (sym q) in cc

sum_told : (o : Option ℕ) (b : Bool) (z n : ℕ) → SomeIff o (z < 4294967296) z → n < 4294967296 → b ≡ option_eq eqb o (Some n) → Told (n ≡ z) b
sum_told (Some x) b z n h l e = rw h.1 at (told_equal b x n e)
sum_told None true z n h l e = cc
sum_told None false z n h l e = λ q. h (omega arith)

pub returns : goal.returns
returns c = sum_told _ _ _ _ c.checked_add.ensures (omega arith) c.eq.ensures
