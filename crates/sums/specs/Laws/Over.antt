-- A lent list after xs were written at its front.
-- Assumes nothing.
use Rattle.std.specs.Prelude.{◌≡◌, List, ℕ, ◌+◌, ◌-◌, ◌≤◌, length, get_or, drop}
use Rattle.std.proofs.Common.{sym, ◌∙◌, arith, length-take-le, get_or-append-add, get_or-drop}
use Rattle.std.proofs.Math.Seq.{length_front}
use Rattle.sums.specs.Lines.{over}

module _ {A : Type 0} (xs l : List A) where
  pub over_long : length xs ≤ length l → length (over xs l) ≡ length l
  over_long h = length_front l xs (length xs) (sym (length-take-le (length xs) l h))

  pub over_past : (d : A) (i : ℕ) → length xs ≤ i → get_or (over xs l) i d ≡ get_or l i d
  over_past d i h =
      let k : ℕ = i - length xs in
      let e : length xs + k ≡ i = omega arith in
      rw (← e) (get_or-append-add xs (drop (length xs) l) k d ∙ get_or-drop (length xs) l k d)
