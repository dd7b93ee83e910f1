-- Words stored one after another: runs of stores joined, and what they leave.
-- Assumes nothing.
use Rattle.std.specs.Prelude.{◌≡◌, refl, List, [], ◌∷◌, ◌++◌, ℕ, suc, ◌+◌, ◌≤◌, length, get_or, set, take, drop}
use Rattle.std.proofs.Common.{sym, ap, ◌∙◌, arith, zero-add, append_assoc, drop-drop, length-drop, get_or-set_other}
use Rattle.std.proofs.lemmas.List.Edits.{sets, sets-eq}
use Rattle.std.proofs.Math.Seq.{length-sets, take-append_seam}
use Rattle.paths.specs.Questions.{KeptFrom}

pub sets_append : (w l m : List ℕ) (at at' : ℕ) → at' ≡ at + length l → sets (sets w at l) at' m ≡ sets w at (l ++ m)
sets_append w [] m at at' e = ap (λ (i : ℕ). sets w i m) (omega arith)
sets_append w (x ∷ l) m at at' e = sets_append (set w at x) l m (suc at) at' (omega arith)

sets_past : (l w : List ℕ) (at i : ℕ) → at + length l ≤ i → get_or (sets w at l) i 0 ≡ get_or w i 0
sets_past [] w at i h = refl
sets_past (x ∷ l) w at i h = sets_past l (set w at x) (suc at) i (omega arith) ∙ get_or-set_other w at i x 0 (λ e. omega arith)

-- the first words are those stored, and all past them is as it was
pub sets_front : (l w : List ℕ) → length l ≤ length w → take (length l) (sets w 0 l) ≡ l
sets_front l w h = ap (take (length l)) (sets-eq l w 0 (omega arith)) ∙ take-append_seam l (drop (0 + length l) w)

pub sets_kept : (l w : List ℕ) → KeptFrom (length l) w (sets w 0 l)
sets_kept l w = record { long = length-sets w 0 l; past = λ i h. sets_past l w 0 i (omega arith) }

-- words stored at the front of the part from place `at` on
pub sets_part : (l w : List ℕ) (at : ℕ) → at + length l ≤ length w → take at w ++ sets (drop at w) 0 l ≡ sets w at l
sets_part l w at h =
    ap (λ (m : List ℕ). take at w ++ m) (sets-eq l (drop at w) 0 (omega (arith, length-drop at w)))
    ∙ (simp (zero-add, drop-drop, append_assoc))
    ∙ sym (sets-eq l w at h)
