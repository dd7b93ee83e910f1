-- Writes to a part of a list, as code leaves them.
use Rattle.std.proofs.Common.{◌≡◌, ℕ, ◌+◌, ◌-◌, ◌≤◌, List, ◌++◌, length, take, drop, sym, ◌∙◌, ap, arith, append_assoc, append-nil, drop-drop, length-append, length-take-le, length-drop, drop_of_length-le}
use Rattle.std.proofs.lemmas.List.Edits.{sets, sets-eq}
use Rattle.std.proofs.lemmas.Slice.{between_to_end}
use borrow.Rule.Slice.PartMut.{put_mid}

-- the part from place `at` on was lent
pub lent_rest : (w : List ℕ) (at : ℕ) → take (length w - at) (drop at w) ≡ drop at w
lent_rest w at = between_to_end w at (length w) (omega arith)

-- and v came back for it
pub put_rest : (w v : List ℕ) (at : ℕ) → at ≤ length w → put_mid at (length w - at) w v ≡ take at w ++ v
put_rest w v at h = ap (λ (l : List ℕ). take at w ++ (v ++ l)) (drop_of_length-le (drop at w) (omega (arith, length-drop at w))) ∙ ap (λ (l : List ℕ). take at w ++ l) (append-nil v)

-- a list was copied there
pub put_copy : (w v l : List ℕ) (at k : ℕ) → v ≡ l → k ≡ length l → at + length l ≤ length w → put_mid at k w v ≡ sets w at l
put_copy w v l at k e f h = rw (e, f) ((simp (drop-drop, append_assoc)) ∙ sym (sets-eq l w at h))

pub put_long : (w v : List ℕ) (at : ℕ) → at ≤ length w → length v ≡ length (take (length w - at) (drop at w)) → length (put_mid at (length w - at) w v) ≡ length w
put_long w v at h e =
    ap length (put_rest w v at h)
    ∙ length-append (take at w) v
    ∙ omega (arith, length-take-le at w h, e, ap length (lent_rest w at), length-drop at w)
