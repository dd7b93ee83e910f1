-- T12: every line of the table is right. One test computes, on the sheets' bytes.
-- Assumes nothing.
use Rattle.std.specs.Prelude.{◌≡◌, refl, true, List, [], ◌∷◌, ℕ, T}
use Rattle.std.proofs.Common.{sym, subst}
use Rattle.std.specs.Float.Ieee.Bits.{is_true}
use Rattle.std.specs.Float.Ieee.Fits.{and_l, and_r}
use Rattle.sums.specs.Lines.{Line, ring, AllRight, table}
use Rattle.sums.specs.Test.{test, test_all}
use Rattle.sums.specs.Laws.Line.{test_sound}

-- the one computation
passes : test_all table ≡ true
passes = refl

all_right : (xs : List Line) → T (test_all xs) → AllRight xs
all_right [] t = tt
all_right (x ∷ xs) t = (test_sound x (is_true (test x) (and_l (test x) (test_all xs) t)), all_right xs (and_r (test x) (test_all xs) t))

pub p_table : AllRight table
p_table = all_right table (subst T (sym passes) tt)

-- the ring's 80 bytes as 01 lays them out: header, blocks, wires
abbrev ring_bytes : List ℕ
ring_bytes =
    4 ∷ 0 ∷ 4 ∷ 0 ∷ 16 ∷ 0 ∷ 0 ∷ 0
    ∷ 48 ∷ 0 ∷ 0 ∷ 0 ∷ 80 ∷ 0 ∷ 0 ∷ 0
    ∷ 0 ∷ 0 ∷ 0 ∷ 0 ∷ 0 ∷ 0 ∷ 0 ∷ 0
    ∷ 3 ∷ 0 ∷ 0 ∷ 0 ∷ 254 ∷ 255 ∷ 2 ∷ 0
    ∷ 4 ∷ 0 ∷ 0 ∷ 0 ∷ 254 ∷ 255 ∷ 2 ∷ 0
    ∷ 5 ∷ 0 ∷ 0 ∷ 0 ∷ 254 ∷ 255 ∷ 2 ∷ 0
    ∷ 0 ∷ 0 ∷ 1 ∷ 0 ∷ 1 ∷ 0 ∷ 0 ∷ 0
    ∷ 1 ∷ 0 ∷ 2 ∷ 0 ∷ 0 ∷ 0 ∷ 0 ∷ 0
    ∷ 2 ∷ 0 ∷ 3 ∷ 0 ∷ 0 ∷ 0 ∷ 0 ∷ 0
    ∷ 3 ∷ 0 ∷ 0 ∷ 0 ∷ 1 ∷ 0 ∷ 0 ∷ 0
    ∷ []

ring_bytes_lem : ring ≡ ring_bytes
ring_bytes_lem = refl
