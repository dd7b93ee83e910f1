-- Paths that pass the test of a table are its best.
-- Assumes nothing.
use Rattle.std.specs.Prelude.{◌≡◌, refl, Bool, true, false, ◌&&◌, cond, List, [], ◌∷◌, ℕ, ◌+◌, ◌<◌, T, eqb, ltb, leb}
use Rattle.std.proofs.Common.{sym, ap, subst, arith, leb→le, ltb→lt, eqb→eq}
use Rattle.std.specs.Float.Ieee.Bits.{is_true}
use Rattle.std.specs.Float.Ieee.Fits.{and_l, and_r}
use Rattle.sheet.specs.Core.{Core}
use Rattle.paths.specs.Path.{Joins, registers_on, delay_on, end_of}
use Rattle.paths.specs.Table.{Best}
use Rattle.tables.specs.Order.{Ahead, fewer, level}
use Rattle.tables.specs.Laws.Ahead.{ahead_registers, ahead_delay, ahead_refl, ahead_trans, ahead_add, ahead_as}
use Rattle.loops.specs.Test.{joins_test}
use Rattle.loops.proofs.Tested.{joins_sound}
use Rattle.sums.specs.Test.{every, ahead_test, registers_to, delay_to, path_tests, still_test, row_tests, table_test}
use Rattle.sums.specs.Laws.Finite.{each, all_below_lem}

ahead_told : (W D W' D' : ℕ) → T (ahead_test W D W' D') → Ahead W D W' D'
ahead_told W D W' D' t = go (ltb W W') refl t
  where
    go : (b : Bool) → ltb W W' ≡ b → T (cond b true (eqb W W' && leb D' D)) → Ahead W D W' D'
    go true e u = fewer (ltb→lt W W' (subst T (sym e) tt))
    go false e u = level (eqb→eq W W' (and_l (eqb W W') (leb D' D) u)) (leb→le D' D (and_r (eqb W W') (leb D' D) u))

-- a delay more or less on both sides
ahead_shift : (a b W D W' D' D₂ D₂' : ℕ) → Ahead W D W' D' → D + b ≡ D₂ + a → D' + b ≡ D₂' + a → Ahead W D₂ W' D₂'
ahead_shift a b W D W' D' D₂ D₂' (fewer h) e f = fewer h
ahead_shift a b W D W' D' D₂ D₂' (level e' l) e f = level e' (omega arith)

module _ (c : Core) (P : ℕ → ℕ → List ℕ) (t : T (table_test c P)) where
  module _ (u : ℕ) (u_lt : u < c.shape.n) where
    abbrev W : ℕ → ℕ
    W v = registers_to c P u v

    abbrev D : ℕ → ℕ
    D v = delay_to c P u v

    tests : T (every (row_tests c P u))
    tests = all_below_lem c.shape.n (λ (u : ℕ). every (row_tests c P u)) t u u_lt

    start : (W u ≡ 0) × (D u ≡ c.shape.delay u)
    start = let h = each (row_tests c P u) tests in (eqb→eq (W u) 0 h.0, eqb→eq (D u) (c.shape.delay u) h.1.0)

    pub leads : (v : ℕ) → v < c.shape.n → Joins c.shape u (P u v) v × (W v < 4294967295)
    leads v k =
        let h = each (row_tests c P u) tests in
        let p = each (path_tests c P u v) (all_below_lem c.shape.n (λ (v : ℕ). every (path_tests c P u v)) h.1.1.0 v k) in
        let j = joins_sound c.shape u (P u v) (is_true (joins_test c.shape u (P u v)) p.0) in
        (subst (Joins c.shape u (P u v)) (eqb→eq (end_of c.shape u (P u v)) v p.1.0) j, ltb→lt (W v) 4294967295 p.1.1.0)

    still : (j : ℕ) → j < c.shape.m → Ahead (W (c.shape.to j)) (D (c.shape.to j)) (W (c.shape.from j) + c.registers j) (D (c.shape.from j) + c.shape.delay (c.shape.to j))
    still j k = let h = each (row_tests c P u) tests in ahead_told _ _ _ _ (all_below_lem c.shape.m (still_test c P u) h.1.1.1.0 j k)

    -- no path that goes on from an entry is ahead of the entry where it ends
    goes_on : (x : ℕ) (ws : List ℕ) (v : ℕ) → Joins c.shape x ws v
        → Ahead (W v) (D v + c.shape.delay x) (W x + registers_on c.registers ws) (D x + delay_on c.shape x ws)
    goes_on x [] v h = ahead_as _ _ (omega (arith, ap W h.1)) (omega (arith, ap D h.1)) (ahead_refl (W v) (D v + c.shape.delay x))
    goes_on x (j ∷ ws) v h =
        let y = c.shape.to j in
        let R = registers_on c.registers ws in
        let E = delay_on c.shape y ws in
        let one = ahead_add R E _ _ _ _ (still j h.1) in
        let all = ahead_trans (goes_on y ws v h.4) one in
        ahead_as _ _ (omega (arith, ap W h.2)) (omega (arith, ap D h.2))
        (ahead_shift (c.shape.delay y) (c.shape.delay x) _ _ _ _ (D v + c.shape.delay x) (D (c.shape.from j) + E + c.shape.delay x) all (omega arith) (omega arith))

    ahead_of_all : (ws : List ℕ) (v : ℕ) → Joins c.shape u ws v → Ahead (W v) (D v) (registers_on c.registers ws) (delay_on c.shape u ws)
    ahead_of_all ws v h =
        ahead_as _ _ (omega (arith, start)) refl
        (ahead_shift (c.shape.delay u) 0 _ _ _ _ (D v) (delay_on c.shape u ws) (goes_on u ws v h) (omega arith) (omega (arith, start)))

    pub table_told : (v : ℕ) → v < c.shape.n → Best c.shape c.registers u v (W v) (D v)
    table_told v k = record {
      way = record { wires = P u v; joins = (leads v k).0; registers_is = refl; delay_is = refl };
      small = (leads v k).1;
      fewest = λ ws h. ahead_registers (ahead_of_all ws v h);
      longest = λ ws h e. ahead_delay (ahead_of_all ws v h) e;
    }
