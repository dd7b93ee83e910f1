-- Rounds over all wires: after k of them a row is ahead of every path of at most k wires, so n rounds give the table's row.
-- Assumes nothing.
use Rattle.std.specs.Prelude.{◌≡◌, refl, cond, ◌⊎◌, List, [], ◌∷◌, ℕ, zero, suc, ◌+◌, ◌*◌, ◌≤◌, ◌<◌, eqb, length}
use Rattle.std.proofs.Common.{inl, inr, arith, add-zero, eq-eqb, ne_eqb, length-append}
use Rattle.std.proofs.Math.Decide.{ℕ_discrete}
use Rattle.paths.proofs.Way.{way_start}
use Rattle.sheet.specs.Core.{Shape}
use Rattle.paths.specs.Path.{Joins, registers_on, delay_on}
use Rattle.paths.specs.Lists.{held}
use Rattle.paths.specs.Table.{LoopAt, Way, Entry, best, none}
use Rattle.tables.specs.Row.{base_w, base_d, Row, Round}
use Rattle.paths.specs.Laws.Path.{joins_end_lt, joins_ends, registers_snoc, Between, Last, nil, snoc, last}
use Rattle.paths.proofs.Delays.{delay_snoc}
use Rattle.tables.specs.Order.{Ahead, fewer}
use Rattle.tables.specs.Laws.Ahead.{ahead_registers, ahead_delay, ahead_refl, ahead_trans, ahead_add, ahead_as}
use Rattle.paths.specs.Laws.Simple.{Loop, passed, simple_or_loop, simple_short, cut, cut_joins, cut_fewer, shorten}
use Rattle.paths.specs.Distinct.{NoDup}

-- ---- where a wire starts, by cases
module _ (u f x y : ℕ) where
  pub base_start : f ≡ u → cond (eqb f u) x y ≡ x
  base_start e = rw (eq-eqb f u e)

  pub base_other : (f ≡ u → ⊥) → cond (eqb f u) x y ≡ y
  base_other e = rw (ne_eqb f u e)

module _ (s : Shape) (w : ℕ → ℕ) (u : ℕ) where
  -- ---- the base of a wire is a path of the row
  module _ (k : ℕ) (ws ds : List ℕ) (row : Row s w u k ws ds) (u_lt : u < s.n) (f : ℕ) (f_lt : f < s.n) where
    abbrev near : Type 0
    near = base_w u (held ws) f < 4294967295

    pub base_way : near → Dec (f ≡ u) → Way s w u f (base_w u (held ws) f) (base_d s u (held ds) f)
    base_way h (yes e) = rw (base_start u f 0 (held ws f) e, base_start u f (s.delay u) (held ds f) e, e) (way_start s w u u_lt)
    base_way h (no e) =
        rw (base_other u f 0 (held ws f) e, base_other u f (s.delay u) (held ds f) e)
        (row.real f f_lt (rw (base_other u f 0 (held ws f) e) at h))

    pub base_few : near → Dec (f ≡ u) → base_w u (held ws) f ≤ 2000 * k
    base_few h (yes e) = rw (base_start u f 0 (held ws f) e) (omega arith)
    base_few h (no e) = rw (base_other u f 0 (held ws f) e) (row.few f f_lt (rw (base_other u f 0 (held ws f) e) at h))

    pub base_small : s.delay u ≤ 10000 → Dec (f ≡ u) → base_d s u (held ds) f ≤ 10000 * (k + 1)
    base_small h (yes e) = rw (base_start u f (s.delay u) (held ds f) e) (omega arith)
    base_small h (no e) = rw (base_other u f (s.delay u) (held ds f) e) (row.small f f_lt)

  -- a row ahead of another offers what is ahead
  pub base_ahead : (W D W' D' : ℕ → ℕ) (f : ℕ) → Ahead (W' f) (D' f) (W f) (D f) → Dec (f ≡ u) → Ahead (base_w u W' f) (base_d s u D' f) (base_w u W f) (base_d s u D f)
  base_ahead W D W' D' f a (yes e) =
      rw (base_start u f 0 (W f) e, base_start u f (s.delay u) (D f) e, base_start u f 0 (W' f) e, base_start u f (s.delay u) (D' f) e) (ahead_refl _ _)
  base_ahead W D W' D' f a (no e) =
      rw (base_other u f 0 (W f) e, base_other u f (s.delay u) (D f) e, base_other u f 0 (W' f) e, base_other u f (s.delay u) (D' f) e) a

-- ---- the row is ahead of every path of at most k wires
pub record Covers (s : Shape) (w : ℕ → ℕ) (u k : ℕ) (W D : ℕ → ℕ) : Type 0 where
  pub ahead : (ws : List ℕ) (v : ℕ) → Joins s u ws v → length ws ≤ k → Ahead (W v) (D v) (registers_on w ws) (delay_on s u ws)

module _ (s : Shape) (w : ℕ → ℕ) (u : ℕ) (free : (b : ℕ) → LoopAt s w b → ⊥) (few : (j : ℕ) → j < s.m → w j ≤ 2000) where
  registers_few : (x : ℕ) (ws : List ℕ) (v : ℕ) → Joins s x ws v → registers_on w ws ≤ 2000 * length ws
  registers_few x [] v h = omega arith
  registers_few x (j ∷ ws) v h = omega (arith, few j h.1, registers_few (s.to j) ws v h.4)

  pub covers_start : (W D : ℕ → ℕ) → Ahead (W u) (D u) 0 (s.delay u) → Covers s w u 0 W D
  covers_start W D a = record { ahead = go }
    where
      go : (ws : List ℕ) (v : ℕ) → Joins s u ws v → length ws ≤ 0 → Ahead (W v) (D v) (registers_on w ws) (delay_on s u ws)
      go [] v h l = rw (← h.1) a
      go (j ∷ ws) v h l = absurd (omega arith)

  -- a path that comes back to the start before its last wire has a register more than that wire alone
  closed_more : (xs : List ℕ) (f j : ℕ) → Joins s u xs f → f ≡ u → Between s xs f (j ∷ []) → (W D : ℕ)
      → Ahead W D (w j) (s.delay u + s.delay (s.to j)) → Ahead W D (registers_on w xs + w j) (delay_on s u xs + s.delay (s.to j))
  closed_more [] f j h e p W D a = ahead_as _ _ (omega arith) refl a
  closed_more (i ∷ xs) f j h e p W D a =
      elim (ℕ_discrete (registers_on w (i ∷ xs)) 0) [
        | yes z ↦ absurd (free u (record { wire = i; wires = xs; joins = rw e at h; free = z; passes = rw e at p }))
        | no z ↦ fewer (omega (arith, ahead_registers a))
      ]

  module _ (k : ℕ) (k_le : k ≤ 64) (W D W' D' : ℕ → ℕ) (c : Covers s w u k W D) (o : Round s w u s.m W D W' D') where
    -- the last wire from the start, and from any other block
    last_start : (xs : List ℕ) (j : ℕ) → Joins s u xs (s.from j) → j < s.m → Between s xs (s.from j) (j ∷ []) → s.from j ≡ u
        → Ahead (W' (s.to j)) (D' (s.to j)) (registers_on w xs + w j) (delay_on s u xs + s.delay (s.to j))
    last_start xs j h l p e =
        let q : base_w u W (s.from j) ≡ 0 = base_start u (s.from j) 0 (W (s.from j)) e in
        let r : base_d s u D (s.from j) ≡ s.delay u = base_start u (s.from j) (s.delay u) (D (s.from j)) e in
        closed_more xs (s.from j) j h e p (W' (s.to j)) (D' (s.to j))
        (ahead_as (w j) (s.delay u + s.delay (s.to j)) (omega arith) (omega arith) (o.wire j l (omega arith)))

    last_other : (xs : List ℕ) (j : ℕ) → Joins s u xs (s.from j) → j < s.m → length xs ≤ k → (s.from j ≡ u → ⊥)
        → Ahead (W' (s.to j)) (D' (s.to j)) (registers_on w xs + w j) (delay_on s u xs + s.delay (s.to j))
    last_other xs j h l n e =
        let q : base_w u W (s.from j) ≡ W (s.from j) = base_other u (s.from j) 0 (W (s.from j)) e in
        let r : base_d s u D (s.from j) ≡ D (s.from j) = base_other u (s.from j) (s.delay u) (D (s.from j)) e in
        let a = c.ahead xs (s.from j) h n in
        let b : base_w u W (s.from j) < 4294967295 = omega (arith, ahead_registers a, registers_few u xs (s.from j) h) in
        ahead_trans
        (ahead_as (W (s.from j) + w j) (D (s.from j) + s.delay (s.to j)) (omega arith) (omega arith) (o.wire j l b))
        (ahead_add (w j) (s.delay (s.to j)) _ _ _ _ a)

    next : (ws : List ℕ) (v : ℕ) → Joins s u ws v → length ws ≤ k + 1 → v < s.n → Last ws → Ahead (W' v) (D' v) (registers_on w ws) (delay_on s u ws)
    next ws v h l b nil = ahead_trans (o.keeps v b) (c.ahead [] v h (omega arith))
    next ws v h l b (snoc xs j) =
        let q = joins_ends s u xs j v h in
        let n : length xs ≤ k = omega (arith, length-append xs (j ∷ [])) in
        let a : Ahead (W' (s.to j)) (D' (s.to j)) (registers_on w xs + w j) (delay_on s u xs + s.delay (s.to j)) =
        elim (ℕ_discrete (s.from j) u) [
          | yes e ↦ last_start xs j q.rest q.wire q.between e
          | no e ↦ last_other xs j q.rest q.wire n e
        ] in
        rw (← q.end) (ahead_as _ _ (registers_snoc w xs j) (delay_snoc s u xs j) a)

    pub covers_next : Covers s w u (k + 1) W' D'
    covers_next = record { ahead = λ ws v h l. next ws v h l (joins_end_lt s u ws v h) (last ws) }

  -- a round that changes nothing covers every path at once
  pub covers_still : (W D : ℕ → ℕ) → Round s w u s.m W D W D → (i k : ℕ) → i + k ≤ 64 → Covers s w u k W D → Covers s w u (k + i) W D
  covers_still W D o zero k l c = rw (add-zero k) c
  covers_still W D o (suc i) k l c =
      let q : k + 1 + i ≡ k + suc i = omega arith in
      rw q at (covers_still W D o i (k + 1) (omega arith) (covers_next k (omega arith) W D W D c o))

  -- ---- what is ahead of all short paths is ahead of all
  all_ahead : (W D v : ℕ) → ((ws : List ℕ) → Joins s u ws v → length ws ≤ s.n → Ahead W D (registers_on w ws) (delay_on s u ws))
      → (ws : List ℕ) → Joins s u ws v → NoDup (passed s ws) ⊎ Loop s ws → Ahead W D (registers_on w ws) (delay_on s u ws)
  all_ahead W D v a ws h (inl d) = a ws h (simple_short s u ws v h d)
  all_ahead W D v a ws h (inr l) =
      let q = shorten s w u v (cut s w u v ws h l) (cut_joins s w u v ws h l) in
      fewer (omega (arith, ahead_registers (a q.wires q.joins q.short), q.fewer, cut_fewer s w u v ws h l free))

  module _ (n_le : s.n ≤ 64) (W D : ℕ → ℕ) (c : Covers s w u s.n W D) (v : ℕ) where
    ahead_of_all : (ws : List ℕ) → Joins s u ws v → Ahead (W v) (D v) (registers_on w ws) (delay_on s u ws)
    ahead_of_all ws h = all_ahead (W v) (D v) v (λ xs. c.ahead xs v) ws h (simple_or_loop s ws)

    reached : (ws : List ℕ) → Joins s u ws v → W v < 4294967295
    reached ws h =
        let q = shorten s w u v ws h in
        omega (arith, ahead_registers (ahead_of_all q.wires q.joins), registers_few u q.wires v q.joins, q.short)

    pub covered_entry : (W v < 4294967295 → Way s w u v (W v) (D v)) → (W v < 4294967295) ⊎ ((W v ≡ 4294967295) × (D v ≡ 0)) → Entry s w u v (W v) (D v)
    covered_entry real (inl h) = best (record {
      way = real h;
      small = h;
      fewest = λ ws k. ahead_registers (ahead_of_all ws k);
      longest = λ ws k e. ahead_delay (ahead_of_all ws k) e;
    })
    covered_entry real (inr h) = none (λ ws k. omega (arith, reached ws k)) h.0 h.1
