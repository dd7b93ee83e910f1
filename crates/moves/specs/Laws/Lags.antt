-- What a move does to paths, walks, entries and lags; all on cores, in integers.
-- Assumes nothing.
use Rattle.std.specs.Prelude.{◌≡◌, Bool, true, false, cond, List, [], ◌∷◌, ℕ, ◌+◌, ◌<◌, ℤ, pos, ◌+ℤ◌, ◌-ℤ◌}
use Rattle.std.proofs.Common.{ap, arith}
use Rattle.sheet.specs.Core.{Core}
use Rattle.sheet.specs.Integer.{up, down}
use Rattle.sheet.specs.Laws.Integer.{plus, minus, parts_eq}
use Rattle.paths.specs.Path.{Joins, registers_on, Step, step_to, Walks, walked}
use Rattle.paths.specs.Table.{LoopAt, Best}
use Rattle.moves.specs.Lags.{MovedTo}

-- ---- the move rule without subtraction
rule_parts : (w x : ℕ) (a b : ℤ) → pos x ≡ pos w +ℤ b -ℤ a → x + up a + down b ≡ w + up b + down a
rule_parts w x a b e = omega (arith, ap up e, ap down e, minus (pos w +ℤ b) a, plus (pos w) b)

parts_rule : (w x : ℕ) (a b : ℤ) → x + up a + down b ≡ w + up b + down a → pos x ≡ pos w +ℤ b -ℤ a
parts_rule w x a b e = parts_eq (pos x) (pos w +ℤ b -ℤ a) (omega (arith, minus (pos w +ℤ b) a, plus (pos w) b))

module _ (c : Core) (r : ℕ → ℤ) (x : ℕ → ℕ) (mv : MovedTo c r x) where
  wire_parts : (j : ℕ) → j < c.shape.m → x j + up (r (c.shape.from j)) + down (r (c.shape.to j)) ≡ c.registers j + up (r (c.shape.to j)) + down (r (c.shape.from j))
  wire_parts j h = rule_parts (c.registers j) (x j) (r (c.shape.from j)) (r (c.shape.to j)) (mv j h)

  -- a path's registers change by r(v) - r(u)
  pub telescope : (u : ℕ) (ws : List ℕ) (v : ℕ) → Joins c.shape u ws v
      → registers_on x ws + up (r u) + down (r v) ≡ registers_on c.registers ws + up (r v) + down (r u)
  telescope u [] v h = omega (arith, ap (λ (b : ℕ). up (r b)) h.1, ap (λ (b : ℕ). down (r b)) h.1)
  telescope u (j ∷ ws) v h =
      omega (
        arith,
        ap (λ (b : ℕ). up (r b)) h.2,
        ap (λ (b : ℕ). down (r b)) h.2,
        wire_parts j h.1,
        telescope (c.shape.to j) ws v h.4,
      )

  pub path_moved : (u : ℕ) (ws : List ℕ) (v : ℕ) → Joins c.shape u ws v → pos (registers_on x ws) ≡ pos (registers_on c.registers ws) +ℤ r v -ℤ r u
  path_moved u ws v h = parts_rule (registers_on c.registers ws) (registers_on x ws) (r u) (r v) (telescope u ws v h)

  -- ---- walks, wires taken backward counting negatively
  module _ (j u : ℕ) (X W : ℤ) (h : j < c.shape.m) where
    step_by : (b : Bool) → (y z : ℕ)
        → cond b (c.shape.to j) (c.shape.from j) ≡ u
        → up X + down W + up (r (cond b (c.shape.from j) (c.shape.to j))) + y ≡ up W + down X + z + down (r (cond b (c.shape.from j) (c.shape.to j)))
        → up (cond b (X -ℤ pos (x j)) (X +ℤ pos (x j))) + down (cond b (W -ℤ pos (c.registers j)) (W +ℤ pos (c.registers j))) + up (r u) + y
        ≡ up (cond b (W -ℤ pos (c.registers j)) (W +ℤ pos (c.registers j))) + down (cond b (X -ℤ pos (x j)) (X +ℤ pos (x j))) + z + down (r u)
    step_by true y z e k =
        omega (arith, minus X (pos (x j)), minus W (pos (c.registers j)), wire_parts j h, ap (λ (b : ℕ). up (r b)) e, ap (λ (b : ℕ). down (r b)) e)
    step_by false y z e k =
        omega (arith, plus X (pos (x j)), plus W (pos (c.registers j)), wire_parts j h, ap (λ (b : ℕ). up (r b)) e, ap (λ (b : ℕ). down (r b)) e)

  walk_parts : (u : ℕ) (xs : List Step) (v : ℕ) → Walks c.shape u xs v
      → up (walked x xs) + down (walked c.registers xs) + up (r u) + down (r v) ≡ up (walked c.registers xs) + down (walked x xs) + up (r v) + down (r u)
  walk_parts u [] v h = omega (arith, ap (λ (b : ℕ). up (r b)) h.1, ap (λ (b : ℕ). down (r b)) h.1)
  walk_parts u (s ∷ xs) v h =
      step_by s.wire u (walked x xs) (walked c.registers xs) h.1 s.backward (down (r v)) (up (r v)) h.2 (walk_parts (step_to c.shape s) xs v h.3)

  -- demand 2: "Every closed walk keeps its registers."
  pub closed_walk_kept : (u : ℕ) (xs : List Step) → Walks c.shape u xs u → walked x xs ≡ walked c.registers xs
  closed_walk_kept u xs h = parts_eq (walked x xs) (walked c.registers xs) (omega (arith, walk_parts u xs u h))

  -- ---- loops and entries, on the same shape with the moved registers
  pub loop_back : (b : ℕ) → LoopAt c.shape x b → LoopAt c.shape c.registers b
  loop_back b l = record {
    wire = l.wire;
    wires = l.wires;
    joins = l.joins;
    free = omega (arith, telescope b (l.wire ∷ l.wires) b l.joins, l.free);
    passes = l.passes;
  }

  module _ (u v W W' D : ℕ) (e : pos W' ≡ pos W +ℤ r v -ℤ r u) (small : W' < 4294967295) where
    e_parts : W' + up (r u) + down (r v) ≡ W + up (r v) + down (r u)
    e_parts = rule_parts W W' (r u) (r v) e

    pub best_moved : Best c.shape c.registers u v W D → Best c.shape x u v W' D
    best_moved b = record {
      way = record {
        wires = b.way.wires;
        joins = b.way.joins;
        registers_is = omega (arith, telescope u b.way.wires v b.way.joins, b.way.registers_is, e_parts);
        delay_is = b.way.delay_is;
      };
      small = small;
      fewest = λ ws h. omega (arith, telescope u ws v h, b.fewest ws h, e_parts);
      longest = λ ws h q. b.longest ws h (omega (arith, telescope u ws v h, e_parts));
    }
