-- A wire that completes an entry by its numbers leads back from a best entry, and a path found backward is short.
-- Assumes nothing.
use Rattle.std.specs.Prelude.{◌≡◌, refl, ◌⊎◌, List, [], ◌∷◌, ◌++◌, ℕ, suc, ◌+◌, ◌<◌, length, set, drop}
use Rattle.std.proofs.Common.{sym, ap, ◌∙◌, subst, inl, inr, arith, length-append, length-drop, length-set, drop_of_length-le, drop-cons, get_or-set_same, drop-set-lt}
use Rattle.std.proofs.Math.Decide.{ℕ_discrete}
use Rattle.sheet.specs.Core.{Shape, wires_in, delay_in, from_in, registers_in, shape_of}
use Rattle.sheet.specs.Reads.{WireIs}
use Rattle.paths.specs.Path.{Joins, registers_on, delay_on}
use Rattle.paths.specs.Table.{LoopAt, Best, Entry, best, none}
use Rattle.paths.specs.Laws.Path.{passes_all, joins_append, joins_start_lt, joins_end_lt, between_passes, registers_append}
use Rattle.tables.specs.Back.{Completed}
use Rattle.tables.specs.Laws.Entry.{entry_unique, fewest_short, backward}
use Rattle.solver.specs.declared.Given.{Given}
use Rattle.witness.specs.Trace.{registers_at, delay_at, Tabled, Based, NoneBefore, Apart, Traced, Suffix, Tracing}

module _ (s : Shape) (w : ℕ → ℕ) where
  pub entry_best : (u v W D : ℕ) → Entry s w u v W D → W < 4294967295 → Best s w u v W D
  entry_best u v W D (best b) h = b
  entry_best u v W D (none f p q) h = absurd (omega arith)

  module _ (free : (b : ℕ) → LoopAt s w b → ⊥) (u v W D : ℕ) where
    -- a path with these numbers is short
    path_short : Best s w u v W D → (ws : List ℕ) → Joins s u ws v → registers_on w ws ≡ W → length ws < s.n
    path_short b ws h e = fewest_short s w free u v ws h (λ xs k. omega (arith, b.fewest xs k))

    module _ (b Wb Db : ℕ) (ws : List ℕ) (h : Suffix s w u v W D b Wb Db ws) where
      pub suffix_short : length ws < s.n
      suffix_short =
          let xs = h.front.way.wires in
          let k = joins_append s u xs b ws v h.front.way.joins h.joins (between_passes s xs b ws (passes_all s b)) in
          omega (
            arith,
            length-append xs ws,
            path_short h.whole (xs ++ ws) k (omega (arith, registers_append w xs ws, h.front.way.registers_is, h.registers_is)),
          )

      module _ (j : ℕ) (c : Completed s w u b Wb Db j) where
        from_within : ((s.from j ≡ u) × (c.registers ≡ 0) × (c.delay ≡ s.delay u)) ⊎ ((s.from j ≡ u → ⊥) × Best s w u (s.from j) c.registers c.delay) → s.from j < s.n
        from_within (inl q) = rw q.0 (joins_start_lt s u h.front.way.wires b h.front.way.joins)
        from_within (inr q) = joins_end_lt s u q.1.way.wires (s.from j) q.1.way.joins

        joins_before : Joins s (s.from j) (j ∷ ws) v
        joins_before = (from_within c.base, c.wire_lt, refl, between_passes s (j ∷ []) (s.to j) ws (passes_all s (s.to j)), rw c.end h.joins)

        delay_before : delay_on s (s.to j) ws ≡ delay_on s b ws
        delay_before = ap (λ (x : ℕ). delay_on s x ws) c.end

        pub suffix_next : (W' D' : ℕ) → (s.from j ≡ u → ⊥) → Entry s w u (s.from j) W' D' → Suffix s w u v W D (s.from j) W' D' (j ∷ ws)
        suffix_next W' D' f e = go c.base
          where
            go : ((s.from j ≡ u) × (c.registers ≡ 0) × (c.delay ≡ s.delay u)) ⊎ ((s.from j ≡ u → ⊥) × Best s w u (s.from j) c.registers c.delay) → Suffix s w u v W D (s.from j) W' D' (j ∷ ws)
            go (inl q) = absurd (f q.0)
            go (inr q) =
                let same = entry_unique s w u (s.from j) W' D' c.registers c.delay e (best q.1) in
                record {
                  whole = h.whole;
                  front = rw (same.0, same.1) q.1;
                  joins = joins_before;
                  registers_is = omega (arith, same.0, c.registers_is, h.registers_is);
                  delay_is = omega (arith, same.1, c.delay_is, h.delay_is, delay_before);
                }

        pub suffix_ends : s.from j ≡ u → Traced s w u v W D (j ∷ ws)
        suffix_ends e = go c.base
          where
            go : ((s.from j ≡ u) × (c.registers ≡ 0) × (c.delay ≡ s.delay u)) ⊎ ((s.from j ≡ u → ⊥) × Best s w u (s.from j) c.registers c.delay) → Traced s w u v W D (j ∷ ws)
            go (inr q) = absurd (q.0 e)
            go (inl q) =
                let k : Joins s u (j ∷ ws) v = subst (λ (x : ℕ). Joins s x (j ∷ ws) v) e joins_before in
                let r : registers_on w (j ∷ ws) ≡ W = omega (arith, q.1, c.registers_is, h.registers_is) in
                record {
                  joins = k;
                  registers_is = r;
                  delay_is = omega (arith, q.2, c.delay_is, h.delay_is, delay_before);
                  short = path_short h.whole (j ∷ ws) k r;
                }

  -- ---- a search for the first wire that completes
  pub search_start : (u v W D : ℕ) → NoneBefore s w u v W D 0
  search_start u v W D i c = omega arith

  module _ (u v W D j : ℕ) (h : NoneBefore s w u v W D j) where
    pub search_on : (Completed s w u v W D j → ⊥) → NoneBefore s w u v W D (j + 1)
    search_on bad i c = elim (ℕ_discrete j i) [ yes e ↦ absurd (bad (rw e c)) | no e ↦ omega (arith, h i c) ]

    pub search_short : (free : (b : ℕ) → LoopAt s w b → ⊥) → Best s w u v W D → Apart s w u v W D → j < s.m
    search_short free b far = let q = backward s w free u v W D b far in omega (arith, h q.0 q.1, q.1.wire_lt)

-- ---- on a sheet, by the numbers that code holds
module _ (s : List ℕ) (g : Given) (t : Tabled s g) where
  pub entry_of : (u v : ℕ) → u < g.n → v < g.n → Entry (shape_of s) (registers_in s) u v (registers_at g u v) (delay_at g u v)
  entry_of u v k l = rw t.n_is (t.table u v (omega (arith, t.n_is)) (omega (arith, t.n_is)))

  pub best_of : (u v : ℕ) → u < g.n → v < g.n → registers_at g u v < 4294967295 → Best (shape_of s) (registers_in s) u v (registers_at g u v) (delay_at g u v)
  best_of u v k l h = entry_best (shape_of s) (registers_in s) u v _ _ (entry_of u v k l) h

  -- ---- the wires found, in path order
  module _ (u v : ℕ) (k : u < g.n) (l : v < g.n) where
    pub tracing_start : (wires : List ℕ) → length wires ≡ 64 → registers_at g u v < 4294967295 → Apart (shape_of s) (registers_in s) u v (registers_at g u v) (delay_at g u v)
        → Tracing s g u v v 64 wires
    tracing_start wires e small far =
        let b = best_of u v k l small in
        record {
          inside = l;
          place = omega arith;
          long = e;
          apart = far;
          suffix =
              rw (drop_of_length-le wires {i = 64} (omega arith))
              (record { whole = b; front = b; joins = (omega (arith, t.n_is), refl); registers_is = omega arith; delay_is = omega arith });
        }

    module _ (b at : ℕ) (wires : List ℕ) (h : Tracing s g u v b at wires) where
      pub tracing_room : 0 < at
      tracing_room =
          omega (
            arith,
            h.place,
            h.long,
            t.sound.formed.framed.few_blocks,
            length-drop at wires,
            suffix_short (shape_of s) (registers_in s) t.sound.free u v _ _ b _ _ (drop at wires) h.suffix,
          )

      module _ (j : ℕ) (c : Completed (shape_of s) (registers_in s) u b (registers_at g u b) (delay_at g u b) j) (at' : ℕ) (e : at' + 1 ≡ at) where
        stored : drop at' (set wires at' j) ≡ j ∷ drop at wires
        stored =
            let i : at' < length wires = omega (arith, h.place, h.long) in
            let q : suc at' ≡ at = omega arith in
            drop-cons (set wires at' j) at' 0 (rw length-set i)
            ∙ ap (λ (x : ℕ). x ∷ drop (suc at') (set wires at' j)) (get_or-set_same wires at' j 0 i)
            ∙ ap (λ (xs : List ℕ). j ∷ xs) (drop-set-lt (suc at') wires at' j (omega arith))
            ∙ ap (λ (x : ℕ). j ∷ drop x wires) q

        module _ (b' : ℕ) (q : b' ≡ from_in s j) where
          pub tracing_next : b' < g.n → (b' ≡ u → ⊥) → Tracing s g u v b' at' (set wires at' j)
          tracing_next i f = record {
            inside = i;
            place = omega (arith, h.place);
            long = length-set wires at' j ∙ h.long;
            apart = λ z. f z.0;
            suffix =
                rw (stored, q)
                (suffix_next (shape_of s) (registers_in s) t.sound.free u v _ _ b _ _ (drop at wires) h.suffix j c _ _ (λ z. f (q ∙ z)) (entry_of u (from_in s j) k (rw q at i)));
          }

          pub tracing_end : b' ≡ u → Traced (shape_of s) (registers_in s) u v (registers_at g u v) (delay_at g u v) (drop at' (set wires at' j))
          tracing_end z = rw stored (suffix_ends (shape_of s) (registers_in s) t.sound.free u v _ _ b _ _ (drop at wires) h.suffix j c (sym q ∙ z))

  module _ (u v W D j : ℕ) (f t' w : ℕ) (x : WireIs s j f t' w) where
    module _ (k : u < g.n) where
      from_entry : Entry (shape_of s) (registers_in s) u f (registers_at g u f) (delay_at g u f)
      from_entry = entry_of u f k (omega (arith, x.from_block, t.n_is))

      -- what stands at the wire's start, by its numbers
      module _ (bw : ℕ) (hw : Based 0 u f (registers_at g u f) bw) where
        start_registers : (W' D' : ℕ) → ((from_in s j ≡ u) × (W' ≡ 0) × (D' ≡ delay_in s u)) ⊎ ((from_in s j ≡ u → ⊥) × Best (shape_of s) (registers_in s) u (from_in s j) W' D') → W' ≡ bw
        start_registers W' D' (inl q) = q.1 ∙ sym (hw.0 (x.from_is ∙ q.0))
        start_registers W' D' (inr q) =
            (entry_unique (shape_of s) (registers_in s) u f W' D' _ _ (best (rw x.from_is q.1)) from_entry).0 ∙ sym (hw.1 (λ z. q.0 (sym x.from_is ∙ z)))

        pub other_registers : (W' : ℕ) → W' ≡ W → (W' ≡ bw + w → ⊥) → Completed (shape_of s) (registers_in s) u v W D j → ⊥
        other_registers W' e bad c = bad (omega (arith, c.registers_is, start_registers c.registers c.delay c.base, x.registers_is))

        module _ (bd : ℕ) (hd : Based (delay_in s u) u f (delay_at g u f) bd) where
          start_delay : (W' D' : ℕ) → ((from_in s j ≡ u) × (W' ≡ 0) × (D' ≡ delay_in s u)) ⊎ ((from_in s j ≡ u → ⊥) × Best (shape_of s) (registers_in s) u (from_in s j) W' D') → D' ≡ bd
          start_delay W' D' (inl q) = q.2 ∙ sym (hd.0 (x.from_is ∙ q.0))
          start_delay W' D' (inr q) =
              (entry_unique (shape_of s) (registers_in s) u f W' D' _ _ (best (rw x.from_is q.1)) from_entry).1 ∙ sym (hd.1 (λ z. q.0 (sym x.from_is ∙ z)))

          pub other_delay : (D' d : ℕ) → D' ≡ D → d ≡ delay_in s v → (D' ≡ bd + d → ⊥) → Completed (shape_of s) (registers_in s) u v W D j → ⊥
          other_delay D' d e z bad c = bad (omega (arith, c.delay_is, start_delay c.registers c.delay c.base))

          pub right_wire : (W' D' d : ℕ) → W' ≡ W → D' ≡ D → d ≡ delay_in s v → W < 4294967295 → j < wires_in s → t' ≡ v → W' ≡ bw + w → D' ≡ bd + d
              → Completed (shape_of s) (registers_in s) u v W D j
          right_wire W' D' d x₁ x₂ z small l e p q = record {
            registers = bw;
            delay = bd;
            wire_lt = l;
            end = sym x.to_is ∙ e;
            registers_is = omega (arith, x.registers_is);
            delay_is = omega arith;
            base = go (ℕ_discrete f u);
          }
            where
              go : Dec (f ≡ u) → ((from_in s j ≡ u) × (bw ≡ 0) × (bd ≡ delay_in s u)) ⊎ ((from_in s j ≡ u → ⊥) × Best (shape_of s) (registers_in s) u (from_in s j) bw bd)
              go (yes y) = inl (sym x.from_is ∙ y, hw.0 y, hd.0 y)
              go (no y) =
                  let b = entry_best (shape_of s) (registers_in s) u f _ _ from_entry (omega (arith, hw.1 y)) in
                  let b' : Best (shape_of s) (registers_in s) u f bw bd = rw (hw.1 y, hd.1 y) b in
                  inr (λ i. y (x.from_is ∙ i), subst (λ (z : ℕ). Best (shape_of s) (registers_in s) u z bw bd) x.from_is b')
