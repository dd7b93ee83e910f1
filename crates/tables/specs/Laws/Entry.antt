-- The table's entries: they are unique, they exist, a best path is short and is completed wire by wire from its end.
-- Assumes nothing.
use Rattle.std.specs.Prelude.{◌≡◌, refl, Bool, true, false, ◌||◌, ◌⊎◌, List, [], ◌∷◌, ◌++◌, ℕ, zero, suc, ◌+◌, ◌*◌, ◌≤◌, ◌<◌, length, get_or, set, replicate}
use Rattle.std.proofs.Common.{sym, ap, ◌∙◌, inl, inr, append_assoc, arith, add-one}
use Rattle.std.proofs.Math.Decide.{ℕ_discrete, dec_lt}
use Rattle.std.proofs.lemmas.List.{length-replicate}
use Rattle.sheet.specs.Core.{Shape}
use Rattle.sheet.specs.Filled.{filled}
use Rattle.paths.specs.Path.{Passes, Joins, registers_on, delay_on, end_of}
use Rattle.paths.specs.Lists.{held}
use Rattle.paths.specs.Table.{LoopAt, Best, Entry, best, none}
use Rattle.tables.specs.Back.{Completed}
use Rattle.tables.specs.Row.{base_w, offer_w, offer_d, Row, Relaxed}
use Rattle.paths.specs.Laws.Path.{passes_all, joins_left, joins_right, joins_start_lt, joins_ends, joins_snoc, between_passes, registers_append, registers_snoc, Last, nil, snoc, last}
use Rattle.paths.proofs.Delays.{delay_snoc}
use Rattle.paths.specs.Distinct.{NotIn, NoDup}
use Rattle.paths.specs.Laws.Pigeons.{pigeons}
use Rattle.tables.specs.Order.{Ahead}
use Rattle.tables.specs.Laws.Ahead.{ahead_or}
use Rattle.paths.specs.Laws.Simple.{passed, passed_below, length_passed, Leads, leads, Loop, simple_or_loop, cut_joins, cut_fewer, cut}
use Rattle.paths.proofs.Way.{Limits}
use Rattle.tables.specs.Laws.Relax.{Part, part_start, part_next, part_end}
use Rattle.tables.specs.Laws.Filling.{Filling, filling_start, filling_turn, filling_ends}

module _ (s : Shape) (w : ℕ → ℕ) where
  -- ---- one entry for a pair
  module _ (u v W D W' D' : ℕ) where
    best_registers : Best s w u v W D → Best s w u v W' D' → W ≡ W'
    best_registers a b =
        omega (
          arith,
          a.fewest b.way.wires b.way.joins,
          b.way.registers_is,
          b.fewest a.way.wires a.way.joins,
          a.way.registers_is,
        )

    best_delay : Best s w u v W D → Best s w u v W' D' → D ≡ D'
    best_delay a b =
        let e = best_registers a b in
        omega (
          arith,
          a.longest b.way.wires b.way.joins (b.way.registers_is ∙ sym e),
          b.way.delay_is,
          b.longest a.way.wires a.way.joins (a.way.registers_is ∙ e),
          a.way.delay_is,
        )

    pub entry_unique : Entry s w u v W D → Entry s w u v W' D' → (W ≡ W') × (D ≡ D')
    entry_unique (best a) (best b) = (best_registers a b, best_delay a b)
    entry_unique (best a) (none f p q) = absurd (f a.way.wires a.way.joins)
    entry_unique (none f p q) (best b) = absurd (f b.way.wires b.way.joins)
    entry_unique (none f p q) (none g p' q') = omega arith

  module _ (free : (b : ℕ) → LoopAt s w b → ⊥) where
    -- ---- a closed path through a block that may be passed has a register
    pub closed_registers : (b j : ℕ) (ws : List ℕ) → Passes s b → Joins s b (j ∷ ws) b → 0 < registers_on w (j ∷ ws)
    closed_registers b j ws p h =
        elim (ℕ_discrete (registers_on w (j ∷ ws)) 0) [
          | yes z ↦ absurd (free b (record { wire = j; wires = ws; joins = h; free = z; passes = p }))
          | no z ↦ omega arith
        ]

    -- 01: "For u = v this is 0 and u's own delay."
    pub entry_self : (u : ℕ) → u < s.n → Passes s u → Entry s w u u 0 (s.delay u)
    entry_self u h p = best (record {
      way = record { wires = []; joins = (h, refl); registers_is = refl; delay_is = refl };
      small = omega arith;
      fewest = λ ws k. omega arith;
      longest = longest;
    })
      where
        longest : (ws : List ℕ) → Joins s u ws u → registers_on w ws ≡ 0 → delay_on s u ws ≤ s.delay u
        longest [] k z = omega arith
        longest (j ∷ ws) k z = absurd (free u (record { wire = j; wires = ws; joins = k; free = z; passes = p }))

    -- ---- a path with the fewest registers passes no block twice
    module _ (u v : ℕ) (ws : List ℕ) (h : Joins s u ws v) (least : (xs : List ℕ) → Joins s u xs v → registers_on w ws ≤ registers_on w xs) where
      -- back at the start: what follows is a path with fewer registers
      not_back : Leads s u ws → ⊥
      not_back p =
          let e : ws ≡ (p.before ++ (p.wire ∷ [])) ++ p.after = p.parts ∙ sym (append_assoc p.before (p.wire ∷ []) p.after) in
          let whole : Joins s u ((p.before ++ (p.wire ∷ [])) ++ p.after) v = rw e at h in
          let l = joins_left s u (p.before ++ (p.wire ∷ [])) p.after v whole in
          let q = joins_ends s u p.before p.wire _ l in
          let back : end_of s u (p.before ++ (p.wire ∷ [])) ≡ u = sym q.end ∙ p.here in
          let rest : Joins s u p.after v = rw back at (joins_right s u (p.before ++ (p.wire ∷ [])) p.after v whole) in
          omega (
            arith,
            least p.after rest,
            ap (registers_on w) e,
            registers_append w (p.before ++ (p.wire ∷ [])) p.after,
            round p.before p.wire (rw back at l),
          )
        where
          round : (xs : List ℕ) (j : ℕ) → Joins s u (xs ++ (j ∷ [])) u → 0 < registers_on w (xs ++ (j ∷ []))
          round [] j k = closed_registers u j [] (passes_all s u) k
          round (i ∷ xs) j k = closed_registers u i (xs ++ (j ∷ [])) (passes_all s u) k

      no_loop : Loop s ws → ⊥
      no_loop l = omega (arith, least (cut s w u v ws h l) (cut_joins s w u v ws h l), cut_fewer s w u v ws h l free)

      -- fewer than n wires
      pub fewest_short : length ws < s.n
      fewest_short = go (simple_or_loop s ws) (leads s u ws)
        where
          go : NoDup (passed s ws) ⊎ Loop s ws → NotIn u (passed s ws) ⊎ Leads s u ws → length ws < s.n
          go (inr l) p = absurd (no_loop l)
          go (inl d) (inr p) = absurd (not_back p)
          go (inl d) (inl p) =
              omega (arith, length_passed s ws, pigeons s.n (u ∷ passed s ws) (p, d) (joins_start_lt s u ws v h, passed_below s u ws v h))

    -- ---- the backward step: some wire into v completes what stands at its start, the bare start block or an entry
    module _ (u v W D : ℕ) (b : Best s w u v W D) (xs : List ℕ) (j : ℕ) (h : Joins s u (xs ++ (j ∷ [])) v)
        (W_is : registers_on w (xs ++ (j ∷ [])) ≡ W) (D_is : delay_on s u (xs ++ (j ∷ [])) ≡ D) where
      v_lt : s.to j < s.n
      v_lt = (joins_right s u xs (j ∷ []) v h).4.0

      W_parts : W ≡ registers_on w xs + w j
      W_parts = omega (arith, registers_snoc w xs j)

      D_parts : D ≡ delay_on s u xs + s.delay v
      D_parts = omega (arith, delay_snoc s u xs j, ap s.delay (joins_ends s u xs j v h).end)

      -- the wire alone is a path, so nothing with a register stands before it
      bare : (ys : List ℕ) → s.from j ≡ u → Joins s u ys (s.from j) → (ys ≡ xs) → (registers_on w ys ≡ 0) × (delay_on s u ys ≡ s.delay u)
      bare [] e k q = (refl, refl)
      bare (i ∷ ys) e k q =
          let r = joins_ends s u xs j v h in
          let passes : Passes s u = rw e at (rw (← q) at r.between) in
          absurd (omega (
            arith,
            closed_registers u i ys passes (rw e at k),
            b.fewest (j ∷ []) (joins_start_lt s u (i ∷ ys) (s.from j) k, r.wire, e, tt, (v_lt, r.end)),
            ap (registers_on w) q,
            W_parts,
          ))

      onward_passes : (ys : List ℕ) → (s.from j ≡ u → ⊥) → ys ≡ xs → Passes s (s.from j)
      onward_passes [] f q =
          let r = joins_ends s u xs j v h in
          let k : Joins s u [] (s.from j) = rw (← q) at r.rest in
          absurd (f (sym k.1))
      onward_passes (i ∷ ys) f q = let r = joins_ends s u xs j v h in rw (← q) at r.between

      onward : (s.from j ≡ u → ⊥) → Best s w u (s.from j) (registers_on w xs) (delay_on s u xs)
      onward f =
          let r = joins_ends s u xs j v h in
          let p : Passes s (s.from j) = onward_passes xs f refl in
          let more : (ys : List ℕ) → Joins s u ys (s.from j) → Joins s u (ys ++ (j ∷ [])) v
          = λ ys k. rw r.end at (joins_snoc s u ys (s.from j) j k r.wire refl v_lt (between_passes s ys (s.from j) (j ∷ []) p)) in
          record {
            way = record { wires = xs; joins = r.rest; registers_is = refl; delay_is = refl };
            small = omega (arith, b.small, W_parts);
            fewest = λ ys k. omega (arith, b.fewest (ys ++ (j ∷ [])) (more ys k), registers_snoc w ys j, W_parts);
            longest = λ ys k e.
                omega (
                  arith,
                  b.longest (ys ++ (j ∷ [])) (more ys k) (registers_snoc w ys j ∙ omega (arith, W_parts)),
                  delay_snoc s u ys j,
                  ap s.delay r.end,
                  D_parts,
                );
          }

      completes : Completed s w u v W D j
      completes =
          let r = joins_ends s u xs j v h in
          record {
            registers = registers_on w xs;
            delay = delay_on s u xs;
            wire_lt = r.wire;
            end = r.end;
            registers_is = W_parts;
            delay_is = D_parts;
            base = elim (ℕ_discrete (s.from j) u) [
              | yes e ↦ inl (e, (bare xs e r.rest refl).0, (bare xs e r.rest refl).1)
              | no e ↦ inr (e, onward e)
            ];
          }

    pub backward : (u v W D : ℕ) → Best s w u v W D → ((v ≡ u) × (W ≡ 0) × (D ≡ s.delay u) → ⊥) → (j : ℕ) × Completed s w u v W D j
    backward u v W D b far = go b.way.wires b.way.joins b.way.registers_is b.way.delay_is (last b.way.wires)
      where
        go : (ws : List ℕ) → Joins s u ws v → registers_on w ws ≡ W → delay_on s u ws ≡ D → Last ws → (j : ℕ) × Completed s w u v W D j
        go ws h p q nil = absurd (far (sym h.1, sym p, sym q))
        go ws h p q (snoc xs j) = (j, completes u v W D b xs j h p q)

-- ---- every pair of a sound core has an entry
module _ (s : Shape) (w : ℕ → ℕ) (g : Limits s w) (n_le : s.n ≤ 64) (m_le : s.m ≤ 256) (free : (b : ℕ) → LoopAt s w b → ⊥) (u : ℕ) (u_lt : u < s.n) where
  record Tried (j : ℕ) (ws ds : List ℕ) : Type 0 where
    ws' : List ℕ
    ds' : List ℕ
    better : Bool
    relaxed : Relaxed s w u j ws ds ws' ds' better

  tried : (j : ℕ) (ws ds : List ℕ) → Tried j ws ds
  tried j ws ds = go (dec_lt (base_w u (held ws) (s.from j)) 4294967295) (ahead_or (offer_w s w u (held ws) j) (offer_d s w u (held ds) j) (get_or ws (s.to j) 0) (get_or ds (s.to j) 0))
    where
      go : Dec (base_w u (held ws) (s.from j) < 4294967295)
          → Ahead (offer_w s w u (held ws) j) (offer_d s w u (held ds) j) (get_or ws (s.to j) 0) (get_or ds (s.to j) 0)
          ⊎ Ahead (get_or ws (s.to j) 0) (get_or ds (s.to j) 0) (offer_w s w u (held ws) j) (offer_d s w u (held ds) j)
          → Tried j ws ds
      go (no f) a = record { ws' = ws; ds' = ds; better = false; relaxed = (λ h. absurd (f h), refl, refl) }
      go (yes h) (inl a) = record {
        ws' = set ws (s.to j) (offer_w s w u (held ws) j);
        ds' = set ds (s.to j) (offer_d s w u (held ds) j);
        better = true;
        relaxed = (h, a, refl, refl);
      }
      go (yes h) (inr a) = record { ws' = ws; ds' = ds; better = false; relaxed = (λ _. a, refl, refl) }

  record Rounding (k j : ℕ) (ws₀ ds₀ : List ℕ) : Type 0 where
    ws : List ℕ
    ds : List ℕ
    improved : Bool
    part : Part s w u k j ws₀ ds₀ ws ds improved

  rounding : (k : ℕ) (ws₀ ds₀ : List ℕ) → Row s w u k ws₀ ds₀ → k ≤ 16128 → (j : ℕ) → j ≤ s.m → Rounding k j ws₀ ds₀
  rounding k ws₀ ds₀ r few zero l = record { ws = ws₀; ds = ds₀; improved = false; part = part_start s w u k ws₀ ds₀ g u_lt r }
  rounding k ws₀ ds₀ r few (suc j) l =
      let p = rounding k ws₀ ds₀ r few j (omega arith) in
      let t = tried j p.ws p.ds in
      next p t t.better t.relaxed
    where
      next : (p : Rounding k j ws₀ ds₀) (t : Tried j p.ws p.ds) (b : Bool) → Relaxed s w u j p.ws p.ds t.ws' t.ds' b → Rounding k (suc j) ws₀ ds₀
      next p t true x = record {
        ws = t.ws';
        ds = t.ds';
        improved = p.improved || true;
        part = rw add-one at (part_next s w u k ws₀ ds₀ g u_lt j p.ws p.ds t.ws' t.ds' p.improved p.part l (omega arith) true x);
      }
      next p t false x = record {
        ws = t.ws';
        ds = t.ds';
        improved = p.improved || false;
        part = rw add-one at (part_next s w u k ws₀ ds₀ g u_lt j p.ws p.ds t.ws' t.ds' p.improved p.part l (omega arith) false x);
      }

  record Rowing (done : ℕ) : Type 0 where
    ws : List ℕ
    ds : List ℕ
    filling : Filling s w u done ws ds

  rowing_start : Rowing 0
  rowing_start = record {
    ws = set (filled (λ _. 4294967295) s.n (replicate s.n 0)) u 0;
    ds = set (filled (λ _. 0) s.n (replicate s.n 0)) u (s.delay u);
    filling = filling_start s w u g u_lt free n_le (replicate s.n 0) (replicate s.n 0) _ _ (s.delay u) (length-replicate {A = ℕ} s.n 0) (length-replicate {A = ℕ} s.n 0) refl refl refl;
  }

  rowing_next : (done : ℕ) → done < s.n → Rowing done → Rowing (suc done)
  rowing_next done l p =
      let q = rounding (256 * done) p.ws p.ds p.filling.row (omega arith) s.m (omega arith) in
      record {
        ws = q.ws;
        ds = q.ds;
        filling = rw add-one at (filling_turn s w u g u_lt free n_le done p.ws p.ds q.ws q.ds q.improved l p.filling (part_end s w u (256 * done) p.ws p.ds g u_lt q.ws q.ds s.m q.improved (omega arith) (omega arith) m_le q.part));
      }

  rowing : (done : ℕ) → done ≤ s.n → Rowing done
  rowing zero l = rowing_start
  rowing (suc done) l = rowing_next done l (rowing done (omega arith))

  pub entries_exist : (v : ℕ) → v < s.n → (W : ℕ) × (D : ℕ) × Entry s w u v W D
  entries_exist v l =
      let p = rowing s.n (omega arith) in
      (get_or p.ws v 0, get_or p.ds v 0, (filling_ends s w u g u_lt free n_le s.n p.ws p.ds (omega arith) (omega arith) p.filling).entry v l)
