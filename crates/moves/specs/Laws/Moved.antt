-- The moved core: it is sound, its table is the old one shifted, and a second move is one by the sum of both lags.
-- Assumes nothing.
use Rattle.std.specs.Prelude.{◌≡◌, refl, List, [], ◌∷◌, ℕ, ◌*◌, ◌≤◌, ◌<◌, ℤ, pos, negsuc, ◌+ℤ◌, ◌-ℤ◌, ◌≤ℤ◌, length}
use Rattle.std.proofs.Common.{sym, ap, ◌∙◌, arith}
use Rattle.sheet.specs.Core.{Core, Shape}
use Rattle.sheet.specs.Sheet.{Formed, BlockRule}
use Rattle.sheet.specs.Integer.{up, down}
use Rattle.sheet.specs.Laws.Integer.{plus, minus, le_parts, parts_le, parts_eq}
use Rattle.paths.specs.Path.{Joins, registers_on}
use Rattle.paths.specs.Table.{LoopAt, Entry, best, none, Sound}
use Rattle.paths.specs.Laws.Simple.{shorten}
use Rattle.paths.specs.Laws.Same.{SameWires, SameDelays, same_sym, joins_same, loop_same}
use Rattle.paths.proofs.Delays.{entry_same, delay_same}
use Rattle.moves.specs.Lags.{moved_by, InRange, Permitted, Meets, Moved}
use Rattle.moves.specs.Laws.Lags.{telescope, path_moved, loop_back, best_moved}

registers_few : (s : Shape) (x : ℕ → ℕ) → ((j : ℕ) → j < s.m → x j ≤ 2000) → (u : ℕ) (ws : List ℕ) (v : ℕ) → Joins s u ws v → registers_on x ws ≤ 2000 * length ws
registers_few s x few u [] v h = omega arith
registers_few s x few u (j ∷ ws) v h = omega (arith, few j h.1, registers_few s x few (s.to j) ws v h.4)

module _ (c c' : Core) (r : ℕ → ℤ) (mv : Moved c r c') where
  pub same_wires : SameWires c.shape c'.shape c'.registers c'.registers
  same_wires = record {
    n_is = sym mv.n_is;
    m_is = sym mv.m_is;
    from_is = λ j h. sym (mv.from_is j h);
    to_is = λ j h. sym (mv.to_is j h);
    w_is = λ j h. refl;
  }

  pub same_delays : SameDelays c.shape c'.shape
  same_delays b h = sym (mv.delay_is b h)

  -- ---- T8: no loop appears, and every entry is the old one with W + r(v) - r(u) and the same D
  pub loop_unmoved : (b : ℕ) → LoopAt c'.shape c'.registers b → LoopAt c.shape c.registers b
  loop_unmoved b l = loop_back c r c'.registers mv.registers_is b (loop_same (same_sym same_wires) b l)

  module _ (f : Formed c) (p : Permitted c r) (ceilings : (j : ℕ) → j < c.shape.m → c.ceiling j ≤ 2000) where
    moved_few : (j : ℕ) → j < c.shape.m → c'.registers j ≤ 2000
    moved_few j h =
        let q : pos (c'.registers j) ≤ℤ pos (c.ceiling j) = rw (mv.registers_is j h) (p.fits j h).1 in
        omega (arith, le_parts (pos (c'.registers j)) (pos (c.ceiling j)) q, ceilings j h)

    pub entry_moved : (u v W D : ℕ) → Entry c.shape c.registers u v W D
        → (W' : ℕ) × Entry c'.shape c'.registers u v W' D × ((ws : List ℕ) → Joins c.shape u ws v → pos W' ≡ pos W +ℤ r v -ℤ r u)
    entry_moved u v W D (best b) =
        let ws = b.way.wires in
        let W' : ℕ = registers_on c'.registers ws in
        let e : pos W' ≡ pos W +ℤ r v -ℤ r u =
        path_moved c r c'.registers mv.registers_is u ws v b.way.joins ∙ ap (λ (k : ℕ). pos k +ℤ r v -ℤ r u) b.way.registers_is in
        let t = telescope c r c'.registers mv.registers_is in
        let q = shorten c.shape c.registers u v ws b.way.joins in
        let small : W' < 4294967295 =
        omega (
          arith,
          t u ws v b.way.joins,
          t u q.wires v q.joins,
          b.fewest q.wires q.joins,
          b.way.registers_is,
          registers_few c.shape c'.registers moved_few u q.wires v q.joins,
          q.short,
          q.fewer,
          f.few_blocks,
        ) in
        (W', entry_same same_wires same_delays u v W' D (best (best_moved c r c'.registers mv.registers_is u v W W' D e small b)), λ xs h. e)
    entry_moved u v W D (none g p q) = (W, entry_same same_wires same_delays u v W D (none g p q), λ ws h. absurd (g ws h))

    -- the moved core is formed
    block_moved : (b : ℕ) → b < c.shape.n → BlockRule b (c'.shape.delay b) (c'.lower b) (c'.upper b)
    block_moved b h =
        let g = f.block b h in
        let i = p.in_range b h in
        let l = le_parts (c.lower b) (r b) i.0 in
        let u = le_parts (r b) (c.upper b) i.1 in
        let w = le_parts (c.upper b -ℤ c.lower b) (pos 1000) g.narrow in
        let d = minus (c.upper b) (c.lower b) in
        let lo = minus (c.lower b) (r b) in
        let hi = minus (c.upper b) (r b) in
        rw (mv.delay_is b h, mv.lower_is b h, mv.upper_is b h) (record {
          small = g.small;
          lower_limits = (parts_le (negsuc 999) (c.lower b -ℤ r b) (omega (arith, l, u, w, d, lo)), parts_le (c.lower b -ℤ r b) (pos 1000) (omega (arith, l, lo)));
          upper_limits = (parts_le (negsuc 999) (c.upper b -ℤ r b) (omega (arith, u, hi)), parts_le (c.upper b -ℤ r b) (pos 1000) (omega (arith, l, u, w, d, hi)));
          ordered = parts_le (c.lower b -ℤ r b) (c.upper b -ℤ r b) (omega (arith, l, u, lo, hi));
          narrow = parts_le ((c.upper b -ℤ r b) -ℤ (c.lower b -ℤ r b)) (pos 1000) (omega (arith, w, d, lo, hi, minus (c.upper b -ℤ r b) (c.lower b -ℤ r b)));
          host = λ z.
              let e = g.host z in
              let el = ap up e.1 in
              let dl = ap down e.1 in
              let eu = ap up e.2 in
              let du = ap down e.2 in (
                e.0,
                parts_eq (c.lower b -ℤ r b) (pos 0) (omega (arith, l, u, el, dl, eu, du, lo)),
                parts_eq (c.upper b -ℤ r b) (pos 0) (omega (arith, l, u, el, dl, eu, du, hi)),
              );
        })

    pub formed_moved : Formed c'
    formed_moved = record {
      some_block = omega (arith, f.some_block, mv.n_is);
      few_blocks = omega (arith, f.few_blocks, mv.n_is);
      few_wires = omega (arith, f.few_wires, mv.m_is);
      block = λ b h. block_moved b (omega (arith, mv.n_is));
      from_block = λ j h. let k : j < c.shape.m = omega (arith, mv.m_is) in omega (arith, mv.n_is, mv.from_is j k, f.from_block j k);
      to_block = λ j h. let k : j < c.shape.m = omega (arith, mv.m_is) in omega (arith, mv.n_is, mv.to_is j k, f.to_block j k);
      few = λ j h. moved_few j (omega (arith, mv.m_is));
    }

    pub sound_moved : Sound c → Sound c'
    sound_moved s = record { formed = formed_moved; no_loop = λ b l. s.no_loop b (loop_unmoved b l) }

  -- ---- T9: lags t on the moved core are lags r + t on the core
  module _ (f : Formed c) (t : ℕ → ℤ) where
    abbrev pub sum : ℕ → ℤ
    sum b = r b +ℤ t b

    pub moved_twice : (j : ℕ) → j < c.shape.m → moved_by c' t j ≡ moved_by c (λ b. r b +ℤ t b) j
    moved_twice j h =
        let x = c'.registers j in
        let w = c.registers j in
        let a = c.shape.from j in
        let b = c.shape.to j in
        let e = mv.registers_is j h in
        ap (λ (k : ℕ). pos x +ℤ t k -ℤ t (c'.shape.from j)) (mv.to_is j h)
        ∙ ap (λ (k : ℕ). pos x +ℤ t b -ℤ t k) (mv.from_is j h)
        ∙ parts_eq (pos x +ℤ t b -ℤ t a) (pos w +ℤ (r b +ℤ t b) -ℤ (r a +ℤ t a))
        (omega (
          arith,
          ap up e,
          ap down e,
          minus (pos w +ℤ r b) (r a),
          plus (pos w) (r b),
          minus (pos x +ℤ t b) (t a),
          plus (pos x) (t b),
          minus (pos w +ℤ (r b +ℤ t b)) (r a +ℤ t a),
          plus (pos w) (r b +ℤ t b),
          plus (r b) (t b),
          plus (r a) (t a),
        ))

    pub range_after : (b : ℕ) → b < c.shape.n → InRange c' t b → InRange c (λ k. r k +ℤ t k) b
    range_after b h i =
        let l : (c.lower b -ℤ r b) ≤ℤ t b = rw (mv.lower_is b h) at i.0 in
        let u : t b ≤ℤ (c.upper b -ℤ r b) = rw (mv.upper_is b h) at i.1 in (
          parts_le (c.lower b) (r b +ℤ t b) (omega (arith, le_parts (c.lower b -ℤ r b) (t b) l, minus (c.lower b) (r b), plus (r b) (t b))),
          parts_le (r b +ℤ t b) (c.upper b) (omega (arith, le_parts (t b) (c.upper b -ℤ r b) u, minus (c.upper b) (r b), plus (r b) (t b))),
        )

    range_before : (b : ℕ) → b < c.shape.n → InRange c (λ k. r k +ℤ t k) b → InRange c' t b
    range_before b h i =
        rw (mv.lower_is b h, mv.upper_is b h) (
          parts_le (c.lower b -ℤ r b) (t b) (omega (arith, le_parts (c.lower b) (r b +ℤ t b) i.0, minus (c.lower b) (r b), plus (r b) (t b))),
          parts_le (t b) (c.upper b -ℤ r b) (omega (arith, le_parts (r b +ℤ t b) (c.upper b) i.1, minus (c.upper b) (r b), plus (r b) (t b))),
        )

    pub permitted_after : Permitted c' t → Permitted c (λ b. r b +ℤ t b)
    permitted_after q = record {
      in_range = λ b h. range_after b h (q.in_range b (omega (arith, mv.n_is)));
      fits = λ j h. rw (moved_twice j h, mv.ceiling_is j h) at (q.fits j (omega (arith, mv.m_is)));
    }

    pub permitted_before : Permitted c (λ b. r b +ℤ t b) → Permitted c' t
    permitted_before q = record {
      in_range = λ b h. range_before b (omega (arith, mv.n_is)) (q.in_range b (omega (arith, mv.n_is)));
      fits = λ j h. let k : j < c.shape.m = omega (arith, mv.m_is) in rw (moved_twice j k, mv.ceiling_is j k) (q.fits j k);
    }

    pub meets_after : (p : ℕ) → Meets c' p t → Meets c p (λ b. r b +ℤ t b)
    meets_after p q = record {
      permitted = permitted_after q.permitted;
      quick = λ x m u v ws h z.
          omega (
            arith,
            q.quick x (λ j k. let k' : j < c.shape.m = omega (arith, mv.m_is) in m j k' ∙ sym (moved_twice j k')) u v ws (joins_same same_wires u ws v h) z,
            delay_same same_wires same_delays u ws v h,
          );
    }

    pub meets_before : (p : ℕ) → Meets c p (λ b. r b +ℤ t b) → Meets c' p t
    meets_before p q = record {
      permitted = permitted_before q.permitted;
      quick = λ x m u v ws h z.
          let g = joins_same (same_sym same_wires) u ws v h in
          omega (
            arith,
            q.quick x (λ j k. m j (omega (arith, mv.m_is)) ∙ moved_twice j k) u v ws g z,
            delay_same same_wires same_delays u ws v g,
          );
    }
