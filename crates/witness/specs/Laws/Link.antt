-- A link's number tells which link was written, and its words are the link's.
-- Assumes nothing.
use Rattle.std.specs.Prelude.{◌≡◌, refl, ◌⊎◌, List, [], ◌∷◌, ◌++◌, ℕ, ◌+◌, ◌≤◌, ◌<◌, length, ℤ, pos, ◌-ℤ◌}
use Rattle.std.proofs.Common.{inl, inr, take, drop, sym, ap, ◌∙◌, subst, arith}
use Rattle.std.proofs.lemmas.List.Edits.{sets}
use Rattle.sheet.specs.Core.{Core, core_of, shape_of, registers_in}
use Rattle.sheet.specs.Sheet.{Formed}
use Rattle.sheet.specs.Laws.Formed.{formed_core}
use Rattle.paths.specs.Path.{Joins}
use Rattle.paths.specs.Table.{best}
use Rattle.paths.specs.Laws.Path.{joins_start_lt, joins_end_lt, joins_end}
use Rattle.tables.specs.Laws.Entry.{entry_unique}
use Rattle.loops.specs.Link.{wire, path, upper, ceiling, words_of}
use Rattle.solver.specs.declared.Given.{Given}
use Rattle.solver.specs.declared.Rule.{Rule}
use Rattle.solver.specs.declared.Rule.TheVariants as R
use Rattle.witness.specs.Trace.{registers_at, delay_at, Tabled}
use Rattle.witness.specs.Written.{Asked, for_upper, for_path, for_wire, for_ceiling, PathWritten, LinkWritten}
use Rattle.witness.specs.Laws.Sets.{sets_part}
use Rattle.witness.specs.Laws.Trace.{entry_of}

module _ (c : Core) (f : Formed c) (p : ℕ) (r : Rule) (a b : ℕ) (k : ℤ) where
  -- the numbers that a link is asked for by are in range
  pub asked_a : Asked c p r a b k → a < c.shape.n
  asked_a (for_upper e l z q) = l
  asked_a (for_path e W D h l q) = joins_start_lt c.shape a h.way.wires b h.way.joins
  asked_a (for_wire j l e x y q) = rw x (f.from_block j l)
  asked_a (for_ceiling j l e x y q) = rw x (f.to_block j l)

  pub asked_b : Asked c p r a b k → b < c.shape.n
  asked_b (for_upper e l z q) = omega (arith, f.some_block)
  asked_b (for_path e W D h l q) = joins_end_lt c.shape a h.way.wires b h.way.joins
  asked_b (for_wire j l e x y q) = rw y (f.to_block j l)
  asked_b (for_ceiling j l e x y q) = rw y (f.from_block j l)

  -- a wire that is asked for is in range
  pub asked_wire : (j : ℕ) → (r ≡ R.Wire j) ⊎ (r ≡ R.Ceiling j) → Asked c p r a b k → j < c.shape.m
  asked_wire j (inl q) (for_upper e l z h) = cc
  asked_wire j (inl q) (for_path e W D h l z) = cc
  asked_wire j (inl q) (for_wire i l e x y h) = let o : i ≡ j = cc in rw (← o) l
  asked_wire j (inl q) (for_ceiling i l e x y h) = cc
  asked_wire j (inr q) (for_upper e l z h) = cc
  asked_wire j (inr q) (for_path e W D h l z) = cc
  asked_wire j (inr q) (for_wire i l e x y h) = cc
  asked_wire j (inr q) (for_ceiling i l e x y h) = let o : i ≡ j = cc in rw (← o) l

  -- ---- kinds 3, 1 and 5, by two words
  module _ (w w' : List ℕ) (next : ℕ) (two : next ≡ 2) where
    pub upper_written : Asked c p r a b k → r ≡ R.Limit → w' ≡ sets w 0 (3 ∷ a ∷ []) → LinkWritten c p r a b k w w' 0 next
    upper_written (for_upper e l z q) h s = record { link = upper a; good = l; a_is = refl; b_is = sym z; k_is = sym q; words_are = s; next_is = two; few = omega (arith, f.some_block); plain = λ _. tt }
    upper_written (for_path e W D g l q) h s = cc
    upper_written (for_wire j l e x y q) h s = cc
    upper_written (for_ceiling j l e x y q) h s = cc

    pub wire_written : (j : ℕ) → Asked c p r a b k → r ≡ R.Wire j → w' ≡ sets w 0 (1 ∷ j ∷ []) → LinkWritten c p r a b k w w' 0 next
    wire_written j (for_upper e l z q) h s = cc
    wire_written j (for_path e W D g l q) h s = cc
    wire_written j (for_wire i l e x y q) h s = record {
      link = wire i;
      good = l;
      a_is = sym x;
      b_is = sym y;
      k_is = sym q;
      words_are = let o : j ≡ i = cc in rw o at s;
      next_is = two;
      few = omega (arith, f.some_block);
      plain = λ _. tt;
    }
    wire_written j (for_ceiling i l e x y q) h s = cc

    pub ceiling_written : (j : ℕ) → Asked c p r a b k → r ≡ R.Ceiling j → w' ≡ sets w 0 (5 ∷ j ∷ []) → LinkWritten c p r a b k w w' 0 next
    ceiling_written j (for_upper e l z q) h s = cc
    ceiling_written j (for_path e W D g l q) h s = cc
    ceiling_written j (for_wire i l e x y q) h s = cc
    ceiling_written j (for_ceiling i l e x y q) h s = record {
      link = ceiling i;
      good = l;
      a_is = sym x;
      b_is = sym y;
      k_is = sym q;
      words_are = let o : j ≡ i = cc in rw o at s;
      next_is = two;
      few = omega (arith, f.some_block);
      plain = λ _. tt;
    }

-- the path that the table's row gives
module _ (s : List ℕ) (g : Given) (t : Tabled s g) (p : ℕ) (r : Rule) (a b : ℕ) (k : ℤ) where
  formed : Formed (core_of s)
  formed = formed_core s t.sound.formed

  -- the entry's numbers are the best path's
  record Asks (W D : ℕ) : Type 0 where
    slow : p < D
    k_is : k ≡ pos W -ℤ pos 1
    small : W < 4294967295

  path_asks : Asked (core_of s) p r a b k → r ≡ R.Path → a < g.n → b < g.n → Asks (registers_at g a b) (delay_at g a b)
  path_asks (for_upper e l z q) h x y = cc
  path_asks (for_path e W D v l q) h x y =
      let u = entry_unique (shape_of s) (registers_in s) a b W D _ _ (best v) (entry_of s g t a b x y) in
      record { slow = omega (arith, u.1); k_is = q ∙ ap (λ (z : ℕ). pos z -ℤ pos 1) u.0; small = omega (arith, u.0, v.small) }
  path_asks (for_wire j l e v z q) h x y = cc
  path_asks (for_ceiling j l e v z q) h x y = cc

  module _ (d : Asked (core_of s) p r a b k) (h : r ≡ R.Path) where
    pub path_a : a < g.n
    path_a = omega (arith, t.n_is, asked_a (core_of s) formed p r a b k d)

    pub path_b : b < g.n
    path_b = omega (arith, t.n_is, asked_b (core_of s) formed p r a b k d)

    pub path_small : registers_at g a b < 4294967295
    path_small = (path_asks d h path_a path_b).small

    pub path_written : (w w' : List ℕ) (next : ℕ) → PathWritten s g a b w w' next → LinkWritten (core_of s) p r a b k w w' 0 next
    path_written w w' next v =
        let e = joins_end (shape_of s) a v.wires b v.traced.joins in
        let o = path_asks d h path_a path_b in
        record {
          link = path a v.wires;
          good = (subst (λ (x : ℕ). Joins (shape_of s) a v.wires x) (sym e) v.traced.joins, omega (arith, o.slow, v.traced.delay_is));
          a_is = refl;
          b_is = e;
          k_is = ap (λ (x : ℕ). pos x -ℤ pos 1) v.traced.registers_is ∙ sym o.k_is;
          words_are = v.words_are;
          next_is = omega (arith, v.count);
          few = omega (arith, v.traced.short);
          plain = λ x. absurd (x h);
        }

-- ---- what is written at the front of a list's part stands in the list from that part's place on
pub link_placed : {c : Core} {p : ℕ} {r : Rule} {a b : ℕ} {k : ℤ} (w v : List ℕ) (at : ℕ) {next : ℕ} → at + (c.shape.n + 2) ≤ length w → LinkWritten c p r a b k (drop at w) v 0 next
    → LinkWritten c p r a b k w (take at w ++ v) at (at + next)
link_placed w v at room x = record {
  link = x.link;
  good = x.good;
  a_is = x.a_is;
  b_is = x.b_is;
  k_is = x.k_is;
  words_are = ap (λ (l : List ℕ). take at w ++ l) x.words_are ∙ sets_part (words_of x.link) w at (omega (arith, x.few));
  next_is = omega (arith, x.next_is);
  few = x.few;
  plain = x.plain;
}
