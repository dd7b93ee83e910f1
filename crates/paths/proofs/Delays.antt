-- The delay of a path: with more wires at its end, and on a shape that has the same wires and delays.
-- Every block of a path counts, both ends too. Assumes nothing.
use Rattle.std.specs.Prelude.{◌≡◌, List, [], ◌∷◌, ◌++◌, ℕ, ◌+◌}
use Rattle.std.proofs.Common.{arith, sym, ap, ◌∙◌}
use Rattle.sheet.specs.Core.{Shape}
use Rattle.paths.specs.Path.{Joins, delay_on, end_of}
use Rattle.paths.specs.Table.{Way, Entry, best, none}
use Rattle.paths.specs.Laws.Same.{SameWires, SameDelays, same_sym, joins_same, registers_same}

module _ (s : Shape) where
  pub delay_append : (u : ℕ) (ws xs : List ℕ) → delay_on s u (ws ++ xs) + s.delay (end_of s u ws) ≡ delay_on s u ws + delay_on s (end_of s u ws) xs
  delay_append u [] xs = omega arith
  delay_append u (j ∷ ws) xs = omega (arith, delay_append (s.to j) ws xs)

  pub delay_snoc : (u : ℕ) (ws : List ℕ) (j : ℕ) → delay_on s u (ws ++ (j ∷ [])) ≡ delay_on s u ws + s.delay (s.to j)
  delay_snoc u ws j = omega (arith, delay_append u ws (j ∷ []))

module _ {s t : Shape} {w x : ℕ → ℕ} (e : SameWires s t w x) (d : SameDelays s t) where
  pub delay_same : (u : ℕ) (ws : List ℕ) (v : ℕ) → Joins s u ws v → delay_on s u ws ≡ delay_on t u ws
  delay_same u [] v h = d u h.0
  delay_same u (j ∷ ws) v h =
      omega (arith, d u h.0, delay_same (s.to j) ws v h.4, ap (λ (b : ℕ). delay_on t b ws) (e.to_is j h.1))

  pub way_same : (u v W D : ℕ) → Way s w u v W D → Way t x u v W D
  way_same u v W D p = record {
    wires = p.wires;
    joins = joins_same e u p.wires v p.joins;
    registers_is = sym (registers_same e u p.wires v p.joins) ∙ p.registers_is;
    delay_is = sym (delay_same u p.wires v p.joins) ∙ p.delay_is;
  }

  back_joins : (u : ℕ) (ws : List ℕ) (v : ℕ) → Joins t u ws v → Joins s u ws v
  back_joins = joins_same (same_sym e)

  pub entry_same : (u v W D : ℕ) → Entry s w u v W D → Entry t x u v W D
  entry_same u v W D (best b) = best (record {
    way = way_same u v W D b.way;
    small = b.small;
    fewest = λ ws h. omega (arith, b.fewest ws (back_joins u ws v h), registers_same e u ws v (back_joins u ws v h));
    longest = λ ws h q.
        let g = back_joins u ws v h in
        omega (arith, b.longest ws g (registers_same e u ws v g ∙ q), delay_same u ws v g);
  })
  entry_same u v W D (none f p q) = none (λ ws h. f ws (back_joins u ws v h)) p q
