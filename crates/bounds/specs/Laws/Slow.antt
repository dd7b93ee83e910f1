-- How long a path can be: where register-free paths take at most p, each register more adds at most p.
-- Assumes nothing.
use Rattle.std.specs.Prelude.{◌≡◌, refl, List, [], ◌∷◌, ◌++◌, ℕ, ◌+◌, ◌*◌, ◌≤◌, ◌<◌}
use Rattle.std.proofs.Common.{append_assoc, arith, add-mul, mul-le-mul}
use Rattle.std.proofs.Math.Decide.{ℕ_discrete}
use Rattle.sheet.specs.Core.{Core, Shape}
use Rattle.sheet.specs.Sheet.{Formed}
use Rattle.paths.specs.Path.{Joins, registers_on, delay_on, end_of}
use Rattle.paths.specs.Table.{LoopAt}
use Rattle.paths.specs.Laws.Path.{joins_left, joins_right, registers_snoc}
use Rattle.paths.proofs.Delays.{delay_append}
use Rattle.tables.specs.Laws.Entry.{fewest_short}
use Rattle.tables.specs.Laws.Small.{delay_small}

module _ (s : Shape) (x : ℕ → ℕ) (p q : ℕ) (less : p ≤ q) (quick : (u v : ℕ) (ws : List ℕ) → Joins s u ws v → registers_on x ws ≡ 0 → delay_on s u ws ≤ p) where
  -- a register or more, each worth q
  one_more : (a r : ℕ) → 0 < a → q + r * q ≤ (a + r) * q
  one_more a r h = let one : 1 * q ≤ a * q = mul-le-mul h (omega arith) in omega (arith, add-mul a r q, one)

  -- the wires `free` have been passed without a register
  slow_from : (u : ℕ) (free ws : List ℕ) (v : ℕ) → Joins s u (free ++ ws) v → registers_on x free ≡ 0 → delay_on s u (free ++ ws) ≤ registers_on x ws * q + p
  slow_from u free [] v h z =
      let e = joins_left s u free [] v h in
      omega (arith, delay_append s u free [], quick u (end_of s u free) free e z)
  slow_from u free (j ∷ ws) v h z = go (ℕ_discrete (x j) 0) (slow_from u (free ++ (j ∷ [])) ws v) (slow_from (s.to j) [] ws v)
    where
      Goes : Type 0
      Goes = Joins s u ((free ++ (j ∷ [])) ++ ws) v → registers_on x (free ++ (j ∷ [])) ≡ 0 → delay_on s u ((free ++ (j ∷ [])) ++ ws) ≤ registers_on x ws * q + p

      Starts : Type 0
      Starts = Joins s (s.to j) ws v → registers_on x [] ≡ 0 → delay_on s (s.to j) ws ≤ registers_on x ws * q + p

      go : Dec (x j ≡ 0) → Goes → Starts → delay_on s u (free ++ (j ∷ ws)) ≤ (x j + registers_on x ws) * q + p
      go (yes e) more again =
          let same : (free ++ (j ∷ [])) ++ ws ≡ free ++ (j ∷ ws) = append_assoc free (j ∷ []) ws in
          let k = more (rw same h) (omega (arith, registers_snoc x free j)) in
          omega (arith, rw same at k, add-mul (x j) (registers_on x ws) q)
      go (no e) more again =
          let k = again (joins_right s u free (j ∷ ws) v h).4 refl in
          let f = quick u (end_of s u free) free (joins_left s u free (j ∷ ws) v h) z in
          omega (arith, delay_append s u free (j ∷ ws), one_more (x j) (registers_on x ws) (omega arith))

  pub slow : (u v : ℕ) (ws : List ℕ) → Joins s u ws v → delay_on s u ws ≤ registers_on x ws * q + p
  slow u v ws h = slow_from u [] ws v h refl

-- without register-free loops a register-free path is short
pub free_quick : (c : Core) → Formed c → (x : ℕ → ℕ) → ((b : ℕ) → LoopAt c.shape x b → ⊥) → (u v : ℕ) (ws : List ℕ) → Joins c.shape u ws v → registers_on x ws ≡ 0 → delay_on c.shape u ws ≤ 640000
free_quick c f x free u v ws h z =
    omega (
      arith,
      f.few_blocks,
      delay_small c f u ws v h,
      fewest_short c.shape x free u v ws h (λ xs k. omega arith),
    )
