-- T1: the least period is an entry of the path table.
-- Assumes nothing.
use Rattle.std.specs.Prelude.{◌≡◌, refl, ◌⊎◌, List, [], ℕ, ◌-◌, ◌<◌}
use Rattle.std.proofs.Common.{inl, inr, arith}
use Rattle.std.proofs.Math.Decide.{ℕ_discrete}
use Rattle.sheet.specs.Core.{Core}
use Rattle.sheet.specs.Sheet.{Formed}
use Rattle.sheet.specs.Integer.{up}
use Rattle.paths.specs.Path.{Joins, registers_on, delay_on}
use Rattle.paths.specs.Table.{Best, Entry, best, none}
use Rattle.paths.specs.Laws.Path.{joins_start_lt, joins_end_lt}
use Rattle.moves.specs.Lags.{moved_by, MovedTo, Meets}
use Rattle.moves.specs.Laws.Lags.{telescope}
use Rattle.moves.specs.Laws.Lattice.{moved_to}
use Rattle.promises.specs.Lags.{Least}
use Rattle.promises.specs.Laws.Lags.{below_some}

-- ---- 01: "the least may be any entry of the path table": it is one of them
module _ (c : Core) (f : Formed c) (Wt Dt : ℕ → ℕ → ℕ)
    (table : (u v : ℕ) → u < c.shape.n → v < c.shape.n → Entry c.shape c.registers u v (Wt u v) (Dt u v)) (p : ℕ) where
  -- the entry of u, v belongs to a path, and its delay is p
  pub record EntryIs (u v : ℕ) : Type 0 where
    pub entry : Best c.shape c.registers u v (Wt u v) (Dt u v)
    pub delay_is : Dt u v ≡ p

  -- whether it is so can be told
  entry_is : (u v : ℕ) → Entry c.shape c.registers u v (Wt u v) (Dt u v) → EntryIs u v ⊎ (EntryIs u v → ⊥)
  entry_is u v (best b) = elim (ℕ_discrete (Dt u v) p) [ yes e ↦ inl (record { entry = b; delay_is = e }) | no e ↦ inr (λ x. e x.delay_is) ]
  entry_is u v (none g a d) = inr (λ x. g x.entry.way.wires x.entry.way.joins)

  -- some pair has p in the table
  pub record LeastEntry : Type 0 where
    pub start : ℕ
    pub end : ℕ
    pub start_lt : start < c.shape.n
    pub end_lt : end < c.shape.n
    pub is : EntryIs start end

  module _ (l : Least c p) (no_entry : (u v : ℕ) → u < c.shape.n → v < c.shape.n → EntryIs u v → ⊥) where
    -- a path that lost all its registers is shorter than p
    module _ (x : ℕ → ℕ) (m : MovedTo c l.lags x) (u v : ℕ) (ws : List ℕ) (j : Joins c.shape u ws v) (z : registers_on x ws ≡ 0) where
      shorter_by : u < c.shape.n → v < c.shape.n → Entry c.shape c.registers u v (Wt u v) (Dt u v) → delay_on c.shape u ws < p
      shorter_by hu hv (best b) =
          let t = telescope c l.lags x m u ws v j in
          let y = telescope c l.lags x m u b.way.wires v b.way.joins in
          let e : registers_on c.registers ws ≡ Wt u v = omega (arith, t, y, b.way.registers_is, b.fewest ws j) in
          let q = l.met.quick x m u v b.way.wires b.way.joins (omega (arith, t, y, b.way.registers_is)) in
          elim (ℕ_discrete (Dt u v) p) [
            | yes k ↦ absurd (no_entry u v hu hv (record { entry = b; delay_is = k }))
            | no k ↦ omega (arith, b.longest ws j e, b.way.delay_is)
          ]
      shorter_by hu hv (none g a d) = absurd (g ws j)

      shorter : delay_on c.shape u ws < p
      shorter = let hu = joins_start_lt c.shape u ws v j in let hv = joins_end_lt c.shape u ws v j in shorter_by hu hv (table u v hu hv)

    -- so the lags would meet the period before p
    none_least : ⊥
    none_least =
        let x : ℕ → ℕ = λ j. up (moved_by c l.lags j) in
        let host = shorter x (moved_to c l.lags l.met.permitted) 0 0 [] (f.some_block, refl) refl in
        let m : Meets c (p - 1) l.lags = record { permitted = l.met.permitted; quick = λ y my u v ws j z. omega (arith, shorter y my u v ws j z) } in
        omega (arith, host, l.least (p - 1) l.lags m)

  -- the least period is an entry of the path table
  pub least_entry : Least c p → LeastEntry
  least_entry l = found (below_some Row c.shape.n (λ u hu. row u hu (below_some (EntryIs u) c.shape.n (λ v hv. entry_is u v (table u v hu hv)))))
    where
      Row : ℕ → Type 0
      Row u = (v : ℕ) × (v < c.shape.n) × EntryIs u v

      row : (u : ℕ) → u < c.shape.n → ((v : ℕ) × (v < c.shape.n) × EntryIs u v) ⊎ ((v : ℕ) → v < c.shape.n → EntryIs u v → ⊥) → Row u ⊎ (Row u → ⊥)
      row u hu (inl y) = inl y
      row u hu (inr g) = inr (λ y. g y.0 y.1 y.2)

      found : ((u : ℕ) × (u < c.shape.n) × Row u) ⊎ ((u : ℕ) → u < c.shape.n → Row u → ⊥) → LeastEntry
      found (inl y) = record { start = y.0; end = y.2.0; start_lt = y.1; end_lt = y.2.1; is = y.2.2 }
      found (inr g) = absurd (none_least l (λ u v hu hv e. g u hu (v, hv, e)))
