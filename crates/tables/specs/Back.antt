-- One step backward along a best path: the wire that it ends with.
use Rattle.std.specs.Prelude.{◌≡◌, ◌⊎◌, ℕ, ◌+◌, ◌<◌}
use Rattle.sheet.specs.Core.{Shape}
use Rattle.paths.specs.Table.{Best}

module _ (s : Shape) (w : ℕ → ℕ) (u v W D : ℕ) where
  -- wire j into v completes what stands at its start to W registers and delay D
  pub record Completed (j : ℕ) : Type 0 where
    pub registers : ℕ
    pub delay : ℕ
    pub wire_lt : j < s.m
    pub end : s.to j ≡ v
    pub registers_is : W ≡ registers + w j
    pub delay_is : D ≡ delay + s.delay v
    pub base : ((s.from j ≡ u) × (registers ≡ 0) × (delay ≡ s.delay u)) ⊎ ((s.from j ≡ u → ⊥) × Best s w u (s.from j) registers delay)
