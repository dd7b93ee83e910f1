-- The least period lies between the largest single delay and the largest delay of the path table; where a search between them may stop.
-- Assumes nothing.
use Rattle.std.specs.Prelude.{◌≡◌, refl, [], ℕ, ◌+◌, ◌≤◌, ◌<◌, ℤ}
use Rattle.std.proofs.Common.{arith}
use Rattle.std.proofs.Math.Decide.{dec_le}
use Rattle.sheet.specs.Core.{Core}
use Rattle.sheet.specs.Integer.{up}
use Rattle.paths.specs.Table.{Entry, best}
use Rattle.paths.specs.Laws.Path.{joins_start_lt, joins_end_lt}
use Rattle.tables.specs.Laws.Entry.{entry_unique}
use Rattle.moves.specs.Lags.{moved_by, Permitted, Meets}
use Rattle.moves.specs.Laws.Lattice.{moved_to}
use Rattle.promises.specs.Lags.{Least}
use Rattle.promises.specs.Laws.Lags.{meets_longer}
use Rattle.promises.specs.Laws.Rules.{keeps_meets}

-- 01: "a delay above c rules c out by itself"
pub block_met : (c : Core) (p : ℕ) (r : ℕ → ℤ) → Meets c p r → (b : ℕ) → b < c.shape.n → c.shape.delay b ≤ p
block_met c p r m b h = m.quick (λ j. up (moved_by c r j)) (moved_to c r m.permitted) b b [] (h, refl) refl

module _ (c : Core) (p : ℕ) (r : ℕ → ℤ) where
  -- permitted lags meet the largest delay of the path table
  pub longest_met : (Wt Dt : ℕ → ℕ → ℕ) → ((u v : ℕ) → u < c.shape.n → v < c.shape.n → Entry c.shape c.registers u v (Wt u v) (Dt u v))
      → ((u v : ℕ) → u < c.shape.n → v < c.shape.n → Dt u v ≤ p) → Permitted c r → Meets c p r
  longest_met Wt Dt table most h =
      keeps_meets c p r Wt Dt table (record {
        permitted = h;
        path = λ u v W D b l.
            let hu = joins_start_lt c.shape u b.way.wires v b.way.joins in
            let hv = joins_end_lt c.shape u b.way.wires v b.way.joins in
            absurd (omega (arith, most u v hu hv, entry_unique c.shape c.registers u v W D (Wt u v) (Dt u v) (best b) (table u v hu hv)));
      })

  -- a search stops at a period that is met, where the one before is not
  pub least_next : (q : ℕ) → p ≡ q + 1 → Meets c p r → ((t : ℕ → ℤ) → Meets c q t → ⊥) → Least c p
  least_next q e m none = record {
    lags = r;
    met = m;
    least = λ k t h. elim (dec_le k q) [ yes l ↦ absurd (none t (meets_longer c k q t h l)) | no l ↦ omega arith ];
  }

  -- or where it is the delay of a block
  pub least_block : (b : ℕ) → b < c.shape.n → c.shape.delay b ≡ p → Meets c p r → Least c p
  least_block b h e m = record { lags = r; met = m; least = λ k t g. omega (arith, block_met c k t g b h) }
