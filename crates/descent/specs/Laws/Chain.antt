-- The contradictions that a chain of rules shows. The check finds them by itself where a chain is tested.
-- Assumes nothing.
use Rattle.std.specs.Prelude.{ℕ, ◌+◌, ◌<◌, ◌≡◌, List, get_or}
use Rattle.std.proofs.Common.{arith}
use Rattle.descent.specs.State.{Stop}
use Rattle.descent.specs.Chain.{Chained, Sinking}
use Rattle.descent.specs.Laws.System.{whole, floor_next}
use Rattle.descent.specs.declared.chain.Chain.{Chain}
use Rattle.descent.specs.declared.rules.Rules.{Rules}

module _ {g : Rules} {c start : ℕ} {chain : Chain} (C : Chained g.keys.now c start 64 chain) where
  -- the rules lead back to where they began, and ask for less
  pub circle_stop : chain.end ≡ start → chain.total < 64 → Stop g c chain.until
  circle_stop q h = record { beyond = C.beyond; floor = λ d s lt K. absurd (omega (arith, rw q at (C.says d s lt (whole K)))) }

  -- they ask the first block to be below its lower limit, since the last is not above its upper limit
  pub pit_stop : start < 64 → get_or g.upper.now chain.end 0 + chain.total < get_or g.lower.now start 0 + 64 → Stop g c chain.until
  pit_stop hs h = record { beyond = C.beyond; floor = λ d s lt K. absurd (omega (arith, C.says d s lt (whole K), K.low start hs, K.high chain.end C.inside)) }

-- lags that have sunk leave none at c
pub sunk_stop : {g : Rules} {c : ℕ} {e : List ℕ} → Sinking g c e → Stop g c (c + 1)
sunk_stop X = record {
  beyond = omega arith;
  floor = floor_next (λ s K. absurd (omega (arith, X.under, X.most s K X.block X.inside, K.low X.block X.inside)));
}
