-- A lag in its range is passed over.
use Rattle.std.proofs.Common.{below_more}
use Rattle.sheet.specs.Laws.Rules.{told_true}
use Rattle.moves.proofs.lags.check_ranges.Goals as goal

pub loop-b-preserved : goal.loop-b-preserved
loop-b-preserved c = below_more _ _ c.loop-b.invariant (λ bad. bad (told_true _ _ c.in_range.ensures c.if-not-in_range.false))
