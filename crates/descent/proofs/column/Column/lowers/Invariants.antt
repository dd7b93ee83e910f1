use Rattle.descent.specs.State.{Falls}
use Rattle.descent.proofs.column.Column.lowers.Given as goal

abbrev pub invariant-loop-u : goal.invariant-loop-u
invariant-loop-u l = Falls l.self.keys.now l.self.period l.self.block l.self.lag l.lags l.u l.some
