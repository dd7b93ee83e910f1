use Rattle.descent.specs.State.{Pushed}
use Rattle.descent.proofs.column.Column.push.Given as goal

abbrev pub invariant-loop-u : goal.invariant-loop-u
invariant-loop-u l = Pushed l.self.keys.now l.self.period l.self.block l.self.lag l.initial.lags l.lags l.u
