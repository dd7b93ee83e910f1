use Rattle.descent.specs.Laws.Round.{step_still, step_tested}
use Rattle.descent.proofs.settle.Descent.step.Goals as goal

pub returns-then-not-lowers-clause-on : goal.returns-then-not-lowers-clause-on
returns-then-not-lowers-clause-on c = step_still c.requires.0 c.requires.1 c.if-self-v.false c.lowers.ensures c.if-not-lowers.true

pub returns-clause-on : goal.returns-clause-on
returns-clause-on c = step_tested c.requires.0 c.requires.1 c.if-self-v.false c.push.ensures c.under.ensures c.if-under.false _
