-- What is found on the rules of a sheet answers for the sheet.
use Rattle.bounds.specs.Laws.Meets.{ruled_fit}
use Rattle.periods.specs.Laws.Quick.{quick_is}
use Rattle.periods.proofs.quick.quick.Goals as goal

pub returns : goal.returns
returns c = quick_is _ c.load_rules.ensures c.args.aim _ c.sought.ensures

pub invariant_of-rules : goal.invariant_of-rules
invariant_of-rules c = record { fit = ruled_fit c.load_rules.ensures }
