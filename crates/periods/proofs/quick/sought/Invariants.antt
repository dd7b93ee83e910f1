-- The descent rests at the longest period before the least is looked for.
use Rattle.periods.proofs.quick.sought.Given as goal

abbrev pub ghost-least : goal.ghost-least
ghost-least a = 1048575
