-- Block after block gets itself.
use Rattle.keys.specs.Laws.Entry.{blank_none}
use Rattle.keys.proofs.lanes.blank.Goals as goal

pub loop-b-init : goal.loop-b-init
loop-b-init c = blank_none _
