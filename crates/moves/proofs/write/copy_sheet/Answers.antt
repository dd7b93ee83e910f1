-- The copied bytes stand before what was there.
use Rattle.moves.specs.Laws.Writing.{copied_is}
use Rattle.moves.proofs.write.copy_sheet.Goals as goal

pub returns : goal.returns
returns c = rw c.copy_from_slice.ensures.after (copied_is c.args.s.now c.args.moved.now c.requires)
