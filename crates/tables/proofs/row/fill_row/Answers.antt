-- The finished keys, decoded, are the row.
use Rattle.tables.specs.Laws.Keys.{right_decoded}
use Rattle.tables.proofs.row.fill_row.Goals as goal

pub returns : goal.returns
returns c = right_decoded _ _ _ _ _ _ _ _ c.args.costed.now.wiring.now.wires.few_blocks c.requires.1 c.requires.2 c.settle.ensures c.unpack.ensures.0 c.unpack.ensures.1
