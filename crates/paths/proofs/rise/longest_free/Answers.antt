-- The highest of the heights is the period, whether or not the last sweep changed nothing.
use Rattle.paths.proofs.Heights.{highest_period}
use Rattle.paths.proofs.rise.longest_free.Goals as goal

pub highest-requires : goal.highest-requires
highest-requires c = (c.args.wiring.now.wires.some_block, c.args.wiring.now.wires.few_blocks)

pub returns : goal.returns
returns c = highest_period _ _ c.requires.no_loop _ _ _ c.rise.ensures c.highest.ensures
