-- By the link's case; what a head comes to does not depend on the words that spell it.
use Rattle.std.proofs.Common.{subst}
use Rattle.loops.specs.Reads.{HeadIs}
use Rattle.loops.proofs.read.Offer.link_at.Goals as goal

pub returns-in-Wire : goal.returns-in-Wire
returns-in-Wire c = c.wire_link.ensures _ _ (subst (HeadIs c.args.self.words.now c.args.at) c.in-Wire.is c.in_ok-bound.ensures)

pub returns-in-Block : goal.returns-in-Block
returns-in-Block c = c.block_link.ensures _ _ (subst (HeadIs c.args.self.words.now c.args.at) c.in-Block.is c.in_ok-bound.ensures)
