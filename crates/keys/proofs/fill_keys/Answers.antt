-- Every sweep but the last lowers the sum of the keys; after it all wires hold.
use Rattle.keys.specs.Laws.Stand.{keyed}
use Rattle.keys.specs.Laws.Sweep.{settling_start}
use Rattle.keys.proofs.fill_keys.Goals as goal

pub loop-versions-init : goal.loop-versions-init
loop-versions-init c = rw (c.new-versions.ensures.rows, c.new-versions.ensures.seen) (settling_start c.args.ordered.now.wiring.now c.blank.ensures)

pub returns : goal.returns
returns c =
    let o = c.args.ordered.now in
    let S = c.sweep.ensures in
    keyed _ _ o.wiring.now.wires.few_blocks o.slow S.settling.standing (S.ended c.loop-versions-test.false)
