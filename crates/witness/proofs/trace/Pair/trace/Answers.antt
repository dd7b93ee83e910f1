-- The wires found lead on from b, and complete the best paths to b to best paths.
use Rattle.std.proofs.Common.{◌-◌, set, length-set, arith}
use Rattle.std.proofs.lemmas.Slice.{between_to_end}
use Rattle.sheet.specs.Laws.Rules.{told_false}
use Rattle.witness.specs.Laws.Trace.{tracing_start, tracing_room, tracing_next, tracing_end}
use Rattle.witness.proofs.trace.Pair.trace.Goals as goal

pub loop-at-init : goal.loop-at-init
loop-at-init c = tracing_start c.args.self.sheet.bytes.now _ c.requires.tabled _ _ c.args.self.inside.0 c.args.self.inside.1 c.args.wires.now (omega arith) c.requires.small (told_false _ c.bare.result c.bare.ensures c.if-bare.false)

pub returns-then-b-u : goal.returns-then-b-u
returns-then-b-u c =
    let w = c.loop-at.wires in
    let at = c.loop-at.at - 1 in
    rw (between_to_end (set w at c.last_wire-j.result) at 64 (omega (arith, length-set w at c.last_wire-j.result, c.loop-at.invariant.long)))
    (tracing_end c.args.self.sheet.bytes.now _ c.requires.tabled _ _ c.args.self.inside.0 c.args.self.inside.1 _ _ w c.loop-at.invariant _ c.last_wire-j.ensures at (omega (arith, c.loop-at-test.true)) _ c.wire-b.ensures.from_is c.if-b-u.true)

pub loop-at-preserved : goal.loop-at-preserved
loop-at-preserved c = tracing_next c.args.self.sheet.bytes.now _ c.requires.tabled _ _ c.args.self.inside.0 c.args.self.inside.1 _ _ c.loop-at.wires c.loop-at.invariant _ c.last_wire-j.ensures _ (omega (arith, c.loop-at-test.true)) _ c.wire-b.ensures.from_is (omega (arith, c.wire-b.ensures.from_block, c.args.self.sheet.n_is, c.requires.tabled.n_is)) c.if-b-u.false

-- the wires found are fewer than the blocks, so that there is room while the search goes on
pub unreachable-requires : goal.unreachable-requires
unreachable-requires c = omega (arith, c.loop-at-test.false, tracing_room c.args.self.sheet.bytes.now _ c.requires.tabled _ _ c.args.self.inside.0 c.args.self.inside.1 _ _ c.loop-at.wires c.loop-at.invariant)
