-- The wire that completes the entry is never behind.
use Rattle.std.proofs.Common.{arith}
use Rattle.sheet.specs.Core.{registers_in, shape_of}
use Rattle.sheet.specs.Laws.Rules.{told_false}
use Rattle.witness.specs.Laws.Trace.{search_on, search_short, best_of}
use Rattle.witness.proofs.trace.Pair.last_wire.Goals as goal

pub loop-j-preserved : goal.loop-j-preserved
loop-j-preserved c = search_on (shape_of c.args.self.sheet.bytes.now) (registers_in c.args.self.sheet.bytes.now) _ _ _ _ _ c.loop-j.invariant (told_false _ c.completes.result c.completes.ensures c.if-completes.false)

pub unreachable-requires : goal.unreachable-requires
unreachable-requires c =
    let short = search_short (shape_of c.args.self.sheet.bytes.now) (registers_in c.args.self.sheet.bytes.now) _ _ _ _ _ c.loop-j.invariant c.requires.tabled.sound.free (best_of c.args.self.sheet.bytes.now _ c.requires.tabled _ _ c.args.self.inside.0 c.args.self.inside.1 c.requires.small) c.requires.apart in
    omega (arith, short, c.requires.tabled.m_is)
