-- Heights that settle rule loops out; else the first is searched for.
use Rattle.std.specs.Prelude.{replicate}
use Rattle.paths.proofs.Heights.{ones_held, settled_none}
use Rattle.paths.specs.Laws.Loaded.{wiring_over, wires_same, loop_found, loop_none}
use Rattle.paths.proofs.sound.check_loops.Goals as goal

pub rise-requires : goal.rise-requires
rise-requires c = ones_held _ c.of-wiring.result.wires.few_blocks

pub returns-then-rise : goal.returns-then-rise
returns-then-rise c =
    let w = c.of-wiring.result in
    let e = wires_same c.args.sheet.bytes.now c.args.sheet.formed (wiring_over c.of-wiring.ensures) (replicate 64 1) in
    settled_none c.args.sheet.bytes.now w.n w.m _ w.from w.to w.registers _ _ w.wires e c.rise.ensures c.if-rise.true

pub returns-in-Some : goal.returns-in-Some
returns-in-Some c = loop_found c.args.sheet.bytes.now c.args.sheet.formed (wiring_over c.of-wiring.ensures) _ c.in-Some.ensures

pub returns-in-None : goal.returns-in-None
returns-in-None c = loop_none c.args.sheet.bytes.now c.args.sheet.formed (wiring_over c.of-wiring.ensures) c.in-None.ensures
