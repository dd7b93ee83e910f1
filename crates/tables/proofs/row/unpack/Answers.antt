-- Key after key is decoded.
use borrow.Author.Rules.{rules}
use native.Mathlib.Omega.{arith}
use mathlib.Core.Path.{sym}
use lib.ListN.{length-set}
use Rattle.sheet.specs.Laws.Filled.{filled_none, filled_turn, filled_done}
use Rattle.tables.proofs.row.unpack.Goals as goal

pub loop-v-init : goal.loop-v-init
loop-v-init c = (search rules, search rules, sym (filled_none _ _), sym (filled_none _ _))

pub delay_of-requires : goal.delay_of-requires
delay_of-requires c = c.requires.3.half _ c.loop-v-test.true

pub loop-v-preserved : goal.loop-v-preserved
loop-v-preserved c =
    let i = c.loop-v.invariant in
    (simp length-set (omega (arith, i.0)), simp length-set (omega (arith, i.1)), filled_turn _ _ _ _ _ i.2 c.registers_of.ensures, filled_turn _ _ _ _ _ i.3 c.delay_of.ensures)

pub returns : goal.returns
returns c = (filled_done _ _ _ _ _ c.loop-v.invariant.2 (omega arith) (omega arith), filled_done _ _ _ _ _ c.loop-v.invariant.3 (omega arith) (omega arith))
