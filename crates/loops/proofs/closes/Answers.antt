-- Each link goes on from the last, or it breaks every chain that the words could spell.
use Rattle.std.proofs.Common.{arith, ne_eqb}
use Rattle.loops.specs.Laws.Chain.{chained_first, chained_next, chained_stuck, chained_broken, chained_open, chained_heavy, chained_valid, told_lower}
use Rattle.loops.proofs.closes.Goals as goal

pub loop-at-init : goal.loop-at-init
loop-at-init c = chained_first c.args.offer.sheet.bytes.now _ c.args.offer.words.now _ c.requires

pub returns-in_default : goal.returns-in_default
returns-in_default c = chained_stuck c.args.offer.sheet.bytes.now _ c.args.offer.words.now _ _ _ _ _ c.loop-at.invariant c.loop-at-test.true c.in_default.ensures

pub returns-then-link-last : goal.returns-then-link-last
returns-then-link-last c = chained_broken c.args.offer.sheet.bytes.now _ c.args.offer.words.now _ _ _ _ _ c.loop-at.invariant _ c.loop-at-test.true c.in-Some.ensures c.if-link-last.true

pub loop-at-preserved : goal.loop-at-preserved
loop-at-preserved c = chained_next c.args.offer.sheet.bytes.now _ c.args.offer.words.now _ _ _ _ _ c.loop-at.invariant _ c.in-Some.ensures c.if-link-last.false

pub returns-then-last-first : goal.returns-then-last-first
returns-then-last-first c =
    let s = c.args.offer.sheet.bytes.now in
    let w = c.args.offer.words.now in
    told_lower _ _ _ (chained_valid s _ w _ _ _ _ _ c.loop-at.invariant (omega arith) c.args.offer.short c.if-last-first.true) (chained_heavy s _ w _ _ _ _ _ c.loop-at.invariant (omega arith))

pub returns-else-last-first : goal.returns-else-last-first
returns-else-last-first c =
    rw (ne_eqb _ _ c.if-last-first.false) (chained_open c.args.offer.sheet.bytes.now _ c.args.offer.words.now _ _ _ _ _ c.loop-at.invariant (omega arith) c.if-last-first.false)
