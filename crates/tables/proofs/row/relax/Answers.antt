-- A wire whose start is far offers nothing; any other is tried on the keys as it is on what they stand for.
use Rattle.std.proofs.Common.{refl, arith, ◌≡◌, get_or, min}
use Rattle.tables.specs.Laws.Keys.{near_of, cost_few, offer_is, tried_far, tried}
use Rattle.tables.proofs.row.relax.Goals as goal
use Rattle.tables.proofs.row.relax.Goals.{then-better, else-better}

pub base-k-requires : goal.base-k-requires
base-k-requires c =
    let w = c.args.costed.now.wiring.now.wires in
    omega (arith, w.from_block _ c.requires.start.1, w.few_blocks)

pub returns-then-k : goal.returns-then-k
returns-then-k c =
    let w = c.args.costed.now.wiring.now.wires in
    let p = c.requires.start in
    tried_far w.few_blocks p.0 (c.args.costed.now.small.small _ p.0) _ c.requires.whole.0 c.requires.whole.1 _ _ _ (w.from_block _ p.1) p.2 c.base-k.ensures c.args.j refl c.if-k.true

pub offer-x-requires : goal.offer-x-requires
offer-x-requires c =
    let w = c.args.costed.now.wiring.now.wires in
    let p = c.requires.start in
    let h = near_of w.few_blocks p.0 (c.args.costed.now.small.small _ p.0) _ c.requires.whole.0 c.requires.whole.1 _ _ _ (w.from_block _ p.1) p.2 c.base-k.ensures c.if-k.false in
    (h.low, h.high, cost_few _ _ _ _ _ c.args.costed.now.weighed p.1 (w.few _ p.1) refl)

pub returns : goal.returns
returns c =
    let w = c.args.costed.now.wiring.now.wires in
    let d = c.args.costed.now.small in
    let p = c.requires.start in
    let old = get_or c.args.keys.now (get_or c.args.costed.now.wiring.now.to c.args.j 0) 0 in
    let least : c.if-better.keys ≡ min c.offer-x.result old =
    elim c.if-better.branch [
      | then-better h ↦ rw h.keys-is (omega (arith, h.if-better.true))
      | else-better h ↦ rw h.keys-is (omega (arith, h.if-better.false))
    ] in
    tried w.few_blocks p.0 (d.small _ p.0) _ c.requires.whole.0 c.requires.whole.1 _ _ _ (w.from_block _ p.1) p.2 c.base-k.ensures c.args.j refl _ _ _ _ _ c.if-k.false (w.to_block _ p.1) refl refl (w.few _ p.1) refl (d.small _ (w.to_block _ p.1)) (offer_is _ _ _ _ _ _ _ _ c.args.costed.now.weighed p.1 refl refl c.offer-x.ensures) refl _ (rw least refl)
