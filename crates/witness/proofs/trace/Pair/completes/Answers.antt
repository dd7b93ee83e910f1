-- Each test on the numbers is a side of the definition.
use Rattle.std.proofs.Common.{Bool, true, false, refl}
use Rattle.sheet.specs.Rules.{Told}
use Rattle.sheet.specs.Laws.Rules.{told_true}
use Rattle.witness.specs.Laws.Trace.{other_registers, other_delay, right_wire}
use Rattle.witness.proofs.trace.Pair.completes.Goals as goal

-- a test of one fact tells another that holds exactly where it does
told_says : (P Q : Type 0) (b : Bool) → Told P b → (P → Q) → ((P → ⊥) → Q → ⊥) → Told Q b
told_says P Q true h f g = f h
told_says P Q false h f g = g h

pub returns-then-not-adds : goal.returns-then-not-adds
returns-then-not-adds c = other_registers c.args.self.sheet.bytes.now _ c.requires.tabled _ _ _ _ _ _ _ _ c.wire-wire.ensures c.args.self.inside.0 _ c.base-before.ensures _ refl c.if-not-adds.ensures

pub returns : goal.returns
returns c =
    told_says _ _ c.adds-2.result c.adds-2.ensures
    (λ q. right_wire c.args.self.sheet.bytes.now _ c.requires.tabled _ _ _ _ _ _ _ _ c.wire-wire.ensures c.args.self.inside.0 _ c.base-before.ensures _ (rw c.block.ensures.delay_is at c.base-early.ensures) _ _ _ refl refl c.block-2.ensures.delay_is c.requires.small c.requires.wire c.if-wire-v.false (told_true _ c.adds.result c.adds.ensures c.if-not-adds.false) q)
    (λ bad. other_delay c.args.self.sheet.bytes.now _ c.requires.tabled _ _ _ _ _ _ _ _ c.wire-wire.ensures c.args.self.inside.0 _ c.base-before.ensures _ (rw c.block.ensures.delay_is at c.base-early.ensures) _ _ refl c.block-2.ensures.delay_is bad)
