use native.Mathlib.Omega.{arith}
use Rattle.descent.specs.Laws.Round.{going_start}
use Rattle.descent.proofs.settle.Descent.settle.Goals as goal

pub loop-self-init : goal.loop-self-init
loop-self-init c = (omega arith, going_start c.requires.state c.requires.short)
