-- The list turned round has the same wires.
use native.Mathlib.Omega.{arith}
use Rattle.std.proofs.Math.Logic.{∥∥₁_map}
use Rattle.paths.proofs.Heights.{listed_turned}
use Rattle.paths.proofs.rise.FreeWires.turned.Goals as goal

pub invariant_of-result : goal.invariant_of-result
invariant_of-result c = record { listed = ∥∥₁_map c.args.self.now.listed (λ t. listed_turned _ _ _ _ _ t c.loop-i.invariant.0 (λ x h. c.loop-i.invariant.1 x (omega arith))) }
