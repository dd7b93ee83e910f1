-- What is read from the list is the lag itself.
use mathlib.Core.Path.{subst}
use lib.IntN.{ℤ, pos}
use lib.ListN.{get_or}
use mir.Syntax.{w16}
use mir.Facts.{to_z-of_z}
use borrow.Author.Rules.{rules}
use Rattle.sheet.specs.Reads.{ExcessIs}
use Rattle.moves.proofs.lags.lag_at.Goals as goal

pub returns : goal.returns
returns c = subst (λ (z : ℤ). ExcessIs z c.excess_of.result) (to_z-of_z {w = w16} {z = get_or c.args.lags.now c.args.b (pos 0)} (search rules)) c.excess_of.ensures
