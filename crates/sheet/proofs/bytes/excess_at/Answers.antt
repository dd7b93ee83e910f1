-- The two bytes are read as the sheet's own signed number.
use Rattle.std.proofs.Common.{ap, ◌∙◌, subst, arith, to_z}
use Rattle.std.proofs.Math.Facts.{to_z-of_z}
use Rattle.std.specs.Int.{w16}
use Rattle.sheet.specs.Reads.{ExcessIs}
use Rattle.sheet.proofs.bytes.excess_at.Goals as goal

pub returns : goal.returns
returns c =
    subst (λ z. ExcessIs z c.excess_of.result) (c.from_le_bytes.ensures ∙ ap (to_z w16) (omega arith))
    (subst (λ z. ExcessIs z c.excess_of.result) (to_z-of_z {w = w16} (record { sfits = c.from_le_bytes.type_inv })) c.excess_of.ensures)
