-- The shape and the registers that rows are filled from.
use Rattle.std.specs.Prelude.{ℕ}
use Rattle.sheet.specs.Core.{Shape}
use Rattle.paths.specs.Wired.{wired, weights}
use Rattle.tables.specs.declared.costed.Costed.{Costed}

abbrev pub shape_of : Costed → Shape
shape_of c = wired c.wiring.now c.delays.now

abbrev pub weights_of : Costed → ℕ → ℕ
weights_of c = weights c.wiring.now
