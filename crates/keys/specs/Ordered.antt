-- The shape and the registers that a table of keys is filled from.
use Rattle.std.specs.Prelude.{ℕ}
use Rattle.sheet.specs.Core.{Shape}
use Rattle.paths.specs.Wired.{wired, weights}
use Rattle.keys.specs.declared.ordered.Ordered.{Ordered}

abbrev pub shape_of : Ordered → Shape
shape_of o = wired o.wiring.now o.delays.now

abbrev pub weights_of : Ordered → ℕ → ℕ
weights_of o = weights o.wiring.now
