-- Key after key is decoded.
use mathlib.Core.Path.{◌≡◌}
use lib.ListN.{length, get_or}
use Rattle.sheet.specs.Filled.{filled}
use Rattle.tables.specs.Keys.{key_w, key_d}
use Rattle.tables.proofs.row.unpack.Given as goal

abbrev pub invariant-loop-v : goal.invariant-loop-v
invariant-loop-v l = (length l.ws ≡ length l.initial.ws) × (length l.ds ≡ length l.initial.ds) × (l.ws ≡ filled (λ k. key_w (get_or l.keys k 0)) l.v l.initial.ws) × (l.ds ≡ filled (λ k. key_d (get_or l.keys k 0)) l.v l.initial.ds)
