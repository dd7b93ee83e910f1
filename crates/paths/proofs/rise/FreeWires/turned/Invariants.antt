-- The first i entries are the last i of the other list, turned round.
use Rattle.std.proofs.Common.{◌≡◌, ◌<◌, ◌-◌, length, get_or}
use Rattle.paths.proofs.rise.FreeWires.turned.Given as goal

abbrev pub invariant-loop-i : goal.invariant-loop-i
invariant-loop-i l = (length l.list ≡ 256) × ((x : _) → x < l.i → get_or l.list x 0 ≡ get_or l.self.list (l.count - 1 - x) 0)
