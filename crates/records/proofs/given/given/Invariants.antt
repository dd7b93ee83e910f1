-- Every number below k is read.
use Rattle.std.proofs.Common.{◌≡◌, ◌<◌, length, ℕ, ◌*◌, get_or}
use Rattle.records.proofs.given.given.Given as goal
use Rattle.records.specs.declared.lent.TheConstants.{LONGEST}

abbrev pub invariant-loop-k : goal.invariant-loop-k
invariant-loop-k g l = (length l.list ≡ LONGEST) × ((j : ℕ) → j < l.k → (past : _) → get_or l.list j past ≡ g.T.TwoBytes.at l.more (2 * j))
