-- The longest delay so far is no shorter than any delay seen.
use Rattle.std.proofs.Common.{ℕ, ◌<◌, ◌≤◌, get_or}
use Rattle.solver.proofs.sweep.longest_delay.Given as goal

abbrev pub invariant-loop-delay : goal.invariant-loop-delay
invariant-loop-delay l = (j : ℕ) → j < l.delay-index → get_or l.delays j 0 ≤ l.longest
