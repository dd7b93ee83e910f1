-- The registers of the wires below j are put.
use Rattle.std.proofs.Common.{◌≡◌}
use Rattle.moves.specs.Lags.{lags_in}
use Rattle.moves.specs.Write.{puts, registers_from, moved_registers}
use Rattle.moves.proofs.lags.Move.put_registers.Given as goal

abbrev pub invariant-loop-j : goal.invariant-loop-j
invariant-loop-j l = l.moved ≡ puts (registers_from l.self.asked.sheet.n) (moved_registers l.self.asked.sheet.bytes.now (lags_in l.self.asked.lags.now)) l.j l.initial.moved
