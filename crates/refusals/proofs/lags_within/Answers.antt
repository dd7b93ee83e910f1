-- The table makes the rules of the period; what the solver gives then is the answer.
use Rattle.std.proofs.Common.{◌≡◌, ◌∙◌, sym}
use Rattle.refusals.specs.Laws.Solving.{table_written, goes_on, later_refuses, later_writes, later_done}
use Rattle.refusals.proofs.lags_within.Goals as goal

pub solve-requires-clause-solving : goal.solve-requires-clause-solving
solve-requires-clause-solving c =
    let e : c.args.sheet.n ≡ c.args.given.now.n = c.args.sheet.n_is ∙ sym c.requires.resting.solving.stands.n_is in
    rw c.formed.ensures.0 (goes_on c.requires.resting (rw e at c.write_table.ensures) _ c.requires.loaded)

pub returns-in-Err : goal.returns-in-Err
returns-in-Err c = later_refuses _ _ c.in-Err.is c.requires.resting (rw c.formed.ensures.0 at c.solve.ensures)

pub write_lags-requires : goal.write_lags-requires
write_lags-requires c = later_writes c.solve.ensures c.in_default.is _ c.requires.room.0

pub returns : goal.returns
returns c =
    let e : c.args.sheet.n ≡ c.args.given.now.n = c.args.sheet.n_is ∙ sym c.requires.resting.solving.stands.n_is in
    later_done (rw c.formed.ensures.0 at c.solve.ensures) c.in_default.is (table_written c.requires.resting (rw e at c.write_table.ensures)) _ _ c.requires.room.0 c.write_lags.ensures
