-- The answer says the outcome.
use Rattle.tables.proofs.path_table.Goals as goal

pub returns : goal.returns
returns c = rw c.of.ensures c.tabled.ensures
