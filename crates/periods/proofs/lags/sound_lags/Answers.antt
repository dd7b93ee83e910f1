-- Lags that were found are written out; where none were, the loop is looked for.
use Rattle.periods.specs.Laws.Quick.{quick_writes, quick_done}
use Rattle.periods.proofs.lags.sound_lags.Goals as goal

pub write_lags-requires : goal.write_lags-requires
write_lags-requires c = quick_writes c.args.sheet.sound c.args.sheet.n_is c.quick.ensures _ c.in-Some.is _ c.requires.0

pub returns-in-Some : goal.returns-in-Some
returns-in-Some c = quick_done c.args.sheet.sound c.args.sheet.n_is c.quick.ensures _ c.in-Some.is _ _ _ c.requires.0 c.write_lags.ensures
