-- The header is right where the rest refuses.
use Rattle.std.proofs.lemmas.Result.{err_from_is_err_and}
use Rattle.promises.specs.Laws.Period.{period_unsound, period_found}
use Rattle.periods.proofs.standing.Goals as goal

pub returns-in_err-sound : goal.returns-in_err-sound
returns-in_err-sound c =
    let p = err_from_is_err_and c.from_residual-in_err-sound.result c.from_residual-in_err-sound.ensures.1 in
    let f = c.in_ok-read_frame.ensures in
    rw (p.1, p.2) (period_unsound c.args.sheet.now _ f.3 (rw f.0 at c.in_err-sound.ensures.staged))

pub returns : goal.returns
returns c =
    let f = c.in_ok-read_frame.ensures in
    let g = c.in_ok-sound.ensures in
    period_found c.args.sheet.now _ f.3 (rw f.0 at g.staged) (rw (g.same, f.0) at c.sound_period.ensures)
