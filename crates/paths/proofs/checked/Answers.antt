-- The header is right where the rest refuses.
use Rattle.std.proofs.lemmas.Result.{err_from_is_err_and}
use Rattle.paths.specs.Laws.Questions.{check_rest, unsound, sound}
use Rattle.paths.proofs.checked.Goals as goal

pub returns-in_err-check_sound : goal.returns-in_err-check_sound
returns-in_err-check_sound c =
    let p = err_from_is_err_and c.from_residual-in_err-check_sound.result c.from_residual-in_err-check_sound.ensures.1 in
    let f = c.in_ok-read_frame.ensures in
    rw (p.1, p.2) (check_rest c.args.sheet.now _ f.3 (unsound c.args.sheet.now _ (rw f.0 at c.in_err-check_sound.ensures.staged)))

pub returns : goal.returns
returns c =
    let f = c.in_ok-read_frame.ensures in
    check_rest c.args.sheet.now _ f.3 (sound c.args.sheet.now (rw f.0 at c.in_ok-check_sound.ensures.staged))
