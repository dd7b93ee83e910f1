-- The header is right where the rest refuses.
use Rattle.std.proofs.lemmas.Result.{err_from_is_err_and}
use Rattle.loops.specs.Laws.Question.{loop_rest, loop_unsound}
use Rattle.loops.proofs.checked.Goals as goal

pub returns-in_err-sound : goal.returns-in_err-sound
returns-in_err-sound c =
    let p = err_from_is_err_and c.from_residual-in_err-sound.result c.from_residual-in_err-sound.ensures.1 in
    let f = c.in_ok-read_frame.ensures in
    rw (p.1, p.2) (loop_rest c.args.sheet.now _ c.args.words.now _ f.3 (loop_unsound c.args.sheet.now _ c.args.words.now _ (rw f.0 at c.in_err-sound.ensures.staged)))
