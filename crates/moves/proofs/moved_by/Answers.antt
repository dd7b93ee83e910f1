-- The room asked for is the move's; the header is right where the rest refuses.
use Rattle.std.proofs.Common.{arith}
use Rattle.std.proofs.lemmas.Result.{err_from_is_err_and}
use Rattle.moves.specs.Laws.Questions.{move_rest, move_unsound, move_forbidden, move_done}
use Rattle.moves.proofs.moved_by.Goals as goal

pub returns-in_err-sound : goal.returns-in_err-sound
returns-in_err-sound c =
    let p = err_from_is_err_and c.from_residual-in_err-sound.result c.from_residual-in_err-sound.ensures.1 in
    let f = c.in_ok-opened.ensures in
    rw (p.1, p.2) (move_rest c.args.sheet.now c.args.lags.now _ _ f.3 (move_unsound c.args.sheet.now c.args.lags.now _ (rw f.1 at c.in_ok-check_room.ensures) _ (rw f.0 at c.in_err-sound.ensures.staged)))

pub returns-in_err-permitted : goal.returns-in_err-permitted
returns-in_err-permitted c =
    let p = err_from_is_err_and c.from_residual-in_err-permitted.result c.from_residual-in_err-permitted.ensures.1 in
    let f = c.in_ok-opened.ensures in
    let g = c.in_ok-sound.ensures in
    rw (p.1, p.2) (move_rest c.args.sheet.now c.args.lags.now _ _ f.3 (move_forbidden c.args.sheet.now c.args.lags.now _ (rw f.1 at c.in_ok-check_room.ensures) _ (rw f.0 at g.staged) (rw (c.formed.ensures.0, g.same, f.0) at c.in_err-permitted.ensures.staged)))

pub returns : goal.returns
returns c =
    let f = c.in_ok-opened.ensures in
    let g = c.in_ok-sound.ensures in
    let m = c.in_ok-permitted.ensures in
    move_rest c.args.sheet.now c.args.lags.now _ _ f.3 (move_done c.args.sheet.now c.args.lags.now _ (rw f.1 at c.in_ok-check_room.ensures) _ (rw (g.same, f.0) at c.in_ok-sound.sound.sound.formed) (rw f.0 at g.staged) (rw (c.formed.ensures.0, g.same, f.0) at m.staged) (rw (m.same.0, m.same.1, c.formed.ensures.0, g.same, f.0) at c.write.ensures) (record { below = λ i. omega (arith, c.type_inv.moved i) }))
