-- The room asked for is the question's; the header is right where the rest refuses.
use Rattle.std.proofs.Common.{refl}
use Rattle.std.proofs.lemmas.Result.{err_from_is_err_and}
use Rattle.promises.specs.Laws.Asked.{asked_rest, asked_unsound, asked_last, long_of}
use Rattle.refusals.specs.Solving.{last_of}
use Rattle.periods.proofs.lags.lags_by.Goals as goal

pub returns-in_err-sound : goal.returns-in_err-sound
returns-in_err-sound c =
    let p = err_from_is_err_and c.from_residual-in_err-sound.result c.from_residual-in_err-sound.ensures.1 in
    let s = c.args.sheet.now in
    let l = c.args.lags.now in
    let w = c.args.words.now in
    let last = last_of s c.args.aim l w in
    let f = c.in_ok-opened.ensures in
    let long = long_of s l w last (rw f.1 at c.in_ok-check_room.ensures) in
    rw (p.1, p.2) (asked_rest s l w last _ f.3 (asked_unsound s l w last _ refl long.lags_long long.words_long _ (rw f.0 at c.in_err-sound.ensures.staged)))

pub returns : goal.returns
returns c =
    let s = c.args.sheet.now in
    let l = c.args.lags.now in
    let w = c.args.words.now in
    let last = last_of s c.args.aim l w in
    let f = c.in_ok-opened.ensures in
    let g = c.in_ok-sound.ensures in
    let long = long_of s l w last (rw f.1 at c.in_ok-check_room.ensures) in
    asked_rest s l w last _ f.3 (asked_last s l w last _ refl long.lags_long long.words_long _ (rw f.0 at g.staged) (rw (g.same, f.0) at c.sound_lags.ensures))
