-- The room asked for is the table's; the header is right where the rest refuses.
use Rattle.std.proofs.lemmas.Result.{err_from_is_err_and}
use Rattle.tables.specs.Laws.Questions.{table_rest, table_unsound, table_sound}
use Rattle.tables.proofs.tabled.Goals as goal

pub returns-in_err-sound : goal.returns-in_err-sound
returns-in_err-sound c =
    let p = err_from_is_err_and c.from_residual-in_err-sound.result c.from_residual-in_err-sound.ensures.1 in
    let f = c.in_ok-opened.ensures in
    rw (p.1, p.2) (table_rest c.args.sheet.now _ _ _ f.3 (table_unsound c.args.sheet.now _ _ (rw f.1 at c.in_ok-check_room.ensures) _ (rw f.0 at c.in_err-sound.ensures.staged)))

pub returns : goal.returns
returns c =
    let f = c.in_ok-opened.ensures in
    let g = c.in_ok-sound.ensures in
    table_rest c.args.sheet.now _ _ _ f.3 (table_sound c.args.sheet.now _ _ (rw f.1 at c.in_ok-check_room.ensures) c.in_ok-sound.sound.n (rw (g.same, f.0) at c.in_ok-sound.sound.n_is) _ _ (rw f.0 at g.staged) (rw (g.same, f.0) at c.write_table.ensures))
