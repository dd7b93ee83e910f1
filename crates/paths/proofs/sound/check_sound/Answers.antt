-- Loops are looked for in a formed sheet.
use Rattle.std.proofs.lemmas.Result.{err_from_is_err_and}
use Rattle.sheet.specs.Sheet.{entry_rules}
use Rattle.sheet.specs.Laws.Rules.{first_left, first_right, none_both}
use Rattle.paths.specs.Questions.{loop_rules}
use Rattle.paths.specs.Laws.Questions.{formed_sound}
use Rattle.paths.proofs.sound.check_sound.Goals as goal

pub returns-in_err-formed-clause-staged : goal.returns-in_err-formed-clause-staged
returns-in_err-formed-clause-staged c =
    let p = err_from_is_err_and c.from_residual.result c.from_residual.ensures.1 in
    rw (p.1, p.2) (first_left (entry_rules c.args.sheet.bytes.now) (loop_rules c.args.sheet.bytes.now) _ c.in_err-formed.ensures.staged)

pub returns-in_err-check_loops-clause-staged : goal.returns-in_err-check_loops-clause-staged
returns-in_err-check_loops-clause-staged c =
    let p = err_from_is_err_and c.from_residual-in_err-check_loops.result c.from_residual-in_err-check_loops.ensures.1 in
    let f = c.in_ok-formed.ensures in
    rw (p.1, p.2) (first_right (entry_rules c.args.sheet.bytes.now) (loop_rules c.args.sheet.bytes.now) _ f.staged (rw f.same at c.in_err-check_loops.ensures))

pub returns-clause-staged : goal.returns-clause-staged
returns-clause-staged c =
    let f = c.in_ok-formed.ensures in
    none_both (entry_rules c.args.sheet.bytes.now) (loop_rules c.args.sheet.bytes.now) f.staged (rw f.same at c.in_ok-check_loops.ensures)

pub invariant_of-result-clause-sound : goal.invariant_of-result-clause-sound
invariant_of-result-clause-sound c = formed_sound _ c.in_ok-formed.formed.formed c.in_ok-check_loops.ensures
