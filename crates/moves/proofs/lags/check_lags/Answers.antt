-- Where the wires refuse, no lag does; what passes both is permitted.
use Rattle.std.proofs.lemmas.Result.{err_from_is_err_and}
use Rattle.sheet.specs.Laws.Rules.{first_right, none_both}
use Rattle.moves.specs.Lags.{lags_in}
use Rattle.moves.specs.Move.{range_rules, fit_rules}
use Rattle.moves.specs.Laws.Questions.{none_permitted}
use Rattle.moves.proofs.lags.check_lags.Goals as goal

pub returns-in_err-check_wires-clause-staged : goal.returns-in_err-check_wires-clause-staged
returns-in_err-check_wires-clause-staged c =
    let p = err_from_is_err_and c.from_residual-in_err-check_wires.result c.from_residual-in_err-check_wires.ensures.1 in
    let s = c.args.asked.sheet.bytes.now in
    let r = lags_in c.args.asked.lags.now in
    rw (p.1, p.2) (first_right (range_rules s r) (fit_rules s r) _ c.in_ok-check_ranges.ensures c.in_err-check_wires.ensures)

pub invariant_of-result : goal.invariant_of-result
invariant_of-result c =
    let s = c.args.asked.sheet.bytes.now in
    let r = lags_in c.args.asked.lags.now in
    record { permitted = none_permitted s r (none_both (range_rules s r) (fit_rules s r) c.in_ok-check_ranges.ensures c.in_ok-check_wires.ensures) }
