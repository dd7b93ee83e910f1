-- Where the wires refuse, no block does.
use Rattle.std.proofs.lemmas.Result.{err_from_is_err_and}
use Rattle.sheet.specs.Sheet.{block_rules, wire_rules}
use Rattle.sheet.specs.Laws.Rules.{first_right}
use Rattle.sheet.proofs.entries.check_entries.Goals as goal

pub returns-in_err-check_wires-clause-staged : goal.returns-in_err-check_wires-clause-staged
returns-in_err-check_wires-clause-staged c =
    let p = err_from_is_err_and c.from_residual-in_err-check_wires.result c.from_residual-in_err-check_wires.ensures.1 in
    rw (p.1, p.2) (first_right (block_rules c.args.sheet.bytes.now) (wire_rules c.args.sheet.bytes.now) _ c.in_ok-check_blocks.ensures c.in_err-check_wires.ensures)
