-- The lists hold the sheet, and its table is theirs.
use Rattle.std.proofs.Common.{◌≡◌, ◌∙◌, sym}
use Rattle.paths.specs.Laws.Same.{loop_same}
use Rattle.paths.specs.Laws.Loaded.{loaded}
use Rattle.tables.specs.Laws.Tables.{rows_same}
use Rattle.tables.proofs.table.write_table.Goals as goal

pub of-requires : goal.of-requires
of-requires c =
    let f = c.formed-formed.result in
    let h = loaded f.bytes.now f.formed c.of-wiring.result c.of-wiring.ensures f.n f.n_is _ c.delays-delays.ensures in
    record { small = h.delays_in; no_loop = λ b l. c.args.sheet.sound.free b (rw c.formed-formed.ensures.0 at (loop_same h.same b l)) }

pub fill_table-requires : goal.fill_table-requires
fill_table-requires c =
    let f = c.formed-formed.result in
    let h = loaded f.bytes.now f.formed c.of-wiring.result c.of-wiring.ensures f.n f.n_is _ c.delays-delays.ensures in
    let e : c.of-wiring.result.n ≡ c.args.sheet.n = c.of-wiring.ensures.n_is ∙ sym f.n_is ∙ c.formed-formed.ensures.1 in
    rw (c.of.ensures.0, e) c.requires

pub returns : goal.returns
returns c =
    let f = c.formed-formed.result in
    let h = loaded f.bytes.now f.formed c.of-wiring.result c.of-wiring.ensures f.n f.n_is _ c.delays-delays.ensures in
    let e : c.of-wiring.result.n ≡ c.args.sheet.n = c.of-wiring.ensures.n_is ∙ sym f.n_is ∙ c.formed-formed.ensures.1 in
    let r = rw (c.of.ensures.0, c.of.ensures.1) at c.fill_table.ensures in
    rw (c.formed-formed.ensures.0, e) at (rows_same _ h.same h.same_delays r)
