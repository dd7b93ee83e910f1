-- The lists hold the sheet, and its longest register-free path is theirs.
use Rattle.paths.specs.Laws.Same.{loop_same}
use Rattle.paths.specs.Laws.Loaded.{loaded}
use Rattle.promises.specs.Laws.Period.{period_same}
use Rattle.periods.proofs.sound_period.Goals as goal

pub longest_free-requires : goal.longest_free-requires
longest_free-requires c =
    let f = c.formed-formed.result in
    let h = loaded f.bytes.now f.formed c.of.result c.of.ensures f.n f.n_is _ c.delays.ensures in
    record { delays = h.delays_in; no_loop = λ b l. c.args.sheet.sound.free b (rw c.formed-formed.ensures.0 at (loop_same h.same b l)) }

pub returns : goal.returns
returns c =
    let f = c.formed-formed.result in
    let h = loaded f.bytes.now f.formed c.of.result c.of.ensures f.n f.n_is _ c.delays.ensures in
    rw c.formed-formed.ensures.0 at (period_same h.same h.same_delays _ c.longest_free.ensures)
