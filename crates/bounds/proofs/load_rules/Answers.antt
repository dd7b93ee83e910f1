-- The lists hold the sheet's core, so the keys are those of its paths and ceilings.
use Rattle.std.proofs.Common.{sym, subst}
use Rattle.paths.specs.Questions.{SoundSheet}
use Rattle.paths.specs.Laws.Loaded.{loaded}
use Rattle.bounds.specs.Laws.Loaded.{slow_paths, ruled}
use Rattle.bounds.proofs.load_rules.Goals as goal

pub invariant_of-ordered : goal.invariant_of-ordered
invariant_of-ordered c =
    let f = c.formed-formed.result in
    let h = loaded f.bytes.now f.formed c.of-wiring.result c.of-wiring.ensures f.n f.n_is _ c.delays-delays.ensures in
    record { small = h.delays_in; complete = ∣ c.in_turn.ensures ∣₁; slow = slow_paths (subst SoundSheet (sym c.formed-formed.ensures.0) c.args.sheet.sound) h }

pub returns : goal.returns
returns c =
    let f = c.formed-formed.result in
    let h = loaded f.bytes.now f.formed c.of-wiring.result c.of-wiring.ensures f.n f.n_is _ c.delays-delays.ensures in
    let S = subst SoundSheet (sym c.formed-formed.ensures.0) c.args.sheet.sound in
    rw c.formed-formed.ensures.0 at (ruled S h c.fill_keys.ensures c.fold_ceilings.ensures f.n f.n_is c.limits.ensures.lower c.limits.ensures.upper)
