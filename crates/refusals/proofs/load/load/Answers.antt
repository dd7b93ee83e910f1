-- The limits, and the lists of wires that were filled, are those of the sheet.
use Rattle.std.proofs.Common.{◌∙◌, sym, refl, arith}
use Rattle.refusals.specs.Laws.Load.{Wires, still, loaded, loaded_held}
use Rattle.refusals.proofs.load.load.Goals as goal

pub returns : goal.returns
returns c =
    let s = c.args.sheet in
    let R = c.requires in
    let f = c.formed-formed.ensures in
    let L = rw (f.0, f.1 ∙ sym R.0) at c.limits.ensures in
    let W = rw (f.0, f.2 ∙ sym R.1) at c.load_wires.ensures in
    let long : Wires c.args.given.now = record { from_long = omega arith; to_long = omega arith; wires_long = omega arith; ceilings_long = omega arith } in
    record {
      held = loaded_held s.bytes.now s.sound c.args.given.now (R.0 ∙ s.n_is) (R.1 ∙ s.m_is) long _ _ still still L.lower L.upper W.from W.to W.wires W.ceilings;
      kept = (refl, refl, refl, refl, refl);
      loaded = loaded s.bytes.now s.sound c.args.given.now (R.0 ∙ s.n_is) (R.1 ∙ s.m_is) long _ _ still still L.lower L.upper W.from W.to W.wires W.ceilings;
    }
