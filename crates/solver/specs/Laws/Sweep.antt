-- Sweeps, one after another; and the sweeps of a round go over every rule.
-- Assumes nothing.
use Rattle.std.specs.Prelude.{refl, Bool, true, false, ◌||◌, List, ℕ}
use Rattle.std.proofs.Common.{ap, ◌∙◌, arith}
use Rattle.solver.specs.declared.Given.{Given}
use Rattle.solver.specs.declared.Standing.{Standing}
use Rattle.solver.specs.System.{path, wire, ceiling}
use Rattle.solver.specs.State.{Swept, WiresHold, PathsHold, AllHold}
use Rattle.sheet.specs.Sum.{sum}

pub sweep_both : {g : Given} {Done More All : List ℕ → Type 0} {t t' t'' : Standing} {x y : Bool} → Swept g Done t t' x → Swept g More t' t'' y
    → ((l : List ℕ) → Done l → More l → All l) → Swept g All t t'' (x || y)
sweep_both {x = false} {y = false} S T f =
    let s = S.same refl in
    let t = T.same refl in
    record { state = T.state; less = λ z. cc; same = λ _. (t.0 ∙ s.0, f _ (rw t.0 s.1) t.1) }
sweep_both {x = false} {y = true} S T f =
    record { state = T.state; less = λ _. omega (arith, T.less refl, ap sum (S.same refl).0); same = λ z. cc }
sweep_both {x = true} {y = false} S T f =
    record { state = T.state; less = λ _. omega (arith, S.less refl, ap sum (T.same refl).0); same = λ z. cc }
sweep_both {x = true} {y = true} S T f =
    record { state = T.state; less = λ _. omega (arith, S.less refl, T.less refl); same = λ z. cc }

module _ {g : Given} where
  pub all_hold : (l : List ℕ) → WiresHold g.from g.to g.wires g.m l × WiresHold g.to g.from g.ceilings g.m l → PathsHold g g.n l → AllHold g l
  all_hold l h p r a b k (path er ha hb hd ek) = rw ek (p a ha b hb hd)
  all_hold l h p r a b k (wire j hj er ea eb ek) = rw (ea, eb, ek) (h.0 j hj)
  all_hold l h p r a b k (ceiling j hj er ea eb ek) = rw (ea, eb, ek) (h.1 j hj)
