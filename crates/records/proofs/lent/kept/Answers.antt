-- The test of each number from `first` on.
use Rattle.std.proofs.Common.{rules, ◌-◌, refl}
use Rattle.std.proofs.lemmas.Iterator.{cases_from_all, YieldsList-from_range}
use Rattle.records.specs.Lent.{AsBefore}
use Rattle.records.specs.Laws.Lent.{kept_by_range}
use Rattle.records.proofs.lent.kept.Goals as goal
use Rattle.records.specs.declared.lent.TheConstants.{LONGEST}

pub returns : goal.returns
returns g c =
    let Yes = AsBefore g.T.Lent.before c.args.list.now in
    kept_by_range _ _ _ _ (cases_from_all _ _ _ Yes (λ i. Yes i → ⊥) c.all.ensures.ran (YieldsList-from_range c.args.first LONGEST (LONGEST - c.args.first) refl refl) (λ x q k. search rules) (λ x q k. search rules))
