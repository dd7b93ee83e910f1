-- A wire whose start has news is tried.
use Rattle.std.proofs.Common.{refl, rules}
use Rattle.keys.specs.Filling.Stepped.{tried}
use Rattle.keys.proofs.sweep.step.Goals as goal

pub returns-then-take_news : goal.returns-then-take_news
returns-then-take_news c = tried c.try_wire-r.result (λ e. search rules) (λ e. search rules) (rw c.take_news.ensures.rows refl) c.if-take_news.ensures.seen c.try_wire-r.ensures
