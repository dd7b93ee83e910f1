-- Each call gave its entry.
use Rattle.std.proofs.Common.{rules}
use Rattle.records.proofs.lent.marked.Goals as goal

pub returns : goal.returns
returns g c = (c.from_fn.ensures.items.long, λ k _ h past. let e = c.from_fn.ensures.items.at k past h in search rules)
