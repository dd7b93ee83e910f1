-- A link takes two words at least.
use Rattle.loops.specs.Laws.Links.{head_short}
use Rattle.loops.proofs.link.head_at.Goals as goal

pub returns-then-words-at : goal.returns-then-words-at
returns-then-words-at c = head_short c.args.words.now _ c.if-words-at.true
