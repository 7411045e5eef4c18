use borrow.Author.Rules.{rules}
use Rattle.gauge.specs.Image.{image_of}
use Rattle.gauge.proofs.image_in.Goals as goal

pub returns-clause-value : goal.returns-clause-value
unfolding image_of
returns-clause-value c = search rules
