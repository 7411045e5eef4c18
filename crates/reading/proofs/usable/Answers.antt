use borrow.Author.Rules.{rules}
use Rattle.reading.specs.Reading.{usable_of}
use Rattle.reading.proofs.usable.Goals as goal

pub returns : goal.returns
unfolding usable_of
returns c = search rules
