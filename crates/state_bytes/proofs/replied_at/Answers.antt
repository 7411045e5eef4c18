use Rattle.state_bytes.proofs.Places.{meter_good, parts_reply}
use borrow.Author.Rules.{rules}
use Rattle.state_bytes.proofs.replied_at.Goals as goal

pub replied-requires : goal.replied-requires
replied-requires c = search (meter_good, rules)

pub returns : goal.returns
returns c = search parts_reply
