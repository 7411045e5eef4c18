use Rattle.state_bytes.proofs.Places.{meter_good, write_became}
use borrow.Author.Rules.{rules}
use Rattle.state_bytes.proofs.written_at.Goals as goal

pub meter_written-meter-requires : goal.meter_written-meter-requires
meter_written-meter-requires c = search (meter_good, rules)

pub returns : goal.returns
returns c = write_became c.requires.placed c.label_at-old_label.ensures c.meter_at-old_meter.ensures c.parts_out.ensures c.flag_at-bl0.ensures
    _ _ c.written-label.ensures c.meter_written-meter.ensures.value
