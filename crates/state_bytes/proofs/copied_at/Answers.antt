use Rattle.state_bytes.proofs.Places.{meter_good, copy_became}
use Rattle.state_bytes.proofs.copied_at.Goals as goal

pub meter_copied-meter-requires : goal.meter_copied-meter-requires
meter_copied-meter-requires c = search meter_good

pub returns : goal.returns
returns c = copy_became c.requires c.label_at-old_label.ensures c.meter_at-old_meter.ensures c.parts_out.ensures c.flag_at-bl0.ensures _
    c.copied-label.ensures c.meter_copied-meter.ensures.value
