-- What a change makes of a gauge: a reading, a conversion, a sample or a power-on.
use Rattle.record.specs.declared.Change.{Change}
use Rattle.record.specs.declared.Change.TheVariants.{Reading, Conversion, Sample, PowerOn}
use Rattle.gauge.specs.declared.Gauge.{Gauge}
use Rattle.gauge.specs.Gauge.{conversion_of, sampling_of, reading_of, power_on_of}

abbrev pub changed_of : Gauge → Change → Gauge
changed_of gauge (Reading volt temp) = reading_of gauge volt temp
changed_of gauge (Conversion raw) = conversion_of gauge raw
changed_of gauge (Sample raw tick) = sampling_of gauge raw tick
changed_of gauge PowerOn = power_on_of gauge
