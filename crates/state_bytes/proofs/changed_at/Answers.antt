use Rattle.state_bytes.proofs.Places.{changed_reading, changed_conversion, changed_sample, changed_power}
use Rattle.state_bytes.proofs.changed_at.Goals as goal

pub returns-in-Reading : goal.returns-in-Reading
returns-in-Reading c = search changed_reading

pub returns-in-Conversion : goal.returns-in-Conversion
returns-in-Conversion c = search changed_conversion

pub returns-in-Sample : goal.returns-in-Sample
returns-in-Sample c = search changed_sample

pub returns-in-PowerOn : goal.returns-in-PowerOn
returns-in-PowerOn c = search changed_power
