-- Two causes at once, by computation.
use mathlib.Core.Path.{refl}
use Rattle.crc.specs.Crc as crc
use Rattle.record.specs.Record.{addressed_of, ordered_of, judged_among}
use Rattle.preset_session.specs.PresetSession.{preset_answer}
use Rattle.preset_session.specs.PresetPairs.{PresetAlone, PresetSizeFirst, PresetAddressFirst, PresetLocksFirst, PresetBreaksFirst}
use Rattle.preset_session.specs.PresetPairs.{PresetParametersFirst, PresetLockFirst}

pub preset_alone : PresetAlone
unfolding preset_answer judged_among addressed_of ordered_of crc.bit_of crc.eight_of crc.next_of
preset_alone = refl

pub preset_size_first : PresetSizeFirst
unfolding preset_answer judged_among addressed_of ordered_of crc.bit_of crc.eight_of crc.next_of
preset_size_first = refl

pub preset_address_first : PresetAddressFirst
unfolding preset_answer judged_among addressed_of ordered_of crc.bit_of crc.eight_of crc.next_of
preset_address_first = refl

pub preset_locks_first : PresetLocksFirst
unfolding preset_answer judged_among addressed_of ordered_of crc.bit_of crc.eight_of crc.next_of
preset_locks_first = refl

pub preset_breaks_first : PresetBreaksFirst
unfolding preset_answer judged_among addressed_of ordered_of crc.bit_of crc.eight_of crc.next_of
preset_breaks_first = refl

pub preset_parameters_first : PresetParametersFirst
unfolding preset_answer judged_among addressed_of ordered_of crc.bit_of crc.eight_of crc.next_of
preset_parameters_first = refl

pub preset_lock_first : PresetLockFirst
unfolding preset_answer judged_among addressed_of ordered_of crc.bit_of crc.eight_of crc.next_of
preset_lock_first = refl
