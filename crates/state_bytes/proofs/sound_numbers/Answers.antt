use Rattle.state_bytes.proofs.Tested.{full_fails, age_fails, low_fails, high_fails, sum_fails, all_numbers}
use Rattle.state_bytes.proofs.sound_numbers.Goals as goal

pub returns-then-pair-gt16384 : goal.returns-then-pair-gt16384
returns-then-pair-gt16384 c = search full_fails

pub returns-then-quad-ge2097120 : goal.returns-then-quad-ge2097120
returns-then-quad-ge2097120 c = search age_fails

pub returns-then-bytes-at-lt63 : goal.returns-then-bytes-at-lt63
returns-then-bytes-at-lt63 c = search low_fails

pub returns-then-bytes-at-gt128 : goal.returns-then-bytes-at-gt128
returns-then-bytes-at-gt128 c = search high_fails

pub returns-then-run-quad : goal.returns-then-run-quad
returns-then-run-quad c = search sum_fails

pub returns : goal.returns
returns c = search all_numbers
