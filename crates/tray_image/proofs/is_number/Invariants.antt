-- `tray_image::is_number` meets its contract. The invariant: the bytes that are left are all digits exactly where all are.
use mathlib.Core.Path.{◌≡◌}
use lib.ListN.{drop}
use Rattle.tray_image.specs.TrayImage.{all_digits}
use Rattle.tray_image.proofs.is_number.Given as goal

abbrev pub invariant-loop-c : goal.invariant-loop-c
invariant-loop-c l = all_digits (drop l.c-index l.word) ≡ all_digits l.word
