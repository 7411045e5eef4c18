-- `tray_image::slot_of` meets its contract. The invariant: the number, carried on through the digits that are left, is that of the word, up to 8.
use mathlib.Core.Path.{◌≡◌}
use Prim.Native.Nat.{◌≤◌, min}
use lib.ListN.{drop}
use Rattle.tray_image.specs.TrayImage.{value_from}
use Rattle.tray_image.proofs.slot_of.Given as goal

abbrev pub invariant-loop-c : goal.invariant-loop-c
invariant-loop-c l = (l.n ≤ 8) × (min (value_from l.n (drop l.c-index l.word)) 8 ≡ min (value_from 0 l.word) 8)
