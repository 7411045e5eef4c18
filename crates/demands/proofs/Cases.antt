-- The tables of the three classes, computed.
use mathlib.Core.Path.{◌≡◌, refl}
use mathlib.Core.List.{List, [], ◌∷◌, map}
use Prim.Native.Nat.{ℕ}
use Rattle.std.specs.Prelude.{Err}
use Rattle.label.specs.Label.{in_label, in_block}
use Rattle.bus.specs.Ask.{rom_by, command_of, asked_at, asked_of, own_of}
use Rattle.replies.specs.Reply.{selected_of}
use Rattle.record.specs.declared.Refusal.TheVariants.{Breaks, Repeated}
use Rattle.record.specs.Record.{kind_of, taken_of}
use Rattle.state.specs.State.{timely_of}
use Rattle.tray_record.specs.Tray.{tray_kind_of}
use Rattle.demands.specs.Sections.{fence}
use Rattle.demands.specs.Class.{Selects, block_of, touched_of, labels_of, touched_class, taken_class, class_of, tray_class}
use Rattle.demands.specs.Cases.{own_address, second_address, class_cases, tray_class_cases, ClassesHold}

pub cases_hold : map (λ c. class_of own_address c.0) class_cases ≡ map (λ c. c.1) class_cases
unfolding taken_of kind_of asked_of asked_at rom_by command_of selected_of own_of touched_class labels_of touched_of block_of in_label in_block
cases_hold = refl

pub crossed_fence : (selects : Selects) (p : List ℕ) → taken_class selects p (Err Breaks) ≡ fence
crossed_fence selects p = refl

pub tray_cases_hold : map (λ c. tray_class (own_address ∷ second_address ∷ []) c.0) tray_class_cases ≡ map (λ c. c.1) tray_class_cases
unfolding tray_kind_of timely_of asked_of asked_at rom_by command_of selected_of own_of touched_class labels_of touched_of block_of in_label in_block
tray_cases_hold = refl

pub repeated_fence : (selects : Selects) (p : List ℕ) → taken_class selects p (Err Repeated) ≡ fence
repeated_fence selects p = refl

pub classes_hold : ClassesHold
classes_hold = record { session = cases_hold; tray = tray_cases_hold; crossed = crossed_fence; repeated = repeated_fence }
