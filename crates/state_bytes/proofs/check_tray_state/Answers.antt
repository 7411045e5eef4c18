-- `state_bytes::check_tray_state` meets its contract.
use mathlib.Core.Path.{sym, ap, ◌∙◌}
use mathlib.Core.Bool.{Bool}
use borrow.Author.Tests.{le-leb, lt-leb, lt-ltb, le-ltb}
use lib.Dec.{ltb}
use lib.ListN.{get_or}
use Rattle.numbers.specs.Choice.{both}
use Rattle.state_bytes.specs.State.{checked}
use Rattle.state_bytes.specs.Tested.{sound_places}
use Rattle.state_bytes.proofs.Plain.{tray_tested}
use Rattle.state_bytes.proofs.TrayUndoing.{tray_in_length, tray_in_version, tray_in_state, tray_in_none}
use Rattle.state_bytes.proofs.check_tray_state.Goals as goal
use Rattle.state_bytes.proofs.check_tray_state.Goals.{else-bytes-le-MAX_PACKS-via-then-bytes-le-MAX_PACKS+then-bytes-lt2+else-sound_places}
use Rattle.state_bytes.proofs.check_tray_state.Goals.{else-bytes-le-MAX_PACKS-via-then-bytes-le-MAX_PACKS+else-bytes-lt2}
use Rattle.state_bytes.proofs.check_tray_state.Goals.{else-bytes-le-MAX_PACKS-via-else-bytes-le-MAX_PACKS}

pub returns-then-bytes-ne-TRAY_STATE_SIZE : goal.returns-then-bytes-ne-TRAY_STATE_SIZE
returns-then-bytes-ne-TRAY_STATE_SIZE c = ap checked (tray_in_length _ c.if-bytes-ne-TRAY_STATE_SIZE.true)

pub returns-then-bytes : goal.returns-then-bytes
returns-then-bytes c = ap checked (tray_in_version _ c.if-bytes-ne-TRAY_STATE_SIZE.false c.if-bytes.true)

pub returns-then-sound_places : goal.returns-then-sound_places
returns-then-sound_places c = let b = c.args.bytes.now in
    let size = c.if-bytes-ne-TRAY_STATE_SIZE.false in
    let tested = tray_tested b size c.if-bytes.false (λ i. (c.type_inv.bytes i).fits) in
    let few = le-leb (get_or b 1 0) 8 c.if-bytes-le-MAX_PACKS.true in
    let closed = lt-ltb (get_or b 2 0) 2 c.if-bytes-lt2.true in
    let places = sym c.sound_places.ensures ∙ c.if-sound_places.true in
    ap checked (tray_in_state b size c.if-bytes.false (sym tested ∙ (λ i. both (few i) (both (closed i) (places i)))))

pub returns : goal.returns
returns c = let b = c.args.bytes.now in
    let size = c.if-bytes-ne-TRAY_STATE_SIZE.false in
    let tested = tray_tested b size c.if-bytes.false (λ i. (c.type_inv.bytes i).fits) in
    let rest = both (ltb (get_or b 2 0) 2) (sound_places b 3 0 8) in
    elim c.else-bytes-le-MAX_PACKS.branch [
      | else-bytes-le-MAX_PACKS-via-then-bytes-le-MAX_PACKS+then-bytes-lt2+else-sound_places w ↦
          let few = le-leb (get_or b 1 0) 8 w.if-bytes-le-MAX_PACKS.true in
          let closed = lt-ltb (get_or b 2 0) 2 w.if-bytes-lt2.true in
          let places = sym w.sound_places.ensures ∙ w.if-sound_places.false in
          ap checked (tray_in_none b size c.if-bytes.false (sym tested ∙ (λ i. both (few i) (both (closed i) (places i)))))
      | else-bytes-le-MAX_PACKS-via-then-bytes-le-MAX_PACKS+else-bytes-lt2 w ↦
          let few = le-leb (get_or b 1 0) 8 w.if-bytes-le-MAX_PACKS.true in
          let closed = le-ltb (get_or b 2 0) 2 w.if-bytes-lt2.false in
          ap checked (tray_in_none b size c.if-bytes.false (sym tested ∙ (λ i. both (few i) (both (closed i) (sound_places b 3 0 8)))))
      | else-bytes-le-MAX_PACKS-via-else-bytes-le-MAX_PACKS w ↦
          let few = lt-leb (get_or b 1 0) 8 w.if-bytes-le-MAX_PACKS.false in
          ap checked (tray_in_none b size c.if-bytes.false (sym tested ∙ ap (λ (x : Bool). both x rest) few))
    ]
