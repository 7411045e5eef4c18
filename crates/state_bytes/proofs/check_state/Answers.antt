-- `state_bytes::check_state` meets its contract.
use mathlib.Core.Path.{◌≡◌, sym, ap, ◌∙◌}
use mathlib.Core.Bool.{true, false}
use borrow.Author.Tests.{lt-ltb, le-ltb}
use lib.Dec.{ltb}
use lib.ListN.{get_or}
use Rattle.numbers.specs.Choice.{both}
use Rattle.state_bytes.specs.State.{checked}
use Rattle.state_bytes.specs.Tested.{sound_places}
use Rattle.state_bytes.proofs.Plain.{state_tested}
use Rattle.state_bytes.proofs.Undoing.{in_length, in_version, in_state, in_none}
use Rattle.state_bytes.proofs.check_state.Goals as goal
use Rattle.state_bytes.proofs.check_state.Goals.{else-bytes-lt2-via-then-bytes-lt2+else-sound_places, else-bytes-lt2-via-else-bytes-lt2}

pub returns-then-bytes-ne-STATE_SIZE : goal.returns-then-bytes-ne-STATE_SIZE
returns-then-bytes-ne-STATE_SIZE c = ap checked (in_length _ c.if-bytes-ne-STATE_SIZE.true)

pub returns-then-bytes-ne-STATE_VERSION : goal.returns-then-bytes-ne-STATE_VERSION
returns-then-bytes-ne-STATE_VERSION c = ap checked (in_version _ c.if-bytes-ne-STATE_SIZE.false c.if-bytes-ne-STATE_VERSION.true)

pub returns-then-sound_places : goal.returns-then-sound_places
returns-then-sound_places c = let b = c.args.bytes.now in
    let size = c.if-bytes-ne-STATE_SIZE.false in
    let version = c.if-bytes-ne-STATE_VERSION.false in
    let tests : both (ltb (get_or b 1 0) 2) (sound_places b 2 0 1) ≡ true =
    λ i. both (lt-ltb (get_or b 1 0) 2 c.if-bytes-lt2.true i) ((sym c.sound_places.ensures ∙ c.if-sound_places.true) i) in
    ap checked (in_state b size version (sym (state_tested b size version (λ i. (c.type_inv.bytes i).fits)) ∙ tests))

pub returns : goal.returns
returns c = let b = c.args.bytes.now in
    let size = c.if-bytes-ne-STATE_SIZE.false in
    let version = c.if-bytes-ne-STATE_VERSION.false in
    let tested = state_tested b size version (λ i. (c.type_inv.bytes i).fits) in
    elim c.else-bytes-lt2.branch [
      | else-bytes-lt2-via-then-bytes-lt2+else-sound_places w ↦
          let tests : both (ltb (get_or b 1 0) 2) (sound_places b 2 0 1) ≡ false =
          λ i. both (lt-ltb (get_or b 1 0) 2 w.if-bytes-lt2.true i) ((sym w.sound_places.ensures ∙ w.if-sound_places.false) i) in
          ap checked (in_none b size version (sym tested ∙ tests))
      | else-bytes-lt2-via-else-bytes-lt2 w ↦
          let test : both (ltb (get_or b 1 0) 2) (sound_places b 2 0 1) ≡ false =
          λ i. both (le-ltb (get_or b 1 0) 2 w.if-bytes-lt2.false i) (sound_places b 2 0 1) in
          ap checked (in_none b size version (sym tested ∙ test))
    ]
