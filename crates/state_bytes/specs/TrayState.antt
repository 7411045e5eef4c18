-- The state of a tray as bytes: its eight places, each by the layout that a session's gauge has; and which bytes are a tray.
use Rattle.std.specs.Prelude.{◌≡◌, Result, Ok, Err, ⊤, Bool, true, List, [], ◌∷◌, map, ℕ, ◌+◌, eqb, leb, length, get_or}
use Rattle.numbers.specs.Choice.{pick, both}
use Rattle.slices.specs.Slices.{put}
use Rattle.bus.specs.Ask.{same_bytes}
use Rattle.state.specs.declared.Meter.{Meter}
use Rattle.gauge.specs.declared.Gauge.{Gauge}
use Rattle.tray_record.specs.declared.Tray.{Tray}
use Rattle.tray_record.specs.Tray.{empty_tray, pack_of}
use Rattle.state_bytes.specs.declared.StateRefusal.{StateRefusal}
use Rattle.state_bytes.specs.declared.StateRefusal.TheVariants as why
use Rattle.state_bytes.specs.Layout.{Layout, number1, flag, indexed, out_each, repeated, ◌then◌, Fields, formed}
use Rattle.state_bytes.specs.State.{gauge_layout, sound_meter, value_or, room_for}

-- ---- the layout

-- the gauges of the eight places, whether a pack is there or not
abbrev pub packs_in : Tray → List Gauge
packs_in tray = indexed (pack_of tray) 0 8

abbrev pub tray_fields : Fields (ℕ × (Bool × List Gauge)) Tray
tray_fields = record {
  to = λ v. record {
    count = v.0;
    closed = v.1.0;
    commons = map (λ g. g.common) v.1.1;
    labels = map (λ g. g.label) v.1.1;
    meters = map (λ g. g.meter) v.1.1;
  };
  from = λ t. (t.count, (t.closed, packs_in t));
}

abbrev pub tray_layout : Layout Tray
tray_layout = formed tray_fields (number1 then flag then repeated 8 gauge_layout)

-- the bytes of the eight places
abbrev pub packs_out : Tray → List ℕ
packs_out tray = out_each gauge_layout (packs_in tray)

-- ---- well-formed, as a test: at most eight packs, and every place as a session's gauge is

abbrev pub sound_each : List Meter → Bool
sound_each [] = true
sound_each (m ∷ ms) = both (sound_meter m) (sound_each ms)

unfoldable pub sound_tray : Tray → Bool
sound_tray tray = both (leb tray.count 8) (sound_each tray.meters)

-- ---- the state of a tray as bytes

-- the first byte: which layout it is. Those of trays are above 128, those of sessions below
abbrev pub tray_version : ℕ
tray_version = 129

abbrev pub tray_state_size : ℕ
tray_state_size = 1 + tray_layout.size

unfoldable pub tray_state_bytes : Tray → List ℕ
tray_state_bytes tray = tray_version ∷ tray_layout.out tray

unfoldable pub tray_at : List ℕ → Tray
tray_at b = tray_layout.at b 1

abbrev pub TrayStateIn : Type 0
TrayStateIn = Result Tray StateRefusal

-- the tray that was read; that before the first record where the bytes are none
abbrev pub tray_in : TrayStateIn → Tray
tray_in = value_or empty_tray

-- which bytes are a tray, and why not (`state_refusal_number` says when each refusal comes)
unfoldable pub tray_state_in : List ℕ → TrayStateIn
tray_state_in b =
    pick (eqb (length b) tray_state_size)
    (pick (eqb (get_or b 0 0) tray_version)
    (pick (both (sound_tray (tray_at b)) (same_bytes (tray_state_bytes (tray_at b)) b)) (Ok (tray_at b))
    (Err why.Unsound))
    (Err why.Version))
    (Err why.Size)

-- the bytes at the front of a lent room, the rest untouched; nothing is written where they do not fit
pub record TrayStateOut (τ : Tray) (room : List ℕ) (done : Result ⊤ StateRefusal) (after : List ℕ) : Type 0 where
  pub fits : done ≡ room_for tray_state_size room
  pub written : after ≡ pick (leb tray_state_size (length room)) (put room 0 (tray_state_bytes τ)) room
