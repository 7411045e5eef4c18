-- ALONE: "A slot's event, or a matched transaction, changes no other pack."
use Rattle.std.specs.Prelude.{◌≡◌, Bool, true, List, ℕ, eqb}
use Rattle.numbers.specs.Choice.{either}
use Rattle.record.specs.declared.Form.{Form}
use Rattle.record.specs.Record.{transaction_in, master_of}
use Rattle.runs.specs.Record.{Rec, whole}
use Rattle.tray_record.specs.declared.Tray.{Tray}
use Rattle.tray_record.specs.Tray.{pack_of, slot_in, Reach, one, tray_reach, tray_did}
use Rattle.demands.specs.Longer.{form_kind}

-- "Readings, conversions, kind 6 samples and power-ons come as kinds 18, 19, 22 and 21"
abbrev pub slot_event : ℕ → Bool
slot_event n = either (eqb n 18) (either (eqb n 19) (either (eqb n 21) (eqb n 22)))

-- whom the transaction of a payload of a form reaches
abbrev pub reach_in : Tray → Form → List ℕ → Reach
reach_in tray form p = tray_reach tray (transaction_in form p) (master_of (transaction_in form p) p)

-- a record of the slot i: its event, or a transaction that the search matches to it
pub data Goes (τ : Tray) (i : ℕ) : Rec → Type 0 where
  slotted : {n : ℕ} {p : List ℕ} → slot_event n ≡ true → slot_in p ≡ i → Goes τ i (whole n p)
  matched : (f : Form) {p : List ℕ} → reach_in τ f p ≡ one i → Goes τ i (whole (form_kind f) p)

-- of any tray and any room that is left
abbrev pub Alone : Type 0
Alone = (τ : Tray) (room : ℕ) (r : Rec) (i j : ℕ) → Goes τ i r → (j ≡ i → ⊥) → pack_of (tray_did τ room r).state j ≡ pack_of τ j

-- and it speaks of something: an event changes the pack of its own slot, and so does a transaction that is matched to it; and a write by CCh, which goes to
-- every pack, changes two of them, to one label
pub record AloneMet : Type 0 where
  pub tray : Tray
  pub room : ℕ
  pub event : Rec
  pub slot : ℕ
  pub goes : Goes tray slot event
  pub changes : pack_of (tray_did tray room event).state slot ≡ pack_of tray slot → ⊥
  pub form : Form
  pub payload : List ℕ
  pub reaches : reach_in tray form payload ≡ one slot
  pub matched_changes : pack_of (tray_did tray room (whole (form_kind form) payload)).state slot ≡ pack_of tray slot → ⊥
  pub skip : Rec
  pub first_hears : pack_of (tray_did tray room skip).state 0 ≡ pack_of tray 0 → ⊥
  pub second_hears : pack_of (tray_did tray room skip).state 1 ≡ pack_of tray 1 → ⊥
  pub same_label : (pack_of (tray_did tray room skip).state 0).label.shadow ≡ (pack_of (tray_did tray room skip).state 1).label.shadow
