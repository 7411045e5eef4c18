-- A slot's event and a matched transaction leave every other pack as it was.
use mathlib.Core.Path.{◌≡◌, refl, sym, ap, ◌∙◌}
use mathlib.Core.Bool.{Bool, true, false}
use mathlib.Core.List.{List}
use Prim.Native.Nat.{ℕ}
use native.Mathlib.Omega.{arith}
use borrow.Author.Tests.{eqb-true}
use lib.Dec.{eqb}
use Rattle.std.specs.Prelude.{Ok, Err}
use Rattle.numbers.specs.Choice.{either}
use Rattle.bus.specs.declared.Transaction.{Transaction}
use Rattle.gauge.specs.Change.{changed_of}
use Rattle.gauge.specs.Act.{act_of}
use Rattle.record.specs.declared.Form.{Form}
use Rattle.record.specs.declared.Form.TheVariants.{Short, Long}
use Rattle.record.specs.declared.Kind.{Kind}
use Rattle.record.specs.declared.Kind.TheVariants as kind
use Rattle.record.specs.declared.Event.TheVariants.{Image, Change, Transact}
use Rattle.record.specs.Record.{kind_of, transaction_in, master_of, Taken}
use Rattle.runs.specs.AnyRecord.{answered_by}
use Rattle.tray_record.specs.declared.Tray.{Tray}
use Rattle.tray_record.specs.Tray.{pack_of, tray_kind_of, ahead_of, slot_in, Reach, one, tray_reach, tray_acted, tray_told, of_tray, tray_did}
use Rattle.demands.specs.Longer.{form_kind}
use Rattle.demands.specs.Alone.{slot_event, reach_in, slotted, matched, Alone}
use Rattle.demands.proofs.Choice.{contrary}
use Rattle.demands.proofs.Fitted.{fitted_has}
use Rattle.tray_record.proofs.Laws.{stored_other}
use Rattle.demands.proofs.Asked.{Heard, Asks, tray_asks}

-- A slot's event has a slot byte ahead

pub slot_ahead : (n : ℕ) → slot_event n ≡ true → ahead_of (tray_kind_of n) ≡ 1
unfolding tray_kind_of
slot_ahead n = go (eqb n 18) (eqb n 19) (eqb n 21) (eqb n 22) refl refl refl refl
  where
    is : (m : ℕ) → eqb n m ≡ true → ahead_of (tray_kind_of m) ≡ 1 → ahead_of (tray_kind_of n) ≡ 1
    is m e h = ap (λ (x : ℕ). ahead_of (tray_kind_of x)) (eqb-true n m e) ∙ h

    go : (a b c d : Bool) → eqb n 18 ≡ a → eqb n 19 ≡ b → eqb n 21 ≡ c → eqb n 22 ≡ d → either a (either b (either c d)) ≡ true
        → ahead_of (tray_kind_of n) ≡ 1
    go true b c d ea eb ec ed h = is 18 ea refl
    go false true c d ea eb ec ed h = is 19 eb refl
    go false false true d ea eb ec ed h = is 21 ec refl
    go false false false true ea eb ec ed h = is 22 ed refl
    go false false false false ea eb ec ed h = contrary cc

pub transaction_kind : (f : Form) → tray_kind_of (form_kind f) ≡ kind.Transaction f
unfolding tray_kind_of
transaction_kind Short = refl
transaction_kind Long = refl

pub session_kind : (f : Form) → kind_of (form_kind f) ≡ kind.Transaction f
unfolding kind_of
session_kind Short = refl
session_kind Long = refl

-- a transaction has one form
one_form : {f g : Form} → kind.Transaction f ≡ kind.Transaction g → f ≡ g
one_form e = ap form_of e
  where
    form_of : Kind → Form
    form_of (kind.Image f) = Short
    form_of kind.Reading = Short
    form_of kind.Conversion = Short
    form_of (kind.Transaction f) = f
    form_of kind.PowerOn = Short
    form_of kind.Sample = Short
    form_of kind.Unknown = Short

pub asked_form : {τ : Tray} {k : Kind} {p : List ℕ} {t : Transaction} (f : Form) → k ≡ kind.Transaction f → Heard τ k p t → t ≡ transaction_in f p
asked_form {p = p} f is a = a.asked ∙ ap (λ (g : Form). transaction_in g p) (one_form (sym a.kind ∙ is))

-- One record, refused or not

module _ (τ : Tray) (i j : ℕ) (other : j ≡ i → ⊥) (p : List ℕ) where
  abbrev Stays : Taken → Type 0
  Stays t = pack_of (answered_by of_tray τ p t).state j ≡ pack_of τ j

  slot_stays : (k : Kind) → ahead_of k ≡ 1 → slot_in p ≡ i → (t : Taken) → Asks τ k p t → Stays t
  slot_stays k ahead slot (Ok (Image f)) a = let z : ◌≡◌ {A = ℕ} 1 0 = sym ahead ∙ ap ahead_of a.kind in absurd (omega arith)
  slot_stays k ahead slot (Ok (Change c)) a =
      stored_other τ (slot_in p) j (changed_of (pack_of τ (slot_in p)) c) (λ e. other (e ∙ slot))
  slot_stays k ahead slot (Ok (Transact t)) a = let z : ◌≡◌ {A = ℕ} 1 0 = sym ahead ∙ ap ahead_of a.kind in absurd (omega arith)
  slot_stays k ahead slot (Err r) a = refl

  acted_stays : (t : Transaction) (reach : Reach) → reach ≡ one i → pack_of (tray_acted t (master_of t p) reach τ) j ≡ pack_of τ j
  acted_stays t reach e = rw e (stored_other τ i j (act_of (pack_of τ i) t (master_of t p)) other)

  matched_stays : (f : Form) (k : Kind) → k ≡ kind.Transaction f → reach_in τ f p ≡ one i → (t : Taken) → Asks τ k p t → Stays t
  matched_stays f k is reach (Ok (Image g)) a = let z = sym a.kind ∙ is in contrary cc
  matched_stays f k is reach (Ok (Change c)) a = let z : ◌≡◌ {A = ℕ} 1 0 = sym a.ahead ∙ ap ahead_of is in absurd (omega arith)
  matched_stays f k is reach (Ok (Transact t)) a =
      acted_stays t (tray_reach τ t (master_of t p)) (ap (λ (x : Transaction). tray_reach τ x (master_of x p)) (asked_form f is a) ∙ reach)
  matched_stays f k is reach (Err r) a = refl

pub alone : Alone
unfolding tray_did
alone τ room r i j (slotted {n} {p} e slot) other =
    fitted_has (Stays τ i j other p) refl room (tray_told τ n p)
    (slot_stays τ i j other p (tray_kind_of n) (slot_ahead n e) slot (tray_told τ n p) (tray_asks τ n p))
alone τ room r i j (matched f {p} reach) other =
    let n = form_kind f in
    fitted_has (Stays τ i j other p) refl room (tray_told τ n p)
    (matched_stays τ i j other p f (tray_kind_of n) (transaction_kind f) reach (tray_told τ n p) (tray_asks τ n p))
