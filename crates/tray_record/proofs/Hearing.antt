-- What a tray replies: as many bytes as are asked, however many packs hear it.
use mathlib.Core.Path.{◌≡◌, refl, ◌∙◌}
use mathlib.Core.List.{List}
use Prim.Native.Nat.{ℕ, zero, suc}
use lib.ListN.{length}
use Rattle.bus.specs.declared.Transaction.{Transaction}
use Rattle.replies.proofs.Listed.{listed_length}
use Rattle.gauge.specs.Act.{reply_of}
use Rattle.record.specs.declared.Event.{Event}
use Rattle.record.specs.declared.Event.TheVariants.{Image, Change, Transact}
use Rattle.record.specs.Record.{master_of, asks_of}
use Rattle.gauge.proofs.Acting.{reply_length}
use Rattle.runs.proofs.AnyRecord.{Replying}
use Rattle.tray_record.specs.declared.Tray.{Tray}
use Rattle.tray_record.specs.Tray.{pack_of, wired_first, Reach, one, every, nobody, tray_reach, tray_reply, tray_event, of_tray}
use Rattle.tray_record.proofs.Anded.{and_length}

module _ (t : Transaction) (master : List ℕ) where
  pub wired_length : (τ : Tray) (n : ℕ) → length (wired_first t master τ n) ≡ t.count
  wired_length τ zero = listed_length _ 0 t.count
  wired_length τ (suc n) = and_length (wired_first t master τ n) (reply_of (pack_of τ n) t master) ∙ wired_length τ n

-- each event is answered 0, and its reply has the bytes that it asks
pub tray_reply_length : (t : Transaction) (master : List ℕ) (τ : Tray) (reach : Reach) → length (tray_reply t master reach τ) ≡ t.count
tray_reply_length t master τ (one i) = reply_length (pack_of τ i) t master
tray_reply_length t master τ every = wired_length t master τ τ.count
tray_reply_length t master τ nobody = listed_length _ 0 t.count

pub tray_replying : Replying of_tray
tray_replying = record { answer = answers; reply = replies }
  where
    answers : (τ : Tray) (p : List ℕ) (e : Event) → (tray_event τ p e).answer ≡ 0
    answers τ p (Image f) = refl
    answers τ p (Change c) = refl
    answers τ p (Transact t) = refl

    replies : (τ : Tray) (p : List ℕ) (e : Event) → length (tray_event τ p e).reply ≡ asks_of e
    replies τ p (Image f) = refl
    replies τ p (Change c) = refl
    replies τ p (Transact t) = tray_reply_length t (master_of t p) τ (tray_reach τ t (master_of t p))
