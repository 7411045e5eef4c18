-- A slot's pack does what a gauge does, proved.
use mathlib.Core.Path.{◌≡◌, refl, sym, ap, subst, ◌∙◌}
use mathlib.Core.Bool.{true, false}
use mathlib.Core.List.{List, ◌∷◌}
use Prim.Native.Nat.{ℕ, ◌<◌, zero-le}
use native.Mathlib.Omega.{arith}
use borrow.Author.Tests.{lt-ltb, le-leb, ne_eqb}
use lib.Dec.{ltb}
use lib.ListN.{length}
use Rattle.std.specs.Prelude.{Ok, Err}
use Rattle.numbers.specs.Choice.{either}
use Rattle.bus.specs.declared.Transaction.{Transaction}
use Rattle.gauge.specs.Change.{changed_of}
use Rattle.gauge.specs.Act.{act_of, reply_of}
use Rattle.record.specs.declared.Form.{Form}
use Rattle.record.specs.declared.Kind.{Kind}
use Rattle.record.specs.declared.Kind.TheVariants as kind
use Rattle.record.specs.declared.Refusal.{Refusal}
use Rattle.record.specs.declared.Refusal.TheVariants as refusal
use Rattle.record.specs.declared.Event.TheVariants.{Image, Change, Transact}
use Rattle.record.specs.Record.{refusal_number, kind_of, transaction_in, master_of, taken_of, timed_of, Taken}
use Rattle.record.proofs.Fits.{transaction_timely, refusal_range}
use Rattle.runs.specs.Record.{whole, recs_of}
use Rattle.runs.specs.AnyRecord.{answered_by}
use Rattle.runs.specs.SessionRecord.{loaded_with, last_tick, taken_did, did_of}
use Rattle.tray_record.specs.declared.Tray.{Tray}
use Rattle.tray_record.specs.Tray.{empty_tray, pack_of, tray_kind_of, ahead_of, again_of, slot_tick, tray_told, Reach}
use Rattle.tray_record.specs.Tray.{one, tray_reach, tray_acted, tray_reply, of_tray, tray_did}
use Rattle.demands.specs.Call.{Call, Within}
use Rattle.demands.specs.Longer.{form_kind}
use Rattle.demands.specs.Alone.{reach_in}
use Rattle.demands.specs.Slots.{Stands, reading, conversion, sample, power_on, Closes, AsOld, SlotsAsOld}
use Rattle.demands.proofs.Choice.{contrary, either_none, either_true}
use Rattle.demands.proofs.Moments.{running}
use Rattle.demands.proofs.Fitted.{fitted_has}
use Rattle.demands.proofs.Packs.{Eight, There, stored_here, acted_count}
use Rattle.demands.proofs.Asked.{Asks, tray_asks, reach_there}
use Rattle.demands.proofs.Alone.{transaction_kind, session_kind, asked_form}
use Rattle.demands.proofs.Filled.{end_filled}

-- what is refused leaves the opening as it is
pub refused_opens : (τ : Tray) (p : List ℕ) (r : Refusal) → Closes τ (answered_by of_tray τ p (Err r))
refused_opens τ p r =
    let z : refusal_number r ≡ 0 → ⊥ = λ e. omega (arith, refusal_range r) in
    record { count = refl; closed = sym (ap (either τ.closed) (ne_eqb (refusal_number r) 0 z) ∙ either_none τ.closed) }

module _ (τ : Tray) (h : Eight τ) (i : ℕ) (low : i < τ.count) (p : List ℕ) where
  -- what it asks is what the old kind asks of a session whose gauge is the slot's pack
  abbrev old : ℕ → Taken
  old m = timed_of (last_tick (loaded_with (pack_of τ i))) (taken_of m true p)

  asks_old : (n m : ℕ) → Stands n m → (tray_told τ n (i ∷ p) ≡ old m) × (ahead_of (tray_kind_of n) ≡ 1)
  unfolding tray_kind_of taken_of kind_of
  asks_old n m reading = (rw (le-leb 1 (length (i ∷ p)) (omega arith), lt-ltb i τ.count low) refl, refl)
  asks_old n m conversion = (rw (le-leb 1 (length (i ∷ p)) (omega arith), lt-ltb i τ.count low) refl, refl)
  asks_old n m sample = (rw (le-leb 1 (length (i ∷ p)) (omega arith), lt-ltb i τ.count low) refl, refl)
  asks_old n m power_on = (rw (le-leb 1 (length (i ∷ p)) (omega arith), lt-ltb i τ.count low) refl, refl)

  abbrev Same : Taken → Type 0
  Same t = AsOld τ i (answered_by of_tray τ (i ∷ p) t) (taken_did (loaded_with (pack_of τ i)) p t)

  taken_old : (k : Kind) → ahead_of k ≡ 1 → (t : Taken) → Asks τ k (i ∷ p) t → Same t
  taken_old k ahead (Ok (Image f)) a = let z : ◌≡◌ {A = ℕ} 1 0 = sym ahead ∙ ap ahead_of a.kind in absurd (omega arith)
  taken_old k ahead (Ok (Change c)) a =
      let opening : Closes τ (answered_by of_tray τ (i ∷ p) (Ok (Change c))) = record { count = refl; closed = sym (either_true τ.closed) } in
      record { answer = refl; reply = refl; pack = stored_here τ i (changed_of (pack_of τ i) c) h (omega (arith, h.few)); opening = opening }
  taken_old k ahead (Ok (Transact t)) a = let z : ◌≡◌ {A = ℕ} 1 0 = sym ahead ∙ ap ahead_of a.kind in absurd (omega arith)
  taken_old k ahead (Err r) a = record { answer = refl; reply = refl; pack = refl; opening = refused_opens τ (i ∷ p) r }

  did_old : (n m : ℕ) → Stands n m → (room : ℕ) → AsOld τ i (tray_did τ room (whole n (i ∷ p))) (did_of (loaded_with (pack_of τ i)) room (whole m p))
  unfolding tray_did did_of
  did_old n m s room =
      let e = asks_old n m s in
      let full : Same (Err refusal.Room) = record { answer = refl; reply = refl; pack = refl; opening = refused_opens τ (i ∷ p) refusal.Room } in
      rw e.0 (fitted_has Same full room (old m) (taken_old (tray_kind_of n) e.1 (old m) (rw e.0 at (tray_asks τ n (i ∷ p)))))

-- What a transaction asks is what it asks of a session whose gauge is the pack in any slot

module _ (τ : Tray) (i : ℕ) (low : i < τ.count) (f : Form) (p : List ℕ) where
  abbrev pub plain_asks : Taken
  plain_asks = timed_of (last_tick (loaded_with (pack_of τ i))) (taken_of (form_kind f) true p)

  pub asks_plain : tray_told τ (form_kind f) p ≡ plain_asks
  unfolding taken_of
  asks_plain =
      rw (transaction_kind f, session_kind f, le-leb 0 (length p) zero-le)
      (sym (transaction_timely (slot_tick τ p) (again_of τ p) (ltb 0 τ.count) p f)
      ∙ rw (lt-ltb 0 τ.count (omega arith)) refl
      ∙ transaction_timely (last_tick (loaded_with (pack_of τ i))) false true p f)

-- A transaction that is matched to a slot

module _ (τ : Tray) (h : Eight τ) (i : ℕ) (f : Form) (p : List ℕ) (reach : reach_in τ f p ≡ one i) where
  there : i < τ.count
  there = subst (λ (r : Reach). There r τ.count) reach (reach_there τ (transaction_in f p) (master_of (transaction_in f p) p))

  abbrev matched_old : Taken
  matched_old = plain_asks τ i there f p

  asks_matched : tray_told τ (form_kind f) p ≡ matched_old
  asks_matched = asks_plain τ i there f p

  abbrev Matched : Taken → Type 0
  Matched t = AsOld τ i (answered_by of_tray τ p t) (taken_did (loaded_with (pack_of τ i)) p t)

  acted_old : (t : Transaction) (r : Reach) → r ≡ one i
      → (tray_reply t (master_of t p) r τ ≡ reply_of (pack_of τ i) t (master_of t p))
      × (pack_of (tray_acted t (master_of t p) r τ) i ≡ act_of (pack_of τ i) t (master_of t p))
  acted_old t r e = rw e (refl, stored_here τ i (act_of (pack_of τ i) t (master_of t p)) h (omega (arith, there, h.few)))

  taken_matched : (t : Taken) → Asks τ (kind.Transaction f) p t → Matched t
  taken_matched (Ok (Image g)) a = let z = a.kind in contrary cc
  taken_matched (Ok (Change c)) a = let z = a.ahead in contrary cc
  taken_matched (Ok (Transact t)) a =
      let e = acted_old t (tray_reach τ t (master_of t p)) (ap (λ (x : Transaction). tray_reach τ x (master_of x p)) (asked_form f refl a) ∙ reach) in
      let opening : Closes τ (answered_by of_tray τ p (Ok (Transact t))) =
      record { count = acted_count t (master_of t p) τ (tray_reach τ t (master_of t p)); closed = sym (either_true τ.closed) } in
      record { answer = refl; reply = e.0; pack = e.1; opening = opening }
  taken_matched (Err r) a = record { answer = refl; reply = refl; pack = refl; opening = refused_opens τ p r }

  did_matched : (room : ℕ) → AsOld τ i (tray_did τ room (whole (form_kind f) p)) (did_of (loaded_with (pack_of τ i)) room (whole (form_kind f) p))
  unfolding tray_did did_of
  did_matched room =
      let asks : Asks τ (kind.Transaction f) p matched_old = rw (asks_matched, transaction_kind f) at (tray_asks τ (form_kind f) p) in
      let full : Matched (Err refusal.Room) = record { answer = refl; reply = refl; pack = refl; opening = refused_opens τ p refusal.Room } in
      rw asks_matched (fitted_has Matched full room matched_old (taken_matched matched_old asks))

left_eight : {c : Call Tray} → Within tray_did empty_tray c → Eight c.ran.state
left_eight {c} w = rw (running tray_did empty_tray w).state (end_filled (length c.room) (recs_of c.bytes)).eight

pub slots_as_old : SlotsAsOld
slots_as_old = record {
  events = λ c w i low n m s room p. did_old c.ran.state (left_eight w) i low p n m s room;
  matched = λ c w i room f p reach. did_matched c.ran.state (left_eight w) i f p reach room;
}
