-- Each pack of a tray does with a transaction what the gauge of a plain session does with it, and each byte of the reply is the AND of theirs.
use mathlib.Core.Path.{◌≡◌, refl, sym, ap, subst, ◌∙◌}
use mathlib.Core.Bool.{Bool, true, false}
use mathlib.Core.List.{List, [], ◌∷◌}
use Prim.Native.Nat.{ℕ, zero, suc, ◌<◌}
use native.Mathlib.Nat.{mod-eq_of_lt}
use native.Mathlib.Omega.{arith}
use borrow.Author.Tests.{lt-ltb, eqb-true, eqb-false}
use lib.Bits.{bit_and, and_comm, and_mask}
use lib.Dec.{eqb}
use lib.ListN.{length, get_or}
use lib.Seq.{ext_get_or}
use Rattle.std.specs.Prelude.{Ok, Err}
use Rattle.numbers.specs.Choice.{pick}
use Rattle.bus.specs.declared.Transaction.{Transaction}
use Rattle.params.specs.Params.{rnaop_of}
use Rattle.replies.specs.Reply.{source_byte}
use Rattle.replies.proofs.Listed.{listed_at}
use Rattle.gauge.specs.Act.{act_of, reply_of}
use Rattle.record.specs.declared.Form.{Form}
use Rattle.record.specs.declared.Kind.{Kind}
use Rattle.record.specs.declared.Kind.TheVariants as kind
use Rattle.record.specs.declared.Refusal.{Refusal}
use Rattle.record.specs.declared.Refusal.TheVariants as refusal
use Rattle.record.specs.declared.Event.TheVariants.{Image, Change, Transact}
use Rattle.record.specs.Record.{master_of, fitted_of, Taken}
use Rattle.gauge.proofs.Acting.{reply_length}
use Rattle.runs.specs.Record.{whole, recs_of}
use Rattle.runs.specs.Run.{Did}
use Rattle.runs.specs.declared.Session.{Session}
use Rattle.runs.specs.AnyRecord.{answered_by}
use Rattle.runs.specs.SessionRecord.{loaded_with, taken_did, did_of}
use Rattle.tray_record.proofs.Hearing.{wired_length, tray_reply_length}
use Rattle.tray_record.specs.declared.Tray.{Tray}
use Rattle.tray_record.specs.Wire.{and_bytes}
use Rattle.tray_record.specs.Tray.{empty_tray, pack_of, wired_first, Reach, one, every, tray_reach, tray_acted, tray_reply, tray_told, of_tray, tray_did}
use Rattle.intel_hex.specs.Theorems.{Bytes}
use Rattle.demands.specs.Longer.{form_kind}
use Rattle.demands.specs.Slots.{and_over, EachAsPlain, TransactionsAsPlain}
use Rattle.demands.proofs.Choice.{contrary, either_true}
use Rattle.demands.proofs.Moments.{running}
use Rattle.demands.proofs.Fitted.{fitted_has}
use Rattle.demands.proofs.Small.{SmallGauge, reply_bytes}
use Rattle.demands.proofs.SmallRuns.{slot_small}
use Rattle.demands.proofs.Packs.{Eight, acted_pack, acted_count}
use Rattle.demands.proofs.Asked.{Asks, tray_asks}
use Rattle.demands.proofs.Alone.{transaction_kind}
use Rattle.demands.proofs.Slots.{refused_opens, asks_plain}
use Rattle.demands.proofs.Distinct.{Distinct, end_distinct, selects, Quiet, Whom, alone, all, none, whom}

-- The AND of bytes

-- FFh changes no byte
pub and_high : (n : ℕ) → n < 256 → bit_and n 0xff ≡ n
and_high n low = and_mask n 8 ∙ mod-eq_of_lt low

and_none : (n : ℕ) (f : ℕ → ℕ) → ((i : ℕ) → i < n → f i ≡ 0xff) → and_over n f ≡ 0xff
and_none zero f h = refl
and_none (suc n) f h = rw (and_none n f (λ i low. h i (omega arith)), h n (omega arith)) refl

-- where one pulls it low at most, its byte is read
and_one : (n j : ℕ) (f : ℕ → ℕ) → j < n → f j < 256 → ((i : ℕ) → i < n → (i ≡ j → ⊥) → f i ≡ 0xff) → and_over n f ≡ f j
and_one zero j f low byte h = absurd (omega arith)
and_one (suc n) j f low byte h = go (eqb j n) refl (and_one n j f)
  where
    go : (t : Bool) → eqb j n ≡ t → (j < n → f j < 256 → ((i : ℕ) → i < n → (i ≡ j → ⊥) → f i ≡ 0xff) → and_over n f ≡ f j)
        → bit_and (and_over n f) (f n) ≡ f j
    go true e rest =
        let at : j ≡ n = eqb-true j n e in
        let high = and_none n f (λ i less. h i (omega arith) (λ z. absurd (omega arith))) in
        ap (λ (m : ℕ). bit_and m (f n)) high
        ∙ ap (λ (i : ℕ). bit_and 0xff (f i)) (sym at)
        ∙ and_comm 0xff (f j)
        ∙ and_high (f j) byte
    go false e rest =
        let other = eqb-false j n e in
        ap (λ (m : ℕ). bit_and m (f n)) (rest (omega arith) byte (λ i less. h i (omega arith)))
        ∙ ap (bit_and (f j)) (h n (omega arith) (λ z. other (sym z)))
        ∙ and_high (f j) byte

and_at : (xs ys : List ℕ) (k : ℕ) → k < length xs → length xs ≡ length ys → get_or (and_bytes xs ys) k 0 ≡ bit_and (get_or xs k 0) (get_or ys k 0)
and_at [] ys k low same = absurd (omega arith)
and_at (x ∷ xs) [] k low same = absurd (omega arith)
and_at (x ∷ xs) (y ∷ ys) zero low same = refl
and_at (x ∷ xs) (y ∷ ys) (suc k) low same = and_at xs ys k (omega arith) (omega arith)

-- one transaction

module _ (t : Transaction) (master : List ℕ) (τ : Tray) (h : Eight τ) where
  -- a pack that is not selected stays, and replies FFh
  idle_acts : (i : ℕ) → selects t master τ i ≡ false → act_of (pack_of τ i) t master ≡ pack_of τ i
  unfolding act_of
  idle_acts i other = rw other refl

  abbrev byte_of : ℕ → ℕ → ℕ
  byte_of k i = get_or (reply_of (pack_of τ i) t master) k 0

  idle_byte : (i : ℕ) → selects t master τ i ≡ false → Quiet t master τ → (k : ℕ) → k < t.count → byte_of k i ≡ 0xff
  unfolding reply_of source_byte
  idle_byte i other quiet k low =
      rw (other, quiet (rnaop_of (pack_of τ i).meter.cells.block.shadow)) (listed_at (λ n. 0xff) 0 t.count k low)

  pub each_acts : (r : Reach) → Whom t master τ r → (i : ℕ) → i < τ.count → pack_of (tray_acted t master r τ) i ≡ act_of (pack_of τ i) t master
  each_acts r (alone j low quiet others) i here = acted_pack t master τ h (one j) low i ∙ go (eqb i j) refl
    where
      go : (s : Bool) → eqb i j ≡ s → pick s (act_of (pack_of τ i) t master) (pack_of τ i) ≡ act_of (pack_of τ i) t master
      go true e = refl
      go false e = sym (idle_acts i (others i here (eqb-false i j e)))
  each_acts r all i here = acted_pack t master τ h every tt i ∙ rw (lt-ltb i τ.count here) refl
  each_acts r (none quiet others) i here = sym (idle_acts i (others i here))

  wired_byte : (n k : ℕ) → k < t.count → get_or (wired_first t master τ n) k 0 ≡ and_over n (byte_of k)
  wired_byte zero k low = listed_at (λ i. 0xff) 0 t.count k low
  wired_byte (suc n) k low =
      and_at (wired_first t master τ n) (reply_of (pack_of τ n) t master) k (omega (arith, wired_length t master τ n))
      (wired_length t master τ n ∙ sym (reply_length (pack_of τ n) t master))
      ∙ ap (λ (m : ℕ). bit_and m (byte_of k n)) (wired_byte n k low)

  each_byte : (r : Reach) → Whom t master τ r → (k : ℕ) → k < t.count → ((i : ℕ) → i < τ.count → byte_of k i < 256)
      → get_or (tray_reply t master r τ) k 0 ≡ and_over τ.count (byte_of k)
  each_byte r (alone j low quiet others) k less bytes =
      sym (and_one τ.count j (byte_of k) low (bytes j low) (λ i here other. idle_byte i (others i here other) quiet k less))
  each_byte r all k less bytes = wired_byte τ.count k less
  each_byte r (none quiet others) k less bytes =
      listed_at (λ i. 0xff) 0 t.count k less ∙ sym (and_none τ.count (byte_of k) (λ i low. idle_byte i (others i low) quiet k less))

-- the one pack of a tray replies as it does by itself
pub single_reply : (t : Transaction) (master : List ℕ) (τ : Tray) → Distinct τ → τ.count ≡ 1
    → ((k : ℕ) → get_or (reply_of (pack_of τ 0) t master) k 0 < 256) → tray_reply t master (tray_reach τ t master) τ ≡ reply_of (pack_of τ 0) t master
single_reply t master τ h single bytes =
    let long = tray_reply_length t master τ (tray_reach τ t master) in
    ext_get_or 0 _ _ (long ∙ sym (reply_length (pack_of τ 0) t master)) (λ k low.
    each_byte t master τ h.eight (tray_reach τ t master) (whom t master τ h) k (rw long at low) (first k)
    ∙ ap (λ (n : ℕ). and_over n (byte_of t master τ h.eight k)) single
    ∙ and_comm 0xff _
    ∙ and_high _ (bytes k))
  where
    first : (k i : ℕ) → i < τ.count → get_or (reply_of (pack_of τ i) t master) k 0 < 256
    first k i low = let z : i ≡ 0 = omega arith in rw z (bytes k)

-- one record, refused or not

and_same : (n : ℕ) (f g : ℕ → ℕ) → ((i : ℕ) → i < n → f i ≡ g i) → and_over n f ≡ and_over n g
and_same zero f g e = refl
and_same (suc n) f g e = rw (and_same n f g (λ i low. e i (omega arith)), e n (omega arith)) refl

-- what each pack does is asked of the packs that are there alone
each_same : {s : List ℕ} {τ : Tray} {d : Did Tray} (f g : ℕ → Did Session) → ((i : ℕ) → i < τ.count → f i ≡ g i) → EachAsPlain s τ d f
    → EachAsPlain s τ d g
each_same {s} {τ} {d} f g e h = record {
  answer = λ i low. h.answer i low ∙ ap (λ (x : Did Session). x.answer) (e i low);
  pack = λ i low. h.pack i low ∙ ap (λ (x : Did Session). x.state.gauge) (e i low);
  opening = h.opening;
  size = λ i low. h.size i low ∙ ap (λ (x : Did Session). length x.reply) (e i low);
  byte = λ bytes k less.
      let same : (i : ℕ) → i < τ.count → get_or (f i).reply k 0 ≡ get_or (g i).reply k 0 = λ i low. ap (λ (x : Did Session). get_or x.reply k 0) (e i low) in
      h.byte bytes k less
      ∙ and_same τ.count (λ i. get_or (f i).reply k 0) (λ i. get_or (g i).reply k 0) same;
}

module _ (s : List ℕ) (τ : Tray) (h : Distinct τ) (small : Bytes s → (i : ℕ) → SmallGauge (pack_of τ i)) (f : Form) (p : List ℕ) where
  abbrev Each : Taken → Type 0
  Each t = EachAsPlain s τ (answered_by of_tray τ p t) (λ i. taken_did (loaded_with (pack_of τ i)) p t)

  refused_each : (r : Refusal) → Each (Err r)
  refused_each r = record {
    answer = λ i low. refl;
    pack = λ i low. refl;
    opening = refused_opens τ p r;
    size = λ i low. refl;
    byte = λ bytes k less. absurd (omega arith);
  }

  transact_each : (t : Transaction) → Each (Ok (Transact t))
  transact_each t =
      let master = master_of t p in
      let reach = tray_reach τ t master in
      let w = whom t master τ h in
      let long = tray_reply_length t master τ reach in
      record {
        answer = λ i low. refl;
        pack = λ i low. each_acts t master τ h.eight reach w i low;
        opening = record { count = acted_count t master τ reach; closed = sym (either_true τ.closed) };
        size = λ i low. long ∙ sym (reply_length (pack_of τ i) t master);
        byte = λ bytes k less.
            each_byte t master τ h.eight reach w k (rw long at less) (λ i low. reply_bytes (pack_of τ i) (small bytes i) t master k);
      }

  taken_each : (t : Taken) → Asks τ (kind.Transaction f) p t → Each t
  taken_each (Ok (Image g)) a = let z = a.kind in contrary cc
  taken_each (Ok (Change c)) a = let z = a.ahead in contrary cc
  taken_each (Ok (Transact t)) a = transact_each t
  taken_each (Err r) a = refused_each r

  pub did_each : (room : ℕ)
      → EachAsPlain s τ (tray_did τ room (whole (form_kind f) p)) (λ i. did_of (loaded_with (pack_of τ i)) room (whole (form_kind f) p))
  unfolding tray_did did_of
  did_each room =
      let told = tray_told τ (form_kind f) p in
      let asks : Asks τ (kind.Transaction f) p told =
      subst (λ (k : Kind). Asks τ k p told) (transaction_kind f) (tray_asks τ (form_kind f) p) in
      each_same (λ i. taken_did (loaded_with (pack_of τ i)) p (fitted_of room told)) (λ i. did_of (loaded_with (pack_of τ i)) room (whole (form_kind f) p))
      (λ i low. ap (λ (t : Taken). taken_did (loaded_with (pack_of τ i)) p (fitted_of room t)) (asks_plain τ i low f p))
      (fitted_has Each (refused_each refusal.Room) room told (taken_each told asks))

pub transactions_as_plain : TransactionsAsPlain
transactions_as_plain c w room f p =
    let distinct : Distinct c.ran.state = rw (running tray_did empty_tray w).state (end_distinct (length c.room) (recs_of c.bytes)) in
    did_each c.bytes c.ran.state distinct (slot_small c w) f p room
