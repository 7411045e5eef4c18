-- What is the same in two trays that differ in one slot, and that each record keeps it.
use mathlib.Core.Path.{◌≡◌, refl, sym, ap, subst, ◌∙◌}
use mathlib.Core.Bool.{Bool, true, false}
use mathlib.Core.List.{List}
use Prim.Native.Nat.{ℕ, ◌+◌, ◌≤◌, ◌<◌}
use native.Mathlib.Omega.{arith}
use borrow.Author.Tests.{eqb-true, eqb-false, ne_eqb}
use lib.Dec.{ltb, eqb}
use lib.ListN.{length, take, drop}
use Rattle.std.specs.Prelude.{Ok, Err}
use Rattle.numbers.proofs.Bounds.{picked}
use Rattle.demands.specs.Images.{image_kind, is_image}
use Rattle.demands.proofs.Images.{tray_image}
use Rattle.state.specs.declared.Profile.{Profile}
use Rattle.numbers.specs.Choice.{pick, both}
use Rattle.bus.specs.declared.Transaction.{Transaction}
use Rattle.gauge.specs.declared.Gauge.{Gauge}
use Rattle.gauge.specs.Image.{image_of}
use Rattle.record.specs.declared.Kind.{Kind}
use Rattle.record.specs.declared.Kind.TheVariants as kind
use Rattle.record.specs.declared.Refusal.TheVariants as refusal
use Rattle.record.specs.declared.Event.{Event}
use Rattle.record.specs.declared.Event.TheVariants.{Image, Change, Transact}
use Rattle.record.specs.Image.{image_address}
use Rattle.record.specs.Record.{refusal_number, master_of, asks_of, Taken}
use Rattle.record.proofs.Fits.{refusal_range}
use Rattle.runs.specs.Record.{Rec, whole, cut}
use Rattle.runs.specs.Run.{Did, silently, line_of}
use Rattle.tray_record.specs.declared.Tray.{Tray}
use Rattle.tray_record.specs.Tray.{no_gauge, pack_of, search_of, tray_kind_of, ahead_of, slot_in, again_of, tray_told, matched_of, tray_reach, tray_event}
use Rattle.tray_record.specs.Tray.{tray_did}
use Rattle.demands.specs.Alone.{slot_event, slotted}
use Rattle.demands.specs.Isolation.{images_after, Others}
use Rattle.demands.proofs.Choice.{contrary, both_false}
use Rattle.tray_record.proofs.Hearing.{tray_replying}
use Rattle.tray_record.proofs.Laws.{stored_other}
use Rattle.demands.proofs.Packs.{Eight, stored_here, search_same}
use Rattle.demands.proofs.Asked.{Asks, tray_asks, made_of, told_event}
use Rattle.demands.proofs.Filled.{pack_after, count_after, address_after_lem, event_pack, event_count}
use Rattle.demands.proofs.Alone.{slot_ahead, alone}

-- What is the same, is so in either order and over three

module _ {k : ℕ} where
  pub others_refl : (τ : Tray) → Others k τ τ
  others_refl τ = record { count = refl; packs = λ j other. refl; address = refl }

  pub others_sym : {τ σ : Tray} → Others k τ σ → Others k σ τ
  others_sym h = record { count = sym h.count; packs = λ j other. sym (h.packs j other); address = sym h.address }

  pub others_over : {τ σ υ : Tray} → Others k τ σ → Others k σ υ → Others k τ υ
  others_over h g = record {
    count = h.count ∙ g.count;
    packs = λ j other. h.packs j other ∙ g.packs j other;
    address = h.address ∙ g.address;
  }

  -- the address of every slot
  addresses : {τ σ : Tray} → Others k τ σ → (j : ℕ) → (pack_of τ j).common.address ≡ (pack_of σ j).common.address
  addresses {τ} {σ} h j = go (eqb j k) refl
    where
      go : (t : Bool) → eqb j k ≡ t → (pack_of τ j).common.address ≡ (pack_of σ j).common.address
      go true e = let f = eqb-true j k e in rw f h.address
      go false e = ap (λ (g : Gauge). g.common.address) (h.packs j (eqb-false j k e))

  search_others : {τ σ : Tray} → Others k τ σ → (address : List ℕ) →
      search_of τ.commons τ.count address ≡ search_of σ.commons σ.count address
  unfolding search_of
  search_others {τ} {σ} h address =
      search_same no_gauge.common address τ.commons σ.commons 0 τ.count (addresses h) ∙ rw h.count refl

  again_others : {τ σ : Tray} → Others k τ σ → (p : List ℕ) → again_of τ p ≡ again_of σ p
  again_others h p = rw (search_others h (image_address p)) refl

  pub reach_others : {τ σ : Tray} → Others k τ σ → (t : Transaction) (master : List ℕ) → tray_reach τ t master ≡ tray_reach σ t master
  unfolding matched_of
  reach_others {τ} {σ} h t master = rw (search_others h (take 8 (drop 1 master))) refl

-- What an event does

module _ {k : ℕ} {τ σ : Tray} (h : Others k τ σ) (p : List ℕ) where
  -- the same event leaves the same pack where there was the same
  pack_after_lem : (e : Event) (j : ℕ) → pack_of τ j ≡ pack_of σ j → pack_after τ p e j ≡ pack_after σ p e j
  pack_after_lem (Image f) j e = rw (h.count, e) refl
  pack_after_lem (Change c) j e = rw e refl
  pack_after_lem (Transact t) j e = rw (reach_others h t (master_of t p), h.count, e) refl

  address_same : (e : Event) → (pack_after τ p e k).common.address ≡ (pack_after σ p e k).common.address
  address_same (Image f) = rw h.count (go (eqb k σ.count))
    where
      go : (t : Bool) → (pick t (image_of f p) (pack_of τ k)).common.address ≡ (pick t (image_of f p) (pack_of σ k)).common.address
      go true = refl
      go false = h.address
  address_same (Change c) = address_after_lem τ p (Change c) k (λ f z. contrary cc) ∙ h.address ∙ sym (address_after_lem σ p (Change c) k (λ f z. contrary cc))
  address_same (Transact t) =
      address_after_lem τ p (Transact t) k (λ f z. contrary cc) ∙ h.address ∙ sym (address_after_lem σ p (Transact t) k (λ f z. contrary cc))

  event_others : Eight τ → Eight σ → (x : Kind) (e : Event) → Asks τ x p (Ok e) → Asks σ x p (Ok e) →
      Others k (tray_event τ p e).state (tray_event σ p e).state
  event_others u v x e a b = record {
    count = event_count τ u x p e ∙ counts e ∙ sym (event_count σ v x p e);
    packs = λ j other. event_pack τ u x p e a j ∙ pack_after_lem e j (h.packs j other) ∙ sym (event_pack σ v x p e b j);
    address =
        ap (λ (g : Gauge). g.common.address) (event_pack τ u x p e a k)
        ∙ address_same e
        ∙ sym (ap (λ (g : Gauge). g.common.address) (event_pack σ v x p e b k));
  }
    where
      counts : (e : Event) → count_after τ e ≡ count_after σ e
      counts (Image f) = ap (λ (n : ℕ). n + 1) h.count
      counts (Change c) = h.count
      counts (Transact t) = h.count

-- One record: it is done by its event, or it is refused

data Outcome (τ : Tray) (room n : ℕ) (p : List ℕ) : Type 0 where
  ran : (e : Event) → tray_told τ n p ≡ Ok e → tray_did τ room (whole n p) ≡ tray_event τ p e → Outcome τ room n p
  stayed : (m : ℕ) → 3 ≤ m → tray_did τ room (whole n p) ≡ silently τ m → Outcome τ room n p

outcome : (τ : Tray) (room n : ℕ) (p : List ℕ) → Outcome τ room n p
unfolding tray_did
outcome τ room n p = go (tray_told τ n p) refl
  where
    fits : (e : Event) → tray_told τ n p ≡ Ok e → (t : Bool) → ltb room (asks_of e) ≡ t → Outcome τ room n p
    fits e f true full = stayed (refusal_number refusal.Room) (omega arith) (rw (f, full) refl)
    fits e f false room = ran e f (rw (f, room) refl)

    go : (t : Taken) → tray_told τ n p ≡ t → Outcome τ room n p
    go (Ok e) f = fits e f (ltb room (asks_of e)) refl
    go (Err r) f = stayed (refusal_number r) (refusal_range r).0 (rw f refl)

-- how many packs there are by what the line tells

abbrev Imaged : Bool → Kind → Type 0
Imaged b (kind.Image f) = b ≡ true
Imaged b kind.Reading = b ≡ false
Imaged b kind.Conversion = b ≡ false
Imaged b (kind.Transaction f) = b ≡ false
Imaged b kind.PowerOn = b ≡ false
Imaged b kind.Sample = b ≡ false
Imaged b kind.Unknown = b ≡ false

imaged : (n : ℕ) → Imaged (is_image n) (tray_kind_of n)
unfolding tray_kind_of
imaged n =
    let I : Kind → Type 0 = Imaged (is_image n) in
    let at : (m : ℕ) → eqb n m ≡ true → is_image n ≡ is_image m = λ m e. ap is_image (eqb-true n m e) in
    picked I (eqb n 1) _ _ (at 1)
    (λ one. picked I (eqb n 4) _ _ (at 4)
    (λ a. picked I (eqb n 7) _ _ (at 7)
    (λ b. picked I (eqb n 8) _ _ (at 8)
    (λ eight. picked I (eqb n 18) _ _ (at 18)
    (λ c. picked I (eqb n 19) _ _ (at 19)
    (λ d. picked I (eqb n 21) _ _ (at 21) (λ f. picked I (eqb n 22) _ _ (at 22) (λ g. rw (one, eight) refl))))))))

-- a kind with a slot byte ahead is no image
ahead_none : (b : Bool) (k : Kind) → ahead_of k ≡ 1 → Imaged b k → b ≡ false
ahead_none b (kind.Image f) e h = absurd (omega arith)
ahead_none b kind.Reading e h = h
ahead_none b kind.Conversion e h = h
ahead_none b (kind.Transaction f) e h = h
ahead_none b kind.PowerOn e h = h
ahead_none b kind.Sample e h = h
ahead_none b kind.Unknown e h = h

event_images : (τ : Tray) (n : ℕ) (p : List ℕ) (e : Event) → Asks τ (tray_kind_of n) p (Ok e) →
    count_after τ e ≡ pick (both (is_image n) true) (τ.count + 1) τ.count
event_images τ n p (Image f) a = rw (subst (Imaged (is_image n)) a.kind (imaged n)) refl
event_images τ n p (Change c) a = rw (ahead_none (is_image n) (tray_kind_of n) a.ahead (imaged n)) refl
event_images τ n p (Transact t) a = rw (subst (Imaged (is_image n)) a.kind (imaged n)) refl

pub count_after_lem : (τ : Tray) (room : ℕ) (r : Rec) → Eight τ →
    (tray_did τ room r).state.count ≡ images_after τ.count r (line_of r (tray_did τ room r))
unfolding tray_did
count_after_lem τ room cut h = refl
count_after_lem τ room (whole n p) h = go (outcome τ room n p)
  where
    go : Outcome τ room n p →
        (tray_did τ room (whole n p)).state.count ≡ pick (both (is_image n) (eqb (tray_did τ room (whole n p)).answer 0)) (τ.count + 1) τ.count
    go (ran e t d) =
        rw (d, tray_replying.answer τ p e) (event_count τ h (tray_kind_of n) p e ∙ event_images τ n p e (rw t at (tray_asks τ n p)))
    go (stayed m low d) = rw (d, ne_eqb m 0 (λ z. omega arith), both_false (is_image n)) refl

-- what one record in each leaves
pub record Moved (k : ℕ) (d f : Did Tray) : Type 0 where
  pub others : Others k d.state f.state
  pub reply : length d.reply ≡ length f.reply

-- one is accepted and the other is not
never : {a b m : ℕ} {A : Type 0} → a ≡ 0 → b ≡ m → 3 ≤ m → eqb a 0 ≡ eqb b 0 → A
never {a} {b} {m} e f low agree =
    let z : true ≡ false = sym (ap (λ (n : ℕ). eqb n 0) e) ∙ agree ∙ ap (λ (n : ℕ). eqb n 0) f ∙ ne_eqb m 0 (λ z. omega arith) in
    contrary cc

module _ {k : ℕ} {τ σ : Tray} (h : Others k τ σ) (u : Eight τ) (v : Eight σ) (near far : ℕ) where
  still : (m n : ℕ) → Moved k (silently τ m) (silently σ n)
  still m n = record { others = h; reply = refl }

  -- a record that both hold
  pub held_moved : (r : Rec) → eqb (tray_did τ near r).answer 0 ≡ eqb (tray_did σ far r).answer 0 → Moved k (tray_did τ near r) (tray_did σ far r)
  unfolding tray_did
  held_moved cut agree = still 2 2
  held_moved (whole n p) agree = go (outcome τ near n p) (outcome σ far n p)
    where
      same : (e : Event) → tray_told τ n p ≡ Ok e → tray_told σ n p ≡ Ok e → Moved k (tray_event τ p e) (tray_event σ p e)
      same e a b = record {
        others = event_others h p u v (tray_kind_of n) e (rw a at (tray_asks τ n p)) (rw b at (tray_asks σ n p));
        reply = tray_replying.reply τ p e ∙ sym (tray_replying.reply σ p e);
      }

      go : Outcome τ near n p → Outcome σ far n p → Moved k (tray_did τ near (whole n p)) (tray_did σ far (whole n p))
      go (ran e a d) (ran x b f) =
          let z : Ok x ≡ Ok e = sym (told_event σ n p x b) ∙ sym (ap (λ (t : Bool). made_of t n p) (again_others h p)) ∙ told_event τ n p e a in
          let y : x ≡ e = cc in
          rw (d, f, y) (same e a (b ∙ z))
      go (ran e a d) (stayed m low f) =
          never (ap (λ (x : Did Tray). x.answer) d ∙ tray_replying.answer τ p e) (ap (λ (x : Did Tray). x.answer) f) low agree
      go (stayed m low d) (ran x b f) =
          never (ap (λ (x : Did Tray). x.answer) f ∙ tray_replying.answer σ p x) (ap (λ (x : Did Tray). x.answer) d) low (sym agree)
      go (stayed m low d) (stayed i high f) = rw (d, f) (still m i)

-- an image that is taken joins the tray
abbrev Joining : Tray → Event → Type 0
Joining τ (Image f) = τ.count < 8
Joining τ (Change c) = ⊥
Joining τ (Transact t) = ⊥

joining : (f : Profile) (τ : Tray) (p : List ℕ) (e : Event) → tray_told τ (image_kind f) p ≡ Ok e → Joining τ e
joining f τ p e t = by (tray_kind_of (image_kind f)) (tray_image f) e (rw t at (tray_asks τ (image_kind f) p))
  where
    by : (k : Kind) → k ≡ kind.Image f → (e : Event) → Asks τ k p (Ok e) → Joining τ e
    by k is (Image g) a = a.few
    by k is (Change c) a = let z : ◌≡◌ {A = ℕ} 1 0 = sym a.ahead ∙ ap ahead_of is in absurd (omega arith)
    by k is (Transact t) a = let z = sym a.kind ∙ is in contrary cc

joined_address : (f : Profile) (τ : Tray) (p : List ℕ) (k : ℕ) → Eight τ → τ.count < 8 → τ.count ≡ k
    → (pack_of (tray_event τ p (Image f)).state k).common.address ≡ image_address p
unfolding image_of
joined_address f τ p k u few at =
    ap (λ (i : ℕ). (pack_of (tray_event τ p (Image f)).state i).common.address) (sym at)
    ∙ ap (λ (g : Gauge). g.common.address) (stored_here τ τ.count (image_of f p) u few)

module _ {k : ℕ} {τ σ : Tray} (h : Others k τ σ) (u : Eight τ) (v : Eight σ) (p q : List ℕ) (at : τ.count ≡ k)
    (address : image_address p ≡ image_address q) where
  joined_moved : (e x : Event) → Joining τ e → Joining σ x → Moved k (tray_event τ p e) (tray_event σ q x)
  joined_moved (Image f) (Image g) few low = record {
    others = record {
      count = ap (λ (n : ℕ). n + 1) h.count;
      packs = λ j away.
          stored_other τ τ.count j (image_of f p) (λ e. away (e ∙ at))
          ∙ h.packs j away
          ∙ sym (stored_other σ σ.count j (image_of g q) (λ e. away (e ∙ sym h.count ∙ at)));
      address = joined_address f τ p k u few at ∙ address ∙ sym (joined_address g σ q k v low (sym h.count ∙ at));
    };
    reply = refl;
  }
  joined_moved (Image f) (Change c) few low = absurd low
  joined_moved (Image f) (Transact t) few low = absurd low
  joined_moved (Change c) x few low = absurd few
  joined_moved (Transact t) x few low = absurd few

  -- two images with the same address, each of either kind, where the slot k is filled
  pub images_moved : (f h : Profile) (near far : ℕ)
      → eqb (tray_did τ near (whole (image_kind f) p)).answer 0 ≡ eqb (tray_did σ far (whole (image_kind h) q)).answer 0
      → Moved k (tray_did τ near (whole (image_kind f) p)) (tray_did σ far (whole (image_kind h) q))
  images_moved y z near far agree = go (outcome τ near (image_kind y) p) (outcome σ far (image_kind z) q)
    where
      go : Outcome τ near (image_kind y) p → Outcome σ far (image_kind z) q →
          Moved k (tray_did τ near (whole (image_kind y) p)) (tray_did σ far (whole (image_kind z) q))
      go (ran e a d) (ran x b f) = rw (d, f) (joined_moved e x (joining y τ p e a) (joining z σ q x b))
      go (ran e a d) (stayed m low f) =
          never (ap (λ (x : Did Tray). x.answer) d ∙ tray_replying.answer τ p e) (ap (λ (x : Did Tray). x.answer) f) low agree
      go (stayed m low d) (ran x b f) =
          never (ap (λ (x : Did Tray). x.answer) f ∙ tray_replying.answer σ q x) (ap (λ (x : Did Tray). x.answer) d) low (sym agree)
      go (stayed m low d) (stayed i high f) = rw (d, f) (still h u v near far m i)

-- a slot event of k
pub slot_moved : (k : ℕ) (τ : Tray) (room n : ℕ) (p : List ℕ) → Eight τ → slot_event n ≡ true → slot_in p ≡ k →
    Moved k (tray_did τ room (whole n p)) (silently τ 0)
slot_moved k τ room n p u slot at = go (outcome τ room n p)
  where
    changes : (e : Event) → tray_told τ n p ≡ Ok e → Asks τ (tray_kind_of n) p (Ok e) → tray_did τ room (whole n p) ≡ tray_event τ p e
        → Moved k (tray_did τ room (whole n p)) (silently τ 0)
    changes (Image f) t a d = let z : ◌≡◌ {A = ℕ} 1 0 = sym (slot_ahead n slot) ∙ ap ahead_of a.kind in absurd (omega arith)
    changes (Change c) t a d = record {
      others = record {
        count = ap (λ (x : Did Tray). x.state.count) d;
        packs = λ j other. alone τ room (whole n p) k j (slotted slot at) other;
        address =
            ap (λ (x : Did Tray). (pack_of x.state k).common.address) d
            ∙ ap (λ (g : Gauge). g.common.address) (event_pack τ u (tray_kind_of n) p (Change c) a k)
            ∙ address_after_lem τ p (Change c) k (λ f z. contrary cc);
      };
      reply = ap (λ (x : Did Tray). length x.reply) d;
    }
    changes (Transact x) t a d = let z : ◌≡◌ {A = ℕ} 1 0 = sym (slot_ahead n slot) ∙ ap ahead_of a.kind in absurd (omega arith)

    go : Outcome τ room n p → Moved k (tray_did τ room (whole n p)) (silently τ 0)
    go (ran e t d) = changes e t (rw t at (tray_asks τ n p)) d
    go (stayed m low d) = rw d (record { others = others_refl τ; reply = refl })
