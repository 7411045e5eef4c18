-- A label event of a tray is, pack by pack, one of the common parts and the labels, and keeps the meters; a gauge event is one of the common parts
-- and the meters, and keeps the labels. So a label event and a gauge event of a tray change places.
use mathlib.Core.Path.{◌≡◌, refl, sym, ap, subst, ◌∙◌}
use mathlib.Core.Bool.{Bool, true, false}
use mathlib.Core.List.{List, []}
use Prim.Native.Nat.{ℕ, ◌<◌}
use native.Mathlib.Omega.{arith}
use borrow.Author.Tests.{lt-ltb, eqb-true, eq-eqb}
use lib.Dec.{eqb}
use lib.ListN.{length}
use lib.Seq.{ext_get_or}
use Rattle.std.specs.Prelude.{Ok, Err}
use Rattle.numbers.specs.Choice.{pick, either}
use Rattle.state.specs.declared.Meter.{Meter}
use Rattle.state.specs.declared.Common.{Common}
use Rattle.state.specs.declared.Label.{Label}
use Rattle.bus.specs.declared.Transaction.{Transaction}
use Rattle.replies.specs.Reply.{selected_of}
use Rattle.gauge.specs.declared.Gauge.{Gauge}
use Rattle.gauge.specs.Change.{changed_of}
use Rattle.gauge.specs.Act.{reply_of}
use Rattle.record.specs.declared.Change.{Change as Changes}
use Rattle.record.specs.declared.Event.TheVariants.{Image, Change, Transact}
use Rattle.record.specs.declared.Refusal.{Refusal}
use Rattle.record.specs.declared.Refusal.TheVariants.{Interval}
use Rattle.record.specs.Record.{master_of, change_timely, timed_of, Taken}
use Rattle.runs.specs.Record.{Rec, whole, cut, kind_in}
use Rattle.runs.specs.Run.{Did}
use Rattle.runs.specs.declared.Session.{Session}
use Rattle.runs.specs.AnyRecord.{answered_by}
use Rattle.runs.specs.SessionRecord.{loaded_with, taken_did}
use Rattle.tray_record.specs.declared.Tray.{Tray}
use Rattle.tray_record.specs.Tray.{no_gauge, pack_of, slot_in, slot_tick, Reach, one, every, nobody, matched_of}
use Rattle.tray_record.specs.Tray.{reach_by, tray_reach, tray_told, wired_first, tray_reply}
use Rattle.demands.specs.Sections.{Class, labelling, gauging, fence}
use Rattle.demands.specs.Class.{touched_of, taken_class, class_by, tray_asked, some_selected}
use Rattle.demands.specs.History.{hears_of}
use Rattle.demands.proofs.Choice.{contrary}
use Rattle.demands.proofs.Mix.{Swaps}
use Rattle.demands.proofs.Room.{timed_did}
use Rattle.demands.proofs.Forms.{after, Form, labelled, metered, label_taken, gauge_taken}
use Rattle.demands.proofs.Packs.{Eight, stored_pack, stored_eight, same_tray, acted_eight, acted_pack, acted_count, wired_same}
use Rattle.demands.proofs.Asked.{reach_there}
use Rattle.demands.proofs.Shut.{of_shut, free_tray, tray_step, tray_out, Owns, step_owns, told_class, Asked, asked_there}
use Rattle.demands.proofs.Selected.{hears_chosen}

-- What a record does to each pack

-- a pack that it touches does it by itself
record Does (p : List ℕ) (t : Taken) (touch : ℕ → Bool) (closes : Bool) (σ : Tray) (f : Did Tray) : Type 0 where
  count : f.state.count ≡ σ.count
  eight : Eight f.state
  packs : (j : ℕ) → pack_of f.state j ≡ pick (touch j) (timed_did p t (pack_of σ j)).state.gauge (pack_of σ j)
  closed : f.state.closed ≡ either closes σ.closed

does_transact : (σ : Tray) → Eight σ → (p : List ℕ) (t : Transaction)
    → Does p (Ok (Transact t)) (hears_of (tray_reach σ t (master_of t p)) σ.count) true σ (answered_by of_shut σ p (Ok (Transact t)))
does_transact σ h p t =
    let e = acted_eight t (master_of t p) σ h (tray_reach σ t (master_of t p)) in
    record {
      count = acted_count t (master_of t p) σ (tray_reach σ t (master_of t p));
      eight = record { few = e.few; commons = e.commons; labels = e.labels; meters = e.meters };
      packs = acted_pack t (master_of t p) σ h (tray_reach σ t (master_of t p)) (reach_there σ t (master_of t p));
      closed = refl;
    }

does_nothing : (σ : Tray) → Eight σ → (p : List ℕ) (r : Refusal) → Does p (Err r) (λ j. false) false σ (answered_by of_shut σ p (Err r))
does_nothing σ h p r = record { count = refl; eight = h; packs = λ j. refl; closed = refl }

module _ (σ : Tray) (h : Eight σ) (p : List ℕ) (c : Changes) where
  abbrev here : Did Session
  here = timed_did p (Ok (Change c)) (pack_of σ (slot_in p))

  abbrev slot_did : Did Tray
  slot_did = answered_by of_shut σ p (timed_of (slot_tick σ p) (Ok (Change c)))

  -- the pack in the slot, after g
  slot_pack : (g : Gauge) → here.state.gauge ≡ g → (j : ℕ) (s : Bool) → eqb j (slot_in p) ≡ s
      → pick s g (pack_of σ j) ≡ pick s (timed_did p (Ok (Change c)) (pack_of σ j)).state.gauge (pack_of σ j)
  slot_pack g e j true f = sym (ap (λ (i : ℕ). (timed_did p (Ok (Change c)) (pack_of σ i)).state.gauge) (eqb-true j (slot_in p) f) ∙ e)
  slot_pack g e j false f = refl

  same_pack : (j : ℕ) → pack_of σ j ≡ pick (eqb j (slot_in p)) (pack_of σ (slot_in p)) (pack_of σ j)
  same_pack j = go (eqb j (slot_in p)) refl
    where
      go : (s : Bool) → eqb j (slot_in p) ≡ s → pack_of σ j ≡ pick s (pack_of σ (slot_in p)) (pack_of σ j)
      go true e = ap (pack_of σ) (eqb-true j (slot_in p) e)
      go false e = refl

  does_change : slot_in p < σ.count → Does p (Ok (Change c)) (λ j. eqb j (slot_in p)) (eqb here.answer 0) σ slot_did
  does_change low = go (change_timely (slot_tick σ p) c) refl
    where
      go : (b : Bool) → change_timely (slot_tick σ p) c ≡ b → Does p (Ok (Change c)) (λ j. eqb j (slot_in p)) (eqb here.answer 0) σ slot_did
      go true e =
          let g = changed_of (pack_of σ (slot_in p)) c in
          let s = stored_eight σ (slot_in p) g h in
          let left : here.state.gauge ≡ g = rw e refl in
          record {
            count = rw e refl;
            eight = rw e (record { few = s.few; commons = s.commons; labels = s.labels; meters = s.meters });
            packs = λ j. rw e (stored_pack σ (slot_in p) j g h (omega (arith, h.few)) ∙ slot_pack g left j (eqb j (slot_in p)) refl);
            closed = rw e refl;
          }
      go false e =
          let left : here.state.gauge ≡ pack_of σ (slot_in p) = rw e refl in
          record {
            count = rw e refl;
            eight = rw e h;
            packs = λ j. rw e (same_pack j ∙ slot_pack (pack_of σ (slot_in p)) left j (eqb j (slot_in p)) refl);
            closed = rw e refl;
          }

  slot_answer : (slot_did.answer ≡ here.answer) × (slot_did.reply ≡ [])
  slot_answer = go (change_timely (slot_tick σ p) c)
    where
      go : (b : Bool)
          → ((answered_by of_shut σ p (pick b (Ok (Change c)) (Err Interval))).answer
          ≡ (taken_did (loaded_with (pack_of σ (slot_in p))) p (pick b (Ok (Change c)) (Err Interval))).answer)
          × ((answered_by of_shut σ p (pick b (Ok (Change c)) (Err Interval))).reply ≡ [])
      go true = (refl, refl)
      go false = (refl, refl)

-- Of either side: an event goes by one part of each pack and changes it, and keeps the other

module _ {A B : Type 0} (own : Gauge → A) (other : Gauge → B) where
  -- One pack

  record Pair (g h : Gauge) : Type 0 where
    common : h.common ≡ g.common
    part : own h ≡ own g

  record PackMoves (h : Gauge) (d f : Did Session) : Type 0 where
    answer : f.answer ≡ d.answer
    reply : f.reply ≡ d.reply
    part : own f.state.gauge ≡ own d.state.gauge
    common : f.state.gauge.common ≡ h.common
    rest : other f.state.gauge ≡ other h

  -- All packs

  record Alike (τ σ : Tray) : Type 0 where
    count : σ.count ≡ τ.count
    pairs : (j : ℕ) → Pair (pack_of τ j) (pack_of σ j)

  record Moves (τ σ : Tray) (d f : Did Tray) : Type 0 where
    answer : f.answer ≡ d.answer
    reply : f.reply ≡ d.reply
    parts : (j : ℕ) → own (pack_of f.state j) ≡ own (pack_of d.state j)
    closes : Bool
    here : d.state.closed ≡ either closes τ.closed
    there : f.state.closed ≡ either closes σ.closed
    count : f.state.count ≡ σ.count
    eight : Eight f.state
    commons : (j : ℕ) → (pack_of f.state j).common ≡ (pack_of σ j).common
    rests : (j : ℕ) → other (pack_of f.state j) ≡ other (pack_of σ j)

  module _ {τ σ : Tray} (alike : Alike τ σ) (p : List ℕ) (t : Taken) (touch : ℕ → Bool) (closes : Bool) {d f : Did Tray}
      (u : Does p t touch closes τ d) (v : Does p t touch closes σ f)
      (moved : (j : ℕ) → touch j ≡ true → PackMoves (pack_of σ j) (timed_did p t (pack_of τ j)) (timed_did p t (pack_of σ j))) where
    moves_of : f.answer ≡ d.answer → f.reply ≡ d.reply → Moves τ σ d f
    moves_of answer reply = record {
      answer = answer;
      reply = reply;
      parts = λ j. ap own (v.packs j) ∙ part j (touch j) refl ∙ sym (ap own (u.packs j));
      closes = closes;
      here = u.closed;
      there = v.closed;
      count = v.count;
      eight = v.eight;
      commons = λ j. ap (λ (g : Gauge). g.common) (v.packs j) ∙ common j (touch j) refl;
      rests = λ j. ap other (v.packs j) ∙ rest j (touch j) refl;
    }
      where
        part : (j : ℕ) (s : Bool) → touch j ≡ s
            → own (pick s (timed_did p t (pack_of σ j)).state.gauge (pack_of σ j)) ≡ own (pick s (timed_did p t (pack_of τ j)).state.gauge (pack_of τ j))
        part j true e = (moved j e).part
        part j false e = (alike.pairs j).part

        common : (j : ℕ) (s : Bool) → touch j ≡ s → (pick s (timed_did p t (pack_of σ j)).state.gauge (pack_of σ j)).common ≡ (pack_of σ j).common
        common j true e = (moved j e).common
        common j false e = refl

        rest : (j : ℕ) (s : Bool) → touch j ≡ s → other (pick s (timed_did p t (pack_of σ j)).state.gauge (pack_of σ j)) ≡ other (pack_of σ j)
        rest j true e = (moved j e).rest
        rest j false e = refl

module _ {A B : Type 0} (make : Common → A → B → Gauge) (own : Gauge → A) (other : Gauge → B)
    (made : (g : Gauge) → make g.common (own g) (other g) ≡ g)
    (own-made : (c : Common) (x : A) (y : B) → own (make c x y) ≡ x)
    (other-made : (c : Common) (x : A) (y : B) → other (make c x y) ≡ y)
    (common-made : (c : Common) (x : A) (y : B) → (make c x y).common ≡ c)
    (k : Class) (no_fence : fence ≡ k → ⊥)
    (form : (c : Common) (x : A) (p : List ℕ) (t : Taken) → taken_class (selected_of c.address) p t ≡ k → Form (make c) x (timed_did p t)) where
  pack_moves : (g h : Gauge) → Pair own other g h → (p : List ℕ) (t : Taken) → taken_class (selected_of g.common.address) p t ≡ k
      → PackMoves own other h (timed_did p t g) (timed_did p t h)
  pack_moves g h e p t c =
      let φ = form g.common (own g) p t c in
      let d : timed_did p t g ≡ after (make g.common φ.part (other g)) φ.answer φ.reply = ap (timed_did p t) (sym (made g))
      ∙ φ.form (other g) in
      let same : h ≡ make g.common (own g) (other h) = sym (made h) ∙ (λ i. make (e.common i) (e.part i) (other h)) in
      let f : timed_did p t h ≡ after (make g.common φ.part (other h)) φ.answer φ.reply = ap (timed_did p t) same ∙ φ.form (other h) in
      record {
        answer = ap (λ (x : Did Session). x.answer) f ∙ sym (ap (λ (x : Did Session). x.answer) d);
        reply = ap (λ (x : Did Session). x.reply) f ∙ sym (ap (λ (x : Did Session). x.reply) d);
        part =
            ap (λ (x : Did Session). own x.state.gauge) f
            ∙ own-made g.common φ.part (other h)
            ∙ sym (ap (λ (x : Did Session). own x.state.gauge) d ∙ own-made g.common φ.part (other g));
        common = ap (λ (x : Did Session). x.state.gauge.common) f ∙ common-made g.common φ.part (other h) ∙ sym e.common;
        rest = ap (λ (x : Did Session). other x.state.gauge) f ∙ other-made g.common φ.part (other h);
      }

  -- by what is asked

  module _ (addresses : List (List ℕ)) {τ σ : Tray} (own-τ : Owns addresses τ) (own-σ : Owns addresses σ) (alike : Alike own other τ σ)
      (p : List ℕ) where
    reach_alike : (t : Transaction) (master : List ℕ) → tray_reach σ t master ≡ tray_reach τ t master
    reach_alike t master =
        let commons : σ.commons ≡ τ.commons =
        ext_get_or no_gauge.common σ.commons τ.commons (own-σ.eight.commons ∙ sym own-τ.eight.commons) (λ i low. (alike.pairs i).common) in
        λ i. reach_by t.rom (matched_of (commons i) (alike.count i) master)

    abbrev asked : Tray → Taken → Did Tray
    asked υ t = answered_by of_shut υ p (timed_of (slot_tick υ p) t)

    module _ (t : Transaction) (e : taken_class (some_selected addresses) p (Ok (Transact t)) ≡ k) where
      abbrev reach : Reach
      reach = tray_reach τ t (master_of t p)

      heard_class : (j : ℕ) → hears_of reach τ.count j ≡ true → taken_class (selected_of (pack_of τ j).common.address) p (Ok (Transact t)) ≡ k
      unfolding touched_of
      heard_class j hear = rw (hears_chosen addresses τ own-τ t (master_of t p) j hear) e

      heard : (j : ℕ) → hears_of reach τ.count j ≡ true
          → PackMoves own other (pack_of σ j) (timed_did p (Ok (Transact t)) (pack_of τ j)) (timed_did p (Ok (Transact t)) (pack_of σ j))
      heard j hear = pack_moves (pack_of τ j) (pack_of σ j) (alike.pairs j) p (Ok (Transact t)) (heard_class j hear)

      replied : (r : Reach) → ((j : ℕ) → hears_of r τ.count j ≡ true →
          reply_of (pack_of σ j) t (master_of t p) ≡ reply_of (pack_of τ j) t (master_of t p))
          → tray_reply t (master_of t p) r σ ≡ tray_reply t (master_of t p) r τ
      replied (one i) h = h i (eq-eqb i i refl)
      replied nobody h = refl
      replied every h =
          ap (wired_first t (master_of t p) σ) alike.count
          ∙ wired_same t (master_of t p) σ τ τ.count (λ j low. h j (lt-ltb j τ.count low))

      transact_moves : Moves own other τ σ (asked τ (Ok (Transact t))) (asked σ (Ok (Transact t)))
      transact_moves =
          moves_of own other alike p (Ok (Transact t)) (hears_of reach τ.count) true
          (does_transact τ own-τ.eight p t)
          (subst (λ (x : ℕ → Bool). Does p (Ok (Transact t)) x true σ (asked σ (Ok (Transact t))))
          (λ i. hears_of (reach_alike t (master_of t p) i) (alike.count i)) (does_transact σ own-σ.eight p t))
          heard refl
          (ap (λ (r : Reach). tray_reply t (master_of t p) r σ) (reach_alike t (master_of t p)) ∙ replied reach (λ j hear. (heard j hear).reply))

    change_moves : (c : Changes) → taken_class (some_selected addresses) p (Ok (Change c)) ≡ k → slot_in p < τ.count
        → Moves own other τ σ (asked τ (Ok (Change c))) (asked σ (Ok (Change c)))
    change_moves c e low =
        let moved : (j : ℕ) → PackMoves own other (pack_of σ j) (timed_did p (Ok (Change c)) (pack_of τ j)) (timed_did p (Ok (Change c)) (pack_of σ j)) =
        λ j. pack_moves (pack_of τ j) (pack_of σ j) (alike.pairs j) p (Ok (Change c)) e in
        let slot = moved (slot_in p) in
        let one = slot_answer τ own-τ.eight p c in
        let two = slot_answer σ own-σ.eight p c in
        moves_of own other alike p (Ok (Change c)) (λ j. eqb j (slot_in p)) (eqb (timed_did p (Ok (Change c)) (pack_of τ (slot_in p))).answer 0)
        (does_change τ own-τ.eight p c low)
        (subst (λ (b : Bool). Does p (Ok (Change c)) (λ j. eqb j (slot_in p)) b σ (asked σ (Ok (Change c))))
        (ap (λ (n : ℕ). eqb n 0) slot.answer) (does_change σ own-σ.eight p c (rw alike.count low)))
        (λ j touch. moved j) (two.0 ∙ slot.answer ∙ sym one.0) (two.1 ∙ sym one.1)

    taken_moves : (t : Taken) → taken_class (some_selected addresses) p t ≡ k → Asked τ.count p t → Moves own other τ σ (asked τ t) (asked σ t)
    taken_moves (Ok (Image f)) e a = absurd (no_fence e)
    taken_moves (Ok (Change c)) e a = change_moves c e a
    taken_moves (Ok (Transact t)) e a = transact_moves t e
    taken_moves (Err r) e a =
        moves_of own other alike p (Err r) (λ j. false) false (does_nothing τ own-τ.eight p r) (does_nothing σ own-σ.eight p r)
        (λ j touch. contrary cc) refl refl

  free_moves : (addresses : List (List ℕ)) (τ σ : Tray) → Owns addresses τ → Owns addresses σ → Alike own other τ σ
      → (r : Rec) → class_by (tray_asked (length addresses)) (some_selected addresses) r ≡ k → Moves own other τ σ (free_tray τ r) (free_tray σ r)
  free_moves addresses τ σ u v alike cut e = absurd (no_fence e)
  free_moves addresses τ σ u v alike (whole n p) e =
      let t = tray_asked (length addresses) n p in
      let other : taken_class (some_selected addresses) p t ≡ fence → ⊥ = λ f. no_fence (sym f ∙ e) in
      let one : tray_told τ n p ≡ timed_of (slot_tick τ p) t =
      rw (← u.count) (told_class τ n p (some_selected addresses) (rw u.count other)) in
      let two : tray_told σ n p ≡ timed_of (slot_tick σ p) t =
      rw (← v.count) (told_class σ n p (some_selected addresses) (rw v.count other)) in
      rw (one, two) (taken_moves addresses u v alike p t e (rw u.count (asked_there (length addresses) n p)))

-- The two sides

abbrev label_of : Gauge → Label
label_of g = g.label

abbrev meter_of : Gauge → Meter
meter_of g = g.meter

module _ (addresses : List (List ℕ)) where
  abbrev class : Rec → Class
  class = class_by (tray_asked (length addresses)) (some_selected addresses)

  labels_move : (τ σ : Tray) → Owns addresses τ → Owns addresses σ → Alike label_of meter_of τ σ → (r : Rec) → class r ≡ labelling
      → Moves label_of meter_of τ σ (free_tray τ r) (free_tray σ r)
  labels_move =
      free_moves labelled label_of meter_of (λ g. refl) (λ c x y. refl) (λ c x y. refl) (λ c x y. refl) labelling (λ e. contrary cc)
      (λ c x p t e. label_taken c x p t e) addresses

  gauges_move : (τ σ : Tray) → Owns addresses τ → Owns addresses σ → Alike meter_of label_of τ σ → (r : Rec) → class r ≡ gauging
      → Moves meter_of label_of τ σ (free_tray τ r) (free_tray σ r)
  gauges_move =
      free_moves metered meter_of label_of (λ g. refl) (λ c x y. refl) (λ c x y. refl) (λ c x y. refl) gauging (λ e. contrary cc)
      (λ c x p t e. gauge_taken c x p t e) addresses

  -- what one side keeps, the other goes by
  moved_alike : {A B : Type 0} {own : Gauge → A} {other : Gauge → B} {τ : Tray} {f : Did Tray} → Moves own other τ τ f f →
      Alike other own τ f.state
  moved_alike m = record { count = m.count; pairs = λ j. record { common = m.commons j; part = m.rests j } }

  self : {A B : Type 0} (own : Gauge → A) (other : Gauge → B) (τ : Tray) → Alike own other τ τ
  self own other τ = record { count = refl; pairs = λ j. record { common = refl; part = refl } }

  pub tray_swaps : (τ : Tray) (a b : Rec) → Owns addresses τ → class a ≡ labelling → class b ≡ gauging → Swaps tray_step tray_out τ a b
  tray_swaps τ a b h ea eb =
      let la = labels_move τ τ h h (self label_of meter_of τ) a ea in
      let gb = gauges_move τ τ h h (self meter_of label_of τ) b eb in
      let ha = step_owns addresses τ h a in
      let hb = step_owns addresses τ h b in
      let l = labels_move τ (tray_step τ b) h hb (moved_alike gb) a ea in
      let g = gauges_move τ (tray_step τ a) h ha (moved_alike la) b eb in
      record {
        state =
            same_tray (tray_step (tray_step τ a) b) (tray_step (tray_step τ b) a) g.eight l.eight
            (g.count ∙ la.count ∙ sym (l.count ∙ gb.count))
            (g.there ∙ ap (either g.closes) l.here ∙ swapped g.closes l.closes τ.closed
            ∙ sym (l.there ∙ ap (either l.closes) g.here))
            (λ j i. record {
              common = (g.commons j ∙ la.commons j ∙ sym (l.commons j ∙ gb.commons j)) i;
              label = (g.rests j ∙ sym (l.parts j)) i;
              meter = (g.parts j ∙ sym (l.rests j)) i;
            });
        first = λ i. record { kind = kind_in a; answer = l.answer i; reply = l.reply i };
        second = λ i. record { kind = kind_in b; answer = g.answer i; reply = g.reply i };
      }
    where
      swapped : (x y z : Bool) → either x (either y z) ≡ either y (either x z)
      swapped true true z = refl
      swapped true false z = refl
      swapped false true z = refl
      swapped false false z = refl
