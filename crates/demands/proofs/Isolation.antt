-- Isolation, proved: what one record keeps, all keep, the rooms too.
use mathlib.Core.Path.{◌≡◌, refl, sym, ap, ◌∙◌}
use mathlib.Core.List.{List, [], ◌∷◌, zip, zip_with}
use Prim.Native.Nat.{ℕ, zero, suc, ◌-◌}
use native.Mathlib.Omega.{arith}
use lib.Dec.{ltb, leb, eqb}
use lib.ListN.{length, take}
use Rattle.std.specs.Prelude.{Ok, Err}
use Rattle.numbers.specs.Choice.{pick}
use Rattle.bus.specs.declared.Transaction.{Transaction}
use Rattle.gauge.specs.declared.Gauge.{Gauge}
use Rattle.gauge.specs.Act.{reply_of}
use Rattle.record.specs.declared.Form.{Form}
use Rattle.record.specs.declared.Refusal.TheVariants as refusal
use Rattle.record.specs.declared.Event.TheVariants.{Image, Change, Transact}
use Rattle.record.specs.Record.{master_of, fitted_of, Taken}
use Rattle.record.proofs.Fits.{transaction_timely}
use Rattle.runs.specs.Record.{Rec, whole, recs_of}
use Rattle.runs.specs.Run.{Line, line_of, lines_after, end_after}
use Rattle.runs.specs.AnyRecord.{answered_by}
use Rattle.tray_record.specs.declared.Tray.{Tray}
use Rattle.tray_record.specs.Tray.{empty_tray, tray_kind_of, again_of, slot_tick, tray_told, one, tray_reach, tray_reply, of_tray, tray_did}
use Rattle.demands.specs.Call.{Call, Within, got_of, Stopped}
use Rattle.demands.specs.Longer.{form_kind}
use Rattle.demands.specs.Alone.{reach_in}
use Rattle.demands.proofs.Alone.{transaction_kind, asked_form}
use Rattle.demands.specs.Images.{image_kind}
use Rattle.demands.specs.Isolation.{Agree, images_after, Differs, none, held, here, there, images, Places, Twins, Others, Isolation, IsolationThroughout}
use Rattle.demands.proofs.Moments.{left_of, left_cons, running, stopped_within}
use Rattle.demands.proofs.Every.{run_exact}
use Rattle.demands.proofs.Fitted.{fitted_has}
use Rattle.demands.proofs.Packs.{Eight}
use Rattle.demands.proofs.Asked.{Asks, tray_asks}
use Rattle.demands.proofs.Filled.{empty_filled, did_eight}
use Rattle.demands.proofs.Others.{others_refl, others_sym, others_over, reach_others, count_after_lem, held_moved, images_moved, slot_moved}

-- All records

-- the lines are those of a run from a state, with so much room; the state at its end, and the room that is left
abbrev Got : Tray → ℕ → List (Rec × Line) → Type 0
Got τ room [] = Unit
Got τ room (x ∷ xs) =
    (x.1 ≡ line_of x.0 (tray_did τ room x.0)) × Got (tray_did τ room x.0).state (room - length (tray_did τ room x.0).reply) xs

abbrev end_got : Tray → ℕ → List (Rec × Line) → Tray
end_got τ room [] = τ
end_got τ room (x ∷ xs) = end_got (tray_did τ room x.0).state (room - length (tray_did τ room x.0).reply) xs

abbrev left_got : Tray → ℕ → List (Rec × Line) → ℕ
left_got τ room [] = room
left_got τ room (x ∷ xs) = left_got (tray_did τ room x.0).state (room - length (tray_did τ room x.0).reply) xs

record Ran (τ : Tray) (room : ℕ) (rs : List Rec) (xs : List (Rec × Line)) : Type 0 where
  got : Got τ room xs
  end : end_got τ room xs ≡ end_after tray_did τ room rs
  left : left_got τ room xs ≡ left_of tray_did τ room rs

run_ran : (τ : Tray) (room : ℕ) (rs : List Rec) → Ran τ room rs (zip rs (lines_after tray_did τ room rs))
unfolding zip zip_with
run_ran τ room [] = record { got = tt; end = refl; left = omega arith }
run_ran τ room (r ∷ rs) =
    let d = tray_did τ room r in
    let h = run_ran d.state (room - length d.reply) rs in
    record { got = (refl, h.got); end = h.end; left = h.left ∙ left_cons tray_did τ room r rs }

record Ended (k : ℕ) (τ σ : Tray) (near far : ℕ) : Type 0 where
  others : Others k τ σ
  room : near ≡ far

agreed : (l m : Line) {a b : ℕ} → Agree l m → l.answer ≡ a → m.answer ≡ b → eqb a 0 ≡ eqb b 0
agreed l m agree e g = sym (ap (λ (x : ℕ). eqb x 0) e) ∙ agree ∙ ap (λ (x : ℕ). eqb x 0) g

-- the answer that a line tells
told : {l m : Line} → l ≡ m → l.answer ≡ m.answer
told = ap (λ (x : Line). x.answer)

counted : {n m : ℕ} (r : Rec) {l k : Line} → m ≡ n → l ≡ k → images_after m r k ≡ images_after n r l
counted r e f = rw (e, f) refl

isolated : {k n : ℕ} {xs ys : List (Rec × Line)} → Differs k n xs ys → (τ σ : Tray) (near far : ℕ) → τ.count ≡ n → Others k τ σ →
    Eight τ → Eight σ
    → near ≡ far → Got τ near xs → Got σ far ys → Ended k (end_got τ near xs) (end_got σ far ys) (left_got τ near xs) (left_got σ far ys)
isolated none τ σ near far c h u v e g f = record { others = h; room = e }
isolated (held {r = r} {l = l} {m = m} agree rest) τ σ near far c h u v e g f =
    let x = held_moved h u v near far r (agreed l m agree (told g.0) (told f.0)) in
    isolated rest (tray_did τ near r).state (tray_did σ far r).state (near - length (tray_did τ near r).reply) (far - length (tray_did σ far r).reply)
    (count_after_lem τ near r u ∙ counted r c g.0)
    x.others (did_eight τ near r u) (did_eight σ far r v) (omega (arith, e, x.reply)) g.1 f.1
isolated {k} (here {e = n} {p = p} slot at rest) τ σ near far c h u v e g f =
    let x = slot_moved k τ near n p u slot at in
    isolated rest (tray_did τ near (whole n p)).state σ (near - length (tray_did τ near (whole n p)).reply) far
    (x.others.count ∙ c)
    (others_over x.others h) (did_eight τ near (whole n p) u) v (omega (arith, e, x.reply)) g.1 f
isolated {k} (there {e = n} {p = p} slot at rest) τ σ near far c h u v e g f =
    let x = slot_moved k σ far n p v slot at in
    isolated rest τ (tray_did σ far (whole n p)).state near (far - length (tray_did σ far (whole n p)).reply)
    c
    (others_over h (others_sym x.others)) u (did_eight σ far (whole n p) v) (omega (arith, e, x.reply)) g f.1
isolated (images x z {p = p} {q = q} {l = l} {m = m} at address agree rest) τ σ near far c h u v e g f =
    let y = images_moved h u v p q (c ∙ at) address x z near far (agreed l m agree (told g.0) (told f.0)) in
    isolated rest (tray_did τ near (whole (image_kind x) p)).state (tray_did σ far (whole (image_kind z) q)).state
    (near - length (tray_did τ near (whole (image_kind x) p)).reply) (far - length (tray_did σ far (whole (image_kind z) q)).reply)
    (count_after_lem τ near (whole (image_kind x) p) u ∙ counted (whole (image_kind x) p) c g.0)
    y.others (did_eight τ near (whole (image_kind x) p) u) (did_eight σ far (whole (image_kind z) q) v) (omega (arith, e, y.reply)) g.1 f.1

-- Two calls

stands : {c : Call Tray} → Within tray_did empty_tray c → Ran empty_tray (length c.room) (recs_of c.bytes) (got_of tray_did empty_tray c)
stands {c} w = run_ran empty_tray (length c.room) (recs_of c.bytes)

twins_end : {k : ℕ} {c d : Call Tray} → Twins k c d
    → Ended k c.ran.state d.ran.state (left_of tray_did empty_tray (length c.room) (recs_of c.bytes))
    (left_of tray_did empty_tray (length d.room) (recs_of d.bytes))
twins_end {k} {c} {d} t =
    let a = stands t.one in
    let b = stands t.other in
    let e = isolated t.differs empty_tray empty_tray (length c.room) (length d.room) refl (others_refl empty_tray) empty_filled.eight
    empty_filled.eight t.room a.got b.got in
    record {
      others = rw ((running tray_did empty_tray t.one).state, (running tray_did empty_tray t.other).state, ← a.end, ← b.end) e.others;
      room = sym a.left ∙ e.room ∙ b.left;
    }

-- A transaction that is matched to another slot

-- what it asks is the same
told_others : {k : ℕ} {τ σ : Tray} → Others k τ σ → (f : Form) (p : List ℕ) → tray_told τ (form_kind f) p ≡ tray_told σ (form_kind f) p
told_others {k} {τ} {σ} h f p =
    rw (transaction_kind f)
    (ap (λ (t : Taken). pick (leb 0 (length p)) t (Err refusal.Size))
    (sym (transaction_timely (slot_tick τ p) (again_of τ p) (ltb 0 τ.count) p f)
    ∙ rw h.count refl
    ∙ transaction_timely (slot_tick σ p) (again_of σ p) (ltb 0 σ.count) p f))

module _ {k : ℕ} {τ σ : Tray} (h : Others k τ σ) (j : ℕ) (away : j ≡ k → ⊥) (f : Form) (p : List ℕ) (reach : reach_in τ f p ≡ one j) where
  abbrev n : ℕ
  n = form_kind f

  abbrev Same : Taken → Type 0
  Same t = line_of (whole n p) (answered_by of_tray τ p t) ≡ line_of (whole n p) (answered_by of_tray σ p t)

  replied : (t : Transaction) → tray_reach τ t (master_of t p) ≡ one j
      → tray_reply t (master_of t p) (tray_reach τ t (master_of t p)) τ ≡ tray_reply t (master_of t p) (tray_reach σ t (master_of t p)) σ
  replied t e = rw (← (reach_others h t (master_of t p)), e) (ap (λ (g : Gauge). reply_of g t (master_of t p)) (h.packs j away))

  line_same : (t : Taken) → Asks τ (tray_kind_of n) p t → Same t
  line_same (Ok (Image f)) a = refl
  line_same (Ok (Change c)) a = refl
  line_same (Ok (Transact t)) a =
      ap (λ (l : List ℕ). record { kind = n; answer = 0; reply = l })
      (replied t (ap (λ (y : Transaction). tray_reach τ y (master_of y p)) (asked_form f (transaction_kind f) a) ∙ reach))
  line_same (Err r) a = refl

  matched_same : (room : ℕ) → line_of (whole n p) (tray_did τ room (whole n p)) ≡ line_of (whole n p) (tray_did σ room (whole n p))
  unfolding tray_did
  matched_same room =
      fitted_has Same refl room (tray_told τ n p) (line_same (tray_told τ n p) (tray_asks τ n p))
      ∙ ap (λ (t : Taken). line_of (whole n p) (answered_by of_tray σ p (fitted_of room t))) (told_others h f p)

-- Two sessions that are stopped

first_differs : {k n : ℕ} {xs ys : List (Rec × Line)} (d : Differs k n xs ys) (i j : ℕ) → Places d i j → Differs k n (take i xs) (take j ys)
first_differs none zero zero h = none
first_differs none zero (suc j) h = absurd h
first_differs none (suc i) j h = absurd h
first_differs (held agree rest) zero zero h = none
first_differs (held agree rest) zero (suc j) h = absurd h
first_differs (held agree rest) (suc i) zero h = absurd h
first_differs (held agree rest) (suc i) (suc j) h = held agree (first_differs rest i j h)
first_differs (here slot at rest) zero zero h = none
first_differs (here slot at rest) zero (suc j) h = absurd h
first_differs (here slot at rest) (suc i) j h = here slot at (first_differs rest i j h)
first_differs (there slot at rest) zero zero h = none
first_differs (there slot at rest) (suc i) zero h = absurd h
first_differs (there slot at rest) zero (suc j) h = there slot at (first_differs rest zero j h)
first_differs (there slot at rest) (suc i) (suc j) h = there slot at (first_differs rest (suc i) j h)
first_differs (images f g at address agree rest) zero zero h = none
first_differs (images f g at address agree rest) zero (suc j) h = absurd h
first_differs (images f g at address agree rest) (suc i) zero h = absurd h
first_differs (images f g at address agree rest) (suc i) (suc j) h = images f g at address agree (first_differs rest i j h)

twins_stopped : {k : ℕ} {c d : Call Tray} (t : Twins k c d) (i j : ℕ) → Places t.differs i j
    → {a e : Call Tray} → Stopped tray_did empty_tray i c a → Stopped tray_did empty_tray j d e → Twins k a e
twins_stopped {k} {c} {d} t i j h {a} {e} s u = record {
  one = stopped_within tray_did empty_tray t.one s;
  other = stopped_within tray_did empty_tray t.other u;
  room = rw (s.room, u.room) t.room;
  differs =
      rw (((run_exact tray_did empty_tray).moments i c a t.one s).got, ((run_exact tray_did empty_tray).moments j d e t.other u).got)
      (first_differs t.differs i j h);
}

pub isolation : Isolation
isolation = record {
  stops = λ k c d t i j h a e s u. twins_stopped t i j h s u;
  states = λ k c d t. (twins_end t).others;
  replies = λ k j c d w v x p l m a b e f s t twins reach away.
      let n = form_kind x in
      let near = (run_exact tray_did empty_tray).events c w (whole n p) l a b s in
      let far = (run_exact tray_did empty_tray).events d v (whole n p) m e f t in
      let h = twins_end twins in
      let left : length a.room - a.ran.replied ≡ length e.room - e.ran.replied =
      rw ((running tray_did empty_tray twins.one).replied, (running tray_did empty_tray twins.other).replied) h.room in
      near.line
      ∙ matched_same h.others j away x p reach (length a.room - a.ran.replied)
      ∙ ap (λ (room : ℕ). line_of (whole n p) (tray_did e.ran.state room (whole n p))) left
      ∙ sym far.line;
}

-- the paper's sentence, of its three parts
pub isolated_throughout : IsolationThroughout
isolated_throughout k c d t i j place a e s u =
    let twins = isolation.stops k c d t i j place a e s u in
    record {
      states = isolation.states k a e twins;
      replies = λ n x p l m b f taken taken' reach away.
          isolation.replies k n c d t.one t.other x p l m a b e f taken taken' twins reach away;
    }
