-- Demand 3, proved.
use mathlib.Core.Path.{◌≡◌, refl, sym, ap, ◌∙◌}
use mathlib.Core.Bool.{Bool, true, false}
use mathlib.Core.List.{List, [], ◌∷◌, ◌++◌, zip, zip_with}
use Prim.Native.Nat.{ℕ, ◌-◌}
use native.Mathlib.Omega.{arith}
use lib.Dec.{eqb}
use lib.ListN.{length}
use Rattle.std.specs.Prelude.{Ok, Err}
use Rattle.state.specs.declared.Profile.{Profile}
use Rattle.state.specs.State.{image_size_of}
use Rattle.demands.specs.Images.{image_kind}
use Rattle.demands.proofs.Images.{session_image}
use Rattle.numbers.specs.Choice.{pick}
use Rattle.gauge.specs.declared.Gauge.{Gauge}
use Rattle.gauge.specs.Image.{image_of}
use Rattle.record.specs.declared.Event.TheVariants.{Image}
use Rattle.replies.specs.Reply.{selected_of}
use Rattle.record.specs.declared.Refusal.TheVariants.{Size, Order}
use Rattle.record.specs.Image.{image_address}
use Rattle.record.specs.Record.{judged_by, taken_of, Taken}
use Rattle.runs.specs.Record.{Rec, whole, recs_of}
use Rattle.runs.specs.Run.{Did, silently, Line, line_of}
use Rattle.runs.specs.declared.Session.{Session}
use Rattle.runs.specs.SessionRecord.{loaded_with, did_of}
use Rattle.session_run.specs.SessionRun.{empty_of}
use Rattle.demands.specs.Call.{Call, got_of}
use Rattle.demands.specs.Sections.{Class, labelling, gauging, fence, only, Sections, more}
use Rattle.demands.specs.Class.{Selects, taken_class, class_by, session_asked, class_of}
use Rattle.demands.specs.Demand3.{Starts, Mixed, KeptApart, SessionsMixed, Demand3}
use Rattle.demands.proofs.Choice.{contrary}
use Rattle.demands.proofs.Moments.{running, tells}
use Rattle.demands.proofs.Demand2.{did_image}
use Rattle.demands.proofs.Mix.{sections_only, end_from, got_from, Swaps, apart}
use Rattle.demands.proofs.Address.{Owned}
use Rattle.demands.proofs.Room.{free_of, free_stays, step, out, Free, free}
use Rattle.demands.proofs.Forms.{Form, label_form, gauge_form}

-- A label event and a gauge event change places

module _ {A B : Type 0} {make : A → B → Gauge} {x : A} (r : Rec) (f : Form make x (λ g. free_of g r)) where
  steps : (y : B) → step (make x y) r ≡ make f.part y
  steps y = ap (λ (d : Did Session). d.state.gauge) (f.form y)

  outs : (y z : B) → out (make x y) r ≡ out (make x z) r
  outs y z = ap (line_of r) (f.form y) ∙ sym (ap (line_of r) (f.form z))

module _ (address : List ℕ) where
  step_owned : (g : Gauge) (r : Rec) → Owned address g → Owned address (step g r)
  step_owned g r e = (free_stays g r).owned ∙ e

  swaps : (g : Gauge) (a b : Rec) → Owned address g → class_of address a ≡ labelling → class_of address b ≡ gauging → Swaps step out g a b
  swaps g a b own ea eb =
      let l = label_form g.common g.label a (ap (λ (k : List ℕ). class_of k a) own ∙ ea) in
      let m = gauge_form g.common g.meter b (ap (λ (k : List ℕ). class_of k b) own ∙ eb) in
      let ga = steps a l g.meter in
      let gb = steps b m g.label in
      record {
        state = ap (λ (x : Gauge). step x b) ga ∙ steps b m l.part ∙ sym (ap (λ (x : Gauge). step x a) gb ∙ steps a l m.part);
        first = ap (λ (x : Gauge). out x a) gb ∙ outs a l m.part g.meter;
        second = ap (λ (x : Gauge). out x b) ga ∙ outs b m l.part g.label;
      }

-- Two runs with the same opening, of which each record is a fence

module _ {S : Type 0} (did : S → ℕ → Rec → Did S) (start : S) (asked : ℕ → List ℕ → Taken) (selects : Selects) where
  abbrev pub class : Rec × Line → Class
  class e = class_by asked selects e.0

  -- the opening with its lines
  abbrev pub Fences : List (Rec × Line) → Type 0
  Fences [] = Unit
  Fences (o ∷ os) = (class o ≡ fence) × Fences os

  opened : (os : List (Rec × Line)) → Fences os → {us vs : List (Rec × Line)} → Sections class us vs → Sections class (os ++ us) (os ++ vs)
  opened [] f s = s
  opened (o ∷ os) f s = more {xs = []} {ys = []} (record { one = refl; other = refl; labels = refl; gauges = refl }) f.0 (opened os f.1 s)

  pub kept_apart : {opening xs ys : List Rec} {us vs : List (Rec × Line)} {a b : Call S} (os : List (Rec × Line)) → Fences os
      → Mixed did start asked selects opening xs ys a b → got_of did start a ≡ os ++ us → got_of did start b ≡ os ++ vs → Sections class us vs
      → a.ran.state ≡ b.ran.state → KeptApart did start asked selects a b
  kept_apart os f m one other s same = record {
    events = rw (one, other) (opened os f s);
    one = tells did start m.one.within;
    other = tells did start m.other.within;
    state = same;
  }

-- One session

abbrev image_got : Profile → List ℕ → Rec × Line
image_got f p = (whole (image_kind f) p, line_of (whole (image_kind f) p) (silently (loaded_with (image_of f p)) 0))

module _ {f : Profile} {p : List ℕ} {rs : List Rec} {c : Call Session} (accepted : taken_of (image_kind f) false p ≡ Ok (Image f))
    (s : Starts did_of empty_of session_asked (selected_of (image_address p)) (whole (image_kind f) p ∷ []) rs c) where
  freed : Free (image_of f p) (length c.room - 0) rs
  freed = free (image_of f p) (length c.room - 0) rs (omega (arith, s.room))

  first : recs_of c.bytes ≡ whole (image_kind f) p ∷ rs
  first = s.first

  ends : c.ran.state ≡ loaded_with (end_from step out (image_of f p) rs)
  ends = (running did_of empty_of s.within).state ∙ rw (first, did_image f p (length c.room) accepted) freed.end

  gets : got_of did_of empty_of c ≡ image_got f p ∷ got_from step out (image_of f p) rs
  unfolding zip zip_with
  gets = rw (first, did_image f p (length c.room) accepted) (ap (λ (l : List (Rec × Line)). image_got f p ∷ l) freed.got)

-- the image is a fence, as the class judges it: one that comes after another
image_class : (f : Profile) (address p : List ℕ) → taken_of (image_kind f) false p ≡ Ok (Image f) → class_of address (whole (image_kind f) p) ≡ fence
unfolding taken_of
image_class f address p e = rw (session_image f) (go (eqb (length p) (image_size_of f)) (rw (session_image f) at e))
  where
    go : (t : Bool) → pick t (judged_by f p) (Err Size) ≡ Ok (Image f) →
        taken_class (selected_of address) p (pick t (Err Order) (Err Size)) ≡ fence
    go true f = refl
    go false f = contrary cc

-- Both

pub demand_3 : Demand3
unfolding image_of
demand_3 f p xs ys a b accepted m =
    let k = image_address p in
    let h = apart step out (class_of k) (Owned k) (step_owned k) (swaps k) m.sections (image_of f p) refl in
    kept_apart did_of empty_of session_asked (selected_of k) (image_got f p ∷ []) (image_class f k p accepted, tt) m
    (gets accepted m.one) (gets accepted m.other) h.sections
    (ends accepted m.one ∙ ap loaded_with h.end ∙ sym (ends accepted m.other))

-- so of each class the whole session's events, with what they got, are the same list
pub demand_3_by_class : (f : Profile) (p : List ℕ) (xs ys : List Rec) (a b : Call Session) → taken_of (image_kind f) false p ≡ Ok (Image f)
    → SessionsMixed f p xs ys a b
    → (k : Class) → only (λ e. class_of (image_address p) e.0) k (got_of did_of empty_of a)
    ≡ only (λ e. class_of (image_address p) e.0) k (got_of did_of empty_of b)
demand_3_by_class f p xs ys a b accepted m k = sections_only _ k (demand_3 f p xs ys a b accepted m).events
