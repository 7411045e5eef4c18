-- The opening of a tray session: images join, and any other record of it is refused, so that it leaves the tray and takes no reply room. What each
-- record of it gets depends on the images that were accepted before it, and not on the room.
use mathlib.Core.Path.{◌≡◌, refl, sym, ap, subst, ◌∙◌}
use mathlib.Core.Bool.{Bool, true, false, not}
use mathlib.Core.List.{List, [], ◌∷◌, zip, zip_with}
use Prim.Native.Nat.{ℕ, ◌-◌, zero-le}
use native.Mathlib.Nat.{sub-zero}
use native.Mathlib.Omega.{arith}
use borrow.Author.Tests.{le-ltb, eqb-true, eqb-false, ne_eqb}
use lib.Dec.{ltb, eqb}
use lib.ListN.{length}
use Rattle.std.specs.Prelude.{Ok, Err}
use Rattle.numbers.specs.Choice.{pick}
use Rattle.numbers.proofs.Bounds.{picked}
use Rattle.state.specs.declared.Profile.{Profile}
use Rattle.state.specs.State.{image_size_of}
use Rattle.gauge.specs.Image.{image_of}
use Rattle.record.specs.declared.Kind.TheVariants as kind
use Rattle.record.specs.declared.Event.{Event}
use Rattle.record.specs.declared.Event.TheVariants.{Image, Change, Transact}
use Rattle.record.specs.Image.{image_address, image_breaks}
use Rattle.record.specs.Record.{refusal_number, addressed_of, lockable_of, ordered_of, judged_among, fitted_of, Taken}
use Rattle.record.proofs.Fits.{refusal_range}
use Rattle.runs.specs.Record.{Rec, whole, cut}
use Rattle.runs.specs.Run.{Did, silently, Line, line_of, lines_after, end_after, replies_of}
use Rattle.runs.specs.AnyRecord.{Steps, answered_by}
use Rattle.tray_record.specs.declared.Tray.{Tray}
use Rattle.tray_record.specs.Tray.{pack_joined, tray_kind_of, ahead_of, again_of, slot_tick, tray_told, tray_event, of_tray, tray_did}
use Rattle.demands.specs.Images.{image_kind}
use Rattle.demands.specs.Sections.{labelling, gauging, fence, Sections}
use Rattle.demands.specs.Class.{tray_class}
use Rattle.demands.specs.Demand3.{accepted_in, image_records}
use Rattle.demands.proofs.Choice.{contrary}
use Rattle.demands.proofs.Images.{tray_image}
use Rattle.demands.proofs.Mix.{got_from, Swaps, apart}
use Rattle.demands.proofs.Asked.{Asks, tray_asks, told_event}
use Rattle.demands.proofs.Shut.{image_asked, image_size_lem}

-- The images, one after the other

abbrev pub join_all : Tray → List (Profile × List ℕ) → Tray
join_all τ [] = τ
join_all τ (x ∷ ps) = join_all (pack_joined τ (image_of x.0 x.1)) ps

-- each is accepted in its turn
abbrev pub Opens : Tray → List (Profile × List ℕ) → Type 0
Opens τ [] = Unit
Opens τ (x ∷ ps) = (tray_told τ (image_kind x.0) x.1 ≡ Ok (Image x.0)) × Opens (pack_joined τ (image_of x.0 x.1)) ps

-- the judge of a profile accepts no image of another
one_profile : (f g : Profile) (again : Bool) (p : List ℕ) → judged_among f again p ≡ Ok (Image g) → f ≡ g
unfolding judged_among
one_profile f g again p =
    let By : Taken → Type 0 = λ t. t ≡ Ok (Image g) → f ≡ g in
    picked By (eqb (length p) (image_size_of f)) _ _
    (λ a. picked By (addressed_of f (image_address p)) _ _
    (λ b. picked By (lockable_of p) _ _
    (λ c. picked By (not again) _ _ (λ d. picked By (ordered_of (image_breaks p)) _ _ (λ o e. cc) (λ o e. contrary cc)) (λ d e. contrary cc))
    (λ c e. contrary cc))
    (λ b e. contrary cc))
    (λ a e. contrary cc)

-- A tray in which images join and nothing else is done

abbrev pub open_event : Tray → List ℕ → Event → Did Tray
open_event τ p (Image f) = tray_event τ p (Image f)
open_event τ p (Change c) = silently τ 9
open_event τ p (Transact t) = silently τ 9

abbrev pub of_opening : Steps Tray
of_opening = record { told = tray_told; event = open_event }

abbrev pub open_tray : Tray → Rec → Did Tray
open_tray τ (whole n p) = answered_by of_opening τ p (tray_told τ n p)
open_tray τ cut = silently τ 2

abbrev pub open_step : Tray → Rec → Tray
open_step τ r = (open_tray τ r).state

abbrev pub open_out : Tray → Rec → Line
open_out τ r = line_of r (open_tray τ r)

-- what a record does to a tray, and what it does there in an opening: it leaves this tray, and is answered so, with no reply
abbrev pub Leaves : Tray → ℕ → Rec → Tray → ℕ → Type 0
Leaves τ room r σ n = (tray_did τ room r ≡ silently σ n) × (open_tray τ r ≡ silently σ n)

module _ (τ : Tray) (room : ℕ) where
  -- an image that is answered 0 joins
  accepted_told : (f : Profile) (p : List ℕ) → (tray_did τ room (whole (image_kind f) p)).answer ≡ 0 → tray_told τ (image_kind f) p ≡ Ok (Image f)
  unfolding tray_did
  accepted_told f p = go (tray_told τ (image_kind f) p) refl (tray_asks τ (image_kind f) p)
    where
      go : (t : Taken) → tray_told τ (image_kind f) p ≡ t → Asks τ (tray_kind_of (image_kind f)) p t → (answered_by of_tray τ p (fitted_of room t)).answer ≡ 0
          → tray_told τ (image_kind f) p ≡ Ok (Image f)
      go (Ok (Image g)) e a zero =
          let same = one_profile f g (again_of τ p) p (rw (tray_image f) at (told_event τ (image_kind f) p (Image g) e)) in
          e ∙ ap (λ (h : Profile). Ok (Image h)) (sym same)
      go (Ok (Change c)) e a zero = contrary (ap ahead_of (sym (tray_image f)) ∙ a.ahead)
      go (Ok (Transact t)) e a zero = let z = sym (tray_image f) ∙ a.kind in contrary cc
      go (Err r) e a zero = absurd (omega (arith, (refusal_range r).0))

  did_join : (f : Profile) (p : List ℕ) → tray_told τ (image_kind f) p ≡ Ok (Image f)
      → Leaves τ room (whole (image_kind f) p) (pack_joined τ (image_of f p)) 0
  unfolding tray_did
  did_join f p e = (rw (e, le-ltb room 0 zero-le) refl, rw e refl)

  abbrev Same : List ℕ → Taken → Taken → Type 0
  Same p t u =
      (answered_by of_tray τ p u ≡ silently τ (answered_by of_opening τ p t).answer)
      × (answered_by of_opening τ p t ≡ silently τ (answered_by of_opening τ p t).answer)

  -- one that is refused leaves the tray and replies nothing, and its answer does not depend on the room
  pub refused_open : (r : Rec) → ((tray_did τ room r).answer ≡ 0 → ⊥) → Leaves τ room r τ (open_tray τ r).answer
  unfolding tray_did
  refused_open (whole n p) = go (tray_told τ n p)
    where
      go : (t : Taken) → ((answered_by of_tray τ p (fitted_of room t)).answer ≡ 0 → ⊥) → Same p t (fitted_of room t)
      go (Ok (Image f)) = λ other. absurd (other (rw (le-ltb room 0 zero-le) refl))
      go (Ok (Change c)) = λ other. absurd (other (rw (le-ltb room 0 zero-le) refl))
      go (Ok (Transact t)) =
          picked (λ u. ((answered_by of_tray τ p u).answer ≡ 0 → ⊥) → Same p (Ok (Transact t)) u) (ltb room t.count) _ _
          (λ full other. (refl, refl)) (λ fits other. absurd (other refl))
      go (Err r) = λ other. (refl, refl)
  refused_open cut = λ other. (refl, refl)

-- The records of an opening: where they end, no reply, and what each gets

pub record Opened (τ : Tray) (room : ℕ) (os : List Rec) (σ : Tray) : Type 0 where
  pub end : end_after tray_did τ room os ≡ σ
  pub silent : replies_of (lines_after tray_did τ room os) ≡ []
  pub got : zip os (lines_after tray_did τ room os) ≡ got_from open_step open_out τ os

more_opened : (τ σ υ : Tray) (room n : ℕ) (r : Rec) (os : List Rec) → Leaves τ room r σ n
    → Opened σ room os υ → Opened τ room (r ∷ os) υ
unfolding zip zip_with
more_opened τ σ υ room n r os e h = record {
  end = rw (e.0, sub-zero) h.end;
  silent = rw (e.0, sub-zero) h.silent;
  got =
      rw (e.0, sub-zero)
      (ap (λ (l : List (Rec × Line)). (r, line_of r (silently σ n)) ∷ l) h.got
      ∙ ap (λ (d : Did Tray). (r, line_of r d) ∷ got_from open_step open_out d.state os) (sym e.1));
}

pub opened : (os : List Rec) (ps : List (Profile × List ℕ)) (τ : Tray) (room : ℕ)
    → accepted_in (zip os (lines_after tray_did τ room os)) ≡ image_records ps → Opened τ room os (join_all τ ps) × Opens τ ps
unfolding zip zip_with
opened [] [] τ room e = (record { end = refl; silent = refl; got = refl }, tt)
opened [] (x ∷ ps) τ room e = contrary cc
opened (r ∷ os) ps τ room e = go (eqb d.answer 0) refl (λ qs σ. opened os qs σ room) ps e
  where
    d : Did Tray
    d = tray_did τ room r

    rest : List Rec
    rest = accepted_in (zip os (lines_after tray_did d.state (room - length d.reply) os))

    go : (t : Bool) → eqb d.answer 0 ≡ t
        → ((qs : List (Profile × List ℕ)) (σ : Tray) → accepted_in (zip os (lines_after tray_did σ room os)) ≡ image_records qs
        → Opened σ room os (join_all σ qs) × Opens σ qs)
        → (qs : List (Profile × List ℕ)) → pick t (r ∷ rest) rest ≡ image_records qs
        → Opened τ room (r ∷ os) (join_all τ qs) × Opens τ qs
    go true z rest-opened [] e = contrary cc
    go true z rest-opened (x ∷ qs) e =
        let σ = pack_joined τ (image_of x.0 x.1) in
        let is : r ≡ whole (image_kind x.0) x.1 = cc in
        let told = accepted_told τ room x.0 x.1 (rw is at (eqb-true d.answer 0 z)) in
        let k = subst (λ (q : Rec). Leaves τ room q σ 0) (sym is) (did_join τ room x.0 x.1 told) in
        let later : rest ≡ image_records qs = cc in
        let h = rest-opened qs σ (rw (k.0, sub-zero) at later) in
        (more_opened τ σ (join_all σ qs) room 0 r os k h.0, (told, h.1))
    go false z rest-opened qs e =
        let k = refused_open τ room r (eqb-false d.answer 0 z) in
        let h = rest-opened qs τ (rw (k.0, sub-zero) at e) in
        (more_opened τ τ (join_all τ qs) room (open_tray τ r).answer r os k h.0, h.1)

-- A record that is no fence leaves the tray, so that neighbours may change places

module _ (addresses : List (List ℕ)) (τ : Tray) where
  -- an image that joins is a fence, as the class judges it: one that comes after the opening
  joins_fence : (n : ℕ) (p : List ℕ) (f : Profile) → tray_told τ n p ≡ Ok (Image f) → tray_class addresses (whole n p) ≡ fence
  joins_fence n p f e =
      let a = rw e at (tray_asks τ n p) in
      rw (a.kind, image_asked a.asked (length addresses) p, sized a.asked a.kind (eqb (length p) (image_size_of a.asked)) refl) refl
    where
      sized : (g : Profile) → tray_kind_of n ≡ kind.Image g → (t : Bool) → eqb (length p) (image_size_of g) ≡ t → eqb (length p) (image_size_of g) ≡ true
      sized g k true s = s
      sized g k false s =
          let z = sym (rw k at e) ∙ image_size_lem g τ.count τ.closed (again_of τ p) (slot_tick τ p) p s in
          contrary cc

  pub open_stays : (r : Rec) → (tray_class addresses r ≡ fence → ⊥) → open_step τ r ≡ τ
  open_stays (whole n p) other = go (tray_told τ n p) refl
    where
      go : (t : Taken) → tray_told τ n p ≡ t → (answered_by of_opening τ p t).state ≡ τ
      go (Ok (Image f)) e = absurd (other (joins_fence n p f e))
      go (Ok (Change c)) e = refl
      go (Ok (Transact t)) e = refl
      go (Err r) e = refl
  open_stays cut other = refl

  -- and it is not accepted
  pub open_refused : (r : Rec) → (tray_class addresses r ≡ fence → ⊥) → eqb (open_out τ r).answer 0 ≡ false
  open_refused (whole n p) other = go (tray_told τ n p) refl
    where
      go : (t : Taken) → tray_told τ n p ≡ t → eqb (answered_by of_opening τ p t).answer 0 ≡ false
      go (Ok (Image f)) e = absurd (other (joins_fence n p f e))
      go (Ok (Change c)) e = refl
      go (Ok (Transact t)) e = refl
      go (Err r) e = ne_eqb (refusal_number r) 0 (λ z. absurd (omega (arith, (refusal_range r).0)))
  open_refused cut other = refl

  open_swaps : (a b : Rec) → tray_class addresses a ≡ labelling → tray_class addresses b ≡ gauging → Swaps open_step open_out τ a b
  open_swaps a b ea eb =
      let sa = open_stays a (λ z. contrary cc) in
      let sb = open_stays b (λ z. contrary cc) in
      record {
        state = ap (λ (σ : Tray). open_step σ b) sa ∙ sb ∙ sym (ap (λ (σ : Tray). open_step σ a) sb ∙ sa);
        first = ap (λ (σ : Tray). open_out σ a) sb;
        second = ap (λ (σ : Tray). open_out σ b) sa;
      }

-- two openings that hold the same events give each the same
pub opening_sections : (addresses : List (List ℕ)) {os qs : List Rec} (τ : Tray) → Sections (tray_class addresses) os qs
    → Sections (λ e. tray_class addresses e.0) (got_from open_step open_out τ os) (got_from open_step open_out τ qs)
opening_sections addresses τ s =
    (apart open_step open_out (tray_class addresses) (λ σ. Unit) (λ σ r u. tt) (λ σ a b u. open_swaps addresses σ a b) s τ tt).sections
