-- Demand 3, proved of trays: the images first, then a run that no image joins.
use mathlib.Core.Path.{◌≡◌, refl, sym, ap, subst, ◌∙◌}
use mathlib.Core.Bool.{Bool, true, false}
use mathlib.Core.List.{List, [], ◌∷◌, ◌++◌, append_assoc, append-nil}
use Prim.Native.Nat.{ℕ, ◌+◌, ◌-◌, ◌<◌}
use native.Mathlib.Nat.{sub-zero}
use native.Mathlib.Omega.{arith}
use borrow.Author.Tests.{eqb-true, eqb-false}
use lib.Dec.{eqb}
use lib.ListN.{length, get_or, take, drop, length-append, take-append-drop, get_or-append}
use lib.Seq.{get_or-append_seam}
use Rattle.std.specs.Prelude.{Ok}
use Rattle.numbers.specs.Choice.{pick}
use Rattle.state.specs.declared.Profile.{Profile}
use Rattle.gauge.specs.declared.Gauge.{Gauge}
use Rattle.gauge.specs.Image.{image_of}
use Rattle.record.specs.declared.Event.TheVariants.{Image}
use Rattle.record.specs.Image.{image_address}
use Rattle.runs.specs.Record.{Rec, recs_of}
use Rattle.runs.specs.Run.{Line, end_after}
use Rattle.tray_record.specs.declared.Tray.{Tray}
use Rattle.tray_record.specs.Tray.{empty_tray, pack_of, pack_joined, tray_kind_of, tray_told, tray_did}
use Rattle.demands.specs.Images.{image_kind}
use Rattle.demands.specs.Call.{Call, got_of}
use Rattle.demands.specs.Sections.{Class, Sections}
use Rattle.demands.specs.Demand3.{accepted_in, image_records, addresses_of, opened_class, TrayOpening, TraysMixed, TrayDemand3}
use Rattle.demands.proofs.Moments.{left_of, end_append, got, got_take, got_drop, running, tells}
use Rattle.demands.proofs.Mix.{end_from, got_from, Apart, apart, sections_append}
use Rattle.demands.proofs.Asked.{tray_asks}
use Rattle.demands.proofs.Filled.{event_pack, event_eight, empty_filled}
use Rattle.demands.proofs.Shut.{tray_step, tray_out, Owns, step_owns, FreeTray, free_tray_lem}
use Rattle.demands.proofs.Opening.{join_all, Opens, open_step, open_out, Opened, opened, opening_sections}
use Rattle.demands.proofs.Sides.{tray_swaps}

-- The tray after the opening has the addresses of the images

joined_owns : (f : Profile) (addresses : List (List ℕ)) (τ : Tray) (p : List ℕ) → Owns addresses τ → tray_told τ (image_kind f) p ≡ Ok (Image f)
    → Owns (addresses ++ (image_address p ∷ [])) (pack_joined τ (image_of f p))
unfolding image_of
joined_owns f addresses τ p h e =
    let a = rw e at (tray_asks τ (image_kind f) p) in
    record {
      eight = event_eight τ h.eight (tray_kind_of (image_kind f)) p (Image f) a;
      count = omega (arith, h.count, length-append addresses (image_address p ∷ []));
      owned = λ j low.
          ap (λ (g : Gauge). g.common.address) (event_pack τ h.eight (tray_kind_of (image_kind f)) p (Image f) a j)
          ∙ go j (eqb j τ.count) refl low;
    }
  where
    go : (j : ℕ) (t : Bool) → eqb j τ.count ≡ t → j < τ.count + 1
        → (pick t (image_of f p) (pack_of τ j)).common.address ≡ get_or (addresses ++ (image_address p ∷ [])) j []
    go j true s low =
        let at : j ≡ length addresses = eqb-true j τ.count s ∙ h.count in
        rw at (sym (get_or-append_seam addresses (image_address p) [] []))
    go j false s low =
        let here : j < τ.count = omega (arith, eqb-false j τ.count s) in
        h.owned j here ∙ sym (get_or-append addresses (image_address p ∷ []) [] j (omega (arith, h.count)))

opened_owns : (addresses : List (List ℕ)) (τ : Tray) (ps : List (Profile × List ℕ)) → Owns addresses τ → Opens τ ps →
    Owns (addresses ++ addresses_of ps) (join_all τ ps)
opened_owns addresses τ [] h o = rw (append-nil addresses) h
opened_owns addresses τ (x ∷ ps) h o =
    subst (λ (l : List (List ℕ)). Owns l (join_all τ (x ∷ ps))) (append_assoc addresses (image_address x.1 ∷ []) (addresses_of ps))
    (opened_owns (addresses ++ (image_address x.1 ∷ [])) (pack_joined τ (image_of x.0 x.1)) ps
    (joined_owns x.0 addresses τ x.1 h o.0) o.1)

-- One session

module _ (ps : List (Profile × List ℕ)) where
  abbrev start : Tray
  start = join_all empty_tray ps

  owns : Opens empty_tray ps → Owns (addresses_of ps) start
  owns = opened_owns [] empty_tray ps (record { eight = empty_filled.eight; count = refl; owned = λ j low. absurd (omega arith) })

  module _ (n : ℕ) (c : Call Tray) (s : TrayOpening ps n c) where
    abbrev size : ℕ
    size = length c.room

    abbrev front : List Rec
    front = take n (recs_of c.bytes)

    abbrev later : List Rec
    later = drop n (recs_of c.bytes)

    images : accepted_in (got tray_did empty_tray size front) ≡ image_records ps
    images = ap accepted_in (got_take tray_did n empty_tray size (recs_of c.bytes)) ∙ s.opens.images

    opening : Opened empty_tray size front start × Opens empty_tray ps
    opening = opened front ps empty_tray size images

    -- the opening takes no room
    left : left_of tray_did empty_tray size front ≡ size
    left = ap (λ (l : List ℕ). size - length l) opening.0.silent ∙ sub-zero size

    state : c.ran.state ≡ end_after tray_did start size later
    state =
        (running tray_did empty_tray s.within).state
        ∙ ap (end_after tray_did empty_tray size) (sym (take-append-drop n (recs_of c.bytes)))
        ∙ end_append tray_did empty_tray size front later
        ∙ rw (opening.0.end, left) refl

    freed : FreeTray start size later
    freed =
        free_tray_lem (addresses_of ps) start size later (owns opening.1) s.room (sym (ap (λ (τ : Tray). τ.count) state) ∙ s.opens.packs)

    ends : c.ran.state ≡ end_from tray_step tray_out start later
    ends = state ∙ freed.end

    -- what each record of the opening got, and each later one
    gets_first : take n (got_of tray_did empty_tray c) ≡ got_from open_step open_out empty_tray front
    gets_first = sym (got_take tray_did n empty_tray size (recs_of c.bytes)) ∙ opening.0.got

    gets_later : drop n (got_of tray_did empty_tray c) ≡ got_from tray_step tray_out start later
    gets_later = got_drop tray_did n empty_tray size (recs_of c.bytes) ∙ rw (opening.0.end, left) freed.got

-- Both

module _ (ps : List (Profile × List ℕ)) (n m : ℕ) (a b : Call Tray) (x : TraysMixed ps n m a b) where
  abbrev classed : Rec × Line → Class
  classed e = opened_class ps e.0

  abbrev all : Call Tray → List (Rec × Line)
  all c = got_of tray_did empty_tray c

  mixed : Apart tray_step tray_out (opened_class ps) (Owns (addresses_of ps)) (λ τ r u. step_owns (addresses_of ps) τ u r) (tray_swaps (addresses_of ps))
      (start ps)
      (later ps n a x.one) (later ps m b x.other)
  mixed =
      apart tray_step tray_out (opened_class ps) (Owns (addresses_of ps)) (λ τ r u. step_owns (addresses_of ps) τ u r) (tray_swaps (addresses_of ps)) x.sections
      (start ps) (owns ps (opening ps n a x.one).1)

  both_later : Sections classed (drop n (all a)) (drop m (all b))
  both_later = rw (gets_later ps n a x.one, gets_later ps m b x.other) mixed.sections

  both_first : Sections (opened_class ps) (front ps n a x.one) (front ps m b x.other) → Sections classed (take n (all a)) (take m (all b))
  both_first s = rw (gets_first ps n a x.one, gets_first ps m b x.other) (opening_sections (addresses_of ps) empty_tray s)

  both_all : Sections (opened_class ps) (front ps n a x.one) (front ps m b x.other) → Sections classed (all a) (all b)
  both_all s =
      subst (λ (l : List (Rec × Line)). Sections classed l (all b)) (take-append-drop n (all a))
      (subst (λ (l : List (Rec × Line)). Sections classed (take n (all a) ++ drop n (all a)) l) (take-append-drop m (all b))
      (sections_append classed (both_first s) both_later))

pub tray_demand_3 : TrayDemand3
tray_demand_3 ps n m a b x = record {
  later = both_later ps n m a b x;
  events = both_all ps n m a b x;
  one = tells tray_did empty_tray x.one.within;
  other = tells tray_did empty_tray x.other.within;
  state = ends ps n a x.one ∙ (mixed ps n m a b x).end ∙ sym (ends ps m b x.other);
}
