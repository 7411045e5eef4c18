-- Every tray session has an opening: the records up to its first accepted event that is no image, after which no image is accepted.
use mathlib.Core.Path.{◌≡◌, refl, sym, ap, subst, ◌∙◌}
use mathlib.Core.Bool.{Bool, true, false}
use mathlib.Core.List.{List, [], ◌∷◌, zip, zip_with}
use Prim.Native.Nat.{ℕ, suc, ◌+◌, ◌-◌, zero-le}
use native.Mathlib.Omega.{arith}
use borrow.Author.Tests.{le-ltb, eqb-true, eqb-false}
use lib.Dec.{ltb, eqb}
use lib.ListN.{length, take}
use Rattle.std.specs.Prelude.{Ok, Err}
use Rattle.state.specs.declared.Profile.{Profile}
use Rattle.record.specs.declared.Kind.{Kind}
use Rattle.record.specs.declared.Kind.TheVariants as kind
use Rattle.record.specs.declared.Event.{Event}
use Rattle.record.specs.declared.Event.TheVariants.{Image, Change, Transact}
use Rattle.record.specs.Record.{master_of, Taken}
use Rattle.record.proofs.Fits.{refusal_range}
use Rattle.runs.specs.Record.{Rec, whole, cut, recs_of}
use Rattle.runs.specs.Run.{Did, lines_after, end_after}
use Rattle.runs.specs.AnyRecord.{answered_by}
use Rattle.tray_record.specs.declared.Tray.{Tray}
use Rattle.tray_record.specs.Tray.{empty_tray, tray_kind_of, tray_reach, tray_told, tray_event, of_tray, tray_did}
use Rattle.demands.specs.Images.{image_kind}
use Rattle.demands.specs.Demand3.{accepted_in, image_records, addresses_of, EveryTrayOpens}
use Rattle.demands.proofs.Choice.{contrary, by_number}
use Rattle.demands.proofs.Moments.{running}
use Rattle.demands.proofs.Packs.{Eight, acted_count}
use Rattle.demands.proofs.Asked.{Asks, tray_asks}
use Rattle.demands.proofs.Filled.{did_eight, event_count, event_eight, end_keeps, empty_filled}
use Rattle.demands.proofs.Opening.{refused_open}

-- A tray that is closed takes no image

record Shuts (count : ℕ) (τ : Tray) : Type 0 where
  eight : Eight τ
  closed : τ.closed ≡ true
  same : τ.count ≡ count

event_shuts : (count : ℕ) (τ : Tray) (k : Kind) (p : List ℕ) (e : Event) → Shuts count τ → Asks τ k p (Ok e) → Shuts count (tray_event τ p e).state
event_shuts count τ k p (Image f) h a = let z = sym h.closed ∙ a.before in contrary cc
event_shuts count τ k p (Change c) h a = record { eight = event_eight τ h.eight k p (Change c) a; closed = refl; same = h.same }
event_shuts count τ k p (Transact t) h a = record {
  eight = event_eight τ h.eight k p (Transact t) a;
  closed = refl;
  same = event_count τ h.eight k p (Transact t) ∙ h.same;
}

closed_end : (τ : Tray) (room : ℕ) (rs : List Rec) → Eight τ → τ.closed ≡ true → (end_after tray_did τ room rs).count ≡ τ.count
closed_end τ room rs h closed = (end_keeps (Shuts τ.count) (event_shuts τ.count) τ room rs (record { eight = h; closed = closed; same = refl })).same

-- A record that is accepted: an image that joins, or an event that closes the opening

image_number_lem : (f : Profile) (n : ℕ) → tray_kind_of n ≡ kind.Image f → n ≡ image_kind f
unfolding tray_kind_of
image_number_lem f n =
    let is : (m : ℕ) → (tray_kind_of m ≡ kind.Image f → m ≡ image_kind f) → (eqb n m ≡ false → tray_kind_of n ≡ kind.Image f → n ≡ image_kind f)
    → tray_kind_of n ≡ kind.Image f → n ≡ image_kind f =
    by_number (λ m. tray_kind_of m ≡ kind.Image f → m ≡ image_kind f) n in
    is 1 (λ e. ap kind_number e) (λ a.
    is 4 (λ e. contrary cc) (λ b.
    is 7 (λ e. contrary cc) (λ c.
    is 8 (λ e. ap kind_number e) (λ d.
    is 18 (λ e. contrary cc) (λ g.
    is 19 (λ e. contrary cc) (λ h.
    is 21 (λ e. contrary cc) (λ i.
    is 22 (λ e. contrary cc) (λ j e. let z = rw (a, b, c, d, g, h, i, j) at e in contrary cc))))))))
  where
    kind_number : Kind → ℕ
    kind_number (kind.Image g) = image_kind g
    kind_number kind.Reading = 0
    kind_number kind.Conversion = 0
    kind_number (kind.Transaction g) = 0
    kind_number kind.PowerOn = 0
    kind_number kind.Sample = 0
    kind_number kind.Unknown = 0

data Accepts (τ : Tray) (room : ℕ) : Rec → Type 0 where
  joins : (f : Profile) {p : List ℕ} → (tray_did τ room (whole (image_kind f) p)).state.count ≡ τ.count + 1 → Accepts τ room (whole (image_kind f) p)
  closes : {r : Rec} → (tray_did τ room r).state.closed ≡ true → (tray_did τ room r).state.count ≡ τ.count → Accepts τ room r

module _ (τ : Tray) (room n : ℕ) (p : List ℕ) where
  abbrev does : Taken → Did Tray
  does t = answered_by of_tray τ p t

  image_joins : (f : Profile) → tray_told τ n p ≡ Ok (Image f) → Accepts τ room (whole n p)
  unfolding tray_did
  image_joins f e =
      let a = rw e at (tray_asks τ n p) in
      let at = image_number_lem a.asked n a.kind in
      let one : (tray_did τ room (whole n p)).state.count ≡ τ.count + 1 = rw (e, le-ltb room 0 zero-le) refl in
      subst (λ (m : ℕ). (tray_did τ room (whole m p)).state.count ≡ τ.count + 1 → Accepts τ room (whole m p)) (sym at) (joins a.asked) one

  event_closes : (t : Taken) → (tray_did τ room (whole n p) ≡ does t) → (does t).state.closed ≡ true → (does t).state.count ≡ τ.count
      → Accepts τ room (whole n p)
  event_closes t e closed count = closes (ap (λ (d : Did Tray). d.state.closed) e ∙ closed) (ap (λ (d : Did Tray). d.state.count) e ∙ count)

  whole_accepts : (tray_did τ room (whole n p)).answer ≡ 0 → Accepts τ room (whole n p)
  unfolding tray_did
  whole_accepts = go (tray_told τ n p) refl
    where
      go : (t : Taken) → tray_told τ n p ≡ t → (tray_did τ room (whole n p)).answer ≡ 0 → Accepts τ room (whole n p)
      go (Ok (Image f)) e done = image_joins f e
      go (Ok (Change c)) e done = event_closes (Ok (Change c)) (rw (e, le-ltb room 0 zero-le) refl) refl refl
      go (Ok (Transact t)) e done = fits (ltb room t.count) refl
        where
          fits : (b : Bool) → ltb room t.count ≡ b → Accepts τ room (whole n p)
          fits true full = let z = rw (e, full) at done in absurd (omega arith)
          fits false other =
              event_closes (Ok (Transact t)) (rw (e, other) refl) refl
              (acted_count t (master_of t p) τ (tray_reach τ t (master_of t p)))
      go (Err r) e done = let z = rw e at done in absurd (omega (arith, (refusal_range r).0))

accepts : (τ : Tray) (room : ℕ) (r : Rec) → (tray_did τ room r).answer ≡ 0 → Accepts τ room r
unfolding tray_did
accepts τ room (whole n p) done = whole_accepts τ room n p done
accepts τ room cut done = absurd (omega arith)

-- A run

record Found (τ : Tray) (room : ℕ) (rs : List Rec) : Type 0 where
  images : List (Profile × List ℕ)
  size : ℕ
  accepted : accepted_in (take size (zip rs (lines_after tray_did τ room rs))) ≡ image_records images
  count : (end_after tray_did τ room rs).count ≡ τ.count + length (addresses_of images)

found_refused : (τ : Tray) (room : ℕ) (r : Rec) (rs : List Rec) → ((tray_did τ room r).answer ≡ 0 → ⊥) → eqb (tray_did τ room r).answer 0 ≡ false
    → Found (tray_did τ room r).state (room - length (tray_did τ room r).reply) rs → Found τ room (r ∷ rs)
unfolding zip zip_with
found_refused τ room r rs other e h =
    let same : (tray_did τ room r).state.count ≡ τ.count = ap (λ (d : Did Tray). d.state.count) (refused_open τ room r other).0 in
    record { images = h.images; size = suc h.size; accepted = rw e h.accepted; count = omega (arith, h.count) }

found_joined : (τ : Tray) (room : ℕ) (f : Profile) (p : List ℕ) (rs : List Rec) → eqb (tray_did τ room (whole (image_kind f) p)).answer 0 ≡ true
    → (tray_did τ room (whole (image_kind f) p)).state.count ≡ τ.count + 1
    → Found (tray_did τ room (whole (image_kind f) p)).state (room - length (tray_did τ room (whole (image_kind f) p)).reply) rs
    → Found τ room (whole (image_kind f) p ∷ rs)
unfolding zip zip_with
found_joined τ room f p rs e one h = record {
  images = (f, p) ∷ h.images;
  size = suc h.size;
  accepted = rw e (ap (λ (l : List Rec). whole (image_kind f) p ∷ l) h.accepted);
  count = omega (arith, h.count);
}

found : (τ : Tray) (room : ℕ) (rs : List Rec) → Eight τ → Found τ room rs
found τ room [] h = record { images = []; size = 0; accepted = refl; count = omega arith }
found τ room (r ∷ rs) h =
    go (eqb (tray_did τ room r).answer 0) refl
    (found (tray_did τ room r).state (room - length (tray_did τ room r).reply) rs (did_eight τ room r h))
  where
    accepted : (q : Rec) → eqb (tray_did τ room q).answer 0 ≡ true → Accepts τ room q
        → Found (tray_did τ room q).state (room - length (tray_did τ room q).reply) rs → Found τ room (q ∷ rs)
    accepted q e (joins f {p} one) rest = found_joined τ room f p rs e one rest
    accepted q e (closes closed count) rest = record {
      images = [];
      size = 0;
      accepted = refl;
      count =
          let d = tray_did τ room q in
          omega (arith, closed_end d.state (room - length d.reply) rs (did_eight τ room q h) closed);
    }

    go : (t : Bool) → eqb (tray_did τ room r).answer 0 ≡ t
        → Found (tray_did τ room r).state (room - length (tray_did τ room r).reply) rs → Found τ room (r ∷ rs)
    go true e rest = accepted r e (accepts τ room r (eqb-true (tray_did τ room r).answer 0 e)) rest
    go false e rest = found_refused τ room r rs (eqb-false (tray_did τ room r).answer 0 e) e rest

pub every_tray_opens : EveryTrayOpens
every_tray_opens c w =
    let h = found empty_tray (length c.room) (recs_of c.bytes) empty_filled.eight in
    let state = (running tray_did empty_tray w).state in
    record {
      images = h.images;
      size = h.size;
      opens = record { images = h.accepted; packs = ap (λ (τ : Tray). τ.count) state ∙ h.count ∙ omega arith };
    }
