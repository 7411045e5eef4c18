-- Demand 3 of whole tray sessions: where both hold the same fences, label events and gauge events and accept the same images, their openings end at the
-- same fence, and hold the same too.
use mathlib.Core.Path.{◌≡◌, refl, sym, ap, ◌∙◌}
use mathlib.Core.Bool.{Bool, true, false}
use mathlib.Core.List.{List, [], ◌∷◌, ◌++◌, append-nil}
use Prim.Native.Nat.{ℕ, zero, suc, ◌+◌, ◌-◌, ◌≤◌, zero-le}
use native.Mathlib.Nat.{sub-zero}
use native.Mathlib.Omega.{arith}
use lib.Dec.{eqb}
use lib.ListN.{length, take, drop}
use lib.Seq.{take-nil}
use Rattle.numbers.specs.Choice.{pick}
use Rattle.state.specs.declared.Profile.{Profile}
use Rattle.runs.specs.Record.{Rec, recs_of}
use Rattle.runs.specs.Run.{Line}
use Rattle.tray_record.specs.declared.Tray.{Tray}
use Rattle.tray_record.specs.Tray.{empty_tray, tray_did}
use Rattle.demands.specs.Call.{Call, Within, got_of}
use Rattle.demands.specs.Sections.{Class, labelling, gauging, fence, same, only, Section, Sections, last, more}
use Rattle.demands.specs.Class.{tray_class}
use Rattle.demands.specs.Demand3.{asks_all, accepted_in, image_records, addresses_of, opened_asked}
use Rattle.demands.specs.Demand3.{OpensWith, TrayOpening, TraysMixed, WholeMixed, WholeTrayDemand3}
use Rattle.demands.proofs.Choice.{contrary}
use Rattle.demands.proofs.Moments.{got, got_take}
use Rattle.demands.proofs.Mix.{got_from}
use Rattle.demands.proofs.Opening.{open_step, open_out, opened, open_stays, open_refused}
use Rattle.demands.proofs.TrayDemand3.{tray_demand_3}

-- Lists

take_over : {A : Type 0} (xs ys : List A) (k : ℕ) → take (length xs + k) (xs ++ ys) ≡ xs ++ take k ys
take_over [] ys k = let z : 0 + k ≡ k = omega arith in ap (λ (n : ℕ). take n ys) z
take_over (x ∷ xs) ys k =
    let z : length (x ∷ xs) + k ≡ suc (length xs + k) = omega arith in
    ap (λ (n : ℕ). take n (x ∷ (xs ++ ys))) z ∙ ap (λ (l : List _). x ∷ l) (take_over xs ys k)

drop_over : {A : Type 0} (xs ys : List A) (k : ℕ) → drop (length xs + k) (xs ++ ys) ≡ drop k ys
drop_over [] ys k = let z : 0 + k ≡ k = omega arith in ap (λ (n : ℕ). drop n ys) z
drop_over (x ∷ xs) ys k =
    let z : length (x ∷ xs) + k ≡ suc (length xs + k) = omega arith in
    ap (λ (n : ℕ). drop n (x ∷ (xs ++ ys))) z ∙ drop_over xs ys k

take_less : {A : Type 0} (n m : ℕ) (l : List A) → n ≤ m → take n (take m l) ≡ take n l
take_less zero m l h = refl
take_less (suc n) zero l h = absurd (omega arith)
take_less (suc n) (suc m) [] h = refl
take_less (suc n) (suc m) (x ∷ l) h = ap (λ (k : List _). x ∷ k) (take_less n m l (omega arith))

-- what each record of an opening gets is got by the first n of them too
open_take : (n : ℕ) (τ : Tray) (rs : List Rec) → got_from open_step open_out τ (take n rs) ≡ take n (got_from open_step open_out τ rs)
open_take zero τ rs = refl
open_take (suc n) τ [] = refl
open_take (suc n) τ (r ∷ rs) = ap (λ (l : List (Rec × Line)). (r, open_out τ r) ∷ l) (open_take n (open_step τ r) rs)

-- what is asked later is no more than what is asked in all
asks_drop : (ps : List (Profile × List ℕ)) (n : ℕ) (rs : List Rec) → asks_all (opened_asked ps) (drop n rs) ≤ asks_all (opened_asked ps) rs
asks_drop ps zero rs = omega arith
asks_drop ps (suc n) [] = omega arith
asks_drop ps (suc n) (r ∷ rs) = omega (arith, asks_drop ps n rs)

-- Where the openings end

module _ (addresses : List (List ℕ)) where
  abbrev class : Rec → Class
  class = tray_class addresses

  abbrev accepts : Tray → List Rec → List Rec
  accepts τ rs = accepted_in (got_from open_step open_out τ rs)

  -- no record of a section is accepted, and none changes the tray
  other_class : (r : Rec) (rs : List Rec) → only class fence (r ∷ rs) ≡ [] → (class r ≡ fence → ⊥) × (only class fence rs ≡ [])
  other_class r rs = go (class r)
    where
      go : (k : Class) → pick (same fence k) (r ∷ only class fence rs) (only class fence rs) ≡ [] → (k ≡ fence → ⊥) × (only class fence rs ≡ [])
      go labelling e = (λ z. contrary cc, e)
      go gauging e = (λ z. contrary cc, e)
      go fence e = contrary cc

  skip : (τ : Tray) (xs rest : List Rec) (n : ℕ) → only class fence xs ≡ [] → accepts τ (take n (xs ++ rest)) ≡ accepts τ (take (n - length xs) rest)
  skip τ [] rest n e = ap (λ (k : ℕ). accepts τ (take k rest)) (sym (sub-zero n))
  skip τ (x ∷ xs) rest zero e =
      let z : 0 - length (x ∷ xs) ≡ 0 = omega arith in
      ap (λ (k : ℕ). accepts τ (take k rest)) (sym z)
  skip τ (x ∷ xs) rest (suc n) e =
      let o = other_class x xs e in
      let z : suc n - length (x ∷ xs) ≡ n - length xs = omega arith in
      rw (open_refused addresses τ x o.0, open_stays addresses τ x o.0, z) (skip τ xs rest n o.1)

  record Split (τ : Tray) (ps : List (Profile × List ℕ)) (n m : ℕ) (xs ys : List Rec) : Type 0 where
    one : ℕ
    other : ℕ
    less : one ≤ n
    other_less : other ≤ m
    images : accepts τ (take one xs) ≡ image_records ps
    other_images : accepts τ (take other ys) ≡ image_records ps
    first : Sections class (take one xs) (take other ys)
    later : Sections class (drop one xs) (drop other ys)

  no_section : Section class [] []
  no_section = record { one = refl; other = refl; labels = refl; gauges = refl }

  -- a section and the fence behind it go before
  grow : (τ : Tray) (ps qs : List (Profile × List ℕ)) (n m k l : ℕ) (xs ys us vs : List Rec) (f : Rec) → Section class xs ys → class f ≡ fence
      → n - length xs ≡ suc k → m - length ys ≡ suc l
      → pick (eqb (open_out τ f).answer 0) (f ∷ image_records qs) (image_records qs) ≡ image_records ps
      → Split (open_step τ f) qs k l us vs → Split τ ps n m (xs ++ (f ∷ us)) (ys ++ (f ∷ vs))
  grow τ ps qs n m k l xs ys us vs f s e na nb here h =
      let take-one = take_over xs (f ∷ us) (suc h.one) in
      let take-other = take_over ys (f ∷ vs) (suc h.other) in
      let drop-one = drop_over xs (f ∷ us) (suc h.one) in
      let drop-other = drop_over ys (f ∷ vs) (suc h.other) in
      record {
        one = length xs + suc h.one;
        other = length ys + suc h.other;
        less = omega (arith, h.less);
        other_less = omega (arith, h.other_less);
        images = reach xs us h.one s.one h.images;
        other_images = reach ys vs h.other s.other h.other_images;
        first = rw (take-one, take-other) (more s e h.first);
        later = rw (drop-one, drop-other) h.later;
      }
    where
      reach : (zs ws : List Rec) (j : ℕ) → only class fence zs ≡ [] → accepts (open_step τ f) (take j ws) ≡ image_records qs
          → accepts τ (take (length zs + suc j) (zs ++ (f ∷ ws))) ≡ image_records ps
      reach zs ws j none images =
          let z : length zs + suc j - length zs ≡ suc j = omega arith in
          skip τ zs (f ∷ ws) (length zs + suc j) none
          ∙ ap (λ (i : ℕ). accepts τ (take i (f ∷ ws))) z
          ∙ ap (λ (rs : List Rec). pick (eqb (open_out τ f).answer 0) (f ∷ rs) rs) images
          ∙ here

  -- before the first image the openings are empty
  start_split : {xs ys : List Rec} (τ : Tray) (n m : ℕ) → Sections class xs ys → Split τ [] n m xs ys
  start_split τ n m s =
      record { one = 0; other = 0; less = zero-le; other_less = zero-le; images = refl; other_images = refl; first = last no_section; later = s }

  -- no image is accepted in a section
  last_split : {xs ys : List Rec} → Section class xs ys → (τ : Tray) (ps : List (Profile × List ℕ)) (n m : ℕ) → accepts τ (take n xs) ≡ image_records ps
      → Split τ ps n m xs ys
  last_split s τ [] n m a = start_split τ n m (last s)
  last_split {xs} s τ (p ∷ ps) n m a =
      let none : accepts τ (take n xs) ≡ [] =
      ap (λ (l : List Rec). accepts τ (take n l)) (sym (append-nil xs)) ∙ skip τ xs [] n s.one ∙ ap (accepts τ) (take-nil (n - length xs)) in
      let z = sym none ∙ a in
      contrary cc

  -- a fence is the next image in both, or it is refused in both
  module _ (τ : Tray) (xs ys us vs : List Rec) (f : Rec) (s : Section class xs ys) (e : class f ≡ fence) (n m : ℕ) where
    abbrev Later : Type 0
    Later = (qs : List (Profile × List ℕ)) (k l : ℕ) → accepts (open_step τ f) (take k us) ≡ image_records qs
        → accepts (open_step τ f) (take l vs) ≡ image_records qs → Split (open_step τ f) qs k l us vs

    abbrev Both : List (Profile × List ℕ) → Type 0
    Both ps = Split τ ps n m (xs ++ (f ∷ us)) (ys ++ (f ∷ vs))

    abbrev Takes : Bool → ℕ → List Rec → List (Profile × List ℕ) → Type 0
    Takes t k ws ps = pick t (f ∷ accepts (open_step τ f) (take k ws)) (accepts (open_step τ f) (take k ws)) ≡ image_records ps

    fence_split : (p : Profile × List ℕ) (ps : List (Profile × List ℕ)) (t : Bool) (k l : ℕ) → eqb (open_out τ f).answer 0 ≡ t
        → n - length xs ≡ suc k → m - length ys ≡ suc l → Takes t k us (p ∷ ps) → Takes t l vs (p ∷ ps) → Later → Both (p ∷ ps)
    fence_split p ps true k l t na nb c d later =
        let ca : accepts (open_step τ f) (take k us) ≡ image_records ps = cc in
        let cb : accepts (open_step τ f) (take l vs) ≡ image_records ps = cc in
        let is : f ∷ image_records ps ≡ image_records (p ∷ ps) = cc in
        grow τ (p ∷ ps) ps n m k l xs ys us vs f s e na nb (rw t is) (later ps k l ca cb)
    fence_split p ps false k l t na nb c d later = grow τ (p ∷ ps) (p ∷ ps) n m k l xs ys us vs f s e na nb (rw t refl) (later (p ∷ ps) k l c d)

    next_split : (p : Profile × List ℕ) (ps : List (Profile × List ℕ)) (i j : ℕ) → n - length xs ≡ i → m - length ys ≡ j
        → accepts τ (take i (f ∷ us)) ≡ image_records (p ∷ ps) → accepts τ (take j (f ∷ vs)) ≡ image_records (p ∷ ps) → Later → Both (p ∷ ps)
    next_split p ps zero j na nb c d later = contrary cc
    next_split p ps (suc k) zero na nb c d later = contrary cc
    next_split p ps (suc k) (suc l) na nb c d later = fence_split p ps (eqb (open_out τ f).answer 0) k l refl na nb c d later

    more_split : Sections class us vs → (ps : List (Profile × List ℕ)) → accepts τ (take n (xs ++ (f ∷ us))) ≡ image_records ps
        → accepts τ (take m (ys ++ (f ∷ vs))) ≡ image_records ps → Later → Both ps
    more_split rest [] a b later = start_split τ n m (more s e rest)
    more_split rest (p ∷ ps) a b later =
        next_split p ps (n - length xs) (m - length ys) refl refl
        (sym (skip τ xs (f ∷ us) n s.one) ∙ a) (sym (skip τ ys (f ∷ vs) m s.other) ∙ b) later

  split : {xs ys : List Rec} → Sections class xs ys → (τ : Tray) (ps : List (Profile × List ℕ)) (n m : ℕ) → accepts τ (take n xs) ≡ image_records ps
      → accepts τ (take m ys) ≡ image_records ps → Split τ ps n m xs ys
  split (last s) τ ps n m a b = last_split s τ ps n m a
  split (more {xs} {ys} {us} {vs} {f} s e rest) τ ps n m a b =
      more_split τ xs ys us vs f s e n m rest ps a b (λ qs k l c d. split rest (open_step τ f) qs k l c d)

-- One session: what it accepts, and the opening that ends earlier

module _ (ps : List (Profile × List ℕ)) (n : ℕ) (c : Call Tray) (o : OpensWith ps n c) where
  abbrev recs : List Rec
  recs = recs_of c.bytes

  front : got tray_did empty_tray (length c.room) (take n recs) ≡ got_from open_step open_out empty_tray (take n recs)
  front =
      (opened (take n recs) ps empty_tray (length c.room) (ap accepted_in (got_take tray_did n empty_tray (length c.room) recs) ∙ o.images)).0.got

  front_images : accepted_in (got_from open_step open_out empty_tray (take n recs)) ≡ image_records ps
  front_images = ap accepted_in (sym front) ∙ ap accepted_in (got_take tray_did n empty_tray (length c.room) recs) ∙ o.images

  earlier : (k : ℕ) → k ≤ n → take k (got_of tray_did empty_tray c) ≡ got_from open_step open_out empty_tray (take k recs)
  earlier k less =
      sym (take_less k n (got_of tray_did empty_tray c) less)
      ∙ ap (take k) (sym (got_take tray_did n empty_tray (length c.room) recs) ∙ front)
      ∙ sym (open_take k empty_tray (take n recs))
      ∙ ap (got_from open_step open_out empty_tray) (take_less k n recs less)

  opening_at : (k : ℕ) → k ≤ n → accepted_in (got_from open_step open_out empty_tray (take k recs)) ≡ image_records ps → Within tray_did empty_tray c
      → asks_all (opened_asked ps) recs ≤ length c.room → TrayOpening ps k c
  opening_at k less images w room = record {
    within = w;
    opens = record { images = ap accepted_in (earlier k less) ∙ images; packs = o.packs };
    room = omega (arith, asks_drop ps k recs);
  }

-- Both

module _ (ps : List (Profile × List ℕ)) (n m : ℕ) (a b : Call Tray) (x : WholeMixed ps n m a b) where
  whole_split : Split (addresses_of ps) empty_tray ps n m (recs_of a.bytes) (recs_of b.bytes)
  whole_split = split (addresses_of ps) x.sections empty_tray ps n m (front_images ps n a x.opens) (front_images ps m b x.other_opens)

  whole_mixed : TraysMixed ps whole_split.one whole_split.other a b
  whole_mixed = record {
    one = opening_at ps n a x.opens whole_split.one whole_split.less whole_split.images x.one x.room;
    other =
        opening_at ps m b x.other_opens whole_split.other whole_split.other_less whole_split.other_images x.other x.other_room;
    sections = whole_split.later;
  }

pub whole_tray_demand_3 : WholeTrayDemand3
whole_tray_demand_3 ps n m a b x =
    let h = whole_split ps n m a b x in
    let k = tray_demand_3 ps h.one h.other a b (whole_mixed ps n m a b x) in
    record { events = k.events h.first; one = k.one; other = k.other; state = k.state }
