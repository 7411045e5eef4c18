-- Two lists that hold the same events section by section are runs with the same end, in which each event gets the same, wherever a label event
-- and a gauge event that stand next to each other may change places.
use mathlib.Core.Path.{◌≡◌, refl, sym, ap, ◌∙◌}
use mathlib.Core.Bool.{Bool, true, false}
use mathlib.Core.List.{List, [], ◌∷◌, ◌++◌, append_assoc}
use Rattle.numbers.specs.Choice.{pick}
use Rattle.demands.specs.Sections.{Class, labelling, gauging, fence, same, only, Section, Sections, last, more}
use Rattle.demands.proofs.Choice.{contrary, pick_ap}

module _ {R : Type 0} (class : R → Class) where
  -- Lists that differ in the order of neighbours

  data Mix : List R → List R → Type 0 where
    done : Mix [] []
    keep : (x : R) {xs ys : List R} → Mix xs ys → Mix (x ∷ xs) (x ∷ ys)
    swap : (a b : R) (xs : List R) → class a ≡ labelling → class b ≡ gauging → Mix (a ∷ b ∷ xs) (b ∷ a ∷ xs)
    both : {xs ys zs : List R} → Mix xs ys → Mix ys zs → Mix xs zs
    back : {xs ys : List R} → Mix xs ys → Mix ys xs

  unmixed : (xs : List R) → Mix xs xs
  unmixed [] = done
  unmixed (x ∷ xs) = keep x (unmixed xs)

  -- a gauge event goes past label events
  abbrev Passes : R → List R → List R → Type 0
  Passes x ls bs = Mix (x ∷ (ls ++ bs)) (ls ++ (x ∷ bs))

  pass : (x : R) → class x ≡ gauging → (xs bs : List R) → Passes x (only class labelling xs) bs
  pass x e [] bs = unmixed (x ∷ bs)
  pass x e (a ∷ xs) bs = go (class a) refl (only class labelling xs) (pass x e xs bs)
    where
      go : (k : Class) → class a ≡ k → (ls : List R) → Passes x ls bs → Passes x (pick (same labelling k) (a ∷ ls) ls) bs
      go labelling f ls h = both (back (swap a x (ls ++ bs) f e)) (keep a h)
      go gauging f ls h = h
      go fence f ls h = h

  -- x before l, where its class j is k
  abbrev put : R → Class → Class → List R → List R
  put x k j l = pick (same k j) (x ∷ l) l

  -- one order for all: the label events, then the gauge events
  ordered : (xs : List R) → only class fence xs ≡ [] → Mix xs (only class labelling xs ++ only class gauging xs)
  ordered [] e = done
  ordered (x ∷ xs) e = go (class x) refl e (ordered xs) (λ f. pass x f xs (only class gauging xs))
    where
      go : (k : Class) → class x ≡ k → put x fence k (only class fence xs) ≡ []
          → (only class fence xs ≡ [] → Mix xs (only class labelling xs ++ only class gauging xs))
          → (class x ≡ gauging → Passes x (only class labelling xs) (only class gauging xs))
          → Mix (x ∷ xs) (put x labelling k (only class labelling xs) ++ put x gauging k (only class gauging xs))
      go labelling f none h passes = keep x (h none)
      go gauging f none h passes = both (keep x (h none)) (passes f)
      go fence f none h passes = contrary cc

  mix_of : {xs ys : List R} → Section class xs ys → Mix xs ys
  mix_of {xs} {ys} s = both {zs = ys} (ordered xs s.one) (rw (s.labels, s.gauges) (back (ordered ys s.other)))

  -- Each class by itself

  only_append : (k : Class) (xs ys : List R) → only class k (xs ++ ys) ≡ only class k xs ++ only class k ys
  only_append k [] ys = refl
  only_append k (x ∷ xs) ys =
      ap (λ (l : List R). pick (same k (class x)) (x ∷ l) l) (only_append k xs ys)
      ∙ pick_ap (λ (l : List R). l ++ only class k ys) (same k (class x)) (x ∷ only class k xs) (only class k xs)

  section_only : {xs ys : List R} (k : Class) → Section class xs ys → only class k xs ≡ only class k ys
  section_only labelling s = s.labels
  section_only gauging s = s.gauges
  section_only fence s = s.one ∙ sym s.other

  pub sections_only : {xs ys : List R} (k : Class) → Sections class xs ys → only class k xs ≡ only class k ys
  sections_only k (last s) = section_only k s
  sections_only k (more {xs} {ys} {us} {vs} {f} s e rest) =
      rw (only_append k xs (f ∷ us), only_append k ys (f ∷ vs), section_only k s, sections_only k rest) refl

  -- Some events first, then others

  section_append : {xs ys us vs : List R} → Section class xs ys → Section class us vs → Section class (xs ++ us) (ys ++ vs)
  section_append {xs} {ys} {us} {vs} s t = record {
    one = rw (only_append fence xs us, s.one, t.one) refl;
    other = rw (only_append fence ys vs, s.other, t.other) refl;
    labels = rw (only_append labelling xs us, only_append labelling ys vs, s.labels, t.labels) refl;
    gauges = rw (only_append gauging xs us, only_append gauging ys vs, s.gauges, t.gauges) refl;
  }

  pub sections_append : {xs ys us vs : List R} → Sections class xs ys → Sections class us vs → Sections class (xs ++ us) (ys ++ vs)
  sections_append (last s) (last t) = last (section_append s t)
  sections_append {xs} {ys} (last s) (more {xs = ps} {ys = qs} {us = us} {vs = vs} {f = f} t e rest) =
      rw (← append_assoc xs ps (f ∷ us), ← append_assoc ys qs (f ∷ vs)) (more (section_append s t) e rest)
  sections_append {us = us} {vs = vs} (more {xs = ps} {ys = qs} {us = rs} {vs = ss} {f = f} s e rest) t =
      rw (append_assoc ps (f ∷ rs) us, append_assoc qs (f ∷ ss) vs) (more s e (sections_append rest t))

-- A run: the state after each event, and what each event got

module _ {R G O : Type 0} (step : G → R → G) (out : G → R → O) where
  abbrev pub end_from : G → List R → G
  end_from g [] = g
  end_from g (x ∷ xs) = end_from (step g x) xs

  abbrev pub got_from : G → List R → List (R × O)
  got_from g [] = []
  got_from g (x ∷ xs) = (x, out g x) ∷ got_from (step g x) xs

  end_append : (g : G) (xs ys : List R) → end_from g (xs ++ ys) ≡ end_from (end_from g xs) ys
  end_append g [] ys = refl
  end_append g (x ∷ xs) ys = end_append (step g x) xs ys

  got_append : (g : G) (xs ys : List R) → got_from g (xs ++ ys) ≡ got_from g xs ++ got_from (end_from g xs) ys
  got_append g [] ys = refl
  got_append g (x ∷ xs) ys = ap (λ (l : List (R × O)). (x, out g x) ∷ l) (got_append (step g x) xs ys)

  -- a label event and a gauge event change places: the state after both is the same, and each gets the same
  pub record Swaps (g : G) (a b : R) : Type 0 where
    pub state : step (step g a) b ≡ step (step g b) a
    pub first : out (step g b) a ≡ out g a
    pub second : out (step g a) b ≡ out g b

  module _ (class : R → Class) (P : G → Type 0) (kept : (g : G) (x : R) → P g → P (step g x))
      (swaps : (g : G) (a b : R) → P g → class a ≡ labelling → class b ≡ gauging → Swaps g a b) where
    abbrev classed : R × O → Class
    classed t = class t.0

    -- Within a section

    record Same (g : G) (xs ys : List R) : Type 0 where
      end : end_from g xs ≡ end_from g ys
      labels : only classed labelling (got_from g xs) ≡ only classed labelling (got_from g ys)
      gauges : only classed gauging (got_from g xs) ≡ only classed gauging (got_from g ys)

    same_swap : (g : G) (a b : R) (xs : List R) → P g → class a ≡ labelling → class b ≡ gauging → Same g (a ∷ b ∷ xs) (b ∷ a ∷ xs)
    same_swap g a b xs p e f =
        let h = swaps g a b p e f in
        record {
          end = ap (λ (k : G). end_from k xs) h.state;
          labels = rw (e, f) (rw (h.state, h.first) refl);
          gauges = rw (e, f) (rw (h.state, h.second) refl);
        }

    mixed : {xs ys : List R} → Mix class xs ys → (g : G) → P g → Same g xs ys
    mixed done g p = record { end = refl; labels = refl; gauges = refl }
    mixed (keep x m) g p =
        let h = mixed m (step g x) (kept g x p) in
        record { end = h.end; labels = rw h.labels refl; gauges = rw h.gauges refl }
    mixed (swap a b xs e f) g p = same_swap g a b xs p e f
    mixed (both m n) g p =
        let h = mixed m g p in
        let k = mixed n g p in
        record { end = h.end ∙ k.end; labels = h.labels ∙ k.labels; gauges = h.gauges ∙ k.gauges }
    mixed (back m) g p =
        let h = mixed m g p in
        record { end = sym h.end; labels = sym h.labels; gauges = sym h.gauges }

    no_fence : (g : G) (xs : List R) → only class fence xs ≡ [] → only classed fence (got_from g xs) ≡ []
    no_fence g [] e = refl
    no_fence g (x ∷ xs) e = go (same fence (class x)) _ e (no_fence (step g x) xs)
      where
        go : (t : Bool) (l : List (R × O)) → pick t (x ∷ only class fence xs) (only class fence xs) ≡ [] → (only class fence xs ≡ [] → l ≡ [])
            → pick t ((x, out g x) ∷ l) l ≡ []
        go true l f h = contrary cc
        go false l f h = h f

    got_section : {xs ys : List R} (g : G) → Section class xs ys → Same g xs ys → Section classed (got_from g xs) (got_from g ys)
    got_section {xs} {ys} g s h =
        record { one = no_fence g xs s.one; other = no_fence g ys s.other; labels = h.labels; gauges = h.gauges }

    -- Section by section

    end_kept : (g : G) (xs : List R) → P g → P (end_from g xs)
    end_kept g [] p = p
    end_kept g (x ∷ xs) p = end_kept (step g x) xs (kept g x p)

    pub record Apart (g : G) (xs ys : List R) : Type 0 where
      pub end : end_from g xs ≡ end_from g ys
      pub sections : Sections classed (got_from g xs) (got_from g ys)

    pub apart : {xs ys : List R} → Sections class xs ys → (g : G) → P g → Apart g xs ys
    apart (last s) g p =
        let h = mixed (mix_of class s) g p in
        record { end = h.end; sections = last (got_section g s h) }
    apart (more {xs} {ys} {us} {vs} {f} s e rest) g p =
        let h = mixed (mix_of class s) g p in
        let k = apart rest (step (end_from g xs) f) (kept (end_from g xs) f (end_kept g xs p)) in
        record {
          end = end_append g xs (f ∷ us) ∙ k.end ∙ ap (λ (x : G). end_from (step x f) vs) h.end ∙ sym (end_append g ys (f ∷ vs));
          sections =
              rw (got_append g xs (f ∷ us), got_append g ys (f ∷ vs), ← h.end)
              (more (got_section g s h) e k.sections);
        }
