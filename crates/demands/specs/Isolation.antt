-- ISOLATION: "Change one pack's image and slot events at will, its address and the acceptance of each record kept: replies to transactions
-- matched to the others, and the others' states, stay the same."
use Rattle.std.specs.Prelude.{◌≡◌, true, List, [], ◌∷◌, ℕ, zero, suc, ◌+◌, eqb, length}
use Rattle.state.specs.declared.Profile.{Profile}
use Rattle.demands.specs.Images.{image_kind, is_image}
use Rattle.numbers.specs.Choice.{pick, both}
use Rattle.record.specs.declared.Form.{Form}
use Rattle.record.specs.Image.{image_address}
use Rattle.runs.specs.Record.{Rec, whole, kind_in}
use Rattle.runs.specs.Run.{Line}
use Rattle.tray_record.specs.declared.Tray.{Tray}
use Rattle.tray_record.specs.Tray.{empty_tray, pack_of, slot_in, one, tray_did}
use Rattle.demands.specs.Call.{Call, Within, got_of, Stopped, Taking}
use Rattle.demands.specs.Longer.{form_kind}
use Rattle.demands.specs.Alone.{slot_event, reach_in}

-- ---- two tray sessions that differ in the slot k

-- "the acceptance of each record kept": accepted in both, or refused in both
abbrev pub Agree : Line → Line → Type 0
Agree l m = eqb l.answer 0 ≡ eqb m.answer 0

-- how many images are accepted with a record, where n were before it
abbrev pub images_after : ℕ → Rec → Line → ℕ
images_after n r l = pick (both (is_image (kind_in r)) (eqb l.answer 0)) (n + 1) n

-- the records of both, each with its line, where n images were accepted before them
pub data Differs (k : ℕ) : ℕ → List (Rec × Line) → List (Rec × Line) → Type 0 where
  none : {n : ℕ} → Differs k n [] []
  -- a record that both hold
  held : {n : ℕ} {r : Rec} {l m : Line} {xs ys : List (Rec × Line)} → Agree l m → Differs k (images_after n r l) xs ys
      → Differs k n ((r, l) ∷ xs) ((r, m) ∷ ys)
  -- a slot event of k that one of them holds, whatever it is answered
  here : {n e : ℕ} {p : List ℕ} {l : Line} {xs ys : List (Rec × Line)} → slot_event e ≡ true → slot_in p ≡ k → Differs k n xs ys
      → Differs k n ((whole e p, l) ∷ xs) ys
  there : {n e : ℕ} {p : List ℕ} {l : Line} {xs ys : List (Rec × Line)} → slot_event e ≡ true → slot_in p ≡ k → Differs k n xs ys
      → Differs k n xs ((whole e p, l) ∷ ys)
  -- two images with the same address, each of either kind, where the slot k is filled
  images : (f h : Profile) {n : ℕ} {p q : List ℕ} {l m : Line} {xs ys : List (Rec × Line)} → n ≡ k → image_address p ≡ image_address q → Agree l m
      → Differs k (images_after n (whole (image_kind f) p) l) xs ys → Differs k n ((whole (image_kind f) p, l) ∷ xs) ((whole (image_kind h) q, m) ∷ ys)

-- a place in both: i records of the one are before it and j of the other
abbrev pub Places : {k n : ℕ} {xs ys : List (Rec × Line)} → Differs k n xs ys → ℕ → ℕ → Type 0
Places none zero zero = Unit
Places none zero (suc j) = ⊥
Places none (suc i) j = ⊥
Places (held agree rest) zero zero = Unit
Places (held agree rest) zero (suc j) = ⊥
Places (held agree rest) (suc i) zero = ⊥
Places (held agree rest) (suc i) (suc j) = Places rest i j
Places (here slot at rest) zero zero = Unit
Places (here slot at rest) zero (suc j) = ⊥
Places (here slot at rest) (suc i) j = Places rest i j
Places (there slot at rest) zero zero = Unit
Places (there slot at rest) (suc i) zero = ⊥
Places (there slot at rest) zero (suc j) = Places rest zero j
Places (there slot at rest) (suc i) (suc j) = Places rest (suc i) j
Places (images f h at address agree rest) zero zero = Unit
Places (images f h at address agree rest) zero (suc j) = ⊥
Places (images f h at address agree rest) (suc i) zero = ⊥
Places (images f h at address agree rest) (suc i) (suc j) = Places rest i j

-- two calls with reply rooms of one size
pub record Twins (k : ℕ) (c d : Call Tray) : Type 0 where
  pub one : Within tray_did empty_tray c
  pub other : Within tray_did empty_tray d
  pub room : length c.room ≡ length d.room
  pub differs : Differs k 0 (got_of tray_did empty_tray c) (got_of tray_did empty_tray d)

-- ---- what is the same

-- as many packs, every other slot's pack, and the address of k's
pub record Others (k : ℕ) (τ σ : Tray) : Type 0 where
  pub count : τ.count ≡ σ.count
  pub packs : (j : ℕ) → (j ≡ k → ⊥) → pack_of τ j ≡ pack_of σ j
  pub address : (pack_of τ k).common.address ≡ (pack_of σ k).common.address

-- in three parts, which `IsolationThroughout` joins
pub record Isolation : Type 0 where
  -- two such sessions that are stopped at a place in both are two such sessions: so what holds at the end holds after each record that both hold
  pub stops : (k : ℕ) (c d : Call Tray) (t : Twins k c d) (i j : ℕ) → Places t.differs i j
      → (a e : Call Tray) → Stopped tray_did empty_tray i c a → Stopped tray_did empty_tray j d e → Twins k a e
  pub states : (k : ℕ) (c d : Call Tray) → Twins k c d → Others k c.ran.state d.ran.state
  -- a transaction that both hold, and the runs that stop before it: where the search matches it to another slot it gets the same answer and reply
  pub replies : (k j : ℕ) (c d : Call Tray) → Within tray_did empty_tray c → Within tray_did empty_tray d
      → (x : Form) (p : List ℕ) (l m : Line) (a b e f : Call Tray)
      → Taking tray_did empty_tray c (whole (form_kind x) p) l a b → Taking tray_did empty_tray d (whole (form_kind x) p) m e f
      → Twins k a e → reach_in a.ran.state x p ≡ one j → (j ≡ k → ⊥) → l ≡ m

-- at a place in both sessions, by the runs a and e that stop there: "the others' states stay the same", and of a transaction that both hold next and
-- that is matched to another slot, answer and reply
pub record SameAt (k : ℕ) (c d a e : Call Tray) : Type 0 where
  pub states : Others k a.ran.state e.ran.state
  pub replies : (j : ℕ) (x : Form) (p : List ℕ) (l m : Line) (b f : Call Tray)
      → Taking tray_did empty_tray c (whole (form_kind x) p) l a b → Taking tray_did empty_tray d (whole (form_kind x) p) m e f
      → reach_in a.ran.state x p ≡ one j → (j ≡ k → ⊥) → l ≡ m

-- the paper's one sentence: "Change one pack's image and slot events at will, its address and the acceptance of each record kept" (`Twins`), and at
-- every place in both all the rest is the same
abbrev pub IsolationThroughout : Type 0
IsolationThroughout =
    (k : ℕ) (c d : Call Tray) (t : Twins k c d) (i j : ℕ) → Places t.differs i j
    → (a e : Call Tray) → Stopped tray_did empty_tray i c a → Stopped tray_did empty_tray j d e → SameAt k c d a e

-- and it speaks of something: two such sessions, and in both a transaction that is matched to another slot, and done; it stands at a place in both, before
-- which the slot's pack is not the same
pub record IsolationMet : Type 0 where
  pub slot : ℕ
  pub matched : ℕ
  pub first : Call Tray
  pub second : Call Tray
  pub twins : Twins slot first second
  pub form : Form
  pub payload : List ℕ
  pub line : Line
  pub before : Call Tray
  pub after : Call Tray
  pub taking : Taking tray_did empty_tray first (whole (form_kind form) payload) line before after
  pub other_line : Line
  pub other_before : Call Tray
  pub other_after : Call Tray
  pub other_taking : Taking tray_did empty_tray second (whole (form_kind form) payload) other_line other_before other_after
  pub place : Places twins.differs taking.earlier other_taking.earlier
  pub differ : pack_of before.ran.state slot ≡ pack_of other_before.ran.state slot → ⊥
  pub reached : reach_in before.ran.state form payload ≡ one matched
  pub away : matched ≡ slot → ⊥
  pub done : line.answer ≡ 0
