-- DEMAND 3: labels and gauging keep apart.
--
-- "Labels and gauging keep apart. Two sessions with the same accepted image first, room for all they ask and the same fences in the same
-- order, which between neighbouring fences and after the last hold the same label events in the same order and the same gauge events in the
-- same order, mixed differently: each event gets the same answer and reply bytes in both, those that demand 2 gives, and both end in the same
-- state." Document 01 names the three classes.
use Rattle.std.specs.Prelude.{◌≡◌, false, List, [], ◌∷◌, ◌++◌, map, ℕ, ◌+◌, ◌≤◌, eqb, length, take, drop, Ok, Err}
use Rattle.numbers.specs.Choice.{pick}
use Rattle.state.specs.declared.Profile.{Profile}
use Rattle.demands.specs.Images.{image_kind}
use Rattle.record.specs.declared.Event.TheVariants.{Image}
use Rattle.record.specs.Image.{image_address}
use Rattle.record.specs.Record.{taken_of, asks_of, Taken}
use Rattle.runs.specs.Record.{Rec, whole, cut, recs_of}
use Rattle.runs.specs.Run.{Did, Line}
use Rattle.replies.specs.Reply.{selected_of}
use Rattle.runs.specs.declared.Session.{Session}
use Rattle.runs.specs.SessionRecord.{did_of}
use Rattle.session_run.specs.SessionRun.{empty_of}
use Rattle.tray_record.specs.declared.Tray.{Tray}
use Rattle.tray_record.specs.Tray.{empty_tray, tray_did}
use Rattle.demands.specs.Call.{Call, Within, got_of, Told}
use Rattle.demands.specs.Sections.{Class, Sections}
use Rattle.demands.specs.Class.{Selects, class_by, session_asked, tray_asked, some_selected, tray_class}

-- what a record asks, after the images were accepted: of a transaction that is not refused, the read count
abbrev pub taken_asks : Taken → ℕ
taken_asks (Ok e) = asks_of e
taken_asks (Err r) = 0

module _ (asked : ℕ → List ℕ → Taken) where
  abbrev pub rec_asks : Rec → ℕ
  rec_asks (whole kind p) = taken_asks (asked kind p)
  rec_asks cut = 0

  abbrev pub asks_all : List Rec → ℕ
  asks_all [] = 0
  asks_all (r ∷ rs) = rec_asks r + asks_all rs

-- of any run: what a record asks after the opening, and whom a transaction selects, give the classes
module _ {S : Type 0} (did : S → ℕ → Rec → Did S) (start : S) (asked : ℕ → List ℕ → Taken) (selects : Selects) where
  -- a session of the opening, then the records rs, with "room for all they ask"
  pub record Starts (opening rs : List Rec) (c : Call S) : Type 0 where
    pub within : Within did start c
    pub first : recs_of c.bytes ≡ opening ++ rs
    pub room : asks_all asked rs ≤ length c.room

  -- the same opening, and then the same events, "mixed differently"
  pub record Mixed (opening xs ys : List Rec) (a b : Call S) : Type 0 where
    pub one : Starts opening xs a
    pub other : Starts opening ys b
    pub sections : Sections (class_by asked selects) xs ys

  -- "Each event gets the same answer and reply bytes in both": paired with what they got, the events still agree section by section,
  -- so that the k-th label event of a section gets in one what the k-th gets in the other, and so do gauge events and fences.
  -- "Those that demand 2 gives, and both end in the same state."
  pub record KeptApart (a b : Call S) : Type 0 where
    pub events : Sections (λ e. class_by asked selects e.0) (got_of did start a) (got_of did start b)
    pub one : Told did start a
    pub other : Told did start b
    pub state : a.ran.state ≡ b.ran.state

-- ---- of sessions: "the same accepted image first"

abbrev pub SessionsMixed : Profile → List ℕ → List Rec → List Rec → Call Session → Call Session → Type 0
SessionsMixed profile p = Mixed did_of empty_of session_asked (selected_of (image_address p)) (whole (image_kind profile) p ∷ [])

abbrev pub Demand3 : Type 0
Demand3 = (f : Profile) (p : List ℕ) (xs ys : List Rec) (a b : Call Session) → taken_of (image_kind f) false p ≡ Ok (Image f)
    → SessionsMixed f p xs ys a b
    → KeptApart did_of empty_of session_asked (selected_of (image_address p)) a b

-- and it speaks of something: there are such sessions of each profile that differ
pub record Demand3Met (profile : Profile) : Type 0 where
  pub image : List ℕ
  pub ones : List Rec
  pub others : List Rec
  pub one : Call Session
  pub other : Call Session
  pub accepted : taken_of (image_kind profile) false image ≡ Ok (Image profile)
  pub mixed : SessionsMixed profile image ones others one other
  pub differ : one.bytes ≡ other.bytes → ⊥

-- ---- of trays: "the same accepted image first" are one to eight images here, each of either profile, and records that are refused may stand anywhere
-- among them

-- of records with their lines, those that were accepted
abbrev pub accepted_in : List (Rec × Line) → List Rec
accepted_in [] = []
accepted_in (e ∷ es) = pick (eqb e.1.answer 0) (e.0 ∷ accepted_in es) (accepted_in es)

abbrev pub image_records : List (Profile × List ℕ) → List Rec
image_records ps = map (λ x. whole (image_kind x.0) x.1) ps

abbrev pub addresses_of : List (Profile × List ℕ) → List (List ℕ)
addresses_of ps = map (λ x. image_address x.1) ps

-- the packs of the opening are those that a class is judged by
abbrev pub opened_asked : List (Profile × List ℕ) → ℕ → List ℕ → Taken
opened_asked ps = tray_asked (length (addresses_of ps))

abbrev pub opened_class : List (Profile × List ℕ) → Rec → Class
opened_class ps = tray_class (addresses_of ps)

-- the first n records of a tray session are its opening: of these the images are accepted, in this order, and all others are refused. It ends with as
-- many packs, so that no image is accepted later
pub record OpensWith (ps : List (Profile × List ℕ)) (n : ℕ) (c : Call Tray) : Type 0 where
  pub images : accepted_in (take n (got_of tray_did empty_tray c)) ≡ image_records ps
  pub packs : c.ran.state.count ≡ length (addresses_of ps)

-- every tray session has an opening
pub record HasOpening (c : Call Tray) : Type 0 where
  pub images : List (Profile × List ℕ)
  pub size : ℕ
  pub opens : OpensWith images size c

abbrev pub EveryTrayOpens : Type 0
EveryTrayOpens = (c : Call Tray) → Within tray_did empty_tray c → HasOpening c

pub record TrayOpening (ps : List (Profile × List ℕ)) (n : ℕ) (c : Call Tray) : Type 0 where
  pub within : Within tray_did empty_tray c
  pub opens : OpensWith ps n c
  -- "room for all they ask": the opening takes none
  pub room : asks_all (opened_asked ps) (drop n (recs_of c.bytes)) ≤ length c.room

-- two such sessions, with n and m records in their openings, which may hold other refused records; then the same events, "mixed differently"
pub record TraysMixed (ps : List (Profile × List ℕ)) (n m : ℕ) (a b : Call Tray) : Type 0 where
  pub one : TrayOpening ps n a
  pub other : TrayOpening ps m b
  pub sections : Sections (opened_class ps) (drop n (recs_of a.bytes)) (drop m (recs_of b.bytes))

pub record TraysApart (ps : List (Profile × List ℕ)) (n m : ℕ) (a b : Call Tray) : Type 0 where
  -- each event after the openings gets the same in both
  pub later : Sections (λ e. opened_class ps e.0) (drop n (got_of tray_did empty_tray a)) (drop m (got_of tray_did empty_tray b))
  -- and so does each event of the sessions, where their openings hold the same fences, label events and gauge events too
  pub events : Sections (opened_class ps) (take n (recs_of a.bytes)) (take m (recs_of b.bytes))
      → Sections (λ e. opened_class ps e.0) (got_of tray_did empty_tray a) (got_of tray_did empty_tray b)
  pub one : Told tray_did empty_tray a
  pub other : Told tray_did empty_tray b
  pub state : a.ran.state ≡ b.ran.state

-- "Demand 3 holds for the tray's whole state": all packs, their number, and whether the opening is closed
abbrev pub TrayDemand3 : Type 0
TrayDemand3 = (ps : List (Profile × List ℕ)) (n m : ℕ) (a b : Call Tray) → TraysMixed ps n m a b → TraysApart ps n m a b

-- and so in the paper's own words, of whole sessions: the same images accepted, "room for all they ask", and "the same fences in the same order", with the
-- same label events and the same gauge events between them, from the first record on
pub record WholeMixed (ps : List (Profile × List ℕ)) (n m : ℕ) (a b : Call Tray) : Type 0 where
  pub one : Within tray_did empty_tray a
  pub other : Within tray_did empty_tray b
  pub opens : OpensWith ps n a
  pub other_opens : OpensWith ps m b
  pub room : asks_all (opened_asked ps) (recs_of a.bytes) ≤ length a.room
  pub other_room : asks_all (opened_asked ps) (recs_of b.bytes) ≤ length b.room
  pub sections : Sections (opened_class ps) (recs_of a.bytes) (recs_of b.bytes)

abbrev pub WholeTrayDemand3 : Type 0
WholeTrayDemand3 = (ps : List (Profile × List ℕ)) (n m : ℕ) (a b : Call Tray) → WholeMixed ps n m a b
    → KeptApart tray_did empty_tray (opened_asked ps) (some_selected (addresses_of ps)) a b

-- and it speaks of something: two openings, in one of which a record is refused between two images
pub record TrayDemand3Met : Type 0 where
  pub images : List (Profile × List ℕ)
  pub opening : ℕ
  pub other_opening : ℕ
  pub one : Call Tray
  pub other : Call Tray
  pub mixed : TraysMixed images opening other_opening one other
  pub refused : map (λ e. e.1.answer) (take opening (got_of tray_did empty_tray one)) ≡ 0 ∷ 12 ∷ 0 ∷ []
  pub none_refused : map (λ e. e.1.answer) (take other_opening (got_of tray_did empty_tray other)) ≡ 0 ∷ 0 ∷ []
  pub differ : drop opening (recs_of one.bytes) ≡ drop other_opening (recs_of other.bytes) → ⊥

-- and two whole sessions by the letter: "the same accepted image first", here two of them, and then the same events, "mixed differently"
pub record WholeTrayDemand3Met : Type 0 where
  pub images : List (Profile × List ℕ)
  pub opening : ℕ
  pub one : Call Tray
  pub other : Call Tray
  pub mixed : WholeMixed images opening opening one other
  pub first : take opening (recs_of one.bytes) ≡ image_records images
  pub other_first : take opening (recs_of other.bytes) ≡ image_records images
  pub differ : drop opening (recs_of one.bytes) ≡ drop opening (recs_of other.bytes) → ⊥

-- and two whose openings hold the same events, mixed differently: some are refused before the first image, one after it
pub record WholeTrayRefusedMet : Type 0 where
  pub images : List (Profile × List ℕ)
  pub opening : ℕ
  pub one : Call Tray
  pub other : Call Tray
  pub mixed : WholeMixed images opening opening one other
  pub refused : map (λ e. e.1.answer) (take opening (got_of tray_did empty_tray one)) ≡ 5 ∷ 3 ∷ 0 ∷ 12 ∷ 0 ∷ []
  pub other_refused : map (λ e. e.1.answer) (take opening (got_of tray_did empty_tray other)) ≡ 3 ∷ 5 ∷ 0 ∷ 12 ∷ 0 ∷ []
