-- A call of a run, of any state and any `did`, which says what one record does: what the demands are stated of. For sessions S is `Session`,
-- did `did_of` and start `empty_of`, and the call is one of `session_run::run`; for trays they are `Tray`, `tray_did` and `empty_tray`, and the call is
-- one of `tray_run::run`.
use Rattle.std.specs.Prelude.{◌≡◌, ◌⊎◌, ℕ, zero, suc, ◌+◌, ◌/◌, ◌≤◌, ◌<◌, length, take, drop}
use mathlib.Core.List.{List, [], ◌∷◌, ◌++◌, map, zip}
use Rattle.slices.specs.Slices.{put}
use Rattle.runs.specs.declared.Outcome.TheVariants.{Done}
use Rattle.runs.specs.Record.{Rec, size_of, recs_of}
use Rattle.runs.specs.Run.{Did, Line, lines_after, replies_of, codes_of, Result, Runs}

-- the bytes of a session, the reply room and the answers that are lent; what comes back, and what room and answers then hold
pub record Call (S : Type 0) : Type 0 where
  pub bytes : List ℕ
  pub room : List ℕ
  pub answers : List ℕ
  pub ran : Result S
  pub replies : List ℕ
  pub told : List ℕ

-- the bytes of the first n records
abbrev pub first_of : ℕ → List ℕ → List ℕ
first_of zero s = []
first_of (suc n) s = take (size_of s) s ++ first_of n (drop (size_of s) s)

module _ {S : Type 0} (did : S → ℕ → Rec → Did S) (start : S) where
  -- what comes back is what the contract of the run allows
  abbrev pub Allowed : Call S → Type 0
  Allowed c = Runs did start c.bytes c.room c.answers c.ran c.replies c.told

  -- and the session has at most 32,768 bytes, with answers lent for as many records as so many bytes may hold. `run` is lent 8,192, by their type
  pub record Within (c : Call S) : Type 0 where
    pub allowed : Allowed c
    pub short : length c.bytes ≤ 32768
    pub lent : (length c.bytes + 3) / 4 ≤ length c.answers

  -- the lines that the definition of a session gives: a kind, an answer and the reply bytes for each record
  abbrev pub lines_in : Call S → List Line
  lines_in c = lines_after did start (length c.room) (recs_of c.bytes)

  -- each record with its line
  abbrev pub got_of : Call S → List (Rec × Line)
  got_of c = zip (recs_of c.bytes) (lines_in c)

  -- the session was run: the pairs leave out no record and no line, and the lines are what room and answers hold
  pub record Told (c : Call S) : Type 0 where
    pub done : c.ran.outcome ≡ Done
    pub records : map (λ e. e.0) (got_of c) ≡ recs_of c.bytes
    pub lines : map (λ e. e.1) (got_of c) ≡ lines_in c
    pub answered : c.told ≡ put c.answers 0 (codes_of (lines_in c))
    pub replied : c.replies ≡ put c.room 0 (replies_of (lines_in c))

  -- ---- each call that the contract allows is within, or over

  abbrev pub WithinOrOver : Type 0
  WithinOrOver = (c : Call S) → Allowed c → length c.answers ≡ 8192 → Within c ⊎ (32768 < length c.bytes)

  -- ---- the moments of a session

  -- the session of c, lent the same, run up to the end of its n-th record
  pub record Stopped (n : ℕ) (c d : Call S) : Type 0 where
    pub allowed : Allowed d
    pub bytes : d.bytes ≡ first_of n c.bytes
    pub room : d.room ≡ c.room
    pub answers : d.answers ≡ c.answers

  -- there is such a run of every session and every n, so that what is said of runs that are stopped is said of every moment
  pub record StoppedRun (n : ℕ) (c : Call S) : Type 0 where
    pub run : Call S
    pub stopped : Stopped n c run

  -- and a call of every session that is not over
  pub record SessionRun (s room answers : List ℕ) : Type 0 where
    pub run : Call S
    pub within : Within run
    pub bytes : run.bytes ≡ s
    pub room' : run.room ≡ room
    pub answers' : run.answers ≡ answers

  pub record RunsExist : Type 0 where
    pub sessions : (s room answers : List ℕ) → length s ≤ 32768 → (length s + 3) / 4 ≤ length answers → SessionRun s room answers
    pub moments : (n : ℕ) (c : Call S) → Within c → StoppedRun n c

  -- a record of the session of c with its line, and the runs that stop before it and after it
  pub record Taking (c : Call S) (r : Rec) (l : Line) (a b : Call S) : Type 0 where
    pub earlier : ℕ
    pub later : List (Rec × Line)
    pub here : drop earlier (got_of c) ≡ (r, l) ∷ later
    pub before : Stopped earlier c a
    pub after : Stopped (suc earlier) c b
