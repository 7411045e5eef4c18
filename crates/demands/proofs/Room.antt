-- With reply room for all that is asked no record is refused for room; so a run is one of gauges, without room.
use mathlib.Core.Path.{◌≡◌, refl, ap, ◌∙◌}
use mathlib.Core.Bool.{true}
use mathlib.Core.List.{List, [], ◌∷◌, zip, zip_with}
use Prim.Native.Nat.{ℕ, ◌-◌, ◌≤◌}
use native.Mathlib.Omega.{arith}
use borrow.Author.Tests.{le-ltb}
use lib.ListN.{length}
use Rattle.std.specs.Prelude.{Ok, Err}
use Rattle.numbers.proofs.Bounds.{picked}
use Rattle.state.specs.declared.Tick.{Tick}
use Rattle.gauge.specs.declared.Gauge.{Gauge}
use Rattle.record.specs.declared.Event.TheVariants.{Image, Change, Transact}
use Rattle.record.specs.Record.{master_of, taken_of, change_timely, timed_of, asks_of, fitted_of, Taken}
use Rattle.record.proofs.Fits.{timed_taking}
use Rattle.runs.specs.Record.{Rec, whole, cut}
use Rattle.runs.specs.Run.{Did, silently, Line, line_of, lines_after, end_after}
use Rattle.runs.specs.declared.Session.{Session}
use Rattle.runs.specs.SessionRecord.{loaded_with, last_tick, taken_did, did_of}
use Rattle.gauge.proofs.Acting.{reply_length}
use Rattle.demands.specs.Class.{session_asked}
use Rattle.demands.specs.Demand3.{taken_asks, rec_asks, asks_all}
use Rattle.demands.proofs.Mix.{end_from, got_from}
use Rattle.demands.proofs.Address.{Stays, taken_stays}

-- One record

-- what a record does where there is room: what the tick decides is still asked
abbrev pub timed_did : List ℕ → Taken → Gauge → Did Session
timed_did p t g = taken_did (loaded_with g) p (timed_of (last_tick (loaded_with g)) t)

abbrev pub free_of : Gauge → Rec → Did Session
free_of g (whole kind p) = timed_did p (taken_of kind true p) g
free_of g cut = silently (loaded_with g) 2

pub taken_room : (room : ℕ) (t : Taken) → taken_asks t ≤ room → fitted_of room t ≡ t
taken_room room (Ok e) h = rw (le-ltb room (asks_of e) h) refl
taken_room room (Err r) h = refl

pub timed_asks : (last : Tick) (t : Taken) → taken_asks (timed_of last t) ≡ taken_asks t
timed_asks last (Ok (Image f)) = refl
timed_asks last (Ok (Change c)) = picked (λ (t : Taken). taken_asks t ≡ 0) (change_timely last c) _ _ (λ timely. refl) (λ other. refl)
timed_asks last (Ok (Transact t)) = refl
timed_asks last (Err r) = refl

did_room : (g : Gauge) (room : ℕ) (r : Rec) → rec_asks session_asked r ≤ room → did_of (loaded_with g) room r ≡ free_of g r
unfolding did_of
did_room g room (whole kind p) h =
    let t = timed_of (last_tick (loaded_with g)) (taken_of kind true p) in
    ap (taken_did (loaded_with g) p) (taken_room room t (rw (timed_asks (last_tick (loaded_with g)) (taken_of kind true p)) h))
did_room g room cut h = refl

taken_reply : (g : Gauge) (p : List ℕ) (t : Taken) → length (taken_did (loaded_with g) p t).reply ≡ taken_asks t
taken_reply g p (Ok (Image f)) = refl
taken_reply g p (Ok (Change c)) = refl
taken_reply g p (Ok (Transact t)) = reply_length g t (master_of t p)
taken_reply g p (Err r) = refl

free_reply : (g : Gauge) (r : Rec) → length (free_of g r).reply ≡ rec_asks session_asked r
free_reply g (whole kind p) =
    let last = last_tick (loaded_with g) in
    taken_reply g p (timed_of last (taken_of kind true p)) ∙ timed_asks last (taken_of kind true p)
free_reply g cut = refl

-- it leaves an image that was accepted, and the same address
pub free_stays : (g : Gauge) (r : Rec) → Stays g.common.address (free_of g r).state
free_stays g (whole kind p) =
    let last = last_tick (loaded_with g) in
    taken_stays g p (timed_of last (taken_of kind true p)) (timed_taking true p last kind)
free_stays g cut = record { loaded = refl; owned = refl }

-- A run of gauges

abbrev pub step : Gauge → Rec → Gauge
step g r = (free_of g r).state.gauge

abbrev pub out : Gauge → Rec → Line
out g r = line_of r (free_of g r)

-- the state at the end, and each record with its line
pub record Free (g : Gauge) (room : ℕ) (rs : List Rec) : Type 0 where
  pub end : end_after did_of (loaded_with g) room rs ≡ loaded_with (end_from step out g rs)
  pub got : zip rs (lines_after did_of (loaded_with g) room rs) ≡ got_from step out g rs

pub free : (g : Gauge) (room : ℕ) (rs : List Rec) → asks_all session_asked rs ≤ room → Free g room rs
unfolding zip zip_with
free g room [] h = record { end = refl; got = refl }
free g room (r ∷ rs) h =
    let e = did_room g room r (omega arith) in
    let s = (free_stays g r).loaded in
    let k = free (step g r) (room - length (free_of g r).reply) rs (omega (arith, free_reply g r)) in
    record {
      end = rw (e, s) k.end;
      got = rw (e, s) (ap (λ (l : List (Rec × Line)). (r, out g r) ∷ l) k.got);
    }
