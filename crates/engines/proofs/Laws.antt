-- What follows of the test that a meter is sound, and of what `run` told.
use mathlib.Core.Path.{◌≡◌, sym, ap, ◌∙◌}
use mathlib.Core.Bool.{true, false}
use mathlib.Core.Logic.{◌⊎◌, ⊎_elim}
use mathlib.Core.List.{List}
use Prim.Native.Nat.{ℕ, ◌-◌, ◌*◌, ◌^◌, ◌≤◌, ◌<◌}
use native.Mathlib.Omega.{arith}
use borrow.Author.Tests.{leb-true, ltb-true, le-leb, lt-leb}
use lib.Dec.{leb, ltb}
use lib.ListN.{length, drop, length-drop}
use Rattle.numbers.specs.Choice.{both}
use Rattle.numbers.specs.Offset.{offset32_of}
use Rattle.numbers.proofs.Bounds.{both_true}
use Rattle.slices.specs.Slices.{part, pair_at, quad_at}
use Rattle.slices.proofs.Laws.{part_rest}
use Rattle.streams.specs.declared.Said.{Said}
use Rattle.streams.specs.Streams.{error, Saying}
use Rattle.state.specs.declared.Charge.{Charge}
use Rattle.state.specs.State.{ChargeWf, AverageWf, MeterWf}
use Rattle.state.specs.declared.Average.{Average}
use Rattle.state.specs.declared.Meter.{Meter}
use Rattle.runs.specs.Record.{recs_of}
use Rattle.runs.specs.Run.{end_after, Runs, result_of}
use Rattle.runs.proofs.Ends.{within_done}
use Rattle.runs.specs.declared.Session.{Session}
use Rattle.runs.specs.SessionRecord.{did_of}
use Rattle.runs.specs.declared.Ran.{Ran}
use Rattle.session_run.specs.SessionRun.{empty_of}
use Rattle.engines.specs.Engines.{engines_size_text, charge_sound, average_sound, sound_of, end_speech, session_after, compared_speech}

-- ---- a sound meter is well-formed

charge_wf : (g : Charge) → charge_sound g ≡ true → ChargeWf g
charge_wf g e =
    let a = both_true (ltb g.count (2 ^ 28)) _ e in
    let b = both_true (ltb g.age (32 * 65535)) _ a.1 in
    let c = both_true (leb 63 g.aging) _ b.1 in
    record { count = ltb-true _ _ a.0; age = ltb-true _ _ b.0; low = leb-true _ _ c.0; high = leb-true _ _ c.1 }

average_wf : (a : Average) → average_sound a ≡ true → AverageWf a
average_wf a e =
    let b = both_true (ltb a.made 1024) _ e in
    record { made = ltb-true _ _ b.0; sum = leb-true _ _ b.1 }

pub sound_wf : (m : Meter) → sound_of m ≡ true → MeterWf m
unfolding sound_of
sound_wf m e =
    let a = both_true (both (charge_sound m.charge) (average_sound m.flow.average)) _ e in
    let b = both_true (charge_sound m.charge) _ a.0 in
    let c = both_true (leb m.shown.model.full 16384) _ a.1 in
    let d = both_true (leb m.shown.reading.volt 1023) _ c.1 in
    record {
      charge = charge_wf m.charge b.0;
      average = average_wf m.flow.average b.1;
      full = leb-true _ _ c.0;
      volt = leb-true _ _ d.0;
      temp = ltb-true _ _ d.1;
    }

-- ---- an input of 6 to 32,774 bytes

pub sized : (n : ℕ) → 6 ≤ n → n ≤ 32774 → both (leb 6 n) (leb n 32774) ≡ true
sized n low high = rw (le-leb 6 n low, le-leb n 32774 high)

pub missized : (n : ℕ) → ((6 ≤ n) × (32774 < n)) ⊎ (n < 6) → both (leb 6 n) (leb n 32774) ≡ false
missized n h = ⊎_elim (λ w. rw (le-leb 6 n w.0, lt-leb n 32774 w.1)) (λ w. rw (lt-leb 6 n w)) h

-- the session behind the first 6 bytes is run
pub ended : (s replies answers : List ℕ) (r : Ran Session) (after told : List ℕ) → length s ≤ 32774 → 65536 ≡ length replies
    → Runs did_of empty_of (part (length s - 6) s 6) replies answers (result_of r) after told → r.state ≡ session_after (drop 6 s)
ended s replies answers r after told short fits runs =
    let size : length (drop 6 s) ≤ 32768 = omega (arith, length-drop 6 s) in
    let run = rw (part_rest s 6, within_done (length (drop 6 s)) size) at runs in
    run.state ∙ ap (λ (room : ℕ). end_after did_of empty_of room (recs_of (drop 6 s))) (sym fits)

-- what is said of its end is what is said of the input
pub end_said : (s : List ℕ) {room after : List ℕ} {σ : Session} {raw n : ℕ} {x : Said} → both (leb 6 (length s)) (leb (length s) 32774) ≡ true
    → σ ≡ session_after (drop 6 s) → raw ≡ offset32_of (quad_at s 0) → n ≡ pair_at s 4
    → Saying (end_speech σ raw n) room x after → Saying (compared_speech s) room x after
unfolding compared_speech
end_said s fits es er en w = rw fits (rw (es, er, en) at w)

-- ---- an input that is too long: its bytes do not matter

pub alike : (s : List ℕ) → 32774 < length s → compared_speech s ≡ error engines_size_text
unfolding compared_speech
alike s h = rw (le-leb 6 (length s) (omega arith), lt-leb (length s) 32774 h)
