-- The theorems of `live_tray` and `resume_tray`.
use Rattle.std.specs.Prelude.{Ok}
use mathlib.Core.Path.{◌≡◌, refl, sym, ap, subst, ◌∙◌}
use mathlib.Core.List.{List, [], ◌∷◌, ◌++◌}
use Prim.Native.Nat.{ℕ, ◌-◌}
use contract.Lifetimes.{Lfts}
use denote.Triple.Entry.{Args, Res}
use denote.Triple.Clauses.{Lasts, at_exit}
use lib.Dec.{eqb}
use lib.ListN.{length}
use Rattle.runs.specs.Record.{Rec, cut}
use Rattle.runs.specs.Run.{silently, end_after}
use Rattle.runs.specs.Step.{own_room}
use Rattle.runs.specs.Divided.{wholes_in}
use Rattle.numbers.proofs.Bounds.{picked}
use Rattle.tray_record.specs.declared.Tray.{Tray}
use Rattle.tray_record.specs.Tray.{TrayWf, tray_did}
use Rattle.state_bytes.specs.State.{number_in}
use Rattle.state_bytes.specs.TrayState.{TrayStateIn, tray_state_bytes, tray_state_in, tray_in}
use Rattle.state_bytes.specs.Theorems.{TrayStateWf}
use Rattle.state_bytes.proofs.TrayUndoing.{empty_tray_good, tray_undoing}
use Rattle.state_bytes.proofs.TrayKept.{tray_sized, tray_uncounted}
use Rattle.text.specs.Live.{live_lines, live_end}
use Rattle.text.proofs.Live.{read_by_read, resumed}
use Rattle.live_tray.specs.LiveTray.{tray_held_of}
use Rattle.live_tray.specs.Theorems.{tray_resumed_from, TrayCutByBytes, LiveTrayTheorems}
use Rattle.live_tray.specs.Theorems.{TrayTurn, TrayTurnDone, TrayTurnsDone, tray_handed_on, tray_turns_records, tray_kept_from, TrayCutByTurns}
use Rattle.live_tray.proofs.answered
use Rattle.live_tray.specs.contracts.answered as answered'

idle : (σ : Tray) (room : ℕ) → tray_did σ room cut ≡ silently σ 2
unfolding tray_did
idle σ room = refl

-- what every record keeps of a tray, a run keeps
run_keeps : (P : Tray → Type 0) → ((τ : Tray) (room : ℕ) (r : Rec) → P τ → P (tray_did τ room r).state)
    → (τ : Tray) (left : ℕ) (rs : List Rec) → P τ → P (end_after (own_room 256 tray_did) τ left rs)
run_keeps P k τ left [] p = p
run_keeps P k τ left (r ∷ rs) p = run_keeps P k (tray_did τ 256 r).state (left - length (tray_did τ 256 r).reply) rs (k τ 256 r p)

module _ (τ : Tray) (rs : List Rec) (w : TrayStateWf τ) (wf : TrayWf (live_end tray_did τ rs)) where
  end_good : TrayStateWf (live_end tray_did τ rs)
  end_good = record {
    wf = wf;
    sized = run_keeps _ tray_sized τ 256 rs w.sized;
    uncounted = run_keeps _ tray_uncounted τ 256 rs w.uncounted;
  }

  given_back : tray_state_in (tray_state_bytes (live_end tray_did τ rs)) ≡ Ok (live_end tray_did τ rs)
  given_back = tray_undoing.back (live_end tray_did τ rs) end_good

  same_end : live_end tray_did τ rs ≡ tray_resumed_from τ rs
  same_end = sym (ap (λ (x : TrayStateIn). tray_in x) given_back)

pub by_bytes : TrayCutByBytes
by_bytes = record {
  fresh = empty_tray_good;
  back = given_back;
  on = λ τ rs w wf. subst TrayStateWf (same_end τ rs w wf) (end_good τ rs w wf);
  lines = λ τ rs ts w wf.
      (resumed tray_did).lines τ rs ts ∙ ap (λ (x : Tray). live_lines tray_did τ rs ++ live_lines tray_did x ts) (same_end τ rs w wf);
  end = λ τ rs ts w wf. (resumed tray_did).end τ rs ts ∙ ap (λ (x : Tray). live_end tray_did x ts) (same_end τ rs w wf);
}

-- ---- turn after turn

turn_good : (τ : Tray) (t : TrayTurn) → TrayStateWf τ → TrayTurnDone τ t → TrayStateWf t.after
turn_good τ t w d =
    let is = d.turning.state in
    subst TrayStateWf (sym is) (end_good τ (wholes_in 1024 t.bytes) w (subst TrayWf is d.kept))

turns_good : (τ : Tray) (ts : List TrayTurn) → TrayStateWf τ → TrayTurnsDone τ ts → TrayStateWf (tray_handed_on τ ts)
turns_good τ [] w d = w
turns_good τ (t ∷ ts) w d = turns_good t.after ts (turn_good τ t w d.0) d.1

turns_stand : (τ : Tray) (ts : List TrayTurn) → TrayTurnsDone τ ts → tray_handed_on τ ts ≡ live_end tray_did τ (tray_turns_records ts)
turns_stand τ [] d = refl
turns_stand τ (t ∷ ts) d =
    turns_stand t.after ts d.1
    ∙ ap (λ (x : Tray). live_end tray_did x (tray_turns_records ts)) d.0.turning.state
    ∙ sym ((resumed tray_did).end τ (wholes_in 1024 t.bytes) (tray_turns_records ts))

module _ (τ : Tray) (ts : List TrayTurn) (w : TrayStateWf τ) (d : TrayTurnsDone τ ts) where
  turned_back : tray_state_in (tray_state_bytes (tray_handed_on τ ts)) ≡ Ok (tray_handed_on τ ts)
  turned_back = tray_undoing.back (tray_handed_on τ ts) (turns_good τ ts w d)

  -- the one run's end, and what the bytes give back
  same_turned : live_end tray_did τ (tray_turns_records ts) ≡ tray_kept_from (tray_handed_on τ ts)
  same_turned = sym (turns_stand τ ts d) ∙ sym (ap (λ (x : TrayStateIn). tray_in x) turned_back)

held_good : (file : List ℕ) → number_in (tray_held_of file) ≡ 0 → TrayStateWf (tray_in (tray_held_of file))
unfolding tray_held_of
held_good file =
    picked (λ (x : TrayStateIn). number_in x ≡ 0 → TrayStateWf (tray_in x)) (eqb (length file) 0) _ (tray_state_in file)
    (λ e z. by_bytes.fresh) (λ e z. tray_undoing.sound file z)

pub by_turns : TrayCutByTurns
by_turns = record {
  started = held_good;
  good = turns_good;
  stands = turns_stand;
  back = turned_back;
  lines = λ τ ts rs w d.
      (resumed tray_did).lines τ (tray_turns_records ts) rs
      ∙ ap (λ (x : Tray). live_lines tray_did τ (tray_turns_records ts) ++ live_lines tray_did x rs) (same_turned τ ts w d);
  end = λ τ ts rs w d. (resumed tray_did).end τ (tray_turns_records ts) rs ∙ ap (λ (x : Tray). live_end tray_did x rs) (same_turned τ ts w d);
}

-- what is learnt of any call of `answered` is that its turn is done
pub answered_turn : (κs : Lfts (answered'.ended).signature.lifetimes) (a : Args (answered'.ended).signature κs) (r : Res (answered'.ended).signature κs)
    (w : Lasts answered'.ended κs a) → answered.Reads.Learnt κs a r (at_exit answered'.ended κs a w)
    → TrayTurnDone a.0 (record {
      first = a.1.0;
      bytes = a.1.1.0.now;
      room = a.1.1.1.0.now;
      answers = a.1.1.1.1.0.now;
      out = a.1.1.1.1.1.0.now;
      after = r.tray;
      lines = r.lines;
      used = r.used;
      said = r.said;
      replied = w.1.1.1.0;
      told = w.1.1.1.1.0;
      text = w.1.1.1.1.1.0;
    })
answered_turn κs a r w h = record { turning = h.0; kept = h.1.0 }

pub theorems : LiveTrayTheorems
theorems = record { divided = read_by_read tray_did idle; cut = resumed tray_did; by_bytes = by_bytes; by_turns = by_turns }
