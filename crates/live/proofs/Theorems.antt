-- The theorems of `live` and `resume`.
use Rattle.std.specs.Prelude.{Ok}
use mathlib.Core.Path.{◌≡◌, refl, sym, ap, subst, ◌∙◌}
use mathlib.Core.List.{List, [], ◌∷◌, ◌++◌}
use Prim.Native.Nat.{ℕ, ◌-◌}
use contract.Lifetimes.{Lfts}
use denote.Triple.Entry.{Args, Res}
use denote.Triple.Clauses.{Lasts, at_exit}
use lib.Dec.{eqb}
use lib.ListN.{length, length-replicate}
use Rattle.gauge.proofs.Reached.{image_sized, image_uncounted}
use Rattle.runs.specs.declared.Session.{Session}
use Rattle.runs.specs.Record.{Rec, cut}
use Rattle.runs.specs.Run.{silently, end_after}
use Rattle.runs.specs.Step.{own_room}
use Rattle.runs.specs.Divided.{wholes_in}
use Rattle.numbers.proofs.Bounds.{picked}
use Rattle.runs.specs.SessionRecord.{SessionWf, did_of}
use Rattle.state_bytes.specs.State.{StateIn, state_bytes, state_in, number_in, session_in}
use Rattle.state_bytes.specs.Theorems.{StateWf}
use Rattle.state_bytes.proofs.Undoing.{undoing}
use Rattle.state_bytes.proofs.TrayUndoing.{no_gauge_wf}
use Rattle.state_bytes.proofs.Kept.{did_sized, did_uncounted}
use Rattle.text.specs.Live.{live_lines, live_end}
use Rattle.text.proofs.Live.{read_by_read, resumed}
use Rattle.live.specs.Live.{held_of}
use Rattle.live.specs.Theorems.{resumed_from, CutByBytes, LiveTheorems}
use Rattle.live.specs.Theorems.{LiveTurn, TurnDone, TurnsDone, handed_on, turns_records, kept_from, CutByTurns}
use Rattle.live.proofs.answered
use Rattle.live.specs.contracts.answered as answered'

idle : (σ : Session) (room : ℕ) → did_of σ room cut ≡ silently σ 2
unfolding did_of
idle σ room = refl

-- what every record keeps of a state, a run keeps
run_keeps : (P : Session → Type 0) → ((σ : Session) (room : ℕ) (r : Rec) → P σ → P (did_of σ room r).state)
    → (σ : Session) (left : ℕ) (rs : List Rec) → P σ → P (end_after (own_room 256 did_of) σ left rs)
run_keeps P k σ left [] p = p
run_keeps P k σ left (r ∷ rs) p = run_keeps P k (did_of σ 256 r).state (left - length (did_of σ 256 r).reply) rs (k σ 256 r p)

module _ (σ : Session) (rs : List Rec) (w : StateWf σ) (wf : SessionWf (live_end did_of σ rs)) where
  end_good : StateWf (live_end did_of σ rs)
  end_good = record {
    wf = wf;
    sized = run_keeps _ did_sized σ 256 rs w.sized;
    uncounted = run_keeps _ did_uncounted σ 256 rs w.uncounted;
  }

  given_back : state_in (state_bytes (live_end did_of σ rs)) ≡ Ok (live_end did_of σ rs)
  given_back = undoing.back (live_end did_of σ rs) end_good

  same_end : live_end did_of σ rs ≡ resumed_from σ rs
  same_end = sym (ap (λ (x : StateIn). session_in x) given_back)

pub by_bytes : CutByBytes
by_bytes = record {
  fresh = record { wf = record { gauge = no_gauge_wf }; sized = image_sized _ _ (length-replicate {A = ℕ} 60 0); uncounted = image_uncounted _ _ };
  back = given_back;
  on = λ σ rs w wf. subst StateWf (same_end σ rs w wf) (end_good σ rs w wf);
  lines = λ σ rs ts w wf.
      (resumed did_of).lines σ rs ts ∙ ap (λ (x : Session). live_lines did_of σ rs ++ live_lines did_of x ts) (same_end σ rs w wf);
  end = λ σ rs ts w wf. (resumed did_of).end σ rs ts ∙ ap (λ (x : Session). live_end did_of x ts) (same_end σ rs w wf);
}

-- ---- turn after turn

turn_good : (σ : Session) (t : LiveTurn) → StateWf σ → TurnDone σ t → StateWf t.after
turn_good σ t w d =
    let is = d.turning.state in
    subst StateWf (sym is) (end_good σ (wholes_in 1024 t.bytes) w (subst SessionWf is d.kept))

turns_good : (σ : Session) (ts : List LiveTurn) → StateWf σ → TurnsDone σ ts → StateWf (handed_on σ ts)
turns_good σ [] w d = w
turns_good σ (t ∷ ts) w d = turns_good t.after ts (turn_good σ t w d.0) d.1

turns_stand : (σ : Session) (ts : List LiveTurn) → TurnsDone σ ts → handed_on σ ts ≡ live_end did_of σ (turns_records ts)
turns_stand σ [] d = refl
turns_stand σ (t ∷ ts) d =
    turns_stand t.after ts d.1
    ∙ ap (λ (x : Session). live_end did_of x (turns_records ts)) d.0.turning.state
    ∙ sym ((resumed did_of).end σ (wholes_in 1024 t.bytes) (turns_records ts))

module _ (σ : Session) (ts : List LiveTurn) (w : StateWf σ) (d : TurnsDone σ ts) where
  turned_back : state_in (state_bytes (handed_on σ ts)) ≡ Ok (handed_on σ ts)
  turned_back = undoing.back (handed_on σ ts) (turns_good σ ts w d)

  -- the one run's end, and what the bytes give back
  same_turned : live_end did_of σ (turns_records ts) ≡ kept_from (handed_on σ ts)
  same_turned = sym (turns_stand σ ts d) ∙ sym (ap (λ (x : StateIn). session_in x) turned_back)

held_good : (file : List ℕ) → number_in (held_of file) ≡ 0 → StateWf (session_in (held_of file))
unfolding held_of
held_good file =
    picked (λ (x : StateIn). number_in x ≡ 0 → StateWf (session_in x)) (eqb (length file) 0) _ (state_in file)
    (λ e z. by_bytes.fresh) (λ e z. undoing.sound file z)

pub by_turns : CutByTurns
by_turns = record {
  started = held_good;
  good = turns_good;
  stands = turns_stand;
  back = turned_back;
  lines = λ σ ts rs w d.
      (resumed did_of).lines σ (turns_records ts) rs
      ∙ ap (λ (x : Session). live_lines did_of σ (turns_records ts) ++ live_lines did_of x rs) (same_turned σ ts w d);
  end = λ σ ts rs w d. (resumed did_of).end σ (turns_records ts) rs ∙ ap (λ (x : Session). live_end did_of x rs) (same_turned σ ts w d);
}

-- what is learnt of any call of `answered` is that its turn is done
pub answered_turn : (κs : Lfts (answered'.ended).signature.lifetimes) (a : Args (answered'.ended).signature κs) (r : Res (answered'.ended).signature κs)
    (w : Lasts answered'.ended κs a) → answered.Reads.Learnt κs a r (at_exit answered'.ended κs a w)
    → TurnDone a.0 (record {
      first = a.1.0;
      bytes = a.1.1.0.now;
      room = a.1.1.1.0.now;
      answers = a.1.1.1.1.0.now;
      out = a.1.1.1.1.1.0.now;
      after = r.session;
      lines = r.lines;
      used = r.used;
      said = r.said;
      replied = w.1.1.1.0;
      told = w.1.1.1.1.0;
      text = w.1.1.1.1.1.0;
    })
answered_turn κs a r w h = record { turning = h.0; kept = h.1.0 }

pub theorems : LiveTheorems
theorems = record { divided = read_by_read did_of idle; cut = resumed did_of; by_bytes = by_bytes; by_turns = by_turns }
