-- The contracts of this crate's public functions leave no choice.
use mathlib.Core.Path.{refl, sym, ◌∙◌}
use mathlib.Core.Bool.{Bool}
use mathlib.Core.List.{List}
use Prim.Native.Nat.{ℕ}
use Rattle.std.specs.Prelude.{Result}
use denote.Ref.{MutBor}
use denote.Param.Laws.{Laws}
use denote.RattleType.{RattleType}
use mir.Syntax.{Dict}
use Rattle.numbers.specs.Once.{Once}
use Rattle.digits.proofs.Unique.{same}
use Rattle.record.specs.declared.Refusal.{Refusal}
use Rattle.gauge.specs.declared.Gauge.{Gauge}
use Rattle.runs.specs.declared.Runner.{Ghosts}
use Rattle.runs.specs.declared.WholeRunner.{Ghosts as WholeGhosts}
use Rattle.text.specs.Session.{GivesOut}
use Rattle.streams.proofs.Laws.{same_said, same_room}
use Rattle.text.proofs.put_fields
use Rattle.text.specs.contracts.put_fields as put_fields'
use Rattle.text.proofs.put_done
use Rattle.text.specs.contracts.put_done as put_done'
use Rattle.text.proofs.put_bare_end
use Rattle.text.specs.contracts.put_bare_end as put_bare_end'
use Rattle.text.proofs.put_end
use Rattle.text.specs.contracts.put_end as put_end'
use Rattle.text.proofs.put_codes
use Rattle.text.specs.contracts.put_codes as put_codes'
use Rattle.text.proofs.put_header
use Rattle.text.specs.contracts.put_header as put_header'
use Rattle.text.proofs.report
use Rattle.text.specs.contracts.report as report'
use Rattle.text.proofs.put_unrun
use Rattle.text.specs.contracts.put_unrun as put_unrun'
use Rattle.text.proofs.put_meaning
use Rattle.text.specs.contracts.put_meaning as put_meaning'
use Rattle.text.proofs.put_session
use Rattle.text.specs.contracts.put_session as put_session'
use Rattle.text.proofs.put_taken
use Rattle.text.specs.contracts.put_taken as put_taken'
use Rattle.text.proofs.put_no_image
use Rattle.text.specs.contracts.put_no_image as put_no_image'

pub put_fields_once : Once put_fields'.ended put_fields.Reads.Pre put_fields.Reads.Learnt
put_fields_once κs a r r' w w' p h h' = (refl, λ i. (tt, (tt, (tt, (same h h' i, tt)))))

pub put_done_once : Once put_done'.ended put_done.Reads.Pre put_done.Reads.Learnt
put_done_once κs a r r' w w' p h h' = (refl, λ i. (tt, (tt, (same h h' i, tt))))

pub put_bare_end_once : Once put_bare_end'.ended put_bare_end.Reads.Pre put_bare_end.Reads.Learnt
put_bare_end_once κs a r r' w w' p h h' = (refl, λ i. (same h h' i, tt))

pub put_end_once : Once put_end'.ended put_end.Reads.Pre put_end.Reads.Learnt
put_end_once κs a r r' w w' p h h' = (refl, λ i. (tt, (tt, (same h h' i, tt))))

pub put_codes_once : Once put_codes'.ended put_codes.Reads.Pre put_codes.Reads.Learnt
put_codes_once κs a r r' w w' p h h' = (refl, λ i. (tt, (tt, (tt, (same h h' i, tt)))))

pub put_header_once : Once put_header'.ended put_header.Reads.Pre put_header.Reads.Learnt
put_header_once κs a r r' w w' p h h' = (refl, λ i. (same h h' i, tt))

pub report_once : Once report'.ended report.Reads.Pre report.Reads.Learnt
report_once κs a r r' w w' p h h' = (h.counted ∙ sym h'.counted, λ i. (tt, (tt, (tt, ((h.written ∙ sym h'.written) i, tt)))))

pub put_unrun_once : Once put_unrun'.ended put_unrun.Reads.Pre put_unrun.Reads.Learnt
put_unrun_once κs a r r' w w' p h h' = (same_said h h', λ i. (tt, (same_room h h' i, tt)))

pub put_meaning_once : Once put_meaning'.ended put_meaning.Reads.Pre put_meaning.Reads.Learnt
put_meaning_once κs a r r' w w' p h h' = (refl, λ i. (tt, (same h h' i, tt)))

pub put_no_image_once : Once put_no_image'.ended put_no_image.Reads.Pre put_no_image.Reads.Learnt
put_no_image_once κs a r r' w w' p h h' = (same_said h h', λ i. (tt, (tt, (tt, (tt, (same_room h h' i, tt))))))

-- of any runner
pub put_session_once : (R : RattleType) (S : RattleType) (l : Laws R) (m : Laws S) (o : WholeGhosts R.Denot S.Denot) (d : Dict) (g : Ghosts R.Denot S.Denot)
    (e : Dict) (b : Dict) → Once (put_session'.ended R S o d g e b) (put_session.Reads.Pre R S l m o d g e b) (put_session.Reads.Learnt R S l m o d g e b)
put_session_once R S l m o d g e b κs a r r' w w' p h h' = (same_said h h', λ i. (tt, (same_room h h' i, tt)))

-- and of what takes an image out, where that leaves no choice
pub record Taking (S : Type 0) (post : S → MutBor (List ℕ) → Result ℕ Refusal → MutBor (List ℕ) → Type 0) : Type 0 where
  pub held : S → Bool
  pub gauge : S → Gauge
  pub gives : GivesOut post held gauge

pub put_taken_once : (R : RattleType) (F : RattleType) (S : RattleType) (l : Laws R) (k : Laws F) (m : Laws S) (o : WholeGhosts R.Denot S.Denot) (d : Dict)
    (g : Ghosts R.Denot S.Denot) (e : Dict) (call : put_taken'.F-FnOnce.Ghosts R F S) (b : Dict) (f : Dict) (x : Dict)
    → Once (put_taken'.ended R F S o d g e call b f x)
    (λ κs a. put_taken.Reads.Pre R F S l k m o d g e call b f x κs a × Taking S.Denot ((put_taken'.F-FnOnce.words R F S call).post a.1.1.1.0))
    (put_taken.Reads.Learnt R F S l k m o d g e call b f x)
put_taken_once R F S l k m o d g e call b f x κs a r r' w w' p h h' =
    let y = h p.1.held p.1.gauge p.1.gives in
    let z = h' p.1.held p.1.gauge p.1.gives in
    (same_said y z, λ i. (tt, (tt, (same_room y z i, (tt, tt)))))
