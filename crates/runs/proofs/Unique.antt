-- The contracts of this crate's public functions leave no choice.
use mathlib.Core.Path.{refl, sym, ◌∙◌}
use denote.Param.Laws.{Laws}
use denote.RattleType.{RattleType}
use lib.ListN.{length}
use mir.Syntax.{Dict}
use Rattle.numbers.specs.Once.{Once}
use Rattle.digits.proofs.Unique.{same}
use Rattle.runs.specs.Run.{outcome_of, result_of}
use Rattle.runs.specs.declared.Runner.{Ghosts}
use Rattle.runs.proofs.Ends.{ran_same, runs_same}
use Rattle.runs.proofs.outcome_number
use Rattle.runs.specs.contracts.outcome_number as outcome_number'
use Rattle.runs.proofs.outcome_of
use Rattle.runs.specs.contracts.outcome_of as outcome_of'
use Rattle.runs.proofs.whole
use Rattle.runs.specs.contracts.whole as whole'
use Rattle.runs.proofs.span
use Rattle.runs.specs.contracts.span as span'
use Rattle.runs.proofs.put_record
use Rattle.runs.specs.contracts.put_record as put_record'
use Rattle.runs.proofs.code
use Rattle.runs.specs.contracts.code as code'
use Rattle.runs.proofs.refused
use Rattle.runs.specs.contracts.refused as refused'
use Rattle.runs.proofs.read_off
use Rattle.runs.specs.contracts.read_off as read_off'
use Rattle.runs.proofs.run
use Rattle.runs.specs.contracts.run as run'
use Rattle.runs.proofs.step
use Rattle.runs.specs.contracts.step as step'
use Rattle.runs.proofs.front
use Rattle.runs.specs.contracts.front as front'

pub outcome_number_once : Once outcome_number'.ended outcome_number.Reads.Pre outcome_number.Reads.Learnt
outcome_number_once κs a r r' w w' p h h' = (h ∙ sym h', refl)

pub outcome_of_once : Once outcome_of'.ended outcome_of.Reads.Pre outcome_of.Reads.Learnt
outcome_of_once κs a r r' w w' p h h' = (h ∙ sym h', refl)

pub whole_once : Once whole'.ended whole.Reads.Pre whole.Reads.Learnt
whole_once κs a r r' w w' p h h' = (h ∙ sym h', refl)

pub span_once : Once span'.ended span.Reads.Pre span.Reads.Learnt
span_once κs a r r' w w' p h h' = (h ∙ sym h', refl)

pub put_record_once : Once put_record'.ended put_record.Reads.Pre put_record.Reads.Learnt
put_record_once κs a r r' w w' p h h' = (refl, λ i. (tt, (tt, (same h h' i, tt))))

pub code_once : Once code'.ended code.Reads.Pre code.Reads.Learnt
code_once κs a r r' w w' p h h' = (h ∙ sym h', refl)

pub refused_once : Once refused'.ended refused.Reads.Pre refused.Reads.Learnt
refused_once κs a r r' w w' p h h' = (h ∙ sym h', refl)

pub read_off_once : Once read_off'.ended read_off.Reads.Pre read_off.Reads.Learnt
read_off_once κs a r r' w w' p h h' = (h ∙ sym h', refl)

pub front_once : Once front'.ended front.Reads.Pre front.Reads.Learnt
front_once κs a r r' w w' p h h' = (h ∙ sym h', refl)

-- of any runner
pub run_once : (R : RattleType) (S : RattleType) (l : Laws R) (m : Laws S) (g : Ghosts R.Denot S.Denot) (d : Dict)
    → Once (run'.ended R S g d) (run.Reads.Pre R S l m g d) (run.Reads.Learnt R S l m g d)
run_once R S l m g d κs a r r' w w' p h h' =
    let o = outcome_of (length a.0.now) in
    let e =
    runs_same g.did g.first a.0.now a.1.0.now a.1.1.0.now (result_of r) (result_of r') w.1.0 w'.1.0 w.1.1.0 w'.1.1.0
    o h h' in
    (ran_same _ _ e.0, λ i. (tt, (e.1 i, (e.2 i, tt))))

pub step_once : (R : RattleType) (S : RattleType) (l : Laws R) (m : Laws S) (g : Ghosts R.Denot S.Denot) (d : Dict)
    → Once (step'.ended R S g d) (step.Reads.Pre R S l m g d) (step.Reads.Learnt R S l m g d)
step_once R S l m g d κs a r r' w w' p h h' =
    let state = h.0.state ∙ sym h'.0.state in
    let answer = h.0.answered ∙ sym h'.0.answered in
    let replied = h.0.counted ∙ sym h'.0.counted in
    ((λ i. record { state = state i; answer = answer i; replied = replied i }), λ i. (tt, (tt, ((h.0.written ∙ sym h'.0.written) i, tt))))
