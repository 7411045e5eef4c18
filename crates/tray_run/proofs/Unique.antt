-- The contracts of this crate's public functions leave no choice.
use mathlib.Core.Path.{refl, sym, ◌∙◌}
use lib.ListN.{length}
use Rattle.numbers.specs.Once.{Once}
use Rattle.runs.specs.declared.Outcome.TheVariants.{Done}
use Rattle.runs.specs.Run.{outcome_of, result_of}
use Rattle.runs.proofs.Ends.{ran_same, runs_same}
use Rattle.tray_record.specs.Tray.{empty_tray, tray_did}
use Rattle.tray_run.proofs.TrayRunnerRunner.start
use Rattle.tray_run.specs.contracts.TrayRunnerRunner.start as start'
use Rattle.tray_run.proofs.TrayRunnerRunner.run_on as runner_run_on
use Rattle.tray_run.specs.contracts.TrayRunnerRunner.run_on as runner_run_on'
use Rattle.tray_run.proofs.TrayRunnerWholeRunner.run as runner_run
use Rattle.tray_run.specs.contracts.TrayRunnerWholeRunner.run as runner_run'
use Rattle.tray_run.proofs.run
use Rattle.tray_run.specs.contracts.run as run'
use Rattle.tray_run.proofs.run_on
use Rattle.tray_run.specs.contracts.run_on as run_on'
use Rattle.tray_run.proofs.step
use Rattle.tray_run.specs.contracts.step as step'
use Rattle.tray_run.proofs.take_out
use Rattle.tray_run.specs.contracts.take_out as take_out'
use Rattle.tray_run.proofs.image_size
use Rattle.tray_run.specs.contracts.image_size as image_size'

pub run_once : Once run'.ended run.Reads.Pre run.Reads.Learnt
run_once κs a r r' w w' p h h' =
    let o = outcome_of (length a.0.now) in
    let e =
    runs_same tray_did empty_tray a.0.now a.1.0.now a.1.1.0.now (result_of r) (result_of r') w.1.0 w'.1.0 w.1.1.0
    w'.1.1.0 o h h' in
    (ran_same _ _ e.0, λ i. (tt, (e.1 i, (e.2 i, tt))))

pub run_on_once : Once run_on'.ended run_on.Reads.Pre run_on.Reads.Learnt
run_on_once κs a r r' w w' p h h' =
    let e =
    runs_same tray_did a.0 a.1.0.now a.1.1.0.now a.1.1.1.0.now (result_of r) (result_of r') w.1.1.0 w'.1.1.0
    w.1.1.1.0 w'.1.1.1.0 Done h.0 h'.0 in
    (ran_same _ _ e.0, λ i. (tt, (tt, (e.1 i, (e.2 i, tt)))))

pub start_once : Once start'.ended start.Reads.Pre start.Reads.Learnt
start_once κs a r r' w w' p h h' = (h.0 ∙ sym h'.0, refl)

pub runner_run_on_once : Once runner_run_on'.ended runner_run_on.Reads.Pre runner_run_on.Reads.Learnt
runner_run_on_once κs a r r' w w' p h h' =
    let e =
    runs_same tray_did a.0 a.1.0.now a.1.1.0.now a.1.1.1.0.now (result_of r) (result_of r') w.1.1.0 w'.1.1.0
    w.1.1.1.0 w'.1.1.1.0 Done h.0 h'.0 in
    (ran_same _ _ e.0, λ i. (tt, (tt, (e.1 i, (e.2 i, tt)))))

pub runner_run_once : Once runner_run'.ended runner_run.Reads.Pre runner_run.Reads.Learnt
runner_run_once κs a r r' w w' p h h' =
    let o = outcome_of (length a.0.now) in
    let e =
    runs_same tray_did empty_tray a.0.now a.1.0.now a.1.1.0.now (result_of r) (result_of r') w.1.0 w'.1.0 w.1.1.0
    w'.1.1.0 o h h' in
    (ran_same _ _ e.0, λ i. (tt, (e.1 i, (e.2 i, tt))))

pub step_once : Once step'.ended step.Reads.Pre step.Reads.Learnt
step_once κs a r r' w w' p h h' =
    let state = h.0.state ∙ sym h'.0.state in
    let answer = h.0.answered ∙ sym h'.0.answered in
    let replied = h.0.counted ∙ sym h'.0.counted in
    ((λ i. record { state = state i; answer = answer i; replied = replied i }), λ i. (tt, (tt, ((h.0.written ∙ sym h'.0.written) i, tt))))

pub take_out_once : Once take_out'.ended take_out.Reads.Pre take_out.Reads.Learnt
take_out_once κs a r r' w w' p h h' = (h.0 ∙ sym h'.0, λ i. (tt, (tt, ((h.1.written ∙ sym h'.1.written) i, tt))))

pub image_size_once : Once image_size'.ended image_size.Reads.Pre image_size.Reads.Learnt
image_size_once κs a r r' w w' p h h' = (h ∙ sym h', refl)
