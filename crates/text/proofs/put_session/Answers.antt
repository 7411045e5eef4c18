-- `text::put_session` meets its contract: what is reported of what was run is the text of the session.
use mathlib.Core.Path.{refl, sym}
use Prim.Native.Nat.{ℕ}
use lib.ListN.{replicate, length-replicate}
use Rattle.runs.specs.Run.{result_of}
use Rattle.text.specs.Text.{run_text}
use Rattle.text.proofs.Printed.{session_text_lem}
use Rattle.text.proofs.put_session.Goals as goal

pub returns : goal.returns
unfolding run_text
returns g c =
    let run = c.run-ran in
    let reported =
    session_text_lem g.R.Runner.did g.R.Runner.first g.met.R.Runner.laws.fits c.args.bytes.now (replicate 65536 0) (replicate 8192 0)
    (result_of run.result) run.new.room run.new.answers (λ i. (c.type_inv.bytes i).fits) (sym (length-replicate {A = ℕ} 8192 0))
    (sym (length-replicate {A = ℕ} 65536 0)) run.ensures c.requires c.report-count.ensures in
    record { stream = refl; counted = reported.counted; written = reported.written }
