-- `text::put_taken` meets its contract.
use mathlib.Core.Path.{sym}
use mathlib.Core.List.{◌++◌}
use Prim.Native.Nat.{ℕ}
use native.Mathlib.Omega.{arith}
use lib.ListN.{replicate, length-replicate}
use Rattle.runs.specs.Run.{result_of}
use Rattle.text.specs.Text.{pack_speech}
use Rattle.text.proofs.AtEnd.{AtEnd, at_end, done_said}
use Rattle.text.proofs.put_taken.Goals as goal

pub returns-in-Done : goal.returns-in-Done
returns-in-Done g c held gauge gives =
    let did = g.R.Runner.did in
    let start = g.R.Runner.first in
    let run = c.run-ran in
    let end = run.result.state in
    let room = c.args.room.now in
    let ending : AtEnd did start c.args.bytes.now (result_of run.result) run.new.answers =
    at_end did start _ (result_of run.result) run.new.answers (replicate 65536 0) (replicate 8192 0) run.new.room g.met.R.Runner.laws.fits
    (λ i. (c.type_inv.bytes i).fits) (sym (length-replicate {A = ℕ} 8192 0)) (sym (length-replicate {A = ℕ} 65536 0)) run.ensures in
    let said = c.put_out.ensures (held end) (gauge end) room (gives _ _ _ _ c.take-taken.ensures) (omega (arith, c.requires.words_in_bounds))
    c.take-taken.auto.arg3 in
    done_said did start (λ σ first. pack_speech (held σ) (gauge σ) (c.args.words.now ++ first)) _ _ ending c.in-Done.is said
