use mathlib.Core.Path.{sym, ◌∙◌}
use native.Mathlib.Omega.{arith}
use Rattle.runs.proofs.Ends.{done_within}
use Rattle.runs.proofs.run.Goals as goal

pub run_all-requires : goal.run_all-requires
run_all-requires g c = let within = done_within _ (sym c.outcome_of.ensures ∙ c.in-Done.is) in
    record { bytes_len_bound = within; bytes_in_bounds = omega (arith, within) }
