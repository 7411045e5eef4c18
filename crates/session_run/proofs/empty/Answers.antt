use Rattle.session_run.proofs.empty.Goals as goal

pub returns : goal.returns
returns c = record { value = simp c.image_in-gauge.ensures.value; kept = record { gauge = c.image_in-gauge.ensures.kept } }
