-- `image::put_taken` meets its contract.
use Rattle.image.specs.Image.{session_at_end, session_image_speech}
use Rattle.image.proofs.put_taken.Goals as goal

pub returns : goal.returns
unfolding session_image_speech session_at_end
returns c = c.put_taken.ensures (λ σ. σ.loaded) (λ σ. σ.gauge) (λ σ room taken after told. record { value = told.0; written = told.1.written })
