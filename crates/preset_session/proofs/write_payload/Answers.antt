-- `preset_session::write_payload` meets its contract.
use mathlib.Core.Path.{refl, ap, ◌∙◌}
use mathlib.Core.List.{List}
use Prim.Native.Nat.{ℕ}
use lib.ListN.{replicate}
use Rattle.slices.specs.Slices.{put}
use Rattle.preset_session.proofs.Laws.{write_laid}
use Rattle.preset_session.proofs.write_payload.Goals as goal

pub returns : goal.returns
returns c = let wanted = c.args.wanted.now in
    c.store.ensures
    ∙ ap (λ (l : List ℕ). put l 4 wanted) c.store_array.ensures.written
    ∙ write_laid wanted (replicate 36 0) c.requires refl
