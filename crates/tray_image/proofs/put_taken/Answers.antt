-- `tray_image::put_taken` meets its contract.
use Rattle.tray_run.specs.TrayRun.{named_held, named_pack}
use Rattle.tray_image.specs.TrayImage.{tray_at_end, tray_image_speech}
use Rattle.tray_image.proofs.put_taken.Goals as goal

pub returns : goal.returns
unfolding tray_image_speech tray_at_end
returns c = c.put_taken.ensures (named_held c.args.slot) (named_pack c.args.slot) (λ tray room taken after told. told)
