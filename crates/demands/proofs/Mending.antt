-- Mended images, proved: the first record of a session, which the judge of `mending` accepts.
use mathlib.Core.Path.{◌≡◌, sym, ap, ◌∙◌}
use mathlib.Core.List.{List, ◌∷◌}
use Prim.Native.Nat.{ℕ}
use native.Mathlib.Nat.{sub-zero}
use lib.ListN.{length, take, replicate}
use Rattle.state.specs.declared.Profile.TheVariants.{Ds2781}
use Rattle.gauge.specs.Image.{image_of}
use Rattle.record.specs.Image.{image_size}
use Rattle.mending.specs.Worth.{Accepted}
use Rattle.mending.proofs.Worth.{accepted, by_call}
use Rattle.mending.proofs.Example.{damaged, damaged_refused, mendable_met, sound_met, done_met}
use Rattle.mending.proofs.Example as example
use Rattle.runs.specs.Record.{whole, recs_of}
use Rattle.runs.specs.Run.{silently}
use Rattle.runs.proofs.Records.{recs_record}
use Rattle.runs.specs.declared.Session.{Session}
use Rattle.runs.specs.SessionRecord.{loaded_with, did_of}
use Rattle.session_run.specs.SessionRun.{empty_of}
use Rattle.demands.specs.Call.{Call}
use Rattle.demands.specs.Mending.{MendedFirst, MendedTheorem, MendingMet}
use Rattle.demands.proofs.Choice.{contrary}
use Rattle.demands.proofs.Moments.{tells}
use Rattle.demands.proofs.Demand2.{did_image}

module _ {image room after rest : List ℕ} {c : Call Session} (f : MendedFirst image room after rest c) where
  abbrev p : List ℕ
  p = take image_size after

  taken : Accepted p
  taken = let d = by_call image room after f.mended in rw d.1 (accepted image d.0).1

  does : did_of empty_of (length c.room) (whole 1 p) ≡ silently (loaded_with (image_of Ds2781 p)) 0
  does = did_image Ds2781 p (length c.room) taken

  records : recs_of c.bytes ≡ whole 1 p ∷ recs_of rest
  records = ap recs_of f.session ∙ recs_record 1 p rest

pub mended_first : MendedTheorem
mended_first image room after rest c f = record { told = tells did_of empty_of f.run; lines = rw (records f) (simp (does f, sub-zero)) }

-- THE HYPOTHESES CAN BE MET
pub mending_met : MendingMet
mending_met = record {
  damaged = damaged;
  sound = example.whole;
  refused = λ e. let z = sym damaged_refused ∙ e in contrary cc;
  mendable = mendable_met;
  room = replicate 60 0;
  mended = done_met;
  is_sound = sound_met;
}
