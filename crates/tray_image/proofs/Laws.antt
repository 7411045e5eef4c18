-- A session that is over 32,768 bytes: its bytes do not matter.
use mathlib.Core.Path.{ap}
use mathlib.Core.List.{List}
use Prim.Native.Nat.{ℕ}
use Rattle.numbers.specs.Choice.{pick}
use Rattle.streams.specs.Streams.{Speech, error}
use Rattle.streams.specs.Work.{AlikeFrom}
use Rattle.tray_record.specs.Tray.{empty_tray, tray_did}
use Rattle.text.proofs.Printed.{out_alike}
use Rattle.tray_run.specs.TrayRun.{named_held, named_pack}
use Rattle.tray_image.specs.TrayImage.{is_number, slot_of, no_number_text, slot_words, tray_at_end, tray_image_speech, word_speech}

pub alike : (word : List ℕ) → AlikeFrom 32769 (word_speech word)
unfolding word_speech tray_image_speech tray_at_end
alike word s s' long long' =
    ap (λ (said : Speech). pick (is_number word) said (error no_number_text))
    (out_alike tray_did empty_tray (named_held (slot_of word)) (named_pack (slot_of word)) slot_words s s' long long')
