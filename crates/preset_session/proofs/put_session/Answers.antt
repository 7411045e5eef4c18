-- `preset_session::put_session` meets its contract: four records, one behind the other.
use mathlib.Core.Path.{refl, ◌∙◌}
use borrow.Author.Rules.{rules}
use Rattle.digits.proofs.Laws.{fronted}
use Rattle.digits.specs.Digits.{Appends}
use Rattle.preset_session.specs.PresetSession.{copy_payload, read_payload}
use Rattle.runs.specs.Record.{record_of}
use Rattle.preset_session.proofs.Laws.{four}
use Rattle.preset_session.proofs.put_session.Goals as goal

pub returns : goal.returns
returns c = let copied : Appends 8 (record_of 4 copy_payload) c.put_record-2.new.page c.put_record-3.new.page = c.put_record-3.ensures in
    let read_back : Appends 8 (record_of 4 read_payload) c.put_record-3.new.page c.put_record-4.new.page = c.put_record-4.ensures in
    search rules ∙ four c.args.image.now c.args.wanted.now c.requires.image_len c.requires.wanted_len c.requires.programming_size_in_bounds
    (fronted c.new-page.ensures c.put_record.ensures refl)
    (rw c.write_payload-writing.ensures at c.put_record-2.ensures).writing
    copied.writing
    read_back.writing
