-- `hex_out::exported` meets its contract: what is said of what was read is what is said of the two files.
use Rattle.hex_out.specs.HexOut.{hex_out_speech}
use Rattle.hex_out.proofs.Laws.{alike}
use Rattle.hex_out.proofs.exported.Goals as goal

pub returns : goal.returns
returns c =
    record {
      by_index = c.put_answer_of_two.ensures.by_index hex_out_speech (λ one other room said after told. told)
          (rw (c.requires.pack_room, c.requires.factory_room) alike);
    }
