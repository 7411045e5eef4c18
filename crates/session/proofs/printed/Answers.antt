-- `session::printed` meets its contract: the text of what was read is the text of the whole input.
use Rattle.runs.specs.SessionRecord.{did_of}
use Rattle.session_run.specs.SessionRun.{empty_of, session_of}
use Rattle.text.specs.Session.{session_speech}
use Rattle.text.proofs.Printed.{session_alike}
use Rattle.session.proofs.printed.Goals as goal

pub returns : goal.returns
unfolding session_of
returns c =
    record {
      by_index = c.put_answer.ensures.by_index (session_speech did_of empty_of) (λ bytes room said after told. told)
          (rw c.requires.input_room (session_alike did_of empty_of));
    }
