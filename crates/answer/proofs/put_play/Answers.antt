use Rattle.writing.proofs.Writes.{◌then◌}
use Rattle.answer.proofs.put_play.Goals as goal

pub returns : goal.returns
returns c = c.put_session.ensures
    then c.text.ensures
    then c.text-2.ensures
    then c.put_numbered.ensures
