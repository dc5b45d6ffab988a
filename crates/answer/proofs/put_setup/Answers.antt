use Rattle.writing.proofs.Writes.{◌then◌}
use Rattle.answer.proofs.put_setup.Goals as goal

pub returns : goal.returns
returns c = c.put_session.ensures
    then c.put_transport.ensures
    then c.put_numbered.ensures
