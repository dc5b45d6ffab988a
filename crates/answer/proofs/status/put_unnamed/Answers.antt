use Rattle.writing.proofs.Writes.{◌then◌}
use Rattle.answer.proofs.status.put_unnamed.Goals as goal

pub returns : goal.returns
returns c = c.text.ensures
    then c.decimal.ensures
    then c.text-2.ensures
