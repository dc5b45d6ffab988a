use Rattle.writing.proofs.Writes.{◌then◌}
use Rattle.answer.proofs.puts.put_unsupported.Goals as goal

pub returns : goal.returns
returns c = c.text.ensures
    then c.text-2.ensures
    then c.text-3.ensures
