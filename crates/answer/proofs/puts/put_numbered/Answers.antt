use Rattle.writing.proofs.Writes.{◌then◌}
use Rattle.answer.proofs.puts.put_numbered.Goals as goal

pub returns : goal.returns
returns c = c.text.ensures
    then c.decimal.ensures
    then c.text-2.ensures
