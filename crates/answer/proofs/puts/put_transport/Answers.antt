use Rattle.writing.proofs.Writes.{◌then◌}
use Rattle.answer.proofs.puts.put_transport.Goals as goal

pub returns : goal.returns
returns c = c.text.ensures
    then c.dotted.ensures
    then c.text-2.ensures
    then c.decimal.ensures
    then c.put_numbered.ensures
