use Rattle.writing.proofs.Writes.{◌then◌}
use Rattle.writing.proofs.Numerals.{dotted_octets}
use Rattle.writing.proofs.Writer.dotted.Goals as goal

pub returns : goal.returns
returns c = rw (dotted_octets c.args.address)
    (c.decimal.ensures
    then c.text.ensures
    then c.decimal-2.ensures
    then c.text-2.ensures
    then c.decimal-3.ensures
    then c.text-3.ensures
    then c.decimal-4.ensures)
