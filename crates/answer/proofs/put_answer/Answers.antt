use Rattle.std.proofs.Common.{append_assoc}
use Rattle.writing.proofs.Writes.{◌then◌}
use Rattle.writing.specs.Writing.{decimal}
use Rattle.answer.proofs.put_answer.Goals as goal

pub returns : goal.returns
returns c = rw (append_assoc (decimal _)) at
    (c.put_status.ensures
    then c.put_cseq.ensures
    then c.put_lines.ensures
    then c.text.ensures)
