use Rattle.std.proofs.Common.{ne_eqb}
use Rattle.writing.proofs.Writes.{◌then◌}
use Rattle.answer.proofs.put_options.Goals as goal

pub returns : goal.returns
returns c = rw (ne_eqb _ _ c.if-session-eq0.false) (c.put_session.ensures then c.text-2.ensures)
