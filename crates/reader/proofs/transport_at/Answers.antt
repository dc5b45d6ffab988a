use mathlib.Core.Path.{sym}
use Rattle.reader.proofs.RequestLaws.{first_transport}
use Rattle.reader.proofs.transport_at.Goals as goal

pub returns-in_err-value : goal.returns-in_err-value
returns-in_err-value c = rw c.from_residual.ensures (first_transport c.args.s.now c.args.seen (sym c.in_err-value.ensures))
