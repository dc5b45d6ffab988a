use Rattle.writing.proofs.Writes.{puts_none}
use Rattle.answer.proofs.put_lines.Goals as goal

pub returns-in-Bare : goal.returns-in-Bare
returns-in-Bare c = rw c.in-Bare.is (puts_none _)

pub returns-in-Allow : goal.returns-in-Allow
returns-in-Allow c = rw c.in-Allow.is c.text.ensures

pub returns-in-Public : goal.returns-in-Public
returns-in-Public c = rw c.in-Public.is c.text-in-Public.ensures

pub returns-in-Unsupported : goal.returns-in-Unsupported
returns-in-Unsupported c = rw (c.in-Unsupported.is, ← c.part.ensures) c.put_unsupported.ensures

pub returns-in-Play : goal.returns-in-Play
returns-in-Play c = rw (c.in-Play.is, ← c.part-in-Play.ensures) c.put_play.ensures
