use Rattle.std.proofs.Common.{◌-◌}
use Rattle.writing.proofs.Numerals.{Numbering}
use Rattle.writing.proofs.Writer.digits.Given as goal

abbrev pub invariant-loop : goal.invariant-loop
invariant-loop l = Numbering l.self.buf.now l.at l.base l.count l.v l.self.buf.now (l.count - (l.counter - (l.len - l.at))) l.rest
