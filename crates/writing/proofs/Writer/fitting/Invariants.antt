use Rattle.std.proofs.Common.{◌≡◌}
use Rattle.writing.proofs.Numerals.{Numbering}
use Rattle.writing.proofs.Writer.fitting.Given as goal

abbrev pub invariant-loop-i : goal.invariant-loop-i
invariant-loop-i l = record {
  numbers : Numbering l.initial.self.buf.now l.at l.base l.count l.v l.self.buf.now l.i l.rest;
  named : l.self.buf.ghost_name ≡ l.initial.self.buf.ghost_name;
  lies : l.self.buf.ref_ptr ≡ l.initial.self.buf.ref_ptr;
}
