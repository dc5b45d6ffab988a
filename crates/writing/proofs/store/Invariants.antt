use Rattle.writing.proofs.Writes.{Storing}
use Rattle.writing.proofs.store.Given as goal

abbrev pub invariant-loop-i : goal.invariant-loop-i
invariant-loop-i l = record { stored : Storing l.initial.buf l.at l.t l.buf l.i }
