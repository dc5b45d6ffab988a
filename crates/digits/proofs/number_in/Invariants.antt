use Rattle.digits.proofs.Spelling.{Spelling}
use Rattle.digits.proofs.number_in.Given as goal

abbrev pub invariant-loop-b : goal.invariant-loop-b
invariant-loop-b l = Spelling l.base l.most l.limit l.s l.b-index l.v
