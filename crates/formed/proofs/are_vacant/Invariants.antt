use Rattle.formed.proofs.Vacant.{Looked}
use Rattle.formed.proofs.are_vacant.Given as goal

abbrev pub invariant-loop-s : goal.invariant-loop-s
invariant-loop-s l = Looked l.sessions l.s-index l.vacant
