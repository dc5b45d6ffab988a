use Rattle.stream.proofs.Arrays.{Zeros}
use Rattle.stream.proofs.pids.are_zeros.Given as goal

abbrev pub invariant-loop-p : goal.invariant-loop-p
invariant-loop-p l = Zeros l.pids l.p-index l.zero
