use Rattle.stream.proofs.Arrays.{Ascending}
use Rattle.stream.proofs.pids.is_padded.Given as goal

abbrev pub invariant-loop-p : goal.invariant-loop-p
invariant-loop-p l = Ascending l.pids l.count l.least l.p-index
