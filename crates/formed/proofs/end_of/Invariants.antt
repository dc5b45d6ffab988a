use Rattle.std.specs.Slice.Exact.{rchunks_exact_rest, rchunks_exact_size}
use Rattle.formed.proofs.Vacant.{Cleared}
use Rattle.formed.proofs.end_of.Given as goal

abbrev pub invariant-loop-eight : goal.invariant-loop-eight
invariant-loop-eight l = Cleared l.sessions (rchunks_exact_rest l.eight-iterator) (rchunks_exact_size l.eight-iterator) l.end
