use Prim.Native.Nat.{◌+◌, ◌-◌}
use lib.ListN.{length}
use Rattle.aim.proofs.QueryLaws.{Asking}
use Rattle.aim.proofs.query.read_query.Given as goal

abbrev pub invariant-loop-p : goal.invariant-loop-p
invariant-loop-p l = Asking l.frontends l.q l.p l.codes l.spans l.within

abbrev pub decreases-loop-p : goal.decreases-loop-p
decreases-loop-p l = length l.q + 1 - l.p
