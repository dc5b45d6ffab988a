use Prim.Native.Nat.{◌+◌, ◌-◌}
use lib.ListN.{length}
use Rattle.scan.specs.Found.{in_class}
use Rattle.scan.specs.declared.Class.TheVariants.{Is}
use Rattle.scan.proofs.Loops.{Seeking}
use Rattle.scan.proofs.first_is.Given as goal

abbrev pub invariant-loop-i : goal.invariant-loop-i
invariant-loop-i l = Seeking (in_class (Is l.x)) l.s (l.at + l.i)

abbrev pub invariant-loop-at : goal.invariant-loop-at
invariant-loop-at l = Seeking (in_class (Is l.x)) l.s l.at

abbrev pub decreases-loop-at : goal.decreases-loop-at
decreases-loop-at l = length l.s - l.at
