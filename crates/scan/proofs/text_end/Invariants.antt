use Prim.Native.Nat.{◌*◌}
use Rattle.scan.specs.Found.{in_class}
use Rattle.scan.specs.declared.Class.TheVariants.{NotText}
use Rattle.scan.proofs.Loops.{Seeking}
use Rattle.scan.proofs.text_end.Given as goal

abbrev pub invariant-loop-i : goal.invariant-loop-i
invariant-loop-i l = Seeking (in_class NotText) l.s (16 * l.i)
