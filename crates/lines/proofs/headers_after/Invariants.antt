use Prim.Native.Nat.{◌+◌, ◌-◌}
use lib.ListN.{length, drop}
use Rattle.lines.specs.Lines.{lines}
use Rattle.lines.proofs.SeenLaws.{Noting}
use Rattle.lines.proofs.headers_after.Given as goal

abbrev pub invariant-loop-end : goal.invariant-loop-end
invariant-loop-end l = Noting l.s (lines (drop (l.line + 2) l.s)) (l.line + 2) l.from l.headers

abbrev pub decreases-loop-end : goal.decreases-loop-end
decreases-loop-end l = length l.s - l.from
