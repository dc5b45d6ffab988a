use Rattle.std.proofs.Common.{take}
use Rattle.writing.specs.Wrote.{Puts}
use Rattle.script.specs.Lines.{unfolded}
use Rattle.script.proofs.put_unfolded.Given as goal

abbrev pub invariant-loop-b : goal.invariant-loop-b
invariant-loop-b l = Puts l.initial.w (unfolded (take l.b-index l.s)) l.w
