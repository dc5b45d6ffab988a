use Prim.Native.Nat.{◌+◌, ◌-◌}
use denote.Param.{number}
use Rattle.stream.specs.contracts.list.PidList.obey_all.{EDIT-type}
use lib.ListN.{length}
use Rattle.stream.specs.Arrays.{edit_of}
use Rattle.stream.proofs.Texts.{Obeying}
use Rattle.stream.proofs.list.PidList.obey_all.Given as goal

abbrev pub invariant-loop-p : goal.invariant-loop-p
invariant-loop-p g l = Obeying (edit_of (EDIT-type (number g.row.EDIT))) l.text l.initial.self l.self l.p

abbrev pub decreases-loop-p : goal.decreases-loop-p
decreases-loop-p g l = length l.text + 1 - l.p
