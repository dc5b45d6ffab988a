use Rattle.table.proofs.Sets.{Looking}
use Rattle.table.proofs.reach.are_sets.Given as goal

abbrev pub invariant-loop-i : goal.invariant-loop-i
invariant-loop-i l = Looking l.reach l.frontends l.sound l.i
