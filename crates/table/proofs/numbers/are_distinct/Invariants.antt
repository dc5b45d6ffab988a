use Rattle.table.proofs.NumberLaws.{Apart}
use Rattle.table.proofs.numbers.are_distinct.Given as goal

abbrev pub invariant-loop-i : goal.invariant-loop-i
invariant-loop-i l = Apart l.ns l.i
