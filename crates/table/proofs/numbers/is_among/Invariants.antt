use lib.Dec.{eqb}
use Rattle.table.proofs.NumberLaws.{Noting}
use Rattle.table.proofs.numbers.is_among.Given as goal

abbrev pub invariant-loop-m : goal.invariant-loop-m
invariant-loop-m l = Noting (λ m. eqb m l.n) l.ns l.found l.m-index
