use Rattle.formed.proofs.Seating.{Seating}
use Rattle.formed.proofs.seats_of.Given as goal

abbrev pub invariant-loop-s : goal.invariant-loop-s
invariant-loop-s l = Seating l.clock l.feeds l.sessions l.s-index l.numbers l.owners l.opens l.oldest
