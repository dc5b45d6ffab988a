use Rattle.formed.proofs.Rows.{Sounding}
use Rattle.formed.proofs.are_sound.Given as goal

abbrev pub invariant-loop-k : goal.invariant-loop-k
invariant-loop-k l = Sounding l.settings l.streams l.feeds l.k
