use Rattle.formed.proofs.Rows.{Owning}
use Rattle.formed.proofs.are_owned.Given as goal

abbrev pub invariant-loop-id : goal.invariant-loop-id
invariant-loop-id l = Owning l.feeds l.owners l.id l.owned
