use Rattle.stream.proofs.Merges.{chosen_edited, chosen_replaced}
use Rattle.stream.proofs.pids.choose.Goals as goal

pub returns-then-codes-eq0 : goal.returns-then-codes-eq0
returns-then-codes-eq0 c = chosen_edited _ _ _ _ _ _ c.if-codes-eq0.true c.edit.ensures

pub returns-else-codes-eq0 : goal.returns-else-codes-eq0
returns-else-codes-eq0 c = chosen_replaced _ _ _ _ _ _ c.if-codes-eq0.false c.replace.ensures
