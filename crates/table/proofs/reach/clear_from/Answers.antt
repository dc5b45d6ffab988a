use Rattle.table.proofs.Sets.{emptied}
use Rattle.table.proofs.reach.clear_from.Goals as goal

pub returns : goal.returns
returns c = emptied _ _ _ c.min-from.ensures (c.fill.ensures.after (λ y e. e))
