use Rattle.std.proofs.Common.{rules, refl}
use Rattle.formed.proofs.Rows.{owning_more}
use Rattle.formed.proofs.are_owned.Goals as goal

pub loop-id-preserved : goal.loop-id-preserved
loop-id-preserved c = owning_more c.loop-id.invariant (search rules) refl
