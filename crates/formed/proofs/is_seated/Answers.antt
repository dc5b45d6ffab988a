use Rattle.std.proofs.Common.{rules}
use Rattle.table.specs.Formed.{is_seated}
use Rattle.formed.proofs.is_seated.Goals as goal

pub returns : goal.returns
unfolding is_seated
returns c = search rules
