use Rattle.std.proofs.Common.{rules}
use Rattle.stream.specs.Values.{go_together}
use Rattle.stream.proofs.attributes.go_together.Goals as goal

pub returns : goal.returns
unfolding go_together
returns c = search rules
