use Rattle.std.proofs.Common.{rules}
use Rattle.stream.specs.Values.{are_complete}
use Rattle.stream.proofs.attributes.are_complete.Goals as goal

pub returns : goal.returns
unfolding are_complete
returns c = search rules
