use Rattle.stream.proofs.Ranges.{by_place}
use Rattle.stream.proofs.attributes.are_in_range.Goals as goal

pub returns : goal.returns
returns c = rw by_place (cc)
