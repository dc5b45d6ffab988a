use Rattle.stream.specs.Values.{merged}
use Rattle.stream.proofs.attributes.merged.Goals as goal

pub returns : goal.returns
unfolding merged
returns c = rw (
  c.given-9.ensures,
  c.given-8.ensures,
  c.given-7.ensures,
  c.given-6.ensures,
  c.given-5.ensures,
  c.given-4.ensures,
  c.given-3.ensures,
  c.given-2.ensures,
  c.given.ensures,
)
