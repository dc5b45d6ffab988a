use borrow.Author.Rules.{rules}
use Rattle.stream.proofs.Soundness.{unused_by}
use Rattle.stream.proofs.is_unused.Goals as goal

pub returns : goal.returns
returns c = unused_by c.args.m (search rules) c.eq.ensures
