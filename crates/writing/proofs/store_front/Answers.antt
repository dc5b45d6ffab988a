use borrow.Author.Rules.{rules}
use Rattle.writing.proofs.Writes.{written_front}
use Rattle.writing.proofs.store_front.Goals as goal

pub returns : goal.returns
returns c = search (written_front, rules)
