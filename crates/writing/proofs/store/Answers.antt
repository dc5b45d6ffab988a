use borrow.Author.Rules.{rules}
use Rattle.writing.proofs.Writes.{storing_start, storing_more, storing_end}
use Rattle.writing.proofs.store.Goals as goal

pub loop-i-init : goal.loop-i-init
loop-i-init c = record { stored = storing_start _ _ _ }

pub loop-i-preserved : goal.loop-i-preserved
loop-i-preserved c = record { stored = search (storing_more, rules) }

pub returns : goal.returns
returns c = storing_end c.loop-i.invariant.stored (search rules)
