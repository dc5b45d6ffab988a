use borrow.Author.Rules.{rules}
use Rattle.writing.proofs.Writes.{puts_none}
use Rattle.script.proofs.Unfolding.{unfolding_more, unfolding_end}
use Rattle.script.proofs.put_unfolded.Goals as goal

pub loop-b-init : goal.loop-b-init
loop-b-init c = puts_none _

pub loop-b-preserved : goal.loop-b-preserved
loop-b-preserved c = search (unfolding_more, rules)

pub returns : goal.returns
returns c = unfolding_end c.args.s.now c.loop-b.invariant (search rules)
