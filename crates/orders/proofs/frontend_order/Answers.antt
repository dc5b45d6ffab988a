use mathlib.Core.Path.{◌∙◌}
use Rattle.table.proofs.Results.{handed_on}
use Rattle.orders.proofs.OrderLaws.{order_refused, order_given}
use Rattle.orders.proofs.frontend_order.Goals as goal

pub returns-in_err-judged : goal.returns-in_err-judged
returns-in_err-judged c = let a = c.args in handed_on c.from_residual.result c.from_residual.ensures.1 ∙ order_refused a.t.now a.n c.judged.ensures c.in_err-judged.was

pub returns : goal.returns
returns c = let a = c.args in rw c.order_for.ensures (order_given a.t.now a.n c.judged.ensures c.in_ok-judged.was)
