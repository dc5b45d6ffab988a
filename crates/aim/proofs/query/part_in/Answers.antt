use mathlib.Core.Path.{sym, ◌∙◌}
use Rattle.aim.proofs.QueryLaws.{part_whole, part_unnamed, part_broken}
use Rattle.aim.proofs.query.part_in.Goals as goal

pub returns-then-p-value : goal.returns-then-p-value
returns-then-p-value c = part_broken _ c.first_in-equals.ensures c.if-p-value.true

pub returns-in_err-attribute : goal.returns-in_err-attribute
returns-in_err-attribute c = rw c.from_residual.ensures (part_unnamed _ c.first_in-equals.ensures c.if-p-value.false c.in_err-attribute.ensures)

pub returns : goal.returns
returns c = part_whole _ c.first_in-equals.ensures c.if-p-value.false c.in_ok-attribute.ensures
