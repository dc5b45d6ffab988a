use native.Mathlib.Omega.{arith}
use borrow.Author.Rules.{rules}
use Rattle.aim.proofs.QueryLaws.{value_inside, asking_start, asking_unknown, asking_twice, asking_more}
use Rattle.aim.proofs.query.read_query.Goals as goal

pub loop-p-init : goal.loop-p-init
loop-p-init c = search asking_start

pub returns-in_err-part : goal.returns-in_err-part
returns-in_err-part c = rw c.from_residual.ensures (asking_unknown c.loop-p.invariant (search rules) c.first_from-e.ensures c.in_err-part.ensures)

pub returns-then-spans-a-ne0 : goal.returns-then-spans-a-ne0
returns-then-spans-a-ne0 c = asking_twice c.loop-p.invariant (search rules) c.first_from-e.ensures c.in_ok-part.ensures c.if-spans-a-ne0.true

pub overflow_add-value : goal.overflow_add-value
overflow_add-value c = omega (arith, value_inside c.args.q.now c.loop-p.p _ (omega arith) c.in_ok-part.ensures)

pub slice_bounds-value_of-count : goal.slice_bounds-value_of-count
slice_bounds-value_of-count c = omega (arith, value_inside c.args.q.now c.loop-p.p _ (omega arith) c.in_ok-part.ensures)

pub slice_bounds-value_of-start : goal.slice_bounds-value_of-start
slice_bounds-value_of-start c = omega (arith, value_inside c.args.q.now c.loop-p.p _ (omega arith) c.in_ok-part.ensures)

pub loop-p-preserved : goal.loop-p-preserved
loop-p-preserved c = rw (c.unwrap_or.ensures, c.is_some-within.ensures)
    (asking_more c.loop-p.invariant (search rules) c.first_from-e.ensures c.in_ok-part.ensures c.if-spans-a-ne0.false c.value_of-read.ensures)
