use Prim.Native.Nat.{◌+◌}
use native.Mathlib.Omega.{arith}
use Rattle.scan.specs.Text.{is}
use Rattle.scan.specs.Found.{FirstFrom}
use Rattle.scan.proofs.Loops.{first_rest}
use Rattle.target.proofs.Lines.{two_parts, more_parts, empty_parts, three_parts}
use Rattle.target.proofs.request_line.Goals as goal

pub returns-then-line-second : goal.returns-then-line-second
returns-then-line-second c = two_parts c.first_from-first.ensures c.if-line-first.false ((let fact : FirstFrom (is 32) c.args.line.now (c.first_from-first.result + 1) (c.first_from-first.result + 1 + c.first_far.result) = first_rest _ _ _ (omega arith) c.first_far.ensures in fact)) c.if-line-second.true

pub returns-then-first_from-line : goal.returns-then-first_from-line
returns-then-first_from-line c = more_parts c.first_from-first.ensures c.if-line-first.false ((let fact : FirstFrom (is 32) c.args.line.now (c.first_from-first.result + 1) (c.first_from-first.result + 1 + c.first_far.result) = first_rest _ _ _ (omega arith) c.first_far.ensures in fact)) c.if-line-second.false c.first_from.ensures c.if-first_from-line.true

pub returns-then-first-second : goal.returns-then-first-second
returns-then-first-second c = empty_parts c.first_from-first.ensures c.if-line-first.false ((let fact : FirstFrom (is 32) c.args.line.now (c.first_from-first.result + 1) (c.first_from-first.result + 1 + c.first_far.result) = first_rest _ _ _ (omega arith) c.first_far.ensures in fact)) c.if-line-second.false c.first_from.ensures c.if-first_from-line.false
    c.if-first-second.true

pub returns : goal.returns
returns c = three_parts c.first_from-first.ensures c.if-line-first.false ((let fact : FirstFrom (is 32) c.args.line.now (c.first_from-first.result + 1) (c.first_from-first.result + 1 + c.first_far.result) = first_rest _ _ _ (omega arith) c.first_far.ensures in fact)) c.if-line-second.false c.first_from.ensures c.if-first_from-line.false c.if-first-second.false
