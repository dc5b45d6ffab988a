use Rattle.digits.proofs.Spelling.{spelling_over}
use Rattle.digits.proofs.number_in.Goals as goal

pub returns-then-limit-next : goal.returns-then-limit-next
returns-then-limit-next c = spelling_over _ _ _ c.loop-b.invariant c.loop-b-test.true c.in_ok-digit_in.ensures c.with_digit-next.ensures c.if-limit-next.true
