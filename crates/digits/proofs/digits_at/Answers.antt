use Rattle.digits.proofs.Standing.{stands_outside, stands_inside}
use Rattle.digits.proofs.digits_at.Goals as goal

pub returns-in_err-text : goal.returns-in_err-text
returns-in_err-text c = rw c.from_residual.ensures (stands_outside _ _ _ _ _ c.in_err-text.ensures.lookup.0)

pub returns : goal.returns
returns c = stands_inside _ _ _ _ _ c.in_ok-text.ensures.lookup.0 c.number_in.ensures c.is_some.ensures c.then_some.ensures
