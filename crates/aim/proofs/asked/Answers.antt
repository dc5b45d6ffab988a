use Rattle.std.proofs.lemmas.Result.{err_from_is_err_and}
use Rattle.aim.proofs.AimLaws.{asked_untaken, asked_broken, asked_refused, asked_passed}
use Rattle.aim.proofs.asked.Goals as goal

pub returns-then-takes_no_query : goal.returns-then-takes_no_query
returns-then-takes_no_query c = asked_untaken _ _ _ c.requires c.takes_no_query.ensures c.if-takes_no_query.true

pub returns-in_default : goal.returns-in_default
returns-in_default c = asked_broken _ _ _ c.requires c.takes_no_query.ensures c.if-takes_no_query.false c.in_default.ensures

pub returns-in_err-verdict : goal.returns-in_err-verdict
returns-in_err-verdict c = let p = err_from_is_err_and c.from_residual.result c.from_residual.ensures.1 in
    rw (p.1, p.2)
    (asked_refused _ _ _ c.requires c.takes_no_query.ensures c.if-takes_no_query.false c.in-Some.ensures c.is_some.ensures c.in_err-verdict.ensures)

pub returns : goal.returns
returns c = asked_passed _ _ _ c.requires c.takes_no_query.ensures c.if-takes_no_query.false c.in-Some.ensures c.is_some.ensures c.in_ok-verdict.ensures
