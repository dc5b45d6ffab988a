use Rattle.std.proofs.lemmas.Result.{err_from_is_err_and}
use Rattle.aim.proofs.AimLaws.{none_refused}
use Rattle.reader.proofs.RequestLaws.{request_unlaid, request_uncounted}
use Rattle.reader.proofs.read.Goals as goal

pub returns-in_default : goal.returns-in_default
returns-in_default c = rw c.refuse.ensures (request_unlaid _ _ c.in_default.ensures)

pub returns-in_err-cseq : goal.returns-in_err-cseq
returns-in_err-cseq c = let p = err_from_is_err_and c.from_residual.result c.from_residual.ensures.1 in
    let n = none_refused _ _ c.cseq_in.ensures c.in_err-cseq.ensures.ok_part c.in_err-cseq.ensures.value p.2 in
    rw (p.1, n.1, c.refuse-2.ensures) (request_uncounted _ c.in-Some.ensures _ n.0)
