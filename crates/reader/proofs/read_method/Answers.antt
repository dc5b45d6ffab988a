use mathlib.Core.Path.{◌∙◌, ap}
use Rattle.std.proofs.lemmas.Result.{err_from_is_err_and}
use Rattle.aim.proofs.AimLaws.{none_refused, some_read}
use Rattle.reader.specs.Fields.{transport_of}
use Rattle.reader.specs.Heads.{session_seen, head_text}
use Rattle.reader.proofs.RequestLaws.{head_plainly, request_unmethoded, request_unaimed, request_asked}
use Rattle.reader.proofs.read_method.Goals as goal

pub returns-in_err-method : goal.returns-in_err-method
returns-in_err-method c = let p = err_from_is_err_and c.from_residual.result c.from_residual.ensures.1 in
    let n = none_refused _ _ c.method_in.ensures c.in_err-method.ensures.ok_part c.in_err-method.ensures.value p.2 in
    rw (p.1, n.1, c.refuse.ensures) (head_plainly _ c.requires.begun.cseq_is (request_unmethoded 0 _ c.requires n.0) (λ e. cc))

pub returns-in-Err : goal.returns-in-Err
returns-in-Err c =
    let w = some_read _ _ c.method_in.ensures c.in_ok-method.ensures.ok_part in
    rw c.refuse-in-Err.ensures (request_unaimed _ _ c.requires w c.in-Err.ensures)

pub returns-in-Ok : goal.returns-in-Ok
returns-in-Ok c =
    let w = some_read _ _ c.method_in.ensures c.in_ok-method.ensures.ok_part in
    rw (c.behind.ensures, c.query_behind.ensures)
    (request_asked _ _ c.requires w c.in-Ok.ensures (c.session_at.ensures ∙ ap (session_seen c.args.s.now) c.seen.ensures)
    (c.transport_at.ensures ∙ ap (λ x. transport_of (head_text c.args.s.now x)) c.seen-in-Ok.ensures))
