use native.Mathlib.Omega.{arith}
use Rattle.std.proofs.lemmas.Result.{err_from_is_err_and}
use Rattle.aim.proofs.AimLaws.{none_refused, some_read, uri_long, uri_form, unasked_law}
use Rattle.aim.proofs.read_aim.Goals as goal

pub returns-then-u-gt-LONGEST : goal.returns-then-u-gt-LONGEST
returns-then-u-gt-LONGEST c = uri_long _ _ _ c.if-u-gt-LONGEST.true

pub returns-in_err-uri : goal.returns-in_err-uri
returns-in_err-uri c = let p = err_from_is_err_and c.from_residual.result c.from_residual.ensures.1 in
    let n = none_refused _ _ c.read_uri.ensures c.in_err-uri.ensures.ok_part c.in_err-uri.ensures.value p.2 in
    rw (p.1, n.1) (uri_form _ _ _ (omega arith) n.0)

pub returns-in-None : goal.returns-in-None
returns-in-None c = unasked_law _ _ _ (record { short = omega arith; is = some_read _ _ c.read_uri.ensures c.in_ok-uri.ensures.ok_part; query = c.in-None.is }) c.unasked.ensures
