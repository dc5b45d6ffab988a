use mathlib.Core.Path.{◌∙◌, ap}
use Rattle.std.specs.Prelude.{is_some}
use Rattle.std.proofs.lemmas.Result.{err_from_is_err_and}
use Rattle.lines.specs.Laid.{first_seen}
use Rattle.aim.proofs.AimLaws.{none_refused, some_read}
use Rattle.reader.proofs.RequestLaws.{begun, head_plainly, request_unparted, request_twice, request_unversioned, request_required, request_headed}
use Rattle.reader.proofs.read_line.Goals as goal

pub returns-in_err-parts : goal.returns-in_err-parts
returns-in_err-parts c = let p = err_from_is_err_and c.from_residual.result c.from_residual.ensures.1 in
    let n = none_refused _ _ c.request_line.ensures c.in_err-parts.ensures.ok_part c.in_err-parts.ensures.value p.2 in
    rw (p.1, n.1, c.refuse.ensures) (head_plainly _ c.requires.cseq (request_unparted _ (begun c.requires.lines c.requires.cseq) n.0) (λ e. cc))

pub returns-then-are_twice : goal.returns-then-are_twice
returns-then-are_twice c =
    let i = some_read _ _ c.request_line.ensures c.in_ok-parts.ensures.ok_part in
    rw c.refuse-then-are_twice.ensures
    (head_plainly _ c.requires.cseq (request_twice _ (begun c.requires.lines c.requires.cseq) i c.are_twice.ensures c.if-are_twice.true) (λ e. cc))

pub returns-then-not-are_alike : goal.returns-then-not-are_alike
returns-then-not-are_alike c =
    let i = some_read _ _ c.request_line.ensures c.in_ok-parts.ensures.ok_part in
    rw c.refuse-then-not-are_alike.ensures
    (head_plainly _ c.requires.cseq
    (request_unversioned _ (begun c.requires.lines c.requires.cseq) i c.are_twice.ensures c.if-are_twice.false c.are_alike.ensures c.if-not-are_alike.true) (λ e. cc))

pub returns-then-is_some : goal.returns-then-is_some
returns-then-is_some c =
    let b = begun c.requires.lines c.requires.cseq in
    let i = some_read _ _ c.request_line.ensures c.in_ok-parts.ensures.ok_part in
    let r = c.first-require.ensures ∙ ap first_seen c.seen.ensures in
    let f = c.is_some.ensures ∙ ap is_some r in
    rw (c.refuse-then-is_some.ensures, r)
    (request_required _ b i c.are_twice.ensures c.if-are_twice.false c.are_alike.ensures c.if-not-are_alike.false f _ c.if-is_some.true)

pub read_method-requires : goal.read_method-requires
read_method-requires c =
    let i = some_read _ _ c.request_line.ensures c.in_ok-parts.ensures.ok_part in
    let f = c.is_some.ensures ∙ ap is_some (c.first-require.ensures ∙ ap first_seen c.seen.ensures) in
    request_headed _ (begun c.requires.lines c.requires.cseq) i c.are_twice.ensures c.if-are_twice.false c.are_alike.ensures c.if-not-are_alike.false f c.if-is_some.false
