use native.Mathlib.Omega.{arith}
use borrow.Author.Rules.{rules}
use Rattle.target.proofs.Uris.{scheme_not, slash_not, no_host, no_stream_law, stream_there, stream_missing, host_uri, uri_is}
use Rattle.target.proofs.read_uri.Goals as goal
use Rattle.target.proofs.read_uri.Goals.{then-mark-eq0, else-mark-eq0+in_ok-stream_in}
use Rattle.std.proofs.Common.{ap, not}

pub returns-then-not-starts_with : goal.returns-then-not-starts_with
returns-then-not-starts_with c = scheme_not _ c.starts_with.ensures (ap not c.if-not-starts_with.true)

pub returns-then-slash-rest : goal.returns-then-slash-rest
returns-then-slash-rest c = slash_not _ c.starts_with.ensures (ap not c.if-not-starts_with.false) c.first_in-slash.ensures c.if-slash-rest.true

pub returns-in_err-host : goal.returns-in_err-host
returns-in_err-host c = rw c.from_residual.ensures
    (no_host _ c.starts_with.ensures (ap not c.if-not-starts_with.false) c.first_in-slash.ensures c.in_err-host.ensures)

pub returns-in_err-stream_in : goal.returns-in_err-stream_in
returns-in_err-stream_in c = rw c.from_residual-in_err-stream_in.ensures
    (no_stream_law _ c.starts_with.ensures (ap not c.if-not-starts_with.false) c.first_in-slash.ensures c.in_ok-host.ensures (search rules) c.first_in-mark.ensures
    c.if-mark-eq0.false c.stream_in.ensures c.in_err-stream_in.was)

pub overflow_add-result : goal.overflow_add-result
overflow_add-result c = omega (
  arith,
  (host_uri c.args.s.now c.starts_with.ensures (ap not c.if-not-starts_with.false) c.first_in-slash.ensures c.in_ok-host.ensures (search rules) c.first_in-mark.ensures).within,
)

pub returns : goal.returns
returns c =
    uri_is _ c.starts_with.ensures (ap not c.if-not-starts_with.false) c.first_in-slash.ensures c.in_ok-host.ensures (search rules) c.first_in-mark.ensures
    (elim c.if-mark-eq0.branch [
      | then-mark-eq0 w ↦
          rw w.stream-is
          (stream_missing _ c.starts_with.ensures (ap not c.if-not-starts_with.false) c.first_in-slash.ensures c.in_ok-host.ensures (search rules) c.first_in-mark.ensures w.if-mark-eq0.true)
      | else-mark-eq0+in_ok-stream_in w ↦
          rw w.stream-is
          (stream_there _ c.starts_with.ensures (ap not c.if-not-starts_with.false) c.first_in-slash.ensures c.in_ok-host.ensures (search rules) c.first_in-mark.ensures
          w.if-mark-eq0.false w.stream_in.ensures w.in_ok-stream_in.was)
    ])
    c.then_some.ensures
