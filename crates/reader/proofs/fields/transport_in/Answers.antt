use Rattle.scan.specs.Text.{text}
use Rattle.target.proofs.Uris.{starts_long}
use Rattle.reader.proofs.FieldLaws.{transport_other, transport_ports}
use Rattle.reader.proofs.fields.transport_in.Goals as goal
use Rattle.std.proofs.Common.{ap, not}

pub returns-then-not-starts_with : goal.returns-then-not-starts_with
returns-then-not-starts_with c = transport_other _ c.starts_with.ensures (c.if-not-starts_with.true)

pub slice_bounds-ports_in-count : goal.slice_bounds-ports_in-count
slice_bounds-ports_in-count c = starts_long (text "RTP/AVP;unicast;client_port=") c.args.value.now c.starts_with.ensures (ap not c.if-not-starts_with.false)

pub slice_bounds-ports_in-start : goal.slice_bounds-ports_in-start
slice_bounds-ports_in-start c = starts_long (text "RTP/AVP;unicast;client_port=") c.args.value.now c.starts_with.ensures (ap not c.if-not-starts_with.false)

pub returns : goal.returns
returns c = transport_ports _ c.starts_with.ensures (c.if-not-starts_with.false) c.ports_in.ensures
