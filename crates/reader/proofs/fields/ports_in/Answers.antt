use Rattle.reader.proofs.FieldLaws.{ports_undashed}
use Rattle.reader.proofs.fields.ports_in.Goals as goal

pub returns-then-dash-ports : goal.returns-then-dash-ports
returns-then-dash-ports c = ports_undashed _ c.first_in-dash.ensures c.if-dash-ports.true
