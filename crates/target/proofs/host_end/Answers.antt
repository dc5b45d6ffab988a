use mathlib.Core.Path.{◌∙◌}
use Rattle.target.proofs.Uris.{host_not, host_alone, host_port}
use Rattle.target.proofs.host_end.Goals as goal

pub returns-then-k-a : goal.returns-then-k-a
returns-then-k-a c = host_alone c.first_in-k.ensures c.if-k-eq0.false c.if-k-a.true

pub returns-then-a-k-ne58 : goal.returns-then-a-k-ne58
returns-then-a-k-ne58 c = host_not c.first_in-k.ensures c.if-k-a.false c.if-a-k-ne58.true

pub returns : goal.returns
returns c = c.then_some.ensures ∙ host_port c.first_in-k.ensures c.if-k-eq0.false c.if-k-a.false c.if-a-k-ne58.false c.is_port.ensures
