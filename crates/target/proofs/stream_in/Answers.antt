use mathlib.Core.Path.{ap, ◌∙◌}
use Rattle.digits.specs.Reading.{at_least}
use Rattle.target.proofs.Uris.{stream_is}
use Rattle.target.proofs.stream_in.Goals as goal
use Rattle.std.proofs.Common.{not}

pub returns : goal.returns
returns c = let p = c.args.path in
    stream_is p.now c.starts_with.ensures (ap not c.if-not-starts_with.false) (c.at_least.ensures ∙ ap (at_least 1) c.number.ensures)
