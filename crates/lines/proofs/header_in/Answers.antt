use mathlib.Core.Path.{refl}
use Rattle.lines.specs.Laid.{Named, name_number}
use Rattle.lines.proofs.HeaderLaws.{header_known}
use Rattle.lines.proofs.header_in.Goals as goal

pub returns : goal.returns
returns c = let named : Named c.args.line.now (name_number c.in-Some.name) c.len-after.result = rw c.len-after.ensures c.in-Some.ensures in
    header_known named refl c.trimmed-value.result c.trimmed-value.ensures
