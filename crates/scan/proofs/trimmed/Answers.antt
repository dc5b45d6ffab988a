use mathlib.Core.Path.{refl}
use Rattle.scan.proofs.Trims.{trimmed_from}
use Rattle.scan.proofs.trimmed.Goals as goal

pub returns : goal.returns
returns c = trimmed_from c.args.s.now c.first_in-start.ensures c.trimmed_behind-text.ensures refl
