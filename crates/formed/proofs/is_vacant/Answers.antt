use Rattle.formed.proofs.Vacant.{vacant_by}
use Rattle.formed.proofs.is_vacant.Goals as goal

pub returns : goal.returns
returns c = vacant_by c.args.s c.bytes_of.ensures
