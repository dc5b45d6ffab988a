use Rattle.std.proofs.Common.{refl}
use Rattle.writing.proofs.Writes.{puts, puts_past}
use Rattle.writing.proofs.Writer.text.Goals as goal

pub returns-then-len-at : goal.returns-then-len-at
returns-then-len-at c = puts_past _ _ c.if-len-at.true

pub returns-then-len-at-2 : goal.returns-then-len-at-2
returns-then-len-at-2 c = puts c.store_front.ensures refl refl refl

pub returns : goal.returns
returns c = puts c.store.ensures refl refl refl
