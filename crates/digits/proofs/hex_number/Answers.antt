use mathlib.Core.Path.{◌∙◌}
use borrow.Author.Rules.{rules}
use Rattle.digits.proofs.Spelling.{hex_limit, hex_length}
use Rattle.digits.proofs.hex_number.Goals as goal

pub returns-then-s-eq8 : goal.returns-then-s-eq8
returns-then-s-eq8 c = c.number_in.ensures ∙ hex_limit _ c.if-s-eq8.true

pub returns-else-s-eq8 : goal.returns-else-s-eq8
returns-else-s-eq8 c = search (hex_length, rules)
