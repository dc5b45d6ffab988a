use Rattle.writing.specs.Writing.{decimal}
use Rattle.writing.proofs.Numerals.{decimal_digit}
use Rattle.writing.proofs.Writer.decimal.Goals as goal

pub returns : goal.returns
unfolding decimal
returns c = rw c.decimal_width.ensures.0 at c.digits.ensures

pub returns-then-v-lt10 : goal.returns-then-v-lt10
returns-then-v-lt10 c = rw (decimal_digit _ c.if-v-lt10.true) c.text.ensures
