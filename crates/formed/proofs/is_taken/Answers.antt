use mathlib.Core.Path.{◌∙◌}
use Rattle.formed.proofs.Seating.{among_padded, among_split}
use Rattle.formed.proofs.is_taken.Goals as goal

pub returns-then-opens-le8 : goal.returns-then-opens-le8
returns-then-opens-le8 c = c.is_among-first.ensures ∙ among_padded c.args.n c.requires.0 c.args.opens 8 c.args.numbers.now c.if-opens-le8.true c.requires.2

pub returns : goal.returns
returns c = let l = c.args.numbers.now in
    rw (c.is_among-first.ensures, c.is_among.ensures)
    (among_split c.args.n 8 24 l ∙ among_padded c.args.n c.requires.0 c.args.opens 32 l c.requires.1 c.requires.2)
