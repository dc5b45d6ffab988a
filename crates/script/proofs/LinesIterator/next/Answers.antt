use Rattle.std.proofs.Common.{ap, length, rules}
use Rattle.script.proofs.Reading.{lines_more}
use Rattle.script.proofs.LinesIterator.next.Goals as goal

pub returns-clause-steps : goal.returns-clause-steps
returns-clause-steps c = rw (c.parted.ensures.front, c.parted.ensures.behind) (lines_more c.args.self.now.0.now (search rules))

pub returns-clause-goes : goal.returns-clause-goes
returns-clause-goes c =
    let shorter = ap length (returns-clause-steps c) in
    search rules
