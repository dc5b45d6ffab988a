use borrow.Author.Rules.{rules}
use mathlib.Core.Path.{◌≡◌}
use lib.ListN.{length}
use Rattle.stream.proofs.Arrays.{zeros_split}
use Rattle.stream.proofs.pids.are_zero.Goals as goal

pub returns-then-from-le8 : goal.returns-then-from-le8
returns-then-from-le8 c =
    let long : length c.args.pids.now ≡ 32 = search rules in
    rw (c.are_zeros.ensures, c.are_zeros-then-from-le8.ensures) (rw long at (zeros_split 8 c.args.from c.args.pids.now (search rules) (search rules)))
