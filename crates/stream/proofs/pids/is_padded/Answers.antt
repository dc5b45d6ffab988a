use borrow.Author.Rules.{rules}
use native.Mathlib.Omega.{arith}
use mathlib.Core.Path.{◌≡◌}
use lib.ListN.{length}
use lib.Seq.{get_or-take}
use Rattle.stream.proofs.Arrays.{padded_long, ascending_low, ascending_more}
use Rattle.stream.proofs.pids.is_padded.Goals as goal

pub returns-then-count-gt-PIDS : goal.returns-then-count-gt-PIDS
returns-then-count-gt-PIDS c =
    let long : length c.args.pids.now ≡ 32 = search rules in
    padded_long c.args.count 0 c.args.pids.now (omega (arith, long, c.if-count-gt-PIDS.true))

pub returns-then-p-least : goal.returns-then-p-least
returns-then-p-least c = ascending_low c.loop-p.invariant (search rules) (omega (arith, get_or-take c.args.count c.args.pids.now c.loop-p.p-index 0 (search rules))) c.if-p-least.true

pub loop-p-preserved : goal.loop-p-preserved
loop-p-preserved c = ascending_more c.loop-p.invariant (search rules) (omega (arith, get_or-take c.args.count c.args.pids.now c.loop-p.p-index 0 (search rules))) c.if-p-least.false
