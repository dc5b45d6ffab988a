use native.Mathlib.Omega.{arith}
use lib.ListN.{take}
use lib.ListN.{length-take}
use Rattle.stream.proofs.Texts.{removing_fits}
use Rattle.stream.proofs.pids.edit.Goals as goal

-- what is removed makes none too many
pub returns-in_err-obey_all : goal.returns-in_err-obey_all
returns-in_err-obey_all c =
    let m = c.args.m in
    let h = rw (c.in_err-obey_all.was, c.first_of-list.ensures, c.from.ensures) at c.obey_all.ensures in
    absurd (omega (arith, h.1, removing_fits c.args.del c.args.delpids.now (take m.count m.pids), length-take m.count m.pids))
