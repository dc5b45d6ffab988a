use mathlib.Core.Path.{ap, ◌∙◌, sym}
use native.Mathlib.Omega.{arith}
use lib.ListN.{length}
use lib.Seq.{length-take-le}
use Rattle.std.proofs.Common.{◌≡◌}
use Rattle.stream.proofs.Shifts.{closed}
use Rattle.stream.proofs.list.PidList.remove.Goals as goal

pub returns : goal.returns
returns c =
    let n : length c.args.self.now ≡ c.self.inside.count = sym (ap length c.self.view_is) ∙ length-take-le c.self.inside.count c.self.inside.pids (omega (arith, c.self.told, c.self.invariant)) in
    rw (← c.self.view_is) (closed c.self.inside.pids c.self.inside.count c.args.at c.self.told c.self.invariant (omega (arith, n)) c.copy_within.ensures.after)
