use borrow.Author.Rules.{rules}
use mathlib.Core.Path.{refl, ap, ◌∙◌, sym}
use native.Mathlib.Omega.{arith}
use lib.ListN.{length}
use lib.Seq.{length-take-le}
use Rattle.std.proofs.Common.{◌≡◌}
use Rattle.stream.proofs.Shifts.{opening_start, opening_more, opening_end, full}
use Rattle.stream.proofs.list.PidList.insert.Goals as goal

pub returns-then-self-eq-PIDS : goal.returns-then-self-eq-PIDS
returns-then-self-eq-PIDS c =
    let n : length c.args.self.now ≡ c.self.inside.count = sym (ap length c.self.view_is) ∙ length-take-le c.self.inside.count c.self.inside.pids (omega (arith, c.self.told, c.self.invariant)) in
    record { fits = (refl, rw (← c.self.view_is) (full c.self.inside.pids c.self.inside.count c.args.at c.args.p c.self.told (omega (arith, n)) c.if-self-eq-PIDS.true)); full = n ∙ c.if-self-eq-PIDS.true }

pub loop-i-init : goal.loop-i-init
loop-i-init c =
    let n : length c.args.self.now ≡ c.self.inside.count = sym (ap length c.self.view_is) ∙ length-take-le c.self.inside.count c.self.inside.pids (omega (arith, c.self.told, c.self.invariant)) in
    (refl, opening_start c.self.inside.pids c.self.inside.count c.args.at c.args.p c.self.told (omega (arith, n)) c.self.invariant c.if-self-eq-PIDS.false)

pub loop-i-preserved : goal.loop-i-preserved
loop-i-preserved c = (c.loop-i.invariant.0, rw (c.replace-carried.ensures.value, c.replace-carried.ensures.after) (opening_more c.loop-i.invariant.1 (search rules)))

pub returns : goal.returns
returns c =
    record { fits = rw (c.loop-i.invariant.0, ← c.self.view_is) (opening_end c.loop-i.invariant.1 (search rules)); full = tt }
