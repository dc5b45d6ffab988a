use borrow.Author.Rules.{rules}
use native.Mathlib.Omega.{arith}
use Rattle.std.proofs.Common.{◌≡◌, refl, Err}
use Rattle.stream.specs.declared.Refusal.TheVariants.{TooMany}
use Rattle.stream.proofs.Texts.{obeying_start, obeying_on, obeying_over}
use Rattle.stream.proofs.list.PidList.obey_all.Goals as goal

pub loop-p-init : goal.loop-p-init
loop-p-init g c = search (obeying_start, rules)

pub returns-in_err-obey : goal.returns-in_err-obey
returns-in_err-obey g c =
    let f = rw c.in_err-obey.was at c.obey.ensures.fits in
    let w = rw c.in_err-obey.was at c.obey.ensures.full in
    let e : c.from_residual.result ≡ Err TooMany = search rules in
    rw e (refl, obeying_over _ c.loop-p.invariant (search rules) (search rules) (search rules) (omega (arith, w)) f.1)

pub loop-p-preserved : goal.loop-p-preserved
loop-p-preserved g c = obeying_on _ c.loop-p.invariant (search rules) (search rules) (rw c.in_ok-obey.was at c.obey.ensures.fits)
