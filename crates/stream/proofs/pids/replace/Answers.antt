use borrow.Author.Rules.{rules}
use native.Mathlib.Omega.{arith}
use Rattle.std.proofs.Common.{◌≡◌, refl, Err}
use Rattle.stream.proofs.Merges.{replaced_all, replaced_none, replaced_list}
use Rattle.stream.specs.declared.Refusal.TheVariants.{TooMany}
use Rattle.stream.proofs.pids.replace.Goals as goal

pub returns-in-1 : goal.returns-in-1
returns-in-1 c = rw (replaced_all c.args.code c.args.text.now c.in-1.is) (c.new-list.ensures, refl)

pub returns-in-2 : goal.returns-in-2
returns-in-2 c = rw (replaced_none c.args.code c.args.text.now (λ e. omega arith) c.in-2.is) (c.new-list.ensures, refl)

pub returns-in_err-obey_all-in_default : goal.returns-in_err-obey_all-in_default
returns-in_err-obey_all-in_default c =
    let h = rw (c.in_err-obey_all-in_default.was, c.new-list.ensures) at c.obey_all.ensures in
    let e : c.from_residual.result ≡ Err TooMany = search rules in
    rw (e, replaced_list c.args.code c.args.text.now (search rules) (search rules)) (refl, h.1)

pub returns-in_ok-obey_all-in_default : goal.returns-in_ok-obey_all-in_default
returns-in_ok-obey_all-in_default c =
    rw (replaced_list c.args.code c.args.text.now (search rules) (search rules)) ((rw (c.in_ok-obey_all-in_default.was, c.new-list.ensures) at c.obey_all.ensures), refl)
