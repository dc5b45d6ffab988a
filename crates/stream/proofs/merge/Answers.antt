use borrow.Author.Rules.{rules}
use Rattle.std.specs.Prelude.{◌≡◌, Err}
use Rattle.stream.specs.declared.Refusal.TheVariants.{TooMany}
use Rattle.stream.proofs.Merges.{merge_apart, merge_over, merge_done, flag_is}
use Rattle.stream.proofs.merge.Goals as goal

pub returns-then-not-go_together : goal.returns-then-not-go_together
returns-then-not-go_together c = search (merge_apart, rules)

pub returns-in_err-picked : goal.returns-in_err-picked
returns-in_err-picked c =
    let h = rw c.in_err-picked.was at c.choose.ensures in
    let e : c.from_residual.result ≡ Err TooMany = search rules in
    rw e (merge_over _ _ _ _ _ c.merged-values.ensures c.go_together.ensures (search rules) h.1)

pub returns : goal.returns
returns c = merge_done _ _ _ _ _ c.merged-values.ensures c.go_together.ensures (search rules) c.in_ok-picked.picked (rw c.in_ok-picked.was at c.choose.ensures) c.len-count.ensures c.laid_out.ensures (flag_is c.in_ok-picked.picked.all c.from.ensures)
