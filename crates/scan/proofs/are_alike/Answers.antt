use Rattle.std.proofs.Common.{rules, ◌∙◌, ◌&&◌, true, eqb, tests}
use Rattle.std.proofs.lemmas.Iterator.{YieldsList-from_slice, YieldsList-from_zip}
use Rattle.std.proofs.lemmas.Iterator.Consumers.{fold_from_yields_List}
use Rattle.scan.specs.Text.{seen}
use Rattle.scan.proofs.Compares.{alike_long}
use Rattle.scan.proofs.Chains.{alike_fold}
use Rattle.scan.proofs.are_alike.Goals as goal

pub returns-then-s-t : goal.returns-then-s-t
returns-then-s-t c = search (alike_long, rules)

pub returns : goal.returns
returns c =
    fold_from_yields_List _ (λ t q. t && eqb (seen c.args.case q.0) (seen c.args.case q.1)) true c.fold.result c.fold.ensures.ran
    (YieldsList-from_zip (YieldsList-from_slice c.args.s.now cc) (YieldsList-from_slice c.args.t.now cc)) (λ a x b q k. search (rules, tests))
    ∙ alike_fold (seen c.args.case) c.args.s.now c.args.t.now c.if-s-t.false
