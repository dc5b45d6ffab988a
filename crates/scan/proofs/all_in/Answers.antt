use Rattle.std.proofs.Common.{rules, ◌∙◌, ◌&&◌, true, tests}
use Rattle.std.proofs.lemmas.Iterator.{YieldsList-from_slice}
use Rattle.std.proofs.lemmas.Iterator.Consumers.{fold_from_yields_List}
use Rattle.scan.specs.Found.{in_class}
use Rattle.scan.proofs.Chains.{all_fold}
use Rattle.scan.proofs.all_in.Goals as goal

pub returns : goal.returns
returns c =
    fold_from_yields_List _ (λ t b. t && in_class c.args.c b) true c.fold.result c.fold.ensures.ran (YieldsList-from_slice c.args.s.now cc) (λ a x b q k. search (rules, tests))
    ∙ all_fold (in_class c.args.c) c.args.s.now
