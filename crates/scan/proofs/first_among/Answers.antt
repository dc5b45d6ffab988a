use Rattle.std.proofs.Common.{rules, tests}
use Rattle.std.proofs.lemmas.Iterator.{YieldsList-from_slice}
use Rattle.std.proofs.lemmas.Iterator.Search.{position_from_yields_List}
use Rattle.scan.specs.Found.{in_class}
use Rattle.scan.proofs.Chains.{placed_as, first_placed}
use Rattle.scan.proofs.first_among.Goals as goal

pub returns : goal.returns
returns c = let p = in_class c.args.c in
    first_placed p (placed_as p (position_from_yields_List p _ _ c.position.result c.position.ensures.ran (YieldsList-from_slice c.args.s.now cc) (λ x b q k. search (rules, tests)))) c.unwrap_or.ensures
