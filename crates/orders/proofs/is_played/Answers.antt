use Rattle.std.proofs.Common.{rules, ◌∙◌}
use Rattle.std.proofs.lemmas.Iterator.{YieldsList-from_slice}
use Rattle.std.proofs.lemmas.Iterator.Search.{any_from_yields_List}
use Rattle.table.proofs.Firsts.{any_same}
use Rattle.orders.specs.Orders.{plays_as_owner}
use Rattle.orders.proofs.is_played.Goals as goal

pub returns : goal.returns
returns c =
    let test = plays_as_owner c.args.id in
    any_from_yields_List test _ _ c.any.result c.any.ensures.ran (YieldsList-from_slice _ c.iter.ensures.rest) (λ x b q k. search rules)
    ∙ any_same test c.args.sessions.now
