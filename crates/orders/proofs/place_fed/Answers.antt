use Rattle.std.proofs.Common.{rules, ◌≡◌}
use Rattle.std.specs.List.{position}
use Rattle.std.proofs.lemmas.Iterator.{YieldsList-from_slice}
use Rattle.std.proofs.lemmas.Iterator.Search.{position_from_yields_List}
use Rattle.table.proofs.Firsts.{position_is, position_within}
use Rattle.orders.proofs.OrderLaws.{is_fed}
use Rattle.orders.proofs.place_fed.Goals as goal

pub returns : goal.returns
returns c =
    let test = is_fed c.args.n in
    let l = c.args.streams.now in
    let e : c.position.result ≡ position test l =
    position_from_yields_List test _ _ c.position.result c.position.ensures.ran (YieldsList-from_slice _ c.iter.ensures.rest) (λ x b q k. search rules)
    in
    record { first = position_is test l 8 c.told-streams e; within = position_within test l 8 c.told-streams e; sized = c.told-streams }
