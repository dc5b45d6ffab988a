use Rattle.std.proofs.Common.{rules, ◌≡◌}
use Rattle.std.specs.List.{position}
use Rattle.std.proofs.lemmas.Iterator.{YieldsList-from_slice}
use Rattle.std.proofs.lemmas.Iterator.Search.{position_from_yields_List}
use Rattle.table.specs.Table.{is_free}
use Rattle.table.proofs.Firsts.{position_is}
use Rattle.finding.proofs.lowest_place.Goals as goal

pub returns-clause-first : goal.returns-clause-first
returns-clause-first c =
    let test = is_free in
    let l = c.args.sessions.now in
    let e : c.position.result ≡ position test l =
    position_from_yields_List test _ _ c.position.result c.position.ensures.ran (YieldsList-from_slice _ c.iter.ensures.rest) (λ x b q k. search rules)
    in
    position_is test l 32 c.told-sessions e
