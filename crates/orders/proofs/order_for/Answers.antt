use Rattle.table.proofs.Places.{failed, held}
use Rattle.orders.proofs.OrderLaws.{order_none, order_held, order_unplayed, order_lacking, order_complete}
use Rattle.orders.proofs.order_for.Goals as goal
use Rattle.std.proofs.Common.{ap, not, ◌∙◌}

pub returns-in_err-place : goal.returns-in_err-place
returns-in_err-place c =
    let f = c.place_fed.ensures in c.from_residual.ensures ∙ order_none c.args.t.now c.args.n f.sized f.first c.in_err-place.was

pub returns-then-not-are_complete : goal.returns-then-not-are_complete
returns-then-not-are_complete c =
    let t = c.args.t.now in
    let f = c.place_fed.ensures in
    order_held t c.args.n f.sized f.first c.in_ok-place.was (order_lacking t c.in_ok-place.place (failed c.are_complete.ensures (ap not c.if-not-are_complete.true)))

pub returns-then-not-is_played : goal.returns-then-not-is_played
returns-then-not-is_played c =
    let t = c.args.t.now in
    let f = c.place_fed.ensures in
    order_held t c.args.n f.sized f.first c.in_ok-place.was (order_unplayed t c.in_ok-place.place (failed c.is_played.ensures (ap not c.if-not-is_played.true)))

pub returns : goal.returns
returns c =
    let t = c.args.t.now in
    let f = c.place_fed.ensures in
    order_held t c.args.n f.sized f.first c.in_ok-place.was
    (order_complete t c.in_ok-place.place (held c.is_played.ensures (ap not c.if-not-is_played.false)) (held c.are_complete.ensures (ap not c.if-not-are_complete.false)))
