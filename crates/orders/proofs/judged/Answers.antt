use Rattle.std.proofs.Common.{◌∙◌, sym, ap, not}
use Rattle.table.proofs.Places.{failed, held}
use Rattle.formed.proofs.FormedLaws.{well_formed_law}
use Rattle.orders.proofs.judged.Goals as goal

pub returns-then-is_none : goal.returns-then-is_none
returns-then-is_none c = rw (sym (well_formed_law c.args.t.now c.standing_of.ensures) ∙ c.is_none.ensures ∙ ap not c.if-is_none.true)

pub returns-then-not-is_frontend : goal.returns-then-not-is_frontend
returns-then-not-is_frontend c =
    rw (sym (well_formed_law c.args.t.now c.standing_of.ensures) ∙ c.is_none.ensures ∙ ap not c.if-is_none.false, failed c.is_frontend.ensures (ap not c.if-not-is_frontend.true))

pub returns : goal.returns
returns c =
    rw (sym (well_formed_law c.args.t.now c.standing_of.ensures) ∙ c.is_none.ensures ∙ ap not c.if-is_none.false, held c.is_frontend.ensures (ap not c.if-not-is_frontend.false))
