use mathlib.Core.Path.{refl, sym, ap, ◌∙◌}
use borrow.Author.Tests.{not-true, not-false}
use Rattle.scan.proofs.Bools.{never}
use Rattle.table.proofs.Places.{known}
use Rattle.formed.proofs.Seating.{alike_vacant, in_front, seating_start, seating_most, seating_not, seating_not_empty, seating_free, seating_id, seating_owner, seating_more, seated_owned, seated_well}
use Rattle.std.proofs.Common.{not, ◌<◌, arith}
use lib.ListN.{get_or}
use Rattle.table.specs.Table.{no_session}
use Rattle.formed.proofs.seats_of.Goals as goal

pub loop-s-init : goal.loop-s-init
loop-s-init c = seating_start _ _ _ (search known) c.requires

pub returns-then-not-is_admitted : goal.returns-then-not-is_admitted
returns-then-not-is_admitted c =
    let e = in_front c.args.sessions.now c.end_of.result c.loop-s.s-index (search known) in
    (seating_not c.loop-s.invariant (search known) (rw e at c.if-s-eq0.false) (rw e at c.is_admitted.ensures) c.args.held c.args.size (ap not c.if-not-is_admitted.true), λ y. never y refl)

pub loop-s-preserved : goal.loop-s-preserved
loop-s-preserved c =
    let e = in_front c.args.sessions.now c.end_of.result c.loop-s.s-index (search known) in
    rw (c.from.ensures, e) (seating_more c.loop-s.invariant (search known) (rw e at c.if-s-eq0.false) (rw e at c.is_admitted.ensures) (ap not c.if-not-is_admitted.false) (search known) (rw e at c.min-oldest.ensures))

pub overflow_add-owners : goal.overflow_add-owners
overflow_add-owners c =
    let e = in_front c.args.sessions.now c.end_of.result c.loop-s.s-index (search known) in
    let i = c.loop-s.invariant in
    let h : c.loop-s.s-index < 32 = search known in
    let k = rw e at c.if-s-eq0.false in
    let a = rw e at c.is_admitted.ensures in
    let q = ap not c.if-not-is_admitted.false in
    rw (c.from.ensures, e)
    (record { fits = omega (arith, seating_most i (get_or c.args.sessions.now c.loop-s.s-index no_session).stream (seating_id i h k a q (search known)), seating_owner i h k a q) })

pub returns-then-ne : goal.returns-then-ne
returns-then-ne c =
    let e = in_front c.args.sessions.now c.end_of.result c.loop-s.s-index (search known) in
    (seating_not_empty c.loop-s.invariant (search known) c.args.held c.args.size (rw e at c.if-s-eq0.true) (sym (alike_vacant _) ∙ not-true _ (sym (rw e at c.if-ne.ensures))), λ y. never y refl)

pub loop-s-preserved-then-s-eq0 : goal.loop-s-preserved-then-s-eq0
loop-s-preserved-then-s-eq0 c =
    let e = in_front c.args.sessions.now c.end_of.result c.loop-s.s-index (search known) in
    seating_free c.loop-s.invariant (search known) (sym (alike_vacant _) ∙ not-false _ (sym (rw e at c.if-ne.ensures)))

pub returns : goal.returns
returns c = (seated_well c.end_of.result c.end_of.ensures.1 c.loop-s.invariant (search known) c.args.held c.args.size c.is_fitting.ensures (ap not c.if-not-is_fitting.false), λ y. seated_owned c.end_of.result c.end_of.ensures.1 c.loop-s.invariant (search known))
