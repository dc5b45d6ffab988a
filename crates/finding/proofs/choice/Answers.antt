use Rattle.std.proofs.Common.{ap, refl, arith}
use Rattle.std.specs.Prelude.{unwrap_or}
use Rattle.finding.proofs.Frontends.{is_nought, choosing_take, choosing_leave, choosing_end}
use Rattle.finding.proofs.choice.Goals as goal
use Rattle.finding.proofs.choice.Goals.{then-from-last, else-from-last}

pub loop-f-preserved : goal.loop-f-preserved
loop-f-preserved c = let l = c.loop-f.invariant in
    let sets = c.free_sets-sets.result in
    let size = c.size_of-size.ensures in
    let fits = c.has_source.ensures in
    let low = c.loop-f-test.true in
    let none = is_nought c.loop-f.best c.is_none.result l.1 c.is_none.ensures in (
      omega (arith, l.0),
      elim c.if-from-last.branch [
        | then-from-last w ↦ rw w.best-is low
        | else-from-last w ↦ rw w.best-is l.1
      ],
      λ t e q.
          elim c.if-from-last.branch [
            | then-from-last w ↦
                choosing_take sets e (l.2 t e q) low fits size q (rw (none, c.from.ensures) at w.if-from-last.true) (ap (λ o. unwrap_or o 0) w.best-is) w.least-is
            | else-from-last w ↦
                choosing_leave sets e (l.2 t e q) low fits size q (rw (none, c.from.ensures) at w.if-from-last.false) (ap (λ o. unwrap_or o 0) w.best-is) w.least-is
          ],
    )

pub returns : goal.returns
returns c = let l = c.loop-f.invariant in choosing_end _ _ c.loop-f.best (omega (arith, c.loop-f-test.false)) l.1 (l.2 _ c.free_sets-sets.ensures refl)
