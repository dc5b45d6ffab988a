use Rattle.std.proofs.Common.{◌≡◌, true, sym, arith, eq-eqb}
use Rattle.table.specs.Table.{no_session, has_number}
use Rattle.finding.proofs.Draws.{is_taken, drawing_start, drawing_less, drawing_more, taken_zero, taken_open}
use Rattle.table.proofs.NumberLaws.{lacking_hit}
use Rattle.finding.proofs.draw.Goals as goal
use Rattle.finding.proofs.draw.Goals.{After-wrapping_add_u32-n, then-n-ne0+else-loop-i-test, then-n-ne0+then-loop-i-test+else-i-eq-SESSIONS+then-sessions-i, else-n-ne0}

-- the number is 0, or a session has it; the scan never comes to its end
taken : (c : After-wrapping_add_u32-n) → is_taken c.args.sessions.now c.draw.n ≡ true
taken c =
    let l = c.args.sessions.now in
    let n = c.draw.n in
    elim c.if-n-ne0.branch [
      | then-n-ne0+else-loop-i-test w ↦ absurd (omega (arith, w.loop-i.invariant.inside, c.draw.invariant.0))
      | then-n-ne0+then-loop-i-test+else-i-eq-SESSIONS+then-sessions-i w ↦
          taken_open l n (sym (lacking_hit (has_number n) no_session w.loop-i.invariant (omega arith) (eq-eqb _ _ w.if-sessions-i.true)))
      | else-n-ne0 w ↦ taken_zero l n w.if-n-ne0.false
    ]

pub draw-init : goal.draw-init
draw-init c = (c.told-sessions, (33, drawing_start c.args.sessions.now c.args.draw c.told-sessions (omega arith)))

pub draw-smaller : goal.draw-smaller
draw-smaller c = drawing_less c.draw.invariant.1.1 (taken c) c.wrapping_add_u32-n.ensures.value

pub draw-preserved : goal.draw-preserved
draw-preserved c = (c.draw.invariant.0, drawing_more c.draw.invariant.1.1 (taken c) c.wrapping_add_u32-n.ensures.value)
