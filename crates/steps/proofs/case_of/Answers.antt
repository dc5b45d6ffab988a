use Rattle.steps.specs.Steps.{table_case}
use Rattle.steps.proofs.case_of.Goals as goal

pub returns-then-lacks_session : goal.returns-then-lacks_session
unfolding table_case
returns-then-lacks_session c = rw (← c.lacks_session.ensures, c.if-lacks_session.true)

pub returns-then-is_dead : goal.returns-then-is_dead
unfolding table_case
returns-then-is_dead c = rw (← c.lacks_session.ensures, c.if-lacks_session.false, ← c.is_dead.ensures, c.if-is_dead.true)

pub returns-then-is_out_of_state : goal.returns-then-is_out_of_state
unfolding table_case
returns-then-is_out_of_state c = rw (← c.lacks_session.ensures, c.if-lacks_session.false, ← c.is_dead.ensures, c.if-is_dead.false, ← c.is_out_of_state.ensures, c.if-is_out_of_state.true)

pub returns-then-is_anothers : goal.returns-then-is_anothers
unfolding table_case
returns-then-is_anothers c = rw (← c.lacks_session.ensures, c.if-lacks_session.false, ← c.is_dead.ensures, c.if-is_dead.false)
    (rw (← c.is_out_of_state.ensures, c.if-is_out_of_state.false, ← c.is_anothers.ensures, c.if-is_anothers.true))

pub returns-then-lacks_port : goal.returns-then-lacks_port
unfolding table_case
returns-then-lacks_port c = rw (← c.lacks_session.ensures, c.if-lacks_session.false, ← c.is_dead.ensures, c.if-is_dead.false)
    (rw (← c.is_out_of_state.ensures, c.if-is_out_of_state.false, ← c.is_anothers.ensures, c.if-is_anothers.false)
    (rw (← c.lacks_port.ensures, c.if-lacks_port.true)))

pub returns : goal.returns
unfolding table_case
returns c = rw (← c.lacks_session.ensures, c.if-lacks_session.false, ← c.is_dead.ensures, c.if-is_dead.false)
    (rw (← c.is_out_of_state.ensures, c.if-is_out_of_state.false, ← c.is_anothers.ensures, c.if-is_anothers.false)
    (rw (← c.lacks_port.ensures, c.if-lacks_port.false)))
