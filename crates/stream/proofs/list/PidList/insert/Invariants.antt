use mathlib.Core.Path.{◌≡◌}
use Rattle.stream.proofs.Shifts.{Opening}
use Rattle.stream.proofs.list.PidList.insert.Given as goal

abbrev pub invariant-loop-i : goal.invariant-loop-i
invariant-loop-i l =
    (l.self-inside.count ≡ l.initial.self-inside.count) × Opening l.initial.self-inside.pids l.initial.self-inside.count l.at l.p l.self-inside.pids l.carried l.i
