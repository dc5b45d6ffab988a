use native.Mathlib.Omega.{arith}
use Rattle.stream.proofs.Edits.{pid_small}
use Rattle.stream.proofs.list.PidList.obey.Goals as goal

pub overflow_cast-pid : goal.overflow_cast-pid
overflow_cast-pid g c = record { fits = omega (arith, pid_small _ c.number.ensures c.in-Some.is) }
