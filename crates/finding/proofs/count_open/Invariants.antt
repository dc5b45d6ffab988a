use Rattle.std.proofs.Common.{◌≡◌, length}
use Rattle.table.specs.Table.{is_open}
use Rattle.table.proofs.Places.{Counting}
use Rattle.finding.proofs.count_open.Given as goal

abbrev pub invariant-loop-s : goal.invariant-loop-s
invariant-loop-s l = (length l.sessions ≡ 32) × Counting is_open l.sessions l.s-index l.n
