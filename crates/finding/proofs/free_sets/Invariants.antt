use Rattle.std.proofs.Common.{◌≡◌, length}
use Rattle.finding.proofs.Frontends.{Freeing}
use Rattle.finding.proofs.free_sets.Given as goal

abbrev pub invariant-loop-m : goal.invariant-loop-m
invariant-loop-m l = (length l.streams ≡ 8) × Freeing l.fn.settings l.streams l.sets l.m-index
