use Rattle.std.proofs.Common.{◌≡◌, ℕ, length}
use Rattle.table.specs.Table.{has_number}
use Rattle.finding.proofs.Draws.{Drawing, to_pass}
use Rattle.table.proofs.NumberLaws.{Lacking}
use Rattle.finding.proofs.draw.Given as goal

abbrev pub invariant-loop-i : goal.invariant-loop-i
invariant-loop-i l = Lacking (has_number l.n) l.sessions l.i

abbrev pub invariant-draw : goal.invariant-draw
invariant-draw l = (length l.sessions ≡ 32) × ((more : ℕ) × Drawing l.sessions l.draw l.n more)

abbrev pub decreases-draw : goal.decreases-draw
decreases-draw l = to_pass l.sessions l.draw l.n
