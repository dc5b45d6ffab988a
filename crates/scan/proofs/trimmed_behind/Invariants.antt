use mathlib.Core.Path.{◌≡◌}
use lib.ListN.{length}
use Rattle.scan.specs.Text.{trim_end}
use Rattle.scan.proofs.trimmed_behind.Given as goal

abbrev pub invariant-loop-text : goal.invariant-loop-text
invariant-loop-text l = trim_end l.text ≡ trim_end l.s

abbrev pub decreases-loop-text : goal.decreases-loop-text
decreases-loop-text l = length l.text
