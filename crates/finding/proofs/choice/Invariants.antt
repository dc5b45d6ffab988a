use Rattle.std.proofs.Common.{◌≡◌, ◌≤◌, ◌<◌}
use Rattle.std.specs.Prelude.{unwrap_or, IfSome}
use Rattle.table.specs.declared.SatBox.{SatBox}
use Rattle.finding.proofs.Frontends.{FreeSets, Choosing}
use Rattle.finding.proofs.choice.Given as goal

abbrev pub invariant-loop-f : goal.invariant-loop-f
invariant-loop-f l = (l.f ≤ 8) × (IfSome l.best (λ f. 0 < f)) × ((t : SatBox) → FreeSets t l.sets → l.last ≡ t.settings.frontends → Choosing t l.source (unwrap_or l.best 0) l.least l.f)
