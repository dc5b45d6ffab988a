use mathlib.Core.Path.{ap}
use Rattle.table.proofs.Places.{known}
use Rattle.formed.proofs.Rows.{unused_placed, live_placed, sounding_not, sounding_more}
use Rattle.std.proofs.Common.{not}
use Rattle.formed.proofs.are_sound.Goals as goal
use Rattle.formed.proofs.are_sound.Goals.{then-feed-eq0+else-not-is_unused, else-feed-eq0+else-not-is_placed}

pub returns-then-not-is_unused : goal.returns-then-not-is_unused
returns-then-not-is_unused c = sounding_not c.loop-k.invariant (search known) (unused_placed c.loop-k.invariant (search known) c.if-feed-eq0.true c.is_unused.ensures) _ (ap not c.if-not-is_unused.true)

pub loop-k-preserved : goal.loop-k-preserved
loop-k-preserved c =
    let v = c.loop-k.invariant in
    elim c.if-feed-eq0.branch [
      | then-feed-eq0+else-not-is_unused w ↦ sounding_more v (search known) (unused_placed v (search known) w.if-feed-eq0.true w.is_unused.ensures) c.from.ensures (ap not w.if-not-is_unused.false)
      | else-feed-eq0+else-not-is_placed w ↦ sounding_more v (search known) (live_placed v (search known) w.if-feed-eq0.false w.is_placed.ensures) c.from.ensures (ap not w.if-not-is_placed.false)
    ]
