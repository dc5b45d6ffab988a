-- A request whose status is not 200 does no more than its sweep and, where it passes step 11, set the last time of the session that it names. It stands apart from
-- `Requests`, on which it rests, so that a wrong table there is refused where it stands. Assumes nothing.
use mathlib.Core.Path.{◌≡◌, ap}
use mathlib.Core.Bool.{false}
use mathlib.Core.List.{List, append-nil}
use Prim.Native.Nat.{ℕ}
use Rattle.table.specs.declared.SatBox.{SatBox}
use Rattle.steps.specs.Steps.{is_passed}
use Rattle.closings.specs.Closing.{did, sweeping}
use Rattle.satbox.specs.Calls.{requested}
use Rattle.promises.proofs.Requests.{left, answered_still}

-- and so the request does what its sweep does, and no more
pub requested_still : (s : List ℕ) (clock address draw : ℕ) (t : SatBox) → is_passed (requested s clock address draw t).case ≡ false
    → (requested s clock address draw t).did ≡ did (left s (sweeping clock t).satbox) (sweeping clock t).records
unfolding requested
requested_still s clock address draw t n =
    let u = sweeping clock t in
    rw (answered_still s address draw u.satbox n) (ap (λ rs. did (left s u.satbox) rs) (append-nil u.records))
