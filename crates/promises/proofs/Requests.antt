-- A request keeps a table well formed, whatever its bytes are; and steps 1 to 18 of one whose status is not 200 do no more than, where it passes step 11, set the
-- last time of the session that it names (`Still` says it with the sweep before them). Assumes nothing.
use mathlib.Core.Path.{◌≡◌, refl}
use mathlib.Core.Bool.{false, cond}
use mathlib.Core.List.{List}
use Prim.Native.Nat.{ℕ, ◌<◌}
use Rattle.std.specs.Prelude.{None}
use Rattle.scan.proofs.Bools.{cond_keeps}
use Rattle.refusals.specs.Refusals as reading
use Rattle.reader.specs.Request.{request_refusal}
use Rattle.reader.proofs.RequestLaws.{passed_is}
use Rattle.table.specs.declared.SatBox.{SatBox}
use Rattle.steps.specs.Sights.{asked_of, lists_of}
use Rattle.steps.specs.Steps.{is_passed, read_case}
use Rattle.closings.specs.Closing.{nothing, sweeping}
use Rattle.serving.specs.Serving.{kept, Serving, served, denied, client_of, answered}
use Rattle.satbox.specs.Calls.{request_outcome, requested, replied}
use Rattle.closings.proofs.Keeping.{Whole}
use Rattle.serving.proofs.Kept.{kept_whole}
use Rattle.satbox.proofs.Kept.{done_keeps, sweeping_whole}
use Rattle.promises.proofs.Serving.{Fit, served_whole, denied_still}

-- what holds where steps 1 to 10 let a request through, and where one of them refuses it, holds of every request
pub answered_by : (s : List ℕ) (address draw : ℕ) (t : SatBox) (P : Serving → Type 0)
    → (request_refusal t.settings.frontends s ≡ None → P (let a = asked_of t.settings.frontends s in served (kept a t) a (lists_of s) (client_of address draw a)))
    → (reading.is_read (request_refusal t.settings.frontends s) ≡ false → P (denied t (read_case (request_refusal t.settings.frontends s)))) → P (answered s address draw t)
unfolding answered
answered_by s address draw t P f g =
    cond_keeps P (reading.is_read (request_refusal t.settings.frontends s)) _ _ (λ e. f (passed_is (request_refusal t.settings.frontends s) e)) g

-- what steps 1 to 10 let through has values and a port as a table may hold them; proved in `Reading`
abbrev pub Reads : Type 0
Reads = (frontends : ℕ) (s : List ℕ) → request_refusal frontends s ≡ None → Fit (asked_of frontends s)

-- A REQUEST KEEPS THE TABLE WELL FORMED, whatever its bytes s, with any address and any 32-bit draw
module _ (reads : Reads) (s : List ℕ) (address draw : ℕ) (short : draw < 4294967296) where
  -- steps 1 to 18, on a table that was swept
  pub answered_whole : (t : SatBox) → Whole t → Whole (answered s address draw t).did.satbox
  answered_whole t w =
      let a = asked_of t.settings.frontends s in
      answered_by s address draw t (λ (x : Serving). Whole x.did.satbox)
      (λ e. served_whole (kept a t) a (lists_of s) (client_of address draw a) (kept_whole a t w) (reads t.settings.frontends s e) refl short) (λ e. w)

  -- the sweep at any clock, and then those
  pub requested_whole : (clock : ℕ) (t : SatBox) → Whole t → Whole (requested s clock address draw t).did.satbox
  unfolding requested
  requested_whole clock t w = answered_whole (sweeping clock t).satbox (sweeping_whole clock t w)

  -- the call, with any answer buffer b and any journal j: refused by number 1, 2 or 3 it leaves the table as it was
  pub replied_whole : (clock : ℕ) (t : SatBox) (b j : List ℕ) → Whole t → Whole (replied s clock address draw t b j).satbox
  unfolding replied
  replied_whole clock t b j w =
      done_keeps (request_outcome t j b) t (requested s clock address draw t).did.satbox w (requested_whole clock t w)

-- THE TABLE THAT IS LEFT where the status is not 200: as it was or, order 3, where steps 1 to 10 let the request through, with the last time of the
-- session that it names
abbrev pub left : List ℕ → SatBox → SatBox
left s t = cond (reading.is_read (request_refusal t.settings.frontends s)) (kept (asked_of t.settings.frontends s) t) t

-- "A STATUS OTHER THAN 200 CHANGES NOTHING BEYOND THE SWEEP", but for that: steps 1 to 18 leave no other table, and write no record
pub answered_still : (s : List ℕ) (address draw : ℕ) (t : SatBox) → is_passed (answered s address draw t).case ≡ false → (answered s address draw t).did ≡ nothing (left s t)
answered_still s address draw t =
    let a = asked_of t.settings.frontends s in
    answered_by s address draw t (λ (x : Serving). is_passed x.case ≡ false → x.did ≡ nothing (left s t))
    (λ e. rw e (denied_still (kept a t) a (lists_of s) (client_of address draw a))) (λ e n. rw e)
