-- A request, of any bytes and at any clock, holds 16 bytes more for each of its records, and the sequence rises by one with each. It stands apart from `Written`,
-- on which it rests, so that a wrong count there is refused where it stands. Assumes nothing.
use mathlib.Core.Path.{◌≡◌, refl}
use mathlib.Core.List.{List}
use Prim.Native.Nat.{ℕ, ◌+◌, ◌*◌}
use lib.Dec.{eqb}
use lib.ListN.{length}
use Rattle.scan.proofs.Bools.{cond_keeps}
use Rattle.aim.specs.declared.Method.{Method}
use Rattle.aim.specs.declared.Method.TheVariants.{Options, Setup, Play, Teardown, Other}
use Rattle.table.specs.declared.SatBox.{SatBox}
use Rattle.steps.specs.Sights.{Asked, Lists, asked_of, lists_of, sight_of}
use Rattle.steps.specs.Steps.{is_named}
use Rattle.closings.specs.Closing.{Did, nothing, restreamed, sweeping}
use Rattle.serving.specs.Serving.{stream_after, merges, with_session, kept, seat_after, Serving, retuning, seating, grant, served, client_of, answered}
use Rattle.satbox.specs.Calls.{requested}
use Rattle.serving.specs.declared.opening.Client.{Client}
use Rattle.closings.proofs.Keeping.{Whole}
use Rattle.satbox.proofs.Kept.{sweeping_whole}
use Rattle.serving.proofs.RecordLaws.{Numbered}
use Rattle.serving.proofs.Kept.{kept_by, kept_whole}
use Rattle.serving.proofs.Passing.{Untested}
use Rattle.promises.proofs.Passing.{served_by, tears_closable}
use Rattle.promises.proofs.Requests.{answered_by}
use Rattle.promises.proofs.Written.{Counted, quiet_counted, counted_then, joining_counted, opening_counted, closing_counted, sweeping_counted}

module _ (t : SatBox) (a : Asked) (l : Lists) (client : Client) (w : Whole t) where
  retuning_counted : Counted t (retuning t a l).did
  unfolding with_session restreamed
  retuning_counted =
      cond_keeps (λ (u : SatBox). Counted t (nothing (with_session (sight_of t a).place (seat_after (sight_of t a)) u))) (merges (sight_of t a)) (restreamed a.stream (stream_after t a l) t) t
      (λ e. quiet_counted t _ refl refl) (λ e. quiet_counted t _ refl refl)

  grant_counted : Untested (sight_of t a) → (m : Method) → a.method ≡ m → Counted t (grant m t a l client).did
  unfolding sight_of with_session
  grant_counted p Options e = quiet_counted t t refl refl
  grant_counted p Setup e =
      cond_keeps (λ (x : Serving). Counted t x.did) (is_named (sight_of t a)) (retuning t a l) (seating t a l client) (λ h. retuning_counted)
      (λ h. cond_keeps (λ (x : Serving). Counted t x.did) (eqb a.stream 0) _ _ (λ z. opening_counted (stream_after t a l) client t) (λ z. joining_counted a.stream client t))
  grant_counted p Play e = retuning_counted
  grant_counted p Teardown e = closing_counted 1 (sight_of t a).place t (tears_closable t a w p e)
  grant_counted p Other e = quiet_counted t t refl refl

  pub served_counted : Counted t (served t a l client).did
  served_counted =
      served_by t a l client (λ (x : Serving). Counted t x.did) (λ p q. grant_counted p a.method refl) (λ e. quiet_counted t t refl refl)

-- the session that is named is kept, and nothing is written of it
kept_counted : (a : Asked) (t : SatBox) (d : Did) → Counted (kept a t) d → Counted t d
unfolding with_session
kept_counted a t d =
    kept_by a t (λ u. Counted u d → Counted t d) (λ y p. record { held = p.held; sequence = p.sequence }) (λ n p. p)

module _ (s : List ℕ) (address draw : ℕ) where
  pub answered_counted : (t : SatBox) → Whole t → Counted t (answered s address draw t).did
  answered_counted t w =
      let a = asked_of t.settings.frontends s in
      answered_by s address draw t (λ (x : Serving). Counted t x.did) (λ e. kept_counted a t _ (served_counted (kept a t) a (lists_of s) (client_of address draw a) (kept_whole a t w)))
      (λ e. quiet_counted t t refl refl)

  pub requested_counted : (clock : ℕ) (t : SatBox) → Whole t → Counted t (requested s clock address draw t).did
  unfolding requested
  requested_counted clock t w =
      counted_then t (sweeping clock t) (λ u. (answered s address draw u).did) (sweeping_counted clock t w) (answered_counted (sweeping clock t).satbox (sweeping_whole clock t w))

  -- A REQUEST, of any bytes and at any clock: 16 BYTES MORE ARE HELD FOR EACH RECORD
  pub requested_held : (clock : ℕ) (t : SatBox) → Whole t
      → (requested s clock address draw t).did.satbox.held ≡ t.held + 16 * length (requested s clock address draw t).did.records
  requested_held clock t w = (requested_counted clock t w).held

  -- THE SEQUENCE "rises by one per record, wraps after 65535", and the table keeps the next
  pub requested_numbered : (clock : ℕ) (t : SatBox) → Whole t → Numbered t (requested s clock address draw t).did
  requested_numbered clock t w = (requested_counted clock t w).sequence
