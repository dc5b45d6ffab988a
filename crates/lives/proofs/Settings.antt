-- No call moves what is fixed when a box is made, and the clock is the larger of the box's and the call's. Assumes nothing.
use Rattle.std.specs.Prelude.{Ok, Err}
use mathlib.Core.Path.{◌≡◌, refl, ◌∙◌}
use mathlib.Core.List.{List}
use Prim.Native.Nat.{ℕ, max}
use Rattle.scan.proofs.Bools.{cond_keeps}
use Rattle.stream.specs.declared.Stream.{Stream}
use Rattle.finding.specs.Finding.{lowest_id}
use Rattle.table.specs.declared.Session.{Session}
use Rattle.table.specs.declared.SatBox.{SatBox}
use Rattle.table.specs.Made.{Outcome}
use Rattle.closings.specs.Closing.{Did, nothing, restreamed, reseated, noting, closing, sweeping, at_clock}
use Rattle.closings.specs.Does.{Closable}
use Rattle.serving.specs.Serving.{guest, seating_as as seated, can_join, joining, can_open, opening}
use Rattle.serving.specs.Serving.{with_session, answered}
use Rattle.satbox.specs.Calls.{if_done, tick_outcome, emptied, ticked, collect_outcome, collected, request_outcome, requested, replied}
use Rattle.serving.specs.declared.opening.Client.{Client}
use Rattle.closings.proofs.Closings.{closing_fine, swept_fine}
use Rattle.closings.proofs.Keeping.{Whole, whole_roomy, clock_whole}
use Rattle.satbox.proofs.Kept.{sweeping_whole}
use Rattle.lives.specs.Calls.{Lent, Call, request, tick, collect, order, lent, Life, live}
use Rattle.lives.proofs.Requests.{Retuned, as_it_was, merged, answered_holds}

-- u is a box of t's settings, at a clock
pub record Set (t : SatBox) (now : ℕ) (u : SatBox) : Type 0 where
  pub settings : u.settings ≡ t.settings
  pub clock : u.clock ≡ now

abbrev Sets : SatBox → Did → Type 0
Sets t d = Set t t.clock d.satbox

same_set : (t : SatBox) → Set t t.clock t
same_set t = record { settings = refl; clock = refl }

-- A SWEEP
pub sweeping_set : (clock : ℕ) (t : SatBox) → Whole t → Set t (max t.clock clock) (sweeping clock t).satbox
unfolding at_clock
sweeping_set clock t w =
    let f = swept_fine (at_clock clock t) (whole_roomy (at_clock clock t) (clock_whole clock t w)) in
    record { settings = f.settings; clock = f.clock }

-- AN OPENING
joining_set : (id : ℕ) (client : Client) (t : SatBox) → Sets t (joining id client t)
unfolding joining seated noting reseated
joining_set id client t =
    cond_keeps (Sets t) (can_join id t) (seated 2 (guest 0 id client t) t) (nothing t)
    (λ e. record { settings = refl; clock = refl }) (λ e. same_set t)

opening_set : (m : Stream) (client : Client) (t : SatBox) → Sets t (opening m client t)
unfolding opening seated noting reseated restreamed
opening_set m client t =
    let id = lowest_id t.streams in
    cond_keeps (Sets t) (can_open m.values.src m.frontend t) (seated 1 (guest 1 id client t) (restreamed id m t)) (nothing t)
    (λ e. record { settings = refl; clock = refl }) (λ e. same_set t)

-- A SESSION CHANGED in its place, with a query merged or not
changed_set : {t u : SatBox} (place : ℕ) (s : Session) → Retuned t u → Sets t (nothing (with_session place s u))
unfolding with_session restreamed
changed_set place s as_it_was = record { settings = refl; clock = refl }
changed_set place s (merged id m e) = record { settings = refl; clock = refl }

closing_set : (place : ℕ) (t : SatBox) → Closable t place → Sets t (closing 1 place t)
closing_set place t c = let f = closing_fine 1 place t c in record { settings = f.settings; clock = f.clock }

answered_set : (s : List ℕ) (address draw : ℕ) (t : SatBox) → Whole t → Sets t (answered s address draw t).did
answered_set s address draw t w =
    answered_holds s address draw t w (Sets t)
    (record {
      still = same_set t;
      changed = λ place s k u r. changed_set place s r;
      joined = λ id client e. joining_set id client t;
      opened = λ m client e. opening_set m client t;
      closed = λ tears passed place c. closing_set place t c;
    })

-- A REQUEST
pub requested_set : (s : List ℕ) (clock address draw : ℕ) (t : SatBox) → Whole t → Set t (max t.clock clock) (requested s clock address draw t).did.satbox
unfolding requested
requested_set s clock address draw t w =
    let u = (sweeping clock t).satbox in
    let a = sweeping_set clock t w in
    let b = answered_set s address draw u (sweeping_whole clock t w) in
    record { settings = b.settings ∙ a.settings; clock = b.clock ∙ a.clock }

-- EVERY CALL, on any well-formed table
module _ (x : Life) (w : Whole x.satbox) where
  abbrev t : SatBox
  t = x.satbox

  abbrev own : Lent → List ℕ
  own l = lent l x.journal

  if_done_law : (o : Outcome) (u : SatBox) → u.settings ≡ t.settings → (if_done o u t).settings ≡ t.settings
  if_done_law (Ok o) u e = e
  if_done_law (Err r) u e = refl

  pub settings_stay : (c : Call) → (live c x).satbox.settings ≡ t.settings
  unfolding live replied ticked collected emptied
  settings_stay (request s clock address draw b l) = if_done_law (request_outcome t (own l) b) (requested s clock address draw t).did.satbox (requested_set s clock address draw t w).settings
  settings_stay (tick clock l) = if_done_law (tick_outcome t (own l)) (sweeping clock t).satbox (sweeping_set clock t w).settings
  settings_stay (collect b l) = if_done_law (collect_outcome t (own l) b) (emptied t) refl
  settings_stay (order n) = refl
