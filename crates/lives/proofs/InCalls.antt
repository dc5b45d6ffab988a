-- What a sweep and a TEARDOWN close is closed in the call that they are part of. Assumes nothing.
use Rattle.std.specs.Prelude.{Ok}
use mathlib.Core.Path.{◌≡◌, sym, subst}
use mathlib.Core.Bool.{Bool, true}
use mathlib.Core.List.{List, []}
use Prim.Native.Nat.{ℕ, max}
use Rattle.aim.specs.declared.Method.TheVariants.{Teardown}
use Rattle.reader.specs.Request.{method_of}
use Rattle.journal.specs.declared.Record.{Record}
use Rattle.table.specs.Table.{any, is_open, session_at, stream_of, is_on, owns}
use Rattle.table.specs.declared.SatBox.{SatBox}
use Rattle.table.specs.Made.{Outcome}
use Rattle.steps.specs.Steps.{is_passed}
use Rattle.closings.specs.Closing.{is_expired, sweeping, at_clock}
use Rattle.satbox.specs.Calls.{if_done, request_outcome, requested, replied}
use Rattle.serving.specs.Serving.{answered}
use Rattle.closings.proofs.Keeping.{Whole, clock_whole}
use Rattle.satbox.proofs.Kept.{sweeping_whole}
use Rattle.lives.specs.Calls.{Lent, lent, Call, request, Life, live}
use Rattle.lives.specs.Closed.{Closed, place_named_by, Sweeps, in_request, in_tick}
use Rattle.lives.proofs.Lived.{lived, lived_as}
use Rattle.lives.proofs.Fates.{is_closing, any_left, any_right}
use Rattle.lives.proofs.Sweeps.{expired_closed, lost_closed}
use Rattle.lives.proofs.Teardowns.{torn_closed, left_with_owner}

-- more records are written beside
closed_in : {t u : SatBox} {i : ℕ} {rs qs : List Record} → ((p : Record → Bool) → any p rs ≡ true → any p qs ≡ true) → Closed t i u rs → Closed t i u qs
closed_in {t} {u} {i} f c =
    record { free = c.free; noted = f (is_closing u.clock (stream_of t (session_at t i).stream).frontend (session_at t i)) c.noted }

-- the sweep's records are among those of its call, where that was done
swept_as : {clock : ℕ} {c : Call} → Sweeps clock c → (x : Life) → (lived_as c x).outcome ≡ Ok tt → (p : Record → Bool) → any p (sweeping clock x.satbox).records ≡ true → any p (lived_as c x).records ≡ true
unfolding requested
swept_as (in_request {s = s} {clock = clock} {address = address} {draw = draw}) x e p y =
    subst (λ (o : Outcome). any p (if_done o (requested s clock address draw x.satbox).did.records []) ≡ true) (sym e)
    (any_left p (sweeping clock x.satbox).records (answered s address draw (sweeping clock x.satbox).satbox).did.records y)
swept_as (in_tick {clock = clock}) x e p y = subst (λ (o : Outcome). any p (if_done o (sweeping clock x.satbox).records []) ≡ true) (sym e) y

swept_in : {clock : ℕ} {c : Call} → Sweeps clock c → (x : Life) → (live c x).outcome ≡ Ok tt → (p : Record → Bool) → any p (sweeping clock x.satbox).records ≡ true → any p (live c x).records ≡ true
swept_in {c = c} s x e = rw (lived c x) (swept_as s x (rw (lived c x) at e))

-- a later clock changes no session
clock_closed : (clock : ℕ) {t u : SatBox} {i : ℕ} {rs : List Record} → Closed (at_clock clock t) i u rs → Closed t i u rs
unfolding at_clock
clock_closed clock c = record { free = c.free; noted = c.noted }

module _ (clock : ℕ) (c : Call) (sweeps : Sweeps clock c) (x : Life) (done : (live c x).outcome ≡ Ok tt) (w : Whole x.satbox) where
  -- WHAT EXPIRES
  pub expired_in : (i : ℕ) → is_expired (max x.satbox.clock clock) (session_at x.satbox i) ≡ true → Closed x.satbox i (sweeping clock x.satbox).satbox (live c x).records
  unfolding at_clock
  expired_in i y =
      closed_in (swept_in sweeps x done) (clock_closed clock (expired_closed (at_clock clock x.satbox) (clock_whole clock x.satbox w) i y))

  -- WHAT LOSES ITS OWNER
  pub lost_in : (i m : ℕ) → is_open (session_at x.satbox i) ≡ true → owns (session_at x.satbox i).stream (session_at x.satbox m) ≡ true → is_expired (max x.satbox.clock clock) (session_at x.satbox m) ≡ true
      → Closed x.satbox i (sweeping clock x.satbox).satbox (live c x).records
  unfolding at_clock
  lost_in i m some own y =
      closed_in (swept_in sweeps x done) (clock_closed clock (lost_closed (at_clock clock x.satbox) (clock_whole clock x.satbox w) i m some own y))

-- A TEARDOWN
module _ (s : List ℕ) (clock address draw : ℕ) (b : List ℕ) (l : Lent) (x : Life) (done : request_outcome x.satbox (lent l x.journal) b ≡ Ok tt) (w : Whole x.satbox) where
  abbrev u : SatBox
  u = (sweeping clock x.satbox).satbox

  abbrev c : Call
  c = request s clock address draw b l

  -- its own records are among those of its call, and what it leaves is what the call leaves
  answer_closed : {i : ℕ} → Closed u i (answered s address draw u).did.satbox (answered s address draw u).did.records → Closed u i (live c x).satbox (live c x).records
  unfolding requested
  answer_closed {i} k = rw (lived c x)
      (subst (λ (o : Outcome). Closed u i (if_done o (requested s clock address draw x.satbox).did.satbox x.satbox) (if_done o (requested s clock address draw x.satbox).did.records [])) (sym done)
      (closed_in (λ p. any_right p (sweeping clock x.satbox).records (answered s address draw u).did.records) k))

  module _ (tears : method_of s ≡ Teardown) (passed : is_passed (requested s clock address draw x.satbox).case ≡ true) where
    pub torn_in : Closed u (place_named_by s u) (live c x).satbox (live c x).records
    unfolding requested
    torn_in = answer_closed (torn_closed s address draw u (sweeping_whole clock x.satbox w) tears passed)

    pub left_in : ((session_at u (place_named_by s u)).owner ≡ 0 → ⊥) → (i : ℕ) → is_on (session_at u (place_named_by s u)).stream (session_at u i) ≡ true
        → Closed u i (live c x).satbox (live c x).records
    unfolding requested
    left_in own i on = answer_closed (left_with_owner s address draw u (sweeping_whole clock x.satbox w) tears passed own i on)
