-- What expires, loses its owner or is torn down is closed in that very call, and its record is written. Assumes nothing.
use mathlib.Core.Path.{◌≡◌, refl, sym, ◌∙◌, ap, subst}
use mathlib.Core.Bool.{true}
use Prim.Native.Nat.{ℕ}
use native.Mathlib.Omega.{arith}
use borrow.Author.Tests.{eq-eqb, eqb-true}
use Rattle.scan.proofs.Bools.{and_both, both}
use Rattle.table.specs.Table.{no_session, is_open, session_at, is_on, owns}
use Rattle.table.specs.declared.Session.{Session}
use Rattle.table.specs.declared.SatBox.{SatBox}
use Rattle.table.proofs.Changes.{opened}
use Rattle.closings.specs.Closing.{Did, is_expired, swept}
use Rattle.closings.proofs.Keeping.{Whole}
use Rattle.lives.specs.Closed.{Closed}
use Rattle.lives.proofs.Fates.{Fate, stays, leaves, Fates, noted_as}
use Rattle.lives.proofs.Departures.{upto_fates}
use Rattle.lives.proofs.Taking.{takes_self, takes_on}
use Rattle.lives.proofs.Visits.{swept_gone}

-- an open session whose place is free afterwards is closed
pub freed_closed : (t : SatBox) (d : Did) → Fates t d → (i : ℕ) → ((session_at t i).number ≡ 0 → ⊥) → session_at d.satbox i ≡ no_session → Closed t i d.satbox d.records
freed_closed t d p i some free = by (p.each i)
  where
    by : Fate t d (session_at t i) (session_at d.satbox i) → Closed t i d.satbox d.records
    by (stays e k) = absurd (some (ap (λ (x : Session). x.number) (sym e ∙ free)))
    by (leaves e was y) = record { free = e; noted = noted_as (session_at t i) d.records (sym p.clock) refl y }

module _ (t : SatBox) (w : Whole t) where
  pub swept_fates : Fates t (swept t)
  unfolding swept
  swept_fates = upto_fates t w 32 (omega arith)

  -- WHAT EXPIRES IS CLOSED
  pub expired_closed : (i : ℕ) → is_expired t.clock (session_at t i) ≡ true → Closed t i (swept t).satbox (swept t).records
  expired_closed i y =
      freed_closed t (swept t) swept_fates i (opened (session_at t i) (and_both (is_open (session_at t i)) _ y).0) (swept_gone t w i i y (takes_self (session_at t i)))

  -- WHAT LOSES ITS OWNER IS CLOSED
  pub lost_closed : (i m : ℕ) → is_open (session_at t i) ≡ true → owns (session_at t i).stream (session_at t m) ≡ true → is_expired t.clock (session_at t m) ≡ true
      → Closed t i (swept t).satbox (swept t).records
  lost_closed i m some own y =
      let s = session_at t m in
      let here : s.stream ≡ (session_at t i).stream = eqb-true _ _ (and_both (is_open s) _ (and_both (is_on (session_at t i).stream s) _ own).0).1 in
      freed_closed t (swept t) swept_fates i (opened (session_at t i) some)
      (swept_gone t w i m y (takes_on s (session_at t i) (subst (λ id. owns id s ≡ true) (sym here) own) (both some (eq-eqb (session_at t i).stream s.stream (sym here)))))
