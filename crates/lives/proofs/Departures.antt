-- What becomes of each session in a closing and in a sweep: it stays as it is, or it leaves and its closing's record is written. It stands apart from `Fates`, on
-- which it rests, so that another record there is refused where it stands. Assumes nothing.
use mathlib.Core.Path.{◌≡◌, refl, sym, ◌∙◌, ap, subst}
use mathlib.Core.Bool.{false}
use mathlib.Core.List.{[]}
use Prim.Native.Nat.{ℕ, ◌≤◌, ◌<◌}
use native.Mathlib.Omega.{arith}
use lib.Dec.{eqb}
use lib.Seq.{get_or-set_other}
use Rattle.scan.proofs.Bools.{Same, same, other, sames, cond_keeps}
use Rattle.stream.specs.Streams.{no_stream}
use Rattle.stream.specs.declared.Stream.{Stream}
use Rattle.table.specs.Table.{count, no_session, session_at, stream_of, is_on}
use Rattle.table.specs.declared.Session.{Session}
use Rattle.table.specs.declared.SatBox.{SatBox}
use Rattle.table.proofs.Counts.{get_or_set_here, count_zero_at, count_cleared_none}
use Rattle.closings.specs.Closing.{Did, nothing, then, upto, restreamed, reseated, noting, close_one, close_on, cascade, closing, is_expired, sweep_at}
use Rattle.closings.specs.Does.{Roomy, Closable}
use Rattle.closings.proofs.Closings.{free, closable, close_one_fine, close_on_fine}
use Rattle.closings.proofs.Keeping.{Whole, whole_roomy, sweep_at_whole, cascade_sessions}
use Rattle.closings.proofs.Runs.{upto_holds}
use Rattle.promises.proofs.Retuning.{stream_other}
use Rattle.lives.proofs.Fates.{is_closing, Fate, stays, leaves, Fates, any_left, fates_nothing, fates_then, closing_noted, off_stream}

-- ONE CLOSING
one_fate : (cause i : ℕ) (t : SatBox) → Closable t i → (k : ℕ) → Same k i → Fate t (close_one cause i t) (session_at t k) (session_at (close_one cause i t).satbox k)
unfolding close_one noting reseated
one_fate cause i t h k (same e) =
    subst (λ n. Fate t (close_one cause i t) (session_at t n) (session_at (close_one cause i t).satbox n)) (sym e)
    (leaves (get_or_set_here (λ x. x ≡ no_session) t.sessions i no_session no_session refl refl) h.some (closing_noted cause i t))
one_fate cause i t h k (other e) = stays (get_or-set_other t.sessions i k no_session no_session e) (λ some. refl)

close_one_fates : (cause i : ℕ) (t : SatBox) → Closable t i → Fates t (close_one cause i t)
close_one_fates cause i t h = record { clock = (close_one_fine t i h cause).clock; each = λ k. one_fate cause i t h k (sames k i) }

close_on_fates : (id i : ℕ) (t : SatBox) → i < 32 → Roomy t → Fates t (close_on id i t)
unfolding close_on
close_on_fates id i t h r =
    cond_keeps (Fates t) (is_on id (session_at t i)) (close_one 3 i t) (nothing t) (λ e. close_one_fates 3 i t (closable t i _ h r e)) (λ e. fates_nothing t)

cascade_fates : (id : ℕ) (t : SatBox) → Roomy t → Fates t (cascade id t)
unfolding cascade
cascade_fates id t r =
    upto_holds Roomy Fates fates_nothing fates_then (close_on id) 32 (λ i u h q. (close_on_fine id i u h q).roomy) (close_on_fates id) t r 32 (omega arith)

-- A STREAM IS FREED that nobody is on
module _ (t : SatBox) (d : Did) (id : ℕ) (none : count (is_on id) d.satbox.sessions ≡ 0) where
  freed_fate : (k : ℕ) (s : Session) → Fate t d s (session_at d.satbox k) → Fate t (then d (free id)) s (session_at d.satbox k)
  unfolding restreamed
  freed_fate k s (stays e f) =
      stays e
      (λ some.
      let off : is_on id s ≡ false = subst (λ (x : Session). is_on id x ≡ false) e (count_zero_at (is_on id) d.satbox.sessions k no_session refl none) in
      ap (λ (m : Stream). m.frontend) (stream_other id s.stream no_stream d.satbox.streams (off_stream id s off some)) ∙ f some)
  freed_fate k s (leaves e some y) = leaves e some (any_left (is_closing t.clock (stream_of t s.stream).frontend s) d.records [] y)

  fates_freed : Fates t d → Fates t (then d (free id))
  unfolding restreamed
  fates_freed p = record { clock = p.clock; each = λ k. freed_fate k (session_at t k) (p.each k) }

-- A CLOSING
module _ (cause i : ℕ) (t : SatBox) (c : Closable t i) where
  started_fates : (id : ℕ) → Fates t (then (close_one cause i t) (cascade id))
  started_fates id =
      fates_then t (close_one cause i t) (cascade id) (close_one_fates cause i t c) (cascade_fates id (close_one cause i t).satbox (close_one_fine t i c cause).roomy)

  -- after its cascade nobody is on the stream
  pub gone : (id : ℕ) → count (is_on id) (cascade id (close_one cause i t).satbox).satbox.sessions ≡ 0
  gone id =
      rw (cascade_sessions id (close_one cause i t).satbox (close_one_fine t i c cause).roomy.places)
      (count_cleared_none (is_on id) no_session refl (close_one cause i t).satbox.sessions)

  pub closing_fates : Fates t (closing cause i t)
  unfolding closing
  closing_fates =
      let id = (session_at t i).stream in
      cond_keeps (Fates t) (eqb (session_at t i).owner 0) (close_one cause i t) _ (λ e. close_one_fates cause i t c)
      (λ e. fates_freed t (then (close_one cause i t) (cascade id)) id (gone id) (started_fates id))

-- A SWEEP
sweep_at_fates : (i : ℕ) (t : SatBox) → i < 32 → Whole t → Fates t (sweep_at i t)
unfolding sweep_at
sweep_at_fates i t h w =
    cond_keeps (Fates t) (is_expired t.clock (session_at t i)) (closing 2 i t) (nothing t)
    (λ e. closing_fates 2 i t (closable t i _ h (whole_roomy t w) e)) (λ e. fates_nothing t)

pub upto_fates : (t : SatBox) → Whole t → (n : ℕ) → n ≤ 32 → Fates t (upto sweep_at n t)
upto_fates t w n h = upto_holds Whole Fates fates_nothing fates_then sweep_at 32 sweep_at_whole sweep_at_fates t w n h
