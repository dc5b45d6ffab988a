-- A table that is well formed stays so: a fresh box is, and whatever a tick, a collection, a merged query, an opening or a closing leaves.
-- Assumes nothing.
use Rattle.std.specs.Prelude.{Ok, Err}
use mathlib.Core.Path.{◌≡◌, refl, ◌∙◌, ap}
use mathlib.Core.Bool.{true, ◌||◌}
use mathlib.Core.List.{List, ◌∷◌}
use Prim.Native.Nat.{ℕ}
use native.Mathlib.Omega.{arith}
use lib.ListN.{get_or}
use borrow.Author.Tests.{eq-eqb, ne_eqb}
use Rattle.scan.proofs.Bools.{and_both, both, or_second, or_right, Same, same, other, sames}
use Rattle.stream.specs.Values.{given}
use Rattle.stream.specs.Streams.{past_stream, is_sound, merge_of, after_query}
use Rattle.stream.specs.Arrays.{are_fit}
use Rattle.stream.specs.declared.Stream.{Stream}
use Rattle.std.specs.Result.{IsOk}
use Rattle.stream.proofs.Keeping.{merge_sound, merge_frontend, merge_src}
use Rattle.table.specs.Table.{stream_of, is_dead}
use Rattle.table.specs.Reach.{has_source, set_of}
use Rattle.table.specs.Formed.{are_settings, is_placed}
use Rattle.table.specs.declared.Settings.{Settings}
use Rattle.table.specs.declared.SatBox.{SatBox}
use Rattle.table.specs.Made.{fresh, Outcome}
use Rattle.table.proofs.Rules.{formed}
use Rattle.table.proofs.Changes.{seats_fed, placed_at, rows_fed, by_id}
use Rattle.table.proofs.Fresh.{fresh_formed}
use Rattle.closings.specs.Closing.{restreamed, sweeping, at_clock}
use Rattle.satbox.specs.Calls.{if_done, ticked, tick_outcome, emptied, collected, collect_outcome}
use Rattle.closings.proofs.Closings.{with_length}
use Rattle.closings.proofs.Keeping.{Whole, swept_whole, clock_whole}

-- A FRESH BOX
pub fresh_whole : (s : Settings) → are_settings s ≡ true → Whole (fresh s)
fresh_whole s e = record { formed = formed (fresh s) (fresh_formed s e); places = refl; rows = refl }

-- a call that was refused leaves its table alone
pub done_keeps : (o : Outcome) (t u : SatBox) → Whole t → Whole u → Whole (if_done o u t)
done_keeps (Ok x) t u w v = v
done_keeps (Err r) t u w v = w

-- A TICK
pub sweeping_whole : (clock : ℕ) (t : SatBox) → Whole t → Whole (sweeping clock t).satbox
sweeping_whole clock t w = swept_whole (at_clock clock t) (clock_whole clock t w)

pub tick_whole : (clock : ℕ) (t : SatBox) (j : List ℕ) → Whole t → Whole (ticked clock t j).satbox
unfolding ticked
tick_whole clock t j w = done_keeps (tick_outcome t j) t (sweeping clock t).satbox w (sweeping_whole clock t w)

-- A COLLECTION
emptied_whole : (t : SatBox) → Whole t → Whole (emptied t)
unfolding emptied
emptied_whole t w =
    record {
      formed =
          record {
            settings = w.formed.settings;
            seats = w.formed.seats;
            rows = w.formed.rows;
            proper = w.formed.proper;
            fits = record { whole = refl; bound = omega (arith, w.formed.fits.bound) };
          };
      places = w.places;
      rows = w.rows;
    }

pub collect_whole : (t : SatBox) (j b : List ℕ) → Whole t → Whole (collected t j b).satbox
unfolding collected
collect_whole t j b w = done_keeps (collect_outcome t j b) t (emptied t) w (emptied_whole t w)

-- A QUERY MERGED into a live stream, which keeps its frontend
pub restreamed_whole : (id : ℕ) (m : Stream) (t : SatBox) → Whole t → (id ≡ 0 → ⊥) → is_placed t.settings m ≡ true → m.frontend ≡ (stream_of t id).frontend → Whole (restreamed id m t)
unfolding restreamed
restreamed_whole id m t w h good e =
    record {
      formed =
          record {
            settings = w.formed.settings;
            seats = rw (by_id t.streams id m h) (seats_fed t.sessions (past_stream ∷ t.streams) w.formed.seats id m e);
            rows = rows_fed t.settings t.streams w.formed.rows id m good e;
            proper = w.formed.proper;
            fits = w.formed.fits;
          };
      places = w.places;
      rows = with_length id m t.streams ∙ w.rows;
    }

module _ (id : ℕ) (codes pids delpids addpids : List ℕ) (t : SatBox) (w : Whole t) (live : (stream_of t id).frontend ≡ 0 → ⊥) (fit : are_fit codes ≡ true)
    (reached : (get_or codes 0 0 ≡ 0 → ⊥) → has_source (set_of t.settings (stream_of t id).frontend) (get_or codes 0 0) ≡ true)
    (e : IsOk (merge_of (stream_of t id) codes pids delpids addpids)) where
  was : (is_sound t.settings.frontends (stream_of t id) ≡ true) × (is_dead (stream_of t id) || has_source (set_of t.settings (stream_of t id).frontend) (stream_of t id).values.src ≡ true)
  was = and_both _ _ (placed_at t.settings t.streams w.formed.rows id)

  -- a src that is given is reached, and so is the one that was there
  reached_by : Same (get_or codes 0 0) 0 → has_source (set_of t.settings (stream_of t id).frontend) (given (get_or codes 0 0) (stream_of t id).values.src) ≡ true
  reached_by (same q) = rw (eq-eqb (get_or codes 0 0) 0 q) (or_second _ _ was.1 (ne_eqb _ 0 live))
  reached_by (other q) = rw (ne_eqb (get_or codes 0 0) 0 q) (reached q)

  pub merged_whole : Whole (restreamed id (after_query (stream_of t id) codes pids delpids addpids) t)
  merged_whole =
      restreamed_whole id (after_query (stream_of t id) codes pids delpids addpids) t w (λ q. live (ap (λ k. (stream_of t k).frontend) q))
      (both (merge_sound (stream_of t id) codes pids delpids addpids t.settings.frontends was.0 live fit e)
      (or_right (is_dead (after_query (stream_of t id) codes pids delpids addpids)) (rw (merge_frontend (stream_of t id) codes pids delpids addpids, merge_src (stream_of t id) codes pids delpids addpids e) (reached_by (sames _ 0)))))
      (merge_frontend (stream_of t id) codes pids delpids addpids)
