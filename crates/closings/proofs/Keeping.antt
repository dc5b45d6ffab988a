-- Closings and the sweep keep a table well formed. A cascade's end is one equation: every session of the stream is gone, and nothing else
-- of the places and the streams has changed. Assumes nothing.
use mathlib.Core.Path.{◌≡◌, refl, sym, ◌∙◌, ap, subst}
use mathlib.Core.Bool.{true}
use mathlib.Core.List.{List, ◌∷◌, map}
use Prim.Native.Nat.{ℕ, zero, suc, ◌≤◌, ◌<◌, max}
use native.Mathlib.Decide.{dec_lt}
use native.Mathlib.Omega.{arith}
use lib.Dec.{leb}
use lib.ListN.{length, set, length-set, get_or-eq_default}
use lib.Seq.{set-get_or, map-set_same}
use borrow.Author.Tests.{ne_eqb, eq-eqb, leb-true}
use Rattle.scan.specs.Lists.{is_between}
use Rattle.scan.proofs.Bools.{and_both, by_cases, Case, is, isnt, case, Same, same, other, sames, cond_keeps}
use Rattle.stream.specs.Streams.{no_stream, past_stream}
use Rattle.stream.specs.declared.Stream.{Stream}
use Rattle.table.specs.Table.{no_session, session_at, with_stream, is_on}
use Rattle.table.proofs.Ids.{stream_in}
use Rattle.table.specs.Formed.{are_sizes, are_settings, well_formed}
use Rattle.table.specs.declared.Settings.{Settings}
use Rattle.table.specs.declared.SatBox.{SatBox}
use Rattle.table.proofs.Rules.{Seats, Rows, AreProper, WellFormed, formed, formed_back}
use Rattle.table.proofs.Changes.{clear, seated_live, seats_freed, seats_emptied, seated_id, rows_freed, by_id, proper_set, proper_cleared, proper_later, none_proper}
use Rattle.closings.specs.Closing.{Did, nothing, then, restreamed, reseated, noting, close_one, close_on, cascade, closing, is_expired, sweep_at, swept, at_clock}
use Rattle.closings.specs.Does.{Roomy, Closable}
use Rattle.closings.proofs.Closings.{free, close_one_fine, closing_fine, closable}
use Rattle.closings.proofs.DoesLaws.{Fine}
use Rattle.closings.proofs.Runs.{upto_keeps, upto_map}

-- a well-formed table with all its places, as every table of the code has them
pub record Whole (t : SatBox) : Type 0 where
  pub formed : WellFormed t
  pub places : length t.sessions ≡ 32
  pub rows : length t.streams ≡ 8

-- the test that the code computes, from the rules and back
pub formed_whole : (t : SatBox) → well_formed t ≡ true → length t.sessions ≡ 32 → length t.streams ≡ 8 → Whole t
formed_whole t e a b = record { formed = formed t e; places = a; rows = b }

pub whole_formed : (t : SatBox) → Whole t → well_formed t ≡ true
whole_formed t w = formed_back t w.formed

-- F is at most 8, and C at most 65,536
pub frontends_few : (t : SatBox) → Whole t → t.settings.frontends ≤ 8
frontends_few t w =
    leb-true _ _ (and_both (leb 1 t.settings.frontends) _ (and_both (is_between 1 8 t.settings.frontends) _ (and_both (are_sizes t.settings) _ w.formed.settings).0).0).1

size_small : (s : Settings) → are_settings s ≡ true → s.size ≤ 65536
size_small s e =
    leb-true _ _ (and_both (leb 1024 s.size) _ (and_both (is_between 1024 65536 s.size) _ (and_both (is_between 1 8 s.frontends) _ (and_both (are_sizes s) _ e).0).1).0).1

pub whole_roomy : (t : SatBox) → Whole t → Roomy t
whole_roomy t w =
    record {
      bound = omega (arith, w.formed.fits.bound);
      small = size_small t.settings w.formed.settings;
      places = w.places;
      rows = w.rows;
    }

-- a live stream has an ID, and so has an open session's
pub live_id : (ms : List Stream) (id : ℕ) → ((stream_in ms id).frontend ≡ 0 → ⊥) → (1 ≤ id) × (id ≤ length ms)
live_id ms zero h = absurd (h refl)
live_id ms (suc k) h =
    by_cases (dec_lt k (length ms)) (λ l. (omega arith, omega arith)) (λ l. absurd (h (ap (λ m. m.frontend) (get_or-eq_default ms past_stream {n = k} (omega arith)))))

pub open_id : (t : SatBox) → Whole t → (i : ℕ) → ((session_at t i).number ≡ 0 → ⊥) → (1 ≤ (session_at t i).stream) × ((session_at t i).stream ≤ 8)
open_id t w i some =
    let n = live_id t.streams (session_at t i).stream (seated_live t.sessions (past_stream ∷ t.streams) w.formed.seats i some) in
    (n.0, omega (arith, n.1, w.rows))

-- the rules of the journal and the settings come with what every operation keeps
pub whole_after : (t : SatBox) (d : Did) → Whole t → Fine t d → Seats d.satbox.sessions (past_stream ∷ d.satbox.streams) → Rows t.settings d.satbox.streams → AreProper t.clock d.satbox.sessions → Whole d.satbox
whole_after t d w z seats rows proper =
    record {
      formed =
          record {
            settings = subst (λ s. are_settings s ≡ true) (sym z.settings) w.formed.settings;
            seats = seats;
            rows = subst (λ (s : Settings). Rows s d.satbox.streams) (sym z.settings) rows;
            proper = rw z.clock proper;
            fits = record { whole = omega (arith, z.held, w.formed.fits.whole); bound = z.bound w.formed.fits.bound };
          };
      places = z.roomy.places;
      rows = z.roomy.rows;
    }

-- THE CASCADE'S END
close_on_place : (id i : ℕ) (t : SatBox) → Case (is_on id (session_at t i)) → (close_on id i t).satbox.sessions ≡ set t.sessions i (clear id (session_at t i))
unfolding close_on close_one noting reseated
close_on_place id i t (is z) = rw z
close_on_place id i t (isnt z) = rw z (sym (set-get_or t.sessions i no_session))

pub cascade_sessions : (id : ℕ) (t : SatBox) → length t.sessions ≡ 32 → (cascade id t).satbox.sessions ≡ map (clear id) t.sessions
unfolding cascade
cascade_sessions id t h = upto_map (close_on id) (λ v. v.sessions) (clear id) no_session (λ i v. close_on_place id i v (case _)) t 32 h

pub close_on_streams : (id i : ℕ) (t : SatBox) → (close_on id i t).satbox.streams ≡ t.streams
unfolding close_on close_one noting reseated
close_on_streams id i t = cond_keeps (λ d. d.satbox.streams ≡ t.streams) (is_on id (session_at t i)) (close_one 3 i t) (nothing t) (λ e. refl) (λ e. refl)

pub cascade_streams : (id : ℕ) (t : SatBox) → (cascade id t).satbox.streams ≡ t.streams
unfolding cascade
cascade_streams id t = upto_keeps (close_on id) (λ v. v.streams ≡ t.streams) 32 (λ i v h e. close_on_streams id i v ∙ e) t refl 32 (omega arith)

module _ (cause i : ℕ) (t : SatBox) (h : Closable t i) (w : Whole t) where
  -- A SESSION THAT OWNS NOTHING CLOSES
  joiner_whole : (session_at t i).owner ≡ 0 → Whole (close_one cause i t).satbox
  unfolding close_one noting reseated
  joiner_whole own =
      whole_after t (close_one cause i t) w (close_one_fine t i h cause)
      (seats_freed t.sessions (past_stream ∷ t.streams) w.formed.seats i own) w.formed.rows
      (proper_set t.clock t.sessions w.formed.proper i no_session (none_proper t.clock))

  joiner_is : (session_at t i).owner ≡ 0 → closing cause i t ≡ close_one cause i t
  unfolding closing
  joiner_is own = rw (eq-eqb (session_at t i).owner 0 own)

  -- AN OWNER CLOSES, with its cascade: its stream and all that was on it are gone, and nothing else
  module _ (own : (session_at t i).owner ≡ 0 → ⊥) where
    owner_is : closing cause i t ≡ then (then (close_one cause i t) (cascade (session_at t i).stream)) (free (session_at t i).stream)
    unfolding closing
    owner_is = rw (ne_eqb (session_at t i).owner 0 own)

    here : clear (session_at t i).stream no_session ≡ clear (session_at t i).stream (session_at t i)
    here = let s = session_at t i in rw (ne_eqb s.number 0 h.some, eq-eqb s.stream s.stream refl)

    pub owner_sessions : (closing cause i t).satbox.sessions ≡ map (clear (session_at t i).stream) t.sessions
    unfolding restreamed close_one noting reseated
    owner_sessions =
        ap (λ x. x.satbox.sessions) owner_is
        ∙ (cascade_sessions (session_at t i).stream (close_one cause i t).satbox (length-set t.sessions i no_session ∙ w.places)
        ∙ map-set_same (clear (session_at t i).stream) t.sessions i no_session no_session here)

    pub owner_streams : (closing cause i t).satbox.streams ≡ with_stream (session_at t i).stream no_stream t.streams
    unfolding restreamed close_one noting reseated
    owner_streams =
        ap (λ x. x.satbox.streams) owner_is ∙ ap (with_stream (session_at t i).stream no_stream) (cascade_streams (session_at t i).stream (close_one cause i t).satbox)

    owner_whole : Whole (closing cause i t).satbox
    owner_whole =
        whole_after t (closing cause i t) w (closing_fine cause i t h)
        (rw (owner_sessions, owner_streams, by_id t.streams (session_at t i).stream no_stream (seated_id t.sessions t.streams w.formed.seats i h.some)) (seats_emptied t.sessions (past_stream ∷ t.streams) w.formed.seats (session_at t i).stream))
        (rw owner_streams (rows_freed t.settings t.streams w.formed.rows (session_at t i).stream))
        (rw owner_sessions (proper_cleared t.clock t.sessions w.formed.proper (session_at t i).stream))

  closing_by : Same (session_at t i).owner 0 → Whole (closing cause i t).satbox
  closing_by (same own) = subst (λ d. Whole d.satbox) (sym (joiner_is own)) (joiner_whole own)
  closing_by (other own) = owner_whole own

  -- A CLOSING KEEPS THE RULES
  pub closing_whole : Whole (closing cause i t).satbox
  closing_whole = closing_by (sames _ _)

pub sweep_at_whole : (i : ℕ) (t : SatBox) → i < 32 → Whole t → Whole (sweep_at i t).satbox
unfolding sweep_at
sweep_at_whole i t h w =
    cond_keeps (λ d. Whole d.satbox) (is_expired t.clock (session_at t i)) (closing 2 i t) (nothing t)
    (λ e. closing_whole 2 i t (closable t i _ h (whole_roomy t w) e) w) (λ e. w)

-- THE SWEEP KEEPS THE RULES
pub swept_whole : (t : SatBox) → Whole t → Whole (swept t).satbox
unfolding swept
swept_whole t w = upto_keeps sweep_at Whole 32 sweep_at_whole t w 32 (omega arith)

-- A LATER CLOCK KEEPS THEM
pub clock_whole : (clock : ℕ) (t : SatBox) → Whole t → Whole (at_clock clock t)
unfolding at_clock
clock_whole clock t w =
    record {
      formed =
          record {
            settings = w.formed.settings;
            seats = w.formed.seats;
            rows = w.formed.rows;
            proper = proper_later t.clock t.sessions w.formed.proper (max t.clock clock) (omega arith);
            fits = w.formed.fits;
          };
      places = w.places;
      rows = w.rows;
    }
