-- Closings and the sweep table by table: after each record the history and the table agree about the frontends. Assumes nothing.
use mathlib.Core.Path.{◌≡◌, sym, subst}
use mathlib.Core.List.{List, [], ◌++◌, append_assoc, append-nil}
use Prim.Native.Nat.{ℕ, ◌<◌}
use native.Mathlib.Omega.{arith}
use lib.Dec.{eqb}
use borrow.Author.Tests.{ne_eqb}
use Rattle.scan.proofs.Bools.{cond_keeps}
use Rattle.journal.specs.declared.Record.{Record}
use Rattle.stream.specs.Streams.{no_stream}
use Rattle.table.specs.Table.{count, no_session, has_number, session_at, is_on}
use Rattle.table.specs.declared.SatBox.{SatBox}
use Rattle.table.proofs.Counts.{bit_no, count_set_le}
use Rattle.closings.specs.Closing.{Did, nothing, then, reseated, noting, close_one, close_on, cascade, closing, is_expired, sweep_at, swept, at_clock, sweeping}
use Rattle.closings.specs.Does.{Roomy, Closable}
use Rattle.closings.proofs.Closings.{free, closable, close_one_fine}
use Rattle.closings.proofs.Keeping.{Whole, whole_roomy, sweep_at_whole, clock_whole}
use Rattle.closings.proofs.Runs.{upto_holds}
use Rattle.lives.specs.Audit.{Agree, clocked, restream, closes, Leads, begun, quiet, noted}
use Rattle.lives.proofs.Departures.{gone}
use Rattle.lives.proofs.Agreeing.{Single, agree_closed, agree_freed, agree_clock}

-- the end of a chain agrees, and another may follow it
pub leads_agree : {h k : List Record} {t u : SatBox} → Leads h t k u → Agree k u
leads_agree (begun g) = g
leads_agree (quiet p q g) = g
leads_agree (noted p q g) = g

pub leads_then : {h k : List Record} {t u : SatBox} {l : List Record} {v : SatBox} → Leads h t k u → Leads k u l v → Leads h t l v
leads_then p (begun g) = p
leads_then p (quiet q c g) = quiet (leads_then p q) c g
leads_then p (noted q c g) = noted (leads_then p q) c g

-- an operation that is such a chain, from every history that agrees with its table
abbrev pub Watched : SatBox → Did → Type 0
Watched t d = (h : List Record) → Agree h t → Leads h t (h ++ d.records) d.satbox

-- one that writes nothing
pub watched_quiet : {h : List Record} {t u : SatBox} → Leads h t h u → Leads h t (h ++ []) u
watched_quiet {h} {t} {u} p = subst (λ k. Leads h t k u) (sym (append-nil h)) p

pub watched_nothing : (t : SatBox) → Watched t (nothing t)
watched_nothing t h g = watched_quiet (begun g)

pub watched_then : (t : SatBox) (d : Did) (f : SatBox → Did) → Watched t d → Watched d.satbox (f d.satbox) → Watched t (then d f)
watched_then t d f p q h g =
    let a = p h g in
    subst (λ k. Leads h t k (f d.satbox).satbox) (append_assoc h d.records (f d.satbox).records)
    (leads_then a (q (h ++ d.records) (leads_agree a)))

-- ONE CLOSING
one_watched : (cause i : ℕ) (t : SatBox) → Closable t i → Single t → Watched t (close_one cause i t)
unfolding close_one
one_watched cause i t c one h g = noted (begun g) (closes cause i c.some) (agree_closed h cause i t c one g)

-- THE CASCADE: there is room, and no number occurs twice
record Steady (t : SatBox) : Type 0 where
  roomy : Roomy t
  single : Single t

one_steady : (cause i : ℕ) (t : SatBox) → Closable t i → Single t → Steady (close_one cause i t).satbox
unfolding close_one noting reseated
one_steady cause i t c one =
    record {
      roomy = (close_one_fine t i c cause).roomy;
      single = λ n z. omega (arith, count_set_le (has_number n) t.sessions i no_session, bit_no (ne_eqb 0 n (λ q. z (sym q))), one n z);
    }

close_on_steady : (id i : ℕ) (t : SatBox) → i < 32 → Steady t → Steady (close_on id i t).satbox
unfolding close_on
close_on_steady id i t h w =
    cond_keeps (λ (d : Did). Steady d.satbox) (is_on id (session_at t i)) (close_one 3 i t) (nothing t)
    (λ e. one_steady 3 i t (closable t i _ h w.roomy e) w.single) (λ e. w)

close_on_watched : (id i : ℕ) (t : SatBox) → i < 32 → Steady t → Watched t (close_on id i t)
unfolding close_on
close_on_watched id i t h w =
    cond_keeps (Watched t) (is_on id (session_at t i)) (close_one 3 i t) (nothing t)
    (λ e. one_watched 3 i t (closable t i _ h w.roomy e) w.single) (λ e. watched_nothing t)

cascade_watched : (id : ℕ) (t : SatBox) → Steady t → Watched t (cascade id t)
unfolding cascade
cascade_watched id t w =
    upto_holds Steady Watched watched_nothing watched_then (close_on id) 32 (close_on_steady id) (close_on_watched id) t w 32 (omega arith)

-- A CLOSING; the stream is freed when nobody is on it any more
free_watched : (id : ℕ) (t : SatBox) → count (is_on id) t.sessions ≡ 0 → Watched t (free id t)
free_watched id t none h g = watched_quiet (quiet (begun g) (restream id no_stream none) (agree_freed t g id no_stream none))

pub closing_watched : (cause i : ℕ) (t : SatBox) → Closable t i → Whole t → Watched t (closing cause i t)
unfolding closing
closing_watched cause i t c w =
    let id = (session_at t i).stream in
    let one = one_watched cause i t c w.formed.seats.numbers in
    let u = (close_one cause i t).satbox in
    cond_keeps (Watched t) (eqb (session_at t i).owner 0) (close_one cause i t) _ (λ e. one)
    (λ e. watched_then t (then (close_one cause i t) (cascade id)) (free id)
    (watched_then t (close_one cause i t) (cascade id) one (cascade_watched id u (one_steady cause i t c w.formed.seats.numbers)))
    (free_watched id (cascade id u).satbox (gone cause i t c id)))

-- THE SWEEP
sweep_at_watched : (i : ℕ) (t : SatBox) → i < 32 → Whole t → Watched t (sweep_at i t)
unfolding sweep_at
sweep_at_watched i t h w =
    cond_keeps (Watched t) (is_expired t.clock (session_at t i)) (closing 2 i t) (nothing t)
    (λ e. closing_watched 2 i t (closable t i _ h (whole_roomy t w) e) w) (λ e. watched_nothing t)

swept_watched : (t : SatBox) → Whole t → Watched t (swept t)
unfolding swept
swept_watched t w = upto_holds Whole Watched watched_nothing watched_then sweep_at 32 sweep_at_whole sweep_at_watched t w 32 (omega arith)

pub sweeping_watched : (clock : ℕ) (t : SatBox) → Whole t → Watched t (sweeping clock t)
sweeping_watched clock t w h g =
    let c = agree_clock t g clock in
    leads_then (quiet (begun g) (clocked clock) c) (swept_watched (at_clock clock t) (clock_whole clock t w) h c)
