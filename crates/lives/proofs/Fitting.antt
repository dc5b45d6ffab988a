-- What is written fits its record's bytes: clocks and session numbers are of 32 bits, in every table that calls reach. Assumes nothing.
use mathlib.Core.Path.{◌≡◌, refl}
use mathlib.Core.Bool.{Bool, true, ◌&&◌}
use mathlib.Core.List.{List, [], ◌∷◌, ◌++◌}
use Prim.Native.Nat.{ℕ, zero, suc, ◌<◌}
use native.Mathlib.Omega.{arith}
use borrow.Author.Tests.{lt-ltb}
use Rattle.scan.specs.Lists.{all}
use Rattle.scan.proofs.Bools.{and_both, both, cond_keeps}
use Rattle.journal.specs.declared.Record.{Record}
use Rattle.stream.specs.declared.Stream.{Stream}
use Rattle.table.specs.Table.{no_session, session_at}
use Rattle.finding.specs.Finding.{lowest_place, lowest_id, drawn}
use Rattle.finding.proofs.Draws.{is_taken, next_number, drawn_from}
use Rattle.table.specs.declared.Session.{Session}
use Rattle.table.specs.declared.SatBox.{SatBox}
use Rattle.table.proofs.Counts.{get_or_set_all}
use Rattle.closings.specs.Closing.{Did, nothing, then, restreamed, reseated, noting, close_one, closing, sweeping, at_clock}
use Rattle.closings.specs.Does.{Closable}
use Rattle.closings.proofs.Closings.{free}
use Rattle.serving.specs.Serving.{guest, seating_as as seated, can_join, joining, can_open, opening}
use Rattle.serving.specs.Serving.{with_session, answered}
use Rattle.satbox.specs.Calls.{requested}
use Rattle.serving.specs.declared.opening.Client.{Client}
use Rattle.closings.proofs.Keeping.{Whole, whole_roomy, clock_whole}
use Rattle.satbox.proofs.Kept.{sweeping_whole}
use Rattle.serving.proofs.RecordLaws.{closing_holds, swept_holds}
use Rattle.lives.specs.Calls.{is_short}
use Rattle.lives.proofs.Requests.{Retuned, retuned_same, answered_holds}

-- the clock and the sessions' numbers of a table; of a record
pub record Short (t : SatBox) : Type 0 where
  pub clock : t.clock < 4294967296
  pub numbers : (k : ℕ) → (session_at t k).number < 4294967296

abbrev pub is_fit : Record → Bool
is_fit r = is_short r.clock && is_short r.session

-- an operation keeps the one, and writes the other
pub record Fits (t : SatBox) (d : Did) : Type 0 where
  pub kept : Short d.satbox
  pub fit : all is_fit d.records ≡ true

abbrev Fitting : SatBox → Did → Type 0
Fitting t d = Short t → Fits t d

pub all_both : (p : Record → Bool) (a b : List Record) → all p a ≡ true → all p b ≡ true → all p (a ++ b) ≡ true
all_both p [] b e f = f
all_both p (r ∷ a) b e f = let q = and_both (p r) (all p a) e in both q.0 (all_both p a b q.1 f)

fitting_nothing : (t : SatBox) → Fitting t (nothing t)
fitting_nothing t s = record { kept = s; fit = refl }

fitting_then : (t : SatBox) (d : Did) (f : SatBox → Did) → Fitting t d → Fitting d.satbox (f d.satbox) → Fitting t (then d f)
fitting_then t d f p q s =
    let a = p s in
    let b = q a.kept in
    record { kept = b.kept; fit = all_both is_fit d.records (f d.satbox).records a.fit b.fit }

-- a session's record
noting_fitting : (kind cause : ℕ) (s : Session) (place : ℕ) (after : Session) (t : SatBox) → s.number < 4294967296 → after.number < 4294967296 → Fitting t (noting kind cause s place after t)
unfolding noting reseated
noting_fitting kind cause s place after t a b h =
    record {
      kept = record { clock = h.clock; numbers = λ k. get_or_set_all (λ (x : Session). x.number < 4294967296) t.sessions place k after no_session b (h.numbers k) };
      fit = rw (lt-ltb t.clock 4294967296 h.clock, lt-ltb s.number 4294967296 a);
    }

-- CLOSINGS
one_fitting : (cause i : ℕ) (t : SatBox) → Closable t i → Fitting t (close_one cause i t)
unfolding close_one
one_fitting cause i t c h = noting_fitting 3 cause (session_at t i) i no_session t (h.numbers i) (omega arith) h

free_fitting : (id : ℕ) (t : SatBox) → Fitting t (free id t)
unfolding restreamed
free_fitting id t h = record { kept = record { clock = h.clock; numbers = h.numbers }; fit = refl }

closing_fitting : (cause i : ℕ) (t : SatBox) → Closable t i → Fitting t (closing cause i t)
closing_fitting = closing_holds Fitting fitting_nothing fitting_then one_fitting free_fitting

pub sweeping_fits : (clock : ℕ) (t : SatBox) → clock < 4294967296 → Whole t → Short t → Fits t (sweeping clock t)
unfolding at_clock
sweeping_fits clock t b w h =
    let s = swept_holds Fitting fitting_nothing fitting_then one_fitting free_fitting (at_clock clock t) (whole_roomy (at_clock clock t) (clock_whole clock t w)) (record { clock = omega (arith, h.clock); numbers = h.numbers }) in
    record { kept = s.kept; fit = s.fit }

-- OPENINGS: the number drawn is of 32 bits
drawn_from_law : (more : ℕ) (l : List Session) (n : ℕ) → n < 4294967296 → drawn_from more l n < 4294967296
drawn_from_law zero l n h = h
drawn_from_law (suc more) l n h = cond_keeps (λ m. m < 4294967296) (is_taken l n) (drawn_from more l (next_number n)) n (λ e. drawn_from_law more l (next_number n) (omega arith)) (λ e. h)

drawn_short : (l : List Session) (draw : ℕ) → draw < 4294967296 → drawn l draw < 4294967296
unfolding drawn
drawn_short l draw h = drawn_from_law 34 l draw h

joining_fitting : (id : ℕ) (client : Client) (t : SatBox) → client.draw < 4294967296 → Fitting t (joining id client t)
unfolding joining seated
joining_fitting id client t short =
    let s = guest 0 id client t in
    let n = drawn_short t.sessions client.draw short in
    cond_keeps (Fitting t) (can_join id t) (seated 2 s t) (nothing t) (λ e. noting_fitting 2 0 s (lowest_place t.sessions) s t n n) (λ e. fitting_nothing t)

opening_fitting : (m : Stream) (client : Client) (t : SatBox) → client.draw < 4294967296 → Fitting t (opening m client t)
unfolding opening seated restreamed
opening_fitting m client t short =
    let id = lowest_id t.streams in
    let s = guest 1 id client t in
    let n = drawn_short t.sessions client.draw short in
    cond_keeps (Fitting t) (can_open m.values.src m.frontend t) (seated 1 s (restreamed id m t)) (nothing t)
    (λ e h.
    let f = noting_fitting 1 0 s (lowest_place t.sessions) s (restreamed id m t) n n (record { clock = h.clock; numbers = h.numbers }) in
    record { kept = f.kept; fit = f.fit })
    (λ e. fitting_nothing t)

-- A SESSION CHANGED in its place keeps its number
changed_fitting : {t u : SatBox} (place : ℕ) (s : Session) → s.number ≡ (session_at t place).number → Retuned t u → Fitting t (nothing (with_session place s u))
unfolding with_session
changed_fitting {t} place s e r h =
    let same = retuned_same r in
    record {
      kept =
          record {
            clock = rw same.1 h.clock;
            numbers = rw same.0 (λ k. get_or_set_all (λ (x : Session). x.number < 4294967296) t.sessions place k s no_session (rw e (h.numbers place)) (h.numbers k));
          };
      fit = refl;
    }

answered_fitting : (s : List ℕ) (address draw : ℕ) → draw < 4294967296 → (t : SatBox) → Whole t → Fitting t (answered s address draw t).did
answered_fitting s address draw short t w =
    answered_holds s address draw t w (Fitting t)
    (record {
      still = fitting_nothing t;
      changed = λ place s k u r. changed_fitting place s k.alike.number r;
      joined = λ id client e. joining_fitting id client t (rw e short);
      opened = λ m client e. opening_fitting m client t (rw e short);
      closed = λ tears passed place c. closing_fitting 1 place t c;
    })

-- A REQUEST
pub requested_fits : (s : List ℕ) (clock address draw : ℕ) → clock < 4294967296 → draw < 4294967296 → (t : SatBox) → Whole t → Short t → Fits t (requested s clock address draw t).did
unfolding requested
requested_fits s clock address draw b short t w =
    fitting_then t (sweeping clock t) (λ u. (answered s address draw u).did) (sweeping_fits clock t b w)
    (answered_fitting s address draw short (sweeping clock t).satbox (sweeping_whole clock t w))
