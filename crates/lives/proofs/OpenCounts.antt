-- As many sessions are open as were opened and not closed: each record is of one session that comes or goes, and what writes nothing moves none.
-- Assumes nothing.
use mathlib.Core.Path.{◌≡◌, refl}
use mathlib.Core.Bool.{Bool}
use mathlib.Core.List.{List, [], ◌∷◌, ◌++◌}
use Prim.Native.Nat.{ℕ, ◌+◌, ◌<◌}
use native.Mathlib.Decide.{dec_lt}
use native.Mathlib.Omega.{arith}
use lib.ListN.{length, set, get_or-eq_default}
use borrow.Author.Tests.{eq-eqb, ne_eqb}
use Rattle.scan.proofs.Bools.{by_cases}
use Rattle.journal.specs.declared.Record.{Record}
use Rattle.table.specs.Table.{count}
use Rattle.table.specs.Table.{no_session, is_open, open_count as open_in, session_at}
use Rattle.table.specs.declared.Session.{Session}
use Rattle.table.specs.declared.SatBox.{SatBox}
use Rattle.table.proofs.Counts.{count_set, count_set_same}
use Rattle.closings.specs.Closing.{Did, restreamed, reseated, noting, close_one, at_clock}
use Rattle.satbox.specs.Calls.{emptied}
use Rattle.serving.specs.Serving.{with_session}
use Rattle.lives.specs.Closed.{says_closed, says_opened}
use Rattle.lives.specs.Audit.{Quiet, clocked, restream, retune, replace, empty, Notes, opens_as_owner, joins, closes, Leads, begun, quiet, noted}

count_append : (p : Record → Bool) (h k : List Record) → count p (h ++ k) ≡ count p h + count p k
count_append p [] k = omega arith
count_append p (r ∷ h) k = omega (arith, count_append p h k)

-- a session comes to a free place of the table
one_more : (t : SatBox) (s : Session) (place : ℕ) → place < length t.sessions → (session_at t place).number ≡ 0 → (s.number ≡ 0 → ⊥)
    → count is_open (set t.sessions place s) ≡ open_in t + 1
one_more t s place b free some =
    omega (arith, rw (eq-eqb (session_at t place).number 0 free, ne_eqb s.number 0 some) at (count_set is_open t.sessions place s no_session b))

-- one leaves
less : (t : SatBox) (place : ℕ) → ((session_at t place).number ≡ 0 → ⊥) → count is_open (set t.sessions place no_session) + 1 ≡ open_in t
less t place some =
    by_cases (dec_lt place (length t.sessions))
    (λ b. omega (arith, rw (ne_eqb (session_at t place).number 0 some) at (count_set is_open t.sessions place no_session no_session b)))
    (λ b. absurd (some (rw (get_or-eq_default t.sessions no_session {n = place} (omega arith)))))

-- EACH RECORD is of one session that opens or closes
pub note_moves_one : {t : SatBox} {d : Did} → Notes t d → open_in d.satbox + count says_closed d.records ≡ open_in t + count says_opened d.records
unfolding close_one noting reseated
note_moves_one {t} (opens_as_owner s place b p q o) = omega (arith, one_more t s place (omega arith) p q)
note_moves_one {t} (joins s place b p q o) = omega (arith, one_more t s place (omega arith) p q)
note_moves_one {t} (closes cause place p) = omega (arith, less t place p)

-- NOTHING ELSE opens or closes one
pub quiet_moves_none : {t u : SatBox} → Quiet t u → open_in u ≡ open_in t
unfolding at_clock restreamed with_session emptied
quiet_moves_none (clocked clock) = refl
quiet_moves_none (restream id m e) = refl
quiet_moves_none (retune id m e) = refl
quiet_moves_none {t} (replace place s n m o) = count_set_same is_open t.sessions place s no_session (rw n)
quiet_moves_none empty = refl

pub leads_count : {h : List Record} {t : SatBox} {k : List Record} {u : SatBox} → Leads h t k u → open_in u + count says_closed k + count says_opened h ≡ open_in t + count says_opened k + count says_closed h
leads_count (begun g) = omega arith
leads_count (quiet p q g) = omega (arith, leads_count p, quiet_moves_none q)
leads_count (noted {k = k} {d = d} p q g) =
    omega (arith, leads_count p, note_moves_one q, count_append says_opened k d.records, count_append says_closed k d.records)
