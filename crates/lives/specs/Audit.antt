-- Statement 7: the auditor's three questions, answered from a list of records alone and by a table; and a life table by table. Assumes nothing.
use Rattle.std.specs.Prelude.{ℕ, ◌<◌, ◌≡◌, Bool, false, cond, ◌&&◌, true, eqb, length}
use mathlib.Core.List.{List, foldl, ◌++◌}
use Rattle.journal.specs.declared.Record.{Record}
use Rattle.stream.specs.declared.Stream.{Stream}
use Rattle.table.specs.Table.{any, count, has_number, stream_of, owns, session_at, is_on}
use Rattle.table.specs.declared.SatBox.{SatBox}
use Rattle.table.specs.declared.Session.{Session}
use Rattle.closings.specs.Closing.{Did, restreamed, noting, close_one, at_clock}
use Rattle.serving.specs.Serving.{with_session}
use Rattle.satbox.specs.Calls.{emptied}
use Rattle.lives.specs.Closed.{says_closed}

-- what records say of a frontend: nobody has held it; a session holds it, which owns its stream; or a session let it go, at a clock
pub data Frontend : Type 0 where
  unheld : Frontend
  held_by : ℕ → Frontend
  let_go : ℕ → ℕ → Frontend

-- a session holds it whose number passes a test
abbrev pub is_held_by : (ℕ → Bool) → Frontend → Bool
is_held_by test unheld = false
is_held_by test (held_by n) = test n
is_held_by test (let_go n clock) = false

-- the session that holds it closes, and lets it go at the record's clock; no other closing changes anything
abbrev pub closed_by : Record → Frontend → Frontend
closed_by r a = cond (says_closed r && is_held_by (λ n. eqb r.session n) a) (let_go r.session r.clock) a

-- one record more, for the frontend f: "1 opened as owner" takes the frontend that it names
abbrev pub noted_by : ℕ → Record → Frontend → Frontend
noted_by f r a = cond (eqb r.frontend f) (cond (eqb r.kind 1) (held_by r.session) (closed_by r a)) a

-- THE AUDIT of a frontend, record by record: whether a history says that it is held, by which session, or when it was let go
abbrev pub audited : ℕ → List Record → Frontend
audited f rs = foldl (λ a r. noted_by f r a) unheld rs

-- OF A TABLE: a session with the number n is open and owns a stream that has the frontend f
abbrev pub holds : SatBox → ℕ → ℕ → Bool
holds t f n = any (λ s. owns s.stream s && (has_number n s && eqb (stream_of t s.stream).frontend f)) t.sessions

-- a history and a table agree: of every frontend and every session they say the same
pub record Agree (h : List Record) (t : SatBox) : Type 0 where
  pub same : (f n : ℕ) → (f ≡ 0 → ⊥) → holds t f n ≡ is_held_by (λ m. eqb m n) (audited f h)

-- THE CHANGES THAT WRITE NOTHING open and close no session: another clock; a stream that no open session is on, made or freed; a query merged into a
-- stream, which keeps its frontend; a session changed in its place, which keeps its number, its stream and whether it owns it; and a collection
pub data Quiet (t : SatBox) : SatBox → Type 0 where
  clocked : (clock : ℕ) → Quiet t (at_clock clock t)
  restream : (id : ℕ) (m : Stream) → count (is_on id) t.sessions ≡ 0 → Quiet t (restreamed id m t)
  retune : (id : ℕ) (m : Stream) → m.frontend ≡ (stream_of t id).frontend → Quiet t (restreamed id m t)
  replace : (place : ℕ) (s : Session) → s.number ≡ (session_at t place).number → s.stream ≡ (session_at t place).stream → s.owner ≡ (session_at t place).owner
      → Quiet t (with_session place s t)
  empty : Quiet t (emptied t)

-- THE CHANGES THAT WRITE A RECORD: a session with a number comes to a free place of the table, as an owner or as a joiner; and an open session closes
pub data Notes (t : SatBox) : Did → Type 0 where
  opens_as_owner : (s : Session) (place : ℕ) → place < length t.sessions → (session_at t place).number ≡ 0 → (s.number ≡ 0 → ⊥) → (s.owner ≡ 0 → ⊥) → Notes t (noting 1 0 s place s t)
  joins : (s : Session) (place : ℕ) → place < length t.sessions → (session_at t place).number ≡ 0 → (s.number ≡ 0 → ⊥) → s.owner ≡ 0 → Notes t (noting 2 0 s place s t)
  closes : (cause place : ℕ) → ((session_at t place).number ≡ 0 → ⊥) → Notes t (close_one cause place t)

-- from the history h and the table t to the history k and the table u, record by record
pub data Leads (h : List Record) (t : SatBox) : List Record → SatBox → Type 0 where
  begun : Agree h t → Leads h t h t
  quiet : {k : List Record} {u v : SatBox} → Leads h t k u → Quiet u v → Agree k v → Leads h t k v
  noted : {k : List Record} {u : SatBox} {d : Did} → Leads h t k u → Notes u d → Agree (k ++ d.records) d.satbox → Leads h t (k ++ d.records) d.satbox

-- on the way from h and t to k and u the session n let the frontend f go at a clock: a record was written with which it closed, in the table before it n
-- holds f, in the table after it n does not, and that has this clock
pub data LetGo (h : List Record) (t : SatBox) (k : List Record) (u : SatBox) (f n clock : ℕ) : Type 0 where
  lets : {past : List Record} {before : SatBox} {closing : Did} → Leads h t past before → Notes before closing → holds before f n ≡ true
      → holds closing.satbox f n ≡ false → closing.satbox.clock ≡ clock → Leads (past ++ closing.records) closing.satbox k u → LetGo h t k u f n clock
