-- Statements 4 and 5: whom a sweep and a TEARDOWN close, who stays and is kept, and an opening that only the journal's room can refuse. Assumes nothing.
use Rattle.std.specs.Prelude.{ℕ, zero, suc, max, ◌≡◌, Bool, not, cond, ◌&&◌, ◌||◌, true, false, List, [], ◌∷◌, ◌++◌, eqb, None}
use Rattle.scan.specs.Lists.{first}
use Rattle.journal.specs.declared.Record.{Record}
use Rattle.lines.specs.Lines.{header_lines}
use Rattle.lines.specs.Headers.{values_of}
use Rattle.aim.specs.declared.Method.TheVariants.{Teardown}
use Rattle.refusals.specs.declared.Refusal.TheVariants as refusal
use Rattle.reader.specs.Fields.{session_of}
use Rattle.reader.specs.Request.{method_of, request_refusal}
use Rattle.table.specs.Table.{has_number, session_at, is_on, owns, no_session, stream_of, any}
use Rattle.table.specs.declared.Session.{Session}
use Rattle.table.specs.declared.SatBox.{SatBox}
use Rattle.steps.specs.Sights.{session_number, place_named, sight_of, Asked, Lists}
use Rattle.steps.specs.Steps.{is_passed, table_case}
use Rattle.closings.specs.Closing.{record_of, is_expired, sweeping}
use Rattle.serving.specs.Serving.{has_place, source_of, feed_of, merging, merges, merge_case, is_unreached, is_opening}
use Rattle.finding.specs.Finding.{can_feed}
use Rattle.satbox.specs.Calls.{requested}
use Rattle.lives.specs.Calls.{Lent, Call, request, tick}

-- the session r, where it closes, takes the session s along: s is r, or is on the stream that r owns
abbrev pub takes : Session → Session → Bool
takes r s = has_number s.number r || (owns r.stream r && is_on r.stream s)

-- the visit of a sweep at which a session closes, "in rising order": the first place whose session has expired and takes it along; 32 where it stays open
unfoldable pub visit_of : SatBox → Session → ℕ
visit_of t s = first (λ r. is_expired t.clock r && takes r s) t.sessions

-- "Kind 1 opened as owner, 2 joined .. 3 closed": a record of a closing, or of an opening
abbrev pub says_closed : Record → Bool
says_closed r = eqb r.kind 3

abbrev pub says_opened : Record → Bool
says_opened r = not (says_closed r)

-- a record, its sequence number aside
abbrev pub unnumbered : Record → Record
unnumbered r = record { kind = r.kind; cause = r.cause; clock = r.clock; session = r.session; stream = r.stream; frontend = r.frontend; sequence = 0 }

-- what there is at each of the first n places, "in place order"
unfoldable pub in_order : (ℕ → List Record) → ℕ → List Record
in_order f zero = []
in_order f (suc n) = in_order f n ++ f n

-- the session at place i closes for a cause;
abbrev pub closing_of : ℕ → SatBox → ℕ → Record
closing_of cause t i = unnumbered (record_of 3 cause (session_at t i) t)

-- and each other of `along` "closes directly after with cause 3, in place order"
abbrev pub closings_at : ℕ → SatBox → ℕ → (ℕ → Bool) → List Record
closings_at cause t i along = closing_of cause t i ∷ in_order (λ k. cond (along k && not (eqb k i)) (closing_of 3 t k ∷ []) []) 32

-- THE CLOSINGS OF A SWEEP of a box at its clock: "2 time-out" of each that closes at the visit of its own place, and with it those that close at that visit
abbrev pub sweep_closings : SatBox → List Record
sweep_closings t = in_order (λ i. cond (eqb (visit_of t (session_at t i)) i) (closings_at 2 t i (λ k. eqb (visit_of t (session_at t k)) i)) []) 32

-- THE CLOSINGS OF A TEARDOWN of the session at place i: "1 teardown", and with it those that it takes along
abbrev pub teardown_closings : SatBox → ℕ → List Record
teardown_closings t i = closings_at 1 t i (λ k. takes (session_at t i) (session_at t k))

-- r says that the session with the number n closed; and that it closed for its age, "2 time-out"
abbrev pub is_closing_of : ℕ → Record → Bool
is_closing_of n r = says_closed r && eqb r.session n

abbrev pub is_time_out : ℕ → Record → Bool
is_time_out n r = eqb r.cause 2 && is_closing_of n r

-- the session at place i of the box t is closed in the box u, and one of rs says so, at u's clock, with its stream and the frontend that this had
pub record Closed (t : SatBox) (i : ℕ) (u : SatBox) (rs : List Record) : Type 0 where
  pub free : session_at u i ≡ no_session
  pub noted : any (λ r. is_closing_of (session_at t i).number r && (eqb r.clock u.clock && (eqb r.stream (session_at t i).stream
      && eqb r.frontend (stream_of t (session_at t i).stream).frontend))) rs ≡ true

-- the session with the number n is still open at place i of the box t, with a last time of which P holds; or one of rs says that it closed
pub data Fares (n i : ℕ) (P : ℕ → Type 0) (t : SatBox) (rs : List Record) : Type 0 where
  remains : (session_at t i).number ≡ n → P (session_at t i).last → Fares n i P t rs
  closed : any (is_closing_of n) rs ≡ true → Fares n i P t rs

-- the place of the open session that the Session header of a request names; 32 where it names none
abbrev pub place_named_by : List ℕ → SatBox → ℕ
place_named_by s t = place_named (session_of (values_of 1 (header_lines s))) t

-- a call of a box with that many frontends keeps whoever has the number n, order 3: it is a request that steps 1 to 10 let through, and its Session header
-- has that number. Where an open session has it, step 11 lets the request through
pub data KeepsAlive (frontends n : ℕ) : Call → Type 0 where
  naming : {s : List ℕ} {clock address draw : ℕ} {b : List ℕ} {l : Lent} → request_refusal frontends s ≡ None
      → session_number (session_of (values_of 1 (header_lines s))) ≡ n → KeepsAlive frontends n (request s clock address draw b l)

-- a call is "a request or a tick", given a clock: it "first closes expired sessions"
pub data Sweeps : ℕ → Call → Type 0 where
  in_request : {s : List ℕ} {clock address draw : ℕ} {b : List ℕ} {l : Lent} → Sweeps clock (request s clock address draw b l)
  in_tick : {clock : ℕ} {l : Lent} → Sweeps clock (tick clock l)

-- the session at place i of the box t is in the box u where it was, as it was, and so is its stream
pub record Stays (t : SatBox) (i : ℕ) (u : SatBox) : Type 0 where
  pub session : session_at u i ≡ session_at t i
  pub stream : stream_of u (session_at t i).stream ≡ stream_of t (session_at t i).stream

-- a call of the box t is a TEARDOWN that is answered 200
pub data TearsDown (t : SatBox) : Call → Type 0 where
  in_teardown : {s : List ℕ} {clock address draw : ℕ} {b : List ℕ} {l : Lent} → method_of s ≡ Teardown → is_passed (requested s clock address draw t).case ≡ true
      → TearsDown t (request s clock address draw b l)

-- WHAT ENDS THE SESSION at place i of the box t in a call: it has expired at the clock used, or the owner of its stream has, which takes it along (`takes`);
-- or the call is a TEARDOWN that is answered 200, and in the box after the sweep the session that it names is this one or takes it along
pub data Ends (t : SatBox) (i : ℕ) : Call → Type 0 where
  expired : {clock : ℕ} {c : Call} (m : ℕ) → Sweeps clock c → is_expired (max t.clock clock) (session_at t m) ≡ true → takes (session_at t m) (session_at t i) ≡ true
      → Ends t i c
  torn : {s : List ℕ} {clock address draw : ℕ} {b : List ℕ} {l : Lent} → TearsDown t (request s clock address draw b l)
      → takes (session_at (sweeping clock t).satbox (place_named_by s (sweeping clock t).satbox)) (session_at (sweeping clock t).satbox i) ≡ true
      → Ends t i (request s clock address draw b l)

-- a request that steps 1 to 10 let through asks a and gives the PIDs l; the box t was swept. It is a SETUP without a session that steps 11 to 17 let
-- through, and of step 18 there is a free session place and, for a new stream, by order 1 not "no free frontend reaches the src, or the named one is held
-- or does not reach it"
pub record PassesElse (t : SatBox) (a : Asked) (l : Lists) : Type 0 where
  pub opening : is_opening (sight_of t a) ≡ true
  pub seen : table_case (sight_of t a) ≡ None
  pub query : merges (sight_of t a) && not (is_passed (merge_case (merging t a l))) ≡ false
  pub src : merges (sight_of t a) && (not (eqb a.stream 0) && is_unreached (sight_of t a)) ≡ false
  pub place : has_place t ≡ true
  pub frontend : (sight_of t a).stream ≡ 0 → can_feed t (source_of (sight_of t a)) (feed_of t (sight_of t a)) ≡ true
