-- Document 01: what an opening takes, steps 16 to 18, what a request does where nothing refuses it, and all eighteen steps in a row. Assumes nothing.
use Rattle.std.specs.Prelude.{ℕ, ◌+◌, ◌*◌, Bool, not, ◌&&◌, cond, ◌||◌, leb, ltb, eqb, length, set, List, Option, Some, None, Result, Ok, Err}
use Rattle.std.specs.Result.{result_unwrap_or}
use Rattle.journal.specs.Records.{record_size}
use Rattle.stream.specs.declared.Stream.{Stream}
use Rattle.table.specs.Table.{open_count, stream_of, is_live, no_session, owns, box_with, session_with}
use Rattle.table.specs.Reach.{has_source}
use Rattle.finding.specs.Finding.{lowest_place, lowest_id, can_feed, choice, drawn}
use Rattle.table.specs.declared.Session.{Session}
use Rattle.table.specs.declared.SatBox.{SatBox}
use Rattle.closings.specs.Closing.{Did, when, restreamed, noting, nothing, closing}
use Rattle.serving.specs.declared.opening.Client.{Client}
use Rattle.refusals.specs.Refusals as reading
use Rattle.aim.specs.Aim.{method_number}
use Rattle.aim.specs.declared.Method.{Method}
use Rattle.aim.specs.declared.Method.TheVariants.{Options, Setup, Play, Teardown, Other}
use Rattle.reader.specs.Request.{request_refusal}
use Rattle.stream.specs.Values.{given}
use Rattle.stream.specs.Streams.{blank, merge_of}
use Rattle.stream.specs.declared.Refusal.{Refusal}
use Rattle.stream.specs.declared.Refusal.TheVariants.{Combination as Clash, TooMany}
use Rattle.steps.specs.Sights.{Asked, Lists, asked_of, lists_of, port_of, sight_of}
use Rattle.steps.specs.Steps.{is_passed, is_setup, is_named, table_case, read_case}
use Rattle.steps.specs.declared.Sight.{Sight}
use Rattle.steps.specs.declared.cases.Case.{Case}
use Rattle.steps.specs.declared.cases.Case.TheVariants.{Combination, TooManyPids, NotReached, Full}
use Rattle.scan.specs.Lists.{◌gives◌or◌}

-- not "no free session place"
abbrev pub has_place : SatBox → Bool
has_place t = ltb (lowest_place t.sessions) (length t.sessions)

-- not "bytes held + 16 × open + 32 > C"
abbrev pub has_room : SatBox → Bool
has_room t = leb (t.held + record_size * open_count t + 2 * record_size) t.settings.size

-- "Its session number is the first non-zero number not open, counting up from the draw"; "A session keeps the client's address from its
-- opening"; an opening sets "the last time to the clock"
abbrev pub guest : ℕ → ℕ → Client → SatBox → Session
guest owner id c t =
    record { number = drawn t.sessions c.draw; address = c.address; last = t.clock; port = c.port; stream = id; owner = owner; playing = 0 }

-- "An opening takes the lowest free place."
unfoldable pub seating_as : ℕ → Session → SatBox → Did
seating_as kind s t = noting kind 0 s (lowest_place t.sessions) s t

-- "SETUP on a live stream without Session joins it, never owning it": kind 2
abbrev pub can_join : ℕ → SatBox → Bool
can_join id t = has_place t && (is_live (stream_of t id) && has_room t)

unfoldable pub joining : ℕ → Client → SatBox → Did
joining id client t = when (can_join id t) (seating_as 2 (guest 0 id client t) t) t

-- "A new stream takes the lowest free ID": kind 1. Order 1 of document 02: not "no free frontend reaches the src, or the named one is held or does
-- not reach it"; where none does, the choice is 0, which is none of the box's
abbrev pub can_open : ℕ → ℕ → SatBox → Bool
can_open source f t = has_place t && (can_feed t source f && has_room t)

unfoldable pub opening : Stream → Client → SatBox → Did
opening m client t = when (can_open m.values.src m.frontend t) (seating_as 1 (guest 1 (lowest_id t.streams) client t) (restreamed (lowest_id t.streams) m t)) t

-- the src of a new stream: "1" where it is left out
abbrev pub source_of : Sight → ℕ
source_of v = given v.src 1

-- a new stream takes fe and, "without fe", the choice of order 1
abbrev pub feed_of : SatBox → Sight → ℕ
feed_of t v = cond (eqb v.fe 0) (choice t (source_of v)) v.fe

-- what a query is merged into: a new stream, or the one that is named
abbrev pub unmerged : SatBox → Asked → Stream
unmerged t a = cond (eqb a.stream 0) (blank (feed_of t (sight_of t a))) (stream_of t a.stream)

unfoldable pub merging : SatBox → Asked → Lists → Result Stream Refusal
merging t a l = merge_of (unmerged t a) a.codes l.pids l.delpids l.addpids

-- the stream after it, which stays as it is where the query is not merged
abbrev pub stream_after : SatBox → Asked → Lists → Stream
stream_after t a l = result_unwrap_or (merging t a l) (unmerged t a)

-- whose query is merged, by SETUP or PLAY: a new stream's, and "the owner's"; "SETUP on a live stream without Session joins it, never owning it"
abbrev pub merges : Sight → Bool
merges v = (eqb (method_number v.method) 1 || eqb (method_number v.method) 2) && (eqb v.stream 0 || owns v.stream v.session)

-- 16: "Combination rule broken"; 17: "More than 32 PIDs after merging"
abbrev pub refusal_case : Refusal → Case
refusal_case Clash = Combination
refusal_case TooMany = TooManyPids

abbrev pub merge_case : Result Stream Refusal → Option Case
merge_case (Ok m) = None
merge_case (Err refusal) = Some (refusal_case refusal)

-- 17, by order 1: "a later src that the held frontend does not reach"
abbrev pub is_unreached : Sight → Bool
is_unreached v = not (eqb v.src 0) && not (has_source v.reach v.src)

-- an opening is a SETUP without a session
abbrev pub is_opening : Sight → Bool
is_opening v = is_setup v.method && not (is_named v)

-- what an opening takes is there: on a new stream, or on a live one
abbrev pub can_seat : SatBox → Sight → Bool
can_seat t v = cond (eqb v.stream 0) (can_open (source_of v) (feed_of t v) t) (can_join v.stream t)

-- THE CASE of a request that steps 1 to 10 let through: 11 to 15; 16 and 17, where its query is merged, and 17 for the src of a live stream; 18:
-- "Opening: .."
unfoldable pub case_of : SatBox → Asked → Lists → Option Case
case_of t a l =
    not (is_passed (table_case (sight_of t a))) gives table_case (sight_of t a) or
    (merges (sight_of t a) && not (is_passed (merge_case (merging t a l)))) gives merge_case (merging t a l) or
    (merges (sight_of t a) && (not (eqb a.stream 0) && is_unreached (sight_of t a))) gives Some NotReached or
    (is_opening (sight_of t a) && not (can_seat t (sight_of t a))) gives Some Full or
    None

-- WHAT IS DONE: to a session, which is changed in its place; nothing is written of it
unfoldable pub with_session : ℕ → Session → SatBox → SatBox
with_session place s t = box_with (set t.sessions place s) t.streams t.held t.clock t.sequence t

abbrev pub refreshed : ℕ → Session → Session
refreshed clock s = session_with clock s.port s.playing s

-- THE LAST TIME, order 3 of document 02: "every request that passes step 11 and names an open session sets its last time, also if a later step
-- refuses it". Step 11 refuses none that names one
unfoldable pub kept : Asked → SatBox → SatBox
kept a t = let v = sight_of t a in cond (is_named v) (with_session v.place (refreshed t.clock v.session) t) t

-- the session after a SETUP or a PLAY that names it: "SETUP in a session replaces only the port"; PLAY "marks the session playing"
abbrev pub seat_after : Sight → Session
seat_after v =
    let s = v.session in cond (is_setup v.method) (session_with s.last v.port s.playing s) (session_with s.last s.port 1 s)

-- what a request does, and the session that its answer is about
pub record Serving : Type 0 where
  pub did : Did
  pub session : Session
  pub case : Option Case

abbrev pub granted : Did → Session → Serving
granted d s = record { did = d; session = s; case = None }

-- "for the owner, merges the query"; "PLAY merges the owner's query and marks the session playing"
abbrev pub retuned : SatBox → Asked → Lists → SatBox
retuned t a l = cond (merges (sight_of t a)) (restreamed a.stream (stream_after t a l) t) t

abbrev pub retuning : SatBox → Asked → Lists → Serving
retuning t a l = granted (nothing (with_session (sight_of t a).place (seat_after (sight_of t a)) (retuned t a l))) (seat_after (sight_of t a))

-- a SETUP without a session: a new stream, or one that is live
abbrev pub seating : SatBox → Asked → Lists → Client → Serving
seating t a l client =
    cond (eqb a.stream 0)
    (granted (opening (stream_after t a l) client t) (guest 1 (lowest_id t.streams) client t))
    (granted (joining a.stream client t) (guest 0 a.stream client t))

-- "TEARDOWN closes": cause 1
abbrev pub grant : Method → SatBox → Asked → Lists → Client → Serving
grant Options t a l client = granted (nothing t) (sight_of t a).session
grant Setup t a l client = cond (is_named (sight_of t a)) (retuning t a l) (seating t a l client)
grant Play t a l client = retuning t a l
grant Teardown t a l client = granted (closing 1 (sight_of t a).place t) (sight_of t a).session
grant Other t a l client = granted (nothing t) no_session

-- "A status other than 200 changes nothing beyond the sweep"; by order 3 but for the last time, which is set in t before
abbrev pub denied : SatBox → Option Case → Serving
denied t case = record { did = nothing t; session = no_session; case = case }

-- A REQUEST that steps 1 to 10 let through
unfoldable pub served : SatBox → Asked → Lists → Client → Serving
served t a l client = cond (is_passed (case_of t a l)) (grant a.method t a l client) (denied t (case_of t a l))

-- who asks: "the client's IPv4 address and a 32-bit draw", and the port of the Transport header
abbrev pub client_of : ℕ → ℕ → Asked → Client
client_of address draw a = record { address = address; port = port_of a.transport; draw = draw }

-- steps 1 to 18, on a table that was swept: what steps 1 to 10 refuse sets no last time
unfoldable pub answered : List ℕ → ℕ → ℕ → SatBox → Serving
answered s address draw t =
    let a = asked_of t.settings.frontends s in
    cond (reading.is_read (request_refusal t.settings.frontends s))
    (served (kept a t) a (lists_of s) (client_of address draw a))
    (denied t (read_case (request_refusal t.settings.frontends s)))
