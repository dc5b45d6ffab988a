-- What a request comes to, as what its change needs: what an opening would take, and its turn, beside the meaning's. Assumes nothing.
use Rattle.std.specs.Prelude.{ℕ, ◌+◌, ◌≤◌, ◌<◌, ◌≡◌, Bool, true, false, not, cond, ◌&&◌, ◌||◌, List, Option, Some, None, Result, Ok, Err, eqb, ltb, length, get_or, unwrap_or}
use Rattle.refusals.specs.Refusals as reading
use Rattle.aim.specs.Aim.{method_number}
use Rattle.aim.specs.declared.Method.{Method}
use Rattle.aim.specs.declared.Method.TheVariants.{Options, Setup, Play, Teardown, Other}
use Rattle.refusals.specs.declared.Refusal.{Refusal}
use Rattle.reader.specs.Heads.{AskedIs}
use Rattle.reader.specs.declared.Asked.{Asked as Read}
use Rattle.journal.specs.Records.{record_size}
use Rattle.stream.specs.Streams.{blank}
use Rattle.stream.specs.declared.Stream.{Stream}
use Rattle.stream.specs.declared.Refusal.{Refusal as Unmerged}
use Rattle.table.specs.Table.{unless, no_session, stream_of, owns, session_with}
use Rattle.table.specs.Formed.{well_formed}
use Rattle.finding.specs.Finding.{lowest_place, lowest_id, can_feed}
use Rattle.table.specs.declared.SatBox.{SatBox}
use Rattle.table.specs.declared.Session.{Session}
use Rattle.steps.specs.Handed.{asked_by, Told}
use Rattle.steps.specs.Steps.{is_passed, is_named, table_case, read_case}
use Rattle.steps.specs.Sights.{sight_of, Asked, Lists}
use Rattle.steps.specs.declared.Sight.{Sight}
use Rattle.steps.specs.declared.cases.Case.{Case}
use Rattle.steps.specs.declared.cases.Case.TheVariants.{NotReached, Full}
use Rattle.closings.specs.Closing.{Did, nothing, restreamed, noting, closing}
use Rattle.closings.specs.Does.{Closable}
use Rattle.closings.specs.Stamps.{codes_of}
use Rattle.closings.specs.declared.change.Kind.{Kind}
use Rattle.closings.specs.declared.change.Kind.TheVariants as kind
use Rattle.serving.specs.Serving.{has_place, has_room, guest, Serving, source_of, feed_of, merging, merges, refusal_case, merge_case, is_unreached, is_opening, can_seat, with_session, seat_after}
use Rattle.serving.specs.declared.opening.Client.{Client}
use Rattle.serving.specs.declared.opening.Seat.{Seat}
use Rattle.serving.specs.declared.opening.Offer.{Offer}
use Rattle.serving.specs.declared.Turn.{Turn}
use Rattle.serving.specs.declared.Turn.TheVariants.{Refused, Kept, Changed, Opened, Joined, Closed}
use Rattle.scan.specs.Lists.{◌gives◌or◌}

-- steps 16 to 18 alone
abbrev pub change_case : SatBox → Asked → Lists → Option Case
change_case t a l =
    (merges (sight_of t a) && not (is_passed (merge_case (merging t a l)))) gives merge_case (merging t a l) or
    (merges (sight_of t a) && (not (eqb a.stream 0) && is_unreached (sight_of t a))) gives Some NotReached or
    (is_opening (sight_of t a) && not (can_seat t (sight_of t a))) gives Some Full or
    None

abbrev pub takes_query : Method → Bool
takes_query m = eqb (method_number m) 1 || eqb (method_number m) 2

-- a session at another port, and playing
abbrev pub at_port : ℕ → Session → Session
at_port port s = session_with s.last port s.playing s

abbrev pub playing : Session → Session
playing s = session_with s.last s.port 1 s

-- WHAT AN OPENING WOULD TAKE: on a new stream, or on the one that is named
abbrev pub guest_of : Client → ℕ → ℕ → ℕ → ℕ → Session
guest_of client number clock id owner =
    record {
      number = number;
      address = client.address;
      last = clock;
      port = client.port;
      stream = id;
      owner = owner;
      playing = 0;
    }

-- a session at its place, where a test holds
abbrev pub seat_if : Bool → ℕ → Session → Option Seat
seat_if b place s = cond b (Some (record { place = place; session = s })) None

-- at the lowest free place, where there is room
abbrev pub seat_on : ℕ → ℕ → Client → SatBox → Option Seat
seat_on id owner client t = seat_if (has_place t && has_room t) (lowest_place t.sessions) (guest owner id client t)

-- some ID is free
abbrev pub has_id : SatBox → Bool
has_id t = not (eqb (lowest_id t.streams) 9)

-- who opens a new stream, with a frontend that can feed it; and who joins a live one, whose ID has eight bits
abbrev pub owner_seat : ℕ → ℕ → Client → SatBox → Option Seat
owner_seat source feed client t = cond (can_feed t source feed && has_id t) (seat_on (lowest_id t.streams) 1 client t) None

abbrev pub joiner_seat : ℕ → ℕ → Client → SatBox → Option Seat
joiner_seat id frontend client t = cond (not (eqb frontend 0) && ltb id 256) (seat_on id 0 client t) None

-- a frontend has eight bits; a larger number is none
abbrev pub is_small : ℕ → ℕ
is_small n = cond (ltb n 256) n 0

abbrev pub new_offer : ℕ → ℕ → Client → SatBox → Offer
new_offer source feed client t = record { feed = unless 0 feed; seat = owner_seat source feed client t }

abbrev pub offer_of : SatBox → Sight → Client → Offer
offer_of t v client =
    cond (eqb v.stream 0)
    (new_offer (source_of v) (is_small (feed_of t v)) client t)
    (record { feed = None; seat = joiner_seat v.stream v.frontend client t })

-- TURNS: why a request is refused, and the session that its answer is about
abbrev pub reason_of : Turn → Option Case
reason_of (Refused case kept) = Some case
reason_of (Kept seat) = None
reason_of (Changed seat m) = None
reason_of (Opened seat m) = None
reason_of (Joined seat) = None
reason_of (Closed seat) = None

abbrev pub session_in : Option Seat → Session
session_in None = no_session
session_in (Some seat) = seat.session

abbrev pub about_of : Turn → Session
about_of (Refused case kept) = no_session
about_of (Kept seat) = session_in seat
about_of (Changed seat m) = seat.session
about_of (Opened seat m) = seat.session
about_of (Joined seat) = seat.session
about_of (Closed seat) = seat.session

-- the session that a request names, if any; and as it is after a SETUP or a PLAY
abbrev pub named_seat : Sight → Option Seat
named_seat v = seat_if (is_named v) v.place v.session

abbrev pub changed_seat : Sight → Seat
changed_seat v = record { place = v.place; session = seat_after v }

abbrev pub denied_as : Sight → Case → Turn
denied_as v case = Refused case (named_seat v)

-- a turn that rests on what an opening would take
abbrev pub if_seated : Sight → Option Seat → (Seat → Turn) → Turn
if_seated v None f = denied_as v Full
if_seated v (Some seat) f = f seat

-- a turn that rests on a merged query
abbrev pub if_merged : Sight → Result Stream Unmerged → (Stream → Turn) → Turn
if_merged v (Ok m) turn = turn m
if_merged v (Err refusal) turn = denied_as v (refusal_case refusal)

-- a SETUP for a new stream, one on a live stream, and a SETUP or a PLAY of an open session, where c is what its query was merged to
unfoldable pub opened_by : Sight → Result Stream Unmerged → Offer → Turn
opened_by v c o = if_merged v c (λ m. if_seated v o.seat (λ seat. Opened seat m))

unfoldable pub joined_by : Sight → Offer → Turn
joined_by v o = if_seated v o.seat (λ seat. Joined seat)

unfoldable pub retuned_by : Sight → Result Stream Unmerged → Turn
retuned_by v c =
    cond (owns v.stream v.session)
    (if_merged v c (λ m. cond (is_unreached v) (denied_as v NotReached) (Changed (changed_seat v) (Some m))))
    (Changed (changed_seat v) None)

unfoldable pub set_up_by : Sight → Result Stream Unmerged → Offer → Turn
set_up_by v c o = cond (is_named v) (retuned_by v c) (cond (eqb v.stream 0) (opened_by v c o) (joined_by v o))

-- step 6 lets no other method through
abbrev pub method_turn : Method → Sight → Result Stream Unmerged → Offer → Turn
method_turn Options v c o = Kept (named_seat v)
method_turn Setup v c o = set_up_by v c o
method_turn Play v c o = retuned_by v c
method_turn Teardown v c o = Closed (record { place = v.place; session = v.session })
method_turn Other v c o = Kept (named_seat v)

-- THE TURN of a request that steps 1 to 15 let through or refused
unfoldable pub turn_by : Sight → Result Stream Unmerged → Offer → Option Case → Turn
turn_by v c o None = method_turn v.method v c o
turn_by v c o (Some case) = denied_as v case

-- what a turn does: a session set in its place, its stream set before it, an opening with its record, and a closing
abbrev pub with_seat : Seat → SatBox → SatBox
with_seat seat t = with_session seat.place seat.session t

abbrev pub keeping : Option Seat → SatBox → SatBox
keeping None t = t
keeping (Some seat) t = with_seat seat t

abbrev pub with_own : Seat → Option Stream → SatBox → SatBox
with_own seat None t = t
with_own seat (Some m) t = restreamed seat.session.stream m t

abbrev pub seated : Kind → Seat → SatBox → Did
seated kind seat t = noting (codes_of kind).0 (codes_of kind).1 seat.session seat.place seat.session t

unfoldable pub performed : Turn → SatBox → Did
performed (Refused case kept) t = nothing (keeping kept t)
performed (Kept seat) t = nothing (keeping seat t)
performed (Changed seat m) t = nothing (with_seat seat (with_own seat m t))
performed (Opened seat m) t = seated kind.Opened seat (restreamed seat.session.stream m t)
performed (Joined seat) t = seated kind.Joined seat t
performed (Closed seat) t = closing 1 seat.place t

-- and that it can be done: what is set is of the table, and there is room for what is written
abbrev pub Placed : Option Seat → Type 0
Placed None = Unit {0}
Placed (Some seat) = seat.place < 32

pub record Homed (seat : Seat) : Type 0 where
  pub below : seat.place < 32
  pub least : 1 ≤ seat.session.stream
  pub most : seat.session.stream ≤ 8

pub record Seatable (t : SatBox) (seat : Seat) : Type 0 where
  pub home : Homed seat
  pub room : t.held + record_size ≤ t.settings.size

abbrev pub Performable : SatBox → Turn → Type 0
Performable t (Refused case kept) = Placed kept
Performable t (Kept seat) = Placed seat
Performable t (Changed seat m) = Homed seat
Performable t (Opened seat m) = Seatable t seat
Performable t (Joined seat) = Seatable t seat
Performable t (Closed seat) = Closable t seat.place

-- the turn x is the meaning y on the table t
pub record TurnIs (t : SatBox) (y : Serving) (x : Turn) : Type 0 where
  pub did : performed x t ≡ y.did
  pub session : about_of x ≡ y.session
  pub case : reason_of x ≡ y.case
  pub can : Performable t x

-- HOW FAR IT HAS COME: a request that was read, on a well-formed table with all its places
pub record Servable (t : SatBox) (s : List ℕ) (r : Read) : Type 0 where
  pub formed : well_formed t ≡ true
  pub places : length t.sessions ≡ 32
  pub rows : length t.streams ≡ 8
  pub told : Told s r
  pub fe : get_or r.codes 1 0 ≤ t.settings.frontends

-- steps 11 to 15 let it through
pub record Through (t : SatBox) (s : List ℕ) (r : Read) (v : Sight) : Type 0 where
  pub servable : Servable t s r
  pub sight : v ≡ sight_of t (asked_by r)
  pub passed : table_case v ≡ None

-- it opens a session on a new stream, or on a live one
pub record Opens (t : SatBox) (s : List ℕ) (r : Read) (v : Sight) : Type 0 where
  pub through : Through t s r v
  pub setup : v.method ≡ Setup
  pub stranger : is_named v ≡ false

-- it is a SETUP or a PLAY of an open session
pub record Retunes (t : SatBox) (s : List ℕ) (r : Read) (v : Sight) : Type 0 where
  pub through : Through t s r v
  pub takes : takes_query v.method ≡ true
  pub named : is_named v ≡ true

-- the stream that it names was looked up, where that is live
abbrev pub Found : SatBox → Sight → Stream → Type 0
Found t v m = (v.frontend ≡ 0 → ⊥) → m ≡ stream_of t v.stream

abbrev pub opens_now : Option Case → Sight → Bool
opens_now case v = is_passed case && is_opening v

-- whether its query is merged, and into which stream: a new one, or the one that it names
abbrev pub merges_now : Option Case → Sight → Bool
merges_now case v = is_passed case && merges v

abbrev pub unmerged_by : Sight → Stream → Offer → Stream
unmerged_by v m o = cond (eqb v.stream 0) (blank (unwrap_or o.feed 0)) m

-- a request as it was read, and what was looked up for it
pub record Looks (t : SatBox) (s : List ℕ) (r : Read) (v : Sight) (m : Stream) (case : Option Case) : Type 0 where
  pub formed : well_formed t ≡ true
  pub places : length t.sessions ≡ 32
  pub rows : length t.streams ≡ 8
  pub is : AskedIs t.settings.frontends s r
  pub sight : v ≡ sight_of t (asked_by r)
  pub first : case ≡ table_case v
  pub stream : Found t v m
