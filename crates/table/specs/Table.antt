-- Counting in a list; and what stands in a table: open sessions, live streams, and who is on which. Assumes nothing.
use Rattle.std.specs.Prelude.{ℕ, ◌+◌, zero, suc, Bool, true, false, not, cond, ◌&&◌, ◌||◌, List, [], ◌∷◌, eqb, get_or, set, Option, Some, None}
use Rattle.stream.specs.Streams.{past_stream}
use Rattle.stream.specs.declared.Stream.{Stream}
use Rattle.table.specs.declared.Session.{Session}
use Rattle.table.specs.declared.SatBox.{SatBox}

module _ {A : Type 0} (p : A → Bool) where
  -- how many elements pass the test
  abbrev pub count : List A → ℕ
  count [] = 0
  count (x ∷ xs) = cond (p x) 1 0 + count xs

  -- some element passes the test
  abbrev pub any : List A → Bool
  any [] = false
  any (x ∷ xs) = p x || any xs

-- a number, unless it is the one that stands for none
abbrev pub unless : ℕ → ℕ → Option ℕ
unless none n = cond (eqb n none) None (Some n)

-- a number is one of some
abbrev pub is_among : ℕ → List ℕ → Bool
is_among n ns = any (λ m. eqb m n) ns

-- no number but 0 occurs twice
abbrev pub are_distinct : List ℕ → Bool
are_distinct [] = true
are_distinct (n ∷ ns) = (eqb n 0 || not (is_among n ns)) && are_distinct ns

-- a place where no session is
abbrev pub no_session : Session
no_session = record { number = 0; address = 0; last = 0; port = 0; stream = 0; owner = 0; playing = 0 }

-- a session has a number; an open one has none of 0
abbrev pub has_number : ℕ → Session → Bool
has_number n s = eqb s.number n

abbrev pub is_free : Session → Bool
is_free s = has_number 0 s

abbrev pub is_open : Session → Bool
is_open s = not (is_free s)

abbrev pub open_count : SatBox → ℕ
open_count t = count is_open t.sessions

abbrev pub session_at : SatBox → ℕ → Session
session_at t i = get_or t.sessions i no_session

-- the stream of an ID; IDs count from 1, and there is none of 0
abbrev pub stream_of : SatBox → ℕ → Stream
stream_of t id = get_or (past_stream ∷ t.streams) id past_stream

-- the streams with another one of an ID
abbrev pub with_stream : ℕ → Stream → List Stream → List Stream
with_stream zero m ms = ms
with_stream (suc k) m ms = set ms k m

abbrev pub is_dead : Stream → Bool
is_dead m = eqb m.frontend 0

abbrev pub is_live : Stream → Bool
is_live m = not (is_dead m)

-- a table with other sessions and streams, bytes held, clock and sequence; what is "fixed when the box is made" stays
abbrev pub box_with : List Session → List Stream → ℕ → ℕ → ℕ → SatBox → SatBox
box_with sessions streams held clock sequence t =
    record { sessions = sessions; streams = streams; settings = t.settings; held = held; clock = clock; sequence = sequence; spare = t.spare }

-- a session with another last time and port, playing or not; all else is "from its opening"
abbrev pub session_with : ℕ → ℕ → ℕ → Session → Session
session_with last port plays s =
    record { number = s.number; address = s.address; last = last; port = port; stream = s.stream; owner = s.owner; playing = plays }

-- a session is open and on the stream of an ID; and owns it
abbrev pub is_on : ℕ → Session → Bool
is_on id s = is_open s && eqb s.stream id

abbrev pub owns : ℕ → Session → Bool
owns id s = is_on id s && not (eqb s.owner 0)
