-- What a request asks, once steps 1 to 10 have let it through, and what steps 11 to 15 look at, gathered from it and a table. Assumes nothing.
use Rattle.std.specs.Prelude.{ℕ, Bool, true, false, cond, List, [], ◌∷◌, map, ltb, eqb, length, get_or, Option, unwrap_or}
use Rattle.lines.specs.Lines.{header_lines}
use Rattle.lines.specs.Headers.{values_of}
use Rattle.target.specs.Uri.{stream_named, query_of}
use Rattle.aim.specs.Query.{parts_of, text_in, code_from, code_in}
use Rattle.aim.specs.declared.Method.{Method}
use Rattle.reader.specs.Fields.{session_of, transport_of}
use Rattle.reader.specs.Request.{method_of, uri_of}
use Rattle.reader.specs.declared.fields.Session.{Session as Sent}
use Rattle.reader.specs.declared.fields.Session.TheVariants.{Absent, Malformed, Named}
use Rattle.table.specs.Table.{has_number, session_at, stream_of}
use Rattle.table.specs.Reach.{set_of}
use Rattle.scan.specs.Lists.{first}
use Rattle.table.specs.declared.SatBox.{SatBox}
use Rattle.steps.specs.declared.Sight.{Sight}

-- the stream is 0 where the URI names none; codes stand by the attribute's place in document 01's table, 0 where it is not given
pub record Asked : Type 0 where
  pub method : Method
  pub stream : ℕ
  pub codes : List ℕ
  pub query : Bool
  pub session : Sent
  pub transport : Option ℕ

-- the lists of PIDs as they are written
pub record Lists : Type 0 where
  pub pids : List ℕ
  pub addpids : List ℕ
  pub delpids : List ℕ

unfoldable pub codes_in : ℕ → List ℕ → List ℕ
codes_in frontends u = map (λ attribute. code_in frontends attribute (parts_of u)) (0 ∷ 1 ∷ 2 ∷ 3 ∷ 4 ∷ 5 ∷ 6 ∷ 7 ∷ 8 ∷ 9 ∷ 10 ∷ 11 ∷ 12 ∷ [])

-- an empty query was refused at step 8
abbrev pub asked_of : ℕ → List ℕ → Asked
asked_of frontends s =
    record {
      method = method_of s;
      stream = code_from (stream_named (uri_of s));
      codes = codes_in frontends (uri_of s);
      query = ltb 0 (length (query_of (uri_of s)));
      session = session_of (values_of 1 (header_lines s));
      transport = transport_of (get_or (values_of 2 (header_lines s)) 0 []);
    }

abbrev pub lists_of : List ℕ → Lists
lists_of s = record { pids = text_in 10 (parts_of (uri_of s)); addpids = text_in 11 (parts_of (uri_of s)); delpids = text_in 12 (parts_of (uri_of s)) }

abbrev pub is_absent : Sent → Bool
is_absent Absent = true
is_absent Malformed = false
is_absent (Named n) = false

-- the number that a Session header names; 0 where it names none
abbrev pub session_number : Sent → ℕ
session_number Absent = 0
session_number Malformed = 0
session_number (Named n) = n

-- the place of the open session that it names; 32 where there is none
abbrev pub place_named : Sent → SatBox → ℕ
place_named sent t = cond (eqb (session_number sent) 0) 32 (first (has_number (session_number sent)) t.sessions)

-- the first of the two ports; 0 where the Transport is not of its form
abbrev pub port_of : Option ℕ → ℕ
port_of transport = unwrap_or transport 0

-- a request beside what is looked up for it: a place, the session there, and a frontend with, order 1, what it reaches; src and fe stand at places
-- 0 and 1 of document 01's table
unfoldable pub sight_of : SatBox → Asked → Sight
sight_of t a =
    record {
      method = a.method;
      absent = is_absent a.session;
      stream = a.stream;
      fe = get_or a.codes 1 0;
      src = get_or a.codes 0 0;
      query = a.query;
      port = port_of a.transport;
      place = place_named a.session t;
      session = session_at t (place_named a.session t);
      frontend = (stream_of t a.stream).frontend;
      reach = set_of t.settings (stream_of t a.stream).frontend;
    }
