-- What the functions of this crate promise each other and the crates above: where in a line and a URI something stands. No call of the box
-- reaches it. Assumes nothing.
use Rattle.std.specs.Prelude.{ℕ, ◌+◌, Bool, ◌&&◌, true, cond, List, ◌≡◌, eqb, length, drop, Option, IfSome, Some, None, is_some, option_and_then}
use Rattle.std.specs.Bool.{then_some}
use Rattle.digits.specs.Reading.{read_number, at_least}
use Rattle.digits.specs.declared.Zeros.TheVariants.{Allowed, Refused}
use Rattle.target.specs.Uri.{starts_with, is_port, has_query, host_of, is_uri, query_of, stream_named}
use Rattle.target.specs.declared.Parts.{Parts}
use Rattle.target.specs.declared.Uri.{Uri}
use Rattle.scan.specs.Found.{Holds}
use Rattle.target.specs.Line.{is_three, line_part}
use Rattle.scan.specs.Lists.{first, are_name_bytes}
use Rattle.scan.specs.Text.{text, is, before}

-- where a URI's query mark stands, the slash behind its host, and the colon behind that
abbrev pub question : List ℕ → ℕ
question u = first (is 63) u

abbrev pub slash : List ℕ → ℕ
slash rest = first (is 47) rest

abbrev pub port_colon : List ℕ → ℕ
port_colon a = first (is 58) a

-- "one or more letters, digits, dots, hyphens"
abbrev pub is_host : List ℕ → Bool
is_host a = are_name_bytes (before 58 a)

-- "port 1 to 65535 in 1 to 5 digits", without its colon
abbrev pub is_port_number : List ℕ → Bool
is_port_number p = is_some (at_least 1 (read_number Allowed 5 65535 p))

-- where the host ends in a host with an optional port; none if the text is something else
abbrev pub host_end : List ℕ → Option ℕ
host_end a = then_some (is_host a && is_port a) (port_colon a)

-- where the three parts stand: around the two spaces
pub record PartsAre (line : List ℕ) (r : Parts) : Type 0 where
  pub three : is_three line ≡ true
  pub method : Holds line (line_part 0 line) 0 r.first
  pub uri : Holds line (line_part 1 line) (r.first + 1) r.second
  pub version : Holds line (line_part 2 line) (r.second + 1) (length line)

-- where a URI's query starts: behind the query mark
abbrev pub query_place : List ℕ → Option ℕ
query_place u = then_some (has_query u) (question u + 1)

-- a number, unless it is the one that stands for none
abbrev pub unless : ℕ → ℕ → Option ℕ
unless none n = cond (eqb n none) None (Some n)

-- the stream that a path names which is not empty
abbrev pub stream_in : List ℕ → Option ℕ
stream_in path = cond (starts_with (text "stream=") path) (at_least 1 (read_number Refused 5 65535 (drop 7 path))) None

-- the stream that a URI names, if it names one
abbrev pub stream_given : List ℕ → Option ℕ
stream_given u = option_and_then (unless 0) (stream_named u)

-- the stream that a URI names, where its host stands, and where its query does
pub record UriIs (u : List ℕ) (r : Uri) : Type 0 where
  pub form : is_uri u ≡ true
  pub stream : r.stream ≡ stream_given u
  pub host : Holds u (host_of u) r.host.start r.host.end
  pub starts : r.host.start ≡ 7
  pub place : r.query ≡ query_place u
  pub query : IfSome r.query (λ start. Holds u (query_of u) start (length u))
