-- What the known headers say. Their values are given as those that were sent, in their order. Assumes nothing.
use Rattle.std.specs.Prelude.{ℕ, ◌+◌, ◌%◌, cond, ◌&&◌, List, [], eqb, length, drop, get_or, Option, Some, None}
use Rattle.scan.specs.Text.{text, before, after}
use Rattle.digits.specs.Reading.{read_number, at_least, read_hex8}
use Rattle.digits.specs.declared.Zeros.TheVariants.{Refused}
use Rattle.target.specs.Uri.{starts_with}
use Rattle.reader.specs.declared.fields.Session.{Session}
use Rattle.reader.specs.declared.fields.Session.TheVariants.{Absent, Malformed, Named}

-- step 11's reading: "Session, up to its first semicolon, is 8 hex digits of either case"
abbrev pub session_from : Option ℕ → Session
session_from (Some n) = Named n
session_from None = Malformed

unfoldable pub session_of : List (List ℕ) → Session
session_of vs = cond (eqb (length vs) 0) Absent (session_from (read_hex8 (before 59 (get_or vs 0 []))))

-- step 15's reading: "exactly `RTP/AVP;unicast;client_port=a-b`, decimal without leading zeros, a even, 1024 to 65534, b = a + 1"
abbrev pub port_from : Option ℕ → Option ℕ → Option ℕ
port_from (Some a) (Some b) = cond (eqb (a % 2) 0 && eqb b (a + 1)) (Some a) None
port_from (Some a) None = None
port_from None b = None

abbrev pub ports_in : List ℕ → Option ℕ
ports_in ports = port_from (at_least 1024 (read_number Refused 5 65534 (before 45 ports))) (read_number Refused 5 65535 (after 45 ports))

unfoldable pub transport_of : List ℕ → Option ℕ
transport_of v = cond (starts_with (text "RTP/AVP;unicast;client_port=") v) (ports_in (drop 28 v)) None
