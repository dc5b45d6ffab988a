-- "URI: `rtsp://`, host (one or more letters, digits, dots, hyphens), optional `:` and port 1 to 65535 in 1 to 5 digits, `/`, optional
-- `stream=` with 1 to 65535 without leading zero, optional `?` and query." The bytes as printed: their case counts. Assumes nothing.
use Rattle.std.specs.Prelude.{ℕ, Bool, true, cond, ◌&&◌, List, length, drop, Option, Some, None, is_some}
use Rattle.scan.specs.Text.{text, are_alike, before, after, has, is_empty}
use Rattle.scan.specs.Lists.{part, are_name_bytes}
use Rattle.scan.specs.declared.Case.TheVariants.{Counts}
use Rattle.digits.specs.Reading.{read_number, at_least}
use Rattle.digits.specs.declared.Zeros.TheVariants.{Allowed, Refused}

-- what follows the first `?` is the query
abbrev pub has_query : List ℕ → Bool
has_query u = has 63 u

abbrev pub query_of : List ℕ → List ℕ
query_of u = after 63 u

abbrev pub starts_with : List ℕ → List ℕ → Bool
starts_with t u = are_alike Counts (part 0 (length t) u) t

-- what follows `rtsp://`: host and port up to the first `/`, and behind it the stream
abbrev pub rest_of : List ℕ → List ℕ
rest_of u = drop 7 (before 63 u)

abbrev pub host_of : List ℕ → List ℕ
host_of u = before 58 (before 47 (rest_of u))

-- "optional `:` and port 1 to 65535 in 1 to 5 digits"
abbrev pub is_port : List ℕ → Bool
is_port a = cond (has 58 a) (is_some (at_least 1 (read_number Allowed 5 65535 (after 58 a)))) true

-- "optional `stream=` with 1 to 65535 without leading zero": 0 where it is left out
unfoldable pub stream_of_path : List ℕ → Option ℕ
stream_of_path path =
    cond (is_empty path) (Some 0) (cond (starts_with (text "stream=") path) (at_least 1 (read_number Refused 5 65535 (drop 7 path))) None)

abbrev pub stream_named : List ℕ → Option ℕ
stream_named u = stream_of_path (after 47 (rest_of u))

-- the form of the URI, what follows `?` aside
unfoldable pub is_uri : List ℕ → Bool
is_uri u =
    starts_with (text "rtsp://") (before 63 u)
    && (has 47 (rest_of u) && (are_name_bytes (host_of u) && (is_port (before 47 (rest_of u)) && is_some (stream_named u))))
