-- What the functions of this crate promise each other and the crates above: what a header's place holds, how far a request has come between
-- them, and where in it stands what it asks. No call of the box reaches it. Assumes nothing.
use Rattle.std.specs.Prelude.{ℕ, ◌+◌, ◌≤◌, ◌<◌, ◌%◌, ◌≡◌, Bool, true, false, cond, ◌||◌, ◌&&◌, List, [], ◌∷◌, ltb, eqb, length, get_or, Option, Some, None, MatchOption, is_some, option_map, unwrap_or}
use Rattle.scan.specs.Lists.{part, first}
use Rattle.scan.specs.Found.{Holds, nowhere}
use Rattle.digits.specs.Reading.{read_hex8}
use Rattle.lines.specs.Lines.{is_laid_out, header_lines, request_line}
use Rattle.lines.specs.Headers.{values_of}
use Rattle.lines.specs.Laid.{first_value, times_of, place_of, unseen, SeenIs, LinesAre, value_start}
use Rattle.lines.specs.declared.Seen.{Seen}
use Rattle.reader.specs.Fields.{session_from, session_of, transport_of}
use Rattle.target.specs.Uri.{host_of, query_of}
use Rattle.target.specs.Steps.{stream_given}
use Rattle.aim.specs.Found.{query_span, start_in}
use Rattle.reader.specs.Request.{cseq_of, method_of, uri_of, is_twice, request_refusal}
use Rattle.aim.specs.Aim.{method_number}
use Rattle.aim.specs.Query.{parts_of, text_in, code_in}
use Rattle.aim.specs.declared.Method.{Method}
use Rattle.reader.specs.declared.fields.Session.{Session}
use Rattle.reader.specs.declared.fields.Session.TheVariants.{Absent}
use Rattle.scan.specs.declared.Span.{Span}
use Rattle.target.specs.Line.{line_part}
use Rattle.target.specs.Steps.{PartsAre}
use Rattle.target.specs.declared.Parts.{Parts}
use Rattle.lines.specs.declared.Lines.{Lines}
use Rattle.refusals.specs.declared.Refusal.{Refusal}
use Rattle.refusals.specs.declared.Refusal.TheVariants.{Require}
use Rattle.aim.specs.declared.Method.TheVariants.{Other, Options, Setup, Play, Teardown}
use Rattle.reader.specs.declared.Asked.{Asked}
use Rattle.reader.specs.declared.Refused.{Refused}
use Rattle.scan.specs.Text.{is, before, text, is_empty, are_alike, place_among}
use Rattle.scan.specs.declared.Case.TheVariants.{Counts}

-- where the URI starts: behind the method and a space
abbrev pub uri_start : List ℕ → ℕ
uri_start s = length (line_part 0 (request_line s)) + 1

abbrev pub is_pair : ℕ → ℕ → Bool
is_pair a b = eqb (a % 2) 0 && eqb b (a + 1)

abbrev pub session_in : List ℕ → Session
session_in v = session_from (read_hex8 (before 59 v))

abbrev pub dash : List ℕ → ℕ
dash ports = first (is 45) ports

-- the method of a place among the words
abbrev pub method_at : ℕ → Method
method_at k = get_or (Options ∷ Setup ∷ Play ∷ Teardown ∷ []) k Other

abbrev pub method_in : List ℕ → Method
method_in m = method_at (place_among Counts (text "OPTIONS SETUP PLAY TEARDOWN") m)

abbrev pub is_other : Method → Bool
is_other method = eqb (method_number method) 4

abbrev pub head_text : List ℕ → Seen → List ℕ
head_text s seen = part (place_of seen).start (place_of seen).end s

-- what was seen stands in the request
abbrev pub StandsIn : List ℕ → Seen → Type 0
StandsIn s seen = ((place_of seen).start ≤ (place_of seen).end) × ((place_of seen).end ≤ length s)

-- what was seen of a whole layout's CSeq headers
pub record CseqSeen (s : List ℕ) (seen : Seen) : Type 0 where
  pub whole : is_laid_out s ≡ true
  pub values : SeenIs s (values_of 0 (header_lines s)) seen
  pub starts : (place_of seen).start ≡ value_start 0 s

-- order 2: where the digits of its CSeq stand in the request's bytes, where it has one
pub record CseqIs (s : List ℕ) (r : Span) : Type 0 where
  pub some : is_empty (cseq_of s) ≡ false
  pub starts : r.start ≡ value_start 0 s
  pub held : Holds s (cseq_of s) r.start r.end

abbrev pub session_seen : List ℕ → Seen → Session
session_seen s seen = cond (eqb (times_of seen) 0) Absent (session_in (head_text s seen))

abbrev pub is_repeated : List Seen → ℕ → Bool
is_repeated headers k = ltb 1 (times_of (get_or headers k unseen))

abbrev pub are_twice : List Seen → Bool
are_twice headers = is_repeated headers 1 || is_repeated headers 2 || is_repeated headers 3 || is_repeated headers 4

-- a method that document 01 names
pub record IsMethod (word : List ℕ) (m : Method) : Type 0 where
  pub is : m ≡ method_in word
  pub named : is_other m ≡ false

abbrev pub is_version : List ℕ → Bool
is_version s = are_alike Counts (line_part 2 (request_line s)) (text "RTSP/1.0")

abbrev pub are_repeated : List ℕ → Bool
are_repeated s = is_twice 1 s || is_twice 2 s || is_twice 3 s || is_twice 4 s

-- a request whose layout is whole and whose CSeq was read: past steps 1 and 2
pub record Begun (s : List ℕ) (l : Lines) (cseq : Span) : Type 0 where
  pub lines : LinesAre s l
  pub cseq_is : CseqIs s cseq

-- and whose request line has three parts and the right version, with no header twice and none required: past steps 3 to 5
pub record Headed (s : List ℕ) (l : Lines) (cseq : Span) (parts : Parts) : Type 0 where
  pub begun : Begun s l cseq
  pub parts_are : PartsAre (part 0 l.line s) parts
  pub once : are_repeated s ≡ false
  pub version : is_version s ≡ true
  pub free : ltb 0 (length (values_of 3 (header_lines s))) ≡ false
  pub line_in : l.line ≤ length s
  pub first_in : parts.first < parts.second
  pub second_in : parts.second ≤ l.line

-- where a span of the URI stands in a request in which the URI starts so far from the front
abbrev pub behind : ℕ → Span → Span
behind from r = record { start = from + r.start; end = from + r.end }

-- refused by a step that repeats no Require value
abbrev pub refused_by : Refusal → Option Span → Refused
refused_by refusal cseq = record { refusal = refusal; cseq = cseq; require = None }

-- where the value of a Require header stands, which step 5 alone hands out
pub record RequireIs (s : List ℕ) (refusal : Refusal) (r : Span) : Type 0 where
  pub is : refusal ≡ Require
  pub held : Holds s (first_value (values_of 3 (header_lines s))) r.start r.end
  pub starts : r.start ≡ value_start 3 s

-- nothing refuses the request: what it asks and where that stands
pub record AskedIs (frontends : ℕ) (s : List ℕ) (r : Asked) : Type 0 where
  pub passes : request_refusal frontends s ≡ None
  pub thirteen : (length r.codes ≡ 13) × (length r.spans ≡ 13)
  pub cseq : CseqIs s r.cseq
  pub method : r.method ≡ method_of s
  pub stream : r.stream ≡ stream_given (uri_of s)
  pub host : Holds s (host_of (uri_of s)) r.host.start r.host.end
  pub query : r.query ≡ option_map (behind (uri_start s)) (query_span (uri_of s))
  pub query_held : Holds s (query_of (uri_of s)) (unwrap_or r.query nowhere).start (unwrap_or r.query nowhere).end
  pub query_some : is_some r.query ≡ ltb 0 (length (query_of (uri_of s)))
  pub codes : (a : ℕ) → get_or r.codes a 0 ≡ code_in frontends a (parts_of (uri_of s))
  pub spans : (a : ℕ) → Holds (query_of (uri_of s)) (text_in a (parts_of (uri_of s))) (get_or r.spans a nowhere).start (get_or r.spans a nowhere).end
  pub session : r.session ≡ session_of (values_of 1 (header_lines s))
  pub transport : r.transport ≡ transport_of (first_value (values_of 2 (header_lines s)))
  pub host_starts : r.host.start ≡ uri_start s + 7
  pub starts : (a : ℕ) → (get_or r.spans a nowhere).start ≡ start_in a (uri_of s)

-- the first of steps 1 to 10 that refuses, and where that stands which its answer repeats
pub record RefusedIs (frontends : ℕ) (s : List ℕ) (r : Refused) : Type 0 where
  pub refusal : request_refusal frontends s ≡ Some r.refusal
  pub cseq : MatchOption r.cseq (is_empty (cseq_of s) ≡ true) (CseqIs s)
  pub require : MatchOption r.require (r.refusal ≡ Require → ⊥) (RequireIs s r.refusal)
