-- What one pass over a request's lines finds: whether the layout is whole, and where the request line and the known headers stand. The crates
-- promise it each other; no call of the box reaches it. Assumes nothing.
use Rattle.std.specs.Prelude.{ℕ, ◌+◌, ◌<◌, min, ◌≡◌, Bool, true, false, cond, ◌&&◌, List, [], ◌∷◌, eqb, ltb, length, drop, get_or, Option, Some, None}
use Rattle.scan.specs.Found.{Holds, FirstOf, in_class, nowhere, place_in, leading}
use Rattle.lines.specs.Headers.{is_header, header_of, values_of}
use Rattle.lines.specs.Lines.{lines, are_lines, is_laid_out, request_line, header_lines}
use Rattle.lines.specs.declared.Name.{Name}
use Rattle.lines.specs.declared.Name.TheVariants.{CSeq, Session, Transport, Require, Accept}
use Rattle.lines.specs.declared.Seen.{Seen}
use Rattle.lines.specs.declared.Seen.TheVariants.{Never, Once, Again}
use Rattle.lines.specs.declared.Header.{Header}
use Rattle.lines.specs.declared.Header.TheVariants.{Known, Other}
use Rattle.lines.specs.declared.Lines.{Lines}
use Rattle.scan.specs.Lists.{first, all, part, is_name}
use Rattle.scan.specs.Text.{is, before, after, text, trim, is_empty, are_alike, place_among}
use Rattle.scan.specs.declared.Case.TheVariants.{Ignored}
use Rattle.scan.specs.declared.Class.TheVariants.{NotText}
use Rattle.scan.specs.declared.Span.{Span}

-- the known headers, by their places
abbrev pub known : List ℕ
known = text "CSeq Session Transport Require Accept"

abbrev pub first_value : List (List ℕ) → List ℕ
first_value vs = get_or vs 0 []

abbrev pub header_colon : List ℕ → ℕ
header_colon line = first (is 58) line

abbrev pub name_of : List ℕ → List ℕ
name_of line = before 58 line

abbrev pub header_value : List ℕ → List ℕ
header_value line = trim (after 58 line)

-- where a header's value starts in its line
abbrev pub value_at : List ℕ → ℕ
value_at line = header_colon line + 1 + leading (drop (header_colon line + 1) line)

-- where the first value of a kind starts, of header lines from place `at` on, with CR LF between two: 0 where there is none
abbrev pub first_start : ℕ → ℕ → List (List ℕ) → ℕ
first_start k at hs = place_in (λ h. eqb (header_of h) k) value_at 2 at hs

-- a colon stands in the line behind a name that is alike
abbrev pub is_named : List ℕ → List ℕ → Bool
is_named name line = ltb (length name) (length line) && (eqb (get_or line (length name) 0) 58 && are_alike Ignored name (part 0 (length name) line))

-- the place of a known name among them, and how long it is
abbrev pub name_number : Name → ℕ
name_number CSeq = 0
name_number Session = 1
name_number Transport = 2
name_number Require = 3
name_number Accept = 4

abbrev pub name_length : Name → ℕ
name_length CSeq = 4
name_length Session = 7
name_length Transport = 9
name_length Require = 7
name_length Accept = 6

-- the line's name, which ends at c, has place k among the known ones
pub record Named (line : List ℕ) (k c : ℕ) : Type 0 where
  pub some : 0 < c
  pub within : c < length line
  pub colon : get_or line c 0 ≡ 58
  pub names : all is_name (part 0 c line) ≡ true
  pub place : k ≡ place_among Ignored known (part 0 c line)

-- the known name that the line has; without one it is no header, or one of another name
abbrev pub KnownIs : List ℕ → Option Name → Type 0
KnownIs line None = is_header line ≡ true → header_of line ≡ 5
KnownIs line (Some name) = Named line (name_number name) (name_length name)

-- a header of a known name, whose value stands there
pub record KnownHeader (line : List ℕ) (name : Name) (place : Span) : Type 0 where
  pub header : is_header line ≡ true
  pub kind : header_of line ≡ name_number name
  pub value : Holds line (header_value line) place.start place.end
  pub starts : place.start ≡ value_at line

-- one line: none where it is no header
abbrev pub HeaderIs : List ℕ → Option Header → Type 0
HeaderIs line None = is_header line ≡ false
HeaderIs line (Some Other) = (is_header line ≡ true) × (header_of line ≡ 5)
HeaderIs line (Some (Known name value)) = KnownHeader line name value

-- how often a header was sent, two standing for more, and where the first one's value stands
abbrev pub times_of : Seen → ℕ
times_of Never = 0
times_of (Once value) = 1
times_of (Again value) = 2

abbrev pub place_of : Seen → Span
place_of Never = nowhere
place_of (Once value) = value
place_of (Again value) = value

abbrev pub first_seen : Seen → Option Span
first_seen Never = None
first_seen (Once value) = Some value
first_seen (Again value) = Some value

-- headers of one kind with these values were sent: how often, two standing for more, and where the first value stands in s
pub record SeenIs (s : List ℕ) (values : List (List ℕ)) (seen : Seen) : Type 0 where
  pub times : times_of seen ≡ min (length values) 2
  pub value : Holds s (first_value values) (place_of seen).start (place_of seen).end

abbrev pub unseen : Seen
unseen = Never

-- one more, with its value there: the first value stays
abbrev pub seen_again : Seen → Span → Seen
seen_again Never value = Once value
seen_again (Once first) value = Again first
seen_again (Again first) value = Again first

-- nothing stands after the last pair
abbrev pub is_end : List (List ℕ) → Bool
is_end ls = all is_empty ls && eqb (length ls) 1

-- up to the empty line
abbrev pub until_empty : List (List ℕ) → List (List ℕ)
until_empty [] = []
until_empty (l ∷ ls) = cond (is_empty l) [] (l ∷ until_empty ls)

-- the lines from the second on, and from the first on
abbrev pub are_headers : List (List ℕ) → Bool
are_headers ls = are_lines is_header ls

abbrev pub are_all : List (List ℕ) → Bool
are_all ls = are_lines (λ l. true) ls

-- CR LF stands at the place
abbrev pub is_pair_at : List ℕ → ℕ → Bool
is_pair_at s at = eqb (get_or s at 0) 13 && eqb (get_or s (at + 1) 0) 10

-- how long the line is that the bytes start with; none where the first byte that is no text starts no CR LF
abbrev pub LineIs : List ℕ → Option ℕ → Type 0
LineIs s None = is_pair_at s (first (in_class NotText) s) ≡ false
LineIs s (Some end) = FirstOf (in_class NotText) s end × (is_pair_at s end ≡ true)

-- the header lines alone, where the request line ends at `line`
pub record HeadersAre (s : List ℕ) (line : ℕ) (r : Lines) : Type 0 where
  pub whole : are_headers (lines (drop (line + 2) s)) ≡ true
  pub ended : r.line ≡ line
  pub five : length r.headers ≡ 5
  pub headers : (k : ℕ) → k < 5 → SeenIs s (values_of k (until_empty (lines (drop (line + 2) s)))) (get_or r.headers k unseen)
  pub starts : (k : ℕ) → k < 5 → (place_of (get_or r.headers k unseen)).start ≡ first_start k (line + 2) (until_empty (lines (drop (line + 2) s)))

-- where the first value of a kind starts in a request, 0 where there is none
abbrev pub value_start : ℕ → List ℕ → ℕ
value_start k s = first_start k (length (request_line s) + 2) (header_lines s)

-- the whole request
pub record LinesAre (s : List ℕ) (r : Lines) : Type 0 where
  pub whole : is_laid_out s ≡ true
  pub line : Holds s (request_line s) 0 r.line
  pub five : length r.headers ≡ 5
  pub headers : (k : ℕ) → k < 5 → SeenIs s (values_of k (header_lines s)) (get_or r.headers k unseen)
  pub starts : (k : ℕ) → k < 5 → (place_of (get_or r.headers k unseen)).start ≡ value_start k s
