-- Document 01, "The answer, first that applies", steps 1 to 10: of a request's bytes, and then of its URI. Assumes nothing.
use Rattle.std.specs.Prelude.{ℕ, Bool, not, cond, ◌||◌, List, [], ◌∷◌, ltb, eqb, length, get_or, Option, Some, None}
use Rattle.scan.specs.Text.{text, is_empty, are_alike, place_among}
use Rattle.scan.specs.declared.Case.TheVariants.{Counts}
use Rattle.digits.specs.Reading.{digits_read}
use Rattle.lines.specs.Lines.{is_laid_out, request_line, header_lines}
use Rattle.lines.specs.Headers.{values_of}
use Rattle.target.specs.Line.{is_three, line_part}
use Rattle.refusals.specs.Refusals.{is_read}
use Rattle.refusals.specs.declared.Refusal.{Refusal}
use Rattle.refusals.specs.declared.Refusal.TheVariants.{Layout, CSeq, RequestLine, HeaderTwice, Version, Require}
use Rattle.refusals.specs.declared.Refusal.TheVariants.{Method as OtherMethod}
use Rattle.aim.specs.declared.Method.{Method}
use Rattle.aim.specs.declared.Method.TheVariants.{Options, Setup, Play, Teardown, Other}
use Rattle.aim.specs.Aim.{uri_refusal, method_number}
use Rattle.scan.specs.Lists.{◌gives◌or◌}

-- step 2: "1 to 10 digits up to 4294967295"
abbrev pub cseq_most : ℕ
cseq_most = 10

abbrev pub cseq_limit : ℕ
cseq_limit = 4294967295

-- "exactly one CSeq", in a whole layout; order 2: its digits as they were sent, none where it has no such CSeq
unfoldable pub cseq_of : List ℕ → List ℕ
cseq_of s =
    let vs = values_of 0 (header_lines s) in
    cond (is_laid_out s) (cond (eqb (length vs) 1) (digits_read 10 cseq_most cseq_limit (get_or vs 0 [])) []) []

-- a method by its word; "case counts"
unfoldable pub method_of : List ℕ → Method
method_of s = get_or (Options ∷ Setup ∷ Play ∷ Teardown ∷ []) (place_among Counts (text "OPTIONS SETUP PLAY TEARDOWN") (line_part 0 (request_line s))) Other

abbrev pub uri_of : List ℕ → List ℕ
uri_of s = line_part 1 (request_line s)

abbrev pub is_twice : ℕ → List ℕ → Bool
is_twice k s = ltb 1 (length (values_of k (header_lines s)))

unfoldable pub head_refusal : List ℕ → Option Refusal
head_refusal s =
    not (is_laid_out s) gives Some Layout or
    is_empty (cseq_of s) gives Some CSeq or
    not (is_three (request_line s)) gives Some RequestLine or
    -- "another known header twice": Session 1, Transport 2, Require 3, Accept 4
    (is_twice 1 s || is_twice 2 s || is_twice 3 s || is_twice 4 s) gives Some HeaderTwice or
    not (are_alike Counts (line_part 2 (request_line s)) (text "RTSP/1.0")) gives Some Version or
    ltb 0 (length (values_of 3 (header_lines s))) gives Some Require or
    eqb (method_number (method_of s)) 4 gives Some OtherMethod or
    None

unfoldable pub request_refusal : ℕ → List ℕ → Option Refusal
request_refusal frontends s = not (is_read (head_refusal s)) gives head_refusal s or uri_refusal frontends (method_of s) (uri_of s)
