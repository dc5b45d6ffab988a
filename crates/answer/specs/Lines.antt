-- Document 01, "Answer text": its lines. Texts are as they are sent; a line ends in CR LF. Assumes nothing.
use Rattle.std.specs.Prelude.{ℕ, ◌+◌, ◌%◌, cond, List, [], nat_eq}
use Prim.Native.String.{String}
use Rattle.scan.specs.Text.{text, ◌&◌, is_empty}
use Rattle.scan.specs.Lists.{◌gives◌or◌}
use Rattle.writing.specs.Writing.{decimal, hex8, dotted}

-- "reason of 3.5.14"
unfoldable pub reason_of : ℕ → String
reason_of status =
    nat_eq status 200 gives "OK" or
    nat_eq status 400 gives "Bad Request" or
    nat_eq status 403 gives "Forbidden" or
    nat_eq status 404 gives "Not Found" or
    nat_eq status 405 gives "Method Not Allowed" or
    nat_eq status 414 gives "Request-URI Too Long" or
    nat_eq status 454 gives "Session Not Found" or
    nat_eq status 455 gives "Method Not Valid in This State" or
    nat_eq status 461 gives "Unsupported Transport" or
    nat_eq status 501 gives "Not Implemented" or
    nat_eq status 503 gives "Service Unavailable" or
    nat_eq status 505 gives "RTSP Version Not Supported" or
    nat_eq status 551 gives "Option Not Supported" or
    ""

-- a line, or the rest of one, from a text on
abbrev pub line : String → List ℕ → List ℕ
line start rest = text start & rest & text "\r\n"

-- "All later answers carry it", and those of steps 1 and 2 do not; order 2: "every answer that carries CSeq copies those digits"
abbrev pub cseq_line : List ℕ → List ℕ
cseq_line digits = cond (is_empty digits) [] (line "CSeq: " digits)

abbrev pub session_line : ℕ → List ℕ → List ℕ
session_line session end = text "Session: " & hex8 session & end

abbrev pub public_line : List ℕ
public_line = text "Public: OPTIONS, SETUP, PLAY, TEARDOWN\r\n"

-- "client_port=a-b": b = a + 1, as step 15 lets through; a port of 32 bits goes round
abbrev pub transport_line : ℕ → ℕ → List ℕ
transport_line address port =
    text "Transport: RTP/AVP;unicast;destination=" & dotted address & text ";client_port=" & decimal port & line "-" (decimal ((port + 1) % 4294967296))

-- by the step that refuses: "551 with `Unsupported: ` and its value"; "501 with Public"; "405 with `Allow: OPTIONS`"
abbrev pub refused_lines : ℕ → List ℕ → List ℕ
refused_lines step value =
    nat_eq step 5 gives line "Unsupported: " value or
    nat_eq step 6 gives public_line or
    nat_eq step 10 gives text "Allow: OPTIONS\r\n" or
    []

-- "`RTSP/1.0 `, code, space, reason ..; then `CSeq: n`; then ..; An empty line ends it; no body."
abbrev pub answer_lines : ℕ → List ℕ → List ℕ → List ℕ
answer_lines status cseq lines = text "RTSP/1.0 " & decimal status & line " " (text (reason_of status)) & cseq_line cseq & lines & text "\r\n"
