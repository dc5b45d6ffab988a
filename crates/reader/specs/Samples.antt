-- Document 001's own requests (3.5.2 to 3.5.8, 3.5.14) and document 01's edges, read by computation. Assumes nothing.
use Rattle.std.specs.Prelude.{ℕ, ◌≡◌, refl, List, [], length, replicate, Option, Some, None}
use Rattle.scan.specs.Text.{text, ◌&◌, place_among}
use Rattle.digits.specs.Reading.{read_number, read_hex8}
use Rattle.lines.specs.Lines.{is_laid_out, request_line, header_lines}
use Rattle.lines.specs.Headers.{values_of}
use Rattle.lines.specs.Laid.{first_value}
use Rattle.tuning.specs.Values.{attribute_of, value_of, frequency, are_pids}
use Rattle.target.specs.Uri.{is_uri, stream_of_path, stream_named, host_of}
use Rattle.aim.specs.Query.{attribute_in, parts_of, text_in, code_in}
use Rattle.aim.specs.Aim.{uri_refusal}
use Rattle.refusals.specs.declared.Refusal.TheVariants.{Layout, UriForm, QueryForm, PidsClash, NoStream}
use Rattle.refusals.specs.declared.Refusal.TheVariants.{Method as OtherMethod, Value as Outside}
use Rattle.reader.specs.Fields.{session_of, transport_of}
use Rattle.reader.specs.Request.{cseq_of, uri_of, head_refusal, request_refusal, method_of}
use Rattle.reader.specs.declared.fields.Session.{Session}
use Rattle.reader.specs.declared.fields.Session.TheVariants.{Absent, Malformed, Named}

-- what the request's headers say
abbrev session : List ℕ → Session
session s = session_of (values_of 1 (header_lines s))

abbrev transport : List ℕ → Option ℕ
transport s = transport_of (first_value (values_of 2 (header_lines s)))

-- 3.5.2, a first SETUP
abbrev setup : List ℕ
setup = text "SETUP rtsp://192.168.128.5/?src=1&fe=1&freq=12402&pol=v&msys=dvbs&sr=27500&fec=34&pids=0,16,50,104,166,1707 RTSP/1.0\r\nCSeq: 1\r\nTransport: RTP/AVP;unicast;client_port=1400-1401\r\n\r\n"

pub setup_read : (request_refusal 2 setup ≡ None) × (cseq_of setup ≡ text "1") × (session setup ≡ Absent) × (transport setup ≡ Some 1400) × (code_in 2 2 (parts_of (uri_of setup)) ≡ 1240200) × (code_in 2 3 (parts_of (uri_of setup)) ≡ 2) × (code_in 2 9 (parts_of (uri_of setup)) ≡ 3) × (text_in 10 (parts_of (uri_of setup)) ≡ text "0,16,50,104,166,1707") × (code_in 2 5 (parts_of (uri_of setup)) ≡ 0)
unfolding request_refusal head_refusal cseq_of is_laid_out request_line header_lines method_of uri_refusal is_uri stream_of_path attribute_in attribute_of value_of frequency are_pids place_among read_number read_hex8 code_in text_in session_of transport_of
setup_read = (refl, refl, refl, refl, refl, refl, refl, refl, refl)

-- 3.5.2, multicast: not the one form allowed
abbrev multicast : List ℕ
multicast = text "SETUP rtsp://192.168.128.5/?src=1&fe=1&freq=12402&pol=v&msys=dvbs&sr=27500&fec=34&pids=0,16,50,104,166,1707 RTSP/1.0\r\nCSeq: 1\r\nTransport: RTP/AVP;multicast;port=5004-5005\r\n\r\n"

pub multicast_read : (request_refusal 2 multicast ≡ None) × (transport multicast ≡ None)
unfolding request_refusal head_refusal cseq_of is_laid_out request_line header_lines method_of uri_refusal is_uri stream_of_path attribute_in attribute_of value_of frequency are_pids place_among read_number read_hex8 code_in text_in session_of transport_of
multicast_read = (refl, refl)

-- 3.5.3, PLAY
abbrev play : List ℕ
play = text "PLAY rtsp://192.168.128.5/stream=1 RTSP/1.0\r\nCSeq: 2\r\nSession: 12345678\r\n\r\n"

pub play_read : (request_refusal 2 play ≡ None) × (stream_named (uri_of play) ≡ Some 1) × (session play ≡ Named 305419896) × (host_of (uri_of play) ≡ text "192.168.128.5")
unfolding request_refusal head_refusal cseq_of is_laid_out request_line header_lines method_of uri_refusal is_uri stream_of_path attribute_in attribute_of value_of frequency are_pids place_among read_number read_hex8 code_in text_in session_of transport_of
play_read = (refl, refl, refl, refl)

-- 3.5.6, PLAY with new values; its session is no eight digits, and its fe is one of eight
abbrev replay : List ℕ
replay = text "PLAY rtsp://192.168.178.57:554/stream=5?src=1&fe=1&freq=12603&pol=h&ro=0.35&msys=dvbs&mtype=qpsk&plts=off&sr=22000&fec=56&pids=0,1290,2290,6290,7290 RTSP/1.0\r\nCSeq:8\r\nSession:21a15c02c1ee244\r\nConnection:close\r\n\r\n"

pub replay_read : (request_refusal 8 replay ≡ None) × (session replay ≡ Malformed) × (cseq_of replay ≡ text "8") × (code_in 8 7 (parts_of (uri_of replay)) ≡ 1) × (code_in 8 6 (parts_of (uri_of replay)) ≡ 2)
unfolding request_refusal head_refusal cseq_of is_laid_out request_line header_lines method_of uri_refusal is_uri stream_of_path attribute_in attribute_of value_of frequency are_pids place_among read_number read_hex8 code_in text_in session_of transport_of
replay_read = (refl, refl, refl, refl, refl)

-- 3.5.5, OPTIONS
abbrev options : List ℕ
options = text "OPTIONS rtsp://192.168.128.5/ RTSP/1.0\r\nCSeq: 4\r\n\r\n"

-- 3.5.5, OPTIONS that keeps a session
abbrev alive : List ℕ
alive = text "OPTIONS rtsp://192.168.178.57:554/stream=3 RTSP/1.0\r\nCSeq:5\r\nSession:2180f601c42957d\r\nConnection:close\r\n\r\n"

pub options_read : (request_refusal 2 options ≡ None) × (request_refusal 2 alive ≡ None) × (session options ≡ Absent) × (session alive ≡ Malformed)
unfolding request_refusal head_refusal cseq_of is_laid_out request_line header_lines method_of uri_refusal is_uri stream_of_path attribute_in attribute_of value_of frequency are_pids place_among read_number read_hex8 code_in text_in session_of transport_of
options_read = (refl, refl, refl, refl)

-- 3.5.6, SETUP of a stream that is there
abbrev join : List ℕ
join = text "SETUP rtsp://192.168.128.192:554/stream=27 RTSP/1.0\r\nCSeq:1\r\nTransport: RTP/AVP;unicast;client_port=42494-42495\r\nConnection:close\r\n\r\n"

pub join_read : (request_refusal 2 join ≡ None) × (stream_named (uri_of join) ≡ Some 27) × (transport join ≡ Some 42494)
unfolding request_refusal head_refusal cseq_of is_laid_out request_line header_lines method_of uri_refusal is_uri stream_of_path attribute_in attribute_of value_of frequency are_pids place_among read_number read_hex8 code_in text_in session_of transport_of
join_read = (refl, refl, refl)

-- 3.5.7, DESCRIBE, which is not built
abbrev describe : List ℕ
describe = text "DESCRIBE rtsp://192.168.178.57:554/ RTSP/1.0\r\nCSeq:7\r\nAccept: application/sdp\r\nConnection:close\r\n\r\n"

-- 3.5.8, TEARDOWN
abbrev teardown : List ℕ
teardown = text "TEARDOWN rtsp://192.168.128.5/stream=1 RTSP/1.0\r\nCSeq: 3\r\nSession: 12345678\r\n\r\n"

-- 3.5.14, 400
abbrev misspelt : List ℕ
misspelt = text "PLAY rtsp://192.168.128.5/strem=1 RTSP/1.0\r\nCSeq: 6\r\nSession: 12345678\r\n\r\n"

-- 3.5.14, 405
abbrev unaimed : List ℕ
unaimed = text "PLAY rtsp://192.168.128.5/ RTSP/1.0\r\nCSeq: 9\r\nSession: 12345678\r\n\r\n"

pub others_read : (request_refusal 2 describe ≡ Some OtherMethod) × (request_refusal 2 teardown ≡ None) × (request_refusal 2 misspelt ≡ Some UriForm) × (request_refusal 2 unaimed ≡ Some NoStream)
unfolding request_refusal head_refusal cseq_of is_laid_out request_line header_lines method_of uri_refusal is_uri stream_of_path attribute_in attribute_of value_of frequency are_pids place_among read_number read_hex8 code_in text_in session_of transport_of
others_read = (refl, refl, refl, refl)

-- P1: "empty request: 400, no CSeq"
pub p1 : (request_refusal 2 [] ≡ Some Layout) × (cseq_of [] ≡ [])
unfolding request_refusal head_refusal cseq_of is_laid_out request_line header_lines method_of uri_refusal is_uri stream_of_path attribute_in attribute_of value_of frequency are_pids place_among read_number read_hex8 code_in text_in session_of transport_of
p1 = (refl, refl)

-- order 2: the digits as they were sent, without the outer spaces of the value; ten at most, up to 4294967295
abbrev counted : List ℕ → List ℕ
counted value = text "OPTIONS rtsp://h/ RTSP/1.0\r\ncseq:" & value & text "\r\n\r\n"

pub cseq_read : (cseq_of (counted (text "   0007  ")) ≡ text "0007") × (cseq_of (counted (text "0000000007")) ≡ text "0000000007") × (cseq_of (counted (text "00000000007")) ≡ []) × (cseq_of (counted (text "4294967295")) ≡ text "4294967295") × (cseq_of (counted (text "4294967296")) ≡ []) × (cseq_of (counted (text "0 7")) ≡ []) × (cseq_of (counted []) ≡ [])
unfolding cseq_of is_laid_out header_lines place_among
cseq_read = (refl, refl, refl, refl, refl, refl, refl)

-- a SETUP with one query
abbrev asking : List ℕ → List ℕ
asking q = text "SETUP rtsp://h/?" & q & text " RTSP/1.0\r\nCSeq: 1\r\n\r\n"

-- P7: "PID 8191 passes, 8192: 403"
pub p7 : (request_refusal 2 (asking (text "pids=8191")) ≡ None) × (request_refusal 2 (asking (text "pids=8192")) ≡ Some Outside)
unfolding request_refusal head_refusal cseq_of is_laid_out request_line header_lines method_of uri_refusal is_uri stream_of_path attribute_in attribute_of value_of frequency are_pids place_among read_number read_hex8 code_in text_in session_of transport_of
p7 = (refl, refl)

-- P8: "freq 12750 passes, 12750.01: 403"
pub p8 : (request_refusal 2 (asking (text "freq=12750")) ≡ None) × (request_refusal 2 (asking (text "freq=12750.01")) ≡ Some Outside)
unfolding request_refusal head_refusal cseq_of is_laid_out request_line header_lines method_of uri_refusal is_uri stream_of_path attribute_in attribute_of value_of frequency are_pids place_among read_number read_hex8 code_in text_in session_of transport_of
p8 = (refl, refl)

-- a form fault in the last part comes before a value fault in the first
pub form_first : (request_refusal 2 (asking (text "freq=99999&bogus=1")) ≡ Some QueryForm) × (request_refusal 2 (asking (text "pids=9999&addpids=1")) ≡ Some PidsClash)
unfolding request_refusal head_refusal cseq_of is_laid_out request_line header_lines method_of uri_refusal is_uri stream_of_path attribute_in attribute_of value_of frequency are_pids place_among read_number read_hex8 code_in text_in session_of transport_of
form_first = (refl, refl)

-- the longest request: 2,048 bytes pass, one more is refused
abbrev padded : ℕ → List ℕ
padded n = text "OPTIONS rtsp://h/ RTSP/1.0\r\nCSeq: 1\r\nX: " & replicate n 97 & text "\r\n\r\n"

pub longest : (length (padded 2004) ≡ 2048) × (request_refusal 2 (padded 2004) ≡ None) × (request_refusal 2 (padded 2005) ≡ Some Layout)
unfolding request_refusal head_refusal cseq_of is_laid_out request_line header_lines method_of uri_refusal is_uri stream_of_path attribute_in attribute_of value_of frequency are_pids place_among read_number read_hex8 code_in text_in session_of transport_of
longest = (refl, refl, refl)
