-- Requests as they are tried at the edges, the box that they are sent to, and what each gets. Assumes nothing.
use Prim.Native.Nat.{ℕ}
use mathlib.Core.List.{List, [], ◌∷◌}
use Rattle.std.specs.Prelude.{Option, Some, None}
use Rattle.scan.specs.Text.{text, ◌&◌}
use Rattle.table.specs.Made.{settings_of, fresh}
use Rattle.table.specs.declared.SatBox.{SatBox}
use Rattle.steps.specs.Steps.{rule_of}
use Rattle.steps.specs.declared.cases.Case.{Case}
use Rattle.serving.specs.Serving.{Serving}
use Rattle.satbox.specs.Calls.{requested}

-- THE REQUESTS: document 01's example
abbrev pub example : List ℕ
example =
    text "SETUP rtsp://10.0.0.5/?freq=11538&pol=v&msys=dvbs&sr=22000&fec=56&pids=0,611 RTSP/1.0\r\n"
    & text "CSeq: 1\r\n"
    & text "Transport: RTP/AVP;unicast;client_port=5000-5001\r\n"
    & text "\r\n"

-- and its answer
abbrev pub example_answer : List ℕ
example_answer =
    text "RTSP/1.0 200 OK\r\n"
    & text "CSeq: 1\r\n"
    & text "Session: 00000001;timeout=60\r\n"
    & text "Transport: RTP/AVP;unicast;destination=192.168.178.39;client_port=5000-5001\r\n"
    & text "com.ses.streamID: 1\r\n"
    & text "\r\n"

-- an opening SETUP by its query and its ports
abbrev pub setup_at : List ℕ → List ℕ → List ℕ
setup_at query ports =
    text "SETUP rtsp://10.0.0.5/?" & query & text " RTSP/1.0\r\n"
    & text "CSeq: 1\r\n"
    & text "Transport: RTP/AVP;unicast;client_port=" & ports & text "\r\n"
    & text "\r\n"

abbrev pub setup : List ℕ → List ℕ
setup query = setup_at query (text "5000-5001")

-- a SETUP that joins stream 1
abbrev pub join : List ℕ
join = text "SETUP rtsp://10.0.0.5/stream=1 RTSP/1.0\r\nCSeq: 2\r\nTransport: RTP/AVP;unicast;client_port=5002-5003\r\n\r\n"

-- a PLAY and a TEARDOWN of stream 1 in session 1
abbrev pub play : List ℕ → List ℕ
play query = text "PLAY rtsp://10.0.0.5/stream=1" & query & text " RTSP/1.0\r\nCSeq: 3\r\nSession: 00000001\r\n\r\n"

abbrev pub teardown : List ℕ
teardown = text "TEARDOWN rtsp://10.0.0.5/stream=1 RTSP/1.0\r\nCSeq: 4\r\nSession: 00000001\r\n\r\n"

-- THE BOX with F = 2 and C = 1,024, and the client's address, 192.168.178.39
abbrev pub box : SatBox
box = fresh (settings_of 2 1024)

abbrev pub home : ℕ
home = 0xC0A8B227

-- THE ANSWERS: the step that refuses, 0 where none does, and the status
abbrev pub passes : ℕ × ℕ
passes = (0, 200)

abbrev pub verdict_of : Option Case → ℕ × ℕ
verdict_of None = passes
verdict_of (Some case) = rule_of case

abbrev pub verdict : Serving → ℕ × ℕ
verdict x = verdict_of x.case

-- one request at clock 0 and with draw 1
abbrev pub ask : List ℕ → SatBox → Serving
ask s t = requested s 0 home 1 t

-- several, one after the other, all with one draw: what each does, and the box after them
abbrev pub run : ℕ → List (List ℕ) → SatBox → List Serving
run draw [] t = []
run draw (s ∷ rest) t = requested s 0 home draw t ∷ run draw rest (requested s 0 home draw t).did.satbox

abbrev pub after : ℕ → List (List ℕ) → SatBox → SatBox
after draw [] t = t
after draw (s ∷ rest) t = after draw rest (requested s 0 home draw t).did.satbox
