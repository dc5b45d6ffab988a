-- An answer as the code hands it over, by its kind: what the crates promise each other. No call of the box reaches these; a law ties them to what
-- a request is answered with (`steps/proofs/ReplyLaws`). Assumes nothing.
use Rattle.std.specs.Prelude.{ℕ, cond, List, [], ◌==◌}
use Rattle.scan.specs.Text.{text, ◌&◌}
use Rattle.scan.specs.Found.{text_at}
use Rattle.writing.specs.Writing.{decimal}
use Rattle.answer.specs.Lines.{session_line, public_line, refused_lines, answer_lines, line, transport_line}
use Rattle.answer.specs.declared.Kind.{Kind}
use Rattle.answer.specs.declared.Kind.TheVariants.{Bare, Allow, Public, Unsupported, Options, Setup, Play, Teardown}
use Rattle.answer.specs.declared.Answer.{Answer}

-- the lines of a SETUP and of a PLAY, by numbers
abbrev pub setup_lines : ℕ → ℕ → ℕ → ℕ → List ℕ
setup_lines session address port stream =
    session_line session (text ";timeout=60\r\n") & transport_line address port & line "com.ses.streamID: " (decimal stream)

abbrev pub play_lines : ℕ → List ℕ → ℕ → List ℕ
play_lines session host stream = session_line session (text "\r\n") & text "RTP-Info: url=rtsp://" & host & line "/stream=" (decimal stream)

-- the line of a status with a reason
abbrev pub status_with : ℕ → List ℕ → List ℕ
status_with status reason = text "RTSP/1.0 " & decimal status & line " " reason

-- a name, a number in decimal without leading zeros, and the line's end
abbrev pub numbered : List ℕ → ℕ → List ℕ
numbered name v = name & decimal v & text "\r\n"

-- session 0 is none
abbrev pub options_lines : ℕ → List ℕ
options_lines session = cond (session == 0) public_line (session_line session (text "\r\n") & public_line)

-- what an answer carries after its CSeq, with the host or the Require value that it repeats
abbrev pub lines_by : Kind → List ℕ → Answer → List ℕ
lines_by Bare word a = []
lines_by Allow word a = refused_lines 10 word
lines_by Public word a = public_line
lines_by Unsupported word a = refused_lines 5 word
lines_by Options word a = options_lines a.session
lines_by Setup word a = setup_lines a.session a.address a.port a.stream
lines_by Play word a = play_lines a.session word a.stream
lines_by Teardown word a = session_line a.session (text "\r\n")

abbrev pub lines_of : List ℕ → Answer → List ℕ
lines_of word a = lines_by a.kind word a

-- with the digits of CSeq in front
abbrev pub answer_with : List ℕ → List ℕ → Answer → List ℕ
answer_with digits word a = answer_lines a.status digits (lines_of word a)

-- the same where both stand at places of the request
abbrev pub answer_text : List ℕ → Answer → List ℕ
answer_text request a = answer_with (text_at request a.cseq) (text_at request a.text) a
