-- Document 01, "Answer text": what a request is answered with, by its case and, on 200, its method and its session. Assumes nothing.
use Rattle.std.specs.Prelude.{ℕ, cond, List, [], eqb, get_or, Option, Some, None}
use Rattle.scan.specs.Text.{text, ◌&◌}
use Rattle.writing.specs.Writing.{decimal}
use Rattle.lines.specs.Lines.{header_lines}
use Rattle.lines.specs.Headers.{values_of}
use Rattle.target.specs.Uri.{host_of}
use Rattle.aim.specs.declared.Method.{Method}
use Rattle.aim.specs.declared.Method.TheVariants.{Options, Setup, Play, Teardown, Other}
use Rattle.reader.specs.Request.{method_of, uri_of, cseq_of}
use Rattle.table.specs.declared.Session.{Session}
use Rattle.answer.specs.Lines.{line, session_line, public_line, transport_line, refused_lines, answer_lines}
use Rattle.steps.specs.Steps.{rule_of, status_of}
use Rattle.steps.specs.declared.cases.Case.{Case}

-- "on 200", of the session that the answer is about; 0 is none
abbrev pub granted_lines : Method → List ℕ → Session → List ℕ
granted_lines Options host s = cond (eqb s.number 0) public_line (session_line s.number (text "\r\n") & public_line)
granted_lines Setup host s =
    session_line s.number (text ";timeout=60\r\n") & transport_line s.address s.port & line "com.ses.streamID: " (decimal s.stream)
granted_lines Play host s = session_line s.number (text "\r\n") & text "RTP-Info: url=rtsp://" & host & line "/stream=" (decimal s.stream)
granted_lines Teardown host s = session_line s.number (text "\r\n")
granted_lines Other host s = []

-- and where a step refuses it
abbrev pub reply_lines : Option Case → List ℕ → Session → List ℕ
reply_lines None s session = granted_lines (method_of s) (host_of (uri_of s)) session
reply_lines (Some c) s session = refused_lines (rule_of c).0 (get_or (values_of 3 (header_lines s)) 0 [])

unfoldable pub reply_text : Option Case → List ℕ → Session → List ℕ
reply_text case s session = answer_lines (status_of case) (cseq_of s) (reply_lines case s session)
