-- Answers by example, by computation. Assumes nothing.
use Rattle.std.specs.Prelude.{◌≡◌, ℕ, refl}
use Rattle.scan.specs.Text.{text, ◌&◌}
use Rattle.scan.specs.Found.{text_at}
use Rattle.writing.specs.Writing.{decimal, hex8, dotted, width, numeral}
use Rattle.answer.specs.Lines.{reason_of}
use Rattle.answer.specs.Answers.{answer_text}
use Rattle.answer.specs.declared.Kind.{Kind}
use Rattle.answer.specs.declared.Kind.TheVariants.{Bare, Allow, Public, Unsupported, Options, Setup, Play, Teardown}
use Rattle.answer.specs.declared.Answer.{Answer}

-- an answer of session 1 on stream 1: the first byte of the request is CSeq's, and its text stands behind it
abbrev answered : Kind → ℕ → Answer
answered kind status =
    record {
      kind = kind;
      status = status;
      cseq = record { start = 0; end = 1 };
      session = 1;
      stream = 1;
      address = 0xC0A8B227;
      port = 5000;
      text = record { start = 1; end = 3 };
    }

-- document 01's example
pub setup
    : answer_text (text "1tv") (answered Setup 200)
    ≡ text "RTSP/1.0 200 OK\r\n"
    & text "CSeq: 1\r\n"
    & text "Session: 00000001;timeout=60\r\n"
    & text "Transport: RTP/AVP;unicast;destination=192.168.178.39;client_port=5000-5001\r\n"
    & text "com.ses.streamID: 1\r\n"
    & text "\r\n"
unfolding reason_of decimal hex8 dotted width numeral text_at
setup = refl

pub play
    : answer_text (text "1tv") (answered Play 200)
    ≡ text "RTSP/1.0 200 OK\r\nCSeq: 1\r\nSession: 00000001\r\nRTP-Info: url=rtsp://tv/stream=1\r\n\r\n"
unfolding reason_of decimal hex8 width numeral text_at
play = refl

pub options
    : answer_text (text "1tv") (answered Options 200)
    ≡ text "RTSP/1.0 200 OK\r\nCSeq: 1\r\nSession: 00000001\r\nPublic: OPTIONS, SETUP, PLAY, TEARDOWN\r\n\r\n"
unfolding reason_of decimal hex8 width numeral text_at
options = refl

pub teardown : answer_text (text "1tv") (answered Teardown 200) ≡ text "RTSP/1.0 200 OK\r\nCSeq: 1\r\nSession: 00000001\r\n\r\n"
unfolding reason_of decimal hex8 width numeral text_at
teardown = refl

pub refused
    : (answer_text (text "1tv") (answered Bare 461) ≡ text "RTSP/1.0 461 Unsupported Transport\r\nCSeq: 1\r\n\r\n")
    × (answer_text (text "1tv") (answered Allow 405) ≡ text "RTSP/1.0 405 Method Not Allowed\r\nCSeq: 1\r\nAllow: OPTIONS\r\n\r\n")
    × (answer_text (text "1tv") (answered Public 501) ≡ text "RTSP/1.0 501 Not Implemented\r\nCSeq: 1\r\nPublic: OPTIONS, SETUP, PLAY, TEARDOWN\r\n\r\n")
    × (answer_text (text "1tv") (answered Unsupported 551) ≡ text "RTSP/1.0 551 Option Not Supported\r\nCSeq: 1\r\nUnsupported: tv\r\n\r\n")
unfolding reason_of decimal width numeral text_at
refused = (refl, refl, refl, refl)

-- order 2: CSeq's digits as they stand in the request; no line where there is none
abbrev counted : ℕ → Answer
counted end =
    record { kind = Bare; status = 400; cseq = record { start = 0; end = end }; session = 0; stream = 0; address = 0; port = 0; text = record { start = 0; end = 0 } }

pub cseqs
    : (answer_text (text "0007;") (counted 4) ≡ text "RTSP/1.0 400 Bad Request\r\nCSeq: 0007\r\n\r\n")
    × (answer_text (text "0007;") (counted 0) ≡ text "RTSP/1.0 400 Bad Request\r\n\r\n")
unfolding reason_of decimal width numeral text_at
cseqs = (refl, refl)
