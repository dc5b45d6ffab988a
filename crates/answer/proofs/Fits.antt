-- Every answer fits its buffer: "the answer buffer is shorter than 4,096" is the only refusal for its length. Assumes nothing.
use Rattle.std.proofs.Common.{◌≡◌, ℕ, ◌+◌, ◌%◌, ◌<◌, ◌≤◌, Bool, true, false, eqb, List, [], length, arith, length-append}
use Prim.Native.String.{String}
use Rattle.scan.specs.Lists.{◌gives◌or◌}
use Rattle.scan.specs.Text.{text, ◌&◌, is_empty}
use Rattle.scan.proofs.Bools.{cond_keeps}
use Rattle.writing.specs.Writing.{decimal, dotted}
use Rattle.writing.proofs.Numerals.{decimal_length, hex8_length, dotted_length}
use Rattle.answer.specs.Lines.{reason_of, line, cseq_line, session_line, public_line, transport_line, refused_lines}
use Rattle.answer.specs.Answers.{setup_lines, play_lines, numbered, options_lines, lines_by, lines_of, answer_with}
use Rattle.answer.specs.declared.Kind.{Kind}
use Rattle.answer.specs.declared.Kind.TheVariants.{Bare, Allow, Public, Unsupported, Options, Setup, Play, Teardown}
use Rattle.answer.specs.declared.Answer.{Answer}

-- numbers of 32 bits, as the code's are
abbrev pub IsSmall : ℕ → Type 0
IsSmall v = v < 4294967296

pub record Small (a : Answer) : Type 0 where
  pub status : IsSmall a.status
  pub session : IsSmall a.session
  pub stream : IsSmall a.stream
  pub address : IsSmall a.address
  pub port : IsSmall a.port

-- two texts in a row
both_fit : (x y : List ℕ) (m n : ℕ) → length x ≤ m → length y ≤ n → length (x & y) ≤ m + n
both_fit x y m n p q = rw length-append (omega arith)

numbered_fits : (name : List ℕ) (v : ℕ) → IsSmall v → length (numbered name v) ≤ length name + 12
numbered_fits name v h = rw (length-append, length-append) (omega (arith, decimal_length 9 v (omega arith)))

-- what holds of each of two holds of the one that a test gives
gives_keeps : (P : String → Type 0) (t : Bool) (x y : String) → P x → P y → P (t gives x or y)
gives_keeps P true x y p q = p
gives_keeps P false x y p q = q

-- what holds of each reason, and of none, holds of every status's
pub reason_keeps : (P : String → Type 0) → P "OK" → P "Bad Request" → P "Forbidden" → P "Not Found" → P "Method Not Allowed" → P "Request-URI Too Long" → P "Session Not Found" → P "Method Not Valid in This State" → P "Unsupported Transport" → P "Not Implemented" → P "Service Unavailable" → P "RTSP Version Not Supported" → P "Option Not Supported" → P ""
    → (status : ℕ) → P (reason_of status)
unfolding reason_of
reason_keeps P a b c d e f g h i j k l m n status =
    gives_keeps P (eqb status 200) _ _ a
    (gives_keeps P (eqb status 400) _ _ b
    (gives_keeps P (eqb status 403) _ _ c
    (gives_keeps P (eqb status 404) _ _ d
    (gives_keeps P (eqb status 405) _ _ e
    (gives_keeps P (eqb status 414) _ _ f
    (gives_keeps P (eqb status 454) _ _ g
    (gives_keeps P (eqb status 455) _ _ h
    (gives_keeps P (eqb status 461) _ _ i
    (gives_keeps P (eqb status 501) _ _ j
    (gives_keeps P (eqb status 503) _ _ k
    (gives_keeps P (eqb status 505) _ _ l
    (gives_keeps P (eqb status 551) _ _ m n))))))))))))

reason_fits : (status : ℕ) → length (text (reason_of status)) ≤ 30
reason_fits =
    reason_keeps (λ t. length (text t) ≤ 30) (omega arith) (omega arith) (omega arith) (omega arith) (omega arith) (omega arith) (omega arith)
    (omega arith) (omega arith) (omega arith) (omega arith) (omega arith) (omega arith) (omega arith)

reason_line_fits : (status : ℕ) → length (line " " (text (reason_of status))) ≤ 33
reason_line_fits status = rw (length-append, length-append) (omega (arith, reason_fits status))

cseq_fits : (digits : List ℕ) → length digits ≤ 10 → length (cseq_line digits) ≤ 18
cseq_fits digits h = cond_keeps (λ (l : List ℕ). length l ≤ 18) (is_empty digits) [] (line "CSeq: " digits) (λ _. omega arith) (λ _. rw (length-append, length-append) (omega arith))

session_fits : (session : ℕ) (end : List ℕ) → length (session_line session end) ≡ 17 + length end
session_fits session end = rw (length-append, length-append) (omega (arith, hex8_length session))

-- the lines of each kind, beside the word that they take from the request
module _ (digits word : List ℕ) (a : Answer) (s : Small a) where
  options_fits : length (options_lines a.session) ≤ 100
  options_fits =
      cond_keeps (λ (l : List ℕ). length l ≤ 100) (eqb a.session 0) public_line _ (λ e. omega arith)
      (λ e. rw length-append (omega (arith, session_fits a.session (text "\r\n"))))

  transport_fits : length (transport_line a.address a.port) ≤ 90
  transport_fits =
      let second = (a.port + 1) % 4294967296 in
      let ports = decimal a.port & numbered (text "-") second in
      both_fit (text "Transport: RTP/AVP;unicast;destination=") (dotted a.address & text ";client_port=" & ports) 39 51 (omega arith)
      (both_fit (dotted a.address) (text ";client_port=" & ports) 15 36 (dotted_length a.address s.address)
      (both_fit (text ";client_port=") ports 13 23 (omega arith)
      (both_fit (decimal a.port) (numbered (text "-") second) 10 13 (decimal_length 9 a.port (omega (arith, s.port))) (numbered_fits (text "-") second (omega arith)))))

  setup_fits : length (setup_lines a.session a.address a.port a.stream) ≤ 150
  setup_fits =
      both_fit (session_line a.session (text ";timeout=60\r\n")) (transport_line a.address a.port & numbered (text "com.ses.streamID: ") a.stream) 30 120 (omega (arith, session_fits a.session (text ";timeout=60\r\n")))
      (both_fit (transport_line a.address a.port) (numbered (text "com.ses.streamID: ") a.stream) 90 30 transport_fits (numbered_fits (text "com.ses.streamID: ") a.stream s.stream))

  play_fits : length (play_lines a.session word a.stream) ≤ 19 + (21 + (length word + 20))
  play_fits =
      both_fit (session_line a.session (text "\r\n")) _ 19 (21 + (length word + 20)) (omega (arith, session_fits a.session (text "\r\n")))
      (both_fit (text "RTP-Info: url=rtsp://") (word & numbered (text "/stream=") a.stream) 21 (length word + 20) (omega arith)
      (both_fit word (numbered (text "/stream=") a.stream) (length word) 20 (omega arith) (numbered_fits (text "/stream=") a.stream s.stream)))

  unsupported_fits : length (refused_lines 5 word) ≤ 100 + length word
  unsupported_fits = rw (length-append, length-append) (omega arith)

  lines_fit : (kind : Kind) → length (lines_by kind word a) ≤ 200 + length word
  lines_fit Bare = omega arith
  lines_fit Allow = omega arith
  lines_fit Public = omega arith
  lines_fit Unsupported = omega (arith, unsupported_fits)
  lines_fit Options = omega (arith, options_fits)
  lines_fit Setup = omega (arith, setup_fits)
  lines_fit Play = omega (arith, play_fits)
  lines_fit Teardown = omega (arith, session_fits a.session (text "\r\n"))

  -- AN ANSWER FITS 4,096 BYTES, where the request is within its limit and CSeq has ten digits at most
  pub answer_fits : length digits ≤ 10 → length word ≤ 2048 → length (answer_with digits word a) ≤ 4096
  answer_fits k h =
      let lines = lines_of word a & text "\r\n" in
      let later = cseq_line digits & lines in
      let reason = line " " (text (reason_of a.status)) in
      let n = both_fit (text "RTSP/1.0 ") (decimal a.status & reason & later) 9 (10 + (33 + (18 + ((200 + length word) + 2)))) (omega arith)
      (both_fit (decimal a.status) (reason & later) 10 (33 + (18 + ((200 + length word) + 2))) (decimal_length 9 a.status (omega (arith, s.status)))
      (both_fit reason later 33 (18 + ((200 + length word) + 2)) (reason_line_fits a.status)
      (both_fit (cseq_line digits) lines 18 ((200 + length word) + 2) (cseq_fits digits k)
      (both_fit (lines_of word a) (text "\r\n") (200 + length word) 2 (lines_fit a.kind) (omega arith))))) in
      omega arith
