-- Document 01, "Tried at the edges": P1 to P11, proved of the meanings of the calls. Where a proof is `refl`, both sides come to the same
-- when they are worked out. Assumes nothing.
use Rattle.std.specs.Prelude.{Ok, Option}
use Prim.Native.Nat.{ℕ, zero, suc, ◌+◌, ◌-◌, ◌≤◌, ◌<◌}
use mathlib.Core.Path.{◌≡◌, refl, ap}
use mathlib.Core.Bool.{Bool, true, false, cond, and-false}
use mathlib.Core.List.{List, [], ◌∷◌, ◌++◌, map}
use native.Mathlib.Omega.{arith}
use lib.ListN.{length, drop, replicate}
use borrow.Author.Tests.{le-leb, lt-leb}
use Rattle.scan.specs.Text.{text, ◌&◌, place_among}
use Rattle.digits.specs.Reading.{read_number, read_hex8}
use Rattle.writing.specs.Writing.{decimal, hex8, dotted, width, numeral, written}
use Rattle.lines.specs.Lines.{is_laid_out, request_line, header_lines}
use Rattle.tuning.specs.Values.{attribute_of, value_of, frequency, are_pids}
use Rattle.target.specs.Uri.{is_uri, stream_of_path}
use Rattle.aim.specs.Query.{attribute_in, text_in, code_in}
use Rattle.aim.specs.Aim.{uri_refusal}
use Rattle.aim.specs.declared.Method.TheVariants.{Setup}
use Rattle.refusals.specs.declared.Refusal.{Refusal}
use Rattle.refusals.specs.declared.Refusal.TheVariants.{Value as Outside}
use Rattle.reader.specs.Fields.{session_of, transport_of}
use Rattle.reader.specs.Request.{cseq_of, head_refusal, request_refusal, method_of}
use Rattle.reader.specs.declared.fields.Session.TheVariants.{Absent}
use Rattle.std.specs.Prelude.{Some, None}
use Rattle.journal.specs.Records.{encoded}
use Rattle.journal.specs.declared.Record.{Record}
use Rattle.stream.specs.Values.{are_none, are_in_range, go_together, merged}
use Rattle.stream.specs.Pids.{numbers_in, replaced as listed, chosen, is_choice}
use Rattle.stream.specs.Streams.{no_stream, are_zero, is_sound, changed, merge_of}
use Rattle.stream.specs.declared.Stream.{Stream}
use Rattle.table.specs.Table.{any, no_session, has_number, is_open, open_count}
use Rattle.table.specs.Formed.{is_seated, is_blank, well_formed}
use Rattle.finding.specs.Finding.{choice, drawn}
use Rattle.finding.proofs.Draws.{drawn_from, drawn_new, drawn_nonzero}
use Rattle.table.specs.Made.{settings_of}
use Rattle.table.specs.declared.Session.{Session}
use Rattle.table.specs.declared.SatBox.{SatBox}
use Rattle.answer.specs.Lines.{reason_of}
use Rattle.steps.specs.Sights.{Asked, Lists, codes_in, sight_of}
use Rattle.steps.specs.Steps.{table_case}
use Rattle.steps.specs.Replies.{reply_text}
use Rattle.steps.specs.declared.cases.Case.{Case}
use Rattle.steps.specs.declared.cases.Case.TheVariants.{Reading, Transport, TooManyPids}
use Rattle.closings.specs.Closing.{nothing, upto, restreamed, reseated, noting, bytes_of, is_expired, close_one, close_on, cascade, closing, sweep_at, swept, at_clock, sweeping}
use Rattle.serving.specs.Serving.{seating_as, joining, opening, merging, case_of, with_session, kept, served, answered}
use Rattle.satbox.specs.Calls.{requested, answer_of, request_outcome, replied_into, replied_journal}
use Rattle.serving.specs.declared.opening.Client.{Client}
use Rattle.promises.proofs.Asks.{example, example_answer, setup_at, setup, join, play, teardown, box, home, verdict_of, verdict, passes, ask, run, after}
use Rattle.promises.proofs.EdgeLaws.{drawn_first, RefusedAs, ReadsAs, refused_alike, served_alike}
use lib.Dec.{ltb}

-- Named on a proof's `unfolding` line, these let meanings be worked out there: of reading, of lists of PIDs, of serving; and all of them
unfoldable pub reading : ℕ
unfolding request_refusal head_refusal cseq_of is_laid_out request_line header_lines method_of uri_refusal is_uri stream_of_path attribute_in attribute_of value_of frequency are_pids place_among read_number read_hex8 codes_in code_in text_in session_of transport_of
reading = 0

unfoldable pub listing : ℕ
unfolding listed numbers_in read_number
listing = 0

unfoldable pub serving : ℕ
unfolding requested answered kept served case_of merging with_session joining opening seating_as close_one close_on cascade closing sweep_at swept at_clock upto restreamed reseated noting table_case sight_of drawn choice merge_of changed chosen go_together merged
serving = 0

unfoldable pub meanings : ℕ
unfolding reading listing serving answer_of reply_text reason_of decimal hex8 dotted width numeral encoded replied_into replied_journal written well_formed is_seated is_blank is_sound are_zero are_none are_in_range is_choice
meanings = 0

-- a request's verdict is the same on every box, at every clock, from every address and with every draw
abbrev Always : List ℕ → ℕ × ℕ → Type 0
Always s v = (clock address draw : ℕ) (t : SatBox) → verdict (requested s clock address draw t) ≡ v

-- by how the request is read
always_refused : {s : List ℕ} {r : Refusal} → RefusedAs s r → Always s (verdict_of (Some (Reading r)))
always_refused d clock address draw t = ap verdict_of (refused_alike clock address draw t d)

module _ {s : List ℕ} {a : Asked} {l : Lists} {c : Option Case} where
  always_served : ReadsAs s a l → ((t : SatBox) (client : Client) → (served t a l client).case ≡ c) → Always s (verdict_of c)
  always_served d k clock address draw t = ap verdict_of (served_alike clock address draw t d k)

-- a session with that number is open
abbrev is_used : List Session → ℕ → Bool
is_used l n = any (has_number n) l

-- P1: "empty request: 400, no CSeq." On every box.
abbrev pub P1 : Type 0
P1 = (clock address draw : ℕ) (t : SatBox) → answer_of [] clock address draw t ≡ text "RTSP/1.0 400 Bad Request\r\n\r\n"

pub p1 : P1
unfolding meanings
p1 clock address draw t = refl

-- P2: "age 59 stays, 60 closes." Of every open session; and of the example's, opened at clock 1,000, which is closed with cause 2.
abbrev opened : SatBox
opened = (requested example 1000 home 1 box).did.satbox

abbrev timed_out : Record
timed_out = record { kind = 3; cause = 2; clock = 1060; session = 1; stream = 1; frontend = 1; sequence = 1 }

pub record P2 : Type 0 where
  pub young : (s : Session) → is_expired (s.last + 59) s ≡ false
  pub old : (s : Session) → is_open s ≡ true → is_expired (s.last + 60) s ≡ true
  pub stays : sweeping 1059 opened ≡ nothing (at_clock 1059 opened)
  pub closes : open_count (sweeping 1060 opened).satbox ≡ 0
  pub noted : (sweeping 1060 opened).records ≡ timed_out ∷ []

pub p2 : P2
unfolding meanings
p2 =
    record {
      young = λ s. rw (lt-leb 60 (s.last + 59 - s.last) (omega arith)) (and-false (is_open s));
      old = λ s e. rw (e, le-leb 60 (s.last + 60 - s.last) (omega arith));
      stays = refl;
      closes = refl;
      noted = refl;
    }

-- P3: "draw 0 gives 00000001." Wherever 1 is not open; and in the example's answer.
pub record P3 : Type 0 where
  pub drawn_one : (l : List Session) → is_used l 1 ≡ false → drawn l 0 ≡ 1
  pub answer : answer_of example 0 home 0 box ≡ example_answer

pub p3 : P3
unfolding meanings
p3 = record { drawn_one = λ l e. ap (λ taken. cond taken (drawn_from 32 l 2) 1) e; answer = refl }

-- P4: "draw 4294967295 while FFFFFFFF is open gives the first free from 1." What is drawn is no 0 and not open, and all from 1 up to it
-- are open; and three openings with that draw.
pub record P4 : Type 0 where
  pub nonzero : (l : List Session) → length l ≡ 32 → drawn l 0xFFFFFFFF ≡ 0 → ⊥
  pub free : (l : List Session) → length l ≡ 32 → is_used l (drawn l 0xFFFFFFFF) ≡ false
  pub first : (l : List Session) → is_used l 0xFFFFFFFF ≡ true → (n : ℕ) → 1 ≤ n → n < drawn l 0xFFFFFFFF → is_used l n ≡ true
  pub numbers : map (λ x. x.session.number) (run 0xFFFFFFFF (example ∷ join ∷ join ∷ []) box) ≡ 0xFFFFFFFF ∷ 1 ∷ 2 ∷ []

pub p4 : P4
unfolding meanings
p4 =
    record {
      nonzero = λ l long. drawn_nonzero l 0xFFFFFFFF long (omega arith);
      free = λ l long. drawn_new l 0xFFFFFFFF long (omega arith);
      first = λ l. drawn_first l;
      numbers = refl;
    }

-- P5: "dvbs2 with 8psk played, then PLAY `msys=dvbs`: 403."
abbrev played : List (List ℕ)
played = setup (text "freq=11538&pol=v&msys=dvbs2&mtype=8psk&sr=22000&fec=56&pids=0,611") ∷ play [] ∷ []

-- the table then: session 1 plays on stream 1, with dvbs2 (2) and 8psk (2)
abbrev player : Session
player = record { number = 1; address = home; last = 0; port = 5000; stream = 1; owner = 1; playing = 1 }

abbrev picture : Stream
picture =
    record {
      pids = 0 ∷ 611 ∷ replicate 30 0;
      values = record { src = 1; freq = 1153800; pol = 2; msys = 2; mtype = 2; plts = 0; ro = 0; sr = 22000; fec = 4 };
      count = 2;
      frontend = 1;
      all = 0;
    }

abbrev playing : SatBox
playing =
    record {
      sessions = player ∷ replicate 31 no_session;
      streams = picture ∷ replicate 7 no_stream;
      settings = settings_of 2 1024;
      held = 16;
      clock = 0;
      sequence = 1;
      spare = 0;
    }

pub record P5 : Type 0 where
  pub passed : map verdict (run 1 played box) ≡ passes ∷ passes ∷ []
  pub before : after 1 played box ≡ playing
  pub refused : verdict (ask (play (text "?msys=dvbs")) playing) ≡ (16, 403)
  pub unchanged : (ask (play (text "?msys=dvbs")) playing).did ≡ nothing playing

pub p5 : P5
unfolding meanings
p5 = record { passed = refl; before = refl; refused = refl; unchanged = refl }

-- P6: "33 distinct PIDs: 503; 33 with one repeat: passes." The first on every box.
abbrev pids_and : List ℕ → List ℕ
pids_and last = text "0,1,2,3,4,5,6,7,8,9,10,11,12,13,14,15,16,17,18,19,20,21,22,23,24,25,26,27,28,29,30,31," & last

abbrev distinct : List ℕ
distinct = setup (text "pids=" & pids_and (text "32"))

abbrev repeated : List ℕ
repeated = setup (text "pids=" & pids_and (text "31"))

pub record P6 : Type 0 where
  pub refused : Always distinct (17, 503)
  pub passed : verdict (ask repeated box) ≡ passes

-- the first as it is read
abbrev distinct_asked : Asked
distinct_asked =
    record {
      method = Setup;
      stream = 0;
      codes = 0 ∷ 0 ∷ 0 ∷ 0 ∷ 0 ∷ 0 ∷ 0 ∷ 0 ∷ 0 ∷ 0 ∷ 3 ∷ 0 ∷ 0 ∷ [];
      query = true;
      session = Absent;
      transport = Some 5000;
    }

abbrev distinct_lists : Lists
distinct_lists = record { pids = pids_and (text "32"); addpids = []; delpids = [] }

distinct_read : ReadsAs distinct distinct_asked distinct_lists
unfolding reading
distinct_read = record { no_fe = refl; passed = refl; asked = refl; lists = refl }

distinct_many : ltb 32 (length (listed 3 (pids_and (text "32"))).list) ≡ true
unfolding listing
distinct_many = refl

distinct_refused : (t : SatBox) (c : Client) → (served t distinct_asked distinct_lists c).case ≡ Some TooManyPids
unfolding serving
distinct_refused t c = rw distinct_many

pub p6 : P6
unfolding meanings
p6 = record { refused = always_served distinct_read distinct_refused; passed = refl }

-- P7: "PID 8191 passes, 8192: 403." The second on every box.
pub record P7 : Type 0 where
  pub passed : verdict (ask (setup (text "pids=8191")) box) ≡ passes
  pub refused : Always (setup (text "pids=8192")) (9, 403)

pid_refused : RefusedAs (setup (text "pids=8192")) Outside
unfolding reading
pid_refused = record { no_fe = refl; refusal = refl }

pub p7 : P7
unfolding meanings
p7 = record { passed = refl; refused = always_refused pid_refused }

-- P8: "freq 12750 passes, 12750.01: 403." The second on every box.
pub record P8 : Type 0 where
  pub passed : verdict (ask (setup (text "freq=12750")) box) ≡ passes
  pub refused : Always (setup (text "freq=12750.01")) (9, 403)

freq_refused : RefusedAs (setup (text "freq=12750.01")) Outside
unfolding reading
freq_refused = record { no_fe = refl; refusal = refl }

pub p8 : P8
unfolding meanings
p8 = record { passed = refl; refused = always_refused freq_refused }

-- P9: "with C = 1,024, opening and closing one session without collecting: 32 openings pass, the 33rd is 503, the 32nd still closes at
-- 1,024 bytes held."
abbrev pub rounds : ℕ → List (List ℕ)
rounds zero = []
rounds (suc n) = example ∷ teardown ∷ rounds n

-- the box before the 32nd closing, and after it
abbrev last_opened : SatBox
last_opened = after 1 (rounds 31 ++ (example ∷ [])) box

abbrev full : SatBox
full = after 1 (rounds 32) box

pub record P9 : Type 0 where
  pub passed : map verdict (run 1 (rounds 32) box) ≡ replicate 64 passes
  pub before : (last_opened.held ≡ 1008) × (open_count last_opened ≡ 1)
  pub closed : (full.held ≡ 1024) × (open_count full ≡ 0)
  pub formed : well_formed full ≡ true
  pub refused : verdict (ask example full) ≡ (18, 503)

pub p9 : P9
unfolding meanings
p9 = record { passed = refl; before = (refl, refl); closed = (refl, refl); formed = refl; refused = refl }

-- P10: "port 5001-5002: 461." On every box.
abbrev odd : List ℕ
odd = setup_at (text "freq=11538&pol=v&msys=dvbs&sr=22000&fec=56&pids=0,611") (text "5001-5002")

abbrev pub P10 : Type 0
P10 = Always odd (15, 461)

-- as it is read
abbrev odd_asked : Asked
odd_asked =
    record {
      method = Setup;
      stream = 0;
      codes = 0 ∷ 0 ∷ 1153800 ∷ 2 ∷ 1 ∷ 0 ∷ 0 ∷ 0 ∷ 22000 ∷ 4 ∷ 3 ∷ 0 ∷ 0 ∷ [];
      query = true;
      session = Absent;
      transport = None;
    }

abbrev odd_lists : Lists
odd_lists = record { pids = text "0,611"; addpids = []; delpids = [] }

odd_read : ReadsAs odd odd_asked odd_lists
unfolding reading
odd_read = record { no_fe = refl; passed = refl; asked = refl; lists = refl }

odd_refused : (t : SatBox) (c : Client) → (served t odd_asked odd_lists c).case ≡ Some Transport
unfolding serving
odd_refused t c = refl

pub p10 : P10
p10 = always_served odd_read odd_refused

-- P11: the example's answer, and "its record is 53 4A 01 00 00 00 00 00 00 00 00 01 01 01 00 00"; and the request program's call, with an
-- answer buffer of 4,096 bytes and a journal of 1,024.
abbrev first_record : List ℕ
first_record = 0x53 ∷ 0x4A ∷ 0x01 ∷ 0x00 ∷ 0x00 ∷ 0x00 ∷ 0x00 ∷ 0x00 ∷ 0x00 ∷ 0x00 ∷ 0x00 ∷ 0x01 ∷ 0x01 ∷ 0x01 ∷ 0x00 ∷ 0x00 ∷ []

abbrev buffer : List ℕ
buffer = replicate 4096 0

abbrev journal : List ℕ
journal = replicate 1024 0

pub record P11 : Type 0 where
  pub answer : answer_of example 0 home 1 box ≡ example_answer
  pub its_record : bytes_of (requested example 0 home 1 box).did.records ≡ first_record
  pub outcome : request_outcome box journal buffer ≡ Ok tt
  pub into : replied_into example 0 home 1 box buffer journal ≡ example_answer ++ drop (length example_answer) buffer
  pub behind : replied_journal example 0 home 1 box buffer journal ≡ first_record ++ drop 16 journal

pub p11 : P11
unfolding meanings
p11 = record { answer = refl; its_record = refl; outcome = refl; into = refl; behind = refl }
