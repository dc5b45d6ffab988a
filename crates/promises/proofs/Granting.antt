-- WHO IS NOT REFUSED. A request that steps 1 to 10 let through, and that names an open session, is answered 200 where it is an OPTIONS, whatever stream it
-- names, and where it is a TEARDOWN of that session's stream; what they then do is said in `Methods`. And document 01's answer text by examples: what each
-- method is answered on 200, the refusals that carry a line more, and each step that P1 to P11 do not try. Assumes nothing.
use Rattle.std.specs.Prelude.{Some, None, is_some, true}
use mathlib.Core.Path.{◌≡◌, refl, sym, ◌∙◌, ap}
use mathlib.Core.List.{List, [], ◌∷◌}
use Prim.Native.Nat.{ℕ, ◌<◌}
use lib.ListN.{replicate}
use Rattle.std.specs.Prelude.{None}
use Rattle.scan.specs.Text.{text, ◌&◌}
use Rattle.aim.specs.declared.Method.TheVariants.{Options, Teardown}
use Rattle.reader.specs.Request.{method_of, request_refusal}
use Rattle.stream.specs.Values.{are_complete}
use Rattle.table.specs.Table.{session_at, stream_of}
use Rattle.table.specs.declared.SatBox.{SatBox}
use Rattle.steps.specs.Sights.{Asked, asked_of, lists_of, place_named, sight_of}
use Rattle.serving.specs.Serving.{Serving, served, client_of, answered}
use Rattle.satbox.specs.Calls.{answer_of}
use Rattle.orders.specs.Orders.{order_at, order_for}
use Rattle.closings.proofs.Keeping.{Whole}
use Rattle.serving.proofs.ServingLaws.{options_granted}
use Rattle.serving.proofs.Branching.{tears_down}
use Rattle.promises.proofs.Keeps.{served_case, answered_case}
use Rattle.promises.proofs.Asks.{example, box, home, verdict, ask, after}
use Rattle.promises.proofs.Edges.{meanings}
use Rattle.promises.proofs.LetThrough.{options_table, teardown_table}

module _ (s : List ℕ) (address draw : ℕ) (t : SatBox) (read : request_refusal t.settings.frontends s ≡ None) where
  abbrev a : Asked
  a = asked_of t.settings.frontends s

  abbrev place : ℕ
  place = place_named a.session t

  passes : (served t a (lists_of s) (client_of address draw a)).case ≡ None → (answered s address draw t).case ≡ None
  passes e = answered_case s address draw t read ∙ sym (served_case t a (lists_of s) (client_of address draw a)) ∙ e

  module _ (named : place < 32) where
    -- OPTIONS
    module _ (options : method_of s ≡ Options) where
      pub options_passes : (answered s address draw t).case ≡ None
      unfolding sight_of
      options_passes =
          passes (ap (λ (x : Serving). x.case) (options_granted t a (lists_of s) refl (options_table s address draw t read named options) options (client_of address draw a)))

    -- TEARDOWN of the session's own stream, on a well-formed table
    module _ (w : Whole t) (teardown : method_of s ≡ Teardown) (own : a.stream ≡ (session_at t place).stream) where
      pub teardown_passes : (answered s address draw t).case ≡ None
      unfolding sight_of
      teardown_passes =
          passes (ap (λ (x : Serving). x.case) (tears_down t a (lists_of s) (client_of address draw a) (sight_of t a) refl (teardown_table s address draw t read named w teardown own) teardown))

-- on the box after document 01's example, whose session 1 owns stream 1 and does not play: what a request is answered at clock 0 with draw 1
abbrev opened : SatBox
opened = after 1 (example ∷ []) box

abbrev answer : List ℕ → List ℕ
answer s = answer_of s 0 home 1 opened

pub record Answers : Type 0 where
  pub options
      : answer (text "OPTIONS rtsp://10.0.0.5/ RTSP/1.0\r\nCSeq: 2\r\n\r\n")
      ≡ text "RTSP/1.0 200 OK\r\nCSeq: 2\r\nPublic: OPTIONS, SETUP, PLAY, TEARDOWN\r\n\r\n"
  pub keep_alive
      : answer (text "OPTIONS rtsp://10.0.0.5/ RTSP/1.0\r\nCSeq: 2\r\nSession: 00000001\r\n\r\n")
      ≡ text "RTSP/1.0 200 OK\r\nCSeq: 2\r\nSession: 00000001\r\nPublic: OPTIONS, SETUP, PLAY, TEARDOWN\r\n\r\n"
  pub another_port
      : answer (text "SETUP rtsp://10.0.0.5/stream=1 RTSP/1.0\r\nCSeq: 2\r\nSession: 00000001\r\nTransport: RTP/AVP;unicast;client_port=6000-6001\r\n\r\n")
      ≡ text "RTSP/1.0 200 OK\r\nCSeq: 2\r\nSession: 00000001;timeout=60\r\nTransport: RTP/AVP;unicast;destination=192.168.178.39;client_port=6000-6001\r\ncom.ses.streamID: 1\r\n\r\n"
  pub play
      : answer (text "PLAY rtsp://10.0.0.5:554/stream=1 RTSP/1.0\r\nCSeq: 2\r\nSession: 00000001\r\n\r\n")
      ≡ text "RTSP/1.0 200 OK\r\nCSeq: 2\r\nSession: 00000001\r\nRTP-Info: url=rtsp://10.0.0.5/stream=1\r\n\r\n"
  pub teardown
      : answer (text "TEARDOWN rtsp://10.0.0.5/stream=1 RTSP/1.0\r\nCSeq: 2\r\nSession: 00000001\r\n\r\n")
      ≡ text "RTSP/1.0 200 OK\r\nCSeq: 2\r\nSession: 00000001\r\n\r\n"
  pub other_method
      : answer (text "DESCRIBE rtsp://10.0.0.5/ RTSP/1.0\r\nCSeq: 2\r\n\r\n")
      ≡ text "RTSP/1.0 501 Not Implemented\r\nCSeq: 2\r\nPublic: OPTIONS, SETUP, PLAY, TEARDOWN\r\n\r\n"
  pub require
      : answer (text "OPTIONS rtsp://10.0.0.5/ RTSP/1.0\r\nCSeq: 2\r\nRequire: x.y\r\n\r\n")
      ≡ text "RTSP/1.0 551 Option Not Supported\r\nCSeq: 2\r\nUnsupported: x.y\r\n\r\n"
  pub no_stream_law
      : answer (text "PLAY rtsp://10.0.0.5/ RTSP/1.0\r\nCSeq: 2\r\nSession: 00000001\r\n\r\n")
      ≡ text "RTSP/1.0 405 Method Not Allowed\r\nCSeq: 2\r\nAllow: OPTIONS\r\n\r\n"
  pub no_session_law
      : answer (text "PLAY rtsp://10.0.0.5/stream=1 RTSP/1.0\r\nCSeq: 02\r\nSession: 00000002\r\n\r\n")
      ≡ text "RTSP/1.0 454 Session Not Found\r\nCSeq: 02\r\n\r\n"

pub answers : Answers
unfolding meanings
answers =
    record {
      options = refl;
      keep_alive = refl;
      another_port = refl;
      play = refl;
      teardown = refl;
      other_method = refl;
      require = refl;
      no_stream_law = refl;
      no_session_law = refl;
    }

-- and which step refuses, with which status, for each step that P1 to P11 do not try
abbrev told : List ℕ → ℕ × ℕ
told s = verdict (ask s opened)

pub record Refusals : Type 0 where
  pub cseq : told (text "OPTIONS rtsp://10.0.0.5/ RTSP/1.0\r\nCSeq: x\r\n\r\n") ≡ (2, 400)
  pub parts : told (text "OPTIONS rtsp://10.0.0.5/\r\nCSeq: 2\r\n\r\n") ≡ (3, 400)
  pub twice : told (text "OPTIONS rtsp://10.0.0.5/ RTSP/1.0\r\nCSeq: 2\r\nSession: 00000001\r\nSession: 00000001\r\n\r\n") ≡ (3, 400)
  pub version : told (text "OPTIONS rtsp://10.0.0.5/ RTSP/2.0\r\nCSeq: 2\r\n\r\n") ≡ (4, 505)
  pub require : told (text "OPTIONS rtsp://10.0.0.5/ RTSP/1.0\r\nCSeq: 2\r\nRequire: x.y\r\n\r\n") ≡ (5, 551)
  pub method : told (text "DESCRIBE rtsp://10.0.0.5/ RTSP/1.0\r\nCSeq: 2\r\n\r\n") ≡ (6, 501)
  pub uri : told (text "OPTIONS http://10.0.0.5/ RTSP/1.0\r\nCSeq: 2\r\n\r\n") ≡ (7, 400)
  pub long : told (text "OPTIONS rtsp://" & replicate 1024 0x61 & text "/ RTSP/1.0\r\nCSeq: 2\r\n\r\n") ≡ (7, 414)
  pub query : told (text "OPTIONS rtsp://10.0.0.5/?pids=1 RTSP/1.0\r\nCSeq: 2\r\n\r\n") ≡ (8, 400)
  pub stream : told (text "PLAY rtsp://10.0.0.5/ RTSP/1.0\r\nCSeq: 2\r\nSession: 00000001\r\n\r\n") ≡ (10, 405)
  pub session : told (text "PLAY rtsp://10.0.0.5/stream=1 RTSP/1.0\r\nCSeq: 2\r\nSession: 00000002\r\n\r\n") ≡ (11, 454)
  pub live : told (text "PLAY rtsp://10.0.0.5/stream=2 RTSP/1.0\r\nCSeq: 2\r\nSession: 00000001\r\n\r\n") ≡ (12, 404)
  pub state : told (text "SETUP rtsp://10.0.0.5/?pids=1 RTSP/1.0\r\nCSeq: 2\r\nSession: 00000001\r\nTransport: RTP/AVP;unicast;client_port=6000-6001\r\n\r\n") ≡ (13, 455)
  pub owner : told (text "SETUP rtsp://10.0.0.5/stream=1?pids=1 RTSP/1.0\r\nCSeq: 2\r\nTransport: RTP/AVP;unicast;client_port=6000-6001\r\n\r\n") ≡ (14, 403)

pub refusals : Refusals
unfolding meanings
refusals =
    record {
      cseq = refl;
      parts = refl;
      twice = refl;
      version = refl;
      require = refl;
      method = refl;
      uri = refl;
      long = refl;
      query = refl;
      stream = refl;
      session = refl;
      live = refl;
      state = refl;
      owner = refl;
    }

-- and what a frontend is to be set to, by examples: on with its stream's values and PIDs where the owner plays and all of freq, pol, msys, sr and fec
-- are there; off before the PLAY, on another frontend, and without fec
abbrev play : List ℕ
play = text "PLAY rtsp://10.0.0.5/stream=1 RTSP/1.0\r\nCSeq: 2\r\nSession: 00000001\r\n\r\n"

abbrev playing : SatBox
playing = after 1 (example ∷ play ∷ []) box

abbrev lacking : SatBox
lacking =
    after 1
    (text "SETUP rtsp://10.0.0.5/?freq=11538&pol=v&msys=dvbs&sr=22000 RTSP/1.0\r\nCSeq: 1\r\nTransport: RTP/AVP;unicast;client_port=5000-5001\r\n\r\n" ∷ play ∷ [])
    box

pub record Orders : Type 0 where
  pub unplayed : order_for opened 1 ≡ None
  pub on : is_some (order_for playing 1) ≡ true
  pub stream : order_for playing 1 ≡ Some (stream_of playing 1)
  pub another : order_for playing 2 ≡ None
  pub incomplete : order_for lacking 1 ≡ None

pub orders : Orders
unfolding meanings order_for order_at are_complete
orders = record { unplayed = refl; on = refl; stream = refl; another = refl; incomplete = refl }
