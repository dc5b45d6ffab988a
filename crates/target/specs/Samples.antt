-- Samples of what the definitions say, by computation. Assumes nothing.
use Prim.Native.String.{String}
use Rattle.std.specs.Prelude.{◌≡◌, refl, Bool, true, false, not, [], ◌∷◌, Some}
use Rattle.scan.specs.Text.{text}
use Rattle.scan.specs.Lists.{all}
use Rattle.digits.specs.Reading.{read_number}
use Rattle.target.specs.Line.{is_three, line_part}
use Rattle.target.specs.Uri.{has_query, query_of, stream_of_path, stream_named, host_of, is_uri}

abbrev is_uri_text : String → Bool
is_uri_text s = is_uri (text s)

uris : all is_uri_text
    ("rtsp://h/"
    ∷ "rtsp://h:00554/"
    ∷ "rtsp://h:65535/"
    ∷ "rtsp://10.0.0.5/?freq=1"
    ∷ "rtsp://h/?"
    ∷ "rtsp://h/?a@b/c:d?e"
    ∷ "rtsp://h/stream=1"
    ∷ "rtsp://h/stream=65535"
    ∷ [])
    ≡ true
unfolding is_uri stream_of_path read_number
uris = refl

others : all (λ s. not (is_uri_text s))
    (""
    ∷ "*"
    ∷ "rtsp:"
    ∷ "rtsp://h"
    ∷ "rtsp://h?/"
    ∷ "RTSP://h/"
    ∷ "rtsp:///"
    ∷ "rtsp://:554/"
    ∷ "rtsp://h:/"
    ∷ "rtsp://h:0/"
    ∷ "rtsp://h:000554/"
    ∷ "rtsp://h:65536/"
    ∷ "rtsp://h:1:2/"
    ∷ "rtsp://u@h/"
    ∷ "rtsp://h/x"
    ∷ "rtsp://h/Stream=1"
    ∷ "rtsp://h/stream"
    ∷ "rtsp://h/stream="
    ∷ "rtsp://h/stream=0"
    ∷ "rtsp://h/stream=01"
    ∷ "rtsp://h/stream=65536"
    ∷ "rtsp://h/stream=1/"
    ∷ [])
    ≡ true
unfolding is_uri stream_of_path read_number
others = refl

stream : stream_named (text "rtsp://10.0.0.5:554/stream=7?fe=1") ≡ Some 7
unfolding stream_of_path read_number
stream = refl

no_stream_law : stream_named (text "rtsp://10.0.0.5/?freq=1") ≡ Some 0
unfolding stream_of_path
no_stream_law = refl

host : host_of (text "rtsp://10.0.0.5:554/stream=7?fe=1") ≡ text "10.0.0.5"
host = refl

query : query_of (text "rtsp://10.0.0.5:554/stream=7?fe=1?") ≡ text "fe=1?"
query = refl

empty_query : has_query (text "rtsp://h/?") ≡ true
empty_query = refl

no_query : has_query (text "rtsp://h/") ≡ false
no_query = refl

lines : all (λ s. is_three (text s)) ("OPTIONS rtsp://h/ RTSP/1.0" ∷ "a b c" ∷ []) ≡ true
lines = refl

other_lines : all (λ s. not (is_three (text s)))
    (""
    ∷ "OPTIONS"
    ∷ "OPTIONS rtsp://h/"
    ∷ "OPTIONS rtsp://h/ "
    ∷ "OPTIONS  RTSP/1.0"
    ∷ "OPTIONS rtsp://h/  RTSP/1.0"
    ∷ " rtsp://h/ RTSP/1.0"
    ∷ "OPTIONS rtsp://h/ RTSP/1.0 "
    ∷ "OPTIONS rtsp://h/ RTSP/1.0 x"
    ∷ [])
    ≡ true
other_lines = refl

uri_part : line_part 1 (text "OPTIONS rtsp://h/ RTSP/1.0") ≡ text "rtsp://h/"
uri_part = refl
