-- WHOM A REQUEST KEEPS, order 3 of document 02: whoever it names, whatever its method and its status; of any bytes s, on a well-formed table t that was
-- swept. Assumes nothing.
use mathlib.Core.Path.{◌≡◌, refl}
use mathlib.Core.Bool.{true}
use mathlib.Core.List.{List}
use Prim.Native.Nat.{ℕ, ◌<◌}
use Rattle.std.specs.Prelude.{None}
use Rattle.scan.proofs.Bools.{Case as Test, is, isnt, case}
use Rattle.aim.specs.declared.Method.{Method}
use Rattle.aim.specs.declared.Method.TheVariants.{Options, Setup, Play, Teardown, Other}
use Rattle.reader.specs.Request.{method_of, request_refusal}
use Rattle.stream.specs.declared.Stream.{Stream}
use Rattle.table.specs.Table.{session_at}
use Rattle.table.specs.declared.SatBox.{SatBox}
use Rattle.steps.specs.Sights.{asked_of, place_named}
use Rattle.steps.specs.Steps.{is_passed}
use Rattle.serving.specs.Serving.{answered}
use Rattle.closings.proofs.Keeping.{Whole}
use Rattle.promises.proofs.Retuning.{Quietly, but}
use Rattle.promises.proofs.Methods.{keeps, refused_keeps, options_refreshes, other_alone, setup_replaces, play_marks}

-- in u the session at a place has t's clock for its last time, with some port, playing or not, and some stream; every other is as it was, and nothing is
-- written
pub record Keeps (t u : SatBox) (place : ℕ) : Type 0 where
  pub port : ℕ
  pub playing : ℕ
  pub stream : Stream
  pub quietly : Quietly t u place (but t.clock port playing (session_at t place)) (session_at t place).stream stream

module _ (s : List ℕ) (address draw : ℕ) (t : SatBox) (w : Whole t) where
  abbrev place : ℕ
  place = place_named (asked_of t.settings.frontends s).session t

  abbrev u : SatBox
  u = (answered s address draw t).did.satbox

  -- "Every request that passes step 11 and names an open session sets its last time", but a TEARDOWN that is answered 200: that closes it
  pub names_keeps : request_refusal t.settings.frontends s ≡ None → place < 32
      → (method_of s ≡ Teardown → is_passed (answered s address draw t).case ≡ true → ⊥) → Keeps t u place
  names_keeps read h untorn = by (case (is_passed (answered s address draw t).case))
    where
      of : is_passed (answered s address draw t).case ≡ true → (m : Method) → method_of s ≡ m → Keeps t u place
      of y Options e = record { port = _; playing = _; stream = _; quietly = options_refreshes s address draw t w y e h }
      of y Setup e = record { port = _; playing = _; stream = _; quietly = setup_replaces s address draw t w y e h }
      of y Play e = record { port = _; playing = _; stream = _; quietly = play_marks s address draw t w y e }
      of y Teardown e = absurd (untorn e y)
      of y Other e = rw (other_alone s address draw t w y e) (record { port = _; playing = _; stream = _; quietly = keeps s address draw t w h })

      by : Test (is_passed (answered s address draw t).case) → Keeps t u place
      by (is y) = of y (method_of s) refl
      by (isnt n) = record { port = _; playing = _; stream = _; quietly = refused_keeps s address draw t w read n h }
