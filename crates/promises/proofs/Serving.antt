-- A request that steps 1 to 10 let through keeps a table well formed; and one that steps 11 to 18 refuse changes nothing. Assumes nothing.
use mathlib.Core.Path.{◌≡◌, refl, sym, ◌∙◌, ap, subst}
use mathlib.Core.Bool.{true, false}
use Prim.Native.Nat.{ℕ, ◌<◌}
use native.Mathlib.Omega.{arith}
use lib.Dec.{eqb}
use borrow.Author.Tests.{eqb-true}
use Rattle.scan.proofs.Bools.{never, cond_keeps}
use Rattle.aim.specs.declared.Method.{Method}
use Rattle.aim.specs.declared.Method.TheVariants.{Options, Setup, Play, Teardown, Other}
use Rattle.std.specs.Prelude.{Option, Some, None}
use Rattle.stream.specs.Streams.{blank, is_sound, merge_of, after_query}
use Rattle.stream.specs.Arrays.{are_fit}
use Rattle.stream.proofs.Soundness.{blank_sound}
use Rattle.stream.proofs.Keeping.{merge_sound}
use Rattle.table.specs.Table.{session_at, stream_of}
use Rattle.table.specs.declared.Session.{Session}
use Rattle.table.specs.declared.SatBox.{SatBox}
use Rattle.steps.specs.Sights.{Asked, Lists, port_of, sight_of}
use Rattle.steps.specs.Steps.{is_setup, looks_up, is_named, is_passed}
use Rattle.closings.specs.Closing.{nothing, restreamed}
use Rattle.serving.specs.Serving.{merging, stream_after, merges, with_session, seat_after, Serving, retuning, seating, grant, served}
use Rattle.serving.specs.Turns.{at_port, playing}
use Rattle.serving.specs.declared.opening.Client.{Client}
use Rattle.closings.proofs.Keeping.{Whole, closing_whole}
use Rattle.satbox.proofs.Kept.{merged_whole}
use Rattle.serving.proofs.Kept.{replaced_whole, is_port, Seated, seated, proper}
use Rattle.serving.proofs.OpeningKeeps.{Proper, joining_whole, feed_range, opening_whole}
use Rattle.serving.proofs.Passing.{Untested, named_needed, named_closable, own_live}
use Rattle.serving.proofs.Branching.{merging_new, merging_live, after_new, after_live}
use Rattle.satbox.proofs.RequestLaws.{grant_passes}
use Rattle.promises.proofs.Passing.{Changing, served_by, tears_closable, through_port, source, feed, through_merged, through_reached, can_open_law, new_merged}

module _ (place : ℕ) (t : SatBox) (w : Whole t) (some : (session_at t place).number ≡ 0 → ⊥) where
  values : Seated t.clock (session_at t place)
  values = seated t.clock (session_at t place) some (w.formed.proper place)

  -- "SETUP in a session replaces only the port"
  pub ported_whole : (port : ℕ) → is_port port ≡ true → Whole (with_session place (at_port port (session_at t place)) t)
  ported_whole port h =
      let s = at_port port (session_at t place) in
      replaced_whole place s t w (record { number = refl; stream = refl; owner = refl })
      (proper t.clock s some (record { port = h; owner = values.owner; playing = values.playing; last = values.last }))

  -- PLAY "marks the session playing"
  pub played_whole : Whole (with_session place (playing (session_at t place)) t)
  played_whole =
      let s = playing (session_at t place) in
      replaced_whole place s t w (record { number = refl; stream = refl; owner = refl })
      (proper t.clock s some (record { port = values.port; owner = values.owner; playing = refl; last = values.last }))

-- WHAT STEPS 1 TO 10 LET THROUGH: every value is in the table of attributes, or 0 where it is not given; a port, if there is one, is step 15's
pub record Fit (a : Asked) : Type 0 where
  pub codes : are_fit a.codes ≡ true
  pub port : (p : ℕ) → a.transport ≡ Some p → is_port p ≡ true

some_port : (x : Option ℕ) → ((p : ℕ) → x ≡ Some p → is_port p ≡ true) → (port_of x ≡ 0 → ⊥) → is_port (port_of x) ≡ true
some_port None h n = absurd (n refl)
some_port (Some p) h n = h p refl

module _ (t : SatBox) (a : Asked) (l : Lists) (client : Client) (w : Whole t) (fit : Fit a) (p : Untested (sight_of t a)) (q : Changing t a l) where
  set_port : is_setup (sight_of t a).method ≡ true → is_port (sight_of t a).port ≡ true
  unfolding sight_of
  set_port e = some_port a.transport fit.port (through_port (sight_of t a) p e)

  -- a session that is named is open
  open_named : is_named (sight_of t a) ≡ true → (sight_of t a).session.number ≡ 0 → ⊥
  unfolding sight_of
  open_named named = (named_closable t w a (sight_of t a) refl named).some

  -- A SETUP OR A PLAY of an open session
  module _ (named : is_named (sight_of t a) ≡ true) (looks : looks_up a.method ≡ true) where
    live : (stream_of t a.stream).frontend ≡ 0 → ⊥
    unfolding sight_of
    live = own_live t w a (sight_of t a) refl named p looks

    -- its query is merged into its stream
    is_merging : merging t a l ≡ merge_of (stream_of t a.stream) a.codes l.pids l.delpids l.addpids
    unfolding sight_of
    is_merging = merging_live t a l client (sight_of t a) refl (λ e. live (ap (λ k. (stream_of t k).frontend) e))

    is_after : stream_after t a l ≡ after_query (stream_of t a.stream) a.codes l.pids l.delpids l.addpids
    unfolding sight_of
    is_after = after_live t a l client (sight_of t a) refl (λ e. live (ap (λ k. (stream_of t k).frontend) e))

    retuned_whole : merges (sight_of t a) ≡ true → Whole (restreamed a.stream (stream_after t a l) t)
    retuned_whole e =
        let o = rw is_merging at (through_merged t a l q e) in
        rw is_after (merged_whole a.stream a.codes l.pids l.delpids l.addpids t w live fit.codes (through_reached t a l q e (λ z. live (ap (λ k. (stream_of t k).frontend) z))) o)

    -- and the session is changed in its place, where nothing else was
    changed_whole : (u : SatBox) → Whole u → session_at u (sight_of t a).place ≡ (sight_of t a).session → Whole (with_session (sight_of t a).place (seat_after (sight_of t a)) u)
    changed_whole u v e =
        let place = (sight_of t a).place in
        let there : (session_at u place).number ≡ 0 → ⊥ = λ z. open_named named (ap (λ (s : Session). s.number) (sym e) ∙ z) in
        cond_keeps (λ (s : Session). Whole (with_session place s u)) (is_setup (sight_of t a).method) _ _
        (λ setup. subst (λ (s : Session). Whole (with_session place (at_port (sight_of t a).port s) u)) e (ported_whole place u v there (sight_of t a).port (set_port setup)))
        (λ other. subst (λ (s : Session). Whole (with_session place (playing s) u)) e (played_whole place u v there))

    retuning_whole : Whole (retuning t a l).did.satbox
    unfolding sight_of restreamed
    retuning_whole =
        cond_keeps (λ (u : SatBox). Whole (with_session (sight_of t a).place (seat_after (sight_of t a)) u)) (merges (sight_of t a)) _ t
        (λ e. changed_whole (restreamed a.stream (stream_after t a l) t) (retuned_whole e) refl) (λ e. changed_whole t w refl)

  module _ (port : client.port ≡ port_of a.transport) (draw : client.draw < 4294967296) where
    -- A SETUP without a session
    module _ (setup : a.method ≡ Setup) (stranger : is_named (sight_of t a) ≡ false) where
      pub proper_client : Proper client
      unfolding sight_of
      proper_client = record { port = rw port (set_port (rw setup)); draw = draw }

      pub new_sound : a.stream ≡ 0 → is_sound t.settings.frontends (stream_after t a l) ≡ true
      unfolding sight_of
      new_sound none =
          let f = feed_range (source t a) (feed t a) t (can_open_law t a l q setup stranger none) in
          let o = rw (merging_new t a l client (sight_of t a) refl none) at (new_merged t a l q setup stranger none) in
          rw (after_new t a l client (sight_of t a) refl none)
          (merge_sound (blank (feed t a)) a.codes l.pids l.delpids l.addpids t.settings.frontends (blank_sound t.settings.frontends (feed t a) f.0 f.1)
          (λ z. omega (arith, f.0)) fit.codes o)

      seating_whole : Whole (seating t a l client).did.satbox
      seating_whole =
          cond_keeps (λ (x : Serving). Whole x.did.satbox) (eqb a.stream 0) _ _
          (λ e. opening_whole (stream_after t a l) client t proper_client w (new_sound (eqb-true a.stream 0 e)))
          (λ e. joining_whole a.stream client t proper_client w)

    grant_whole : (m : Method) → a.method ≡ m → Whole (grant m t a l client).did.satbox
    unfolding sight_of
    grant_whole Options e = w
    grant_whole Setup e =
        cond_keeps (λ (x : Serving). Whole x.did.satbox) (is_named (sight_of t a)) (retuning t a l) (seating t a l client)
        (λ named. retuning_whole named (rw e)) (seating_whole e)
    grant_whole Play e = retuning_whole (named_needed (sight_of t a) p (rw e)) (rw e)
    grant_whole Teardown e = closing_whole 1 (sight_of t a).place t (tears_closable t a w p e) w
    grant_whole Other e = w

-- A REQUEST THAT STEPS 1 TO 10 LET THROUGH keeps the table well formed
pub served_whole : (t : SatBox) (a : Asked) (l : Lists) (client : Client) → Whole t → Fit a → client.port ≡ port_of a.transport → client.draw < 4294967296 → Whole (served t a l client).did.satbox
served_whole t a l client w fit port draw =
    served_by t a l client (λ (x : Serving). Whole x.did.satbox) (λ p q. grant_whole t a l client w fit p q port draw a.method refl) (λ e. w)

-- "A STATUS OTHER THAN 200 CHANGES NOTHING": refused by one of steps 11 to 18, it leaves the table that it comes to, and writes no record
pub denied_still : (t : SatBox) (a : Asked) (l : Lists) (client : Client) → is_passed (served t a l client).case ≡ false → (served t a l client).did ≡ nothing t
denied_still t a l client =
    served_by t a l client (λ (x : Serving). is_passed x.case ≡ false → x.did ≡ nothing t)
    (λ p q n. never (ap is_passed (grant_passes a.method t a l client)) n) (λ e n. refl)
