-- What is written are records of document 01, 16 bytes more are held for each of them, and the sequence rises by one with each: of an opening, a closing and a
-- sweep here, of a request, which is made of them, in `Counting`. Assumes nothing.
use mathlib.Core.Path.{◌≡◌, refl}
use mathlib.Core.Bool.{false}
use mathlib.Core.List.{List}
use Prim.Native.Nat.{ℕ, ◌+◌, ◌*◌, ◌<◌}
use native.Mathlib.Omega.{arith}
use lib.Dec.{eqb}
use lib.ListN.{length, length-append}
use borrow.Author.Tests.{eqb-true}
use Rattle.scan.proofs.Bools.{cond_keeps}
use Rattle.aim.specs.declared.Method.{Method}
use Rattle.aim.specs.declared.Method.TheVariants.{Options, Setup, Play, Teardown, Other}
use Rattle.stream.specs.declared.Stream.{Stream}
use Rattle.finding.specs.Finding.{lowest_id}
use Rattle.table.specs.declared.SatBox.{SatBox}
use Rattle.steps.specs.Sights.{Asked, Lists, asked_of, lists_of, port_of, sight_of}
use Rattle.steps.specs.Steps.{is_named}
use Rattle.closings.specs.Closing.{Did, nothing, then, restreamed, reseated, noting, closing, sweeping, at_clock}
use Rattle.closings.specs.Does.{Closable}
use Rattle.serving.specs.Serving.{guest, seating_as as seated, can_join, joining, can_open, opening}
use Rattle.serving.specs.Serving.{stream_after, kept, Serving, retuning, seating, grant, served, client_of, answered}
use Rattle.satbox.specs.Calls.{requested}
use Rattle.serving.specs.declared.opening.Client.{Client}
use Rattle.closings.proofs.Closings.{closing_fine, swept_fine}
use Rattle.closings.proofs.Keeping.{Whole, whole_roomy, clock_whole}
use Rattle.satbox.proofs.Kept.{sweeping_whole}
use Rattle.serving.proofs.RecordLaws.{Numbered, numbered_then, closing_numbered, swept_numbered, joining_numbered, opening_numbered}
use Rattle.serving.proofs.Kept.{kept_whole}
use Rattle.serving.proofs.Passing.{Untested}
use Rattle.serving.proofs.Recorded.{Recorded, recorded_then, closing_recorded, swept_recorded, joining_recorded, opening_recorded}
use Rattle.promises.proofs.Passing.{Changing, served_by, tears_closable}
use Rattle.promises.proofs.Serving.{Fit, proper_client, new_sound}
use Rattle.promises.proofs.Requests.{answered_by, Reads}

-- THE BYTES HELD, 16 for each record; AND THE SEQUENCE, each record's the next
abbrev pub HeldOn : SatBox → Did → Type 0
HeldOn t d = d.satbox.held ≡ t.held + 16 * length d.records

pub record Counted (t : SatBox) (d : Did) : Type 0 where
  pub held : HeldOn t d
  pub sequence : Numbered t d

pub quiet_counted : (t u : SatBox) → u.held ≡ t.held → u.sequence ≡ t.sequence → Counted t (nothing u)
quiet_counted t u h q = record { held = omega arith; sequence = q }

pub counted_then : (t : SatBox) (d : Did) (f : SatBox → Did) → Counted t d → Counted d.satbox (f d.satbox) → Counted t (then d f)
counted_then t d f p q =
    record { held = rw length-append (omega (arith, p.held, q.held)); sequence = numbered_then t d f p.sequence q.sequence }

pub joining_counted : (id : ℕ) (client : Client) (t : SatBox) → Counted t (joining id client t)
unfolding joining seated noting reseated
joining_counted id client t =
    record {
      held = cond_keeps (HeldOn t) (can_join id t) (seated 2 (guest 0 id client t) t) (nothing t) (λ e. refl) (λ e. omega arith);
      sequence = joining_numbered id client t;
    }

pub opening_counted : (m : Stream) (client : Client) (t : SatBox) → Counted t (opening m client t)
unfolding opening seated noting reseated restreamed
opening_counted m client t =
    let id = lowest_id t.streams in
    record {
      held = cond_keeps (HeldOn t) (can_open m.values.src m.frontend t) (seated 1 (guest 1 id client t) (restreamed id m t)) (nothing t) (λ e. refl) (λ e. omega arith);
      sequence = opening_numbered m client t;
    }

pub closing_counted : (cause i : ℕ) (t : SatBox) → Closable t i → Counted t (closing cause i t)
closing_counted cause i t h = record { held = (closing_fine cause i t h).held; sequence = closing_numbered cause i t h }

pub sweeping_counted : (clock : ℕ) (t : SatBox) → Whole t → Counted t (sweeping clock t)
unfolding at_clock
sweeping_counted clock t w =
    let r = whole_roomy (at_clock clock t) (clock_whole clock t w) in
    record { held = (swept_fine (at_clock clock t) r).held; sequence = swept_numbered (at_clock clock t) r }

-- ALL THAT IS WRITTEN ARE RECORDS: kind and cause go together, "Session is not 0, stream and frontend are 1 to 8"
module _ (t : SatBox) (a : Asked) (l : Lists) (w : Whole t) (fit : Fit a) (client : Client) (port : client.port ≡ port_of a.transport) (draw : client.draw < 4294967296) where
  module _ (p : Untested (sight_of t a)) (q : Changing t a l) where
    seating_recorded : a.method ≡ Setup → is_named (sight_of t a) ≡ false → Recorded t (seating t a l client).did
    seating_recorded setup stranger =
        let c = proper_client t a l client w fit p q port draw setup stranger in
        cond_keeps (λ (x : Serving). Recorded t x.did) (eqb a.stream 0) _ _
        (λ e. opening_recorded (stream_after t a l) client t c w (new_sound t a l client w fit p q port draw setup stranger (eqb-true a.stream 0 e)))
        (λ e. joining_recorded a.stream client t draw w)

    grant_recorded : (m : Method) → a.method ≡ m → Recorded t (grant m t a l client).did
    unfolding sight_of
    grant_recorded Options e = refl
    grant_recorded Setup e =
        cond_keeps (λ (x : Serving). Recorded t x.did) (is_named (sight_of t a)) (retuning t a l) (seating t a l client) (λ h. refl) (seating_recorded e)
    grant_recorded Play e = refl
    grant_recorded Teardown e = closing_recorded 1 (sight_of t a).place t (omega arith) (omega arith) (tears_closable t a w p e) w
    grant_recorded Other e = refl

  pub served_recorded : Recorded t (served t a l client).did
  served_recorded =
      served_by t a l client (λ (x : Serving). Recorded t x.did) (λ p q. grant_recorded p q a.method refl) (λ e. refl)

module _ (reads : Reads) (s : List ℕ) (address draw : ℕ) (short : draw < 4294967296) where
  pub answered_recorded : (t : SatBox) → Whole t → Recorded t (answered s address draw t).did
  answered_recorded t w =
      let a = asked_of t.settings.frontends s in
      answered_by s address draw t (λ (x : Serving). Recorded t x.did)
      (λ e. served_recorded (kept a t) a (lists_of s) (kept_whole a t w) (reads t.settings.frontends s e) (client_of address draw a) refl short) (λ e. refl)

  pub requested_recorded : (clock : ℕ) (t : SatBox) → Whole t → Recorded t (requested s clock address draw t).did
  unfolding requested
  requested_recorded clock t w =
      recorded_then t (sweeping clock t) (λ u. (answered s address draw u).did) (swept_recorded (at_clock clock t) (clock_whole clock t w))
      (answered_recorded (sweeping clock t).satbox (sweeping_whole clock t w))
