-- A request table by table: after each record the history and the table agree about the frontends. Assumes nothing.
use mathlib.Core.Path.{refl}
use mathlib.Core.List.{List}
use Prim.Native.Nat.{ℕ, ◌<◌}
use native.Mathlib.Omega.{arith}
use Rattle.scan.proofs.Bools.{and_both, cond_keeps}
use Rattle.stream.specs.declared.Stream.{Stream}
use Rattle.table.specs.Table.{session_at}
use Rattle.finding.specs.Finding.{lowest_place, lowest_id}
use Rattle.table.specs.declared.Session.{Session}
use Rattle.table.specs.declared.SatBox.{SatBox}
use Rattle.finding.proofs.Draws.{drawn_nonzero}
use Rattle.closings.specs.Closing.{nothing, restreamed, sweeping}
use Rattle.serving.specs.Serving.{has_place, guest, seating_as as seated, can_join, joining, can_open, opening}
use Rattle.serving.specs.Serving.{with_session, answered}
use Rattle.satbox.specs.Calls.{requested}
use Rattle.serving.specs.declared.opening.Client.{Client}
use Rattle.closings.proofs.Keeping.{Whole}
use Rattle.satbox.proofs.Kept.{sweeping_whole}
use Rattle.serving.proofs.Kept.{Alike}
use Rattle.lives.specs.Audit.{restream, retune, replace, opens_as_owner, joins, begun, quiet, noted}
use Rattle.lives.proofs.Requests.{Retuned, as_it_was, merged, answered_holds}
use Rattle.lives.proofs.Agreeing.{agree_fed, agree_replaced}
use Rattle.lives.proofs.Seating.{place_free, agree_joined, nobody, agree_new, agree_opened}
use Rattle.lives.proofs.Chains.{Watched, watched_quiet, watched_nothing, watched_then, closing_watched, sweeping_watched}

-- OPENINGS
joining_watched : (id : ℕ) (client : Client) (t : SatBox) → client.draw < 4294967296 → Whole t → Watched t (joining id client t)
unfolding joining seated
joining_watched id client t short w =
    let s = guest 0 id client t in
    cond_keeps (Watched t) (can_join id t) (seated 2 s t) (nothing t)
    (λ e h g. noted (begun g) (joins s (lowest_place t.sessions) (omega (arith, (place_free t (and_both (has_place t) _ e).0).0)) (place_free t (and_both (has_place t) _ e).0).1 (drawn_nonzero t.sessions client.draw w.places short) refl) (agree_joined h id client t e g)) (λ e. watched_nothing t)

opening_watched : (m : Stream) (client : Client) (t : SatBox) → client.draw < 4294967296 → Whole t → Watched t (opening m client t)
unfolding opening seated restreamed
opening_watched m client t short w =
    let id = lowest_id t.streams in
    let s = guest 1 id client t in
    cond_keeps (Watched t) (can_open m.values.src m.frontend t) (seated 1 s (restreamed id m t)) (nothing t)
    (λ e h g. noted (quiet (begun g) (restream id m (nobody h m client t short e w g)) (agree_new h m client t short e w g)) (opens_as_owner s (lowest_place t.sessions) (omega (arith, (place_free t (and_both (has_place t) _ e).0).0)) (place_free t (and_both (has_place t) _ e).0).1 (drawn_nonzero t.sessions client.draw w.places short) (λ q. omega arith)) (agree_opened h m client t short e w g))
    (λ e. watched_nothing t)

-- A SESSION CHANGED in its place, with a query merged or not
changed_watched : {t u : SatBox} (place : ℕ) (s : Session) → Alike s (session_at t place) → Retuned t u → Watched t (nothing (with_session place s u))
unfolding restreamed
changed_watched {t} place s k as_it_was h g = watched_quiet (quiet (begun g) (replace place s k.number k.stream k.owner) (agree_replaced t g place s k))
changed_watched {t} place s k (merged id m e) h g =
    let f = agree_fed t g id m e in
    watched_quiet (quiet (quiet (begun g) (retune id m e) f) (replace place s k.number k.stream k.owner) (agree_replaced (restreamed id m t) f place s k))

answered_watched : (s : List ℕ) (address draw : ℕ) → draw < 4294967296 → (t : SatBox) → Whole t → Watched t (answered s address draw t).did
answered_watched s address draw short t w =
    answered_holds s address draw t w (Watched t)
    (record {
      still = watched_nothing t;
      changed = λ place s k u r. changed_watched place s k.alike r;
      joined = λ id client e. joining_watched id client t (rw e short) w;
      opened = λ m client e. opening_watched m client t (rw e short) w;
      closed = λ tears passed place c. closing_watched 1 place t c w;
    })

-- A REQUEST
pub requested_watched : (s : List ℕ) (clock address draw : ℕ) → draw < 4294967296 → (t : SatBox) → Whole t → Watched t (requested s clock address draw t).did
unfolding requested
requested_watched s clock address draw short t w =
    watched_then t (sweeping clock t) (λ u. (answered s address draw u).did) (sweeping_watched clock t w)
    (answered_watched s address draw short (sweeping clock t).satbox (sweeping_whole clock t w))
