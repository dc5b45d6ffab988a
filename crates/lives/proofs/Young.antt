-- After a request or a tick no open session has expired: what the sweep left is not, and nothing that a request does makes one so. Assumes nothing.
use Rattle.std.specs.Prelude.{Ok, Err}
use mathlib.Core.Path.{◌≡◌, refl, sym, subst}
use mathlib.Core.Bool.{true, false, and-false}
use mathlib.Core.List.{List, [], ◌∷◌}
use Prim.Native.Nat.{ℕ, ◌-◌, max}
use native.Mathlib.Omega.{arith}
use borrow.Author.Tests.{lt-leb}
use Rattle.scan.specs.Lists.{all}
use Rattle.scan.proofs.Bools.{and_both, cond_keeps}
use Rattle.stream.specs.declared.Stream.{Stream}
use Rattle.table.specs.Table.{no_session, is_open, session_at}
use Rattle.finding.specs.Finding.{lowest_place, lowest_id}
use Rattle.table.specs.declared.Session.{Session}
use Rattle.table.specs.declared.Settings.{Settings}
use Rattle.table.specs.declared.SatBox.{SatBox}
use Rattle.table.specs.Made.{Outcome}
use Rattle.table.proofs.Counts.{get_or_set_all}
use Rattle.closings.specs.Closing.{Did, nothing, restreamed, reseated, noting, is_expired, closing, sweeping, at_clock}
use Rattle.closings.specs.Does.{Closable}
use Rattle.serving.specs.Serving.{guest, seating_as as seated, can_join, joining, can_open, opening}
use Rattle.satbox.specs.Calls.{if_done, tick_outcome, ticked, collect_outcome, collected, emptied, request_outcome, requested, replied}
use Rattle.serving.specs.Serving.{with_session, answered}
use Rattle.serving.specs.declared.opening.Client.{Client}
use Rattle.closings.proofs.Keeping.{Whole, clock_whole}
use Rattle.satbox.proofs.Kept.{sweeping_whole}
use Rattle.lives.specs.Calls.{lent, Call, request, tick, collect, order, is_call, Life, live, run, Lives, life_after}
use Rattle.lives.specs.Closed.{Sweeps, in_request, in_tick}
use Rattle.lives.proofs.Lived.{lived, lived_as}
use Rattle.lives.proofs.Requests.{Kin, Retuned, retuned_same, answered_holds}
use Rattle.lives.proofs.Settings.{sweeping_set, requested_set}
use Rattle.lives.proofs.Holding.{Good, born_good}
use Rattle.lives.proofs.Running.{live_good}
use Rattle.lives.proofs.ReadingBack.{free_place}
use Rattle.lives.proofs.Fates.{aged_after}
use Rattle.lives.proofs.Departures.{closing_fates}
use Rattle.lives.proofs.Visits.{none_expired}

-- at a clock nothing that is open in the table has expired
abbrev pub Young : ℕ → SatBox → Type 0
Young clock t = (k : ℕ) → is_expired clock (session_at t k) ≡ false

-- what was heard of at the clock has not
heard : (clock : ℕ) (s : Session) → s.last ≡ clock → is_expired clock s ≡ false
heard clock s e = rw (e, lt-leb 60 (clock - clock) (omega arith)) (and-false (is_open s))

-- AN OPENING
joining_young : (id : ℕ) (client : Client) (t : SatBox) → Young t.clock t → Young t.clock (joining id client t).satbox
unfolding joining seated noting reseated
joining_young id client t y =
    let s = guest 0 id client t in
    cond_keeps (λ (d : Did). Young t.clock d.satbox) (can_join id t) (seated 2 s t) (nothing t)
    (λ e k. get_or_set_all (λ (x : Session). is_expired t.clock x ≡ false) t.sessions (lowest_place t.sessions) k s no_session (heard t.clock s refl) (y k))
    (λ e. y)

opening_young : (m : Stream) (client : Client) (t : SatBox) → Young t.clock t → Young t.clock (opening m client t).satbox
unfolding opening seated noting reseated restreamed
opening_young m client t y =
    let id = lowest_id t.streams in
    let s = guest 1 id client t in
    cond_keeps (λ (d : Did). Young t.clock d.satbox) (can_open m.values.src m.frontend t) (seated 1 s (restreamed id m t)) (nothing t)
    (λ e k. get_or_set_all (λ (x : Session). is_expired t.clock x ≡ false) t.sessions (lowest_place t.sessions) k s no_session (heard t.clock s refl) (y k))
    (λ e. y)

-- A SESSION CHANGED in its place
changed_young : {t u : SatBox} (place : ℕ) (s : Session) → Young t.clock t → Kin t.clock s (session_at t place) → Retuned t u → Young t.clock (with_session place s u)
unfolding with_session
changed_young {t} place s y k r =
    let new = heard t.clock s k.last in
    rw (retuned_same r).0 (λ i. get_or_set_all (λ (x : Session). is_expired t.clock x ≡ false) t.sessions place i s no_session new (y i))

closing_young : (place : ℕ) (t : SatBox) → Young t.clock t → Closable t place → Young t.clock (closing 1 place t).satbox
closing_young place t y c i =
    aged_after t (closing 1 place t) (session_at t i) (session_at (closing 1 place t).satbox i) (y i) ((closing_fates 1 place t c).each i)

answered_young : (s : List ℕ) (address draw : ℕ) (t : SatBox) → Whole t → Young t.clock t → Young t.clock (answered s address draw t).did.satbox
answered_young s address draw t w y =
    answered_holds s address draw t w (λ (d : Did). Young t.clock d.satbox)
    (record {
      still = y;
      changed = λ place s k u r. changed_young place s y k r;
      joined = λ id client e. joining_young id client t y;
      opened = λ m client e. opening_young m client t y;
      closed = λ tears passed place c. closing_young place t y c;
    })

-- THE CALLS
sweeping_young : (clock : ℕ) (t : SatBox) → Whole t → Young (max t.clock clock) (sweeping clock t).satbox
unfolding at_clock
sweeping_young clock t w = none_expired (at_clock clock t) (clock_whole clock t w)

requested_young : (s : List ℕ) (clock address draw : ℕ) (t : SatBox) → Whole t → Young (max t.clock clock) (requested s clock address draw t).did.satbox
unfolding requested
requested_young s clock address draw t w =
    let u = (sweeping clock t).satbox in
    let c = (sweeping_set clock t w).clock in
    subst (λ n. Young n (answered s address draw u).did.satbox) c
    (answered_young s address draw u (sweeping_whole clock t w) (subst (λ n. Young n u) (sym c) (sweeping_young clock t w)))

young_lived : {clock : ℕ} {c : Call} → Sweeps clock c → (x : Life) → (lived_as c x).outcome ≡ Ok tt → Whole x.satbox → Young (max x.satbox.clock clock) (lived_as c x).satbox
young_lived (in_request {s = s} {clock = clock} {address = address} {draw = draw}) x e w =
    subst (λ (o : Outcome). Young (max x.satbox.clock clock) (if_done o (requested s clock address draw x.satbox).did.satbox x.satbox)) (sym e) (requested_young s clock address draw x.satbox w)
young_lived (in_tick {clock = clock}) x e w =
    subst (λ (o : Outcome). Young (max x.satbox.clock clock) (if_done o (sweeping clock x.satbox).satbox x.satbox)) (sym e) (sweeping_young clock x.satbox w)

pub young_after : {clock : ℕ} {c : Call} → Sweeps clock c → (x : Life) → (live c x).outcome ≡ Ok tt → Whole x.satbox → Young (max x.satbox.clock clock) (live c x).satbox
young_after {c = c} s x e w = rw (lived c x) (young_lived s x (rw (lived c x) at e) w)

-- A RUN of them: at the box's own clock
done_young : (o : Outcome) (t u : SatBox) → Young t.clock t → Young u.clock u → Young (if_done o u t).clock (if_done o u t)
done_young (Ok o) t u a b = b
done_young (Err r) t u a b = a

live_young : {settings : Settings} {x : Life} → Good settings x → (c : Call) → Young x.satbox.clock x.satbox → Young (live c x).satbox.clock (live c x).satbox
unfolding live replied ticked collected emptied
live_young {x = x} g (request s clock address draw b l) y =
    let u = (requested s clock address draw x.satbox).did.satbox in
    done_young (request_outcome x.satbox (lent l x.journal) b) x.satbox u y
    (subst (λ n. Young n u) (sym (requested_set s clock address draw x.satbox g.whole).clock) (requested_young s clock address draw x.satbox g.whole))
live_young {x = x} g (tick clock l) y =
    let u = (sweeping clock x.satbox).satbox in
    done_young (tick_outcome x.satbox (lent l x.journal)) x.satbox u y
    (subst (λ n. Young n u) (sym (sweeping_set clock x.satbox g.whole).clock) (sweeping_young clock x.satbox g.whole))
live_young {x = x} g (collect b l) y = done_young (collect_outcome x.satbox (lent l x.journal) b) x.satbox (emptied x.satbox) y y
live_young g (order f) y = y

pub run_young : {settings : Settings} (cs : List Call) {x : Life} → all (is_call settings.size) cs ≡ true → Good settings x → Young x.satbox.clock x.satbox → Young (run cs x).satbox.clock (run cs x).satbox
run_young [] e g y = y
run_young {settings = settings} (c ∷ cs) e g y = let p = and_both (is_call settings.size c) _ e in run_young cs p.1 (live_good g c p.0) (live_young g c y)

pub after_young : {settings : Settings} {j : List ℕ} {cs : List Call} → Lives settings j cs → Young (life_after settings j cs).satbox.clock (life_after settings j cs).satbox
after_young {settings} {j} {cs} h =
    run_young cs h.calls (born_good settings j h.sizes h.journal) (λ k. subst (λ (s : Session). is_expired 0 s ≡ false) (sym (free_place 32 k)) refl)
