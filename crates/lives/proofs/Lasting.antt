-- Nothing is closed in a call but what expires, loses its owner or is torn down, and the closings that are written bear the causes of document 01.
-- Assumes nothing.
use Rattle.std.specs.Prelude.{Ok, Err}
use mathlib.Core.Path.{◌≡◌, refl, sym, ◌∙◌, ap, subst}
use mathlib.Core.Bool.{true, false, ◌&&◌}
use mathlib.Core.List.{List, [], ◌∷◌, ◌++◌, map, map-append, append-nil}
use mathlib.Core.Logic.{◌⊎◌, inl, inr}
use Prim.Native.Nat.{ℕ, max}
use native.Mathlib.Omega.{arith}
use lib.Seq.{get_or-set_other}
use borrow.Author.Tests.{eq-eqb, eqb-true}
use Rattle.scan.specs.Lists.{first}
use Rattle.scan.proofs.Bools.{and_both, both, or_right, Case, is, isnt, case, cond_keeps}
use Rattle.aim.specs.declared.Method.TheVariants.{Teardown}
use Rattle.reader.specs.Request.{method_of}
use Rattle.journal.specs.declared.Record.{Record}
use Rattle.stream.specs.Streams.{past_stream}
use Rattle.stream.specs.declared.Stream.{Stream}
use Rattle.table.specs.Table.{any, count, no_session, has_number, is_open, session_at, is_on, owns}
use Rattle.finding.specs.Finding.{lowest_place, lowest_id}
use Rattle.table.specs.declared.Session.{Session}
use Rattle.table.specs.declared.SatBox.{SatBox}
use Rattle.table.specs.Made.{Outcome}
use Rattle.table.proofs.Counts.{get_or_set_alike, first_some, first_passes}
use Rattle.table.proofs.Changes.{opened, seated_live}
use Rattle.steps.specs.Steps.{is_passed}
use Rattle.closings.specs.Closing.{Did, nothing, restreamed, reseated, noting, is_expired, sweeping, at_clock}
use Rattle.serving.specs.Serving.{has_place, guest, seating_as as seated, can_join, joining, can_open, opening}
use Rattle.serving.specs.Serving.{with_session, answered}
use Rattle.serving.specs.declared.opening.Client.{Client}
use Rattle.satbox.specs.Calls.{if_done, request_outcome, ticked, collected, emptied, requested, replied}
use Rattle.closings.proofs.Keeping.{Whole, clock_whole}
use Rattle.satbox.proofs.Kept.{sweeping_whole}
use Rattle.lives.specs.Calls.{Lent, Call, request, tick, collect, order, Life, live, lent}
use Rattle.lives.specs.Closed.{takes, says_closed, unnumbered, sweep_closings, teardown_closings, place_named_by, Sweeps, in_request, in_tick, Stays, TearsDown, in_teardown, Ends, expired, torn}
use Rattle.lives.proofs.Lived.{lived, lived_as}
use Rattle.lives.proofs.Requests.{Kin, Retuned, retuned_same, answered_holds}
use Rattle.lives.proofs.Seating.{place_free}
use Rattle.lives.proofs.Taking.{one_owner, closing_took}
use Rattle.lives.proofs.Visits.{swept_text, stays_seat, stays_row}
use Rattle.lives.proofs.Teardowns.{Tearing, tearing, not_tearing, whether_tearing, answered_torn}

-- A SWEEP
module _ (clock : ℕ) (t : SatBox) (w : Whole t) where
  pub sweeping_text : map unnumbered (sweeping clock t).records ≡ sweep_closings (at_clock clock t)
  sweeping_text = swept_text (at_clock clock t) (clock_whole clock t w)

  pub stays_in : (i : ℕ) → is_open (session_at t i) ≡ true → is_expired (max t.clock clock) (session_at t i) ≡ false
      → ((m : ℕ) → owns (session_at t i).stream (session_at t m) ≡ true → is_expired (max t.clock clock) (session_at t m) ≡ false)
      → Stays t i (sweeping clock t).satbox
  unfolding at_clock
  stays_in i some young kept =
      let u = at_clock clock t in
      let wu = clock_whole clock t w in
      record { session = stays_seat u wu i some young kept; stream = stays_row u wu i some young kept }

-- A REQUEST that is no TEARDOWN: on the swept box every session keeps its place and its number, and no closing is written
record Lasts (t : SatBox) (d : Did) : Type 0 where
  numbers : (i : ℕ) → is_open (session_at t i) ≡ true → (session_at d.satbox i).number ≡ (session_at t i).number
  opens : any says_closed d.records ≡ false

lasts_nothing : (t : SatBox) → Lasts t (nothing t)
lasts_nothing t = record { numbers = λ i some. refl; opens = refl }

changed_lasts : {t u : SatBox} (place : ℕ) (s : Session) → Kin t.clock s (session_at t place) → Retuned t u → Lasts t (nothing (with_session place s u))
unfolding with_session
changed_lasts {t} place s k r =
    record {
      numbers = rw (retuned_same r).0 (λ i some. get_or_set_alike (λ (x : Session). x.number) t.sessions place i s no_session k.alike.number);
      opens = refl;
    }

-- who comes to the lowest free place comes where nobody is
beside : (t : SatBox) → has_place t ≡ true → (i : ℕ) → is_open (session_at t i) ≡ true → i ≡ lowest_place t.sessions → ⊥
beside t e i some q = opened (session_at t i) some (rw q (place_free t e).1)

joining_lasts : (id : ℕ) (client : Client) (t : SatBox) → Lasts t (joining id client t)
unfolding joining seated noting reseated
joining_lasts id client t =
    let s = guest 0 id client t in
    cond_keeps (Lasts t) (can_join id t) (seated 2 s t) (nothing t)
    (λ e.
    record {
      numbers = λ i some. ap (λ (x : Session). x.number) (get_or-set_other t.sessions (lowest_place t.sessions) i s no_session (beside t (and_both (has_place t) _ e).0 i some));
      opens = refl;
    })
    (λ e. lasts_nothing t)

opening_lasts : (m : Stream) (client : Client) (t : SatBox) → Lasts t (opening m client t)
unfolding opening seated noting reseated restreamed
opening_lasts m client t =
    let id = lowest_id t.streams in
    let s = guest 1 id client t in
    cond_keeps (Lasts t) (can_open m.values.src m.frontend t) (seated 1 s (restreamed id m t)) (nothing t)
    (λ e.
    record {
      numbers = λ i some. ap (λ (x : Session). x.number) (get_or-set_other t.sessions (lowest_place t.sessions) i s no_session (beside t (and_both (has_place t) _ e).0 i some));
      opens = refl;
    })
    (λ e. lasts_nothing t)

answered_lasts : (s : List ℕ) (address draw : ℕ) (t : SatBox) → Whole t → (method_of s ≡ Teardown → is_passed (answered s address draw t).case ≡ true → ⊥) → Lasts t (answered s address draw t).did
answered_lasts s address draw t w n =
    answered_holds s address draw t w (Lasts t)
    (record {
      still = lasts_nothing t;
      changed = λ place s k u r. changed_lasts place s k r;
      joined = λ id client e. joining_lasts id client t;
      opened = λ m client e. opening_lasts m client t;
      closed = λ tears passed place c. absurd (n tears passed);
    })

-- a request on the swept box is a TEARDOWN that is answered 200, or all stay
data Fared (s : List ℕ) (address draw : ℕ) (t : SatBox) : Type 0 where
  tore : method_of s ≡ Teardown → is_passed (answered s address draw t).case ≡ true → Fared s address draw t
  lasted : Lasts t (answered s address draw t).did → Fared s address draw t

fared : (s : List ℕ) (address draw : ℕ) (t : SatBox) → Whole t → Fared s address draw t
fared s address draw t w = by (whether_tearing s address draw t)
  where
    by : Tearing s address draw t → Fared s address draw t
    by (tearing e y) = tore e y
    by (not_tearing n) = lasted (answered_lasts s address draw t w n)

-- WHAT ENDS A SESSION
module _ (x : Life) (w : Whole x.satbox) (i : ℕ) (some : is_open (session_at x.satbox i) ≡ true) where
  abbrev owner : ℕ
  owner = first (owns (session_at x.satbox i).stream) x.satbox.sessions

  owner_owns : owns (session_at x.satbox i).stream (session_at x.satbox owner) ≡ true
  owner_owns =
      let id = (session_at x.satbox i).stream in
      let live = seated_live x.satbox.sessions (past_stream ∷ x.satbox.streams) w.formed.seats i (opened (session_at x.satbox i) some) in
      let one : count (owns id) x.satbox.sessions ≡ 1 = w.formed.seats.owners id live in
      first_passes (owns id) x.satbox.sessions no_session (first_some (owns id) x.satbox.sessions (omega arith))

  owner_takes : takes (session_at x.satbox owner) (session_at x.satbox i) ≡ true
  owner_takes =
      let s = session_at x.satbox i in
      let r = session_at x.satbox owner in
      let q : r.stream ≡ s.stream = eqb-true _ _ (and_both (is_open r) _ (and_both (is_on s.stream r) _ owner_owns).0).1 in
      or_right (has_number s.number r) (subst (λ id. owns id r && is_on id s ≡ true) (sym q) (both owner_owns (both some (eq-eqb s.stream s.stream refl))))

  -- by a sweep
  swept_ends : {clock : ℕ} {c : Call} → Sweeps clock c → Ends x.satbox i c ⊎ Stays x.satbox i (sweeping clock x.satbox).satbox
  swept_ends {clock} {c} sweeps = by (case _) (case _)
    where
      by : Case (is_expired (max x.satbox.clock clock) (session_at x.satbox i)) → Case (is_expired (max x.satbox.clock clock) (session_at x.satbox owner)) → Ends x.satbox i c ⊎ Stays x.satbox i (sweeping clock x.satbox).satbox
      by (is y) o = inl (expired i sweeps y (rw (eq-eqb (session_at x.satbox i).number (session_at x.satbox i).number refl)))
      by (isnt y) (is z) = inl (expired owner sweeps z owner_takes)
      by (isnt y) (isnt z) =
          inr (stays_in clock x.satbox w i some y (λ m own. subst (λ k. is_expired (max x.satbox.clock clock) (session_at x.satbox k) ≡ false) (one_owner x.satbox w (session_at x.satbox i).stream owner m owner_owns own) z))

  -- is there still, with its number
  abbrev There : SatBox → Type 0
  There u = (session_at u i).number ≡ (session_at x.satbox i).number

  module _ (s : List ℕ) (clock address draw : ℕ) (b : List ℕ) (l : Lent) (st : Stays x.satbox i (sweeping clock x.satbox).satbox) where
    abbrev v : SatBox
    v = (sweeping clock x.satbox).satbox

    abbrev c : Call
    c = request s clock address draw b l

    torn_ends : method_of s ≡ Teardown → is_passed (answered s address draw v).case ≡ true → Case (takes (session_at v (place_named_by s v)) (session_at v i)) → Ends x.satbox i c ⊎ There (answered s address draw v).did.satbox
    unfolding requested
    torn_ends e y (is z) = inl (torn (in_teardown e y) z)
    torn_ends e y (isnt z) =
        let wv = sweeping_whole clock x.satbox w in
        let d = answered_torn s address draw v wv e y in
        let seat = (closing_took 1 (place_named_by s v) v d.closable wv).seats i in
        inr (ap (λ (x : Did). (session_at x.satbox i).number) d.is ∙ ap (λ (x : Session). x.number) (rw z at seat ∙ st.session))

    answered_ends : Fared s address draw v → Ends x.satbox i c ⊎ There (answered s address draw v).did.satbox
    answered_ends (tore e y) = torn_ends e y (case _)
    answered_ends (lasted k) =
        inr (k.numbers i (rw st.session some) ∙ ap (λ (x : Session). x.number) st.session)

  done_ends : {c : Call} (o : Outcome) (u : SatBox) → Ends x.satbox i c ⊎ There u → (There (if_done o u x.satbox) → ⊥) → Ends x.satbox i c
  done_ends (Ok o) u (inl e) gone = e
  done_ends (Ok o) u (inr e) gone = absurd (gone e)
  done_ends (Err r) u e gone = absurd (gone refl)

  tick_ends : (clock : ℕ) {c : Call} → Ends x.satbox i c ⊎ Stays x.satbox i (sweeping clock x.satbox).satbox → Ends x.satbox i c ⊎ There (sweeping clock x.satbox).satbox
  tick_ends clock (inl e) = inl e
  tick_ends clock (inr e) = inr (ap (λ (x : Session). x.number) e.session)

  request_ends : (s : List ℕ) (clock address draw : ℕ) (b : List ℕ) (l : Lent) → Ends x.satbox i (request s clock address draw b l) ⊎ Stays x.satbox i (sweeping clock x.satbox).satbox
      → Ends x.satbox i (request s clock address draw b l) ⊎ There (requested s clock address draw x.satbox).did.satbox
  unfolding requested
  request_ends s clock address draw b l (inl e) = inl e
  request_ends s clock address draw b l (inr e) =
      answered_ends s clock address draw b l e (fared s address draw (sweeping clock x.satbox).satbox (sweeping_whole clock x.satbox w))

  -- IN A CALL, refused or not
  lived_ends : (c : Call) → (There (lived_as c x).satbox → ⊥) → Ends x.satbox i c
  unfolding emptied
  lived_ends (request s clock address draw b l) gone =
      done_ends (lived_as (request s clock address draw b l) x).outcome (requested s clock address draw x.satbox).did.satbox (request_ends s clock address draw b l (swept_ends in_request)) gone
  lived_ends (tick clock l) gone = done_ends (lived_as (tick clock l) x).outcome (sweeping clock x.satbox).satbox (tick_ends clock (swept_ends in_tick)) gone
  lived_ends (collect b l) gone = done_ends (lived_as (collect b l) x).outcome (emptied x.satbox) (inr refl) gone
  lived_ends (order n) gone = absurd (gone refl)

  pub ends_in : (c : Call) → (There (live c x).satbox → ⊥) → Ends x.satbox i c
  ends_in c gone = lived_ends c (rw (lived c x) at gone)

-- THE RECORDS of a TEARDOWN that is answered 200
pub torn_text : (s : List ℕ) (clock address draw : ℕ) (b : List ℕ) (l : Lent) (x : Life) → Whole x.satbox → (live (request s clock address draw b l) x).outcome ≡ Ok tt
    → method_of s ≡ Teardown → is_passed (requested s clock address draw x.satbox).case ≡ true
    → map unnumbered (live (request s clock address draw b l) x).records
    ≡ sweep_closings (at_clock clock x.satbox) ++ teardown_closings (sweeping clock x.satbox).satbox (place_named_by s (sweeping clock x.satbox).satbox)
unfolding requested
torn_text s clock address draw b l x w done e y =
    let c = request s clock address draw b l in
    let o : request_outcome x.satbox (lent l x.journal) b ≡ Ok tt = sym (ap (λ (z : Life). z.outcome) (lived c x)) ∙ done in
    let v = (sweeping clock x.satbox).satbox in
    let wv = sweeping_whole clock x.satbox w in
    let place = place_named_by s v in
    let d = answered_torn s address draw v wv e y in
    ap (λ (z : Life). map unnumbered z.records) (lived c x)
    ∙ (ap (λ (o : Outcome). map unnumbered (if_done o (requested s clock address draw x.satbox).did.records [])) o
    ∙ (map-append unnumbered (sweeping clock x.satbox).records (answered s address draw v).did.records
    ∙ rw (sweeping_text clock x.satbox w, d.is, (closing_took 1 place v d.closable wv).text)))

-- and of any other call that sweeps
abbrev Opens : SatBox → ℕ → List Record → Type 0
Opens t clock rs = (rest : List Record) × (rs ≡ (sweeping clock t).records ++ rest) × (any says_closed rest ≡ false)

fared_text : (s : List ℕ) (clock address draw : ℕ) (t : SatBox) → (method_of s ≡ Teardown → is_passed (requested s clock address draw t).case ≡ true → ⊥)
    → Fared s address draw (sweeping clock t).satbox → Opens t clock (requested s clock address draw t).did.records
unfolding requested
fared_text s clock address draw t n (tore e y) = absurd (n e y)
fared_text s clock address draw t n (lasted k) = ((answered s address draw (sweeping clock t).satbox).did.records, refl, k.opens)

lived_text : {clock : ℕ} {c : Call} → Sweeps clock c → (x : Life) → Whole x.satbox → (lived_as c x).outcome ≡ Ok tt → (TearsDown x.satbox c → ⊥) → Opens x.satbox clock (lived_as c x).records
lived_text (in_request {s = s} {clock = clock} {address = address} {draw = draw}) x w done n =
    subst (λ (o : Outcome). Opens x.satbox clock (if_done o (requested s clock address draw x.satbox).did.records [])) (sym done)
    (fared_text s clock address draw x.satbox (λ e y. n (in_teardown e y)) (fared s address draw (sweeping clock x.satbox).satbox (sweeping_whole clock x.satbox w)))
lived_text (in_tick {clock = clock}) x w done n =
    subst (λ (o : Outcome). Opens x.satbox clock (if_done o (sweeping clock x.satbox).records [])) (sym done) ([], sym (append-nil (sweeping clock x.satbox).records), refl)

pub else_text : {clock : ℕ} {c : Call} → Sweeps clock c → (x : Life) → Whole x.satbox → (live c x).outcome ≡ Ok tt → (TearsDown x.satbox c → ⊥) → Opens x.satbox clock (live c x).records
else_text {c = c} s x w done n = rw (lived c x) (lived_text s x w (rw (lived c x) at done) n)
