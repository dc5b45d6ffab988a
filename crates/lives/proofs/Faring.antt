-- What becomes of one session in any calls: it stays at its place, and its last time with it unless a request that steps 1 to 10 let through names it; or
-- a record says that it closed. Assumes nothing.
use Rattle.std.specs.Prelude.{Ok, Err}
use mathlib.Core.Path.{◌≡◌, refl, sym, ◌∙◌, ap, subst}
use mathlib.Core.Bool.{Bool, true, false}
use mathlib.Core.List.{List, [], ◌∷◌, ◌++◌}
use mathlib.Core.Logic.{◌⊎◌, inl, inr}
use Prim.Native.Nat.{ℕ, suc, ◌+◌, ◌-◌, ◌≤◌, ◌<◌, max}
use native.Mathlib.Decide.{dec_lt}
use native.Mathlib.Omega.{arith}
use lib.Dec.{ltb}
use lib.ListN.{length, get_or, get_or-eq_default}
use borrow.Author.Tests.{eq-eqb, ne_eqb, eqb-true, ltb-true, lt-ltb, le-ltb, le-leb}
use Rattle.std.specs.Prelude.{None}
use Rattle.scan.specs.Lists.{all}
use Rattle.scan.proofs.Bools.{never, and_both, both, by_cases, Case, is, isnt, case, Same, same, other, sames}
use Rattle.aim.specs.declared.Method.{Method}
use Rattle.aim.specs.declared.Method.TheVariants.{Options, Setup, Play, Teardown, Other}
use Rattle.lines.specs.Lines.{header_lines}
use Rattle.lines.specs.Headers.{values_of}
use Rattle.reader.specs.Fields.{session_of}
use Rattle.refusals.specs.Refusals.{is_read}
use Rattle.refusals.specs.declared.Refusal.TheVariants as refusal
use Rattle.reader.specs.Request.{method_of, request_refusal}
use Rattle.reader.proofs.RequestLaws.{passed_is}
use Rattle.reader.specs.declared.fields.Session.{Session as Sent}
use Rattle.reader.specs.declared.fields.Session.TheVariants.{Absent, Malformed, Named}
use Rattle.journal.specs.declared.Record.{Record}
use Rattle.stream.specs.declared.Stream.{Stream}
use Rattle.table.specs.Table.{any, no_session, has_number, is_free, is_open, session_at, stream_of}
use Rattle.finding.specs.Finding.{lowest_place}
use Rattle.table.specs.declared.Session.{Session}
use Rattle.table.specs.declared.Settings.{Settings}
use Rattle.table.specs.declared.SatBox.{SatBox}
use Rattle.table.specs.Made.{Outcome}
use Rattle.table.proofs.Counts.{first_passes}
use Rattle.table.proofs.Changes.{opened}
use Rattle.steps.specs.Sights.{asked_of, session_number, place_named, sight_of}
use Rattle.steps.specs.Steps.{is_passed}
use Rattle.closings.specs.Closing.{Did, sweeping, at_clock}
use Rattle.serving.specs.Serving.{kept, Serving, answered}
use Rattle.satbox.specs.Calls.{if_done, tick_outcome, ticked, collect_outcome, collected, emptied, request_outcome, requested, replied}
use Rattle.closings.proofs.Keeping.{Whole, clock_whole}
use Rattle.serving.proofs.Kept.{kept_alone}
use Rattle.satbox.proofs.Kept.{sweeping_whole}
use Rattle.promises.proofs.Requests.{answered_by, answered_still}
use Rattle.promises.proofs.Retuning.{Changes}
use Rattle.promises.proofs.Methods.{options_alone, other_alone, play_marks, setup_joins, setup_opens}
use Rattle.promises.proofs.Naming.{names_keeps}
use Rattle.lives.specs.Calls.{lent, Call, request, tick, collect, order, is_call, Life, live, run, records_of}
use Rattle.lives.specs.Closed.{is_closing_of, Fares, remains, closed, place_named_by, KeepsAlive, naming}
use Rattle.lives.proofs.Lived.{lived, lived_as}
use Rattle.lives.proofs.Settings.{sweeping_set, requested_set}
use Rattle.lives.proofs.Holding.{Good}
use Rattle.lives.proofs.Running.{live_good}
use Rattle.lives.proofs.Fates.{Fate, stays, leaves, any_left, any_right, is_closing}
use Rattle.lives.proofs.Departures.{closing_fates}
use Rattle.lives.proofs.Sweeps.{swept_fates}
use Rattle.lives.proofs.Keepers.{any_less}
use Rattle.lives.proofs.Young.{Young, run_young}
use Rattle.lives.proofs.Teardowns.{answered_torn, Tearing, tearing, not_tearing, whether_tearing}

any_more : (p q : Record → Bool) → ((r : Record) → p r ≡ true → q r ≡ true) → (rs : List Record) → any p rs ≡ true → Case (any q rs) → any q rs ≡ true
any_more p q h rs y (is z) = z
any_more p q h rs y (isnt z) = never y (any_less p q h rs z)

closing_closes : (clock frontend n : ℕ) (s : Session) → s.number ≡ n → (r : Record) → is_closing clock frontend s r ≡ true → is_closing_of n r ≡ true
closing_closes clock frontend n s a r z =
    subst (λ m. is_closing_of m r ≡ true) a (and_both (is_closing_of s.number r) _ z).0

-- the session that a header names has its number
named_number : (t : SatBox) → length t.sessions ≡ 32 → (sent : Sent) → place_named sent t < 32 → (session_at t (place_named sent t)).number ≡ session_number sent
named_number t n Absent l = absurd (omega arith)
named_number t n Malformed l = absurd (omega arith)
named_number t n (Named m) l = by (sames m 0) l
  where
    by : Same m 0 → place_named (Named m) t < 32 → (session_at t (place_named (Named m) t)).number ≡ m
    by (same e) l = let z = rw (eq-eqb m 0 e) at l in absurd (omega arith)
    by (other e) l = rw (ne_eqb m 0 e) (eqb-true _ _ (first_passes (has_number m) t.sessions no_session (let z = rw (ne_eqb m 0 e) at l in omega arith)))

-- the clock never falls
done_later : (o : Outcome) {c : ℕ} (t u : SatBox) → c ≤ t.clock → c ≤ u.clock → c ≤ (if_done o u t).clock
done_later (Ok o) t u a b = b
done_later (Err r) t u a b = a

clock_later : {settings : Settings} {c : ℕ} {x : Life} → Good settings x → (k : Call) → c ≤ x.satbox.clock → c ≤ (live k x).satbox.clock
unfolding live replied ticked collected emptied
clock_later {x = x} g (request s clock address draw b l) h =
    done_later (request_outcome x.satbox (lent l x.journal) b) x.satbox (requested s clock address draw x.satbox).did.satbox h (omega (arith, (requested_set s clock address draw x.satbox g.whole).clock))
clock_later {x = x} g (tick clock l) h =
    done_later (tick_outcome x.satbox (lent l x.journal)) x.satbox (sweeping clock x.satbox).satbox h (omega (arith, (sweeping_set clock x.satbox g.whole).clock))
clock_later {x = x} g (collect b l) h = done_later (collect_outcome x.satbox (lent l x.journal) b) x.satbox (emptied x.satbox) h h
clock_later g (order f) h = h

module _ (n i : ℕ) (some : n ≡ 0 → ⊥) (P : ℕ → Type 0) where
  -- a closing and a sweep
  fate_fares : {t : SatBox} {d : Did} {s after : Session} → Fate t d s after → session_at d.satbox i ≡ after → s.number ≡ n → P s.last → Fares n i P d.satbox d.records
  fate_fares (stays e k) q a p = let z = q ∙ e in remains (ap (λ (x : Session). x.number) z ∙ a) (subst (λ (x : Session). P x.last) (sym z) p)
  fate_fares {t} {d} {s} (leaves e k y) q a p =
      closed (any_more _ (is_closing_of n) (closing_closes t.clock (stream_of t s.stream).frontend n s a) d.records y (case _))

  -- a session that is opened or changed at some place
  changes_fares : {t u : SatBox} {place id : ℕ} {s : Session} {m : Stream} → Changes t u place s id m → (session_at t i).number ≡ n → P (session_at t i).last
      → (i ≡ place → (s.number ≡ n) × P s.last) → (rs : List Record) → Same i place → Fares n i P u rs
  changes_fares {u = u} k a p new rs (same e) =
      let z = ap (session_at u) e ∙ k.session in
      remains (ap (λ (x : Session). x.number) z ∙ (new e).0) (subst (λ (x : Session). P x.last) (sym z) (new e).1)
  changes_fares k a p new rs (other e) =
      let z = k.others i e in
      remains (ap (λ (x : Session). x.number) z ∙ a) (subst (λ (x : Session). P x.last) (sym z) p)

  inside : (t : SatBox) → Whole t → (session_at t i).number ≡ n → i < 32
  inside t w a =
      by_cases (dec_lt i 32) (λ h. h)
      (λ h. absurd (some (sym a ∙ ap (λ (x : Session). x.number) (get_or-eq_default t.sessions no_session {n = i} (omega (arith, w.places))))))

  module _ (s : List ℕ) (address draw : ℕ) (t : SatBox) (w : Whole t) (a : (session_at t i).number ≡ n) (p : P (session_at t i).last) where
    -- its place is none that an opening takes
    taken : i ≡ lowest_place t.sessions → ⊥
    taken e =
        let free = first_passes is_free t.sessions no_session (omega (arith, inside t w a, w.places)) in
        some (sym a ∙ (ap (λ k. (session_at t k).number) e ∙ eqb-true _ _ free))

    alone : {u : SatBox} → u ≡ t → (rs : List Record) → Fares n i P u rs
    alone e rs = rw e (remains a p)

    abbrev u : SatBox
    u = (answered s address draw t).did.satbox

    abbrev rs : List Record
    rs = (answered s address draw t).did.records

    at_place : i ≡ place_named_by s t → (session_at t (place_named_by s t)).number ≡ n
    at_place e = subst (λ k. (session_at t k).number ≡ n) e a

    -- ONE THAT IS REFUSED by steps 1 to 10 leaves it
    unread_fares : is_read (request_refusal t.settings.frontends s) ≡ false → Fares n i P u rs
    unread_fares =
        answered_by s address draw t (λ (x : Serving). is_read (request_refusal t.settings.frontends s) ≡ false → Fares n i P x.did.satbox x.did.records)
        (λ e r. never (ap is_read e) r) (λ e r. remains a p)

    module _ (read : request_refusal t.settings.frontends s ≡ None) where
      -- ONE THAT NAMES AN OPEN SESSION keeps it, or is a TEARDOWN that closes it
      teardown_fares : method_of s ≡ Teardown → is_passed (answered s address draw t).case ≡ true → Fares n i P u rs
      teardown_fares m y =
          let torn = answered_torn s address draw t w m y in
          subst (λ (d : Did). Fares n i P d.satbox d.records) (sym torn.is) (fate_fares ((closing_fates 1 (place_named_by s t) t torn.closable).each i) refl a p)

      named_fares : (place_named_by s t ≡ i → P t.clock) → place_named_by s t < 32 → Tearing s address draw t → Fares n i P u rs
      named_fares kept h (tearing m y) = teardown_fares m y
      named_fares kept h (not_tearing f) =
          changes_fares (names_keeps s address draw t w read h f).quietly.changes a p (λ e. (at_place e, kept (sym e))) rs (sames _ _)

      -- ONE THAT NAMES NONE leaves it too
      module _ (none : place_named_by s t < 32 → ⊥) where
        stays_as : u ≡ kept (asked_of t.settings.frontends s) t → Fares n i P u rs
        unfolding sight_of
        stays_as e = alone (e ∙ kept_alone (asked_of t.settings.frontends s) t (le-ltb (place_named_by s t) 32 (omega arith))) rs

        setup_fares : method_of s ≡ Setup → is_passed (answered s address draw t).case ≡ true → Same (asked_of t.settings.frontends s).stream 0 → Fares n i P u rs
        setup_fares m y (same k) = changes_fares (setup_opens s address draw t w y m none k) a p (λ e. absurd (taken e)) rs (sames _ _)
        setup_fares m y (other k) = changes_fares (setup_joins s address draw t w y m none k) a p (λ e. absurd (taken e)) rs (sames _ _)

        stranger_fares : (m : Method) → method_of s ≡ m → is_passed (answered s address draw t).case ≡ true → Fares n i P u rs
        stranger_fares Options e y = alone (options_alone s address draw t w y e none) rs
        stranger_fares Setup e y = setup_fares e y (sames _ _)
        stranger_fares Play e y =
            changes_fares (play_marks s address draw t w y e).changes a p (λ z. absurd (none (omega (arith, z, inside t w a)))) rs (sames _ _)
        stranger_fares Teardown e y = teardown_fares e y
        stranger_fares Other e y = stays_as (other_alone s address draw t w y e)

        refused_fares : is_passed (answered s address draw t).case ≡ false → Fares n i P u rs
        refused_fares y = stays_as (ap (λ (d : Did). d.satbox) (answered_still s address draw t y) ∙ rw read)

    answered_fares : (request_refusal t.settings.frontends s ≡ None → place_named_by s t ≡ i → P t.clock) → Fares n i P u rs
    answered_fares kept = by (case _) (case (ltb (place_named_by s t) 32)) (case _)
      where
        by : Case (is_read (request_refusal t.settings.frontends s)) → Case (ltb (place_named_by s t) 32) → Case (is_passed (answered s address draw t).case) → Fares n i P u rs
        by (isnt r) c d = unread_fares r
        by (is r) (is y) d = let read = passed_is _ r in named_fares read (kept read) (ltb-true _ _ y) (whether_tearing s address draw t)
        by (is r) (isnt z) (is y) = stranger_fares (passed_is _ r) (λ h. never (lt-ltb _ _ h) z) (method_of s) refl y
        by (is r) (isnt z) (isnt y) = refused_fares (passed_is _ r) (λ h. never (lt-ltb _ _ h) z) y

  -- THE CALLS, and any run of them
  more_fares : {t : SatBox} (qs : List Record) {rs : List Record} → Fares n i P t rs → Fares n i P t (qs ++ rs)
  more_fares qs (remains a p) = remains a p
  more_fares qs {rs} (closed y) = closed (any_right (is_closing_of n) qs rs y)

  then_fares : {t u : SatBox} {qs rs : List Record} → Fares n i P t qs → ((session_at t i).number ≡ n → P (session_at t i).last → Fares n i P u rs) → Fares n i P u (qs ++ rs)
  then_fares {qs = qs} (remains a p) f = more_fares qs (f a p)
  then_fares {qs = qs} {rs = rs} (closed y) f = closed (any_left (is_closing_of n) qs rs y)

  done_fares : (o : Outcome) {t u : SatBox} {rs : List Record} → Fares n i P u rs → Fares n i P t [] → Fares n i P (if_done o u t) (if_done o rs [])
  done_fares (Ok o) a b = a
  done_fares (Err r) a b = b

  module _ (t : SatBox) (w : Whole t) (a : (session_at t i).number ≡ n) (p : P (session_at t i).last) where
    swept_fares : (clock : ℕ) → Fares n i P (sweeping clock t).satbox (sweeping clock t).records
    unfolding at_clock
    swept_fares clock = fate_fares ((swept_fates (at_clock clock t) (clock_whole clock t w)).each i) refl a p

    requested_fares : (s : List ℕ) (clock address draw : ℕ)
        → (request_refusal t.settings.frontends s ≡ None → session_number (session_of (values_of 1 (header_lines s))) ≡ n → P (max t.clock clock))
        → Fares n i P (requested s clock address draw t).did.satbox (requested s clock address draw t).did.records
    unfolding requested
    requested_fares s clock address draw kept =
        let v = (sweeping clock t).satbox in
        let u = sweeping_whole clock t w in
        then_fares (swept_fares clock)
        (λ b q. answered_fares s address draw v u b q
        (λ r e.
        let l : place_named_by s v < 32 = omega (arith, inside v u b) in
        let read : request_refusal t.settings.frontends s ≡ None = rw (sweeping_set clock t w).settings at r in
        subst P (sym (sweeping_set clock t w).clock)
        (kept read (sym (named_number v u.places (session_of (values_of 1 (header_lines s))) l) ∙ (ap (λ k. (session_at v k).number) e ∙ b)))))

  -- from a clock c on, at each later clock P holds where a request names it
  module _ (c : ℕ) where
    emptied_fares : (o : Outcome) {t : SatBox} → Fares n i P t [] → Fares n i P (if_done o (emptied t) t) []
    unfolding emptied
    emptied_fares (Ok o) (remains a p) = remains a p
    emptied_fares (Ok o) (closed y) = closed y
    emptied_fares (Err r) f = f

    lived_fares : {settings : Settings} {x : Life} → Good settings x → c ≤ x.satbox.clock → (k : Call) → (KeepsAlive settings.frontends n k → (m : ℕ) → c ≤ m → P m)
        → (session_at x.satbox i).number ≡ n → P (session_at x.satbox i).last → Fares n i P (lived_as k x).satbox (lived_as k x).records
    lived_fares {x = x} g now (request s clock address draw b l) kept a p =
        done_fares (request_outcome x.satbox (lent l x.journal) b)
        (requested_fares x.satbox g.whole a p s clock address draw (λ r e. kept (naming (rw g.set at r) e) _ (omega arith))) (remains a p)
    lived_fares {x = x} g now (tick clock l) kept a p =
        done_fares (tick_outcome x.satbox (lent l x.journal)) (swept_fares x.satbox g.whole a p clock) (remains a p)
    lived_fares {x = x} g now (collect b l) kept a p = emptied_fares (collect_outcome x.satbox (lent l x.journal) b) (remains a p)
    lived_fares g now (order f) kept a p = remains a p

    live_fares : {settings : Settings} {x : Life} → Good settings x → c ≤ x.satbox.clock → (k : Call) → (KeepsAlive settings.frontends n k → (m : ℕ) → c ≤ m → P m)
        → (session_at x.satbox i).number ≡ n → P (session_at x.satbox i).last → Fares n i P (live k x).satbox (live k x).records
    live_fares {x = x} g now k kept a p = rw (lived k x) (lived_fares g now k kept a p)

    abbrev Unkept : ℕ → List Call → Type 0
    Unkept frontends ks = (i : ℕ) → KeepsAlive frontends n (get_or ks i (order 0)) → ⊥

    pub run_fares : {settings : Settings} (ks : List Call) {x : Life} → all (is_call settings.size) ks ≡ true → Good settings x → c ≤ x.satbox.clock
        → ((m : ℕ) → c ≤ m → P m) ⊎ Unkept settings.frontends ks
        → (session_at x.satbox i).number ≡ n → P (session_at x.satbox i).last → Fares n i P (run ks x).satbox (records_of ks x)
    run_fares [] e g now kept a p = remains a p
    run_fares {settings = settings} (k ∷ ks) {x} e g now kept a p =
        let q = and_both (is_call settings.size k) _ e in
        then_fares (live_fares g now k (first_kept kept) a p)
        (λ b r. run_fares ks q.1 (live_good g k q.0) (clock_later g k now) (rest_kept kept) b r)
      where
        first_kept : ((m : ℕ) → c ≤ m → P m) ⊎ Unkept settings.frontends (k ∷ ks) → KeepsAlive settings.frontends n k → (m : ℕ) → c ≤ m → P m
        first_kept (inl f) y = f
        first_kept (inr z) y = absurd (z 0 y)

        rest_kept : ((m : ℕ) → c ≤ m → P m) ⊎ Unkept settings.frontends (k ∷ ks) → ((m : ℕ) → c ≤ m → P m) ⊎ Unkept settings.frontends ks
        rest_kept (inl f) = inl f
        rest_kept (inr z) = inr (λ i. z (suc i))

-- WHOM NOTHING KEEPS keeps its last time; and once the clock is 60 later, a record says that it closed: nothing that is open has expired
module _ {settings : Settings} {x : Life} (g : Good settings x) (young : Young x.satbox.clock x.satbox) (i : ℕ) (some : is_open (session_at x.satbox i) ≡ true)
    (ds : List Call) (calls : all (is_call settings.size) ds ≡ true) (unkept : (k : ℕ) → KeepsAlive settings.frontends (session_at x.satbox i).number (get_or ds k (order 0)) → ⊥) where
  abbrev old : Session
  old = session_at x.satbox i

  pub unkept_fares : Fares old.number i (λ last. last ≡ old.last) (run ds x).satbox (records_of ds x)
  unkept_fares = run_fares old.number i (opened old some) (λ last. last ≡ old.last) 0 ds calls g (omega arith) (inr unkept) refl refl

  pub unkept_closed : old.last + 60 ≤ (run ds x).satbox.clock → any (is_closing_of old.number) (records_of ds x) ≡ true
  unkept_closed late = by unkept_fares
    where
      by : Fares old.number i (λ last. last ≡ old.last) (run ds x).satbox (records_of ds x) → any (is_closing_of old.number) (records_of ds x) ≡ true
      by (closed y) = y
      by (remains e f) =
          let s = session_at (run ds x).satbox i in
          let there : is_open s ≡ true = rw e some in
          never (both there (le-leb 60 ((run ds x).satbox.clock - s.last) (omega arith))) (run_young ds calls g young i)
