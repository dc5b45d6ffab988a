-- A session that was heard of at a clock is not closed for its age until 60 later: no call lowers a last time, and a time-out's record is written only
-- of who has expired at its clock. Assumes nothing.
use Rattle.std.specs.Prelude.{Ok, Err}
use mathlib.Core.Path.{◌≡◌, refl, sym, ◌∙◌, ap, subst}
use mathlib.Core.Bool.{Bool, true, false, not, ◌&&◌, ◌||◌}
use mathlib.Core.List.{List, [], ◌∷◌}
use mathlib.Core.Logic.{inl}
use Prim.Native.Nat.{ℕ, zero, suc, ◌+◌, ◌-◌, ◌≤◌, ◌<◌, max}
use lib.ListN.{length, get_or, set}
use lib.Seq.{get_or-set_other}
use native.Mathlib.Omega.{arith}
use lib.Dec.{eqb, leb}
use borrow.Author.Tests.{eq-eqb, ne_eqb, eqb-true, leb-true, le-leb, lt-ltb}
use Rattle.std.specs.Prelude.{None}
use Rattle.scan.specs.Lists.{all}
use Rattle.scan.proofs.Bools.{never, and_both, Case, is, isnt, case, Same, same, other, sames, cond_keeps}
use Rattle.aim.specs.declared.Method.TheVariants.{Teardown}
use Rattle.refusals.specs.declared.Refusal.TheVariants as refusal
use Rattle.reader.specs.Request.{method_of, request_refusal}
use Rattle.journal.specs.declared.Record.{Record}
use Rattle.stream.specs.declared.Stream.{Stream}
use Rattle.table.specs.Table.{count, no_session, has_number, is_open, session_at, is_on}
use Rattle.finding.specs.Finding.{lowest_place, lowest_id}
use Rattle.table.specs.declared.Session.{Session}
use Rattle.table.specs.declared.Settings.{Settings}
use Rattle.table.specs.declared.SatBox.{SatBox}
use Rattle.table.specs.Made.{Outcome}
use Rattle.table.proofs.Counts.{bit_no, bit_yes, count_set, count_zero_at, get_or_set_all}
use Rattle.steps.specs.Sights.{asked_of, sight_of}
use Rattle.steps.specs.Steps.{is_passed}
use Rattle.closings.specs.Closing.{Did, nothing, then, restreamed, reseated, noting, record_of, closing, is_expired, sweep_at, swept, sweeping, at_clock}
use Rattle.closings.specs.Does.{Closable}
use Rattle.serving.specs.Serving.{guest, seating_as as seated, can_join, joining, can_open, opening}
use Rattle.serving.specs.Serving.{with_session, answered}
use Rattle.satbox.specs.Calls.{if_done, tick_outcome, ticked, collect_outcome, collected, emptied, request_outcome, requested, replied}
use Rattle.serving.specs.declared.opening.Client.{Client}
use Rattle.closings.proofs.Closings.{closable}
use Rattle.closings.proofs.Keeping.{Whole, whole_roomy, clock_whole, sweep_at_whole}
use Rattle.journal.specs.Records.{next_sequence}
use Rattle.closings.proofs.Leaving.{leaving, joiner_records, owner_records}
use Rattle.closings.proofs.Runs.{upto_holds}
use Rattle.satbox.proofs.Kept.{sweeping_whole}
use Rattle.serving.proofs.Passing.{named_closable}
use Rattle.promises.proofs.Retuning.{Changes, but}
use Rattle.promises.proofs.Naming.{Keeps, names_keeps}
use Rattle.lives.specs.Calls.{Lent, lent, Call, request, tick, collect, order, is_call, Life, live, run, records_of}
use Rattle.lives.specs.Closed.{is_time_out, Fares, place_named_by, TearsDown, in_teardown}
use Rattle.lives.proofs.Lived.{lived, lived_as}
use Rattle.lives.proofs.Requests.{Kin, Retuned, retuned_same, answered_holds}
use Rattle.lives.proofs.Settings.{sweeping_set, requested_set}
use Rattle.lives.proofs.Fitting.{all_both}
use Rattle.lives.proofs.Holding.{Good}
use Rattle.lives.proofs.Running.{live_good}
use Rattle.lives.proofs.Faring.{run_fares}
use Rattle.lives.proofs.Fates.{Fate, stays, leaves}
use Rattle.lives.proofs.Departures.{closing_fates}
use Rattle.lives.proofs.Teardowns.{Tearing, tearing, not_tearing, whether_tearing, answered_torn, torn_closed}

-- whoever has the number n was heard of at c or later
abbrev pub Heard : ℕ → ℕ → SatBox → Type 0
Heard n c t = (i : ℕ) → (session_at t i).number ≡ n → c ≤ (session_at t i).last

-- r is no time-out of it, or none before c + 60
abbrev pub is_late : ℕ → ℕ → Record → Bool
is_late n c r = not (is_time_out n r) || leb (c + 60) r.clock

-- both, of an operation; it keeps the clock
pub record Aged (n c : ℕ) (t : SatBox) (d : Did) : Type 0 where
  pub clock : d.satbox.clock ≡ t.clock
  pub heard : Heard n c d.satbox
  pub late : all (is_late n c) d.records ≡ true

-- and after a call, of the table and the records of it
pub record Hears (n c : ℕ) (t : SatBox) (rs : List Record) : Type 0 where
  pub now : c ≤ t.clock
  pub heard : Heard n c t
  pub late : all (is_late n c) rs ≡ true

module _ (n c : ℕ) (some : n ≡ 0 → ⊥) where
  abbrev Ages : SatBox → Did → Type 0
  Ages t d = Heard n c t → Aged n c t d

  ages_nothing : (t : SatBox) → Ages t (nothing t)
  ages_nothing t h = record { clock = refl; heard = h; late = refl }

  ages_then : (t : SatBox) (d : Did) (f : SatBox → Did) → Ages t d → Ages d.satbox (f d.satbox) → Ages t (then d f)
  ages_then t d f p q h =
      let a = p h in
      let b = q a.heard in
      record { clock = b.clock ∙ a.clock; heard = b.heard; late = all_both (is_late n c) d.records (f d.satbox).records a.late b.late }

  -- A CLOSING: those who leave with an owner have cause 3
  leaving_late : (clock : ℕ) (ms : List Stream) (id q : ℕ) (l : List Session) → all (is_late n c) (leaving clock ms id q l) ≡ true
  leaving_late clock ms id q [] = refl
  leaving_late clock ms id q (s ∷ l) =
      cond_keeps (λ rs. all (is_late n c) rs ≡ true) (is_on id s) _ _ (λ e. leaving_late clock ms id (next_sequence q) l) (λ e. leaving_late clock ms id q l)

  heard_after : {t : SatBox} {d : Did} (s after : Session) → (s.number ≡ n → c ≤ s.last) → Fate t d s after → after.number ≡ n → c ≤ after.last
  heard_after s after h (stays e k) z = subst (λ (x : Session). x.number ≡ n → c ≤ x.last) (sym e) h z
  heard_after s after h (leaves e q k) z = absurd (some (sym z ∙ ap (λ (x : Session). x.number) e))

  module _ (cause i : ℕ) (t : SatBox) (w : Whole t) (due : cause ≡ 2 → (session_at t i).number ≡ n → c + 60 ≤ t.clock) where
    own_late : Case (eqb cause 2 && eqb (session_at t i).number n) → is_late n c (record_of 3 cause (session_at t i) t) ≡ true
    own_late (isnt z) = rw z
    own_late (is y) =
        let p = and_both (eqb cause 2) _ y in
        rw (y, le-leb (c + 60) t.clock (due (eqb-true _ _ p.0) (eqb-true _ _ p.1)))

    closing_late : Same (session_at t i).owner 0 → all (is_late n c) (closing cause i t).records ≡ true
    closing_late (same own) = rw (joiner_records cause i t own, own_late (case _))
    closing_late (other own) = rw (owner_records cause i t own w.places, own_late (case _)) (leaving_late t.clock t.streams (session_at t i).stream _ (set t.sessions i no_session))

    closing_ages : Closable t i → Ages t (closing cause i t)
    closing_ages k h =
        let f = closing_fates cause i t k in
        record { clock = f.clock; heard = λ j. heard_after (session_at t j) _ (h j) (f.each j); late = closing_late (sames _ _) }

  -- A SWEEP: who is closed for its age is 60 old
  sweep_at_ages : (i : ℕ) (t : SatBox) → i < 32 → Whole t → Ages t (sweep_at i t)
  unfolding sweep_at
  sweep_at_ages i t l w =
      cond_keeps (Ages t) (is_expired t.clock (session_at t i)) (closing 2 i t) (nothing t)
      (λ y h.
      closing_ages 2 i t w (λ z e. omega (arith, h i e, leb-true 60 (t.clock - (session_at t i).last) (and_both (is_open (session_at t i)) _ y).1)) (closable t i _ l (whole_roomy t w) y) h)
      (λ y. ages_nothing t)

  swept_ages : (t : SatBox) → Whole t → Ages t (swept t)
  unfolding swept
  swept_ages t w = upto_holds Whole Ages ages_nothing ages_then sweep_at 32 sweep_at_whole sweep_at_ages t w 32 (omega arith)

  -- AN OPENING, and a session changed in its place
  module _ (t : SatBox) (w : Whole t) (now : c ≤ t.clock) where
    set_heard : (place : ℕ) (s : Session) → (s.number ≡ n → c ≤ s.last) → Heard n c t → (i : ℕ) → (get_or (set t.sessions place s) i no_session).number ≡ n → c ≤ (get_or (set t.sessions place s) i no_session).last
    set_heard place s new h i = get_or_set_all (λ (x : Session). x.number ≡ n → c ≤ x.last) t.sessions place i s no_session new (h i)

    joining_ages : (id : ℕ) (client : Client) → Ages t (joining id client t)
    unfolding joining seated noting reseated
    joining_ages id client =
        let s = guest 0 id client t in
        cond_keeps (Ages t) (can_join id t) (seated 2 s t) (nothing t)
        (λ e h. record { clock = refl; heard = set_heard (lowest_place t.sessions) s (λ z. now) h; late = refl }) (λ e. ages_nothing t)

    opening_ages : (m : Stream) (client : Client) → Ages t (opening m client t)
    unfolding opening seated noting reseated restreamed
    opening_ages m client =
        let id = lowest_id t.streams in
        let s = guest 1 id client t in
        cond_keeps (Ages t) (can_open m.values.src m.frontend t) (seated 1 s (restreamed id m t)) (nothing t)
        (λ e h. record { clock = refl; heard = set_heard (lowest_place t.sessions) s (λ z. now) h; late = refl }) (λ e. ages_nothing t)

    changed_ages : (place : ℕ) (s : Session) → Kin t.clock s (session_at t place) → (u : SatBox) → Retuned t u → Ages t (nothing (with_session place s u))
    unfolding with_session
    changed_ages place s k u r h =
        record {
          clock = (retuned_same r).1;
          heard = rw (retuned_same r).0 (set_heard place s (λ z. rw k.last now) h);
          late = refl;
        }

    answered_ages : (s : List ℕ) (address draw : ℕ) → Ages t (answered s address draw t).did
    answered_ages s address draw =
        answered_holds s address draw t w (Ages t)
        (record {
          still = ages_nothing t;
          changed = changed_ages;
          joined = λ id client e. joining_ages id client;
          opened = λ m client e. opening_ages m client;
          closed = λ tears passed place k. closing_ages 1 place t w (λ z. absurd (omega arith)) k;
        })

  -- THE CALLS, and any run of them
  swept_hears : (clock : ℕ) (t : SatBox) → Whole t → c ≤ t.clock → Heard n c t → Hears n c (sweeping clock t).satbox (sweeping clock t).records
  unfolding at_clock
  swept_hears clock t w now h =
      let a = swept_ages (at_clock clock t) (clock_whole clock t w) h in
      record { now = omega (arith, (sweeping_set clock t w).clock); heard = a.heard; late = a.late }

  requested_hears : (s : List ℕ) (clock address draw : ℕ) (t : SatBox) → Whole t → c ≤ t.clock → Heard n c t
      → Hears n c (requested s clock address draw t).did.satbox (requested s clock address draw t).did.records
  unfolding requested
  requested_hears s clock address draw t w now h =
      let u = (sweeping clock t).satbox in
      let a = swept_hears clock t w now h in
      let b = answered_ages u (sweeping_whole clock t w) a.now s address draw a.heard in
      record {
        now = omega (arith, b.clock, a.now);
        heard = b.heard;
        late = all_both (is_late n c) (sweeping clock t).records (answered s address draw u).did.records a.late b.late;
      }

  done_hears : (o : Outcome) {t u : SatBox} {rs : List Record} → Hears n c u rs → Hears n c t [] → Hears n c (if_done o u t) (if_done o rs [])
  done_hears (Ok o) a b = a
  done_hears (Err r) a b = b

  emptied_hears : (o : Outcome) {t : SatBox} → Hears n c t [] → Hears n c (if_done o (emptied t) t) []
  unfolding emptied
  emptied_hears (Ok o) a = record { now = a.now; heard = a.heard; late = refl }
  emptied_hears (Err r) a = a

  lived_hears : {settings : Settings} {x : Life} → Good settings x → (k : Call) → c ≤ x.satbox.clock → Heard n c x.satbox → Hears n c (lived_as k x).satbox (lived_as k x).records
  lived_hears {x = x} g (request s clock address draw b l) now h =
      done_hears (request_outcome x.satbox (lent l x.journal) b) (requested_hears s clock address draw x.satbox g.whole now h) (record { now = now; heard = h; late = refl })
  lived_hears {x = x} g (tick clock l) now h =
      done_hears (tick_outcome x.satbox (lent l x.journal)) (swept_hears clock x.satbox g.whole now h) (record { now = now; heard = h; late = refl })
  lived_hears {x = x} g (collect b l) now h = emptied_hears (collect_outcome x.satbox (lent l x.journal) b) (record { now = now; heard = h; late = refl })
  lived_hears g (order k) now h = record { now = now; heard = h; late = refl }

  live_hears : {settings : Settings} {x : Life} → Good settings x → (k : Call) → c ≤ x.satbox.clock → Heard n c x.satbox → Hears n c (live k x).satbox (live k x).records
  live_hears {x = x} g k now h = rw (lived k x) (lived_hears g k now h)

  run_hears : {settings : Settings} (ks : List Call) {x : Life} → all (is_call settings.size) ks ≡ true → Good settings x → c ≤ x.satbox.clock → Heard n c x.satbox → Hears n c (run ks x).satbox (records_of ks x)
  run_hears [] e g now h = record { now = now; heard = h; late = refl }
  run_hears {settings = settings} (k ∷ ks) {x} e g now h =
      let p = and_both (is_call settings.size k) _ e in
      let a = live_hears g k now h in
      let b = run_hears ks p.1 (live_good g k p.0) a.now a.heard in
      record {
        now = b.now;
        heard = b.heard;
        late = all_both (is_late n c) (live k x).records (records_of ks (live k x)) a.late b.late;
      }

-- A REQUEST THAT NAMES AN OPEN SESSION: it has been heard of at the clock, and no other session has its number
once : (t : SatBox) → Whole t → (i k : ℕ) → i < 32 → ((session_at t i).number ≡ 0 → ⊥) → (k ≡ i → ⊥) → (session_at t k).number ≡ (session_at t i).number → ⊥
once t w i k l some away e =
    let n = (session_at t i).number in
    let less = count_set (has_number n) t.sessions i no_session no_session (omega (arith, w.places)) in
    let none : count (has_number n) (set t.sessions i no_session) ≡ 0 =
    omega (arith, less, w.formed.seats.numbers n some, bit_yes (eq-eqb n n refl), bit_no (ne_eqb 0 n (λ z. some (sym z)))) in
    never (eq-eqb (session_at t k).number n e)
    (subst (λ (x : Session). has_number n x ≡ false) (get_or-set_other t.sessions i k no_session no_session away)
    (count_zero_at (has_number n) (set t.sessions i no_session) k no_session (ne_eqb 0 n (λ z. some (sym z))) none))

refreshed_heard : {t u : SatBox} {place id clock port plays : ℕ} {m : Stream} → Whole t → place < 32 → ((session_at t place).number ≡ 0 → ⊥)
    → Changes t u place (but clock port plays (session_at t place)) id m → (i : ℕ) → Same i place → (session_at u i).number ≡ (session_at t place).number → clock ≤ (session_at u i).last
refreshed_heard w l some k i (same e) z = rw (e, k.session) (omega arith)
refreshed_heard {t} {u} {place} w l some k i (other e) z =
    absurd (once t w place i l some e (ap (λ (x : Session). x.number) (sym (k.others i e)) ∙ z))

-- what the records then say
late_at : (n c : ℕ) (rs : List Record) → all (is_late n c) rs ≡ true → (i : ℕ) (past : Record) → i < length rs → is_time_out n (get_or rs i past) ≡ true → c + 60 ≤ (get_or rs i past).clock
late_at n c [] e i past l y = absurd (omega arith)
late_at n c (r ∷ rs) e zero past l y = leb-true _ _ (rw y at (and_both (is_late n c r) _ e).0)
late_at n c (r ∷ rs) e (suc i) past l y = late_at n c rs (and_both (is_late n c r) _ e).1 i past (omega arith) y

pub hears_late : {n c : ℕ} {t : SatBox} {rs : List Record} → Hears n c t rs → (i : ℕ) (past : Record) → i < length rs → is_time_out n (get_or rs i past) ≡ true → c + 60 ≤ (get_or rs i past).clock
hears_late {n} {c} {t} {rs} p = late_at n c rs p.late

module _ {settings : Settings} {x : Life} (g : Good settings x) (s : List ℕ) (clock address draw : ℕ) (b : List ℕ) (l : Lent) where
  abbrev v : SatBox
  v = (sweeping clock x.satbox).satbox

  abbrev kept : Session
  kept = session_at v (place_named_by s v)

  abbrev c : Call
  c = request s clock address draw b l

  module _ (done : (live c x).outcome ≡ Ok tt) (read : request_refusal settings.frontends s ≡ None) (named : place_named_by s v < 32) where
    w : Whole v
    w = sweeping_whole clock x.satbox g.whole

    -- read by the box's own frontends
    read_there : request_refusal v.settings.frontends s ≡ None
    read_there = rw ((sweeping_set clock x.satbox g.whole).settings, g.set) read

    some : kept.number ≡ 0 → ⊥
    unfolding sight_of
    some = let a = asked_of v.settings.frontends s in (named_closable v w a (sight_of v a) refl (lt-ltb (place_named_by s v) 32 named)).some

    keeps : (method_of s ≡ Teardown → is_passed (answered s address draw v).case ≡ true → ⊥) → Keeps v (answered s address draw v).did.satbox (place_named_by s v)
    keeps = names_keeps s address draw v w read_there named

    after_is : (live c x).satbox ≡ (answered s address draw v).did.satbox
    unfolding requested
    after_is =
        let o = request_outcome x.satbox (lent l x.journal) b in
        let d : o ≡ Ok tt = sym (ap (λ (y : Life). y.outcome) (lived c x)) ∙ done in
        rw (lived c x, d)

    -- by the clock used
    now_is : v.clock ≡ max x.satbox.clock clock
    now_is = (sweeping_set clock x.satbox g.whole).clock

    now : max x.satbox.clock clock ≤ (live c x).satbox.clock
    unfolding requested
    now = rw (after_is, (requested_set s clock address draw x.satbox g.whole).clock) (omega arith)

    -- after it whoever has the number was heard of: it is kept, or closed
    torn_heard : method_of s ≡ Teardown → is_passed (answered s address draw v).case ≡ true → Heard kept.number v.clock (answered s address draw v).did.satbox
    torn_heard m y i z = by (sames i (place_named_by s v)) fate
      where
        after : Did
        after = (answered s address draw v).did

        fate : Fate v after (session_at v i) (session_at after.satbox i)
        fate =
            let torn = answered_torn s address draw v w m y in
            subst (λ (d : Did). Fate v d (session_at v i) (session_at d.satbox i)) (sym torn.is) ((closing_fates 1 (place_named_by s v) v torn.closable).each i)

        by : Same i (place_named_by s v) → Fate v after (session_at v i) (session_at after.satbox i) → v.clock ≤ (session_at after.satbox i).last
        by (same e) f = absurd (some (sym z ∙ ap (λ k. (session_at after.satbox k).number) e ∙ ap (λ (r : Session). r.number) (torn_closed s address draw v w m y).free))
        by (other e) (stays q k) = absurd (once v w (place_named_by s v) i named some e (ap (λ (r : Session). r.number) (sym q) ∙ z))
        by (other e) (leaves q k l) = absurd (some (sym z ∙ ap (λ (r : Session). r.number) q))

    heard_there : Tearing s address draw v → Heard kept.number v.clock (answered s address draw v).did.satbox
    heard_there (tearing m y) = torn_heard m y
    heard_there (not_tearing f) = λ i. refreshed_heard w named some (keeps f).quietly.changes i (sames _ _)

    module _ (ds : List Call) (e : all (is_call settings.size) (c ∷ ds) ≡ true) where
      pub kept_hears : Hears kept.number (max x.satbox.clock clock) (run ds (live c x)).satbox (records_of ds (live c x))
      unfolding live
      kept_hears =
          let p = and_both (is_call settings.size c) _ e in
          run_hears kept.number (max x.satbox.clock clock) some ds p.1 (live_good g c p.0) now (rw (after_is, ← now_is) (heard_there (whether_tearing s address draw v)))

      pub kept_fares : (TearsDown x.satbox c → ⊥) → Fares kept.number (place_named_by s v) (λ last. max x.satbox.clock clock ≤ last) (run ds (live c x)).satbox (records_of ds (live c x))
      unfolding live requested
      kept_fares untorn =
          let p = and_both (is_call settings.size c) _ e in
          let k = (keeps (λ m y. untorn (in_teardown m y))).quietly.changes.session in
          run_fares kept.number (place_named_by s v) some (λ last. max x.satbox.clock clock ≤ last) (max x.satbox.clock clock) ds p.1 (live_good g c p.0) now (inl (λ m h. h))
          (rw (after_is, k)) (rw (after_is, k, now_is) (omega arith))
