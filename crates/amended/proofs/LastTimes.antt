-- ORDER 3: every request that passes step 11 and names an open session sets the last time of that session, and of no other, to the clock used, also if
-- a later step refuses it; refused at steps 1 to 11 it sets nothing. AS BEFORE: but for last times every request does what it did (`Unchanged`), and
-- one that names no session, and an OPTIONS, does it whole. Assumes nothing.
use mathlib.Core.Path.{◌≡◌, refl, sym, ◌∙◌, ap, subst}
use mathlib.Core.Bool.{Bool, true, false, cond, ◌||◌}
use mathlib.Core.List.{List, [], ◌∷◌, map}
use Prim.Native.Nat.{ℕ, zero, suc, ◌<◌}
use native.Mathlib.Omega.{arith}
use lib.Dec.{ltb}
use lib.ListN.{get_or, set}
use lib.Seq.{get_or-set_other, map-set_same, set-set}
use borrow.Author.Tests.{eqb-true, lt-ltb, le-ltb, ltb-true}
use Rattle.std.specs.Prelude.{None, Option, Some}
use Rattle.scan.proofs.Bools.{never, Case as Test, is, isnt, case, Same, same, other, sames}
use Rattle.refusals.specs.Refusals as reading
use Rattle.refusals.specs.declared.Refusal.{Refusal}
use Rattle.refusals.specs.declared.Refusal.TheVariants as refusal
use Rattle.aim.specs.declared.Method.{Method}
use Rattle.aim.specs.declared.Method.TheVariants.{Options, Setup, Play, Teardown, Other}
use Rattle.reader.specs.Request.{method_of, request_refusal}
use Rattle.reader.proofs.RequestLaws.{passed_is}
use Rattle.stream.specs.declared.Stream.{Stream}
use Rattle.table.specs.Table.{no_session, is_free, is_on, session_at, box_with, session_with}
use Rattle.table.specs.declared.Session.{Session}
use Rattle.table.specs.declared.SatBox.{SatBox}
use Rattle.finding.specs.Finding.{lowest_place}
use Rattle.closings.specs.Closing.{Did, nothing, restreamed, sweeping}
use Rattle.closings.proofs.Keeping.{Whole}
use Rattle.steps.specs.Sights.{Asked, Lists, asked_of, lists_of, is_absent, place_named, port_of, sight_of}
use Rattle.steps.specs.Steps.{rule_of, is_passed, is_setup, is_named, table_case, read_case}
use Rattle.steps.specs.Replies.{reply_text}
use Rattle.steps.specs.declared.cases.Case.{Case}
use Rattle.steps.specs.declared.cases.Case.TheVariants.{NoSession}
use Rattle.serving.specs.Serving.{stream_after, merges, case_of, with_session, kept, seat_after, Serving, granted, retuned, retuning, grant, denied, served, client_of, answered}
use Rattle.serving.specs.declared.opening.Client.{Client}
use Rattle.serving.proofs.Kept.{seat, since, kept_by, kept_named, kept_alone, kept_place}
use Rattle.promises.proofs.Requests.{answered_by, left, answered_still}
use Rattle.promises.proofs.Keeps.{kept_session, merges_kept, after_kept, case_kept, answered_case, seated_below}
use Rattle.promises.proofs.Granting.{options_passes}
use Rattle.promises.proofs.Retuning.{but}
use Rattle.promises.proofs.Methods.{options_refreshes, options_alone, other_alone, setup_replaces, play_marks, setup_joins, setup_opens, teardown_leaves, teardown_empties}
use Rattle.promises.proofs.Naming.{names_keeps}
use Rattle.amended.proofs.Eleven.{case_late}

-- A REQUEST "PASSES STEP 11": no step refuses it, or a later one does
abbrev pub passes_eleven : Option Case → Bool
passes_eleven None = true
passes_eleven (Some c) = ltb 11 (rule_of c).0

-- a Session header that names no open session is refused at step 11
eleven_refuses : (t : SatBox) (a : Asked) (l : Lists) → is_named (sight_of t a) ≡ false → is_absent a.session ≡ false → case_of t a l ≡ Some NoSession
unfolding case_of table_case sight_of
eleven_refuses t a l n sent = rw (n, sent)

-- what is refused there does not pass
unpassed : (c : Option Case) → passes_eleven c ≡ false → is_passed c ≡ false
unpassed None n = never refl n
unpassed (Some c) n = refl

-- steps 1 to 10 come before
early : (r : Option Refusal) → reading.is_read r ≡ false → passes_eleven (read_case r) ≡ false
early None n = never refl n
early (Some refusal.Layout) n = refl
early (Some refusal.CSeq) n = refl
early (Some refusal.RequestLine) n = refl
early (Some refusal.HeaderTwice) n = refl
early (Some refusal.Version) n = refl
early (Some refusal.Require) n = refl
early (Some refusal.Method) n = refl
early (Some refusal.UriLong) n = refl
early (Some refusal.UriForm) n = refl
early (Some refusal.QueryUntaken) n = refl
early (Some refusal.QueryForm) n = refl
early (Some refusal.PidsClash) n = refl
early (Some refusal.PidsUnstreamed) n = refl
early (Some refusal.Value) n = refl
early (Some refusal.NoStream) n = refl

-- the session itself, with the clock for its last time: its number, its client's address, its stream and its part are as they were
pub record LastAt (clock : ℕ) (old now : Session) : Type 0 where
  pub last : now.last ≡ clock
  pub number : now.number ≡ old.number
  pub address : now.address ≡ old.address
  pub stream : now.stream ≡ old.stream
  pub owner : now.owner ≡ old.owner

-- the place that an opening takes is free
free_there : (l : List Session) → (get_or l (lowest_place l) no_session).number ≡ 0
free_there [] = refl
free_there (x ∷ l) = by (case (is_free x)) (free_there l)
  where
    by : Test (is_free x) → (get_or l (lowest_place l) no_session).number ≡ 0 → (get_or (x ∷ l) (lowest_place (x ∷ l)) no_session).number ≡ 0
    by (is y) h = rw y (eqb-true _ _ y)
    by (isnt n) h = rw n h

-- ANY REQUEST, of any bytes s, on a table t that was swept: what it asks, the place of the open session that it names, past all places where it
-- names none, and what is there; what is done, and the table after
module _ (s : List ℕ) (address draw : ℕ) (t : SatBox) where
  abbrev pub asked : Asked
  asked = asked_of t.settings.frontends s

  abbrev pub place : ℕ
  place = place_named asked.session t

  abbrev pub old : Session
  old = session_at t place

  abbrev pub done : Serving
  done = answered s address draw t

  abbrev pub after : SatBox
  after = done.did.satbox

  -- "PASSES STEP 11 AND NAMES AN OPEN SESSION"
  pub record Names : Type 0 where
    pub passes : passes_eleven done.case ≡ true
    pub named : place < 32

  was_read : passes_eleven done.case ≡ true → request_refusal t.settings.frontends s ≡ None
  was_read =
      answered_by s address draw t (λ x. passes_eleven x.case ≡ true → request_refusal t.settings.frontends s ≡ None)
      (λ e y. e) (λ n y. never y (early (request_refusal t.settings.frontends s) n))

  is_named_law : place < 32 → is_named (sight_of t asked) ≡ true
  unfolding sight_of
  is_named_law h = lt-ltb place 32 h

  unnamed_place : is_named (sight_of t asked) ≡ false → place < 32 → ⊥
  unnamed_place n h = never (is_named_law h) n

  -- STEP 11 refuses none that names an open session: all do that steps 1 to 10 let through with its number
  pub eleven_passes : request_refusal t.settings.frontends s ≡ None → place < 32 → Names
  eleven_passes read h =
      record { passes = rw (answered_case s address draw t read) (case_late t asked (lists_of s) (is_named_law h)); named = h }

  -- and with a Session header none passes it that names no open session
  pub header_names : passes_eleven done.case ≡ true → is_absent asked.session ≡ false → place < 32
  header_names y sent = by (case (is_named (sight_of t asked)))
    where
      by : Test (is_named (sight_of t asked)) → place < 32
      by (is z) = seated_below asked t z
      by (isnt n) = never y (ap passes_eleven (answered_case s address draw t (was_read y) ∙ eleven_refuses t asked (lists_of s) n sent))

  -- "REFUSED AT STEPS 1 TO 11 IT SETS NOTHING": the table is as it was, and no record is written
  pub early_sets_nothing : passes_eleven done.case ≡ false → done.did ≡ nothing t
  early_sets_nothing n = by (case (is_named (sight_of t asked))) (case (reading.is_read (request_refusal t.settings.frontends s)))
    where
      by : Test (is_named (sight_of t asked)) → Test (reading.is_read (request_refusal t.settings.frontends s)) → done.did ≡ nothing t
      by d (isnt m) = answered_still s address draw t (unpassed done.case n) ∙ rw m
      by (isnt m) (is y) = answered_still s address draw t (unpassed done.case n) ∙ rw (y, kept_alone asked t m)
      by (is z) (is y) =
          let p : passes_eleven done.case ≡ true = rw (answered_case s address draw t (passed_is _ y)) (case_late t asked (lists_of s) z) in
          never p n

  -- REFUSED LATER it sets the last time of the session that it names, and this field alone: no port, nothing of playing, no stream, no record
  pub refused_sets_it_alone : is_passed done.case ≡ false → Names → done.did ≡ nothing (with_session place (but t.clock old.port old.playing old) t)
  refused_sets_it_alone n h = answered_still s address draw t n ∙ rw (was_read h.passes, kept_named asked t h.named)

  -- "SETS ITS LAST TIME", whatever its method and its status: but for a TEARDOWN that is answered 200, which closes it
  pub sets_the_last_time : Names → Whole t → (method_of s ≡ Teardown → is_passed done.case ≡ true → ⊥) → LastAt t.clock old (session_at after place)
  sets_the_last_time h w stays = last_at (names_keeps s address draw t w (was_read h.passes) h.named stays).quietly.changes.session
    where
      last_at : {clock port playing : ℕ} {old now : Session} → now ≡ but clock port playing old → LastAt clock old now
      last_at e = record { last = rw e; number = rw e; address = rw e; stream = rw e; owner = rw e }

  -- NO OTHER IS KEPT, not the owner of the stream either: every other session that is open before and after is as it was
  pub no_other_is_kept : Whole t → (i : ℕ) → (i ≡ place → ⊥) → ((session_at t i).number ≡ 0 → ⊥) → ((session_at after i).number ≡ 0 → ⊥) → session_at after i ≡ session_at t i
  unfolding with_session
  no_other_is_kept w i away was still = by (case (is_passed done.case)) (method_of s) refl (case (is_named (sight_of t asked)))
    where
      kept_other : Test (is_named (sight_of t asked)) → session_at (kept asked t) i ≡ session_at t i
      kept_other (is z) = rw (kept_named asked t (seated_below asked t z)) (get_or-set_other t.sessions place i _ no_session away)
      kept_other (isnt m) = rw (kept_alone asked t m)

      left_other : Test (reading.is_read (request_refusal t.settings.frontends s)) → Test (is_named (sight_of t asked)) → session_at (left s t) i ≡ session_at t i
      left_other (is z) c = rw z (kept_other c)
      left_other (isnt m) c = rw m

      untaken : i ≡ lowest_place t.sessions → ⊥
      untaken e = was (ap (λ k. (session_at t k).number) e ∙ free_there t.sessions)

      by : Test (is_passed done.case) → (m : Method) → method_of s ≡ m → Test (is_named (sight_of t asked)) → session_at after i ≡ session_at t i
      by (isnt n) m e c = ap (λ (d : Did). session_at d.satbox i) (answered_still s address draw t n) ∙ left_other (case _) c
      by (is y) Options e (is z) = (options_refreshes s address draw t w y e (seated_below asked t z)).changes.others i away
      by (is y) Options e (isnt m) = ap (λ u. session_at u i) (options_alone s address draw t w y e (unnamed_place m))
      by (is y) Setup e (is z) = (setup_replaces s address draw t w y e (seated_below asked t z)).changes.others i away
      by (is y) Setup e (isnt m) = opens (sames asked.stream 0)
        where
          opens : Same asked.stream 0 → session_at after i ≡ session_at t i
          opens (same q) = (setup_opens s address draw t w y e (unnamed_place m) q).others i untaken
          opens (other q) = (setup_joins s address draw t w y e (unnamed_place m) q).others i untaken
      by (is y) Play e c = (play_marks s address draw t w y e).changes.others i away
      by (is y) Teardown e c = closes (sames old.owner 0) (case (is_on old.stream (session_at t i)))
        where
          closes : Same old.owner 0 → Test (is_on old.stream (session_at t i)) → session_at after i ≡ session_at t i
          closes (same q) b = (teardown_leaves s address draw t w y e q).others i away
          closes (other q) (is on) = absurd (still (ap (λ (x : Session). x.number) ((teardown_empties s address draw t w y e q).gone i on)))
          closes (other q) (isnt off) = (teardown_empties s address draw t w y e q).others i off
      by (is y) Other e c = ap (λ u. session_at u i) (other_alone s address draw t w y e) ∙ kept_other c

-- DOCUMENT 01, WHERE ORDER 3 HAS OTHER WORDS: "Only an opening SETUP and an OPTIONS naming an open session set the last time to the clock", and "A status
-- other than 200 changes nothing beyond the sweep"
abbrev pub grant_before : Method → SatBox → Asked → Lists → Client → Serving
grant_before Options t a l client = granted (nothing (kept a t)) (sight_of t a).session
grant_before Setup t a l client = grant Setup t a l client
grant_before Play t a l client = grant Play t a l client
grant_before Teardown t a l client = grant Teardown t a l client
grant_before Other t a l client = grant Other t a l client

unfoldable pub served_before : SatBox → Asked → Lists → Client → Serving
served_before t a l client = cond (is_passed (case_of t a l)) (grant_before a.method t a l client) (denied t (case_of t a l))

unfoldable pub answered_before : List ℕ → ℕ → ℕ → SatBox → Serving
answered_before s address draw t =
    let a = asked_of t.settings.frontends s in
    cond (reading.is_read (request_refusal t.settings.frontends s)) (served_before t a (lists_of s) (client_of address draw a))
    (denied t (read_case (request_refusal t.settings.frontends s)))

-- a session with 0 for its last time, and a table with such sessions: two tables that come to the same one differ in last times alone
abbrev pub ageless : Session → Session
ageless x = session_with 0 x.port x.playing x

abbrev pub timeless : SatBox → SatBox
timeless t = box_with (map ageless t.sessions) t.streams t.held t.clock t.sequence t

-- what is done is the same but for last times: in the session that the answer is about, and in the table
pub record ButLast (x y : Serving) : Type 0 where
  pub case : x.case ≡ y.case
  pub records : x.did.records ≡ y.did.records
  pub session : ageless x.session ≡ ageless y.session
  pub table : timeless x.did.satbox ≡ timeless y.did.satbox

map_alike : {A B : Type 0} (f : A → B) (l : List A) (i : ℕ) (x y : A) → f x ≡ f y → map f (set l i x) ≡ map f (set l i y)
map_alike f [] i x y e = refl
map_alike f (z ∷ l) zero x y e = rw e
map_alike f (z ∷ l) (suc i) x y e = rw (map_alike f l i x y e)

seat_alike : (b : Bool) (port : ℕ) (x y : Session) → ageless x ≡ ageless y
    → ageless (cond b (session_with x.last port x.playing x) (session_with x.last x.port 1 x))
    ≡ ageless (cond b (session_with y.last port y.playing y) (session_with y.last y.port 1 y))
seat_alike true port x y e = ap (λ (z : Session). session_with 0 port z.playing z) e
seat_alike false port x y e = ap (λ (z : Session). session_with 0 z.port 1 z) e

retuned_alike : (b : Bool) (place id : ℕ) (m : Stream) (x y z : Session) (t : SatBox) → ageless x ≡ ageless y
    → timeless (with_session place x (cond b (restreamed id m (with_session place z t)) (with_session place z t))) ≡ timeless (with_session place y (cond b (restreamed id m t) t))
unfolding with_session restreamed
retuned_alike true place id m x y z t e = rw (set-set t.sessions place z x, map_alike ageless t.sessions place x y e)
retuned_alike false place id m x y z t e = rw (set-set t.sessions place z x, map_alike ageless t.sessions place x y e)

module _ (a : Asked) (t : SatBox) where
  pub kept_timeless : timeless (kept a t) ≡ timeless t
  unfolding with_session
  kept_timeless = kept_by a t (λ u. timeless u ≡ timeless t) (λ y. rw (map-set_same ageless t.sessions (seat a t) (since a t) no_session refl)) (λ n. refl)

  pub kept_ageless : ageless (sight_of (kept a t) a).session ≡ ageless (sight_of t a).session
  unfolding sight_of
  kept_ageless = rw (kept_place a t a.session) (kept_session a t ageless (λ c x. refl) (seat a t))

  module _ (l : Lists) (client : Client) where
    -- without a session that is named it is the same
    grant_unnamed : is_named (sight_of t a) ≡ false → (m : Method) → grant m (kept a t) a l client ≡ grant_before m t a l client
    grant_unnamed n Options = rw (kept_alone a t n)
    grant_unnamed n Setup = ap (λ u. grant Setup u a l client) (kept_alone a t n)
    grant_unnamed n Play = ap (λ u. grant Play u a l client) (kept_alone a t n)
    grant_unnamed n Teardown = ap (λ u. grant Teardown u a l client) (kept_alone a t n)
    grant_unnamed n Other = ap (λ u. grant Other u a l client) (kept_alone a t n)

    -- a SETUP or a PLAY in a session
    pub retuning_but : seat a t < 32 → ButLast (retuning (kept a t) a l) (retuning t a l)
    unfolding sight_of
    retuning_but h =
        let x = seat_after (sight_of (kept a t) a) in
        let y = seat_after (sight_of t a) in
        let id = a.stream in
        let e = seat_alike (is_setup a.method) (port_of a.transport) (sight_of (kept a t) a).session (sight_of t a).session kept_ageless in
        record {
          case = refl;
          records = refl;
          session = e;
          table =
              ap (λ p. timeless (with_session p x (retuned (kept a t) a l))) (kept_place a t a.session)
              ∙ ap (λ b. timeless (with_session (seat a t) x (cond b (restreamed id (stream_after (kept a t) a l) (kept a t)) (kept a t)))) (merges_kept a t)
              ∙ ap (λ m. timeless (with_session (seat a t) x (cond (merges (sight_of t a)) (restreamed id m (kept a t)) (kept a t)))) (after_kept a t l)
              ∙ ap (λ u. timeless (with_session (seat a t) x (cond (merges (sight_of t a)) (restreamed id (stream_after t a l) u) u))) (kept_named a t h)
              ∙ retuned_alike (merges (sight_of t a)) (seat a t) id (stream_after t a l) x y (since a t) t e;
        }

    pub served_unnamed : is_named (sight_of t a) ≡ false → served (kept a t) a l client ≡ served_before t a l client
    unfolding served served_before
    served_unnamed n = rw (case_kept a t l, grant_unnamed n a.method, kept_alone a t n)

    served_options : a.method ≡ Options → case_of t a l ≡ None → (served (kept a t) a l client).did ≡ (served_before t a l client).did
    unfolding served served_before
    served_options e p = rw (case_kept a t l, p) (subst (λ m. (grant m (kept a t) a l client).did ≡ (grant_before m t a l client).did) (sym e) refl)

-- AS BEFORE, of any request on any table that was swept
module _ (s : List ℕ) (address draw : ℕ) where
  -- a request that names no open session does what it did, whole
  pub unnamed_as_before : (t : SatBox) → (place s address draw t < 32 → ⊥) → answered s address draw t ≡ answered_before s address draw t
  unfolding answered answered_before sight_of
  unnamed_as_before t n =
      let a = asked s address draw t in
      ap (λ x. cond (reading.is_read (request_refusal t.settings.frontends s)) x (denied t (read_case (request_refusal t.settings.frontends s))))
      (served_unnamed a t (lists_of s) (client_of address draw a) (le-ltb (place s address draw t) 32 (omega arith)))

  -- and so does an OPTIONS: the last times too
  pub options_as_before : (t : SatBox) → method_of s ≡ Options → (answered s address draw t).did ≡ (answered_before s address draw t).did
  unfolding answered answered_before
  options_as_before t e = by (case (ltb (place s address draw t) 32)) (case (reading.is_read (request_refusal t.settings.frontends s)))
    where
      by : Test (ltb (place s address draw t) 32) → Test (reading.is_read (request_refusal t.settings.frontends s)) → (answered s address draw t).did ≡ (answered_before s address draw t).did
      by b (isnt n) = rw n
      by (isnt n) (is y) = ap (λ (x : Serving). x.did) (unnamed_as_before t (λ h. never (lt-ltb (place s address draw t) 32 h) n))
      by (is z) (is y) =
          let a = asked s address draw t in
          let read = passed_is _ y in
          rw y
          (served_options a t (lists_of s) (client_of address draw a) e
          (sym (answered_case s address draw t read) ∙ options_passes s address draw t read (ltb-true (place s address draw t) 32 z) e))

  -- and every answer is that of before, byte for byte
  abbrev pub answer_before : ℕ → SatBox → List ℕ
  answer_before clock t = let x = answered_before s address draw (sweeping clock t).satbox in reply_text x.case s x.session
