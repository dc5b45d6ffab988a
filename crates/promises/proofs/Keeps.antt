-- WHAT THE LAST TIME DOES NOT CHANGE, order 3 of document 02: on the table where the session that a request names is kept, the request finds the same
-- place and comes to the same case, and its session closes as it would have. Assumes nothing.
use mathlib.Core.Path.{◌≡◌, refl, sym, ◌∙◌, ap}
use mathlib.Core.Bool.{true, false, and-false}
use mathlib.Core.List.{List}
use Prim.Native.Nat.{ℕ, ◌<◌}
use native.Mathlib.Omega.{arith}
use lib.Seq.{get_or-set_same}
use borrow.Author.Tests.{ltb-true}
use Rattle.std.specs.Prelude.{None}
use Rattle.scan.proofs.Bools.{cond_keeps, Case as Test, is, isnt, case}
use Rattle.reader.specs.Request.{request_refusal}
use Rattle.table.specs.Table.{no_session, session_at}
use Rattle.finding.specs.Finding.{choice}
use Rattle.table.specs.declared.Session.{Session}
use Rattle.table.specs.declared.SatBox.{SatBox}
use Rattle.table.proofs.Counts.{get_or_set_alike}
use Rattle.steps.specs.Sights.{Asked, Lists, asked_of, lists_of, place_named, sight_of}
use Rattle.steps.specs.Steps.{is_passed, is_setup, is_named, table_case}
use Rattle.steps.specs.declared.Sight.{Sight}
use Rattle.steps.proofs.ReplyLaws.{passed_none}
use Rattle.closings.specs.Closing.{closing}
use Rattle.closings.proofs.Keeping.{Whole}
use Rattle.serving.specs.Serving.{merging, stream_after, merges, is_unreached, is_opening, case_of, with_session, refreshed, kept, Serving, grant, denied, served, client_of, answered}
use Rattle.serving.specs.declared.opening.Client.{Client}
use Rattle.serving.proofs.Kept.{closing_again, seat, since, kept_by, kept_named, kept_alone, kept_streams, kept_place}
use Rattle.satbox.proofs.RequestLaws.{grant_passes}

-- one that names a session opens none, so it does not ask for a free place
no_opening : (v : Sight) → is_named v ≡ true → is_opening v ≡ false
no_opening v y = rw (y, and-false (is_setup v.method))

module _ (a : Asked) (t : SatBox) where
  pub kept_is_named : is_named (sight_of (kept a t) a) ≡ is_named (sight_of t a)
  unfolding sight_of
  kept_is_named = rw (kept_place a t a.session)

  -- a session that is named has a place,
  pub seated_below : is_named (sight_of t a) ≡ true → seat a t < 32
  unfolding sight_of
  seated_below y = ltb-true (seat a t) 32 y

  -- and there it has the clock for its last time
  pub kept_since : Whole t → seat a t < 32 → session_at (kept a t) (seat a t) ≡ since a t
  unfolding with_session
  kept_since w h = rw (kept_named a t h) (get_or-set_same t.sessions (seat a t) (since a t) no_session (omega (arith, w.places)))

  -- of every session all but the last time stays
  pub kept_session : {B : Type 0} (f : Session → B) → ((clock : ℕ) (s : Session) → f (refreshed clock s) ≡ f s) → (i : ℕ) → f (session_at (kept a t) i) ≡ f (session_at t i)
  unfolding with_session
  kept_session f e i =
      kept_by a t (λ u. f (session_at u i) ≡ f (session_at t i)) (λ y. get_or_set_alike f t.sessions (seat a t) i (since a t) no_session (e t.clock (session_at t (seat a t)))) (λ n. refl)

  -- the one that is named closes as it would have
  pub kept_closes : (cause : ℕ) → closing cause (sight_of (kept a t) a).place (kept a t) ≡ closing cause (sight_of t a).place t
  unfolding sight_of
  kept_closes cause =
      ap (λ p. closing cause p (kept a t)) (kept_place a t a.session)
      ∙ kept_by a t (λ u. closing cause (seat a t) u ≡ closing cause (seat a t) t)
      (λ y. closing_again (seat a t) (since a t) t (record { number = refl; stream = refl; owner = refl }) cause) (λ n. refl)

  -- THE CASE
  table_kept : table_case (sight_of (kept a t) a) ≡ table_case (sight_of t a)
  unfolding table_case sight_of
  table_kept =
      let at = place_named a.session t in
      rw (
        kept_place a t a.session,
        kept_streams a t,
        kept_session (λ s. s.number) (λ c s. refl) at,
        kept_session (λ s. s.stream) (λ c s. refl) at,
        kept_session (λ s. s.owner) (λ c s. refl) at,
        kept_session (λ s. s.playing) (λ c s. refl) at,
      )

  pub merges_kept : merges (sight_of (kept a t) a) ≡ merges (sight_of t a)
  unfolding sight_of
  merges_kept =
      let at = place_named a.session t in
      rw (kept_place a t a.session, kept_session (λ s. s.number) (λ c s. refl) at, kept_session (λ s. s.stream) (λ c s. refl) at, kept_session (λ s. s.owner) (λ c s. refl) at)

  pub merging_kept : (l : Lists) → merging (kept a t) a l ≡ merging t a l
  unfolding merging choice sight_of with_session
  merging_kept l = kept_by a t (λ u. merging u a l ≡ merging t a l) (λ y. refl) (λ n. refl)

  pub after_kept : (l : Lists) → stream_after (kept a t) a l ≡ stream_after t a l
  unfolding merging choice sight_of with_session
  after_kept l = kept_by a t (λ u. stream_after u a l ≡ stream_after t a l) (λ y. refl) (λ n. refl)

  unreached_kept : is_unreached (sight_of (kept a t) a) ≡ is_unreached (sight_of t a)
  unfolding sight_of with_session
  unreached_kept = kept_by a t (λ u. is_unreached (sight_of u a) ≡ is_unreached (sight_of t a)) (λ y. refl) (λ n. refl)

  pub case_kept : (l : Lists) → case_of (kept a t) a l ≡ case_of t a l
  unfolding case_of
  case_kept l = by (case (is_named (sight_of t a)))
    where
      by : Test (is_named (sight_of t a)) → case_of (kept a t) a l ≡ case_of t a l
      by (is y) = rw (table_kept, merges_kept, merging_kept l, unreached_kept, no_opening (sight_of (kept a t) a) (kept_is_named ∙ y), no_opening (sight_of t a) y)
      by (isnt n) = ap (λ u. case_of u a l) (kept_alone a t n)

pub served_case : (t : SatBox) (a : Asked) (l : Lists) (client : Client) → (served t a l client).case ≡ case_of t a l
unfolding served
served_case t a l client =
    cond_keeps (λ (x : Serving). x.case ≡ case_of t a l) (is_passed (case_of t a l)) (grant a.method t a l client) (denied t (case_of t a l))
    (λ y. grant_passes a.method t a l client ∙ sym (passed_none (case_of t a l) y)) (λ n. refl)

-- A REQUEST THAT STEPS 1 TO 10 LET THROUGH comes to the case that steps 11 to 18 give it on the table as it was
pub answered_case : (s : List ℕ) (address draw : ℕ) (t : SatBox) → request_refusal t.settings.frontends s ≡ None
    → (answered s address draw t).case ≡ case_of t (asked_of t.settings.frontends s) (lists_of s)
unfolding answered
answered_case s address draw t read =
    let a = asked_of t.settings.frontends s in
    rw read
    (served_case (kept a t) a (lists_of s) (client_of address draw a) ∙ case_kept a t (lists_of s))
