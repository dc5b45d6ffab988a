-- What holds of each thing that steps 1 to 18 can come to holds of every request: nothing, a session changed in its place, an opening, a joining or a
-- closing. Assumes nothing.
use mathlib.Core.Path.{◌≡◌, refl, sym, ◌∙◌, ap, subst}
use mathlib.Core.Bool.{Bool, true, false}
use mathlib.Core.List.{List, ◌∷◌}
use Prim.Native.Nat.{ℕ, ◌<◌}
use lib.Dec.{eqb}
use lib.ListN.{get_or}
use borrow.Author.Tests.{lt-ltb}
use Rattle.scan.proofs.Bools.{never, cond_keeps, Case as Test, is, isnt, case}
use Rattle.aim.specs.declared.Method.{Method}
use Rattle.aim.specs.declared.Method.TheVariants.{Options, Setup, Play, Teardown, Other}
use Rattle.reader.specs.Request.{method_of}
use Rattle.stream.specs.Streams.{past_stream}
use Rattle.stream.specs.declared.Stream.{Stream}
use Rattle.stream.proofs.Keeping.{merge_frontend}
use Rattle.table.specs.Table.{session_at, stream_of}
use Rattle.table.specs.declared.Session.{Session}
use Rattle.table.specs.declared.SatBox.{SatBox}
use Rattle.steps.specs.Sights.{Asked, Lists, asked_of, lists_of, sight_of}
use Rattle.steps.specs.Steps.{is_passed, is_setup, looks_up, is_named}
use Rattle.closings.specs.Closing.{Did, nothing, restreamed, closing}
use Rattle.closings.specs.Does.{Closable}
use Rattle.serving.specs.Serving.{joining, opening, stream_after, merges, with_session, kept, seat_after, Serving, retuning, grant, served, client_of, answered}
use Rattle.serving.specs.declared.opening.Client.{Client}
use Rattle.closings.proofs.Keeping.{Whole}
use Rattle.serving.proofs.Passing.{Untested, named_needed, named_closable, own_live}
use Rattle.serving.proofs.Branching.{after_live}
use Rattle.serving.proofs.Kept.{Alike, with_again, seat, since, kept_named, kept_alone, kept_streams, kept_place, kept_whole}
use Rattle.satbox.proofs.RequestLaws.{grant_passes}
use Rattle.promises.proofs.Keeps.{kept_is_named, kept_since, kept_closes, seated_below}
use Rattle.promises.proofs.Passing.{served_by}
use Rattle.promises.proofs.Requests.{answered_by}

-- a session after a request that names it: its last time is the clock, by order 3
pub record Kin (clock : ℕ) (s old : Session) : Type 0 where
  pub alike : Alike s old
  pub last : s.last ≡ clock

-- the table with a query merged into a stream, which keeps its frontend; or without
pub data Retuned (t : SatBox) : SatBox → Type 0 where
  as_it_was : Retuned t t
  merged : (id : ℕ) (m : Stream) → m.frontend ≡ (stream_of t id).frontend → Retuned t (restreamed id m t)

-- its sessions and its clock are as they were
pub retuned_same : {t u : SatBox} → Retuned t u → (u.sessions ≡ t.sessions) × (u.clock ≡ t.clock)
unfolding restreamed
retuned_same as_it_was = (refl, refl)
retuned_same (merged id m e) = (refl, refl)

-- what is to be shown of a request with a method, which passes or does not
pub record Steps (t : SatBox) (method : Method) (passes : Bool) (draw : ℕ) (R : Did → Type 0) : Type 0 where
  pub still : R (nothing t)
  pub changed : (place : ℕ) (s : Session) → Kin t.clock s (session_at t place) → (u : SatBox) → Retuned t u → R (nothing (with_session place s u))
  pub joined : (id : ℕ) (client : Client) → client.draw ≡ draw → R (joining id client t)
  pub opened : (m : Stream) (client : Client) → client.draw ≡ draw → R (opening m client t)
  pub closed : method ≡ Teardown → passes ≡ true → (place : ℕ) → Closable t place → R (closing 1 place t)

module _ (t : SatBox) (a : Asked) (l : Lists) (client : Client) (w : Whole t) (passes : Bool) (R : Did → Type 0) (k : Steps t a.method passes client.draw R) where
  -- ONE THAT NAMES NO SESSION
  module _ (n : is_named (sight_of t a) ≡ false) (p : Untested (sight_of t a)) where
    alone_holds : (m : Method) → a.method ≡ m → R (grant m t a l client).did
    unfolding sight_of
    alone_holds Options e = k.still
    alone_holds Setup e =
        rw n
        (cond_keeps (λ (x : Serving). R x.did) (eqb a.stream 0) _ _ (λ z. k.opened (stream_after t a l) client refl) (λ z. k.joined a.stream client refl))
    alone_holds Play e = never (named_needed (sight_of t a) p (rw e)) n
    alone_holds Teardown e = never (named_needed (sight_of t a) p (rw e)) n
    alone_holds Other e = k.still

  -- ONE THAT NAMES A SESSION, on the table where it is kept
  module _ (h : seat a t < 32) where
    abbrev u : SatBox
    u = kept a t

    kept_holds : R (nothing u)
    kept_holds =
        rw (kept_named a t h)
        (k.changed (seat a t) (since a t) (record { alike = record { number = refl; stream = refl; owner = refl }; last = refl }) t as_it_was)

    module _ (p : Untested (sight_of u a)) (y : passes ≡ true) where
      named : is_named (sight_of u a) ≡ true
      unfolding sight_of
      named = kept_is_named a t ∙ lt-ltb (seat a t) 32 h

      merging_feed : looks_up a.method ≡ true → (stream_after u a l).frontend ≡ (stream_of t a.stream).frontend
      unfolding sight_of
      merging_feed looks =
          let live = own_live u (kept_whole a t w) a (sight_of u a) refl named p looks in
          ap (λ m. m.frontend) (after_live u a l client (sight_of u a) refl (λ e. live (ap (λ i. (stream_of u i).frontend) e)))
          ∙ (merge_frontend (stream_of u a.stream) a.codes l.pids l.delpids l.addpids ∙ ap (λ ms. (get_or (past_stream ∷ ms) a.stream past_stream).frontend) (kept_streams a t))

      after_kin : Kin t.clock (seat_after (sight_of u a)) (session_at t (seat a t))
      unfolding sight_of
      after_kin =
          rw (kept_place a t a.session, kept_since a t w h)
          (cond_keeps (λ (s : Session). Kin t.clock s (session_at t (seat a t))) (is_setup a.method) _ _
          (λ e. record { alike = record { number = refl; stream = refl; owner = refl }; last = refl })
          (λ e. record { alike = record { number = refl; stream = refl; owner = refl }; last = refl }))

      -- what is changed again is as if it had not been changed before
      again : (id : ℕ) (m : Stream) → R (nothing (with_session (seat a t) (seat_after (sight_of u a)) (restreamed id m t)))
          → R (nothing (with_session (sight_of u a).place (seat_after (sight_of u a)) (restreamed id m u)))
      unfolding sight_of
      again id m =
          let s = seat_after (sight_of u a) in
          let e : with_session (sight_of u a).place s (restreamed id m u) ≡ with_session (seat a t) s (restreamed id m t) =
          ap (λ i. with_session i s (restreamed id m u)) (kept_place a t a.session) ∙ (ap (λ v. with_session (seat a t) s (restreamed id m v)) (kept_named a t h) ∙ with_again (seat a t) (since a t) t s id m) in
          subst (λ v. R (nothing v)) (sym e)

      retuning_holds : looks_up a.method ≡ true → R (retuning u a l).did
      unfolding restreamed
      retuning_holds looks =
          let s = seat_after (sight_of u a) in
          let m = stream_after u a l in
          cond_keeps (λ (v : SatBox). R (nothing (with_session (sight_of u a).place s v))) (merges (sight_of u a)) (restreamed a.stream m u) u
          (λ e. again a.stream m (k.changed (seat a t) s after_kin _ (merged a.stream m (merging_feed looks)))) (λ e. again 0 m (k.changed (seat a t) s after_kin t as_it_was))

      named_holds : (m : Method) → a.method ≡ m → R (grant m u a l client).did
      unfolding sight_of
      named_holds Options e = kept_holds
      named_holds Setup e = rw named (retuning_holds (rw e))
      named_holds Play e = retuning_holds (rw e)
      named_holds Teardown e =
          rw (kept_closes a t 1) (k.closed e y (seat a t) (named_closable t w a (sight_of t a) refl (lt-ltb (seat a t) 32 h)))
      named_holds Other e = kept_holds

-- EVERY REQUEST, on a table that was swept
pub answered_holds : (s : List ℕ) (address draw : ℕ) (t : SatBox) → Whole t → (R : Did → Type 0) → Steps t (method_of s) (is_passed (answered s address draw t).case) draw R → R (answered s address draw t).did
answered_holds s address draw t w R k =
    answered_by s address draw t Shown (λ e. by (case (is_named (sight_of t a)))) (λ e z. k.still) refl
  where
    a : Asked
    a = asked_of t.settings.frontends s

    client : Client
    client = client_of address draw a

    passes : Bool
    passes = is_passed (answered s address draw t).case

    Shown : Serving → Type 0
    Shown x = is_passed x.case ≡ passes → R x.did

    by : Test (is_named (sight_of t a)) → Shown (served (kept a t) a (lists_of s) client)
    by (is y) =
        let h = seated_below a t y in
        served_by (kept a t) a (lists_of s) client Shown
        (λ p q z. named_holds t a (lists_of s) client w passes R k h p (sym z ∙ ap is_passed (grant_passes a.method (kept a t) a (lists_of s) client)) a.method refl)
        (λ n z. kept_holds t a (lists_of s) client w passes R k h)
    by (isnt n) =
        subst (λ v. Shown (served v a (lists_of s) client)) (sym (kept_alone a t n))
        (served_by t a (lists_of s) client Shown (λ p q z. alone_holds t a (lists_of s) client w passes R k n p a.method refl) (λ e z. k.still))
