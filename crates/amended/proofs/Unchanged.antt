-- ORDER 3, AS BEFORE: but for last times every request does what it did, and every answer is that of before. It stands apart from `LastTimes`, on which it rests, so
-- that another likeness there (`ButLast`) is refused where it stands. Assumes nothing.
use mathlib.Core.Path.{◌≡◌, refl, sym, ◌∙◌, ap}
use mathlib.Core.List.{List}
use Prim.Native.Nat.{ℕ, ◌<◌}
use borrow.Author.Tests.{lt-ltb, ltb-true}
use Rattle.scan.proofs.Bools.{Case as Test, is, isnt, case}
use Rattle.target.specs.Uri.{host_of}
use Rattle.refusals.specs.Refusals as reading
use Rattle.aim.specs.declared.Method.{Method}
use Rattle.aim.specs.declared.Method.TheVariants.{Options, Setup, Play, Teardown, Other}
use Rattle.reader.specs.Request.{method_of, uri_of, request_refusal}
use Rattle.table.specs.declared.Session.{Session}
use Rattle.table.specs.declared.SatBox.{SatBox}
use Rattle.closings.specs.Closing.{Did, sweeping}
use Rattle.steps.specs.Sights.{Asked, Lists, lists_of, sight_of}
use Rattle.steps.specs.Steps.{is_passed, is_named}
use Rattle.steps.specs.Replies.{granted_lines, reply_text}
use Rattle.steps.specs.declared.cases.Case.{Case}
use Rattle.serving.specs.Serving.{case_of, kept, grant, served, client_of, answered}
use Rattle.serving.specs.declared.opening.Client.{Client}
use Rattle.serving.proofs.Kept.{seat}
use Rattle.satbox.specs.Calls.{requested, answer_of}
use Rattle.promises.proofs.Keeps.{kept_is_named, kept_closes, case_kept}
use Rattle.amended.proofs.LastTimes.{asked, grant_before, served_before, answered_before, answer_before as answer_then, ageless, timeless, ButLast, kept_timeless, kept_ageless, retuning_but, served_unnamed}
use Rattle.std.specs.Prelude.{Option, Some, None}

module _ (a : Asked) (t : SatBox) where
  module _ (l : Lists) (client : Client) where
    grant_but : seat a t < 32 → (m : Method) → ButLast (grant m (kept a t) a l client) (grant_before m t a l client)
    unfolding sight_of
    grant_but h Options = record { case = refl; records = refl; session = kept_ageless a t; table = refl }
    grant_but h Setup = rw (kept_is_named a t, lt-ltb (seat a t) 32 h) (retuning_but a t l client h)
    grant_but h Play = retuning_but a t l client h
    grant_but h Teardown =
        let e = kept_closes a t 1 in
        record { case = refl; records = ap (λ (d : Did). d.records) e; session = kept_ageless a t; table = ap (λ (d : Did). timeless d.satbox) e }
    grant_but h Other = record { case = refl; records = refl; session = refl; table = kept_timeless a t }

    served_but : ButLast (served (kept a t) a l client) (served_before t a l client)
    unfolding served served_before sight_of
    served_but = by (case (is_named (sight_of t a))) (case (is_passed (case_of t a l)))
      where
        by : Test (is_named (sight_of t a)) → Test (is_passed (case_of t a l)) → ButLast (served (kept a t) a l client) (served_before t a l client)
        by (isnt n) c = rw (served_unnamed a t l client n) (record { case = refl; records = refl; session = refl; table = refl })
        by (is z) (isnt n) = rw (case_kept a t l, n) (record { case = refl; records = refl; session = refl; table = kept_timeless a t })
        by (is z) (is y) = rw (case_kept a t l, y) (grant_but (ltb-true (seat a t) 32 z) a.method)

-- no answer says a last time
lines_ageless : (m : Method) (host : List ℕ) (x : Session) → granted_lines m host x ≡ granted_lines m host (ageless x)
lines_ageless Options host x = refl
lines_ageless Setup host x = refl
lines_ageless Play host x = refl
lines_ageless Teardown host x = refl
lines_ageless Other host x = refl

text_ageless : (c : Option Case) (s : List ℕ) (x : Session) → reply_text c s x ≡ reply_text c s (ageless x)
unfolding reply_text
text_ageless None s x = rw (lines_ageless (method_of s) (host_of (uri_of s)) x)
text_ageless (Some c) s x = refl

-- AS BEFORE, of any request on any table that was swept
module _ (s : List ℕ) (address draw : ℕ) where
  -- the same case, and with it the same status, the same records, and the same table but for last times
  pub answered_as_before : (t : SatBox) → ButLast (answered s address draw t) (answered_before s address draw t)
  unfolding answered answered_before
  answered_as_before t = by (case (reading.is_read (request_refusal t.settings.frontends s)))
    where
      by : Test (reading.is_read (request_refusal t.settings.frontends s)) → ButLast (answered s address draw t) (answered_before s address draw t)
      by (is y) = rw y (served_but (asked s address draw t) t (lists_of s) (client_of address draw (asked s address draw t)))
      by (isnt n) = rw n (record { case = refl; records = refl; session = refl; table = refl })

  -- and every answer is that of before, byte for byte
  abbrev answer_before : ℕ → SatBox → List ℕ
  answer_before = answer_then s address draw

  pub answer_as_before : (clock : ℕ) (t : SatBox) → answer_of s clock address draw t ≡ answer_before clock t
  unfolding answer_of requested
  answer_as_before clock t =
      let u = (sweeping clock t).satbox in
      let e = answered_as_before u in
      let x = answered s address draw u in
      let y = answered_before s address draw u in
      text_ageless x.case s x.session ∙ rw (e.case, e.session) (sym (text_ageless y.case s y.session))
