-- A request by the ways it ends: each refusal of the call, and done; and that its answer is the meaning's and fits. Assumes nothing.
use Rattle.std.specs.Prelude.{Result, Ok, Err, Option, Some, None}
use mathlib.Core.Path.{◌≡◌, refl, sym, ◌∙◌, ap, subst}
use mathlib.Core.Bool.{false, not, ◌&&◌}
use mathlib.Core.List.{List, ◌++◌}
use Prim.Native.Nat.{ℕ, ◌≤◌, ◌<◌}
use native.Mathlib.Omega.{arith}
use lib.Dec.{eqb}
use lib.ListN.{length, drop}
use Rattle.scan.proofs.Bools.{cond_keeps, never}
use Rattle.writing.specs.Wrote.{Wrote}
use Rattle.writing.specs.Writing.{written}
use Rattle.writing.proofs.Writes.{wrote_front, wrote_as}
use Rattle.aim.specs.declared.Method.{Method}
use Rattle.aim.specs.declared.Method.TheVariants.{Options, Setup, Play, Teardown, Other}
use Rattle.reader.specs.Heads.{AskedIs, RefusedIs}
use Rattle.reader.specs.declared.Asked.{Asked as Read}
use Rattle.reader.specs.declared.Refused.{Refused as Unread}
use Rattle.answer.specs.Answers.{answer_text}
use Rattle.answer.specs.declared.Answer.{Answer}
use Rattle.table.specs.Table.{no_session}
use Rattle.table.specs.declared.Session.{Session}
use Rattle.table.specs.declared.SatBox.{SatBox}
use Rattle.table.specs.declared.Refusal.{Refusal}
use Rattle.stream.specs.declared.Stream.{Stream}
use Rattle.stream.specs.declared.Refusal.{Refusal as Unmerged}
use Rattle.stream.specs.declared.Refusal.TheVariants.{Combination as Clash, TooMany}
use Rattle.steps.specs.Sights.{Asked, Lists, asked_of, lists_of, sight_of}
use Rattle.steps.specs.Steps.{is_passed, is_named, table_case, read_case}
use Rattle.steps.specs.Replies.{reply_text}
use Rattle.steps.specs.Handed.{reply_to, refused_reply}
use Rattle.steps.specs.declared.cases.Case.TheVariants.{Reading, NotReached, Full}
use Rattle.steps.proofs.ReplyLaws.{IsUnread, unread_chain, table_unread, reply_told, refusal_told, Numbers, reply_fits, refusal_fits}
use Rattle.closings.specs.Does.{Does}
use Rattle.closings.specs.Closing.{swept, at_clock, bytes_of}
use Rattle.serving.specs.Serving.{Serving, merging, merges, merge_case, is_unreached, is_opening, can_seat, case_of, kept, denied, grant, served, client_of, answered}
use Rattle.serving.specs.Turns.{change_case, reason_of, about_of, performed, TurnIs}
use Rattle.satbox.specs.Calls.{request_outcome, requested, answer_of, replied, replied_into, replied_journal}
use Rattle.satbox.specs.Branches.{Responds}
use Rattle.serving.specs.declared.opening.Client.{Client}
use Rattle.serving.specs.declared.Turn.{Turn}
use Rattle.satbox.specs.declared.Response.{Response}
use Rattle.closings.proofs.DoesLaws.{does_then}
use Rattle.closings.proofs.Closings.{swept_fine}
use Rattle.closings.proofs.Keeping.{Whole, whole_roomy, clock_whole}

-- STEPS 11 TO 18 are none of the reading's
change_unread : (t : SatBox) (a : Asked) (l : Lists) → IsUnread (change_case t a l)
change_unread t a l =
    unread_chain (merges (sight_of t a) && not (is_passed (merge_case (merging t a l)))) (merge_case (merging t a l)) _ (by (merging t a l))
    (unread_chain (merges (sight_of t a) && (not (eqb a.stream 0) && is_unreached (sight_of t a))) (Some NotReached) _ (λ x e. cc)
    (unread_chain (is_opening (sight_of t a) && not (can_seat t (sight_of t a))) (Some Full) None (λ x e. cc) (λ x e. cc)))
  where
    by : (c : Result Stream Unmerged) → IsUnread (merge_case c)
    by (Ok m) x e = cc
    by (Err Clash) x e = cc
    by (Err TooMany) x e = cc

case_unread : (t : SatBox) (a : Asked) (l : Lists) → IsUnread (case_of t a l)
unfolding case_of
case_unread t a l =
    let c = table_case (sight_of t a) in unread_chain (not (is_passed c)) c (change_case t a l) (table_unread (sight_of t a)) (change_unread t a l)

-- what is granted passes
pub grant_passes : (m : Method) (t : SatBox) (a : Asked) (l : Lists) (client : Client) → (grant m t a l client).case ≡ None
grant_passes Options t a l client = refl
grant_passes Setup t a l client =
    cond_keeps Passes (is_named (sight_of t a)) _ _ (λ _. refl) (λ _. cond_keeps Passes (eqb a.stream 0) _ _ (λ _. refl) (λ _. refl))
  where
    Passes : Serving → Type 0
    Passes x = x.case ≡ None
grant_passes Play t a l client = refl
grant_passes Teardown t a l client = refl
grant_passes Other t a l client = refl

served_unread : (t : SatBox) (a : Asked) (l : Lists) (client : Client) → IsUnread (served t a l client).case
unfolding served
served_unread t a l client =
    cond_keeps (λ x. IsUnread x.case) (is_passed (case_of t a l)) (grant a.method t a l client) (denied t (case_of t a l))
    (λ _ x e. let n : None ≡ Some (Reading x) = sym (grant_passes a.method t a l client) ∙ e in cc) (λ _. case_unread t a l)

-- a session's numbers, as the code keeps them
pub numbers : {s : Session} → s.number < 4294967296 → s.address < 4294967296 → s.port < 4294967296 → s.stream < 256 → Numbers s
numbers n a p m = record { number = n; stream = omega arith; address = a; port = p }

-- THE ANSWER to a request on a swept table
abbrev answer_to : List ℕ → ℕ → ℕ → SatBox → List ℕ
answer_to s address draw t = reply_text (answered s address draw t).case s (answered s address draw t).session

-- written into a buffer that is long enough
module _ (s : List ℕ) (address draw : ℕ) (t : SatBox) {b c d : List ℕ} {v : Turn} {n : ℕ}
    (p : TurnIs t (answered s address draw t) v) (h : 4096 ≤ length b) (w : Wrote b 0 c d n) (told : c ≡ answer_to s address draw t) (short : length (answer_to s address draw t) ≤ 4096) where
  answer_front : (d ≡ answer_to s address draw t ++ drop (length (answer_to s address draw t)) b) × (n ≡ length (answer_to s address draw t))
  answer_front = wrote_front (wrote_as told w) (omega (arith, short))

  -- its count is small
  pub answer_count : n < 4294967296
  answer_count = omega (arith, answer_front.1, short)

  pub answer_done : Responds s address draw t b (record { turn = v; count = n }) d
  answer_done = let c = answer_front.1 in record { turn = p; count = c; buffer = rw c answer_front.0 }

-- what a request comes to, and an answer that says so and fits
pub record IsAnswer (s : List ℕ) (address draw : ℕ) (t : SatBox) (v : Turn) (a : Answer) : Type 0 where
  pub turn : TurnIs t (answered s address draw t) v
  pub text : answer_text s a ≡ answer_to s address draw t
  pub short : length (answer_to s address draw t) ≤ 4096

-- of a request that steps 1 to 10 let through
module _ (s : List ℕ) (address draw : ℕ) (t : SatBox) (r : Read) (i : AskedIs t.settings.frontends s r) where
  answered_unread : IsUnread (answered s address draw t).case
  unfolding answered
  answered_unread = rw i.passes (served_unread (kept (asked_of t.settings.frontends s) t) (asked_of t.settings.frontends s) (lists_of s) (client_of address draw (asked_of t.settings.frontends s)))

  module _ {v : Turn} {a : Answer} (p : TurnIs t (answered s address draw t) v) (e : a ≡ reply_to (reason_of v) r (about_of v)) where
    pub asked_answer : answer_text s a ≡ answer_to s address draw t
    asked_answer =
        let x = answered s address draw t in
        rw (e, p.case, p.session) (reply_told t.settings.frontends s r i x.case x.session answered_unread)

    pub asked_fits : Numbers (about_of v) → length (answer_to s address draw t) ≤ 4096
    asked_fits m =
        let x = answered s address draw t in
        reply_fits t.settings.frontends s r i x.case x.session answered_unread (subst Numbers p.session m)

-- and of one that they refuse
module _ (s : List ℕ) (address draw : ℕ) (t : SatBox) (r : Unread) (i : RefusedIs t.settings.frontends s r) where
  refused_is : answer_to s address draw t ≡ reply_text (Some (Reading r.refusal)) s no_session
  unfolding answered
  refused_is = rw i.refusal

  pub refused_answer : {a : Answer} → a ≡ refused_reply r → answer_text s a ≡ answer_to s address draw t
  refused_answer e = rw (e, refused_is) (refusal_told t.settings.frontends s r i no_session)

  pub refused_fits : length (answer_to s address draw t) ≤ 4096
  refused_fits = rw refused_is (refusal_fits t.settings.frontends s r i no_session)

-- THE CALL
module _ (s : List ℕ) (clock address draw : ℕ) (t : SatBox) (b j : List ℕ) where
  -- what the contract says of what is returned, the box, the answer buffer and the journal
  abbrev pub Replies : Result ℕ Refusal → SatBox → List ℕ → List ℕ → Type 0
  Replies o r d k =
      ((r ≡ (replied s clock address draw t b j).satbox) × (o ≡ (replied s clock address draw t b j).outcome))
      × ((d ≡ replied_into s clock address draw t b j) × (k ≡ replied_journal s clock address draw t b j))

  -- what a request that is done leaves
  abbrev pub Answered : SatBox → ℕ → List ℕ → List ℕ → Type 0
  Answered r n d l =
      ((r ≡ (requested s clock address draw t).did.satbox) × (n ≡ length (answer_of s clock address draw t)))
      × ((d ≡ answer_of s clock address draw t ++ drop (length (answer_of s clock address draw t)) b)
      × (l ≡ written j t.held (bytes_of (requested s clock address draw t).did.records)))

  pub request_done : {u v r : SatBox} {x : Response} {d k l : List ℕ} → Whole t → u ≡ at_clock clock t → Does u j (swept u) v k
      → Responds s address draw v b x d → Does v k (performed x.turn v) r l → Answered r x.count d l
  unfolding requested answer_of at_clock
  request_done {u} {v} {r} {x} {d} {k} {l} w e p a o =
      let q = subst (λ m. Does m j (swept m) v k) e p in
      let fine = swept_fine (at_clock clock t) (whole_roomy (at_clock clock t) (clock_whole clock t w)) in
      let does = does_then (λ m. (answered s address draw m).did) q (subst (λ z. Does v k z r l) a.turn.did o) fine in
      let c = a.count ∙ ap (λ m. length (answer_to s address draw m)) q.satbox in
      let front : d ≡ answer_to s address draw v ++ drop (length (answer_to s address draw v)) b = rw a.count at a.buffer in
      let buffer = front ∙ ap (λ m. answer_to s address draw m ++ drop (length (answer_to s address draw m)) b) q.satbox in
      ((does.satbox, c), (buffer, does.journal))

  pub reply_done : {r : SatBox} {n : ℕ} {d l : List ℕ} → request_outcome t j b ≡ Ok tt → Answered r n d l → Replies (Ok n) r d l
  unfolding replied replied_into replied_journal
  reply_done e z = rw e ((z.0.0, ap Ok z.0.1), z.1)

  pub reply_refused : {x : Refusal} → request_outcome t j b ≡ Err x → Replies (Err x) t b j
  unfolding replied replied_into replied_journal
  reply_refused e = rw e ((refl, refl), (refl, refl))
