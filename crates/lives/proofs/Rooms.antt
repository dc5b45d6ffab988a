-- An opening that passes every other check is refused for the journal's room alone. Assumes nothing.
use mathlib.Core.Path.{◌≡◌, refl, ◌∙◌, ap, subst}
use mathlib.Core.Bool.{true, false, not}
use mathlib.Core.List.{List}
use mathlib.Core.Logic.{◌↔◌}
use Prim.Native.Nat.{ℕ, ◌+◌, ◌*◌, ◌≤◌, ◌<◌}
use native.Mathlib.Decide.{dec_lt}
use native.Mathlib.Omega.{arith}
use borrow.Author.Tests.{ne_eqb, eq-eqb, lt-leb, le-leb, not-true}
use Rattle.std.specs.Prelude.{None, Option, Some}
use Rattle.scan.proofs.Bools.{never, and_both, by_cases, Same, same, other, sames}
use Rattle.aim.specs.declared.Method.{Method}
use Rattle.aim.specs.declared.Method.TheVariants.{Options, Setup, Play, Teardown, Other}
use Rattle.refusals.specs.declared.Refusal.TheVariants as refusal
use Rattle.reader.specs.Request.{request_refusal}
use Rattle.table.specs.Table.{open_count, stream_of, is_live}
use Rattle.table.specs.declared.Settings.{Settings}
use Rattle.table.specs.declared.SatBox.{SatBox}
use Rattle.steps.specs.Sights.{Asked, Lists, asked_of, lists_of, sight_of}
use Rattle.steps.specs.Steps.{is_setup}
use Rattle.steps.specs.declared.cases.Case.{Case}
use Rattle.steps.specs.declared.cases.Case.TheVariants.{Full}
use Rattle.serving.specs.Serving.{has_room, can_seat, case_of, Serving, served, client_of, answered}
use Rattle.serving.specs.declared.opening.Client.{Client}
use Rattle.serving.proofs.Kept.{kept_alone}
use Rattle.serving.proofs.Passing.{untested}
use Rattle.satbox.proofs.RequestLaws.{grant_passes}
use Rattle.lives.specs.Closed.{PassesElse}
use Rattle.scan.specs.Lists.{◌gives◌or◌}

setup_only : (m : Method) → is_setup m ≡ true → m ≡ Setup
setup_only Options e = never e refl
setup_only Setup e = refl
setup_only Play e = never e refl
setup_only Teardown e = never e refl
setup_only Other e = never e refl

module _ (t : SatBox) (a : Asked) (l : Lists) (p : PassesElse t a l) where
  -- a stream that is named is live, by step 12
  live : ((sight_of t a).stream ≡ 0 → ⊥) → is_live (stream_of t (sight_of t a).stream) ≡ true
  unfolding sight_of
  live some =
      let m = setup_only (sight_of t a).method (and_both (is_setup (sight_of t a).method) _ p.opening).0 in
      rw (rw (m, ne_eqb (sight_of t a).stream 0 some) at (untested (sight_of t a) p.seen).stream)

  -- of what an opening takes, only the room is open
  seat_is_room : can_seat t (sight_of t a) ≡ has_room t
  seat_is_room = by (sames (sight_of t a).stream 0)
    where
      by : Same (sight_of t a).stream 0 → can_seat t (sight_of t a) ≡ has_room t
      by (same z) = rw (eq-eqb (sight_of t a).stream 0 z, p.place, p.frontend z)
      by (other z) = rw (ne_eqb (sight_of t a).stream 0 z, p.place, live z)

  case_is : case_of t a l ≡ (not (has_room t) gives Some Full or None)
  unfolding case_of
  case_is = rw (p.seen, p.query, p.src, p.opening, seat_is_room)

  module _ (client : Client) where
    pub full_case : has_room t ≡ false → (served t a l client).case ≡ Some Full
    unfolding served
    full_case e = let c : case_of t a l ≡ Some Full = case_is ∙ rw e in rw c

    pub passed_case : has_room t ≡ true → (served t a l client).case ≡ None
    unfolding served
    passed_case e = let c : case_of t a l ≡ None = case_is ∙ rw e in rw c (grant_passes a.method t a l client)

full_not_passed : {c : Option Case} → c ≡ Some Full → c ≡ None → ⊥
full_not_passed p q = let z : ◌≡◌ {A = ℕ} 0 1 = cc in omega arith

module _ (s : List ℕ) (address draw : ℕ) (t : SatBox) (read : request_refusal t.settings.frontends s ≡ None) (p : PassesElse t (asked_of t.settings.frontends s) (lists_of s)) where
  answered_is : answered s address draw t ≡ served t (asked_of t.settings.frontends s) (lists_of s) (client_of address draw (asked_of t.settings.frontends s))
  unfolding answered
  answered_is =
      let a = asked_of t.settings.frontends s in
      rw read (ap (λ u. served u a (lists_of s) (client_of address draw a)) (kept_alone a t (not-true _ (and_both (is_setup (sight_of t a).method) _ p.opening).1)))

  without_room : t.settings.size < t.held + 16 * open_count t + 32 → (answered s address draw t).case ≡ Some Full
  without_room h =
      ap (λ (x : Serving). x.case) answered_is
      ∙ full_case t (asked_of t.settings.frontends s) (lists_of s) p (client_of address draw (asked_of t.settings.frontends s)) (lt-leb (t.held + 16 * open_count t + 32) t.settings.size h)

  with_room : t.held + 16 * open_count t + 32 ≤ t.settings.size → (answered s address draw t).case ≡ None
  with_room h =
      ap (λ (x : Serving). x.case) answered_is
      ∙ passed_case t (asked_of t.settings.frontends s) (lists_of s) p (client_of address draw (asked_of t.settings.frontends s)) (le-leb (t.held + 16 * open_count t + 32) t.settings.size h)

  room_exactly : ((answered s address draw t).case ≡ Some Full) ↔ (t.settings.size < t.held + 16 * open_count t + 32)
  room_exactly =
      (λ e. by_cases (dec_lt t.settings.size (t.held + 16 * open_count t + 32)) (λ h. h) (λ h. absurd (full_not_passed e (with_room (omega arith)))), without_room)

-- the same of a swept box t whose frontends and journal's size are known
module _ (settings : Settings) (s : List ℕ) (address draw : ℕ) (t : SatBox) (e : t.settings ≡ settings) where
  pub refused_exactly : request_refusal settings.frontends s ≡ None → PassesElse t (asked_of settings.frontends s) (lists_of s)
      → ((answered s address draw t).case ≡ Some Full) ↔ (settings.size < t.held + 16 * open_count t + 32)
  refused_exactly =
      subst (λ (r : Settings). request_refusal r.frontends s ≡ None → PassesElse t (asked_of r.frontends s) (lists_of s) → ((answered s address draw t).case ≡ Some Full) ↔ (r.size < t.held + 16 * open_count t + 32)) e
      (room_exactly s address draw t)

  pub passed_exactly : request_refusal settings.frontends s ≡ None → PassesElse t (asked_of settings.frontends s) (lists_of s)
      → t.held + 16 * open_count t + 32 ≤ settings.size → (answered s address draw t).case ≡ None
  passed_exactly =
      subst (λ (r : Settings). request_refusal r.frontends s ≡ None → PassesElse t (asked_of r.frontends s) (lists_of s) → t.held + 16 * open_count t + 32 ≤ r.size → (answered s address draw t).case ≡ None) e
      (with_room s address draw t)
