-- A TEARDOWN that is answered 200 closes the session that it names and, where that owns its stream, each other on it. Assumes nothing.
use mathlib.Core.Path.{◌≡◌, refl, sym, ◌∙◌, ap, subst}
use mathlib.Core.Bool.{true}
use mathlib.Core.List.{List}
use mathlib.Core.Logic.{◌⊎◌, inl, inr}
use Prim.Native.Nat.{ℕ}
use native.Mathlib.Omega.{arith}
use borrow.Author.Tests.{eq-eqb, ne_eqb, lt-ltb}
use Rattle.steps.proofs.ReplyLaws.{read_passes}
use Rattle.scan.proofs.Bools.{never, and_both, Case, is, isnt, case}
use Rattle.aim.specs.declared.Method.{Method}
use Rattle.aim.specs.declared.Method.TheVariants.{Options, Setup, Play, Teardown, Other}
use Rattle.reader.specs.Request.{method_of}
use Rattle.table.specs.Table.{is_open, session_at, is_on}
use Rattle.table.specs.declared.SatBox.{SatBox}
use Rattle.table.proofs.Changes.{opened}
use Rattle.steps.specs.Sights.{Asked, Lists, asked_of, lists_of, sight_of}
use Rattle.steps.specs.Steps.{is_passed}
use Rattle.closings.specs.Closing.{Did, closing}
use Rattle.closings.specs.Does.{Closable}
use Rattle.serving.specs.Serving.{kept, Serving, served, client_of, answered}
use Rattle.serving.specs.declared.opening.Client.{Client}
use Rattle.closings.proofs.Keeping.{Whole}
use Rattle.serving.proofs.Kept.{seat, kept_place, kept_whole}
use Rattle.serving.proofs.Passing.{named_closable}
use Rattle.promises.proofs.Keeps.{kept_closes}
use Rattle.promises.proofs.Passing.{served_by, tears_closable}
use Rattle.promises.proofs.Requests.{answered_by}
use Rattle.promises.proofs.Records.{closed_is}
use Rattle.lives.specs.Closed.{takes, Closed, place_named_by}
use Rattle.lives.proofs.Departures.{closing_fates}
use Rattle.lives.proofs.Taking.{takes_self, takes_on, closing_took}
use Rattle.lives.proofs.Sweeps.{freed_closed}

-- a request is one, or it is not
pub data Tearing (s : List ℕ) (address draw : ℕ) (t : SatBox) : Type 0 where
  tearing : method_of s ≡ Teardown → is_passed (answered s address draw t).case ≡ true → Tearing s address draw t
  not_tearing : (method_of s ≡ Teardown → is_passed (answered s address draw t).case ≡ true → ⊥) → Tearing s address draw t

tears? : (m : Method) → (m ≡ Teardown) ⊎ (m ≡ Teardown → ⊥)
tears? Teardown = inl refl
tears? Options = inr (λ e. let z : ◌≡◌ {A = ℕ} 0 1 = cc in omega arith)
tears? Setup = inr (λ e. let z : ◌≡◌ {A = ℕ} 0 1 = cc in omega arith)
tears? Play = inr (λ e. let z : ◌≡◌ {A = ℕ} 0 1 = cc in omega arith)
tears? Other = inr (λ e. let z : ◌≡◌ {A = ℕ} 0 1 = cc in omega arith)

pub whether_tearing : (s : List ℕ) (address draw : ℕ) (t : SatBox) → Tearing s address draw t
whether_tearing s address draw t = by (tears? (method_of s)) (case (is_passed (answered s address draw t).case))
  where
    by : (method_of s ≡ Teardown) ⊎ (method_of s ≡ Teardown → ⊥) → Case (is_passed (answered s address draw t).case) → Tearing s address draw t
    by (inl e) (is y) = tearing e y
    by (inl e) (isnt n) = not_tearing (λ m y. never y n)
    by (inr f) c = not_tearing (λ m y. f m)

-- what it does
pub record Torn (t : SatBox) (place : ℕ) (d : Did) : Type 0 where
  pub is : d ≡ closing 1 place t
  pub closable : Closable t place

served_torn : (t : SatBox) (a : Asked) (l : Lists) (client : Client) → Whole t → a.method ≡ Teardown → is_passed (served t a l client).case ≡ true → Torn t (sight_of t a).place (served t a l client).did
served_torn t a l client w e y =
    record {
      is = ap (λ (x : Serving). x.did) (closed_is t a l client y e);
      closable =
          served_by t a l client (λ (x : Serving). is_passed x.case ≡ true → Closable t (sight_of t a).place) (λ p q n. tears_closable t a w p e) (λ n p. never p n) y;
    }

pub answered_torn : (s : List ℕ) (address draw : ℕ) (t : SatBox) → Whole t → method_of s ≡ Teardown → is_passed (answered s address draw t).case ≡ true → Torn t (place_named_by s t) (answered s address draw t).did
unfolding sight_of
answered_torn s address draw t w e =
    let a = asked_of t.settings.frontends s in
    answered_by s address draw t (λ (x : Serving). is_passed x.case ≡ true → Torn t (sight_of t a).place x.did)
    (λ r p.
    let z = served_torn (kept a t) a (lists_of s) (client_of address draw a) (kept_whole a t w) e p in
    record { is = z.is ∙ kept_closes a t 1; closable = named_closable t w a (sight_of t a) refl (lt-ltb (seat a t) 32 (rw (kept_place a t a.session) at z.closable.below)) })
    (λ n p. never p (read_passes _ ∙ n))

module _ (s : List ℕ) (address draw : ℕ) (t : SatBox) (w : Whole t) (tears : method_of s ≡ Teardown) (passed : is_passed (answered s address draw t).case ≡ true) where
  torn : Torn t (place_named_by s t) (answered s address draw t).did
  torn = answered_torn s address draw t w tears passed

  abbrev place : ℕ
  place = place_named_by s t

  -- whom it takes along
  taken_closed : (i : ℕ) → is_open (session_at t i) ≡ true → takes (session_at t place) (session_at t i) ≡ true
      → Closed t i (answered s address draw t).did.satbox (answered s address draw t).did.records
  taken_closed i some y =
      let c = torn.closable in
      subst (λ (d : Did). Closed t i d.satbox d.records) (sym torn.is)
      (freed_closed t (closing 1 place t) (closing_fates 1 place t c) i (opened (session_at t i) some) ((closing_took 1 place t c w).seats i ∙ rw y))

  named : is_open (session_at t place) ≡ true
  named = rw (ne_eqb (session_at t place).number 0 torn.closable.some)

  -- THE SESSION THAT IT NAMES
  pub torn_closed : Closed t place (answered s address draw t).did.satbox (answered s address draw t).did.records
  torn_closed = taken_closed place named (takes_self (session_at t place))

  -- AND WHO WAS ON ITS STREAM, where it owned it
  pub left_with_owner : ((session_at t place).owner ≡ 0 → ⊥) → (i : ℕ) → is_on (session_at t place).stream (session_at t i) ≡ true
      → Closed t i (answered s address draw t).did.satbox (answered s address draw t).did.records
  left_with_owner own i on =
      let r = session_at t place in
      taken_closed i (and_both (is_open (session_at t i)) _ on).0
      (takes_on r (session_at t i) (rw (named, eq-eqb r.stream r.stream refl, ne_eqb r.owner 0 own)) on)
