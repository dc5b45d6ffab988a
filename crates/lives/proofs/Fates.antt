-- What may become of a session: it stays as it is, or it leaves and its closing's record is written; of several operations in a row, and of the record of one closing.
-- Of closings and sweeps `Departures` says it. Assumes nothing.
use mathlib.Core.Path.{◌≡◌, refl, sym, ◌∙◌, ap, subst}
use mathlib.Core.Bool.{Bool, true, false, ◌&&◌}
use mathlib.Core.List.{List, [], ◌∷◌, ◌++◌}
use Prim.Native.Nat.{ℕ}
use lib.Dec.{eqb}
use borrow.Author.Tests.{eq-eqb, ne_eqb}
use Rattle.scan.proofs.Bools.{never, or_right, Case, is, isnt, case}
use Rattle.journal.specs.declared.Record.{Record}
use Rattle.table.specs.Table.{any, no_session, session_at, stream_of, is_on}
use Rattle.table.specs.declared.Session.{Session}
use Rattle.table.specs.declared.SatBox.{SatBox}
use Rattle.closings.specs.Closing.{Did, nothing, then, noting, close_one, is_expired}
use Rattle.lives.specs.Closed.{is_closing_of}

-- r says that the session s closed at a clock, on a stream that had a frontend
abbrev pub is_closing : ℕ → ℕ → Session → Record → Bool
is_closing clock frontend s r = is_closing_of s.number r && (eqb r.clock clock && (eqb r.stream s.stream && eqb r.frontend frontend))

-- the session s of t in the table after d, where `after` stands in its place
pub data Fate (t : SatBox) (d : Did) (s after : Session) : Type 0 where
  stays : after ≡ s → ((s.number ≡ 0 → ⊥) → (stream_of d.satbox s.stream).frontend ≡ (stream_of t s.stream).frontend) → Fate t d s after
  leaves : after ≡ no_session → (s.number ≡ 0 → ⊥) → any (is_closing t.clock (stream_of t s.stream).frontend s) d.records ≡ true → Fate t d s after

pub record Fates (t : SatBox) (d : Did) : Type 0 where
  pub clock : d.satbox.clock ≡ t.clock
  pub each : (i : ℕ) → Fate t d (session_at t i) (session_at d.satbox i)

left_step : (p : Record → Bool) (r : Record) (a b : List Record) → Case (p r) → (any p a ≡ true → any p (a ++ b) ≡ true) → any p (r ∷ a) ≡ true → any p (r ∷ (a ++ b)) ≡ true
left_step p r a b (is y) h e = rw y
left_step p r a b (isnt n) h e = rw n (h (rw n at e))

pub any_left : (p : Record → Bool) (a b : List Record) → any p a ≡ true → any p (a ++ b) ≡ true
any_left p [] b e = never e refl
any_left p (r ∷ a) b e = left_step p r a b (case (p r)) (any_left p a b) e

pub any_right : (p : Record → Bool) (a b : List Record) → any p b ≡ true → any p (a ++ b) ≡ true
any_right p [] b e = e
any_right p (r ∷ a) b e = or_right (p r) (any_right p a b e)

-- at the same clock, on the same frontend
pub noted_as : {b c f g : ℕ} (s : Session) (rs : List Record) → b ≡ c → f ≡ g → any (is_closing b f s) rs ≡ true → any (is_closing c g s) rs ≡ true
noted_as {b} {c} {f} {g} s rs p q e = subst (λ n. any (is_closing c n s) rs ≡ true) q (subst (λ n. any (is_closing n f s) rs ≡ true) p e)

pub fates_nothing : (t : SatBox) → Fates t (nothing t)
fates_nothing t = record { clock = refl; each = λ i. stays refl (λ some. refl) }

-- two operations in a row
module _ (t : SatBox) (d : Did) (f : SatBox → Did) (clock : d.satbox.clock ≡ t.clock) where
  next : (s mid last : Session) → Fate t d s mid → Fate d.satbox (f d.satbox) mid last → Fate t (then d f) s last
  next s mid last (stays e k) (stays g l) =
      stays (g ∙ e)
      (λ some. subst (λ (x : Session). (x.number ≡ 0 → ⊥) → (stream_of (f d.satbox).satbox x.stream).frontend ≡ (stream_of d.satbox x.stream).frontend) e l some ∙ k some)
  next s mid last (stays e k) (leaves g some y) =
      let open-s : s.number ≡ 0 → ⊥ = λ z. some (ap (λ (x : Session). x.number) e ∙ z) in
      let z = subst (λ (x : Session). any (is_closing d.satbox.clock (stream_of d.satbox x.stream).frontend x) (f d.satbox).records ≡ true) e y in
      leaves g open-s (any_right (is_closing t.clock (stream_of t s.stream).frontend s) d.records (f d.satbox).records (noted_as s (f d.satbox).records clock (k open-s) z))
  next s mid last (leaves e some y) (stays g l) = leaves (g ∙ e) some (any_left (is_closing t.clock (stream_of t s.stream).frontend s) d.records (f d.satbox).records y)
  next s mid last (leaves e some y) (leaves g none z) = absurd (none (ap (λ (x : Session). x.number) e))

pub fates_then : (t : SatBox) (d : Did) (f : SatBox → Did) → Fates t d → Fates d.satbox (f d.satbox) → Fates t (then d f)
fates_then t d f p q =
    record {
      clock = q.clock ∙ p.clock;
      each = λ i. next t d f p.clock (session_at t i) (session_at d.satbox i) (session_at (f d.satbox).satbox i) (p.each i) (q.each i);
    }

-- ONE CLOSING
pub closing_noted : (cause i : ℕ) (t : SatBox) → any (is_closing t.clock (stream_of t (session_at t i).stream).frontend (session_at t i)) (close_one cause i t).records ≡ true
unfolding close_one noting
closing_noted cause i t =
    let s = session_at t i in
    rw (eq-eqb t.clock t.clock refl, eq-eqb s.number s.number refl, eq-eqb s.stream s.stream refl, eq-eqb (stream_of t s.stream).frontend (stream_of t s.stream).frontend refl)

-- who is not on it, and open, is on another
pub off_stream : (id : ℕ) (s : Session) → is_on id s ≡ false → (s.number ≡ 0 → ⊥) → s.stream ≡ id → ⊥
off_stream id s e some q = never (rw (ne_eqb s.number 0 some, eq-eqb s.stream id q)) e

-- what has not expired does not come to it
pub aged_after : (t : SatBox) (d : Did) (s after : Session) → is_expired t.clock s ≡ false → Fate t d s after → is_expired t.clock after ≡ false
aged_after t d s after y (stays e k) = subst (λ (x : Session). is_expired t.clock x ≡ false) (sym e) y
aged_after t d s after y (leaves e some n) = subst (λ (x : Session). is_expired t.clock x ≡ false) (sym e) refl
