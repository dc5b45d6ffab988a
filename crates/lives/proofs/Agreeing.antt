-- A history and a table that agree about the frontends agree still after each change of the table, with its record. Assumes nothing.
use mathlib.Core.Path.{◌≡◌, refl, sym, ◌∙◌, ap, subst}
use mathlib.Core.List.{List, [], ◌∷◌, ◌++◌}
use Prim.Native.Nat.{ℕ, ◌≤◌, ◌<◌}
use native.Mathlib.Omega.{arith}
use lib.ListN.{length, set}
use Rattle.scan.proofs.Bools.{Same, same, other, sames}
use Rattle.journal.specs.declared.Record.{Record}
use Rattle.stream.specs.declared.Stream.{Stream}
use Rattle.table.specs.Table.{any, count, no_session, has_number, session_at, stream_of, is_on}
use Rattle.table.specs.declared.Session.{Session}
use Rattle.table.specs.declared.SatBox.{SatBox}
use Rattle.closings.specs.Closing.{restreamed, reseated, noting, record_of, close_one, at_clock}
use Rattle.closings.specs.Does.{Closable}
use Rattle.satbox.specs.Calls.{emptied}
use Rattle.serving.specs.Serving.{with_session}
use Rattle.serving.proofs.Kept.{Alike}
use Rattle.lives.specs.Audit.{unheld, noted_by, audited, holds, Agree}
use Rattle.lives.proofs.Keepers.{audited_more, noted_none, noted_others, fed_keeps, alike_keeps, is_holder, keeps}
use Rattle.lives.proofs.Releasing.{closed_keeps, closed_kept, closed_kept_others, freed_keeps}

-- no two open sessions have one number
abbrev pub Single : SatBox → Type 0
Single t = (n : ℕ) → (n ≡ 0 → ⊥) → count (has_number n) t.sessions ≤ 1

-- with one record more: what it says of f and n
pub agree_noted : (h : List Record) (t : SatBox) (r : Record) → ((f n : ℕ) → (f ≡ 0 → ⊥) → holds t f n ≡ is_holder n (noted_by f r (audited f h))) → Agree (h ++ (r ∷ [])) t
agree_noted h t r g = record { same = λ f n z. g f n z ∙ ap (is_holder n) (sym (audited_more f unheld h r)) }

-- ONE SESSION'S CLOSING
module _ (h : List Record) (cause i : ℕ) (t : SatBox) (c : Closable t i) (one : Single t) (g : Agree h t) where
  abbrev s : Session
  s = session_at t i

  abbrev r : Record
  r = record_of 3 cause s t

  below : i < length t.sessions
  below = omega (arith, c.below, c.roomy.places)

  closing_holds : (f n : ℕ) → (f ≡ 0 → ⊥) → Same s.number n → any (keeps t.streams f n) (set t.sessions i no_session) ≡ is_holder n (noted_by f r (audited f h))
  closing_holds f n z (same q) =
      subst (λ m. any (keeps t.streams f m) (set t.sessions i no_session) ≡ is_holder m (noted_by f r (audited f h))) q
      (closed_keeps t.streams t.sessions i below c.some (one s.number c.some) f
      ∙ sym (noted_none f r refl (audited f h) (λ e. sym (g.same f s.number z) ∙ closed_kept t.streams t.sessions i below c.some (one s.number c.some) f e)))
  closing_holds f n z (other q) =
      closed_kept_others t.streams t.sessions i below c.some (one s.number c.some) f n q
      ∙ (g.same f n z ∙ sym (noted_others f r refl (audited f h) n q))

  pub agree_closed : Agree (h ++ (close_one cause i t).records) (close_one cause i t).satbox
  unfolding close_one noting reseated
  agree_closed = agree_noted h (reseated i no_session t) r (λ f n z. closing_holds f n z (sames s.number n))

-- THE CHANGES THAT WRITE NOTHING: of a stream that nobody is on, of one that keeps its frontend, of a session that keeps its number, its stream and its
-- part, of the clock, and of the bytes held
module _ {h : List Record} (t : SatBox) (g : Agree h t) where
  pub agree_freed : (id : ℕ) (m : Stream) → count (is_on id) t.sessions ≡ 0 → Agree h (restreamed id m t)
  unfolding restreamed
  agree_freed id m none = record { same = λ f n z. freed_keeps t.streams id m t.sessions none f n ∙ g.same f n z }

  pub agree_fed : (id : ℕ) (m : Stream) → m.frontend ≡ (stream_of t id).frontend → Agree h (restreamed id m t)
  unfolding restreamed
  agree_fed id m e = record { same = λ f n z. fed_keeps t.streams id m e t.sessions f n ∙ g.same f n z }

  pub agree_replaced : (i : ℕ) (new : Session) → Alike new (session_at t i) → Agree h (with_session i new t)
  unfolding with_session
  agree_replaced i new k = record { same = λ f n z. alike_keeps t.streams t.sessions i new k f n ∙ g.same f n z }

  pub agree_clock : (clock : ℕ) → Agree h (at_clock clock t)
  unfolding at_clock
  agree_clock clock = record { same = g.same }

  pub agree_emptied : Agree h (emptied t)
  unfolding emptied
  agree_emptied = record { same = g.same }
