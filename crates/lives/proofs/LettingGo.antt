-- Where a history says that a frontend was let go, there was a moment at which its table let it go, at that clock. Assumes nothing.
use mathlib.Core.Path.{◌≡◌, refl, sym, ◌∙◌, ap}
use mathlib.Core.Bool.{◌&&◌, and-false}
use mathlib.Core.List.{List, [], ◌∷◌, ◌++◌}
use mathlib.Core.Logic.{◌⊎◌, inl, inr}
use Prim.Native.Nat.{ℕ}
use native.Mathlib.Omega.{arith}
use lib.Dec.{eqb}
use borrow.Author.Tests.{eq-eqb, eqb-true}
use Rattle.scan.proofs.Bools.{and_both, cond_keeps}
use Rattle.journal.specs.declared.Record.{Record}
use Rattle.table.specs.Table.{session_at}
use Rattle.table.specs.declared.SatBox.{SatBox}
use Rattle.closings.specs.Closing.{Did, reseated, noting, record_of, close_one}
use Rattle.lives.specs.Audit.{Frontend, unheld, held_by, let_go, closed_by, noted_by, audited, Agree, Notes, opens_as_owner, joins, closes, Leads, begun, quiet, noted, LetGo, lets}
use Rattle.lives.proofs.Keepers.{audited_more, is_holder}
use Rattle.lives.proofs.Chains.{leads_agree, leads_then}

-- nobody has let go what nobody has held
pub never_let_go : {n clock : ℕ} → unheld ≡ let_go n clock → ⊥
never_let_go e = let z : ◌≡◌ {A = ℕ} 0 1 = cc in omega arith

-- after a record the frontend is let go: it was so before, or the session that held it closes with it
module _ (f n clock : ℕ) (r : Record) where
  abbrev Before : Frontend → Type 0
  Before a = (a ≡ let_go n clock) ⊎ ((a ≡ held_by n) × (r.clock ≡ clock))

  held_not : {m : ℕ} {P : Type 0} → held_by m ≡ let_go n clock → P
  held_not e = let z : ◌≡◌ {A = ℕ} 0 1 = cc in absurd (omega arith)

  closed_held : (m : ℕ) → closed_by r (held_by m) ≡ let_go n clock → Before (held_by m)
  closed_held m =
      cond_keeps (λ (b : Frontend). b ≡ let_go n clock → Before (held_by m)) (eqb r.kind 3 && eqb r.session m) (let_go r.session r.clock) (held_by m)
      (λ y e.
      let p : r.session ≡ n = cc in
      let q : r.clock ≡ clock = cc in
      inr (ap held_by (sym (eqb-true _ _ (and_both (eqb r.kind 3) _ y).1) ∙ p), q)) (λ y e. held_not e)

  closed_before : (a : Frontend) → closed_by r a ≡ let_go n clock → Before a
  closed_before unheld e = inl (rw (and-false (eqb r.kind 3)) at e)
  closed_before (let_go m c) e = inl (rw (and-false (eqb r.kind 3)) at e)
  closed_before (held_by m) e = closed_held m e

  noted_before : (a : Frontend) → noted_by f r a ≡ let_go n clock → Before a
  noted_before a =
      cond_keeps (λ (b : Frontend). b ≡ let_go n clock → Before a) (eqb r.frontend f) _ a
      (λ y. cond_keeps (λ (b : Frontend). b ≡ let_go n clock → Before a) (eqb r.kind 1) (held_by r.session) (closed_by r a) (λ k e. held_not e) (λ k. closed_before a))
      (λ y. inl)

record_noted : (f n clock : ℕ) (k : List Record) (r : Record) → audited f (k ++ (r ∷ [])) ≡ let_go n clock → (audited f k ≡ let_go n clock) ⊎ ((audited f k ≡ held_by n) × (r.clock ≡ clock))
record_noted f n clock k r e = noted_before f n clock r (audited f k) (sym (audited_more f unheld k r) ∙ e)

-- what a change that writes a record writes
note_noted : {u : SatBox} {d : Did} → Notes u d → (f n clock : ℕ) (k : List Record) → audited f (k ++ d.records) ≡ let_go n clock
    → (audited f k ≡ let_go n clock) ⊎ ((audited f k ≡ held_by n) × (d.satbox.clock ≡ clock))
unfolding close_one noting reseated
note_noted {u} (opens_as_owner s place b p q o) f n clock k e = record_noted f n clock k (record_of 1 0 s u) e
note_noted {u} (joins s place b p q o) f n clock k e = record_noted f n clock k (record_of 2 0 s u) e
note_noted {u} (closes cause place p) f n clock k e = record_noted f n clock k (record_of 3 cause (session_at u place) u) e

module _ (f n clock : ℕ) (z : f ≡ 0 → ⊥) {h : List Record} {t : SatBox} (new : audited f h ≡ let_go n clock → ⊥) where
  -- a chain that goes on after it
  on : {k l : List Record} {u v : SatBox} → Leads k u l v → LetGo h t k u f n clock → LetGo h t l v f n clock
  on p (lets a c y n q b) = lets a c y n q (leads_then b p)

  at_noted : {k : List Record} {u : SatBox} {d : Did} → Leads h t k u → Notes u d → Agree (k ++ d.records) d.satbox → audited f (k ++ d.records) ≡ let_go n clock
      → (audited f k ≡ let_go n clock → LetGo h t k u f n clock) → (audited f k ≡ let_go n clock) ⊎ ((audited f k ≡ held_by n) × (d.satbox.clock ≡ clock))
      → LetGo h t (k ++ d.records) d.satbox f n clock
  at_noted p c g e ih (inl q) = on (noted (begun (leads_agree p)) c g) (ih q)
  at_noted p c g e ih (inr q) =
      lets p c ((leads_agree p).same f n z ∙ (ap (is_holder n) q.0 ∙ eq-eqb n n refl)) (g.same f n z ∙ ap (is_holder n) e) q.1 (begun g)

  -- THE MOMENT
  pub let_go_law : {k : List Record} {u : SatBox} → Leads h t k u → audited f k ≡ let_go n clock → LetGo h t k u f n clock
  let_go_law (begun g) e = absurd (new e)
  let_go_law (quiet p q g) e = on (quiet (begun (leads_agree p)) q g) (let_go_law p e)
  let_go_law (noted {k = k} p c g) e = at_noted p c g e (λ q. let_go_law p q) (note_noted c f n clock k e)
