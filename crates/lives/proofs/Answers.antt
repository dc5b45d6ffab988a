-- The auditor's answers in a well-formed table: which frontends are held; and where and when one was let go. Assumes nothing.
use mathlib.Core.Path.{◌≡◌, refl, sym, ◌∙◌, ap, subst}
use mathlib.Core.Bool.{Bool, true, false, cond, ◌||◌}
use mathlib.Core.List.{List, [], ◌∷◌}
use Prim.Native.Nat.{ℕ, zero, suc}
use native.Mathlib.Omega.{arith}
use lib.ListN.{get_or}
use borrow.Author.Tests.{eq-eqb, ne_eqb, eqb-true}
use Rattle.scan.specs.Lists.{first}
use Rattle.scan.proofs.Bools.{never, and_both, both, or_right, Case, is, isnt, case}
use Rattle.journal.specs.declared.Record.{Record}
use Rattle.stream.specs.Streams.{past_stream}
use Rattle.stream.specs.declared.Stream.{Stream}
use Rattle.table.specs.Table.{any, count, no_session, has_number, is_open, is_on, owns}
use Rattle.table.proofs.Ids.{stream_in}
use Rattle.finding.specs.Finding.{is_held}
use Rattle.table.specs.declared.Session.{Session}
use Rattle.table.specs.declared.SatBox.{SatBox}
use Rattle.table.proofs.Counts.{first_some, first_passes}
use Rattle.table.proofs.Rules.{fed}
use Rattle.closings.proofs.Keeping.{Whole}
use Rattle.lives.specs.Audit.{Frontend, unheld, held_by, let_go, audited, holds, Agree, is_held_by}
use Rattle.lives.proofs.Keepers.{is_holder, keeps}

-- WHICH FRONTENDS ARE HELD: a stream has one exactly if an open session owns that stream
any_first : {A : Type 0} (p : A → Bool) (l : List A) (d : A) → any p l ≡ true → p (get_or l (first p l) d) ≡ true
any_first p [] d e = never e refl
any_first p (a ∷ l) d e = by p a l d (case (p a)) e (any_first p l d)
  where
    by : {A : Type 0} (p : A → Bool) (a : A) (l : List A) (d : A) → Case (p a) → p a || any p l ≡ true → (any p l ≡ true → p (get_or l (first p l) d) ≡ true) → p (get_or (a ∷ l) (cond (p a) 0 (suc (first p l))) d) ≡ true
    by p a l d (is y) e k = rw y y
    by p a l d (isnt n) e k = rw n (k (rw n at e))

at_any : {A : Type 0} (p : A → Bool) (l : List A) (i : ℕ) (d : A) → p d ≡ false → p (get_or l i d) ≡ true → any p l ≡ true
at_any p [] i d n e = never e n
at_any p (a ∷ l) zero d n e = rw e
at_any p (a ∷ l) (suc i) d n e = or_right (p a) (at_any p l i d n e)

held_is : (f : ℕ) (ms : List Stream) → is_held f ms ≡ any (fed f) ms
held_is f [] = refl
held_is f (m ∷ ms) = rw (held_is f ms)

-- a stream that has it, by its ID
fed_held : (f : ℕ) (ms : List Stream) (id : ℕ) → (f ≡ 0 → ⊥) → (stream_in ms id).frontend ≡ f → is_held f ms ≡ true
fed_held f ms zero z e = absurd (z (sym e))
fed_held f ms (suc k) z e =
    held_is f ms ∙ at_any (fed f) ms k past_stream (ne_eqb 0 f (λ q. z (sym q))) (eq-eqb (get_or ms k past_stream).frontend f e)

keeps_own : (ms : List Stream) (f id : ℕ) (s : Session) → owns id s ≡ true → (stream_in ms id).frontend ≡ f → keeps ms f s.number s ≡ true
keeps_own ms f id s o e =
    let q : s.stream ≡ id = eqb-true s.stream id (and_both (is_open s) _ (and_both (is_on id s) _ o).0).1 in
    both (subst (λ k. owns k s ≡ true) (sym q) o)
    (both (eq-eqb s.number s.number refl) (eq-eqb (stream_in ms s.stream).frontend f (ap (λ k. (stream_in ms k).frontend) q ∙ e)))

module _ (h : List Record) (t : SatBox) (w : Whole t) (g : Agree h t) (f : ℕ) (z : f ≡ 0 → ⊥) where
  -- one that is held has an owner, who keeps it
  kept : is_held f t.streams ≡ true → (n : ℕ) × (holds t f n ≡ true)
  kept y =
      let id = suc (first (fed f) t.streams) in
      let e : (stream_in t.streams id).frontend ≡ f = eqb-true _ _ (any_first (fed f) t.streams past_stream (sym (held_is f t.streams) ∙ y)) in
      let one : count (owns id) t.sessions ≡ 1 = w.formed.seats.owners id (λ q. z (sym e ∙ q)) in
      let i = first (owns id) t.sessions in
      let s = get_or t.sessions i no_session in
      let o = first_passes (owns id) t.sessions no_session (first_some (owns id) t.sessions (omega arith)) in
      (s.number, at_any (keeps t.streams f s.number) t.sessions i no_session refl (keeps_own t.streams f id s o e))

  unkept : ((n : ℕ) → holds t f n ≡ false) → Case (is_held f t.streams) → is_held f t.streams ≡ false
  unkept none (isnt y) = y
  unkept none (is y) = let k = kept y in never k.1 (none k.0)

  held_by_law : (a : Frontend) → audited f h ≡ a → is_held f t.streams ≡ is_held_by (λ n. true) a
  held_by_law unheld e = unkept (λ n. g.same f n z ∙ ap (is_holder n) e) (case _)
  held_by_law (let_go m c) e = unkept (λ n. g.same f n z ∙ ap (is_holder n) e) (case _)
  held_by_law (held_by n) e =
      let y : holds t f n ≡ true = g.same f n z ∙ (ap (is_holder n) e ∙ eq-eqb n n refl) in
      let p = keeps t.streams f n in
      let s = get_or t.sessions (first p t.sessions) no_session in
      let k = and_both (has_number n s) _ (and_both (owns s.stream s) _ (any_first p t.sessions no_session y)).1 in
      fed_held f t.streams s.stream z (eqb-true _ _ k.1)

  pub held_agrees : is_held f t.streams ≡ is_held_by (λ n. true) (audited f h)
  held_agrees = held_by_law (audited f h) refl
