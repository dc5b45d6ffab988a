-- Who holds which frontend in a table, and what each change of the sessions and the streams does to that: of a closing, and of a stream that is freed, `Releasing`
-- says it. Assumes nothing.
use mathlib.Core.Path.{◌≡◌, refl, sym, ◌∙◌, ap, subst}
use mathlib.Core.Bool.{Bool, true, false, cond, ◌&&◌, ◌||◌, and-false}
use mathlib.Core.List.{List, [], ◌∷◌, ◌++◌, foldl}
use Prim.Native.Nat.{ℕ, zero, suc, ◌<◌}
use native.Mathlib.Omega.{arith}
use lib.Dec.{eqb}
use lib.ListN.{length, get_or, set}
use borrow.Author.Tests.{eq-eqb, ne_eqb, eqb-true, eqb-false}
use Rattle.scan.proofs.Bools.{never, and_both, Case, is, isnt, case, Same, same, other, sames, or_swap, or_neither, cond_keeps}
use Rattle.journal.specs.declared.Record.{Record}
use Rattle.stream.specs.Streams.{past_stream}
use Rattle.stream.specs.declared.Stream.{Stream}
use Rattle.table.specs.Table.{any, no_session, has_number, with_stream, is_on, owns}
use Rattle.table.proofs.Ids.{stream_in}
use Rattle.table.specs.declared.Session.{Session}
use Rattle.table.proofs.Counts.{get_or_set_alike}
use Rattle.serving.proofs.Kept.{Alike}
use Rattle.promises.proofs.Retuning.{stream_other}
use Rattle.lives.specs.Audit.{Frontend, unheld, held_by, let_go, is_held_by, closed_by, noted_by}

-- SOME ELEMENT PASSES, after one is set
module _ {A : Type 0} where
  pub any_set_same : (p : A → Bool) (l : List A) (i : ℕ) (v d : A) → p v ≡ p (get_or l i d) → any p (set l i v) ≡ any p l
  any_set_same p [] i v d e = refl
  any_set_same p (a ∷ l) zero v d e = rw e
  any_set_same p (a ∷ l) (suc i) v d e = rw (any_set_same p l i v d e)

  pub any_set_new : (p : A → Bool) (l : List A) (i : ℕ) (v d : A) → i < length l → p (get_or l i d) ≡ false → any p (set l i v) ≡ p v || any p l
  any_set_new p [] i v d h e = absurd (omega arith)
  any_set_new p (a ∷ l) zero v d h e = rw e
  any_set_new p (a ∷ l) (suc i) v d h e = rw (any_set_new p l i v d (omega arith) e) (or_swap (p a) (p v) (any p l))

  -- two tests that say the same of each element
  pub any_alike : (p q : A → Bool) (l : List A) (d : A) → ((i : ℕ) → p (get_or l i d) ≡ q (get_or l i d)) → any p l ≡ any q l
  any_alike p q [] d h = refl
  any_alike p q (a ∷ l) d h = rw (h 0, any_alike p q l d (λ i. h (suc i)))

  pub any_none : (p : A → Bool) (l : List A) (d : A) → ((i : ℕ) → p (get_or l i d) ≡ false) → any p l ≡ false
  any_none p [] d h = refl
  any_none p (a ∷ l) d h = rw (h 0) (any_none p l d (λ i. h (suc i)))

  -- what passes p passes q
  pub any_less : (p q : A → Bool) → ((a : A) → p a ≡ true → q a ≡ true) → (l : List A) → any q l ≡ false → any p l ≡ false
  any_less p q h [] e = refl
  any_less p q h (a ∷ l) e = let n = or_neither (q a) (any q l) e in rw (fails p q h a n.0 (case (p a))) (any_less p q h l n.1)
    where
      fails : (p q : A → Bool) → ((a : A) → p a ≡ true → q a ≡ true) → (a : A) → q a ≡ false → Case (p a) → p a ≡ false
      fails p q h a n (is y) = never (h a y) n
      fails p q h a n (isnt y) = y

-- OF ONE SESSION: the session n holds a frontend, in a history and in a table
abbrev pub is_holder : ℕ → Frontend → Bool
is_holder n a = is_held_by (λ m. eqb m n) a

abbrev pub keeps : List Stream → ℕ → ℕ → Session → Bool
keeps ms f n s = owns s.stream s && (has_number n s && eqb (stream_in ms s.stream).frontend f)

-- THE AUDIT, one record more
abbrev audited_from : ℕ → Frontend → List Record → Frontend
audited_from f a rs = foldl (λ b r. noted_by f r b) a rs

pub audited_more : (f : ℕ) (a : Frontend) (rs : List Record) (r : Record) → audited_from f a (rs ++ (r ∷ [])) ≡ noted_by f r (audited_from f a rs)
audited_more f a [] r = refl
audited_more f a (q ∷ rs) r = audited_more f (noted_by f q a) rs r

-- a joiner's opening changes nothing
joined_still : (r : Record) → r.kind ≡ 2 → (a : Frontend) → closed_by r a ≡ a
joined_still r e a = rw e

-- after a session's closing it holds nothing there, and every other holds what it held
none_step : (r : Record) → r.kind ≡ 3 → (m : ℕ) → Same r.session m → is_holder r.session (closed_by r (held_by m)) ≡ false
none_step r e m (same q) = rw (e, eq-eqb r.session m q)
none_step r e m (other q) = rw (e, ne_eqb r.session m q) (ne_eqb m r.session (λ z. q (sym z)))

closed_none : (r : Record) → r.kind ≡ 3 → (a : Frontend) → is_holder r.session (closed_by r a) ≡ false
closed_none r e unheld = rw e
closed_none r e (let_go m c) = rw e
closed_none r e (held_by m) = none_step r e m (sames r.session m)

closed_others : (r : Record) (n : ℕ) → (r.session ≡ n → ⊥) → (a : Frontend) → is_holder n (closed_by r a) ≡ is_holder n a
closed_others r n h unheld = rw (and-false (eqb r.kind 3))
closed_others r n h (let_go m c) = rw (and-false (eqb r.kind 3))
closed_others r n h (held_by m) =
    cond_keeps (λ (a : Frontend). is_holder n a ≡ eqb m n) (eqb r.kind 3 && eqb r.session m) (let_go r.session r.clock) (held_by m)
    (λ y. sym (ne_eqb m n (λ q. h (eqb-true _ _ (and_both (eqb r.kind 3) _ y).1 ∙ q)))) (λ y. refl)

-- the record of a closing
module _ (f : ℕ) (r : Record) (e : r.kind ≡ 3) (a : Frontend) where
  closes : noted_by f r a ≡ cond (eqb r.frontend f) (closed_by r a) a
  closes = rw e

  pub noted_none : ((r.frontend ≡ f → ⊥) → is_holder r.session a ≡ false) → is_holder r.session (noted_by f r a) ≡ false
  noted_none h =
      rw closes
      (cond_keeps (λ (b : Frontend). is_holder r.session b ≡ false) (eqb r.frontend f) (closed_by r a) a
      (λ y. closed_none r e a) (λ y. h (eqb-false r.frontend f y)))

  pub noted_others : (n : ℕ) → (r.session ≡ n → ⊥) → is_holder n (noted_by f r a) ≡ is_holder n a
  noted_others n h =
      rw closes
      (cond_keeps (λ (b : Frontend). is_holder n b ≡ is_holder n a) (eqb r.frontend f) (closed_by r a) a (λ y. closed_others r n h a) (λ y. refl))

-- of a joiner's opening
pub noted_joined : (f : ℕ) (r : Record) → r.kind ≡ 2 → (a : Frontend) → noted_by f r a ≡ a
noted_joined f r e a =
    let k : cond (eqb r.kind 1) (held_by r.session) (closed_by r a) ≡ closed_by r a = rw e in
    cond_keeps (λ (b : Frontend). b ≡ a) (eqb r.frontend f) (cond (eqb r.kind 1) (held_by r.session) (closed_by r a)) a
    (λ y. k ∙ joined_still r e a) (λ y. refl)

-- OF THE LISTS: who keeps a frontend has its number, and owns his stream
pub keeps_has : (ms : List Stream) (f n : ℕ) (s : Session) → keeps ms f n s ≡ true → has_number n s ≡ true
keeps_has ms f n s e = (and_both (has_number n s) _ (and_both (owns s.stream s) _ e).1).0

pub keeps_other : (ms : List Stream) (f n : ℕ) (s : Session) → has_number n s ≡ false → keeps ms f n s ≡ false
keeps_other ms f n s e = rw e (and-false (owns s.stream s))

pub keeps_feed : (ms : List Stream) (f n : ℕ) (s : Session) → ((stream_in ms s.stream).frontend ≡ f → ⊥) → keeps ms f n s ≡ false
keeps_feed ms f n s h = rw (ne_eqb (stream_in ms s.stream).frontend f h, and-false (has_number n s), and-false (owns s.stream s))

-- A STREAM CHANGES that nobody is on
pub off_keeps : (ms : List Stream) (id : ℕ) (m : Stream) (f n : ℕ) (s : Session) → is_on id s ≡ false → Case (owns s.stream s) → keeps (with_stream id m ms) f n s ≡ keeps ms f n s
off_keeps ms id m f n s off (isnt z) = rw z
off_keeps ms id m f n s off (is z) =
    let away : s.stream ≡ id → ⊥ = λ q. never (subst (λ k. is_on k s ≡ true) q (and_both (is_on s.stream s) _ z).0) off in
    ap (λ (x : Stream). owns s.stream s && (has_number n s && eqb x.frontend f)) (stream_other id s.stream m ms away)

-- A STREAM CHANGES, but keeps its frontend
with_feed : (ms : List Stream) (id : ℕ) (m : Stream) → m.frontend ≡ (stream_in ms id).frontend → (k : ℕ) → (stream_in (with_stream id m ms) k).frontend ≡ (stream_in ms k).frontend
with_feed ms zero m e k = refl
with_feed ms (suc i) m e zero = refl
with_feed ms (suc i) m e (suc k) = get_or_set_alike (λ (x : Stream). x.frontend) ms i k m past_stream e

pub fed_keeps : (ms : List Stream) (id : ℕ) (m : Stream) → m.frontend ≡ (stream_in ms id).frontend → (l : List Session) (f n : ℕ) → any (keeps (with_stream id m ms) f n) l ≡ any (keeps ms f n) l
fed_keeps ms id m e l f n =
    any_alike (keeps (with_stream id m ms) f n) (keeps ms f n) l no_session
    (λ i. let s = get_or l i no_session in ap (λ k. owns s.stream s && (has_number n s && eqb k f)) (with_feed ms id m e s.stream))

-- A SESSION CHANGES, but keeps its number, its stream and its part
pub alike_keeps : (ms : List Stream) (l : List Session) (i : ℕ) (s : Session) → Alike s (get_or l i no_session) → (f n : ℕ) → any (keeps ms f n) (set l i s) ≡ any (keeps ms f n) l
alike_keeps ms l i s k f n = any_set_same (keeps ms f n) l i s no_session (rw (k.number, k.stream, k.owner))
