-- The number that is drawn: the draw ends, since each number that it passes is taken, so that fewer taken numbers are ahead of it; and what
-- it gives is not taken. Assumes nothing.
use Rattle.std.proofs.Common.{◌≡◌, ℕ, zero, suc, ◌+◌, ◌-◌, ◌%◌, ◌<◌, ◌≤◌, Bool, true, false, ◌||◌, eqb, leb, List, [], ◌∷◌, length, sym, refl, subst, arith, eq-eqb, ne_eqb, eqb-true, le-leb, leb-true}
use mathlib.Core.Bool.{or-true}
use borrow.Author.Tests.{eqb-false, lt-leb}
use Rattle.scan.proofs.Bools.{never, Case, case, is, isnt, Same, sames, same, other, or_second, or_neither}
use Rattle.table.specs.Table.{count, any, no_session, has_number}
use Rattle.table.proofs.Counts.{bit, count_le, count_length}
use Rattle.finding.specs.Finding.{first_free, drawn}
use Rattle.table.specs.declared.Session.{Session}

-- a number is taken by the 0 or by an open session; the one after it; and the first of so many that is not taken
abbrev pub is_taken : List Session → ℕ → Bool
is_taken l n = eqb n 0 || any (has_number n) l

abbrev pub next_number : ℕ → ℕ
next_number n = (n + 1) % 4294967296

abbrev pub drawn_from : ℕ → List Session → ℕ → ℕ
drawn_from more l n = first_free (is_taken l) next_number more n

-- what passes q passes p, and an element that passes r passes p and not q: there are more of p
count_lt : {A : Type 0} (p q r : A → Bool) → ((a : A) → q a ≡ true → p a ≡ true) → ((a : A) → r a ≡ true → bit (q a) < bit (p a)) → (l : List A) → any r l ≡ true → count q l < count p l
count_lt p q r h k [] e = never e refl
count_lt p q r h k (a ∷ l) e = by (case (r a)) (count_lt p q r h k l)
  where
    by : Case (r a) → (any r l ≡ true → count q l < count p l) → count q (a ∷ l) < count p (a ∷ l)
    by (is y) less = omega (arith, k a y, count_le p q h l)
    by (isnt n) less = omega (arith, count_le p q h (a ∷ []), less (or_second (r a) (any r l) e n))

-- how far x is from the draw, counting up
abbrev pub distance : ℕ → ℕ → ℕ
distance draw x = (x + (4294967296 - draw)) % 4294967296

-- a session is at n or after it, counting up from the draw
abbrev pub is_ahead : ℕ → ℕ → Session → Bool
is_ahead draw n s = leb (distance draw n) (distance draw s.number)

-- how many of what takes numbers is still ahead: what falls with each number passed. A free place takes 0
abbrev pub to_pass : List Session → ℕ → ℕ → ℕ
to_pass l draw n = count (is_ahead draw n) (no_session ∷ l)

distance_next : (d n : ℕ) → d < 4294967296 → n < 4294967296 → distance d n < 4294967295 → distance d (next_number n) ≡ distance d n + 1
distance_next d n hd hn h = omega arith

passed : (l : List Session) (d n : ℕ) → d < 4294967296 → n < 4294967296 → distance d n < 4294967295 → any (has_number n) l ≡ true → count (is_ahead d (next_number n)) l < count (is_ahead d n) l
passed l d n hd hn h e = count_lt (is_ahead d n) (is_ahead d (next_number n)) (has_number n) more here l e
  where
    more : (s : Session) → is_ahead d (next_number n) s ≡ true → is_ahead d n s ≡ true
    more s q =
        le-leb (distance d n) (distance d s.number)
        (omega (arith, leb-true (distance d (next_number n)) (distance d s.number) q, distance_next d n hd hn h))

    here : (s : Session) → has_number n s ≡ true → bit (is_ahead d (next_number n) s) < bit (is_ahead d n s)
    here s q =
        let z : s.number ≡ n = eqb-true _ _ q in
        rw (lt-leb (distance d (next_number n)) (distance d s.number) (omega (arith, distance_next d n hd hn h)), le-leb (distance d n) (distance d s.number) (omega arith))
        (omega arith)

-- 0 is taken as a free place has it
taken_any : (l : List Session) (n : ℕ) → is_taken l n ≡ true → any (has_number n) (no_session ∷ l) ≡ true
taken_any l n e = by (sames n 0)
  where
    by : Same n 0 → any (has_number n) (no_session ∷ l) ≡ true
    by (same z) = rw z
    by (other z) = rw (ne_eqb 0 n (λ q. z (sym q))) (or_second (eqb n 0) (any (has_number n) l) e (ne_eqb n 0 z))

-- the draw has come to n, and there are `more` numbers to look at after it
pub record Drawing (l : List Session) (draw n more : ℕ) : Type 0 where
  pub from : draw < 4294967296
  pub fits : n < 4294967296
  pub gone : distance draw n + more ≡ 33
  pub enough : to_pass l draw n ≤ more
  pub same : drawn_from (suc more) l n ≡ drawn l draw

pub drawing_start : (l : List Session) (draw : ℕ) → length l ≡ 32 → draw < 4294967296 → Drawing l draw draw 33
unfolding drawn
drawing_start l draw long h =
    record { from = h; fits = h; gone = omega arith; enough = omega (arith, count_length (is_ahead draw draw) (no_session ∷ l)); same = refl }

module _ {l : List Session} {draw n : ℕ} where
  pub drawing_end : {more : ℕ} → Drawing l draw n more → is_taken l n ≡ false → n ≡ drawn l draw
  drawing_end d e = rw e at d.same

  free_end : {more : ℕ} → Drawing l draw n more → is_taken l n ≡ false → is_taken l (drawn l draw) ≡ false
  free_end d e = subst (λ k. is_taken l k ≡ false) (drawing_end d e) e

  less : {more : ℕ} → Drawing l draw n more → is_taken l n ≡ true → to_pass l draw (next_number n) < to_pass l draw n
  less d e = passed (no_session ∷ l) draw n d.from d.fits (omega (arith, d.gone)) (taken_any l n e)

  drawing_none : Drawing l draw n 0 → is_taken l n ≡ true → ⊥
  drawing_none d e = omega (arith, less d e, d.enough)

  drawing_suc : {more : ℕ} → Drawing l draw n (suc more) → is_taken l n ≡ true → Drawing l draw (next_number n) more
  drawing_suc d e =
      record {
        from = d.from;
        fits = omega arith;
        gone = omega (arith, distance_next draw n d.from d.fits (omega (arith, d.gone)), d.gone);
        enough = omega (arith, less d e, d.enough);
        same = rw e at d.same;
      }

  more_of : {more : ℕ} → Drawing l draw n more → is_taken l n ≡ true → (fewer : ℕ) × Drawing l draw (next_number n) fewer
  more_of {more = zero} d e = absurd (drawing_none d e)
  more_of {more = suc fewer} d e = (fewer, drawing_suc d e)

  -- the number is taken, and the draw goes on to the next
  module _ {more next : ℕ} (d : Drawing l draw n more) (e : is_taken l n ≡ true) (q : next ≡ next_number n) where
    pub drawing_less : to_pass l draw next < to_pass l draw n
    drawing_less = subst (λ k. to_pass l draw k < to_pass l draw n) (sym q) (less d e)

    pub drawing_more : (fewer : ℕ) × Drawing l draw next fewer
    drawing_more = subst (λ k. (fewer : ℕ) × Drawing l draw k fewer) (sym q) (more_of d e)

-- what the two tests of a number say
module _ (l : List Session) (n : ℕ) where
  pub taken_zero : n ≡ 0 → is_taken l n ≡ true
  taken_zero e = rw (eq-eqb n 0 e)

  pub taken_open : any (has_number n) l ≡ true → is_taken l n ≡ true
  taken_open e = rw e (or-true (eqb n 0))

  pub taken_not : (n ≡ 0 → ⊥) → any (has_number n) l ≡ false → is_taken l n ≡ false
  taken_not z e = rw (ne_eqb n 0 z) e

drawing_free : {l : List Session} {draw : ℕ} (more n : ℕ) → Drawing l draw n more → is_taken l (drawn l draw) ≡ false
drawing_free {l} {draw} zero n d = by (case (is_taken l n))
  where
    by : Case (is_taken l n) → is_taken l (drawn l draw) ≡ false
    by (is y) = absurd (drawing_none d y)
    by (isnt z) = free_end d z
drawing_free {l} {draw} (suc more) n d = by (case (is_taken l n)) (drawing_free more (next_number n))
  where
    by : Case (is_taken l n) → (Drawing l draw (next_number n) more → is_taken l (drawn l draw) ≡ false) → is_taken l (drawn l draw) ≡ false
    by (is y) next = next (drawing_suc d y)
    by (isnt z) next = free_end d z

-- "the first non-zero number not open": what is drawn is neither 0 nor open
module _ (l : List Session) (draw : ℕ) (long : length l ≡ 32) (h : draw < 4294967296) where
  pub drawn_free : is_taken l (drawn l draw) ≡ false
  drawn_free = drawing_free 33 draw (drawing_start l draw long h)

  pub drawn_nonzero : drawn l draw ≡ 0 → ⊥
  drawn_nonzero = eqb-false (drawn l draw) 0 (or_neither (eqb (drawn l draw) 0) (any (has_number (drawn l draw)) l) drawn_free).0

  pub drawn_new : any (has_number (drawn l draw)) l ≡ false
  drawn_new = (or_neither (eqb (drawn l draw) 0) (any (has_number (drawn l draw)) l) drawn_free).1
