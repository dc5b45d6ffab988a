-- Counts: what a change of a list does to how many of it pass a test, and what a count says of the elements. No law asks that a place
-- is within the list, where the default it is read by passes as an unused place does. Assumes nothing.
use mathlib.Core.Path.{◌≡◌, refl, sym, ◌∙◌, ap, subst}
use mathlib.Core.Bool.{Bool, true, false, not, cond, ◌||◌}
use mathlib.Core.List.{List, [], ◌∷◌, map}
use Prim.Native.Nat.{ℕ, zero, suc, ◌+◌, ◌≤◌, ◌<◌}
use native.Mathlib.Omega.{arith}
use lib.Dec.{eqb}
use lib.ListN.{length, get_or, set}
use borrow.Author.Tests.{eqb-true, eqb-false, eq-eqb, ne_eqb, not-true}
use Rattle.scan.specs.Lists.{all, first}
use Rattle.scan.proofs.Bools.{never, and_both, Case, is, isnt, case, Same, same, other, sames, both, or_second, or_neither, cond_keeps}
use Rattle.table.specs.Table.{count, any, is_among, are_distinct}

-- 1 for true
abbrev pub bit : Bool → ℕ
bit b = cond b 1 0

pub bit_no : {b : Bool} → b ≡ false → bit b ≡ 0
bit_no e = rw e

pub bit_yes : {b : Bool} → b ≡ true → bit b ≡ 1
bit_yes e = rw e

bit_zero : (b : Bool) → bit b ≡ 0 → b ≡ false
bit_zero true e = absurd (omega arith)
bit_zero false e = refl

bit_more : (x y : Bool) → (y ≡ true → x ≡ true) → bit y ≤ bit x
bit_more true true h = omega arith
bit_more true false h = omega arith
bit_more false true h = never (h refl) refl
bit_more false false h = omega arith

module _ {A : Type 0} where
  pub count_none : (p : A → Bool) (l : List A) → any p l ≡ false → count p l ≡ 0
  count_none p [] e = refl
  count_none p (a ∷ l) e =
      let q = or_neither (p a) (any p l) e in
      omega (arith, bit_no q.0, count_none p l q.1)

  pub none_count : (p : A → Bool) (l : List A) → count p l ≡ 0 → any p l ≡ false
  none_count p [] e = refl
  none_count p (a ∷ l) e = rw (bit_zero (p a) (omega arith)) (none_count p l (omega arith))

  pub count_length : (p : A → Bool) (l : List A) → count p l ≤ length l
  count_length p [] = omega arith
  count_length p (a ∷ l) = omega (arith, bit_more true (p a) (λ e. refl), count_length p l)

  count_same : (p q : A → Bool) → ((a : A) → p a ≡ q a) → (l : List A) → count p l ≡ count q l
  count_same p q h [] = refl
  count_same p q h (a ∷ l) = rw (h a, count_same p q h l)

  pub count_map : {B : Type 0} (p : A → Bool) (g : B → A) (l : List B) → count p (map g l) ≡ count (λ b. p (g b)) l
  count_map p g [] = refl
  count_map p g (b ∷ l) = ap (λ n. bit (p (g b)) + n) (count_map p g l)

  -- what passes q passes p: there are as many of p or more
  pub count_le : (p q : A → Bool) → ((a : A) → q a ≡ true → p a ≡ true) → (l : List A) → count q l ≤ count p l
  count_le p q h [] = omega arith
  count_le p q h (a ∷ l) = omega (arith, bit_more (p a) (q a) (h a), count_le p q h l)

  -- one element is set: the count changes by what it counted for and what it counts for
  pub count_set : (p : A → Bool) (l : List A) (i : ℕ) (v d : A) → i < length l → count p (set l i v) + bit (p (get_or l i d)) ≡ count p l + bit (p v)
  count_set p [] i v d h = absurd (omega arith)
  count_set p (a ∷ l) zero v d h = omega arith
  count_set p (a ∷ l) (suc i) v d h = omega (arith, count_set p l i v d (omega arith))

  -- at a place or past the end: it adds one at most
  pub count_set_le : (p : A → Bool) (l : List A) (i : ℕ) (v : A) → count p (set l i v) ≤ count p l + bit (p v)
  count_set_le p [] i v = omega arith
  count_set_le p (a ∷ l) zero v = omega arith
  count_set_le p (a ∷ l) (suc i) v = omega (arith, count_set_le p l i v)

  -- one that counts for as much is set
  pub count_set_same : (p : A → Bool) (l : List A) (i : ℕ) (v d : A) → p v ≡ p (get_or l i d) → count p (set l i v) ≡ count p l
  count_set_same p [] i v d e = refl
  count_set_same p (a ∷ l) zero v d e = rw e
  count_set_same p (a ∷ l) (suc i) v d e = rw (count_set_same p l i v d e)

  -- none passes: not the one at a place
  pub count_zero_at : (p : A → Bool) (l : List A) (i : ℕ) (d : A) → p d ≡ false → count p l ≡ 0 → p (get_or l i d) ≡ false
  count_zero_at p [] i d n e = n
  count_zero_at p (a ∷ l) zero d n e = bit_zero (p a) (omega arith)
  count_zero_at p (a ∷ l) (suc i) d n e = count_zero_at p l i d n (omega arith)

  -- one at a place passes
  pub count_one : (p : A → Bool) (l : List A) (i : ℕ) (d : A) → p d ≡ false → p (get_or l i d) ≡ true → 1 ≤ count p l
  count_one p [] i d n e = never e n
  count_one p (a ∷ l) zero d n e = omega (arith, bit_yes e)
  count_one p (a ∷ l) (suc i) d n e = omega (arith, count_one p l i d n e)

  -- each passes: the one at a place does, and back
  pub all_at : (p : A → Bool) (l : List A) (i : ℕ) (d : A) → p d ≡ true → all p l ≡ true → p (get_or l i d) ≡ true
  all_at p [] i d h e = h
  all_at p (a ∷ l) zero d h e = (and_both (p a) (all p l) e).0
  all_at p (a ∷ l) (suc i) d h e = all_at p l i d h (and_both (p a) (all p l) e).1

  pub at_all : (p : A → Bool) (l : List A) (d : A) → ((i : ℕ) → p (get_or l i d) ≡ true) → all p l ≡ true
  at_all p [] d h = refl
  at_all p (a ∷ l) d h = both (h 0) (at_all p l d (λ i. h (suc i)))

  -- each passes p, and what passes p does not pass q: none passes q
  pub all_count : (p q : A → Bool) → ((a : A) → p a ≡ true → q a ≡ false) → (l : List A) → all p l ≡ true → count q l ≡ 0
  all_count p q h [] e = refl
  all_count p q h (a ∷ l) e =
      let r = and_both (p a) (all p l) e in
      omega (arith, bit_no (h a r.0), all_count p q h l r.1)

-- numbers are distinct exactly if none but 0 occurs twice
abbrev pub is_number : ℕ → ℕ → Bool
is_number n m = eqb m n

distinct_step : (n m : ℕ) (ns : List ℕ) → eqb m 0 || not (is_among m ns) ≡ true → (n ≡ 0 → ⊥) → Case (eqb m n) → count (is_number n) ns ≤ 1 → bit (eqb m n) + count (is_number n) ns ≤ 1
distinct_step n m ns e h (isnt z) c = omega (arith, bit_no z)
distinct_step n m ns e h (is z) c =
    let f : eqb n 0 || not (is_among n ns) ≡ true = subst (λ k. eqb k 0 || not (is_among k ns) ≡ true) (eqb-true m n z) e in
    omega (arith, bit_yes z, count_none (is_number n) ns (not-true _ (or_second _ _ f (ne_eqb n 0 h))))

pub distinct_count : (ns : List ℕ) → are_distinct ns ≡ true → (n : ℕ) → (n ≡ 0 → ⊥) → count (is_number n) ns ≤ 1
distinct_count [] e n h = omega arith
distinct_count (m ∷ ns) e n h =
    let r = and_both (eqb m 0 || not (is_among m ns)) (are_distinct ns) e in
    distinct_step n m ns r.0 h (case (eqb m n)) (distinct_count ns r.1 n h)

count_step : (m : ℕ) (ns : List ℕ) → ((n : ℕ) → (n ≡ 0 → ⊥) → bit (eqb m n) + count (is_number n) ns ≤ 1) → Case (eqb m 0) → eqb m 0 || not (is_among m ns) ≡ true
count_step m ns h (is z) = rw z
count_step m ns h (isnt z) =
    rw (z, none_count (is_number m) ns (omega (arith, h m (eqb-false _ _ z), bit_yes (eq-eqb m m refl))))

pub count_distinct : (ns : List ℕ) → ((n : ℕ) → (n ≡ 0 → ⊥) → count (is_number n) ns ≤ 1) → are_distinct ns ≡ true
count_distinct [] h = refl
count_distinct (m ∷ ns) h = both (count_step m ns h (case (eqb m 0))) (count_distinct ns (λ n g. omega (arith, h n g)))

-- a key that occurs nowhere is set, at any place: keys but 0 still occur once at most
module _ {A : Type 0} (key : A → ℕ) (l : List A) (i : ℕ) (v : A) (once : (n : ℕ) → (n ≡ 0 → ⊥) → count (λ a. eqb (key a) n) l ≤ 1) (new : count (λ a. eqb (key a) (key v)) l ≡ 0) where
  once_by : (n : ℕ) → (n ≡ 0 → ⊥) → Same (key v) n → count (λ a. eqb (key a) n) (set l i v) ≤ 1
  once_by n h (same e) =
      let z : count (λ a. eqb (key a) n) l ≡ 0 = subst (λ m. count (λ a. eqb (key a) m) l ≡ 0) e new in
      omega (arith, count_set_le (λ a. eqb (key a) n) l i v, bit_yes (eq-eqb (key v) n e))
  once_by n h (other e) = omega (arith, count_set_le (λ a. eqb (key a) n) l i v, bit_no (ne_eqb (key v) n e), once n h)

  pub once_set : (n : ℕ) → (n ≡ 0 → ⊥) → count (λ a. eqb (key a) n) (set l i v) ≤ 1
  once_set n h = once_by n h (sames (key v) n)

-- each element that passes q made z
module _ {A : Type 0} (q : A → Bool) (z : A) where
  abbrev pub cleared : A → A
  cleared a = cond (q a) z a

  cleared_less : (p : A → Bool) → p z ≡ false → (a : A) → p (cleared a) ≡ true → Case (q a) → p a ≡ true
  cleared_less p h a e (is y) = never (rw y at e) h
  cleared_less p h a e (isnt y) = rw y at e

  pub count_cleared_le : (p : A → Bool) → p z ≡ false → (l : List A) → count p (map cleared l) ≤ count p l
  count_cleared_le p h l = rw count_map (count_le p (λ a. p (cleared a)) (λ a e. cleared_less p h a e (case (q a))) l)

  cleared_same : (p : A → Bool) → p z ≡ false → (a : A) → (p a ≡ true → q a ≡ false) → Case (q a) → Case (p a) → p (cleared a) ≡ p a
  cleared_same p h a k (isnt y) c = rw y
  cleared_same p h a k (is y) (isnt x) = rw (y, h, x)
  cleared_same p h a k (is y) (is x) = never y (k x)

  -- p and q exclude each other
  pub count_cleared_same : (p : A → Bool) → p z ≡ false → ((a : A) → p a ≡ true → q a ≡ false) → (l : List A) → count p (map cleared l) ≡ count p l
  count_cleared_same p h k l = count_map p cleared l ∙ count_same (λ a. p (cleared a)) p (λ a. cleared_same p h a (k a) (case (q a)) (case (p a))) l

  cleared_no : q z ≡ false → (a : A) → Case (q a) → q (cleared a) ≡ false
  cleared_no h a (is y) = rw (y, h)
  cleared_no h a (isnt y) = rw (y, y)

  pub count_cleared_none : q z ≡ false → (l : List A) → count q (map cleared l) ≡ 0
  count_cleared_none h [] = refl
  count_cleared_none h (a ∷ l) = omega (arith, bit_no (cleared_no h a (case (q a))), count_cleared_none h l)

  -- what z and each element have, each has afterwards
  pub all_cleared : (P : A → Type 0) (l : List A) (d : A) → P z → P d → ((i : ℕ) → P (get_or l i d)) → (i : ℕ) → P (get_or (map cleared l) i d)
  all_cleared P [] d h k g i = k
  all_cleared P (a ∷ l) d h k g zero = cond_keeps P (q a) z a (λ e. h) (λ e. g 0)
  all_cleared P (a ∷ l) d h k g (suc i) = all_cleared P l d h k (λ j. g (suc j)) i

-- places after one is set: what v and each element have, each has
pub get_or_set_all : {A : Type 0} (P : A → Type 0) (l : List A) (i j : ℕ) (v d : A) → P v → P (get_or l j d) → P (get_or (set l i v) j d)
get_or_set_all P [] i j v d h k = k
get_or_set_all P (a ∷ l) zero zero v d h k = h
get_or_set_all P (a ∷ l) zero (suc j) v d h k = k
get_or_set_all P (a ∷ l) (suc i) zero v d h k = k
get_or_set_all P (a ∷ l) (suc i) (suc j) v d h k = get_or_set_all P l i j v d h k

-- v is like the one that it takes the place of: each place is as it was
pub get_or_set_alike : {A B : Type 0} (f : A → B) (l : List A) (i j : ℕ) (v d : A) → f v ≡ f (get_or l i d) → f (get_or (set l i v) j d) ≡ f (get_or l j d)
get_or_set_alike f [] i j v d e = refl
get_or_set_alike f (a ∷ l) zero zero v d e = e
get_or_set_alike f (a ∷ l) zero (suc j) v d e = refl
get_or_set_alike f (a ∷ l) (suc i) zero v d e = refl
get_or_set_alike f (a ∷ l) (suc i) (suc j) v d e = get_or_set_alike f l i j v d e

-- what v and the default have, the place where v is set has
pub get_or_set_here : {A : Type 0} (P : A → Type 0) (l : List A) (i : ℕ) (v d : A) → P v → P d → P (get_or (set l i v) i d)
get_or_set_here P [] i v d h k = k
get_or_set_here P (a ∷ l) zero v d h k = h
get_or_set_here P (a ∷ l) (suc i) v d h k = get_or_set_here P l i v d h k

-- the first that passes: it passes, and there is one where any is counted
module _ {A : Type 0} (p : A → Bool) where
  pub first_passes : (l : List A) (d : A) → first p l < length l → p (get_or l (first p l) d) ≡ true
  first_passes [] d h = absurd (omega arith)
  first_passes (a ∷ l) d h = by (case (p a)) h (first_passes l d)
    where
      by : Case (p a) → cond (p a) 0 (suc (first p l)) < suc (length l) → (first p l < length l → p (get_or l (first p l) d) ≡ true) → p (get_or (a ∷ l) (cond (p a) 0 (suc (first p l))) d) ≡ true
      by (is y) g k = rw y y
      by (isnt n) g k = rw n (k (let z = rw n at g in omega arith))

  pub first_some : (l : List A) → 1 ≤ count p l → first p l < length l
  first_some [] h = absurd (omega arith)
  first_some (a ∷ l) h = by (case (p a)) h (first_some l)
    where
      by : Case (p a) → 1 ≤ bit (p a) + count p l → (1 ≤ count p l → first p l < length l) → cond (p a) 0 (suc (first p l)) < suc (length l)
      by (is y) g k = rw y (omega arith)
      by (isnt n) g k = let i = k (omega (arith, bit_no n)) in rw n (omega arith)

-- a sum over the first n numbers
abbrev pub sum_to : ℕ → (ℕ → ℕ) → ℕ
sum_to zero f = 0
sum_to (suc n) f = f n + sum_to n f

pub sum_add : (n : ℕ) (f g : ℕ → ℕ) → sum_to n (λ i. f i + g i) ≡ sum_to n f + sum_to n g
sum_add zero f g = refl
sum_add (suc n) f g = omega (arith, sum_add n f g)

-- one of the terms
pub sum_term : (n : ℕ) (f : ℕ → ℕ) (i : ℕ) → i < n → f i ≤ sum_to n f
sum_term zero f i h = absurd (omega arith)
sum_term (suc n) f i h = by (sames i n) (sum_term n f i)
  where
    by : Same i n → (i < n → f i ≤ sum_to n f) → f i ≤ f n + sum_to n f
    by (same e) k = rw e (omega arith)
    by (other e) k = omega (arith, k (omega arith))

-- terms of at most one, of which one is none
pub sum_most : (n : ℕ) (f : ℕ → ℕ) → ((i : ℕ) → f i ≤ 1) → sum_to n f ≤ n
sum_most zero f h = omega arith
sum_most (suc n) f h = omega (arith, h n, sum_most n f h)

pub sum_less : (n : ℕ) (f : ℕ → ℕ) (i : ℕ) → ((k : ℕ) → f k ≤ 1) → i < n → f i ≡ 0 → sum_to n f < n
sum_less zero f i h g e = absurd (omega arith)
sum_less (suc n) f i h g e = by (sames i n) (λ k. sum_less n f i h k e)
  where
    by : Same i n → (i < n → sum_to n f < n) → f n + sum_to n f < suc n
    by (same q) k = let z : f n ≡ 0 = ap f (sym q) ∙ e in omega (arith, sum_most n f h)
    by (other q) k = omega (arith, h n, k (omega arith))
