-- Ascending lists as sets of PIDs: what is in a list after one was added or removed, that it still ascends, and that the list is
-- determined by what is in it. Assumes nothing.
use mathlib.Core.Path.{◌≡◌, refl, ap, ap₂, ◌∙◌, sym}
use mathlib.Core.Bool.{Bool, true, false, not, cond, ◌&&◌, ◌||◌, and-true, and-false}
use mathlib.Core.List.{List, [], ◌∷◌}
use Prim.Native.Nat.{ℕ, suc, ◌≤◌, ◌<◌}
use native.Mathlib.Decide.{dec_lt}
use native.Mathlib.Omega.{arith}
use lib.Dec.{eqb, leb, ltb}
use borrow.Author.Tests.{leb-true, le-leb, ltb-true, ltb-false, eqb-true, eqb-false, eq-eqb, ne_eqb}
use Rattle.scan.specs.Lists.{all}
use Rattle.scan.proofs.Bools.{never, and_both, by_test, by_cases, both, or_swap, or_same}
use Rattle.stream.specs.Pids.{added, removed}
use Rattle.stream.specs.Arrays.{rises, is_in, added_all, removed_all}

-- a list ascends from any lower start
pub rises_from : (n m : ℕ) (l : List ℕ) → n ≤ m → rises m l ≡ true → rises n l ≡ true
rises_from n m [] h e = refl
rises_from n m (p ∷ l) h e =
    let a = and_both (leb m p) (rises (suc p) l) e in
    both (le-leb n p (omega (arith, leb-true m p a.0))) a.1

pub rises_added : (n p : ℕ) (l : List ℕ) → rises n l ≡ true → n ≤ p → rises n (added p l) ≡ true
rises_added n p [] e h = both (le-leb n p h) refl
rises_added n p (q ∷ l) e h =
    let a = and_both (leb n q) (rises (suc q) l) e in
    by_test (λ t. rises n (cond t (p ∷ q ∷ l) (cond (eqb p q) (q ∷ l) (q ∷ added p l))) ≡ true) (ltb p q)
    (λ y. both (le-leb n p h) (both (le-leb (suc p) q (omega (arith, ltb-true p q y))) a.1))
    (λ m. by_test (λ t. rises n (cond t (q ∷ l) (q ∷ added p l)) ≡ true) (eqb p q)
    (λ y. e)
    (λ d. let x = eqb-false p q d in both a.0 (rises_added (suc q) p l a.1 (omega (arith, ltb-false p q m)))))

pub rises_removed : (n p : ℕ) (l : List ℕ) → rises n l ≡ true → rises n (removed p l) ≡ true
rises_removed n p [] e = refl
rises_removed n p (q ∷ l) e =
    let a = and_both (leb n q) (rises (suc q) l) e in
    by_test (λ t. rises n (cond t (q ∷ l) (cond (eqb p q) l (q ∷ removed p l))) ≡ true) (ltb p q)
    (λ y. e)
    (λ m. by_test (λ t. rises n (cond t l (q ∷ removed p l)) ≡ true) (eqb p q)
    (λ y. rises_from n (suc q) l (omega (arith, leb-true n q a.0)) a.1)
    (λ d. both a.0 (rises_removed (suc q) p l a.1)))

pub rises_added_all : (ps l : List ℕ) → rises 0 l ≡ true → rises 0 (added_all ps l) ≡ true
rises_added_all [] l e = e
rises_added_all (p ∷ ps) l e = rises_added_all ps (added p l) (rises_added 0 p l e (omega arith))

pub rises_removed_all : (ps l : List ℕ) → rises 0 l ≡ true → rises 0 (removed_all ps l) ≡ true
rises_removed_all [] l e = e
rises_removed_all (p ∷ ps) l e = rises_removed_all ps (removed p l) (rises_removed 0 p l e)

-- what holds of every PID holds of those that are left, and of one more where it holds of that one
module _ (q : ℕ → Bool) where
  pub all_added : (p : ℕ) (l : List ℕ) → q p ≡ true → all q l ≡ true → all q (added p l) ≡ true
  all_added p [] h e = both h refl
  all_added p (x ∷ l) h e =
      let a = and_both (q x) (all q l) e in
      by_test (λ t. all q (cond t (p ∷ x ∷ l) (cond (eqb p x) (x ∷ l) (x ∷ added p l))) ≡ true) (ltb p x)
      (λ y. both h e)
      (λ m. by_test (λ t. all q (cond t (x ∷ l) (x ∷ added p l)) ≡ true) (eqb p x)
      (λ y. e)
      (λ d. both a.0 (all_added p l h a.1)))

  pub all_removed : (p : ℕ) (l : List ℕ) → all q l ≡ true → all q (removed p l) ≡ true
  all_removed p [] e = refl
  all_removed p (x ∷ l) e =
      let a = and_both (q x) (all q l) e in
      by_test (λ t. all q (cond t (x ∷ l) (cond (eqb p x) l (x ∷ removed p l))) ≡ true) (ltb p x)
      (λ y. e)
      (λ m. by_test (λ t. all q (cond t l (x ∷ removed p l)) ≡ true) (eqb p x)
      (λ y. a.1)
      (λ d. both a.0 (all_removed p l a.1)))

  pub all_added_all : (ps l : List ℕ) → all q ps ≡ true → all q l ≡ true → all q (added_all ps l) ≡ true
  all_added_all [] l h e = e
  all_added_all (p ∷ ps) l h e =
      let a = and_both (q p) (all q ps) h in
      all_added_all ps (added p l) a.1 (all_added p l a.0 e)

  pub all_removed_all : (ps l : List ℕ) → all q l ≡ true → all q (removed_all ps l) ≡ true
  all_removed_all [] l e = e
  all_removed_all (p ∷ ps) l e = all_removed_all ps (removed p l) (all_removed p l e)

-- what is in a list with one PID more, and in an ascending list with one PID less
pub in_added : (x p : ℕ) (l : List ℕ) → is_in x (added p l) ≡ eqb x p || is_in x l
in_added x p [] = refl
in_added x p (q ∷ l) =
    by_test (λ t. is_in x (cond t (p ∷ q ∷ l) (cond (eqb p q) (q ∷ l) (q ∷ added p l))) ≡ eqb x p || (eqb x q || is_in x l)) (ltb p q)
    (λ y. refl)
    (λ m. by_test (λ t. is_in x (cond t (q ∷ l) (q ∷ added p l)) ≡ eqb x p || (eqb x q || is_in x l)) (eqb p q)
    (λ y. rw (eqb-true p q y) (or_same (eqb x q) (is_in x l)))
    (λ d. ap (λ t. eqb x q || t) (in_added x p l) ∙ or_swap (eqb x q) (eqb x p) (is_in x l)))

-- nothing in an ascending list is below its start
pub in_below : (n x : ℕ) (l : List ℕ) → rises n l ≡ true → x < n → is_in x l ≡ false
in_below n x [] e h = refl
in_below n x (q ∷ l) e h =
    let a = and_both (leb n q) (rises (suc q) l) e in
    let k : n ≤ q = leb-true n q a.0 in
    rw (ne_eqb x q (λ z. omega arith)) (in_below (suc q) x l a.1 (omega arith))

pub in_removed : (x p n : ℕ) (l : List ℕ) → rises n l ≡ true → is_in x (removed p l) ≡ is_in x l && not (eqb x p)
in_removed x p n [] e = refl
in_removed x p n (q ∷ l) e =
    let a = and_both (leb n q) (rises (suc q) l) e in
    by_test (λ t. is_in x (cond t (q ∷ l) (cond (eqb p q) l (q ∷ removed p l))) ≡ (eqb x q || is_in x l) && not (eqb x p)) (ltb p q)
    (λ y. let k : p < q = ltb-true p q y in
    by_test (λ t. eqb x q || is_in x l ≡ (eqb x q || is_in x l) && not t) (eqb x p)
    (λ z. let h : x ≡ p = eqb-true x p z in rw (ne_eqb x q (λ w. omega arith), in_below (suc q) x l a.1 (omega arith)))
    (λ z. sym (and-true (eqb x q || is_in x l))))
    (λ m. by_test (λ t. is_in x (cond t l (q ∷ removed p l)) ≡ (eqb x q || is_in x l) && not (eqb x p)) (eqb p q)
    (λ y. let h : p ≡ q = eqb-true p q y in
    by_test (λ t. is_in x l ≡ (eqb x q || is_in x l) && not t) (eqb x p)
    (λ z. let w : x ≡ p = eqb-true x p z in in_below (suc q) x l a.1 (omega arith) ∙ sym (and-false (eqb x q || is_in x l)))
    (λ z. let w = eqb-false x p z in rw (ne_eqb x q (λ v. omega arith)) (sym (and-true (is_in x l)))))
    (λ d. let h = eqb-false p q d in
    rw (in_removed x p (suc q) l a.1)
    (by_test (λ t. t || (is_in x l && not (eqb x p)) ≡ (t || is_in x l) && not (eqb x p)) (eqb x q)
    (λ z. let w : x ≡ q = eqb-true x q z in rw (ne_eqb x p (λ v. omega arith)))
    (λ z. refl))))

-- two ascending lists with the same PIDs in them are the same
first_in : (p : ℕ) (k : List ℕ) → is_in p (p ∷ k) ≡ true
first_in p k = rw (eq-eqb p p refl)

not_in : (p q : ℕ) (l : List ℕ) → rises (suc q) l ≡ true → p < q → is_in p (q ∷ l) ≡ false
not_in p q l f h = rw (ne_eqb p q (λ z. omega arith)) (in_below (suc q) p l f (omega arith))

rest_in : (p : ℕ) (k l : List ℕ) → rises (suc p) k ≡ true → rises (suc p) l ≡ true → ((x : ℕ) → is_in x (p ∷ k) ≡ is_in x (p ∷ l)) → (x : ℕ) → is_in x k ≡ is_in x l
rest_in p k l e f h x =
    by_test (λ t. is_in x k ≡ is_in x l) (eqb x p)
    (λ z. let s : x ≡ p = eqb-true x p z in in_below (suc p) x k e (omega arith) ∙ sym (in_below (suc p) x l f (omega arith)))
    (λ z. rw z at (h x))

pub same_members : (n : ℕ) (k l : List ℕ) → rises n k ≡ true → rises n l ≡ true → ((x : ℕ) → is_in x k ≡ is_in x l) → k ≡ l
same_members n [] [] e f h = refl
same_members n [] (q ∷ l) e f h = never (h q ∙ first_in q l) refl
same_members n (p ∷ k) [] e f h = never (first_in p k) (h p)
same_members n (p ∷ k) (q ∷ l) e f h =
    let a = and_both (leb n p) (rises (suc p) k) e in
    let b = and_both (leb n q) (rises (suc q) l) f in
    by_cases (dec_lt p q)
    (λ z. never (sym (h p) ∙ first_in p k) (not_in p q l b.1 z))
    (λ y. by_cases (dec_lt q p)
    (λ z. never (h q ∙ first_in q l) (not_in q p k a.1 z))
    (λ z. let s : q ≡ p = omega arith in
    let g : rises (suc p) l ≡ true = rw s at b.1 in
    ap₂ (λ x y. x ∷ y) (sym s) (same_members (suc p) k l a.1 g (rest_in p k l a.1 g (rw s at h)))))
