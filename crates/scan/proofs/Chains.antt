-- What std's words for iterators and blocks come to in the words of this crate. Assumes nothing.
use mathlib.Core.Path.{◌≡◌, refl, ap, ◌∙◌, sym}
use mathlib.Core.Bool.{Bool, true, false, not, cond, ◌&&◌, and-true}
use mathlib.Core.List.{List, [], ◌∷◌}
use Prim.Native.Nat.{ℕ, zero, suc, ◌+◌, ◌-◌, ◌*◌, ◌≤◌, ◌<◌}
use native.Mathlib.Omega.{arith}
use lib.Dec.{ltb, eqb}
use lib.ListN.{length, take, drop, get_or, length-take, length-drop}
use lib.Seq.{drop-drop}
use borrow.Author.Tests.{ltb-true, ltb-false}
use Rattle.std.proofs.Common.{Option, Some, None}
use Rattle.std.proofs.lemmas.Nat.{mul-le}
use Rattle.std.specs.List.{fold, zip, position, position_or_len}
use Rattle.std.specs.Option.{unwrap_or}
use Rattle.std.specs.Simd.{first_chunks}
use Rattle.scan.specs.Lists.{all, first, part}
use Rattle.scan.specs.Found.{FirstOf}
use Rattle.scan.specs.Text.{alike_by}
use Rattle.scan.proofs.Bools.{and_and, by_test}
use Rattle.scan.proofs.Loops.{Seeking, seeking_start, seeking_block, seeking_at, first_after, first_front}
use Rattle.scan.proofs.Parts.{part_length}

-- PLACES
module _ {A : Type 0} (p : A → Bool) where
  pub place_first : (xs : List A) → position_or_len p xs ≡ first p xs
  place_first [] = refl
  place_first (x ∷ xs) = by_test (λ t. cond (not t) (1 + position_or_len p xs) 0 ≡ cond t 0 (suc (first p xs))) (p x) (λ _. refl) (λ _. omega (arith, place_first xs))

  pub first_within : (xs : List A) → first p xs ≤ length xs
  first_within [] = omega arith
  first_within (x ∷ xs) = by_test (λ t. cond t 0 (suc (first p xs)) ≤ suc (length xs)) (p x) (λ _. omega arith) (λ _. omega (arith, first_within xs))

  -- what `position` says: the first place, or the length where there is none
  pub record Placed (xs : List A) (r : Option ℕ) : Type 0 where
    pub or_length : unwrap_or r (length xs) ≡ first p xs
    pub some : (k : ℕ) → r ≡ Some k → (first p xs ≡ k) × (k < length xs)
    pub none : r ≡ None → first p xs ≡ length xs

  some_is : {k m : ℕ} → Some k ≡ Some m → k ≡ m
  some_is {k} e = ap (λ r. unwrap_or r k) e

  some_none : {k : ℕ} {P : Type 0} → Some k ≡ None → P
  some_none {k} e = let z : ◌≡◌ {A = ℕ} 0 1 = ap (λ (r : Option ℕ). unwrap_or (cond_of r) 1) e in absurd (omega arith)
    where
      cond_of : Option ℕ → Option ℕ
      cond_of None = None
      cond_of (Some m) = Some 0

  placed : (xs : List A) → Placed xs (position p xs)
  placed xs =
      let w : first p xs ≤ length xs = first_within xs in
      let e : position_or_len p xs ≡ first p xs = place_first xs in
      by_test (λ t. ltb (position_or_len p xs) (length xs) ≡ t → Placed xs (cond t (Some (position_or_len p xs)) None)) (ltb (position_or_len p xs) (length xs))
      (λ _ y. let h = ltb-true _ _ y in record { or_length = e; some = λ k q. let s = some_is q in (omega arith, omega arith); none = λ q. some_none q })
      (λ _ n. let h = ltb-false _ _ n in record { or_length = omega arith; some = λ k q. some_none (sym q); none = λ _. omega arith }) refl

  pub placed_as : {xs : List A} {r : Option ℕ} → r ≡ position p xs → Placed xs r
  placed_as {xs} {r} e = rw e (placed xs)

  pub first_placed : {xs : List A} {r : Option ℕ} {n : ℕ} → Placed xs r → n ≡ unwrap_or r (length xs) → FirstOf p xs n
  first_placed {xs} {r} {n} f e = let w = first_within xs in record { is = e ∙ f.or_length; within = omega (arith, e, f.or_length) }

  -- every element is tested, with no early way out
  all_so_far : (t : Bool) (xs : List A) → fold (λ u x. u && p x) t xs ≡ t && all p xs
  all_so_far t [] = sym (and-true t)
  all_so_far t (x ∷ xs) = all_so_far (t && p x) xs ∙ sym (and_and t (p x) (all p xs))

  pub all_fold : (xs : List A) → fold (λ u x. u && p x) true xs ≡ all p xs
  all_fold xs = all_so_far true xs

-- two texts compared pair by pair
module _ (f : ℕ → ℕ) where
  alike_so_far : (t : Bool) (xs ys : List ℕ) → length xs ≡ length ys → fold (λ u q. u && eqb (f q.0) (f q.1)) t (zip xs ys) ≡ t && alike_by f xs ys
  alike_so_far t [] [] e = sym (and-true t)
  alike_so_far t [] (y ∷ ys) e = absurd (omega arith)
  alike_so_far t (x ∷ xs) [] e = absurd (omega arith)
  alike_so_far t (x ∷ xs) (y ∷ ys) e = alike_so_far (t && eqb (f x) (f y)) xs ys (omega arith) ∙ sym (and_and t (eqb (f x) (f y)) (alike_by f xs ys))

  pub alike_fold : (xs ys : List ℕ) → length xs ≡ length ys → fold (λ u q. u && eqb (f q.0) (f q.1)) true (zip xs ys) ≡ alike_by f xs ys
  alike_fold xs ys e = alike_so_far true xs ys e

-- BLOCKS
part_drop : {A : Type 0} (n a b : ℕ) (l : List A) → part a b (drop n l) ≡ part (n + a) (n + b) l
part_drop n a b l = let e : n + b - (n + a) ≡ b - a = omega arith in rw e (ap (take (b - a)) (drop-drop a n l))

-- the block at place i is the part of the list from i blocks on
pub block_at : {A : Type 0} (n k : ℕ) (l : List A) (i : ℕ) (d : List A) → i < k → get_or (first_chunks n k l) i d ≡ part (n * i) (n * i + n) l
block_at n zero l i d h = absurd (omega arith)
block_at n (suc k) l zero d h = let z : n * 0 ≡ 0 = omega arith in let e : 0 + n - 0 ≡ n = omega arith in rw (z, e)
block_at n (suc k) l (suc i) d h =
    let m : n * suc i ≡ n + n * i = omega arith in
    let o : n * suc i + n ≡ n + (n * i + n) = omega arith in
    rw (o, m) (block_at n k (drop n l) i d (omega arith) ∙ part_drop n (n * i) (n * i + n) l)

pub blocks_length : {A : Type 0} (n k : ℕ) (l : List A) → length (first_chunks n k l) ≡ k
blocks_length n zero l = refl
blocks_length n (suc k) l = ap suc (blocks_length n k (drop n l))

module _ {A : Type 0} (p : A → Bool) where
  first_beyond : (n : ℕ) (l : List A) → n ≤ length l → first p (take n l) ≡ n → first p l ≡ n + first p (drop n l)
  first_beyond zero l h e = omega arith
  first_beyond (suc n) [] h e = absurd (omega arith)
  first_beyond (suc n) (x ∷ l) h e =
      by_test (λ t. cond t 0 (suc (first p (take n l))) ≡ suc n → cond t 0 (suc (first p l)) ≡ suc n + first p (drop n l)) (p x) (λ _ a. absurd (omega arith))
      (λ _ a. omega (arith, first_beyond n l (omega arith) (omega arith))) e

  -- a block is looked through where nothing sought stands before it: the place is in it, or past it
  module _ (l : List A) (i n : ℕ) (s : Seeking p l i) (h : i + n ≤ length l) where
    front : part i (i + n) l ≡ take n (drop i l)
    front = let m : i + n - i ≡ n = omega arith in rw m

    fits : n ≤ length (drop i l)
    fits = rw length-drop (omega arith)

    pub seeking_in : {k : ℕ} → first p (part i (i + n) l) ≡ k → k < n → FirstOf p l (i + k)
    seeking_in {k} e w =
        let f = fits in
        let t : length (take n (drop i l)) ≡ n = simp length-take (omega arith) in
        let a : first p (take n (drop i l)) ≡ k = ap (first p) (sym front) ∙ e in
        let b = first_front p n (drop i l) (omega arith) in
        record { is = omega (arith, s.same, a, b); within = omega arith }

    pub seeking_out : first p (part i (i + n) l) ≡ n → Seeking p l (i + n)
    seeking_out e =
        let b = first_beyond n (drop i l) fits (ap (first p) (sym front) ∙ e) in
        let d : first p (drop n (drop i l)) ≡ first p (drop (i + n) l) = ap (first p) (drop-drop n i l) in
        record { inside = h; same = omega (arith, s.same, b, d) }

  -- the same of the block at place i, of k blocks
  module _ (n k : ℕ) (l : List A) {bs : List (List A)} (e : bs ≡ first_chunks n k l) (w : n * k ≤ length l) (i : ℕ) (h : i < length bs) (s : Seeking p l (n * i)) where
    below : i < k
    below = rw (← blocks_length n k l) (rw e at h)

    block : get_or bs i [] ≡ part (n * i) (n * i + n) l
    block = rw e (block_at n k l i [] below)

    inside : n * i + n ≤ length l
    inside = let b = below in let a : n * (i + 1) ≤ n * k = mul-le n (i + 1) n k (omega arith) (omega arith) in omega arith

    next : n * i + n ≡ n * (i + 1)
    next = omega arith

    long : length (get_or bs i []) ≡ n
    long = ap length block ∙ part_length (n * i) (n * i + n) l inside ∙ omega arith

    pub block_some : {j : ℕ} → first p (get_or bs i []) ≡ j → j < length (get_or bs i []) → FirstOf p l (n * i + j)
    block_some a b = let m = long in seeking_in l (n * i) n s inside (ap (first p) (sym block) ∙ a) (omega arith)

    pub block_none : first p (get_or bs i []) ≡ length (get_or bs i []) → Seeking p l (n * (i + 1))
    block_none a = seeking_at p (seeking_out l (n * i) n s inside (ap (first p) (sym block) ∙ a ∙ long)) next

    pub block_past : (q : A → Bool) (other : (x : A) → q x ≡ true → p x ≡ false) {t : Bool} → t ≡ all q (get_or bs i []) → not t ≡ false → Seeking p l (n * (i + 1))
    block_past q other a y = seeking_at p (seeking_block p q other s (omega arith) inside (a ∙ ap (all q) block) y) next

  -- the first block of which not every element passes a test that nothing sought passes: nothing sought stands before it
  module _ (q : A → Bool) (other : (x : A) → q x ≡ true → p x ≡ false) where
    pub seeking_blocks : (n k : ℕ) (l : List A) → n * k ≤ length l → Seeking p l (n * first (λ b. not (all q b)) (first_chunks n k l))
    seeking_blocks n zero l h = let z : n * 0 ≡ 0 = omega arith in rw z (seeking_start p l)
    seeking_blocks n (suc k) l h =
        let m : n * suc k ≡ n + n * k = omega arith in
        let w : n ≤ length l = omega arith in
        let r : length (drop n l) ≡ length l - n = length-drop n l in
        let b = seeking_blocks n k (drop n l) (omega arith) in
        let f = first (λ b. not (all q b)) (first_chunks n k (drop n l)) in
        by_test (λ t. all q (take n l) ≡ t → Seeking p l (n * cond (not t) 0 (suc f))) (all q (take n l))
        (λ _ y.
        let o : n * suc f ≡ n + n * f = omega arith in
        let a = first_after p q other n l w y in
        let d : first p (drop (n * f) (drop n l)) ≡ first p (drop (n + n * f) l) = ap (first p) (drop-drop (n * f) n l) in
        rw o (record { inside = omega (arith, b.inside); same = omega (arith, b.same, a, d) }))
        (λ _ _. let z : n * 0 ≡ 0 = omega arith in rw z (seeking_start p l)) refl
