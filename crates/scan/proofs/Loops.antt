-- Loops over the places of a list: what is still to look at from place i on. Each kind of loop has a record for its invariant, and a
-- law for its start, for a turn and for each way out; a turn's test is told as the equation that the test's contract gives.
-- Assumes nothing.
use mathlib.Core.Path.{◌≡◌, refl, ap, ap₂, ◌∙◌, sym}
use mathlib.Core.Bool.{Bool, true, false, cond, not}
use mathlib.Core.List.{List, [], ◌∷◌}
use Prim.Native.Nat.{ℕ, zero, suc, ◌+◌, ◌-◌, ◌≤◌, ◌<◌}
use native.Mathlib.Numerals.{add-one}
use native.Mathlib.Omega.{arith}
use lib.ListN.{length, get_or, take, drop, length-drop, drop_of_length-le}
use lib.Seq.{drop-cons, drop-drop}
use borrow.Author.Tests.{not-false}
use Rattle.scan.specs.Lists.{all, first, part}
use Rattle.scan.specs.Found.{FirstOf, FirstFrom}
use Rattle.scan.proofs.Bools.{and_both, by_test}
use Rattle.scan.proofs.Parts.{part_rest}

-- what any function says of the rest at i: it goes by the element at i and the rest at i + 1, and there is nothing at the end
module _ {A B : Type 0} (f : List A → B) (l : List A) (i : ℕ) where
  pub turn : (d : A) → i < length l → f (drop i l) ≡ f (get_or l i d ∷ drop (i + 1) l)
  turn d h = ap f (rw (add-one, drop-cons l i d))

  pub end : length l ≤ i → f (drop i l) ≡ f []
  end h = ap f (drop_of_length-le l h)

module _ {A : Type 0} (p : A → Bool) where
  -- the first element that passes is not before place i
  pub record Seeking (l : List A) (i : ℕ) : Type 0 where
    pub inside : i ≤ length l
    pub same : i + first p (drop i l) ≡ first p l

  pub seeking_start : (l : List A) → Seeking l 0
  seeking_start l = record { inside = omega arith; same = omega arith }

  pub seeking_end : {l : List A} {i : ℕ} → Seeking l i → length l ≤ i → FirstOf p l i
  seeking_end {l} {i} s h =
      let e = end (first p) l i h in
      record { is = omega (arith, s.same); within = s.inside }

  module _ {l : List A} {i : ℕ} (d : A) {t : Bool} (s : Seeking l i) (h : i < length l) (e : t ≡ p (get_or l i d)) where
    pub seeking_hit : t ≡ true → FirstOf p l i
    seeking_hit y =
        let z : first p (drop i l) ≡ 0 = turn (first p) l i d h ∙ rw (sym e ∙ y) in
        record { is = omega (arith, s.same); within = s.inside }

    pub seeking_more : t ≡ false → Seeking l (i + 1)
    seeking_more n =
        let z : first p (drop i l) ≡ suc (first p (drop (i + 1) l)) = turn (first p) l i d h ∙ rw (sym e ∙ n) in
        record { inside = omega arith; same = omega arith ∙ s.same }

  -- a place by another name
  pub seeking_at : {l : List A} {i j : ℕ} → Seeking l i → i ≡ j → Seeking l j
  seeking_at s e = record { inside = omega (arith, s.inside); same = rw (sym e) s.same }

  -- every element before place i passes
  pub record Passing (l : List A) (i : ℕ) : Type 0 where
    pub inside : i ≤ length l
    pub same : all p (drop i l) ≡ all p l

  pub passing_start : (l : List A) → Passing l 0
  passing_start l = record { inside = omega arith; same = refl }

  pub passing_end : {l : List A} {i : ℕ} → Passing l i → length l ≤ i → true ≡ all p l
  passing_end {l} {i} s h = sym (end (all p) l i h) ∙ s.same

  module _ {l : List A} {i : ℕ} (d : A) {t : Bool} (s : Passing l i) (h : i < length l) (e : t ≡ p (get_or l i d)) where
    pub passing_more : t ≡ true → Passing l (i + 1)
    passing_more y =
        record { inside = omega arith; same = sym (turn (all p) l i d h ∙ rw (sym e ∙ y)) ∙ s.same }

    pub passing_not : t ≡ false → false ≡ all p l
    passing_not n = sym (turn (all p) l i d h ∙ rw (sym e ∙ n)) ∙ s.same

-- a block of which every element passes a test that nothing sought passes holds nothing sought: that is past it
module _ {A : Type 0} (p q : A → Bool) (other : (x : A) → q x ≡ true → p x ≡ false) where
  pub first_after : (n : ℕ) (l : List A) → n ≤ length l → all q (take n l) ≡ true → first p l ≡ n + first p (drop n l)
  first_after zero l h e = omega arith
  first_after (suc n) [] h e = absurd (omega arith)
  first_after (suc n) (x ∷ l) h e =
      let b = and_both (q x) (all q (take n l)) e in
      let r = first_after n l (omega arith) b.1 in
      let z : first p (x ∷ l) ≡ suc (first p l) = rw (other x b.0) in
      omega (arith, z, r)

  pub seeking_block : {l : List A} {i j : ℕ} {t : Bool} → Seeking p l i → i ≤ j → j ≤ length l → t ≡ all q (part i j l) → not t ≡ false → Seeking p l j
  seeking_block {l} {i} {j} {t} s h k e y =
      let n : length (drop i l) ≡ length l - i = length-drop i l in
      let r = first_after (j - i) (drop i l) (omega arith) (sym e ∙ not-false t y) in
      let m : i + (j - i) ≡ j = omega arith in
      let d : drop (j - i) (drop i l) ≡ drop j l = drop-drop (j - i) i l ∙ ap (λ k. drop k l) m in
      let f : first p (drop (j - i) (drop i l)) ≡ first p (drop j l) = ap (first p) d in
      record { inside = k; same = omega (arith, s.same, r, f) }

-- what is found in the rest from `at` on, and past the end
module _ {A : Type 0} (p : A → Bool) (l : List A) (at : ℕ) where
  pub first_past : length l < at → FirstFrom p l at at
  first_past h =
      let z = end (first p) l at (omega arith) in
      record { is = omega arith; from = omega arith; within = omega arith }

  pub first_rest : {k : ℕ} → at ≤ length l → FirstOf p (part at (length l) l) k → FirstFrom p l at (at + k)
  first_rest {k} h f =
      let r : part at (length l) l ≡ drop at l = part_rest at (length l) l (omega arith) in
      let n : length (drop at l) ≡ length l - at = length-drop at l in
      let q : k ≡ first p (drop at l) = f.is ∙ ap (first p) r in
      let w : k ≤ length (drop at l) = rw r at f.within in
      record { is = omega arith; from = omega arith; within = omega arith }

  -- what is found from the start on
  pub first_whole : {k : ℕ} → FirstOf p l k → FirstFrom p l 0 k
  first_whole f = record { is = omega (arith, f.is); from = omega arith; within = omega (arith, f.within) }

  -- what is sought is found in the rest
  pub seeking_rest : {k : ℕ} → Seeking p l at → FirstOf p (part at (length l) l) k → FirstOf p l (at + k)
  seeking_rest s f =
      let g = first_rest s.inside f in
      record { is = g.is ∙ s.same; within = omega (arith, s.inside, g.within) }

-- the first place that passes is at most the length
pub first_within : {A : Type 0} (p : A → Bool) (l : List A) → first p l ≤ length l
first_within p [] = omega arith
first_within p (x ∷ l) = step (p x) (first_within p l)
  where
    step : (t : Bool) {m n : ℕ} → m ≤ n → cond t 0 (suc m) ≤ suc n
    step true h = omega arith
    step false h = omega arith

-- only what the test says of each element counts
pub first_same : {A : Type 0} (p q : A → Bool) → ((x : A) → p x ≡ q x) → (l : List A) → first p l ≡ first q l
first_same p q e [] = refl
first_same p q e (x ∷ l) = ap₂ (λ t n. cond t 0 (suc n)) (e x) (first_same p q e l)

-- what is found passes; what is found in a front part is found in the whole, and the other way round where the part reaches so far
module _ {A : Type 0} (p : A → Bool) where
  pub first_passes : (l : List A) (d : A) → first p l < length l → p (get_or l (first p l) d) ≡ true
  first_passes [] d h = absurd (omega arith)
  first_passes (x ∷ l) d h =
      by_test (λ t. p x ≡ t → cond t 0 (suc (first p l)) < suc (length l) → p (get_or (x ∷ l) (cond t 0 (suc (first p l))) d) ≡ true) (p x) (λ _ y k. y)
      (λ _ y k. first_passes l d (omega arith)) refl h

  pub first_front : (n : ℕ) (l : List A) → first p (take n l) < length (take n l) → first p (take n l) ≡ first p l
  first_front zero l h = absurd (omega arith)
  first_front (suc n) [] h = refl
  first_front (suc n) (x ∷ l) h =
      by_test (λ t. cond t 0 (suc (first p (take n l))) < suc (length (take n l)) → cond t 0 (suc (first p (take n l))) ≡ cond t 0 (suc (first p l))) (p x) (λ _ _. refl)
      (λ _ k. ap suc (first_front n l (omega arith))) h

  pub first_kept : (n : ℕ) (l : List A) → first p l < n → first p (take n l) ≡ first p l
  first_kept zero l h = absurd (omega arith)
  first_kept (suc n) [] h = refl
  first_kept (suc n) (x ∷ l) h =
      by_test (λ t. cond t 0 (suc (first p l)) < suc n → cond t 0 (suc (first p (take n l))) ≡ cond t 0 (suc (first p l))) (p x) (λ _ _. refl)
      (λ _ k. ap suc (first_kept n l (omega arith))) h
