-- Parts of a list: their length, a part of a part, and what a span of a part holds in the whole. Assumes nothing.
use mathlib.Core.Path.{◌≡◌, refl, ap, ◌∙◌, sym}
use mathlib.Core.Bool.{true, false, cond, not, ◌&&◌, and-false}
use mathlib.Core.List.{List, [], ◌∷◌}
use Prim.Native.Nat.{ℕ, zero, suc, ◌+◌, ◌-◌, ◌≤◌, ◌<◌}
use native.Mathlib.Nat.{suc-sub-suc, sub-zero, zero-sub}
use native.Mathlib.Omega.{arith}
use lib.ListN.{length, get_or, take, drop, replicate, length-take, length-drop}
use lib.Seq.{take-take, drop-drop, take-nil, take_all}
use Rattle.scan.specs.Lists.{part, all, first, is_name, are_name_bytes}
use Rattle.scan.specs.Found.{Holds, text_at, nowhere, FirstOf, in_class}
use Rattle.scan.specs.declared.Span.{Span}
use Rattle.scan.specs.declared.Class.TheVariants.{NotName}
use Rattle.scan.specs.Text.{is_empty, is, before}
use lib.Dec.{leb, ltb, eqb}
use borrow.Author.Tests.{eq-eqb, ne_eqb, le-leb, lt-leb, leb-true}
use Rattle.scan.proofs.Bools.{never, and_both, by_test, cond_keeps}

module _ {A : Type 0} where
  pub drop_take : (i n : ℕ) (l : List A) → drop i (take n l) ≡ take (n - i) (drop i l)
  drop_take zero n l = rw sub-zero
  drop_take (suc i) zero [] = sym (take-nil (0 - suc i))
  drop_take (suc i) zero (x ∷ l) = rw zero-sub
  drop_take (suc i) (suc n) [] = sym (take-nil (suc n - suc i))
  drop_take (suc i) (suc n) (x ∷ l) = drop_take i n l ∙ rw suc-sub-suc

  pub part_length : (a e : ℕ) (s : List A) → e ≤ length s → length (part a e s) ≡ e - a
  part_length a e s h = simp (length-take, length-drop) (omega arith)

  pub part_empty : (a e : ℕ) (s : List A) → e ≤ a → part a e s ≡ []
  part_empty a e s h =
      let n : e - a ≡ 0 = omega arith in
      rw n

  -- each element of a list of one value is that value, and so is what stands for one past its end
  pub all_same : (n k : ℕ) (x : A) → get_or (replicate n x) k x ≡ x
  all_same zero k x = refl
  all_same (suc n) zero x = refl
  all_same (suc n) (suc k) x = all_same n k x

  -- the part to the end is the rest
  pub part_rest : (a e : ℕ) (s : List A) → length s ≤ e → part a e s ≡ drop a s
  part_rest a e s h =
      let d : length (drop a s) ≡ length s - a = length-drop a s in
      take_all (e - a) (drop a s) (omega arith)

  pub part_part : (i j a e : ℕ) (s : List A) → j ≤ e - a → part i j (part a e s) ≡ part (a + i) (a + j) s
  part_part i j a e s h =
      let n : a + j - (a + i) ≡ j - i = omega arith in
      let m : j - i ≤ e - a - i = omega arith in
      ap (take (j - i)) (drop_take i (e - a) (drop a s)) ∙ take-take (j - i) (e - a - i) (drop i (drop a s)) m
      ∙ ap (take (j - i)) (drop-drop i a s) ∙ ap (λ k. take k (drop (a + i) s)) (sym n)

  -- what a span of a part holds, it holds in the whole, moved by where the part starts
  pub holds_inside : (a e : ℕ) (s : List A) {xs ys : List A} {i j : ℕ} → xs ≡ part a e s → a ≤ e → e ≤ length s → Holds xs ys i j → Holds s ys (a + i) (a + j)
  holds_inside a e s {xs} {ys} {i} {j} q h k r =
      let n : length xs ≡ e - a = ap length q ∙ part_length a e s k in
      let w : j ≤ length xs = r.within in
      let o : i ≤ j = r.order in
      record {
        order = omega arith;
        within = omega arith;
        is = sym (part_part i j a e s (omega arith)) ∙ ap (part i j) (sym q) ∙ r.is;
      }

  -- nothing stands from the start up to the start
  pub holds_nothing : (xs : List A) → Holds xs [] 0 0
  holds_nothing xs = record { order = omega arith; within = omega arith; is = refl }

  -- a span is as long as what it holds
  pub holds_length : {xs ys : List A} {i j : ℕ} → Holds xs ys i j → j ≡ i + length ys
  holds_length {xs} {ys} {i} {j} r =
      let n : length (part i j xs) ≡ j - i = part_length i j xs r.within in
      let m : length (part i j xs) ≡ length ys = ap length r.is in
      let o : i ≤ j = r.order in
      omega arith

-- what stands at a place inside: what it holds; at any other place nothing stands
pub text_inside : (s : List ℕ) (place : Span) → place.start ≤ place.end → place.end ≤ length s → text_at s place ≡ part place.start place.end s
unfolding text_at
text_inside s place o w = rw (le-leb place.start place.end o, le-leb place.end (length s) w)

pub text_held : (s ys : List ℕ) (place : Span) → Holds s ys place.start place.end → text_at s place ≡ ys
text_held s ys place h = text_inside s place h.order h.within ∙ h.is

pub text_outside : (s : List ℕ) (place : Span) → length s < place.end → text_at s place ≡ []
unfolding text_at
text_outside s place h = rw (lt-leb place.end (length s) h, and-false)

pub text_none : (s : List ℕ) (place : Span) → place.end ≤ place.start → text_at s place ≡ []
unfolding text_at
text_none s place h =
    cond_keeps (λ (l : List ℕ). l ≡ []) (leb place.start place.end && leb place.end (length s)) (part place.start place.end s) [] (λ _. part_empty place.start place.end s h)
    (λ _. refl)

-- it is no longer than the whole, and nothing stands nowhere
pub text_within : (s : List ℕ) (place : Span) → length (text_at s place) ≤ length s
unfolding text_at
text_within s place =
    cond_keeps (λ (l : List ℕ). length l ≤ length s) (leb place.start place.end && leb place.end (length s)) (part place.start place.end s) []
    (λ y. let e : place.end ≤ length s = leb-true place.end (length s) (and_both (leb place.start place.end) _ y).1 in
    omega (arith, part_length place.start place.end s e))
    (λ _. omega arith)

pub text_nowhere : (s : List ℕ) → text_at s nowhere ≡ []
text_nowhere s = text_none s nowhere (omega arith)

-- a text that has no byte is empty; one that has is not, nor is a part that ends after its start
pub no_text : (xs : List ℕ) → length xs ≤ 0 → is_empty xs ≡ true
no_text [] h = refl
no_text (x ∷ xs) h = absurd (omega arith)

pub some_text : (xs : List ℕ) → 0 < length xs → is_empty xs ≡ false
some_text [] h = absurd (omega arith)
some_text (x ∷ xs) h = refl

pub some_part : (s : List ℕ) (a e : ℕ) → a < e → e ≤ length s → is_empty (part a e s) ≡ false
some_part s a e h k = some_text (part a e s) (rw (part_length a e s k) (omega arith))

-- a name, by the place of the byte that ends it
pub named_by : (b : ℕ) {k : ℕ} (xs : List ℕ) → FirstOf (is b) xs k → are_name_bytes (before b xs) ≡ ltb 0 k && all is_name (part 0 k xs)
named_by b {k} xs f =
    let n : length (part 0 k xs) ≡ k = part_length 0 k xs f.within ∙ sub-zero k in
    ap (λ j. are_name_bytes (part 0 j xs)) (sym f.is) ∙ ap (λ j. ltb 0 j && all is_name (part 0 k xs)) n

-- a name, by the place of the first byte that is none of a name's: a byte b that is none ends it there, or the text does, or else it is no name
module _ (b : ℕ) (out : is_name b ≡ false) where
  abbrev stop : List ℕ → ℕ
  stop xs = first (in_class NotName) xs

  apart : (x : ℕ) → is_name x ≡ true → eqb x b ≡ false
  apart x y = ne_eqb x b (λ e. never y (ap is_name e ∙ out))

  names : (xs : List ℕ) → all is_name (take (stop xs) xs) ≡ true
  names [] = refl
  names (x ∷ xs) = by_test (λ t. all is_name (take (cond (not t) 0 (suc (stop xs))) (x ∷ xs)) ≡ true) (is_name x) (λ y. rw y (names xs)) (λ _. refl)

  ends : (xs : List ℕ) → (stop xs < length xs → get_or xs (stop xs) 0 ≡ b) → first (is b) xs ≡ stop xs
  ends [] p = refl
  ends (x ∷ xs) p =
      by_test (λ t. (cond (not t) 0 (suc (stop xs)) < suc (length xs) → get_or (x ∷ xs) (cond (not t) 0 (suc (stop xs))) 0 ≡ b) → first (is b) (x ∷ xs) ≡ cond (not t) 0 (suc (stop xs)))
      (is_name x) (λ y q. rw (apart x y) (ap suc (ends xs (λ h. q (omega arith))))) (λ _ q. rw (eq-eqb x b (q (omega arith)))) p

  others : (xs : List ℕ) → stop xs < length xs → (get_or xs (stop xs) 0 ≡ b → ⊥) → all is_name (take (first (is b) xs) xs) ≡ false
  others [] h n = absurd (omega arith)
  others (x ∷ xs) h n =
      by_test
      (λ t. is_name x ≡ t → cond (not t) 0 (suc (stop xs)) < suc (length xs) → (get_or (x ∷ xs) (cond (not t) 0 (suc (stop xs))) 0 ≡ b → ⊥) → all is_name (take (first (is b) (x ∷ xs)) (x ∷ xs)) ≡ false)
      (is_name x) (λ _ y k m. rw (apart x y, y) (others xs (omega arith) m)) (λ _ y k m. rw (ne_eqb x b m, y)) refl h n

  module _ {xs : List ℕ} {k : ℕ} (f : FirstOf (in_class NotName) xs k) where
    pub name_ends : (k < length xs → get_or xs k 0 ≡ b) → FirstOf (is b) xs k
    name_ends p = record { is = f.is ∙ sym (ends xs (rw f.is at p)); within = f.within }

    pub name_whole : true ≡ all is_name (part 0 k xs)
    name_whole = sym (rw (sub-zero k, f.is) (names xs))

    pub name_not : k < length xs → (get_or xs k 0 ≡ b → ⊥) → all is_name (before b xs) ≡ false
    name_not h n = rw (sub-zero (first (is b) xs)) (others xs (rw f.is at h) (rw f.is at n))
