-- Numbers read digit by digit, for any base, count of digits and limit: every reading cites these laws. Assumes nothing.
use mathlib.Core.Path.{◌≡◌, refl, sym, ◌∙◌}
use mathlib.Core.Bool.{true, false, cond, ◌&&◌, and-false}
use mathlib.Core.List.{List, [], ◌∷◌, map}
use Prim.Native.Nat.{ℕ, zero, suc, ◌+◌, ◌*◌, ◌^◌, ◌≤◌, ◌<◌}
use native.Mathlib.Nat.{le_refl, le_trans, mul-le-mul, mul-le-mul_left}
use native.Mathlib.Omega.{arith}
use lib.Dec.{leb, ltb}
use lib.ListN.{length, get_or, drop, length-map}
use borrow.Author.Tests.{le-leb, lt-leb, ltb-true, ne_eqb}
use Rattle.scan.proofs.Bools.{and_both, by_test}
use Rattle.scan.proofs.Loops.{turn, end}
use Rattle.digits.proofs.Positions.{value_from, Below, value_below}
use Rattle.digits.specs.Reading.{digit_of, digit_in, are_digits, spelled, read_in, read_hex8}
use Rattle.std.specs.Prelude.{Option, Some, None}

-- a number of 32 bits and two digits of a byte fit 64 bits
pub with_digit_fits : (v base d : ℕ) → v < 4294967296 → base < 256 → d < 256 → v * base + d < 18446744073709551616
with_digit_fits v base d h k l = omega (arith, mul-le-mul {n₁ = v} {m₁ = base} {n₂ = 4294967295} {m₂ = 255} (omega arith) (omega arith))

-- a byte that is a digit of the base, and one that is none
pub digit_some : (base b : ℕ) {d : ℕ} → Some d ≡ digit_in base b → (d ≡ digit_of b) × (ltb (digit_of b) base ≡ true)
digit_some base b {d} =
    by_test (λ t. ltb (digit_of b) base ≡ t → Some d ≡ cond t (Some (digit_of b)) None → (d ≡ digit_of b) × (ltb (digit_of b) base ≡ true)) (ltb (digit_of b) base) (λ _ y e. (cc, y)) (λ _ n e. cc) refl

digit_below : (base b : ℕ) {d : ℕ} → Some d ≡ digit_in base b → 0 < base
digit_below base b e = omega (arith, ltb-true (digit_of b) base (digit_some base b e).1)

pub digit_none : (base b : ℕ) → None ≡ digit_in base b → ltb (digit_of b) base ≡ false
digit_none base b =
    by_test (λ t. None ≡ cond t (Some (digit_of b)) None → t ≡ false) (ltb (digit_of b) base) (λ _ e. cc) (λ _ e. refl)

-- what is read of the rest after v
abbrev rest : ℕ → ℕ → ℕ → List ℕ → Option ℕ
rest base limit v xs =
    cond (are_digits base xs && leb (value_from base v (map digit_of xs)) limit) (Some (value_from base v (map digit_of xs))) None

-- digits only make a number larger
grows : (base v : ℕ) (ds : List ℕ) → 0 < base → v ≤ value_from base v ds
grows base v [] h = le_refl v
grows base v (d ∷ ds) h =
    let l : v ≤ v * base + d = omega (arith, mul-le-mul_left v h) in
    le_trans l (grows base (v * base + d) ds h)

rest_over : (base limit v : ℕ) (xs : List ℕ) → 0 < base → limit < v → rest base limit v xs ≡ None
rest_over base limit v xs h k =
    let g : v ≤ value_from base v (map digit_of xs) = grows base v (map digit_of xs) h in
    simp (lt-leb (value_from base v (map digit_of xs)) limit (omega arith), and-false)

pub digits_below : (base : ℕ) (xs : List ℕ) → 0 < base → are_digits base xs ≡ true → Below base (map digit_of xs)
digits_below base [] h e i = h
digits_below base (x ∷ xs) h e zero = ltb-true (digit_of x) base (and_both (ltb (digit_of x) base) (are_digits base xs) e).0
digits_below base (x ∷ xs) h e (suc i) = digits_below base xs h (and_both (ltb (digit_of x) base) (are_digits base xs) e).1 i

-- where every number of so many digits is within the limit, it settles nothing
pub all_digits : (base most limit : ℕ) (s : List ℕ) → 0 < base → length s ≡ most → 1 ≤ most → base ^ most ≤ limit + 1 → read_in base most limit s ≡ cond (are_digits base s) (Some (spelled base s)) None
all_digits base most limit s b e h k =
    rw (le-leb 1 (length s) (omega arith), le-leb (length s) most (omega arith))
    (by_test (λ t. cond (t && leb (spelled base s) limit) (Some (spelled base s)) None ≡ cond t (Some (spelled base s)) None) (are_digits base s) fits (λ _. refl))
  where
    fits : are_digits base s ≡ true → cond (leb (spelled base s) limit) (Some (spelled base s)) None ≡ Some (spelled base s)
    fits d =
        let v = rw (length-map s digit_of, e) at (value_below base (map digit_of s) (digits_below base s b d)) in
        rw (le-leb (spelled base s) limit (omega arith))

-- eight hexadecimal digits say a number of 32 bits
pub hex_limit : (s : List ℕ) → length s ≡ 8 → read_in 16 8 4294967295 s ≡ read_hex8 s
unfolding read_hex8
hex_limit s e = rw (all_digits 16 8 4294967295 s (omega arith) e (omega arith) (omega arith), e)

pub hex_length : (s : List ℕ) → (length s ≡ 8 → ⊥) → None ≡ read_hex8 s
unfolding read_hex8
hex_length s n = rw (ne_eqb (length s) 8 n)

module _ (base most limit : ℕ) where
  pub read_empty : (s : List ℕ) → length s ≡ 0 → None ≡ read_in base most limit s
  read_empty s e = rw (lt-leb 1 (length s) (omega arith))

  pub read_long : (s : List ℕ) → most < length s → None ≡ read_in base most limit s
  read_long s h = simp (lt-leb (length s) most h, and-false)

  -- v was read before place i, and what is read of the rest after it is what is read of the whole
  pub record Spelling (s : List ℕ) (i v : ℕ) : Type 0 where
    pub inside : i ≤ length s
    pub small : v ≤ limit
    pub same : rest base limit v (drop i s) ≡ read_in base most limit s

  pub spelling_start : (s : List ℕ) → (length s ≡ 0 → ⊥) → length s ≤ most → Spelling s 0 0
  spelling_start s n h =
      record {
        inside = omega arith;
        small = omega arith;
        same = sym (rw (le-leb 1 (length s) (omega arith), le-leb (length s) most h));
      }

  pub spelling_end : {s : List ℕ} {i v : ℕ} → Spelling s i v → length s ≤ i → Some v ≡ read_in base most limit s
  spelling_end {s} {i} {v} r h = sym (end (rest base limit v) s i h ∙ rw (le-leb v limit r.small)) ∙ r.same

  module _ {s : List ℕ} {i v : ℕ} (r : Spelling s i v) (h : i < length s) where
    pub spelling_not : None ≡ digit_in base (get_or s i 0) → None ≡ read_in base most limit s
    spelling_not e = sym (turn (rest base limit v) s i 0 h ∙ rw (digit_none base (get_or s i 0) e)) ∙ r.same

    module _ {d w : ℕ} (e : Some d ≡ digit_in base (get_or s i 0)) (q : w ≡ v * base + d) where
      step : rest base limit v (drop i s) ≡ rest base limit w (drop (i + 1) s)
      step = let p = digit_some base (get_or s i 0) e in turn (rest base limit v) s i 0 h ∙ rw (p.1, ← p.0, q)

      pub spelling_over : limit < w → None ≡ read_in base most limit s
      spelling_over l =
          let b : 0 < base = digit_below base (get_or s i 0) e in
          sym (step ∙ rest_over base limit w (drop (i + 1) s) b l) ∙ r.same

      pub spelling_more : w ≤ limit → Spelling s (i + 1) w
      spelling_more l = record { inside = omega arith; small = l; same = sym step ∙ r.same }
