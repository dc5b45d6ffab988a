-- A number has one spelling without leading zeros; and texts whose lines are known. Assumes nothing.
use mathlib.Core.Path.{◌≡◌, refl, sym, ap, ◌∙◌}
use mathlib.Core.Bool.{true, false}
use mathlib.Core.List.{List, [], ◌∷◌, map}
use Prim.Native.Nat.{ℕ, suc, ◌+◌, ◌-◌, ◌*◌, ◌^◌, ◌≤◌, ◌<◌}
use native.Mathlib.Decide.{dec_lt}
use native.Mathlib.Nat.{pow-zero, pow-succ', mul-one, one-mul, mul_assoc, mul-le-mul_right, pow-le-pow_right, le_refl, le_trans}
use native.Mathlib.Omega.{arith}
use lib.Dec.{leb, ltb}
use lib.ListN.{length, get_or, drop, length-map}
use borrow.Author.Tests.{lt-ltb, le-ltb, leb-true, le-leb, ne_eqb, eqb-false}
use Rattle.scan.specs.Lists.{all, is_between, is_digit, is_text}
use Rattle.scan.specs.Text.{text, ◌&◌, push}
use Rattle.scan.proofs.Bools.{and_both, by_cases, Case as Test, is, isnt, case}
use Rattle.digits.specs.Reading.{digits_in, digit_of, are_digits, spelled, has_leading_zero}
use Rattle.digits.proofs.Positions.{value_from, digits_value, value_below}
use Rattle.digits.proofs.Spelling.{digits_below}
use Rattle.lines.specs.Lines.{lines}

-- DIGITS 0 TO 9
record Decimal (b : ℕ) : Type 0 where
  low : 48 ≤ b
  high : b ≤ 57
  says : digit_of b + 48 ≡ b

decimal_is : (b : ℕ) → is_digit b ≡ true → Decimal b
decimal_is b y =
    let m = and_both (leb 48 b) (leb b 57) y in
    let l = leb-true 48 b m.0 in
    record { low = l; high = leb-true b 57 m.1; says = rw y (omega arith) }

-- a byte is a digit of base 10 exactly if it is one of them
digit_test : (b : ℕ) → ltb (digit_of b) 10 ≡ is_digit b
digit_test b = by (case (is_digit b)) (case (is_between 65 70 b)) (case (is_between 97 102 b))
  where
    by : Test (is_digit b) → Test (is_between 65 70 b) → Test (is_between 97 102 b) → ltb (digit_of b) 10 ≡ is_digit b
    by (is y) p q = let d = decimal_is b y in rw y (rw y at (lt-ltb (digit_of b) 10 (omega (arith, d.low, d.high, d.says))))
    by (isnt n) (is y) q = rw (n, y) (le-ltb (b - 55) 10 (omega (arith, leb-true 65 b (and_both (leb 65 b) (leb b 70) y).0)))
    by (isnt n) (isnt m) (is y) = rw (n, m, y) (le-ltb (b - 87) 10 (omega (arith, leb-true 97 b (and_both (leb 97 b) (leb b 102) y).0)))
    by (isnt n) (isnt m) (isnt o) = rw (n, m, o)

pub all_digits : (xs : List ℕ) → are_digits 10 xs ≡ all is_digit xs
all_digits [] = refl
all_digits (x ∷ xs) = rw (digit_test x, all_digits xs)

-- and it is text
digit_text : (b : ℕ) → is_digit b ≡ true → is_text b ≡ true
digit_text b y = let d = decimal_is b y in rw (le-leb 32 b (omega (arith, d.low)), le-leb b 126 (omega (arith, d.high)))

pub digits_text : (xs : List ℕ) → all is_digit xs ≡ true → all is_text xs ≡ true
digits_text [] e = refl
digits_text (x ∷ xs) e = let m = and_both (is_digit x) (all is_digit xs) e in rw (digit_text x m.0, digits_text xs m.1)

-- ONE SPELLING
-- digits after v say at least v times the base's power
value_least : (base v : ℕ) (ds : List ℕ) → v * base ^ length ds ≤ value_from base v ds
value_least base v [] = rw (pow-zero, mul-one) (le_refl v)
value_least base v (d ∷ ds) =
    let n : v * base * base ^ length ds ≤ (v * base + d) * base ^ length ds = mul-le-mul_right (base ^ length ds) (omega arith) in
    rw (pow-succ', ← mul_assoc) (le_trans n (value_least base (v * base + d) ds))

-- a number's digits, none before the first that counts
pub record Bare (xs : List ℕ) : Type 0 where
  pub some : 1 ≤ length xs
  pub are : all is_digit xs ≡ true
  pub bare : has_leading_zero xs ≡ false

below : (xs : List ℕ) → Bare xs → spelled 10 xs < 10 ^ length xs
below xs b = rw length-map at (value_below 10 (map digit_of xs) (digits_below 10 xs (omega arith) (all_digits xs ∙ b.are)))

above : (k : ℕ) (xs : List ℕ) → Bare xs → length xs ≡ suc k → 1 ≤ k → 10 ^ k ≤ spelled 10 xs
above k [] b e h = absurd (omega arith)
above k (x ∷ []) b e h = absurd (omega arith)
above k (x ∷ y ∷ ys) b e h =
    let d = decimal_is x (and_both (is_digit x) _ b.are).0 in
    let n : x ≡ 48 → ⊥ = eqb-false x 48 (rw (lt-ltb 1 (suc (suc (length ys))) (omega arith)) at b.bare) in
    let one : 1 ≤ 0 * 10 + digit_of x = omega (arith, d.says, n) in
    let m : 1 * 10 ^ k ≤ (0 * 10 + digit_of x) * 10 ^ k = mul-le-mul_right (10 ^ k) one in
    let l : length (map digit_of (y ∷ ys)) ≡ k = length-map (y ∷ ys) digit_of ∙ omega arith in
    let v = rw l at (value_least 10 (0 * 10 + digit_of x) (map digit_of (y ∷ ys))) in
    le_trans (rw one-mul at m) v

shorter : (xs ys : List ℕ) → Bare xs → Bare ys → spelled 10 xs ≡ spelled 10 ys → length xs < length ys → ⊥
shorter xs [] a b e h = omega arith
shorter xs (y ∷ ys) a b e h =
    let p = above (length ys) (y ∷ ys) b refl (omega (arith, a.some)) in
    let q = below xs a in
    let r : 10 ^ length xs ≤ 10 ^ length ys = pow-le-pow_right {n = 10} (omega arith) (omega arith) in
    omega arith

as_long : (xs ys : List ℕ) → Bare xs → Bare ys → spelled 10 xs ≡ spelled 10 ys → length xs ≡ length ys
as_long xs ys a b e =
    by_cases (dec_lt (length xs) (length ys))
    (λ l. absurd (shorter xs ys a b e l))
    (λ n. by_cases (dec_lt (length ys) (length xs)) (λ l. absurd (shorter ys xs b a (sym e) l)) (λ m. omega arith))

-- digits that say the same, one by one, are the same bytes
same_bytes : (xs ys : List ℕ) → all is_digit xs ≡ true → all is_digit ys ≡ true → map digit_of xs ≡ map digit_of ys → xs ≡ ys
same_bytes [] [] a b e = refl
same_bytes [] (y ∷ ys) a b e = let n : ◌≡◌ {A = ℕ} 0 (suc (length (map digit_of ys))) = ap length e in absurd (omega arith)
same_bytes (x ∷ xs) [] a b e = let n : ◌≡◌ {A = ℕ} (suc (length (map digit_of xs))) 0 = ap length e in absurd (omega arith)
same_bytes (x ∷ xs) (y ∷ ys) a b e =
    let p = and_both (is_digit x) (all is_digit xs) a in
    let q = and_both (is_digit y) (all is_digit ys) b in
    let h : digit_of x ≡ digit_of y = ap (λ l. get_or l 0 0) e in
    let i : x ≡ y = omega (arith, (decimal_is x p.0).says, (decimal_is y q.0).says) in
    rw i (ap (λ l. y ∷ l) (same_bytes xs ys p.1 q.1 (ap (drop 1) e)))

pub one_spelling : (xs ys : List ℕ) → Bare xs → Bare ys → spelled 10 xs ≡ spelled 10 ys → xs ≡ ys
one_spelling xs ys a b e =
    let n = as_long xs ys a b e in
    same_bytes xs ys a.are b.are (sym (digits xs a) ∙ (λ i. digits_in 10 (n i) (e i)) ∙ digits ys b)
  where
    digits : (zs : List ℕ) → Bare zs → digits_in 10 (length zs) (spelled 10 zs) ≡ map digit_of zs
    digits zs c = digits_value 10 (length zs) (map digit_of zs) (omega arith) (length-map zs digit_of) (digits_below 10 zs (omega arith) (all_digits zs ∙ c.are))

-- A LINE OF TEXT, AND WHAT FOLLOWS IT
text_pushed : (x y : ℕ) (ys : List ℕ) → is_text x ≡ true → lines (x ∷ y ∷ ys) ≡ push x (lines (y ∷ ys))
text_pushed x y ys t = rw (ne_eqb x 13 (λ q. omega (arith, leb-true 32 x (and_both (leb 32 x) _ t).0)))

pub line_first : (l rest : List ℕ) → all is_text l ≡ true → lines (l & text "\r\n" & rest) ≡ l ∷ lines rest
line_first [] rest e = refl
line_first (x ∷ []) rest e = text_pushed x 13 (10 ∷ rest) (and_both (is_text x) true e).0
line_first (x ∷ y ∷ l) rest e =
    let m = and_both (is_text x) (all is_text (y ∷ l)) e in
    text_pushed x y (l & text "\r\n" & rest) m.0 ∙ ap (push x) (line_first (y ∷ l) rest m.1)
