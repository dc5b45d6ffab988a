-- Numbers as text: how many digits they take, the loops that write them, and that what is written is read back as itself, for every
-- base and every width. Assumes nothing.
use mathlib.Core.Path.{◌≡◌, refl, sym, ap, ap₂, ◌∙◌}
use mathlib.Core.Bool.{Bool, true, false, ◌&&◌, and-false}
use mathlib.Core.List.{List, [], ◌∷◌, ◌++◌, map}
use Prim.Native.Nat.{ℕ, zero, suc, ◌+◌, ◌/◌, ◌%◌, ◌^◌, ◌≤◌, ◌<◌, ◌*◌, max}
use native.Mathlib.Decide.{dec_lt}
use native.Mathlib.Nat.{pow-suc, div-lt_iff_lt-mul, mod-lt, mod-eq_of_lt, pow-le-pow_right}
use native.Mathlib.Omega.{arith}
use lib.Dec.{ltb}
use lib.ListN.{length, get_or, set, length-append, length-map, length-set, get_or-append}
use lib.Seq.{sets, set_out}
use borrow.Author.Tests.{le-leb, lt-leb, lt-ltb, le-ltb, ne_eqb}
use Rattle.scan.proofs.Bools.{by_cases}
use Rattle.scan.specs.Text.{text, ◌&◌}
use Rattle.digits.specs.Reading.{digits_in, value_in, digit_of, are_digits, spelled, read_in, has_leading_zero, read_number, read_hex8}
use Rattle.writing.specs.Writing.{shown, numeral, width_in, width, decimal, hex8, dotted, written}
use Rattle.digits.specs.declared.Zeros.{Zeros}
use Rattle.digits.specs.declared.Zeros.TheVariants.{Allowed, Refused}
use Rattle.std.specs.Prelude.{Some}
use Rattle.digits.proofs.Positions.{digits_length, value_digits}
use Rattle.digits.proofs.Spelling.{hex_limit}
use Rattle.writing.proofs.Writes.{written_sets, sets_last}

map_last : (f : ℕ → ℕ) (xs : List ℕ) (x : ℕ) → map f (xs ++ (x ∷ [])) ≡ map f xs ++ (f x ∷ [])
map_last f [] x = refl
map_last f (y ∷ xs) x = ap (λ l. f y ∷ l) (map_last f xs x)

pub numeral_more : (base k v : ℕ) → numeral base (suc k) v ≡ numeral base k (v / base) ++ (shown (v % base) ∷ [])
unfolding numeral
numeral_more base k v = map_last shown (digits_in base k (v / base)) (v % base)

pub numeral_length : (base k v : ℕ) → length (numeral base k v) ≡ k
unfolding numeral
numeral_length base k v = length-map (digits_in base k v) shown ∙ digits_length base k v

-- HOW MANY DIGITS
-- a tenth of a number takes a digit less, and room for more digits changes nothing
tenth : (n v : ℕ) → v < 10 ^ suc n → v / 10 < 10 ^ n
tenth n v h = (div-lt_iff_lt-mul {k = 10} (omega arith)).1 (rw pow-suc at h)

width_small : (n v : ℕ) → v < 10 → width_in (suc n) v ≡ 1
width_small n v h = rw (lt-ltb v 10 h)

width_large : (n v : ℕ) → 10 ≤ v → width_in (suc n) v ≡ suc (width_in n (v / 10))
width_large n v h = rw (le-ltb v 10 h)

width_room : (n v : ℕ) → v < 10 ^ suc n → width_in (suc n) v ≡ width_in n v
width_room zero v h = width_small zero v h
width_room (suc n) v h =
    by_cases (dec_lt v 10)
    (λ s. width_small (suc n) v s ∙ sym (width_small n v s))
    (λ s.
    let l : 10 ≤ v = omega arith in
    width_large (suc n) v l ∙ ap suc (width_room n (v / 10) (tenth (suc n) v h)) ∙ sym (width_large n v l))

width_fits : (n v : ℕ) → v < 10 ^ suc n → v < 10 ^ width_in n v
width_fits zero v h = h
width_fits (suc n) v h =
    by_cases (dec_lt v 10)
    (λ s. rw (width_small n v s) (omega arith))
    (λ s.
    let l : 10 ≤ v = omega arith in
    rw (width_large n v l, pow-suc) ((div-lt_iff_lt-mul {k = 10} (omega arith)).0 (width_fits n (v / 10) (tenth (suc n) v h))))

width_most : (n m v : ℕ) → v < 10 ^ suc m → width_in n v ≤ suc m
width_most zero m v h = omega arith
width_most (suc n) zero v h = rw (width_small n v h) (omega arith)
width_most (suc n) (suc m) v h =
    by_cases (dec_lt v 10)
    (λ s. rw (width_small n v s) (omega arith))
    (λ s. let l : 10 ≤ v = omega arith in rw (width_large n v l) (omega (arith, width_most n m (v / 10) (tenth (suc m) v h))))

width_some : (n v : ℕ) → 1 ≤ width_in n v
width_some zero v = omega arith
width_some (suc n) v =
    by_cases (dec_lt v 10)
    (λ s. rw (width_small n v s) (omega arith))
    (λ s. let l : 10 ≤ v = omega arith in rw (width_large n v l) (omega arith))

pub decimal_length : (m v : ℕ) → v < 10 ^ suc m → length (decimal v) ≤ suc m
unfolding decimal width
decimal_length m v h = rw (numeral_length 10 (width v) v) (width_most 19 m v h)

-- they are one more than the power of ten that v reaches; 0 has one too
pub width_log : (v m : ℕ) {k : ℕ} → v < 4294967296 → m ≡ max v 1 → 10 ^ k ≤ m → m < 10 * 10 ^ k → k < 10 → (k + 1 ≡ width v) × (k + 1 ≤ 20)
unfolding width
width_log v m {k} small e low high few =
    let most : width v ≤ suc k = width_most 19 k v (rw pow-suc (omega arith)) in
    let some : 1 ≤ width v = width_some 19 v in
    let reached : k < width v =
    by_cases (dec_lt k (width v)) (λ h. h)
    (λ h.
    let ten : 10 ^ 1 ≤ 10 ^ width v = pow-le-pow_right {n = 10} (omega arith) some in
    let up : 10 ^ width v ≤ 10 ^ k = pow-le-pow_right {n = 10} (omega arith) (omega arith) in
    let fits : v < 10 ^ width v = width_fits 19 v (omega arith) in
    absurd (omega arith)) in
    (omega arith, omega arith)

-- THE LOOP THAT WRITES THEM, from the last to the first: i of them are left, those of rest
pub record Numbering (b : List ℕ) (at base count v : ℕ) (d : List ℕ) (i rest : ℕ) : Type 0 where
  pub kept : length d ≡ length b
  pub inside : i ≤ count
  pub same : sets d at (numeral base i rest) ≡ written b at (numeral base count v)

pub numbering_start : (b : List ℕ) (at base count v : ℕ) → Numbering b at base count v b count v
numbering_start b at base count v =
    record { kept = refl; inside = omega arith; same = sym (written_sets b at (numeral base count v)) }

pub numbering_more : {b d f : List ℕ} {at base count v i j rest x : ℕ} → Numbering b at base count v d i rest → i ≡ suc j → x ≡ shown (rest % base) → f ≡ set d (at + j) x
    → Numbering b at base count v f j (rest / base)
numbering_more {b} {d} {f} {at} {base} {count} {v} {i} {j} {rest} {x} n k e q =
    let s : i ≤ count = n.inside in
    let t : numeral base i rest ≡ numeral base j (rest / base) ++ (x ∷ []) = rw (k, e) (numeral_more base j rest) in
    let l : length (numeral base j (rest / base)) ≡ j = numeral_length base j (rest / base) in
    record {
      kept = rw q (length-set d (at + j) x ∙ n.kept);
      inside = omega arith;
      same = rw q (sym (ap (sets d at) t ∙ sets_last d at (numeral base j (rest / base)) x ∙ rw l) ∙ n.same);
    }

-- a digit behind the buffer's end is left out
pub numbering_out : {b d : List ℕ} {at base count v i j rest : ℕ} → Numbering b at base count v d i rest → i ≡ suc j → length b ≤ at + j → Numbering b at base count v d j (rest / base)
numbering_out {d = d} {at} {base} {j = j} {rest = rest} n k h = numbering_more n k refl (sym (set_out d (at + j) (shown (rest % base)) (rw n.kept h)))

pub numbering_end : {b d : List ℕ} {at base count v i rest : ℕ} → Numbering b at base count v d i rest → i ≤ 0 → d ≡ written b at (numeral base count v)
unfolding numeral
numbering_end {d = d} {at = at} {i = i} n h = let z : i ≡ 0 = omega arith in rw z at n.same

pub numbering_put : {b d : List ℕ} {at base count v i rest : ℕ} → Numbering b at base count v b i rest → d ≡ written b at (numeral base i rest) → d ≡ written b at (numeral base count v)
numbering_put {b} {at = at} n e = e ∙ written_sets b at _ ∙ n.same

-- WHAT IS WRITTEN IS READ BACK
digit_shown : (d : ℕ) → d < 16 → digit_of (shown d) ≡ d
digit_shown d h =
    by_cases (dec_lt d 10)
    (λ s. rw (lt-ltb d 10 s, le-leb 48 (48 + d) (omega arith), le-leb (48 + d) 57 (omega arith)) (omega arith))
    (λ s.
    let l : 10 ≤ d = omega arith in
    rw (le-ltb d 10 l, le-leb 48 (55 + d) (omega arith), lt-leb (55 + d) 57 (omega arith), le-leb 65 (55 + d) (omega arith), le-leb (55 + d) 70 (omega arith)) (omega arith))

module _ (base : ℕ) (some : 0 < base) (most : base ≤ 16) where
  read_digits : (k v : ℕ) → map digit_of (numeral base k v) ≡ digits_in base k v
  unfolding numeral
  read_digits zero v = refl
  read_digits (suc k) v =
      let d : v % base < base = mod-lt v some in
      ap (map digit_of) (numeral_more base k v) ∙ map_last digit_of (numeral base k (v / base)) (shown (v % base))
      ∙ ap₂ (λ l x. l ++ (x ∷ [])) (read_digits k (v / base)) (digit_shown (v % base) (omega arith))

  are_last : (xs : List ℕ) (d : ℕ) → are_digits base xs ≡ true → d < base → are_digits base (xs ++ (shown d ∷ [])) ≡ true
  are_last [] d e h = let s = digit_shown d (omega arith) in rw (s, lt-ltb d base h)
  are_last (x ∷ xs) d e h = step (ltb (digit_of x) base) (λ a. are_last xs d a h) e
    where
      step : (t : Bool) → (are_digits base xs ≡ true → are_digits base (xs ++ (shown d ∷ [])) ≡ true) → t && are_digits base xs ≡ true → t && are_digits base (xs ++ (shown d ∷ [])) ≡ true
      step true f a = f a
      step false f a = a

  are_digits_law : (k v : ℕ) → are_digits base (numeral base k v) ≡ true
  unfolding numeral
  are_digits_law zero v = refl
  are_digits_law (suc k) v = ap (are_digits base) (numeral_more base k v) ∙ are_last (numeral base k (v / base)) (v % base) (are_digits_law k (v / base)) (mod-lt v some)

  pub numeral_says : (k v : ℕ) → v < base ^ k → spelled base (numeral base k v) ≡ v
  numeral_says k v h = ap (value_in base) (read_digits k v) ∙ value_digits base k v some h

  pub read_numeral : (digits limit k v : ℕ) → 1 ≤ k → k ≤ digits → v < base ^ k → v ≤ limit → read_in base digits limit (numeral base k v) ≡ Some v
  read_numeral digits limit k v p q h l =
      rw (numeral_length base k v, le-leb 1 k p, le-leb k digits q, are_digits_law k v, numeral_says k v h, le-leb v limit l)

pub read_hex8_law : (v : ℕ) → v < 4294967296 → read_hex8 (hex8 v) ≡ Some v
unfolding hex8
read_hex8_law v h =
    sym (hex_limit (numeral 16 8 v) (numeral_length 16 8 v)) ∙ read_numeral 16 (omega arith) (omega arith) 8 4294967295 8 v (omega arith) (omega arith) h (omega arith)

pub hex8_length : (v : ℕ) → length (hex8 v) ≡ 8
unfolding hex8
hex8_length v = numeral_length 16 8 v

-- no zero stands before another digit
one_digit : (v : ℕ) → v < 10 → numeral 10 1 v ≡ (48 + v) ∷ []
unfolding numeral
one_digit v h = rw (mod-eq_of_lt h, lt-ltb v 10 h)

first_digit : (base k v : ℕ) → 1 ≤ k → get_or (numeral base (suc k) v) 0 0 ≡ get_or (numeral base k (v / base)) 0 0
first_digit base k v h =
    rw (numeral_more base k v) (get_or-append (numeral base k (v / base)) (shown (v % base) ∷ []) 0 0 (rw (numeral_length base k (v / base)) h))

zero_first : (n v : ℕ) → v < 10 ^ suc n → get_or (numeral 10 (width_in n v) v) 0 0 ≡ 48 → v ≡ 0
zero_first zero v h e = let s = rw (one_digit v h) at e in omega arith
zero_first (suc n) v h e =
    by_cases (dec_lt v 10)
    (λ s. let z = rw (width_small n v s, one_digit v s) at e in omega arith)
    (λ s.
    let l : 10 ≤ v = omega arith in
    let z = rw (width_large n v l, first_digit 10 (width_in n (v / 10)) v (width_some n (v / 10))) at e in
    let q = zero_first n (v / 10) (tenth (suc n) v h) z in
    omega arith)

pub decimal_bare : (v : ℕ) → v < 10 ^ 20 → has_leading_zero (decimal v) ≡ false
unfolding decimal width
decimal_bare v h =
    by_cases (dec_lt v 10)
    (λ s. rw (width_small 18 v s, one_digit v s))
    (λ s. simp (ne_eqb (get_or (numeral 10 (width_in 19 v) v) 0 0) 48 (λ e. let z = zero_first 19 v h e in omega arith), and-false))

-- a number up to the limit, written in decimal, is read back, whether leading zeros are allowed or not: the law for every width
read_bare : (zeros : Zeros) (most limit : ℕ) (xs : List ℕ) → has_leading_zero xs ≡ false → read_number zeros most limit xs ≡ read_in 10 most limit xs
unfolding read_number
read_bare Allowed most limit xs n = refl
read_bare Refused most limit xs n = rw n

pub read_decimal : (zeros : Zeros) (m limit v : ℕ) → v ≤ limit → limit < 10 ^ suc m → suc m ≤ 20 → read_number zeros (suc m) limit (decimal v) ≡ Some v
unfolding decimal width
read_decimal zeros m limit v h l r =
    let long : 10 ^ suc m ≤ 10 ^ 20 = pow-le-pow_right {n = 10} (omega arith) r in
    let fits : v < 10 ^ 20 = omega arith in
    read_bare zeros (suc m) limit (decimal v) (decimal_bare v fits)
    ∙ read_numeral 10 (omega arith) (omega arith) (suc m) limit (width v) v (width_some 19 v) (width_most 19 m v (omega arith)) (width_fits 19 v fits) h

pub decimal_digit : (v : ℕ) → v < 10 → decimal v ≡ (48 + v) ∷ []
unfolding decimal width
decimal_digit v h = rw (width_small 18 v h) (one_digit v h)

pub dotted_octets : (a : ℕ)
    → dotted a ≡ decimal (a / 16777216) & text "." & decimal (a / 65536 % 256) & text "." & decimal (a / 256 % 256) & text "." & decimal (a % 256)
unfolding dotted
dotted_octets a = refl

-- an address takes at most 15 bytes
pub dotted_length : (a : ℕ) → a < 4294967296 → length (dotted a) ≤ 15
dotted_length a h =
    let p = decimal_length 2 (a / 16777216) (omega arith) in
    let q = decimal_length 2 (a / 65536 % 256) (omega arith) in
    let r = decimal_length 2 (a / 256 % 256) (omega arith) in
    let s = decimal_length 2 (a % 256) (omega arith) in
    rw (dotted_octets a) (simp length-append (omega arith))
