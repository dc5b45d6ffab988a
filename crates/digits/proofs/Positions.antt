-- A number and its digits, for every base and every width: each gives the other back. Assumes nothing.
use mathlib.Core.Path.{◌≡◌, refl, sym, ap, ◌∙◌}
use mathlib.Core.List.{List, [], ◌∷◌, ◌++◌, foldl}
use Prim.Native.Nat.{ℕ, zero, suc, ◌+◌, ◌*◌, ◌/◌, ◌%◌, ◌^◌, ◌<◌}
use native.Mathlib.Decide.{dec_lt}
use native.Mathlib.Nat.{pow-suc, pow-succ', pow-zero, mul-one, one-mul, mul_assoc, suc-mul, mul-le-mul_right, div-lt_iff_lt-mul, div-add-mod', mul-add-div_right, mul-add-mod_self_right, div-eq_of_lt, mod-eq_of_lt, mod-lt, add-zero}
use native.Mathlib.Omega.{arith}
use lib.ListN.{length, take, get_or, length-append, get_or-eq_default}
use lib.Seq.{take-suc, take-length, get_or-take, length-take-le}
use Rattle.scan.proofs.Bools.{by_cases}
use Rattle.digits.specs.Reading.{digits_in, value_in}

-- the number that digits say after v
abbrev pub value_from : ℕ → ℕ → List ℕ → ℕ
value_from base v ds = foldl (λ w d. w * base + d) v ds

-- each is a digit of the base
abbrev pub Below : ℕ → List ℕ → Type 0
Below base ds = (i : ℕ) → get_or ds i 0 < base

pub digits_length : (base k v : ℕ) → length (digits_in base k v) ≡ k
digits_length base zero v = refl
digits_length base (suc k) v = length-append (digits_in base k (v / base)) (v % base ∷ []) ∙ omega (arith, digits_length base k (v / base))

-- one element more at the end
below_last : (base : ℕ) (ds : List ℕ) (d : ℕ) → Below base ds → d < base → Below base (ds ++ (d ∷ []))
below_last base [] d b h zero = h
below_last base [] d b h (suc i) = omega arith
below_last base (x ∷ ds) d b h zero = b 0
below_last base (x ∷ ds) d b h (suc i) = below_last base ds d (λ j. b (suc j)) h i

pub digits_below : (base k v : ℕ) → 0 < base → Below base (digits_in base k v)
digits_below base zero v h = λ i. h
digits_below base (suc k) v h = below_last base (digits_in base k (v / base)) (v % base) (digits_below base k (v / base) h) (mod-lt v h)

value_last : (base v : ℕ) (ds : List ℕ) (d : ℕ) → value_from base v (ds ++ (d ∷ [])) ≡ value_from base v ds * base + d
value_last base v [] d = refl
value_last base v (x ∷ ds) d = value_last base (v * base + x) ds d

-- digits after a number below m say a number below m times the base's power
value_under : (base v m : ℕ) (ds : List ℕ) → Below base ds → v < m → value_from base v ds < m * base ^ length ds
value_under base v m [] b h = rw (pow-zero, mul-one) h
value_under base v m (d ∷ ds) b h =
    let w : v * base + d < m * base = omega (arith, b 0, suc-mul v base, mul-le-mul_right base h) in
    rw (pow-succ', ← mul_assoc) (value_under base (v * base + d) (m * base) ds (λ i. b (suc i)) w)

pub value_below : (base : ℕ) (ds : List ℕ) → Below base ds → value_in base ds < base ^ length ds
value_below base ds b = rw one-mul at (value_under base 0 1 ds b (omega arith))

-- THE DIGITS OF A NUMBER SAY THE NUMBER
pub value_digits : (base k v : ℕ) → 0 < base → v < base ^ k → value_in base (digits_in base k v) ≡ v
value_digits base zero v b h = let z = rw pow-zero at h in omega arith
value_digits base (suc k) v b h =
    let q : v / base < base ^ k = (div-lt_iff_lt-mul {k = base} b).1 (rw pow-suc at h) in
    value_last base 0 (digits_in base k (v / base)) (v % base) ∙ rw (value_digits base k (v / base) b q) (div-add-mod' v base)

-- THE NUMBER THAT DIGITS SAY HAS THOSE DIGITS
front_below : (base k : ℕ) (ds : List ℕ) → 0 < base → k < length ds → Below base ds → Below base (take k ds)
front_below base k ds p h b i =
    by_cases (dec_lt i k)
    (λ l. rw (get_or-take k ds i 0 l) (b i))
    (λ l. rw (get_or-eq_default (take k ds) 0 {n = i} (rw (length-take-le k ds (omega arith)) (omega arith))) p)

pub digits_value : (base k : ℕ) (ds : List ℕ) → 0 < base → length ds ≡ k → Below base ds → digits_in base k (value_in base ds) ≡ ds
digits_value base zero [] p e b = refl
digits_value base zero (x ∷ ds) p e b = absurd (omega arith)
digits_value base (suc k) ds p e b =
    let l : k < length ds = omega arith in
    let f : List ℕ = take k ds in
    let d : ℕ = get_or ds k 0 in
    let whole : ds ≡ f ++ (d ∷ []) = sym (take-length ds) ∙ ap (λ n. take n ds) e ∙ take-suc ds k 0 l in
    let v : value_in base ds ≡ value_in base f * base + d = ap (value_in base) whole ∙ value_last base 0 f d in
    let high : value_in base ds / base ≡ value_in base f =
    ap (λ n. n / base) v ∙ mul-add-div_right p (value_in base f) d ∙ ap (λ n. value_in base f + n) (div-eq_of_lt (b k)) ∙ add-zero (value_in base f)
    in
    let low : value_in base ds % base ≡ d = ap (λ n. n % base) v ∙ mul-add-mod_self_right (value_in base f) base d ∙ mod-eq_of_lt (b k) in
    let rest : digits_in base k (value_in base f) ≡ f = digits_value base k f p (length-take-le k ds (omega arith)) (front_below base k ds p l b) in
    rw (high, low, rest) (sym whole)

-- the four octets of an address
pub octets : (a : ℕ) → a < 4294967296 → digits_in 256 4 a ≡ (a / 16777216) ∷ (a / 65536 % 256) ∷ (a / 256 % 256) ∷ (a % 256) ∷ []
octets a h =
    let p : a / 256 / 256 / 256 % 256 ≡ a / 16777216 = omega arith in
    let q : a / 256 / 256 % 256 ≡ a / 65536 % 256 = omega arith in
    rw (p, q)
