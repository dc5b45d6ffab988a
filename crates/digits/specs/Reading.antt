-- Numbers by their digits in a base, the highest first, and numbers read from text: the whole text, so the digits stand where it stands. Assumes nothing.
use Rattle.std.specs.Prelude.{ℕ, zero, suc, ◌+◌, ◌*◌, ◌/◌, ◌%◌, ◌-◌, Bool, cond, ◌&&◌, leb, ltb, eqb, length, get_or, Option, Some, None, is_some}
use mathlib.Core.List.{List, [], ◌∷◌, ◌++◌, foldl, map}
use Rattle.scan.specs.Lists.{all, is_between, is_digit}
use Rattle.digits.specs.declared.Zeros.{Zeros}
use Rattle.digits.specs.declared.Zeros.TheVariants.{Allowed, Refused}

-- the last k digits of v
abbrev pub digits_in : ℕ → ℕ → ℕ → List ℕ
digits_in base zero v = []
digits_in base (suc k) v = digits_in base k (v / base) ++ (v % base ∷ [])

-- the number that the digits say
abbrev pub value_in : ℕ → List ℕ → ℕ
value_in base ds = foldl (λ v d. v * base + d) 0 ds

-- what a byte counts as a digit: 0 to 9, and A to F of either case are 10 to 15; any other byte counts 255
abbrev pub digit_of : ℕ → ℕ
digit_of b = cond (is_digit b) (b - 48) (cond (is_between 65 70 b) (b - 55) (cond (is_between 97 102 b) (b - 87) 255))

-- the digit of a base that a byte is
abbrev pub digit_in : ℕ → ℕ → Option ℕ
digit_in base b = cond (ltb (digit_of b) base) (Some (digit_of b)) None

-- every byte is a digit of the base; the number that they say
abbrev pub are_digits : ℕ → List ℕ → Bool
are_digits base xs = all (λ b. ltb (digit_of b) base) xs

abbrev pub spelled : ℕ → List ℕ → ℕ
spelled base xs = value_in base (map digit_of xs)

-- digits of the base alone, at least one and at most `most`, that say at most `limit`
abbrev pub read_in : ℕ → ℕ → ℕ → List ℕ → Option ℕ
read_in base most limit xs =
    cond (leb 1 (length xs) && (leb (length xs) most && (are_digits base xs && leb (spelled base xs) limit))) (Some (spelled base xs)) None

-- order 2: "The reader of a number must hand on where its digits stand": the digits as they were sent, none where no number is read
abbrev pub digits_read : ℕ → ℕ → ℕ → List ℕ → List ℕ
digits_read base most limit xs = cond (is_some (read_in base most limit xs)) xs []

-- a zero before another digit
abbrev pub has_leading_zero : List ℕ → Bool
has_leading_zero xs = ltb 1 (length xs) && eqb (get_or xs 0 0) 48

-- "1 to 10 digits up to 4294967295", "1 to 5 digits, leading zeros allowed", "decimal without leading zeros"
unfoldable pub read_number : Zeros → ℕ → ℕ → List ℕ → Option ℕ
read_number Allowed most limit xs = read_in 10 most limit xs
read_number Refused most limit xs = cond (has_leading_zero xs) None (read_in 10 most limit xs)

-- what was read, where it is no less than `least`: "1 to 65535", "1000 to 45000"
abbrev pub at_least : ℕ → Option ℕ → Option ℕ
at_least least (Some v) = cond (leb least v) (Some v) None
at_least least None = None

-- "8 hex digits of either case"
unfoldable pub read_hex8 : List ℕ → Option ℕ
read_hex8 xs = cond (eqb (length xs) 8 && are_digits 16 xs) (Some (spelled 16 xs)) None
