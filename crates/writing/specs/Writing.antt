-- Numbers as text, and a text in a lent buffer. Assumes nothing.
use Rattle.std.specs.Prelude.{ℕ, zero, suc, ◌+◌, ◌/◌, ◌-◌, ◌%◌, cond, List, map, ◌++◌, ltb, length, take, drop}
use Rattle.digits.specs.Reading.{digits_in}
use Rattle.scan.specs.Text.{text, ◌&◌}

-- the byte that shows a digit: 0 to 9, then A to F
abbrev pub shown : ℕ → ℕ
shown d = cond (ltb d 10) (48 + d) (55 + d)

-- the last k digits of v in a base, as text
unfoldable pub numeral : ℕ → ℕ → ℕ → List ℕ
numeral base k v = map shown (digits_in base k v)

-- how many decimal digits v takes: one below 10, and else one more than its tenth. Only n more are looked for
abbrev pub width_in : ℕ → ℕ → ℕ
width_in zero v = 1
width_in (suc n) v = cond (ltb v 10) 1 (suc (width_in n (v / 10)))

-- twenty digits hold every number of 64 bits
unfoldable pub width : ℕ → ℕ
width v = width_in 19 v

-- decimal without leading zeros
unfoldable pub decimal : ℕ → List ℕ
decimal v = numeral 10 (width v) v

-- "8 upper-case hex digits"
unfoldable pub hex8 : ℕ → List ℕ
hex8 v = numeral 16 8 v

-- "dotted address": its four octets, the highest first
unfoldable pub dotted : ℕ → List ℕ
dotted a = decimal (a / 16777216) & text "." & decimal (a / 65536 % 256) & text "." & decimal (a / 256 % 256) & text "." & decimal (a % 256)

-- the buffer b with the text t from place `at` on, as far as b reaches; before the text and after it b is as it was
unfoldable pub written : List ℕ → ℕ → List ℕ → List ℕ
written b at t = take at b ++ (take (length b - at) t ++ drop (at + length t) b)
