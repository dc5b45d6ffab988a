-- Quoted texts as lists of bytes, ASCII alone: `text "OK\r\n"`, and `a & b & c` for one after the other; texts compared, cut and trimmed. Assumes nothing.
use Rattle.std.specs.Prelude.{ℕ, ◌+◌, List, [], ◌∷◌, ◌++◌, Bool, true, false, cond, ◌&&◌, not, eqb, ltb, length, drop}
use Prim.Native.Char.{code}
use Prim.Native.String.{String}
use Prim.Native.String.{[] as empty, ◌∷◌ as ◌then◌}
use Rattle.scan.specs.Lists.{is_capital, first, part}
use Rattle.scan.specs.declared.Case.{Case}
use Rattle.scan.specs.declared.Case.TheVariants.{Counts, Ignored}

abbrev pub text : String → List ℕ
text empty = []
text (c then s) = code c ∷ text s

-- nested to the right, so that a text with numbers in it computes as far as its first number
infixr 64 ◌&◌
abbrev pub ◌&◌ : List ℕ → List ℕ → List ℕ
a & b = a ++ b

-- what is compared of a byte: itself, or for a capital letter whose case is ignored its small form
abbrev pub seen : Case → ℕ → ℕ
seen Counts b = b
seen Ignored b = cond (is_capital b) (b + 32) b

-- as many bytes in both, and each pair the same after f
abbrev pub alike_by : (ℕ → ℕ) → List ℕ → List ℕ → Bool
alike_by f [] [] = true
alike_by f [] (y ∷ ys) = false
alike_by f (x ∷ xs) [] = false
alike_by f (x ∷ xs) (y ∷ ys) = eqb (f x) (f y) && alike_by f xs ys

abbrev pub are_alike : Case → List ℕ → List ℕ → Bool
are_alike case xs ys = alike_by (seen case) xs ys

abbrev pub is : ℕ → ℕ → Bool
is b x = eqb x b

-- what stands before the first byte b, what after it, and whether there is one
abbrev pub before : ℕ → List ℕ → List ℕ
before b xs = part 0 (first (is b) xs) xs

abbrev pub after : ℕ → List ℕ → List ℕ
after b xs = drop (first (is b) xs + 1) xs

abbrev pub has : ℕ → List ℕ → Bool
has b xs = ltb (first (is b) xs) (length xs)

-- a byte in front of the first piece
abbrev pub push : ℕ → List (List ℕ) → List (List ℕ)
push x [] = (x ∷ []) ∷ []
push x (l ∷ ls) = (x ∷ l) ∷ ls

-- the pieces between the bytes b: one more than there are bytes b
abbrev pub cut : ℕ → List ℕ → List (List ℕ)
cut b [] = [] ∷ []
cut b (x ∷ xs) = cond (is b x) ([] ∷ cut b xs) (push x (cut b xs))

abbrev pub is_empty : List ℕ → Bool
is_empty [] = true
is_empty (x ∷ xs) = false

-- without the spaces at the end
abbrev pub trim_end : List ℕ → List ℕ
trim_end [] = []
trim_end (x ∷ xs) = cond (eqb x 32 && is_empty (trim_end xs)) [] (x ∷ trim_end xs)

-- "value with outer spaces removed": spaces alone (byte 32), at both ends; those inside stay
abbrev pub trim : List ℕ → List ℕ
trim xs = trim_end (drop (first (λ x. not (eqb x 32)) xs) xs)

-- the place of s among the words, given as one text with a space between each two, counted from 0; how many there are where it is none
unfoldable pub place_among : Case → List ℕ → List ℕ → ℕ
place_among case words s = first (λ word. are_alike case word s) (cut 32 words)
