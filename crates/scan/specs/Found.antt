-- What the functions of this crate promise the crates above: where in a text something stands. No call of the box reaches it. Assumes nothing.
use Rattle.std.specs.Prelude.{ℕ, ◌+◌, ◌-◌, ◌≤◌, max, Bool, cond, not, ◌&&◌, ◌≡◌, List, [], ◌∷◌, ◌++◌, length, drop, leb, eqb}
use Rattle.scan.specs.Lists.{first, part, is_digit, is_capital, is_name, is_text, is_between}
use Rattle.scan.specs.declared.Span.{Span}
use Rattle.scan.specs.Text.{trim, are_alike, cut}
use Rattle.scan.specs.declared.Case.{Case}
use Rattle.scan.specs.declared.Class.{Class}
use Rattle.scan.specs.declared.Class.TheVariants.{Is, Not, Digit, Name, NotName, Text, NotText}

module _ {A : Type 0} (p : A → Bool) where
  -- r is the place of the first element that passes
  pub record FirstOf (xs : List A) (r : ℕ) : Type 0 where
    pub is : r ≡ first p xs
    pub within : r ≤ length xs

  -- r is the first place from `at` on whose element passes; the length where none does, and `at` where the list ends before it
  pub record FirstFrom (xs : List A) (at r : ℕ) : Type 0 where
    pub is : r ≡ at + first p (drop at xs)
    pub from : at ≤ r
    pub within : r ≤ max at (length xs)

-- what stands in xs from start up to end is ys
pub record Holds {A : Type 0} (xs ys : List A) (start end : ℕ) : Type 0 where
  pub order : start ≤ end
  pub within : end ≤ length xs
  pub is : part start end xs ≡ ys

-- what stands at a place; nothing where there is no such place
unfoldable pub text_at : List ℕ → Span → List ℕ
text_at s place = cond (leb place.start place.end && leb place.end (length s)) (part place.start place.end s) []

-- the place of nothing
abbrev pub nowhere : Span
nowhere = record { start = 0; end = 0 }

-- how many spaces stand at the start
abbrev pub leading : List ℕ → ℕ
leading xs = first (λ x. not (eqb x 32)) xs

-- where the trimmed text stands in xs
pub record Trimmed (xs : List ℕ) (r : Span) : Type 0 where
  pub starts : r.start ≡ leading xs
  pub holds : Holds xs (trim xs) r.start r.end

abbrev pub is_word : Case → List ℕ → List ℕ → Bool
is_word case s word = are_alike case word s

-- a capital letter's small form, and any other byte itself
abbrev pub small : ℕ → ℕ
small b = cond (is_capital b) (b + 32) b

-- a to z; a letter in its other case, and any other byte itself
abbrev pub is_small : ℕ → Bool
is_small b = is_between 97 122 b

abbrev pub other_case : ℕ → ℕ
other_case b = cond (is_capital b) (b + 32) (cond (is_small b) (b - 32) b)

-- the pieces from place p on, where a piece starts; none where p is past the end
abbrev pub cut_from : ℕ → ℕ → List ℕ → List (List ℕ)
cut_from b p s = cond (leb p (length s)) (cut b (drop p s)) []

-- where what is sought in a piece stands in the text, of the first piece that passes a test; 0 where none does. The pieces stand from place `at`
-- on with `gap` bytes between two, and `inside` says where it stands in its piece
abbrev pub place_in : (List ℕ → Bool) → (List ℕ → ℕ) → ℕ → ℕ → List (List ℕ) → ℕ
place_in sought inside gap at [] = 0
place_in sought inside gap at (l ∷ ls) = cond (sought l) (at + inside l) (place_in sought inside gap (at + length l + gap) ls)

abbrev pub in_class : Class → ℕ → Bool
in_class (Is x) b = eqb b x
in_class (Not x) b = not (eqb b x)
in_class Digit b = is_digit b
in_class Name b = is_name b
in_class NotName b = not (is_name b)
in_class Text b = is_text b
in_class NotText b = not (is_text b)

-- the pieces joined again, with b between each two
abbrev pub joined : ℕ → List (List ℕ) → List ℕ
joined b [] = []
joined b (l ∷ []) = l
joined b (l ∷ m ∷ ls) = l ++ (b ∷ joined b (m ∷ ls))
