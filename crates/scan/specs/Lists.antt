-- Looking through a list: a test is a function to Bool, and places count from 0; and the classes of bytes that requests are made of. Assumes nothing.
use Rattle.std.specs.Prelude.{ℕ, suc, ◌-◌, Bool, true, cond, ◌&&◌, ◌||◌, List, [], ◌∷◌, take, drop, length, leb, eqb, ltb}

module _ {A : Type 0} (p : A → Bool) where
  abbrev pub all : List A → Bool
  all [] = true
  all (x ∷ xs) = p x && all xs

  -- the place of the first element that passes; the length where none does
  abbrev pub first : List A → ℕ
  first [] = 0
  first (x ∷ xs) = cond (p x) 0 (suc (first xs))

-- from place a up to, not including, place e
abbrev pub part : {A : Type 0} → ℕ → ℕ → List A → List A
part a e xs = take (e - a) (drop a xs)

-- a chain of tests: the first that applies
infixr 50 ◌gives◌or◌
abbrev pub ◌gives◌or◌ : {A : Type 0} → Bool → A → A → A
◌gives◌or◌ t x y = cond t x y

abbrev pub is_between : ℕ → ℕ → ℕ → Bool
is_between low high b = leb low b && leb b high

-- 0 to 9; A to Z
abbrev pub is_digit : ℕ → Bool
is_digit b = is_between 48 57 b

abbrev pub is_capital : ℕ → Bool
is_capital b = is_between 65 90 b

-- "letters, digits, hyphen, dot": header names and hosts
abbrev pub is_name : ℕ → Bool
is_name b = is_capital b || is_between 97 122 b || is_digit b || eqb b 45 || eqb b 46

-- "at least one" of these and nothing else
abbrev pub are_name_bytes : List ℕ → Bool
are_name_bytes xs = ltb 0 (length xs) && all is_name xs

-- "all other bytes are 32 to 126"
abbrev pub is_text : ℕ → Bool
is_text b = is_between 32 126 b
