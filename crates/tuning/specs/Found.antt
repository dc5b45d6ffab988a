-- What the private functions answer. No call of the box reaches it. Assumes nothing.
use Rattle.std.specs.Prelude.{ℕ, ◌+◌, ◌*◌, Bool, cond, List, ltb, eqb, length, Option, Some, None, is_some, option_map}
use Rattle.scan.specs.Lists.{is_between, first}
use Rattle.digits.specs.Reading.{read_number}
use Rattle.digits.specs.declared.Zeros.TheVariants.{Allowed}
use denote.Ref.{Bor}
use Rattle.std.specs.List.{position}
use Rattle.tuning.specs.Values.{attribute_of}
use Rattle.scan.specs.declared.Case.TheVariants.{Counts}
use Rattle.scan.specs.Text.{is, before, after, has, are_alike}

-- an attribute by its name, where the table has it
abbrev pub attribute_named : List ℕ → Option ℕ
attribute_named name = cond (ltb (attribute_of name) 13) (Some (attribute_of name)) None

-- the place of a text among some words, and the code of that place
unfoldable pub place_of : List (Bor (List ℕ)) → List ℕ → Option ℕ
place_of words s = position (λ word. are_alike Counts word.now s) words

abbrev pub code_of : List (Bor (List ℕ)) → List ℕ → Option ℕ
code_of words s = option_map (λ place. place + 1) (place_of words s)

-- a frequency by its two parts: the digits before the dot
abbrev pub megahertz : List ℕ → Option ℕ
megahertz xs = cond (eqb (first (is 46) xs) 5) (read_number Allowed 5 99999 (before 46 xs)) None

-- ten times what was read
abbrev pub tenfold : Option ℕ → Option ℕ
tenfold read = option_map (λ v. v * 10) read

-- "one or two digits" of tenths and hundredths
abbrev pub fraction : List ℕ → Option ℕ
fraction xs = cond (eqb (length xs) 1) (tenfold (read_number Allowed 1 9 xs)) (cond (eqb (length xs) 2) (read_number Allowed 2 99 xs) None)

-- "optionally a dot and" such digits: none without a dot
abbrev pub hundredths : List ℕ → Option ℕ
hundredths xs = cond (has 46 xs) (fraction (after 46 xs)) (Some 0)

abbrev pub is_pid : List ℕ → Bool
is_pid xs = is_some (read_number Allowed 5 8191 xs)

abbrev pub in_band : ℕ → Option ℕ
in_band v = cond (is_between 1070000 1275000 v) (Some v) None

abbrev pub frequency_from : Option ℕ → Option ℕ → Option ℕ
frequency_from (Some m) (Some h) = in_band (m * 100 + h)
frequency_from (Some m) None = None
frequency_from None h = None
