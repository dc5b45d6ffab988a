-- Document 01's table of attributes, and what a stream keeps of a value's text: a code that is never 0. Assumes nothing.
use Rattle.std.specs.Prelude.{ℕ, ◌+◌, Bool, cond, not, ◌||◌, ◌&&◌, List, ltb, eqb, length, take, Option, Some, None, is_some}
use Rattle.std.specs.Option.{option_or}
use Rattle.scan.specs.Text.{text, ◌&◌, cut, before, after, has, place_among}
use Rattle.scan.specs.Lists.{all, ◌gives◌or◌, is_between}
use Rattle.scan.specs.declared.Case.TheVariants.{Counts}
use Rattle.digits.specs.Reading.{read_number, at_least}
use Rattle.digits.specs.declared.Zeros.TheVariants.{Allowed}

-- an attribute by its name, whose case counts: its place in the table, from 0 on; 13 for a name that is none of them
unfoldable pub attribute_of : List ℕ → ℕ
attribute_of name = place_among Counts (text "src fe freq pol msys mtype plts ro sr fec pids addpids delpids") name

-- "Plain numbers are 1 to 5 digits, leading zeros allowed."
abbrev pub plain : ℕ → ℕ → List ℕ → Option ℕ
plain least most xs = at_least least (read_number Allowed 5 most xs)

-- one of some words, with a space between each two in `words`; the first has code 1
abbrev pub word : List ℕ → List ℕ → Option ℕ
word words xs = cond (ltb (place_among Counts words xs) (length (cut 32 words))) (Some (place_among Counts words xs + 1)) None

-- "five digits of MHz, optionally a dot and one or two digits"
abbrev pub is_megahertz : List ℕ → Bool
is_megahertz xs = eqb (length (before 46 xs)) 5 && (not (has 46 xs) || is_between 1 2 (length (after 46 xs)))

-- "10700 to 12750, kept in hundredths": those seven digits, with zeros for what is left out
unfoldable pub frequency : List ℕ → Option ℕ
frequency xs = cond (is_megahertz xs) (at_least 1070000 (read_number Allowed 7 1275000 (before 46 xs & take 2 (after 46 xs & text "00")))) None

-- "numbers 0 to 8191 joined by commas": any number of them
unfoldable pub are_pids : List ℕ → Bool
are_pids xs = all (λ p. is_some (read_number Allowed 5 8191 p)) (cut 44 xs)

-- a list of PIDs, as it is obeyed later
abbrev pub pid_list : List ℕ → Option ℕ
pid_list xs = cond (are_pids xs) (Some 3) None

-- "all, none, or" such a list: 1, 2, 3
abbrev pub word_or_pids : Option ℕ → List ℕ → Option ℕ
word_or_pids word xs = option_or word (pid_list xs)

-- the code of an attribute's value, on a box with so many frontends; nothing where the value is outside the table
unfoldable pub value_of : ℕ → ℕ → List ℕ → Option ℕ
value_of frontends attribute xs =
    eqb attribute 0 gives plain 1 4 xs or
    eqb attribute 1 gives plain 1 frontends xs or
    eqb attribute 2 gives frequency xs or
    eqb attribute 3 gives word (text "h v l r") xs or
    eqb attribute 4 gives word (text "dvbs dvbs2") xs or
    eqb attribute 5 gives word (text "qpsk 8psk") xs or
    eqb attribute 6 gives word (text "on off") xs or
    eqb attribute 7 gives word (text "0.35 0.25 0.20") xs or
    eqb attribute 8 gives plain 1000 45000 xs or
    eqb attribute 9 gives word (text "12 23 34 56 78 89 35 45 910") xs or
    eqb attribute 10 gives word_or_pids (word (text "all none") xs) xs or
    eqb attribute 11 gives pid_list xs or
    eqb attribute 12 gives pid_list xs or
    None
