-- Document 01's table by examples: what some texts are worth, by computation. Assumes nothing.
use Prim.Native.String.{String}
use Rattle.std.specs.Prelude.{ℕ, ◌≡◌, refl, Option, Some, None}
use Rattle.scan.specs.Text.{text, place_among}
use Rattle.digits.specs.Reading.{read_number}
use Rattle.tuning.specs.Values.{attribute_of, frequency, are_pids, value_of}

-- the code of an attribute's value, both as they are written, on a box with two frontends
abbrev worth : String → String → Option ℕ
worth name value = value_of 2 (attribute_of (text name)) (text value)

-- the table's first, its last, and no name of it
pub names
    : (attribute_of (text "src") ≡ 0)
    × (attribute_of (text "delpids") ≡ 12)
    × (attribute_of (text "Freq") ≡ 13)
    × (attribute_of (text "freq ") ≡ 13)
    × (attribute_of (text "") ≡ 13)
unfolding attribute_of place_among
names = (refl, refl, refl, refl, refl)

-- "1 to 4"; "1 to 5 digits, leading zeros allowed"
pub sources
    : (worth "src" "1" ≡ Some 1)
    × (worth "src" "00004" ≡ Some 4)
    × (worth "src" "0" ≡ None)
    × (worth "src" "5" ≡ None)
    × (worth "src" "000004" ≡ None)
    × (worth "src" "" ≡ None)
unfolding value_of read_number attribute_of place_among
sources = (refl, refl, refl, refl, refl, refl)

-- "1 to F"
pub frontends
    : (worth "fe" "02" ≡ Some 2)
    × (worth "fe" "3" ≡ None)
    × (worth "fe" "0" ≡ None)
unfolding value_of read_number attribute_of place_among
frontends = (refl, refl, refl)

-- "10700 to 12750, kept in hundredths": five digits of MHz, and perhaps a dot and one or two digits
pub frequencies
    : (worth "freq" "10700" ≡ Some 1070000)
    × (worth "freq" "12750" ≡ Some 1275000)
    × (worth "freq" "12750.00" ≡ Some 1275000)
    × (worth "freq" "12750.01" ≡ None)
    × (worth "freq" "11538.5" ≡ Some 1153850)
    × (worth "freq" "11538.05" ≡ Some 1153805)
    × (worth "freq" "10699.99" ≡ None)
    × (worth "freq" "12750." ≡ None)
    × (worth "freq" "11538.500" ≡ None)
    × (worth "freq" "011538" ≡ None)
    × (worth "freq" "1e700" ≡ None)
unfolding value_of read_number frequency attribute_of place_among
frequencies = (refl, refl, refl, refl, refl, refl, refl, refl, refl, refl, refl)

-- words are as they are written
pub polarisations
    : (worth "pol" "h" ≡ Some 1)
    × (worth "pol" "r" ≡ Some 4)
    × (worth "pol" "H" ≡ None)
    × (worth "pol" "h v" ≡ None)
unfolding value_of attribute_of place_among
polarisations = (refl, refl, refl, refl)

-- "1000 to 45000"
pub rates
    : (worth "sr" "1000" ≡ Some 1000)
    × (worth "sr" "01000" ≡ Some 1000)
    × (worth "sr" "45000" ≡ Some 45000)
    × (worth "sr" "45001" ≡ None)
    × (worth "sr" "00999" ≡ None)
unfolding value_of read_number attribute_of place_among
rates = (refl, refl, refl, refl, refl)

-- by their places in the table
pub error_corrections
    : (worth "fec" "12" ≡ Some 1)
    × (worth "fec" "45" ≡ Some 8)
    × (worth "fec" "910" ≡ Some 9)
    × (worth "fec" "012" ≡ None)
unfolding value_of attribute_of place_among
error_corrections = (refl, refl, refl, refl)

-- "all, none, or numbers 0 to 8191 joined by commas"
pub pid_lists
    : (worth "pids" "all" ≡ Some 1)
    × (worth "pids" "none" ≡ Some 2)
    × (worth "pids" "0,8191" ≡ Some 3)
    × (worth "pids" "8192" ≡ None)
    × (worth "pids" "1,,2" ≡ None)
    × (worth "pids" "0," ≡ None)
    × (worth "pids" "" ≡ None)
unfolding value_of read_number are_pids attribute_of place_among
pid_lists = (refl, refl, refl, refl, refl, refl, refl)

-- numbers alone
pub added_pids
    : (worth "addpids" "0" ≡ Some 3)
    × (worth "addpids" "all" ≡ None)
    × (worth "addpids" "none" ≡ None)
unfolding value_of read_number are_pids attribute_of place_among
added_pids = (refl, refl, refl)

-- no value where there is no such attribute
pub no_attribute : worth "frequency" "12750" ≡ None
unfolding value_of attribute_of place_among
no_attribute = refl
