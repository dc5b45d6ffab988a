-- "header: name (letters, digits, hyphen, dot, at least one), colon, value with outer spaces removed. Names ignore case. Known: CSeq,
-- Session, Transport, Require, Accept; others are skipped." Assumes nothing.
use Rattle.std.specs.Prelude.{ℕ, Bool, cond, ◌&&◌, List, [], ◌∷◌, eqb}
use Rattle.scan.specs.Text.{text, before, after, has, trim, place_among}
use Rattle.scan.specs.Lists.{are_name_bytes}
use Rattle.scan.specs.declared.Case.TheVariants.{Ignored}

abbrev pub is_header : List ℕ → Bool
is_header line = has 58 line && are_name_bytes (before 58 line)

-- a header by its place among the known ones, 5 for any other
abbrev pub header_of : List ℕ → ℕ
header_of line = place_among Ignored (text "CSeq Session Transport Require Accept") (before 58 line)

-- the values of the headers of one kind, in the order in which they were sent
abbrev pub values_of : ℕ → List (List ℕ) → List (List ℕ)
values_of k [] = []
values_of k (h ∷ hs) = cond (eqb (header_of h) k) (trim (after 58 h) ∷ values_of k hs) (values_of k hs)
