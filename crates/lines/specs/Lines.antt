-- "Layout: the bytes are lines ended by CR LF, the last line empty and no other; CR and LF occur only as that pair; all other bytes are 32
-- to 126." Assumes nothing.
use Rattle.std.specs.Prelude.{ℕ, Bool, false, cond, ◌&&◌, true, List, [], ◌∷◌, leb, eqb, length, get_or, drop, take}
use Rattle.scan.specs.Lists.{all, first, is_text}
use Rattle.scan.specs.Text.{is_empty, push}
use Rattle.lines.specs.Headers.{is_header}

-- what stands between the pairs CR LF, and after the last one
abbrev pub lines : List ℕ → List (List ℕ)
lines [] = [] ∷ []
lines (x ∷ []) = (x ∷ []) ∷ []
lines (x ∷ y ∷ xs) = cond (eqb x 13 && eqb y 10) ([] ∷ lines xs) (push x (lines (y ∷ xs)))

-- nothing stands behind the empty line; "Each line after the first and before the last is a header", and the first passes a test of its own
abbrev pub are_lines : (List ℕ → Bool) → List (List ℕ) → Bool
are_lines test [] = false
are_lines test (l ∷ ls) = cond (is_empty l) (all is_empty ls && eqb (length ls) 1) (all is_text l && (test l && are_lines is_header ls))

-- step 1: "Layout broken or over 2,048 bytes"
unfoldable pub is_laid_out : List ℕ → Bool
is_laid_out s = leb (length s) 2048 && are_lines (λ l. true) (lines s)

-- the first line, and those from the second up to the empty one
unfoldable pub request_line : List ℕ → List ℕ
request_line s = get_or (lines s) 0 []

unfoldable pub header_lines : List ℕ → List (List ℕ)
header_lines s = take (first is_empty (drop 1 (lines s))) (drop 1 (lines s))
