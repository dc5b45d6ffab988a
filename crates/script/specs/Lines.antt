-- The lines of a script, and what they stand for where they hold a request. Assumes nothing.
use Rattle.std.specs.Prelude.{ℕ, cond, List, [], ◌∷◌, ◌++◌, eqb, drop, replicate}
use Rattle.scan.specs.Text.{before, is, push}

-- the lines of a text: what stands between its LFs, but for an empty one behind the last of them
abbrev pub lines_of : List ℕ → List (List ℕ)
lines_of [] = []
lines_of (x ∷ xs) = cond (is 10 x) ([] ∷ lines_of xs) (push x (lines_of xs))

-- the line that starts at a place
abbrev pub line_at : ℕ → List ℕ → List ℕ
line_at at xs = before 10 (drop at xs)

-- `|` stands for CR LF, `^` for a hundred letters `a`, and any other byte for itself
abbrev pub stands_for : ℕ → List ℕ
stands_for b = cond (eqb b 124) (13 ∷ 10 ∷ []) (cond (eqb b 94) (replicate 100 97) (b ∷ []))

abbrev pub unfolded : List ℕ → List ℕ
unfolded [] = []
unfolded (b ∷ bs) = stands_for b ++ unfolded bs
