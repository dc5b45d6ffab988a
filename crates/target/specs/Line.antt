-- "Request line: three non-empty parts split by exactly two spaces." Assumes nothing.
use Rattle.std.specs.Prelude.{ℕ, Bool, not, ◌&&◌, List, [], get_or, length, eqb}
use Rattle.scan.specs.Text.{is_empty, cut}
use Rattle.scan.specs.Lists.{all}

abbrev pub is_three : List ℕ → Bool
is_three line = eqb (length (cut 32 line)) 3 && all (λ p. not (is_empty p)) (cut 32 line)

-- the method is part 0, the URI part 1, the version part 2
abbrev pub line_part : ℕ → List ℕ → List ℕ
line_part k line = get_or (cut 32 line) k []
