-- Document 01, "An opening takes the lowest free place": what is free in a table, and the number that is drawn. Assumes nothing.
use Rattle.std.specs.Prelude.{ℕ, zero, suc, ◌+◌, ◌%◌, Bool, cond, not, ◌&&◌, ◌||◌, List, map, ◌==◌, nat_le}
use Rattle.scan.specs.Lists.{is_between, first}
use Rattle.stream.specs.declared.Stream.{Stream}
use Rattle.table.specs.Table.{any, is_among, has_number, is_free, is_dead}
use Rattle.table.specs.Reach.{has_source, size_of, set_of}
use Rattle.table.specs.declared.Session.{Session}
use Rattle.table.specs.declared.SatBox.{SatBox}

-- "the lowest free place"; 32 where none is free
abbrev pub lowest_place : List Session → ℕ
lowest_place l = first is_free l

-- "the lowest free ID"; 9 where none is free
abbrev pub lowest_id : List Stream → ℕ
lowest_id ms = suc (first is_dead ms)

-- a frontend is held by a stream
abbrev pub is_held : ℕ → List Stream → Bool
is_held f ms = is_among f (map (λ m. m.frontend) ms)

-- order 1: one "of the free frontends that reach its src"
abbrev pub can_feed : SatBox → ℕ → ℕ → Bool
can_feed t source f = is_between 1 t.settings.frontends f && (not (is_held f t.streams) && has_source (set_of t.settings f) source)

abbrev pub size_at : SatBox → ℕ → ℕ
size_at t f = size_of (set_of t.settings f)

-- and, of those from f on that are so many, "the one reaching the fewest sources, ties to the lowest number"; 0 where there is none
abbrev pub fewest_from : SatBox → ℕ → ℕ → ℕ → ℕ
fewest_from t source zero f = 0
fewest_from t source (suc more) f =
    let g = fewest_from t source more (suc f) in cond (can_feed t source f && (g == 0 || nat_le (size_at t f) (size_at t g))) f g

-- "A new stream without fe takes" this one of the box's
unfoldable pub choice : SatBox → ℕ → ℕ
choice t source = fewest_from t source 8 1

-- the first number from n on, going by `next`, that is not taken; the one after `more` of them where all these are
abbrev pub first_free : (ℕ → Bool) → (ℕ → ℕ) → ℕ → ℕ → ℕ
first_free taken next zero n = n
first_free taken next (suc more) n = cond (taken n) (first_free taken next more (next n)) n

-- "the first non-zero number not open, counting up from the draw; after 4294967295 comes 0": 32 sessions and the 0 can take 33 numbers, so that one
-- of 34 is not taken
unfoldable pub drawn : List Session → ℕ → ℕ
drawn l draw = first_free (λ n. (n == 0) || any (has_number n) l) (λ n. (n + 1) % 4294967296) 34 draw
