-- What the functions that put a text into a lent buffer promise the crates above. No call of the box reaches it. Assumes nothing.
use Rattle.std.specs.Prelude.{ℕ, ◌+◌, min, ◌≡◌, List, length}
use Rattle.writing.specs.Writing.{written}
use Rattle.std.specs.Borrow.{MutBor}
use Rattle.writing.specs.declared.Writer.{Writer}

-- the place after the text; where the text does not fit, one past the buffer's length, at which nothing fits any more
abbrev pub place_after : List ℕ → ℕ → List ℕ → ℕ
place_after b at t = min (at + length t) (length b + 1)

-- d is the buffer afterwards, and next the place after the text
pub record Wrote (b : List ℕ) (at : ℕ) (t d : List ℕ) (next : ℕ) : Type 0 where
  pub is : d ≡ written b at t
  pub place : next ≡ place_after b at t

-- a writer at the front of a lent buffer
abbrev pub starting : MutBor (List ℕ) → Writer
starting b = record { buf = b; at = 0 }

-- the place behind what a writer put
abbrev pub end_of : Writer → ℕ
end_of w = min w.at (length w.buf.now + 1)

-- what a writer puts is written to its buffer, which stays the one that was lent, and its place is the one behind
pub record Puts (w : Writer) (t : List ℕ) (v : Writer) : Type 0 where
  pub wrote : Wrote w.buf.now w.at t v.buf.now (end_of v)
  pub named : v.buf.ghost_name ≡ w.buf.ghost_name
  pub lies : v.buf.ref_ptr ≡ w.buf.ref_ptr
