-- Values in range: all nine at once, as the meaning has them, and each by its attribute's place, as the code looks at them. Assumes nothing.
use mathlib.Core.Path.{◌≡◌}
use mathlib.Core.Bool.{◌&&◌}
use Prim.Native.Nat.{ℕ, zero, suc}
use native.Mathlib.Omega.{arith}
use lib.Dec.{leb}
use borrow.Author.Tests.{ne_eqb, le-leb}
use Rattle.stream.specs.Values.{is_missing_or, are_in_range}
use Rattle.stream.specs.Arrays.{is_in_range}
use Rattle.stream.specs.declared.Values.{Values}

-- a word's code: 0, or 1 to as many as there are words
words : (most code : ℕ) → leb code most ≡ is_missing_or 1 most code
words most zero = rw (le-leb 0 most (omega arith))
words most (suc n) = rw (ne_eqb (suc n) 0 (λ e. omega arith), le-leb 1 (suc n) (omega arith))

pub by_place : (v : Values)
    → are_in_range v
    ≡ is_in_range 0 v.src && is_in_range 2 v.freq && is_in_range 3 v.pol
    && is_in_range 4 v.msys && is_in_range 5 v.mtype && is_in_range 6 v.plts
    && is_in_range 7 v.ro && is_in_range 8 v.sr && is_in_range 9 v.fec
unfolding are_in_range is_in_range
by_place v = rw (← words 4 v.pol, ← words 2 v.msys, ← words 2 v.mtype, ← words 2 v.plts, ← words 3 v.ro, ← words 9 v.fec)
