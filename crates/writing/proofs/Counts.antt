-- A text whose length stands before it, as a body behind its Content-Length: one walk counts it and the next one writes it, over one definition,
-- so that no part of it is kept anywhere between the two. Assumes nothing.
use mathlib.Core.Path.{◌≡◌, ap}
use mathlib.Core.List.{List, [], ◌++◌}
use Prim.Native.Nat.{ℕ, ◌+◌, ◌≤◌, min}
use native.Mathlib.Omega.{arith}
use lib.ListN.{length, length-append}
use Rattle.writing.specs.Writing.{decimal, width}
use Rattle.writing.specs.Wrote.{Wrote}
use Rattle.writing.proofs.Writes.{wrote_then, wrote_as}
use Rattle.writing.proofs.Numerals.{numeral_length}

-- THE WALK THAT COUNTS: n bytes of the text t are counted, and rest is what is left of it
pub record Tally (t : List ℕ) (n : ℕ) (rest : List ℕ) : Type 0 where
  pub same : n + length rest ≡ length t

pub tally_start : (t : List ℕ) → Tally t 0 t
tally_start t = record { same = omega arith }

-- a piece more, of which the length is known: a text's own, a number's by `decimal_counts`
pub tally_more : {t rest : List ℕ} {n k : ℕ} (piece : List ℕ) → Tally t n (piece ++ rest) → k ≡ length piece → Tally t (n + k) rest
tally_more {t} {rest} {n} {k} piece w e =
    let l : length (piece ++ rest) ≡ length piece + length rest = length-append piece rest in
    let s : n + length (piece ++ rest) ≡ length t = w.same in
    record { same = omega arith }

pub tally_end : {t : List ℕ} {n : ℕ} → Tally t n [] → n ≡ length t
tally_end {t} {n} w = let s : n + 0 ≡ length t = w.same in omega arith

pub decimal_counts : (v : ℕ) → length (decimal v) ≡ width v
unfolding decimal
decimal_counts v = numeral_length 10 (width v) v

-- THE WALK THAT WRITES: what was counted is put first, by any text of a number, and the text itself behind it
pub counted_first : {b d f t : List ℕ} {at m next n : ℕ} (head : ℕ → List ℕ) → n ≡ length t → Wrote b at (head n) d m → Wrote d m t f next
    → Wrote b at (head (length t) ++ t) f next
counted_first head e p q = wrote_then (wrote_as (ap head e) p) q

-- a place within the buffer tells how many bytes were written
pub wrote_counts : {b d t : List ℕ} {at next : ℕ} → Wrote b at t d next → next ≤ length b → next ≡ at + length t
wrote_counts {b} {d} {t} {at} {next} w h = let p : next ≡ min (at + length t) (length b + 1) = w.place in omega arith
