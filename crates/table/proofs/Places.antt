-- What the proofs of loops over a table's places share: how long its arrays are, what a test says, and counting. Assumes nothing.
use mathlib.Core.Path.{◌≡◌, sym, ◌∙◌}
use mathlib.Core.Bool.{Bool, true, false, not}
use mathlib.Core.List.{List, map}
use Prim.Native.Nat.{ℕ, ◌+◌, ◌≤◌, ◌<◌}
use native.Mathlib.Omega.{arith}
use lib.ListN.{length, get_or, drop, length-map}
use borrow.Author.Rules.{rules}
use borrow.Author.Tests.{not-true, not-false}
use Rattle.scan.proofs.Loops.{turn, end}
use Rattle.table.specs.Table.{count}
use Rattle.table.proofs.Counts.{bit}

-- the length of an array of structs, as `good` has it
pub length_mapped : {A B : Type 0} (f : A → B) (l : List A) (n : ℕ) → length (map f l) ≡ n → length l ≡ n
length_mapped f l n e = sym (length-map l f) ∙ e

pub ruleset known = (rules, length_mapped)

-- what `if !f(x)` says of what f ensures
pub failed : {r s : Bool} → r ≡ s → not r ≡ true → s ≡ false
failed e h = sym e ∙ not-true _ h

pub held : {r s : Bool} → r ≡ s → not r ≡ false → s ≡ true
held e h = sym e ∙ not-false _ h

bit_most : (b : Bool) → bit b ≤ 1
bit_most true = omega arith
bit_most false = omega arith

-- n of the elements before place i pass the test
module _ {A : Type 0} (p : A → Bool) where
  pub record Counting (l : List A) (i n : ℕ) : Type 0 where
    pub inside : i ≤ length l
    pub most : n ≤ i
    pub same : n + count p (drop i l) ≡ count p l

  pub counting_start : (l : List A) → Counting l 0 0
  counting_start l = record { inside = omega arith; most = omega arith; same = omega arith }

  pub counting_end : {l : List A} {i n : ℕ} → Counting l i n → length l ≤ i → n ≡ count p l
  counting_end {l} {i} s h = let z = end (count p) l i h in omega (arith, s.same)

  module _ {l : List A} {i n m : ℕ} (d : A) (s : Counting l i n) (h : i < length l) where
    pub counting_by : m ≡ n + bit (p (get_or l i d)) → Counting l (i + 1) m
    counting_by e =
        let z : count p (drop i l) ≡ bit (p (get_or l i d)) + count p (drop (i + 1) l) = turn (count p) l i d h in
        record { inside = omega arith; most = omega (arith, s.most, bit_most (p (get_or l i d))); same = omega (arith, s.same) }

    pub counting_one : m ≡ n + 1 → p (get_or l i d) ≡ true → Counting l (i + 1) m
    counting_one e y = counting_by (rw y e)

    pub counting_no : m ≡ n → p (get_or l i d) ≡ false → Counting l (i + 1) m
    counting_no e q = counting_by (rw q (omega arith))
