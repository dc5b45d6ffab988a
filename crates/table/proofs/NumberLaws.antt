-- Loops that gather numbers into an array and look them up: a record for what holds at place i, and a law for the start, a turn and each
-- way out. Assumes nothing.
use mathlib.Core.Path.{◌≡◌, refl, sym, ◌∙◌, ap}
use mathlib.Core.Bool.{Bool, true, false, ◌||◌, or-false}
use mathlib.Core.List.{List, map, append-nil}
use Prim.Native.Nat.{ℕ, ◌+◌, ◌≤◌, ◌<◌}
use native.Mathlib.Numerals.{add-one}
use native.Mathlib.Omega.{arith}
use lib.ListN.{length, get_or, drop, set, length-set, length-map, drop_of_length-le, get_or-map}
use lib.Seq.{paste, paste-zero, paste-suc, take_all}
use borrow.Author.Tests.{eq-eqb, ne_eqb}
use Rattle.scan.specs.Lists.{part}
use Rattle.scan.proofs.Loops.{turn, end}
use Rattle.scan.proofs.Parts.{part_rest}
use Rattle.table.specs.Table.{any, is_among, are_distinct}

-- what f says of each element before place i stands in a, and the rest of it is as it was
module _ {A : Type 0} (f : A → ℕ) where
  pub record Gathered (l : List A) (was a : List ℕ) (i : ℕ) : Type 0 where
    pub old : length was ≡ length l
    pub long : length a ≡ length l
    pub inside : i ≤ length l
    pub is : a ≡ paste was 0 (map f l) i

  pub gathered_start : (l : List A) (was : List ℕ) → length was ≡ length l → Gathered l was was 0
  gathered_start l was e = record { old = e; long = e; inside = omega arith; is = paste-zero was 0 (map f l) }

  pub gathered_more : {l : List A} {was a : List ℕ} {i v : ℕ} (d : A) → Gathered l was a i → i < length l → v ≡ f (get_or l i d) → Gathered l was (set a i v) (i + 1)
  gathered_more {l} {was} {a} {i} {v} d g h e =
      let z : 0 + i ≡ i = omega arith in
      let q : v ≡ get_or (map f l) i (f d) = e ∙ sym (get_or-map f l i d) in
      record {
        old = g.old;
        long = length-set a i v ∙ g.long;
        inside = omega arith;
        is = rw (g.is, q, add-one)
            (ap (λ (n : ℕ). set (paste was 0 (map f l) i) n (get_or (map f l) i (f d))) (sym z)
            ∙ paste-suc was 0 (map f l) i (f d) (omega (arith, g.old)) (omega (arith, length-map l f)));
      }

  pub gathered_end : {l : List A} {was a : List ℕ} {i : ℕ} → Gathered l was a i → length l ≤ i → a ≡ map f l
  gathered_end {l} {was} {a} {i} g h =
      let z : 0 + i ≡ i = omega arith in
      g.is ∙ rw (z, take_all i (map f l) (omega (arith, length-map l f)), drop_of_length-le was {i = i} (omega (arith, g.old)), append-nil (map f l))

-- no element before place i passes the test
module _ {A : Type 0} (p : A → Bool) where
  pub record Lacking (l : List A) (i : ℕ) : Type 0 where
    pub inside : i ≤ length l
    pub same : any p (drop i l) ≡ any p l

  pub lacking_start : (l : List A) → Lacking l 0
  lacking_start l = record { inside = omega arith; same = refl }

  pub lacking_end : {l : List A} {i : ℕ} → Lacking l i → length l ≤ i → false ≡ any p l
  lacking_end {l} {i} s h = sym (end (any p) l i h) ∙ s.same

  module _ {l : List A} {i : ℕ} (d : A) (s : Lacking l i) (h : i < length l) where
    pub lacking_hit : p (get_or l i d) ≡ true → true ≡ any p l
    lacking_hit y = sym (turn (any p) l i d h ∙ rw y) ∙ s.same

    pub lacking_more : p (get_or l i d) ≡ false → Lacking l (i + 1)
    lacking_more n = record { inside = omega arith; same = sym (turn (any p) l i d h ∙ rw n) ∙ s.same }

-- `found` says whether an element before place i passes the test
module _ {A : Type 0} (p : A → Bool) where
  pub record Noting (l : List A) (found : Bool) (i : ℕ) : Type 0 where
    pub inside : i ≤ length l
    pub same : found || any p (drop i l) ≡ any p l

  pub noting_start : (l : List A) → Noting l false 0
  noting_start l = record { inside = omega arith; same = refl }

  pub noting_more : {l : List A} {i : ℕ} {found : Bool} (d : A) → Noting l found i → i < length l → Noting l (found || p (get_or l i d)) (i + 1)
  noting_more {l} {i} {found} d s h =
      record { inside = omega arith; same = sym (ap (λ b. found || b) (turn (any p) l i d h) ∙ or_or found (p (get_or l i d)) _) ∙ s.same }
    where
      or_or : (a b c : Bool) → a || (b || c) ≡ (a || b) || c
      or_or true b c = refl
      or_or false b c = refl

  pub noting_end : {l : List A} {i : ℕ} {found : Bool} → Noting l found i → length l ≤ i → found ≡ any p l
  noting_end {l} {i} {found} s h = sym (or-false found) ∙ sym (ap (λ b. found || b) (end (any p) l i h)) ∙ s.same

-- each number before place i is 0 or does not come again
pub record Apart (ns : List ℕ) (i : ℕ) : Type 0 where
  pub inside : i ≤ length ns
  pub same : are_distinct (drop i ns) ≡ are_distinct ns

pub apart_start : (ns : List ℕ) → Apart ns 0
apart_start ns = record { inside = omega arith; same = refl }

pub apart_end : {ns : List ℕ} {i : ℕ} → Apart ns i → length ns ≤ i → true ≡ are_distinct ns
apart_end {ns} {i} a h = sym (end are_distinct ns i h) ∙ a.same

module _ {ns : List ℕ} {i : ℕ} (a : Apart ns i) (h : i < length ns) where
  pub apart_zero : get_or ns i 0 ≡ 0 → Apart ns (i + 1)
  apart_zero z = record { inside = omega arith; same = sym (turn are_distinct ns i 0 h ∙ rw (eq-eqb (get_or ns i 0) 0 z)) ∙ a.same }

  module _ {t : Bool} (k : get_or ns i 0 ≡ 0 → ⊥) (e : t ≡ is_among (get_or ns i 0) (part (i + 1) (length ns) ns)) where
    rest : is_among (get_or ns i 0) (drop (i + 1) ns) ≡ t
    rest = ap (is_among (get_or ns i 0)) (sym (part_rest (i + 1) (length ns) ns (omega arith))) ∙ sym e

    pub apart_more : t ≡ false → Apart ns (i + 1)
    apart_more n = record { inside = omega arith; same = sym (turn are_distinct ns i 0 h ∙ rw (ne_eqb (get_or ns i 0) 0 k, rest ∙ n)) ∙ a.same }

    pub apart_not : t ≡ true → false ≡ are_distinct ns
    apart_not y = sym (turn are_distinct ns i 0 h ∙ rw (ne_eqb (get_or ns i 0) 0 k, rest ∙ y)) ∙ a.same
