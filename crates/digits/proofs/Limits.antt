-- What a number that was read of a text can be. Assumes nothing.
use mathlib.Core.Path.{◌≡◌, refl}
use mathlib.Core.Bool.{true, cond, ◌&&◌}
use mathlib.Core.List.{List}
use Prim.Native.Nat.{ℕ, ◌≤◌}
use lib.Dec.{leb}
use lib.ListN.{length}
use borrow.Author.Tests.{leb-true}
use Rattle.scan.proofs.Bools.{never, and_both, by_test, cond_keeps}
use Rattle.digits.specs.Reading.{are_digits, spelled, read_in, has_leading_zero, read_number, at_least}
use Rattle.std.specs.Prelude.{Option, Some, None, is_some, IfSome}
use Rattle.digits.specs.declared.Zeros.{Zeros}
use Rattle.digits.specs.declared.Zeros.TheVariants.{Allowed, Refused}

-- a text of which a number is read: its digits, all of it, are as many and say as much as they may
pub record AreDigits (base most limit : ℕ) (xs : List ℕ) : Type 0 where
  pub some : 1 ≤ length xs
  pub few : length xs ≤ most
  pub digits : are_digits base xs ≡ true
  pub small : spelled base xs ≤ limit

pub are_digits_law : (base most limit : ℕ) (xs : List ℕ) → is_some (read_in base most limit xs) ≡ true → AreDigits base most limit xs
are_digits_law base most limit xs =
    by_test (λ t. is_some (cond t (Some (spelled base xs)) None) ≡ true → AreDigits base most limit xs)
    (leb 1 (length xs) && (leb (length xs) most && (are_digits base xs && leb (spelled base xs) limit)))
    (λ e _. let a = and_both (leb 1 (length xs)) _ e in
    let b = and_both (leb (length xs) most) _ a.1 in
    let c = and_both (are_digits base xs) _ b.1 in
    record { some = leb-true 1 (length xs) a.0; few = leb-true (length xs) most b.0; digits = c.0; small = leb-true (spelled base xs) limit c.1 })
    (λ _ e. never e refl)

-- it is at most its limit
read_most : (base most limit : ℕ) (xs : List ℕ) → IfSome (read_in base most limit xs) (λ v. v ≤ limit)
read_most base most limit xs =
    cond_keeps (λ r. IfSome r (λ v. v ≤ limit)) (leb 1 (length xs) && (leb (length xs) most && (are_digits base xs && leb (spelled base xs) limit)))
    (Some (spelled base xs)) None
    (λ e. let m = (and_both (leb (length xs) most) _ (and_both (leb 1 (length xs)) _ e).1).1 in
    leb-true (spelled base xs) limit (and_both (are_digits base xs) _ m).1)
    (λ _. tt)

pub number_most : (zeros : Zeros) (most limit : ℕ) (xs : List ℕ) → IfSome (read_number zeros most limit xs) (λ v. v ≤ limit)
unfolding read_number
number_most Allowed most limit xs = read_most 10 most limit xs
number_most Refused most limit xs =
    cond_keeps (λ r. IfSome r (λ v. v ≤ limit)) (has_leading_zero xs) None (read_in 10 most limit xs) (λ _. tt) (λ _. read_most 10 most limit xs)

-- and at least what it must be
pub number_between : (zeros : Zeros) (most least limit : ℕ) (xs : List ℕ) → IfSome (at_least least (read_number zeros most limit xs)) (λ v. (least ≤ v) × (v ≤ limit))
number_between zeros most least limit xs = by (read_number zeros most limit xs) (number_most zeros most limit xs)
  where
    by : (r : Option ℕ) → IfSome r (λ v. v ≤ limit) → IfSome (at_least least r) (λ v. (least ≤ v) × (v ≤ limit))
    by (Some v) h =
        cond_keeps (λ r. IfSome r (λ w. (least ≤ w) × (w ≤ limit))) (leb least v) (Some v) None (λ e. (leb-true least v e, h)) (λ _. tt)
    by None h = tt
