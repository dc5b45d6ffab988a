-- A list of PIDs as it lies in an array, with zeros after it: the rule of a place's array says that it is such a list. Assumes nothing.
use mathlib.Core.Path.{◌≡◌, refl, ap, ap₂}
use mathlib.Core.Bool.{true, ◌&&◌}
use mathlib.Core.List.{List, [], ◌∷◌, ◌++◌}
use Prim.Native.Nat.{ℕ, zero, suc, ◌-◌, ◌≤◌}
use native.Mathlib.Nat.{sub-zero, suc-sub-suc}
use native.Mathlib.Omega.{arith}
use lib.Dec.{leb}
use lib.ListN.{length, take, replicate}
use borrow.Author.Tests.{eqb-true}
use Rattle.scan.specs.Lists.{all}
use Rattle.scan.proofs.Bools.{never, and_both, both}
use Rattle.stream.specs.Values.{is_zero}
use Rattle.stream.specs.Pids.{is_padded}
use Rattle.stream.specs.Arrays.{is_low, rises}

zeros_padded : (n k : ℕ) → is_padded 0 n (replicate k 0) ≡ true
zeros_padded n zero = refl
zeros_padded n (suc k) = zeros_padded n k

pub padded_laid : (n k : ℕ) (l : List ℕ) → rises n l ≡ true → all is_low l ≡ true → is_padded (length l) n (l ++ replicate k 0) ≡ true
padded_laid n k [] e h = zeros_padded n k
padded_laid n k (p ∷ l) e h =
    let a = and_both (leb n p) (rises (suc p) l) e in
    let b = and_both (is_low p) (all is_low l) h in
    both a.0 (both b.0 (padded_laid (suc p) k l a.1 b.1))

pub zeros_are : (l : List ℕ) → all is_zero l ≡ true → l ≡ replicate (length l) 0
zeros_are [] e = refl
zeros_are (p ∷ l) e =
    let a = and_both (is_zero p) (all is_zero l) e in
    ap₂ (λ x y. x ∷ y) (eqb-true p 0 a.0) (zeros_are l a.1)

-- what the rule says of an array, and back
pub record Padded (count n : ℕ) (l : List ℕ) : Type 0 where
  pub fits : count ≤ length l
  pub rising : rises n (take count l) ≡ true
  pub low : all is_low (take count l) ≡ true
  pub zeros : l ≡ take count l ++ replicate (length l - count) 0

pub padded_is : (count n : ℕ) (l : List ℕ) → is_padded count n l ≡ true → Padded count n l
padded_is zero n l e = record { fits = omega arith; rising = refl; low = refl; zeros = rw sub-zero (zeros_are l e) }
padded_is (suc count) n [] e = never e refl
padded_is (suc count) n (p ∷ l) e =
    let a = and_both (leb n p) (is_low p && is_padded count (suc p) l) e in
    let b = and_both (is_low p) (is_padded count (suc p) l) a.1 in
    let r : Padded count (suc p) l = padded_is count (suc p) l b.1 in
    record {
      fits = omega (arith, r.fits);
      rising = both a.0 r.rising;
      low = both b.0 r.low;
      zeros = rw suc-sub-suc (ap (λ x. p ∷ x) r.zeros);
    }
