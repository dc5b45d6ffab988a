-- A stream's array of PIDs as loops look at it: zeros from a place on, and PIDs that ascend before them. Assumes nothing.
use mathlib.Core.Path.{◌≡◌, refl, ap, ◌∙◌, sym}
use mathlib.Core.Bool.{Bool, true, false, ◌&&◌, and-true, and-false}
use mathlib.Core.List.{List, [], ◌∷◌}
use Prim.Native.Nat.{ℕ, zero, suc, ◌+◌, ◌-◌, ◌≤◌, ◌<◌}
use native.Mathlib.Omega.{arith}
use lib.Dec.{leb}
use borrow.Author.Tests.{le-leb, lt-leb, leb-true, leb-false}
use lib.ListN.{length, get_or, take, drop}
use lib.Seq.{drop-drop}
use Rattle.scan.proofs.Parts.{part_rest}
use Rattle.scan.proofs.Bools.{and_and, Case, is, isnt, case}
use Rattle.scan.specs.Lists.{all, part}
use Rattle.scan.proofs.Loops.{turn, end}
use Rattle.stream.specs.Values.{is_zero}
use Rattle.stream.specs.Pids.{is_padded}

-- z says whether the places looked at so far, up to i, are zeros
pub record Zeros (l : List ℕ) (i : ℕ) (z : Bool) : Type 0 where
  pub same : z && all is_zero (drop i l) ≡ all is_zero l

pub zeros_start : (l : List ℕ) → Zeros l 0 true
zeros_start l = record { same = refl }

pub zeros_more : {l : List ℕ} {i : ℕ} {z : Bool} → Zeros l i z → i < length l → Zeros l (i + 1) (z && is_zero (get_or l i 0))
zeros_more {l} {i} {z} s h =
    record { same = sym (and_and z (is_zero (get_or l i 0)) (all is_zero (drop (i + 1) l))) ∙ ap (λ t. z && t) (sym (turn (all is_zero) l i 0 h)) ∙ s.same }

pub zeros_end : {l : List ℕ} {i : ℕ} {z : Bool} → Zeros l i z → length l ≤ i → z ≡ all is_zero l
zeros_end {l} {i} {z} s h = sym (ap (λ t. z && t) (end (all is_zero) l i h) ∙ and-true z) ∙ s.same

-- zeros up to a place, and from there on
zeros_both : (k : ℕ) (l : List ℕ) → all is_zero (take k l) && all is_zero (drop k l) ≡ all is_zero l
zeros_both zero l = refl
zeros_both (suc k) [] = refl
zeros_both (suc k) (p ∷ l) = sym (and_and (is_zero p) _ _) ∙ ap (λ t. is_zero p && t) (zeros_both k l)

pub zeros_split : (n from : ℕ) (l : List ℕ) → from ≤ n → n ≤ length l → all is_zero (part from n l) && all is_zero (part n (length l) l) ≡ all is_zero (drop from l)
zeros_split n from l h k =
    let e : from + (n - from) ≡ n = omega arith in
    ap (λ t. all is_zero (part from n l) && all is_zero t) (part_rest n (length l) l (omega arith) ∙ sym (drop-drop (n - from) from l ∙ rw e))
    ∙ zeros_both (n - from) (drop from l)

-- the PIDs before place i ascend, and what follows is to be no lower than `least`; that no PID is above 8191 is `least` at the end
pub record Ascending (l : List ℕ) (count least i : ℕ) : Type 0 where
  pub inside : count ≤ length l
  pub order : i ≤ count
  pub same : leb least 8192 && is_padded (count - i) least (drop i l) ≡ is_padded count 0 l

-- an array is too short for more PIDs than it has places
pub padded_long : (count n : ℕ) (l : List ℕ) → length l < count → false ≡ is_padded count n l
padded_long zero n [] h = absurd (omega arith)
padded_long zero n (p ∷ l) h = absurd (omega arith)
padded_long (suc count) n [] h = refl
padded_long (suc count) n (p ∷ l) h = rw (← padded_long count (suc p) l (omega arith), and-false (leb p 8191)) (sym (and-false (leb n p)))

pub ascending_start : (l : List ℕ) (count : ℕ) → count ≤ length l → Ascending l count 0 0
ascending_start l count h = record { inside = h; order = omega arith; same = let e : count - 0 ≡ count = omega arith in rw e }

pub ascending_end : {l : List ℕ} {count least i : ℕ} {r : Bool} → Ascending l count least i → count ≤ i → r ≡ all is_zero (drop count l) → leb least 8192 && r ≡ is_padded count 0 l
ascending_end {l} {count} {least} {i} a h e =
    let z : count - i ≡ 0 = omega arith in
    let s : count ≡ i = omega (arith, a.order) in
    ap (λ t. leb least 8192 && t) (e ∙ ap (λ k. all is_zero (drop k l)) s) ∙ (rw z at a.same)

-- a PID that is no lower than the least is at most 8191 exactly if the next least is at most 8192
module _ (least p : ℕ) (r : Bool) where
  low_next : Case (leb p 8191) → least ≤ p → leb least 8192 && (leb p 8191 && r) ≡ leb (p + 1) 8192 && r
  low_next (is y) k = let h = leb-true p 8191 y in rw (y, le-leb least 8192 (omega arith), le-leb (p + 1) 8192 (omega arith))
  low_next (isnt n) k = let h = leb-false p 8191 n in rw (n, lt-leb (p + 1) 8192 (omega arith)) (and-false (leb least 8192))

module _ {l : List ℕ} {count least i : ℕ} (a : Ascending l count least i) (h : i < count) where
  next : is_padded count 0 l ≡ leb least 8192 && (leb least (get_or l i 0) && (leb (get_or l i 0) 8191 && is_padded (count - (i + 1)) (suc (get_or l i 0)) (drop (i + 1) l)))
  next =
      let n : count - i ≡ suc (count - (i + 1)) = omega arith in
      sym a.same ∙ ap (λ t. leb least 8192 && t) (ap (λ k. is_padded k least (drop i l)) n ∙ turn (is_padded (suc (count - (i + 1))) least) l i 0 (omega (arith, a.inside)))

  -- the PID there, as it is read
  module _ {p : ℕ} (e : p ≡ get_or l i 0) where
    pub ascending_low : p < least → false ≡ is_padded count 0 l
    ascending_low k = rw (next, lt-leb least (get_or l i 0) (rw e at k)) (sym (and-false (leb least 8192)))

    pub ascending_more : least ≤ p → Ascending l count (p + 1) (i + 1)
    ascending_more k =
        let n : p + 1 ≡ suc (get_or l i 0) = omega (arith, e) in
        record {
          inside = a.inside;
          order = omega arith;
          same = sym (low_next least p (is_padded (count - (i + 1)) (p + 1) (drop (i + 1) l)) (case _) k) ∙ rw n (rw e (sym (next ∙ rw (le-leb least (get_or l i 0) (rw e at k)))));
        }
