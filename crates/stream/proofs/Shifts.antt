-- An array whose first PIDs are moved by a place, one after the other, to make room for one or to close the gap of one; and one whose
-- rest is filled with zeros. In each the first i elements are already those that are wanted. Assumes nothing.
use mathlib.Core.Path.{◌≡◌, ap, ◌∙◌, sym}
use mathlib.Core.List.{List, [], ◌∷◌, ◌++◌, append-nil}
use Prim.Native.Nat.{ℕ, suc, ◌+◌, ◌-◌, ◌≤◌, ◌<◌}
use native.Mathlib.Numerals.{add-one}
use native.Mathlib.Omega.{arith}
use lib.ListN.{length, get_or, take, drop, set, replicate, length-append, length-drop, length-set, drop_of_length-le, take-append-drop}
use borrow.Rule.Slice.PartMut.{put_mid, mid_of, post_of, mid_len, Post-is}
use lib.Seq.{length-take-le, take-suc, take-take, take_all, take_at, drop-cons, get_or-take, get_or-drop, get_or-append-add, set_at, append_snoc, paste, take-paste}
use Rattle.scan.proofs.Parts.{drop_take}
use Rattle.stream.specs.Arrays.{laid_out}

-- the first i elements of b are those of w, and the others still those of a
pub record Filled (a w b : List ℕ) (i : ℕ) : Type 0 where
  pub inside : i ≤ length w
  pub is : b ≡ take i w ++ drop i a

filled_from : (a w : List ℕ) (i : ℕ) → i ≤ length w → take i a ≡ take i w → Filled a w a i
filled_from a w i h e = record { inside = h; is = sym (take-append-drop i a) ∙ ap (λ t. t ++ drop i a) e }

module _ {a w b : List ℕ} {i : ℕ} (f : Filled a w b i) where
  front : length (take i w) ≡ i
  front = length-take-le i w f.inside

  -- what is not reached yet is as it was
  filled_later : (j : ℕ) → i ≤ j → get_or b j 0 ≡ get_or a j 0
  filled_later j h =
      let n : length (take i w) + (j - i) ≡ j = omega (arith, front) in
      let m : i + (j - i) ≡ j = omega arith in
      ap (λ t. get_or t j 0) f.is ∙ ap (λ k. get_or (take i w ++ drop i a) k 0) (sym n) ∙ get_or-append-add (take i w) (drop i a) (j - i) 0
      ∙ get_or-drop i a (j - i) 0 ∙ ap (λ k. get_or a k 0) m

  filled_more : {v : ℕ} → i < length a → i < length w → v ≡ get_or w i 0 → Filled a w (set b i v) (i + 1)
  filled_more {v} h k e =
      let d : drop i a ≡ get_or a i 0 ∷ drop (suc i) a = drop-cons a i 0 h in
      let t : take (suc i) w ≡ take i w ++ (v ∷ []) = take-suc w i 0 k ∙ ap (λ x. take i w ++ (x ∷ [])) (sym e) in
      record {
        inside = omega arith;
        is =
            ap (λ x. set x i v) (f.is ∙ ap (λ x. take i w ++ x) d) ∙ set_at (take i w) (get_or a i 0) (drop (suc i) a) v i front
            ∙ sym (rw add-one (ap (λ x. x ++ drop (suc i) a) t ∙ append_snoc (take i w) v (drop (suc i) a)));
      }

  filled_front : length w ≤ i → take i b ≡ w
  filled_front h = ap (take i) f.is ∙ take_at (take i w) (drop i a) i front ∙ take_all i w h

-- a list with one PID more before place `at`, and with the one at `at` taken out
abbrev with_one : List ℕ → ℕ → ℕ → List ℕ
with_one l at p = take at l ++ (p ∷ drop at l)

abbrev without : List ℕ → ℕ → List ℕ
without l at = take at l ++ drop (suc at) l

-- the first `count` PIDs of an array, up to place `at` and after it
module _ (a : List ℕ) (count at : ℕ) (long : count ≤ length a) (h : at ≤ count) where
  count_first : length (take count a) ≡ count
  count_first = length-take-le count a long

  count_start : length (take at (take count a)) ≡ at
  count_start = length-take-le at (take count a) (omega (arith, count_first))

  start_same : (r : List ℕ) → take at a ≡ take at (take at (take count a) ++ r)
  start_same r = sym (take_at (take at (take count a)) r at count_start ∙ take-take at count a h)

  after_start : (r : List ℕ) (i j : ℕ) → j ≡ at + i → get_or (take at (take count a) ++ r) j 0 ≡ get_or r i 0
  after_start r i j e =
      let n : j ≡ length (take at (take count a)) + i = omega (arith, count_start) in
      ap (λ k. get_or (take at (take count a) ++ r) k 0) n ∙ get_or-append-add (take at (take count a)) r i 0

  in_first : (from i j : ℕ) → j ≡ from + i → j < count → get_or (drop from (take count a)) i 0 ≡ get_or a j 0
  in_first from i j e k = get_or-drop from (take count a) i 0 ∙ ap (λ n. get_or (take count a) n 0) (sym e) ∙ get_or-take count a j 0 k

  count_more : (p : ℕ) → length (with_one (take count a) at p) ≡ count + 1
  count_more p = simp (length-append, length-drop) (omega (arith, count_start, count_first))

  count_fewer : at < count → length (without (take count a) at) ≡ count - 1
  count_fewer k = simp (length-append, length-drop) (omega (arith, count_start, count_first))

-- room is made: what stood at i is carried to the next place
pub record Opening (a : List ℕ) (count at p : ℕ) (b : List ℕ) (carried i : ℕ) : Type 0 where
  pub long : length a ≡ 32
  pub kept : length b ≡ 32
  pub room : count < 32
  pub from : at ≤ i
  pub order : i ≤ count
  pub filled : Filled a (with_one (take count a) at p) b i
  pub carries : carried ≡ get_or (with_one (take count a) at p) i 0

pub opening_start : (a : List ℕ) (count at p : ℕ) → length a ≡ 32 → at ≤ count → count ≤ 32 → (count ≡ 32 → ⊥) → Opening a count at p a p at
opening_start a count at p l h k d =
    let n : length (with_one (take count a) at p) ≡ count + 1 = count_more a count at (omega arith) h p in
    record {
      long = l;
      kept = l;
      room = omega arith;
      from = omega arith;
      order = h;
      filled = filled_from a (with_one (take count a) at p) at (omega arith) (start_same a count at (omega arith) h (p ∷ drop at (take count a)));
      carries = sym (after_start a count at (omega arith) h (p ∷ drop at (take count a)) 0 at (omega arith));
    }

module _ {a : List ℕ} {count at p : ℕ} {b : List ℕ} {carried i : ℕ} (o : Opening a count at p b carried i) where
  opened : i ≤ count → Filled a (with_one (take count a) at p) (set b i carried) (i + 1)
  opened h =
      let n : length (with_one (take count a) at p) ≡ count + 1 = count_more a count at (omega (arith, o.long, o.room)) (omega (arith, o.from)) p in
      filled_more o.filled (omega (arith, o.long, o.room)) (omega arith) o.carries

  pub opening_more : i < count → Opening a count at p (set b i carried) (get_or b i 0) (i + 1)
  opening_more h =
      let k : at ≤ i = o.from in
      let l : count ≤ length a = omega (arith, o.long, o.room) in
      record {
        long = o.long;
        kept = length-set b i carried ∙ o.kept;
        room = o.room;
        from = omega arith;
        order = omega arith;
        filled = opened (omega arith);
        carries =
            filled_later o.filled i (omega arith)
            ∙ sym (after_start a count at l (omega arith) (p ∷ drop at (take count a)) (suc (i - at)) (i + 1) (omega arith) ∙ in_first a count at l (omega arith) at (i - at) i (omega arith) h);
      }

  pub opening_end : count ≤ i → take (count + 1) (set b count carried) ≡ with_one (take count a) at p
  opening_end h =
      let e : i ≡ count = omega (arith, o.order) in
      let n : length (with_one (take count a) at p) ≡ count + 1 = count_more a count at (omega (arith, o.long, o.room)) (omega (arith, o.from)) p in
      let f : Filled a (with_one (take count a) at p) (set b count carried) (count + 1) = rw e at (opened (omega arith)) in
      filled_front f (omega arith)

  pub opening_kept : (j v : ℕ) → length (set b j v) ≡ length a
  opening_kept j v = length-set b j v ∙ o.kept ∙ sym o.long

-- no room is left
pub full : (a : List ℕ) (count at p : ℕ) → length a ≡ 32 → at ≤ count → count ≡ 32 → 32 < length (with_one (take count a) at p)
full a count at p l h k = omega (arith, count_more a count at (omega arith) h p)

-- a gap is closed: what stood after it is copied one place down
module _ (a : List ℕ) (count at : ℕ) (l : length a ≡ 32) (k : count ≤ 32) (h : at < count) where
  rest_is : take (count - (at + 1)) (drop (at + 1) a) ≡ drop (suc at) (take count a)
  rest_is = sym (drop_take (at + 1) count a) ∙ rw add-one

  pub closed : {b : List ℕ} → b ≡ paste a at (drop (at + 1) a) (count - (at + 1)) → take (count - 1) b ≡ without (take count a) at
  closed {b} e =
      let n : at + (count - (at + 1)) ≡ count - 1 = omega arith in
      let t : take at a ≡ take at (take count a) = sym (take-take at count a (omega arith)) in
      let p : take (count - 1) b ≡ take at a ++ take (count - (at + 1)) (drop (at + 1) a) =
      rw (e, ← n) (take-paste a at (drop (at + 1) a) (count - (at + 1)) (omega arith) (omega (arith, length-drop (at + 1) a))) in
      p ∙ rw (rest_is, t)

-- zeros are put after the first `count` PIDs
pub laid : (a : List ℕ) (count : ℕ) {zeros : List ℕ} → length a ≡ 32 → count ≤ 32 → zeros ≡ replicate (length (mid_of count (32 - count) a)) 0
    → put_mid count (32 - count) a zeros ≡ laid_out (take count a)
laid a count {zeros} l h z =
    let m : length (mid_of count (32 - count) a) ≡ 32 - count = mid_len count 32 a (omega arith) in
    let p : post_of count (32 - count) a ≡ [] = Post-is count 32 a h ∙ drop_of_length-le a {i = 32} (omega arith) in
    rw (p, append-nil zeros, z, m, length-take-le count a (omega arith))
