-- A text by its lines. Assumes nothing.
use mathlib.Core.Path.{◌≡◌, refl, ap, ap₂, ◌∙◌}
use mathlib.Core.Bool.{Bool, true, false, cond}
use mathlib.Core.List.{List, [], ◌∷◌}
use Prim.Native.Nat.{ℕ, suc, ◌+◌, ◌-◌, ◌<◌}
use native.Mathlib.Omega.{arith}
use lib.ListN.{length, take, drop}
use Rattle.scan.specs.Lists.{first}
use Rattle.scan.specs.Text.{is, push, before, after}
use Rattle.script.specs.Lines.{lines_of}

-- what stands before and behind place n of a longer text
before_more : (x n : ℕ) (xs : List ℕ) → x ∷ take (n - 0) xs ≡ take (suc n - 0) (x ∷ xs)
before_more x n xs =
    let e : n - 0 ≡ n = omega arith in
    let f : suc n - 0 ≡ suc n = omega arith in
    rw (e, f) refl

after_more : (x n : ℕ) (xs : List ℕ) → drop (n + 1) xs ≡ drop (suc n + 1) (x ∷ xs)
after_more x n xs = let e : suc n + 1 ≡ suc (n + 1) = omega arith in rw e refl

-- the first line, and those behind its LF
lines_first : (x : ℕ) (xs : List ℕ) → lines_of (x ∷ xs) ≡ before 10 (x ∷ xs) ∷ lines_of (after 10 (x ∷ xs))
lines_first x [] = by (is 10 x)
  where
    by : (t : Bool) → cond t ([] ∷ []) ((x ∷ []) ∷ []) ≡ take (cond t 0 1 - 0) (x ∷ []) ∷ lines_of (drop (cond t 0 1 + 1) (x ∷ []))
    by true = refl
    by false = refl
lines_first x (y ∷ ys) = by (is 10 x) (lines_first y ys)
  where
    by : (t : Bool) → lines_of (y ∷ ys) ≡ before 10 (y ∷ ys) ∷ lines_of (after 10 (y ∷ ys))
        → cond t ([] ∷ lines_of (y ∷ ys)) (push x (lines_of (y ∷ ys)))
        ≡ take (cond t 0 (suc (first (is 10) (y ∷ ys))) - 0) (x ∷ y ∷ ys) ∷ lines_of (drop (cond t 0 (suc (first (is 10) (y ∷ ys))) + 1) (x ∷ y ∷ ys))
    by true ih = refl
    by false ih =
        ap (push x) ih
        ∙ ap₂ (λ line left. line ∷ lines_of left) (before_more x (first (is 10) (y ∷ ys)) (y ∷ ys)) (after_more x (first (is 10) (y ∷ ys)) (y ∷ ys))

pub lines_more : (s : List ℕ) → 0 < length s → lines_of s ≡ before 10 s ∷ lines_of (after 10 s)
lines_more [] h = absurd (omega arith)
lines_more (x ∷ xs) h = lines_first x xs
