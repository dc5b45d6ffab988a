-- A text cut at a byte: the pieces as a loop finds them, one after the other, and that nothing is lost or added. Assumes nothing.
use mathlib.Core.Path.{◌≡◌, refl, ap, ap₂, ◌∙◌, sym}
use mathlib.Core.Bool.{Bool, true, false, not, cond, ◌&&◌}
use mathlib.Core.List.{List, [], ◌∷◌, ◌++◌}
use Prim.Native.Nat.{ℕ, suc, ◌+◌, ◌-◌, ◌≤◌, ◌<◌}
use native.Mathlib.Omega.{arith}
use lib.Dec.{eqb, ltb, leb-zero, leb-suc-suc}
use lib.ListN.{length, take, drop, length-drop}
use lib.Seq.{drop-drop}
use borrow.Author.Tests.{lt-ltb, ltb-true, ltb-false, le-leb, lt-leb, eq-eqb, eqb-true}
use Rattle.scan.specs.Lists.{all, first, part}
use Rattle.std.specs.List.{onto_first, slice_split}
use Rattle.scan.specs.Found.{cut_from, joined}
use Rattle.scan.proofs.Bools.{never, by_test}
use Rattle.scan.specs.Text.{is, push, cut}

-- the pieces after the separator at place k: none where the list ends there
abbrev after : ℕ → ℕ → List ℕ → List (List ℕ)
after b k s = cond (ltb k (length s)) (cut b (drop (suc k) s)) []

-- the first piece, and those after its separator
first_piece : (b : ℕ) (xs : List ℕ) → cut b xs ≡ take (first (is b) xs) xs ∷ after b (first (is b) xs) xs
first_piece b [] = refl
first_piece b (x ∷ xs) = by (first_piece b xs) (is b x)
  where
    by : cut b xs ≡ take (first (is b) xs) xs ∷ after b (first (is b) xs) xs → (t : Bool)
        → cond t ([] ∷ cut b xs) (push x (cut b xs))
        ≡ take (cond t 0 (suc (first (is b) xs))) (x ∷ xs) ∷ after b (cond t 0 (suc (first (is b) xs))) (x ∷ xs)
    by ih true = rw (lt-ltb 0 (suc (length xs)) (omega arith))
    by ih false = ap (push x) ih ∙ rw (leb-suc-suc (suc (first (is b) xs)) (length xs))

-- the pieces after the k-th byte of the rest at p are those from the place after it on
after_from : (b p k : ℕ) (s : List ℕ) (t : Bool) → ltb k (length s - p) ≡ t → cond t (cut b (drop (suc k) (drop p s))) [] ≡ cut_from b (p + k + 1) s
after_from b p k s true e =
    let h : k < length s - p = ltb-true k (length s - p) e in
    let n : p + suc k ≡ p + k + 1 = omega arith in
    rw (le-leb (p + k + 1) (length s) (omega arith), drop-drop (suc k) p s, n)
after_from b p k s false e =
    let h : length s - p ≤ k = ltb-false k (length s - p) e in
    rw (lt-leb (p + k + 1) (length s) (omega arith))

-- a loop over the pieces: it starts at place 0, finds the end e of the piece at p, goes on at e + 1, and is done past the end
pub cut_start : (b : ℕ) (s : List ℕ) → cut b s ≡ cut_from b 0 s
cut_start b s = rw (leb-zero (length s))

pub cut_turn : (b p : ℕ) (s : List ℕ) {e : ℕ} → p ≤ length s → e ≡ p + first (is b) (drop p s) → cut_from b p s ≡ part p e s ∷ cut_from b (e + 1) s
cut_turn b p s {e} h q =
    let k : ℕ = first (is b) (drop p s) in
    let n : k ≡ e - p = omega arith in
    rw (le-leb p (length s) h)
    (first_piece b (drop p s)
    ∙ ap₂ (λ x y. x ∷ y) (ap (λ m. take m (drop p s)) n)
    (rw (length-drop p s) (after_from b p k s (ltb k (length s - p)) refl) ∙ ap (λ m. cut_from b (m + 1) s) (sym q)))

pub cut_end : (b p : ℕ) (s : List ℕ) → length s < p → cut_from b p s ≡ []
cut_end b p s h = rw (lt-leb p (length s) h)

-- the pieces are those that std gives
onto_push : (x : ℕ) (ls : List (List ℕ)) → onto_first x ls ≡ push x ls
onto_push x [] = refl
onto_push x (l ∷ ls) = refl

pub split_cut : (b : ℕ) (xs : List ℕ) → slice_split (λ x. eqb x b) xs ≡ cut b xs
split_cut b [] = refl
split_cut b (x ∷ xs) =
    by_test (λ t. cond t ([] ∷ slice_split (λ y. eqb y b) xs) (onto_first x (slice_split (λ y. eqb y b) xs)) ≡ cond t ([] ∷ cut b xs) (push x (cut b xs))) (eqb x b)
    (λ _. ap (λ ls. [] ∷ ls) (split_cut b xs))
    (λ _. ap (onto_first x) (split_cut b xs) ∙ onto_push x (cut b xs))

-- the pieces joined again are the text
joined_push : (b x : ℕ) (ls : List (List ℕ)) → joined b (push x ls) ≡ x ∷ joined b ls
joined_push b x [] = refl
joined_push b x (l ∷ []) = refl
joined_push b x (l ∷ m ∷ ls) = refl

joined_next : (b : ℕ) (xs : List ℕ) → joined b ([] ∷ cut b xs) ≡ b ∷ joined b (cut b xs)
joined_next b xs = rw (first_piece b xs)

pub joined_cut : (b : ℕ) (xs : List ℕ) → joined b (cut b xs) ≡ xs
joined_cut b [] = refl
joined_cut b (x ∷ xs) = by (joined_cut b xs) (is b x) refl
  where
    by : joined b (cut b xs) ≡ xs → (t : Bool) → is b x ≡ t → joined b (cond t ([] ∷ cut b xs) (push x (cut b xs))) ≡ x ∷ xs
    by ih true e =
        let h : b ≡ x = sym (eqb-true x b e) in
        joined_next b xs ∙ rw (ih, h)
    by ih false e = joined_push b x (cut b xs) ∙ ap (λ l. x ∷ l) ih

-- no piece has the byte b, and a text without it is one piece: with `joined_cut`, there is no other way to cut
pub cut_clean : (b : ℕ) (xs ys : List ℕ) → all (λ x. not (is b x)) xs ≡ true → cut b (xs ++ (b ∷ ys)) ≡ xs ∷ cut b ys
cut_clean b [] ys h = rw (eq-eqb b b refl)
cut_clean b (x ∷ xs) ys h = by (is b x) (cut_clean b xs ys) h
  where
    by : (t : Bool) → (all (λ z. not (is b z)) xs ≡ true → cut b (xs ++ (b ∷ ys)) ≡ xs ∷ cut b ys) → (not t && all (λ z. not (is b z)) xs) ≡ true
        → cond t ([] ∷ cut b (xs ++ (b ∷ ys))) (push x (cut b (xs ++ (b ∷ ys)))) ≡ (x ∷ xs) ∷ cut b ys
    by true ih e = never e refl
    by false ih e = ap (push x) (ih e)
