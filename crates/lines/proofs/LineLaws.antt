-- The lines of a text, found by the first byte that is no text: CR LF there ends the line, and anything else breaks the layout.
-- Assumes nothing.
use mathlib.Core.Path.{◌≡◌, refl, ap, ap₂, ◌∙◌, sym}
use mathlib.Core.Bool.{Bool, true, false, not, cond, ◌&&◌, and-false}
use mathlib.Core.List.{List, [], ◌∷◌}
use Prim.Native.Nat.{ℕ, suc, ◌+◌, ◌-◌, ◌≤◌, ◌<◌}
use native.Mathlib.Decide.{dec_lt}
use native.Mathlib.Omega.{arith}
use lib.Dec.{leb, eqb}
use lib.ListN.{length, take, drop, get_or, drop_of_length-le, get_or-eq_default}
use lib.Seq.{drop-drop, drop-cons, get_or-drop}
use borrow.Author.Tests.{leb-true, eq-eqb, ne_eqb, eqb-true}
use Rattle.scan.specs.Lists.{all, first, part, is_text}
use Rattle.scan.specs.Found.{FirstFrom, in_class}
use Rattle.scan.specs.Text.{is_empty, push}
use Rattle.scan.specs.declared.Class.TheVariants.{NotText}
use Rattle.scan.proofs.Bools.{never, and_both, by_test, by_cases}
use Rattle.lines.specs.Lines.{lines}
use Rattle.lines.specs.Laid.{is_end, are_headers, are_all, is_pair_at, LineIs}
use Rattle.std.specs.Prelude.{Some, None}
use Rattle.scan.proofs.Loops.{first_rest, first_within}
use Rattle.scan.proofs.Parts.{part_rest}
use Rattle.lines.specs.Headers.{is_header}

-- CR LF at a place, counted by successors
abbrev pair_at : List ℕ → ℕ → Bool
pair_at xs k = eqb (get_or xs k 0) 13 && eqb (get_or xs (suc k) 0) 10

pub pair_short : (s : List ℕ) (at : ℕ) → length s ≤ at + 1 → false ≡ is_pair_at s at
pair_short s at h = rw (get_or-eq_default s 0 {n = at + 1} h, and-false)

-- text is no CR
text_cr : (x : ℕ) → is_text x ≡ true → eqb x 13 ≡ false
text_cr x e =
    let l : 32 ≤ x = leb-true 32 x (and_both (leb 32 x) (leb x 126) e).0 in
    ne_eqb x 13 (λ q. omega arith)

-- the first byte that is no text
abbrev pub text_end : List ℕ → ℕ
text_end xs = first (in_class NotText) xs

all_text : (xs : List ℕ) → all is_text (take (text_end xs) xs) ≡ true
all_text [] = refl
all_text (x ∷ xs) = by_test (λ t. all is_text (take (cond (not t) 0 (suc (text_end xs))) (x ∷ xs)) ≡ true) (is_text x) (λ y. rw y (all_text xs)) (λ _. refl)

-- a line that CR LF ends
line_ends : (xs : List ℕ) → pair_at xs (text_end xs) ≡ true → lines xs ≡ take (text_end xs) xs ∷ lines (drop (suc (suc (text_end xs))) xs)
line_ends [] e = never e refl
line_ends (x ∷ []) e = never e (by_test (λ t. pair_at (x ∷ []) (cond (not t) 0 1) ≡ false) (is_text x) (λ _. refl) (λ _. and-false (eqb x 13)))
line_ends (x ∷ y ∷ xs) e = by (is_text x) refl e (line_ends (y ∷ xs))
  where
    k : ℕ
    k = text_end (y ∷ xs)

    by : (t : Bool) → is_text x ≡ t → pair_at (x ∷ y ∷ xs) (cond (not t) 0 (suc k)) ≡ true → (pair_at (y ∷ xs) k ≡ true → lines (y ∷ xs) ≡ take k (y ∷ xs) ∷ lines (drop (suc (suc k)) (y ∷ xs)))
        → lines (x ∷ y ∷ xs) ≡ take (cond (not t) 0 (suc k)) (x ∷ y ∷ xs) ∷ lines (drop (suc (suc (cond (not t) 0 (suc k)))) (x ∷ y ∷ xs))
    by true q p ih = rw (text_cr x q) (ap (push x) (ih p))
    by false q p ih = rw p

-- a line that something else ends, or nothing
abbrev are_bad : List (List ℕ) → Bool
are_bad [] = true
are_bad (l ∷ []) = true
are_bad (l ∷ m ∷ ls) = not (is_empty l) && not (all is_text l)

bad_push : (x : ℕ) (ls : List (List ℕ)) → is_text x ≡ false → are_bad (push x ls) ≡ true
bad_push x [] n = refl
bad_push x (l ∷ []) n = refl
bad_push x (l ∷ m ∷ ls) n = rw n

bad_more : (x : ℕ) (ls : List (List ℕ)) → is_text x ≡ true → are_bad ls ≡ true → are_bad (push x ls) ≡ true
bad_more x [] y b = refl
bad_more x (l ∷ []) y b = refl
bad_more x (l ∷ m ∷ ls) y b = rw y (and_both (not (is_empty l)) (not (all is_text l)) b).1

line_breaks : (xs : List ℕ) → pair_at xs (text_end xs) ≡ false → are_bad (lines xs) ≡ true
line_breaks [] e = refl
line_breaks (x ∷ []) e = refl
line_breaks (x ∷ y ∷ xs) e = by (is_text x) refl e (line_breaks (y ∷ xs))
  where
    k : ℕ
    k = text_end (y ∷ xs)

    by : (t : Bool) → is_text x ≡ t → pair_at (x ∷ y ∷ xs) (cond (not t) 0 (suc k)) ≡ false → (pair_at (y ∷ xs) k ≡ false → are_bad (lines (y ∷ xs)) ≡ true)
        → are_bad (lines (x ∷ y ∷ xs)) ≡ true
    by true q p ih = rw (text_cr x q) (bad_more x (lines (y ∷ xs)) q (ih p))
    by false q p ih = rw p (bad_push x (lines (y ∷ xs)) q)

bad_headers : (ls : List (List ℕ)) → are_bad ls ≡ true → are_headers ls ≡ false
bad_headers [] b = refl
bad_headers (l ∷ []) b = by_test (λ t. cond t false (all is_text l && (is_header l && false)) ≡ false) (is_empty l) (λ _. refl) (λ _. rw (and-false (is_header l)) (and-false (all is_text l)))
bad_headers ([] ∷ m ∷ ls) b = never b refl
bad_headers ((x ∷ l) ∷ m ∷ ls) b = by_test (λ t. not t ≡ true → t && (is_header (x ∷ l) && are_headers (m ∷ ls)) ≡ false) (all is_text (x ∷ l)) (λ _ c. never c refl) (λ _ _. refl) b

bad_lines : (ls : List (List ℕ)) → are_bad ls ≡ true → are_all ls ≡ false
bad_lines [] b = refl
bad_lines (l ∷ []) b = by_test (λ t. cond t false (all is_text l && false) ≡ false) (is_empty l) (λ _. refl) (λ _. and-false (all is_text l))
bad_lines ([] ∷ m ∷ ls) b = never b refl
bad_lines ((x ∷ l) ∷ m ∷ ls) b = by_test (λ t. not t ≡ true → t && are_headers (m ∷ ls) ≡ false) (all is_text (x ∷ l)) (λ _ c. never c refl) (λ _ _. refl) b

-- nothing stands after the last pair
some_lines : (xs : List ℕ) → is_end ([] ∷ lines xs) ≡ false
some_lines [] = refl
some_lines (x ∷ []) = refl
some_lines (x ∷ y ∷ xs) = by_test (λ t. is_end ([] ∷ cond t ([] ∷ lines xs) (push x (lines (y ∷ xs)))) ≡ false) (eqb x 13 && eqb y 10) (λ _. rw (ne_eqb (length ([] ∷ [] ∷ lines xs)) 1 (λ q. omega arith)) (and-false (all is_empty (lines xs)))) (λ _. pushed (lines (y ∷ xs)))
  where
    pushed : (ls : List (List ℕ)) → is_end ([] ∷ push x ls) ≡ false
    pushed [] = refl
    pushed (l ∷ ls) = refl

end_lines : (xs : List ℕ) → is_end (lines xs) ≡ is_empty xs
end_lines [] = refl
end_lines (x ∷ []) = refl
end_lines (x ∷ y ∷ xs) = by_test (λ t. is_end (cond t ([] ∷ lines xs) (push x (lines (y ∷ xs)))) ≡ false) (eqb x 13 && eqb y 10) (λ _. some_lines xs) (λ _. pushed (lines (y ∷ xs)))
  where
    pushed : (ls : List (List ℕ)) → is_end (push x ls) ≡ false
    pushed [] = refl
    pushed (l ∷ []) = refl
    pushed (l ∷ m ∷ ls) = refl

-- The line from place p on, where e is the first byte from there that is no text.
module _ (s : List ℕ) {p e : ℕ} (f : FirstFrom (in_class NotText) s p e) {t : Bool} (q : t ≡ is_pair_at s e) where
  there : pair_at (drop p s) (text_end (drop p s)) ≡ t
  there =
      let n : p + suc (text_end (drop p s)) ≡ e + 1 = omega (arith, f.is) in
      rw (get_or-drop p s (text_end (drop p s)) 0, get_or-drop p s (suc (text_end (drop p s))) 0, ← f.is, n) (sym q)

  taken : take (text_end (drop p s)) (drop p s) ≡ part p e s
  taken = let n : text_end (drop p s) ≡ e - p = omega (arith, f.is) in ap (λ k. take k (drop p s)) n

  pub line_turn : t ≡ true → lines (drop p s) ≡ part p e s ∷ lines (drop (e + 2) s)
  line_turn y =
      let n : p + suc (suc (text_end (drop p s))) ≡ e + 2 = omega (arith, f.is) in
      line_ends (drop p s) (there ∙ y)
      ∙ ap₂ (λ l r. l ∷ lines r) taken (drop-drop (suc (suc (text_end (drop p s)))) p s ∙ ap (λ k. drop k s) n)

  pub line_text : all is_text (part p e s) ≡ true
  line_text = ap (all is_text) (sym taken) ∙ all_text (drop p s)

  pub line_fits : t ≡ true → e + 2 ≤ length s
  line_fits y =
      by_cases (dec_lt (e + 1) (length s)) (λ h. omega arith) (λ h. never y (q ∙ sym (pair_short s e (omega arith))))

  pub no_headers : t ≡ false → are_headers (lines (drop p s)) ≡ false
  no_headers n = bad_headers (lines (drop p s)) (line_breaks (drop p s) (there ∙ n))

  pub no_lines : t ≡ false → are_all (lines (drop p s)) ≡ false
  no_lines n = bad_lines (lines (drop p s)) (line_breaks (drop p s) (there ∙ n))

-- the empty line at p is the last one exactly if nothing follows it
pub last_line : (s : List ℕ) (p : ℕ) → p ≤ length s → is_end (lines (drop p s)) ≡ eqb p (length s)
last_line s p h = end_lines (drop p s) ∙ by_test (λ t. is_empty (drop p s) ≡ t) (eqb p (length s)) ended more
  where
    ended : eqb p (length s) ≡ true → is_empty (drop p s) ≡ true
    ended y = let z : length s ≤ p = omega (arith, eqb-true p (length s) y) in ap is_empty (drop_of_length-le s z)

    more : eqb p (length s) ≡ false → is_empty (drop p s) ≡ false
    more n =
        let l : p < length s = by_cases (dec_lt p (length s)) (λ k. k) (λ k. let z : p ≡ length s = omega arith in never (eq-eqb p (length s) z) n) in
        ap is_empty (drop-cons s p 0 l)

-- CR LF at a place of the rest from place p on
pair_rest : (s : List ℕ) (p k : ℕ) → is_pair_at (part p (length s) s) k ≡ is_pair_at s (p + k)
pair_rest s p k =
    let r : part p (length s) s ≡ drop p s = part_rest p (length s) s (omega arith) in
    let n : p + (k + 1) ≡ p + k + 1 = omega arith in
    ap (λ l. is_pair_at l k) r ∙ rw (get_or-drop p s k 0, get_or-drop p s (k + 1) 0, n)

-- the line that starts at place p, where it is found; where it is not, no CR LF stands at its end
pub line_found : (s : List ℕ) (p : ℕ) {k : ℕ} → p ≤ length s → LineIs (part p (length s) s) (Some k) → FirstFrom (in_class NotText) s p (p + k) × (true ≡ is_pair_at s (p + k))
line_found s p {k} h i = (first_rest (in_class NotText) s p h i.0, sym (sym (pair_rest s p k) ∙ i.1))

pub line_lost : (s : List ℕ) (p : ℕ) → p ≤ length s → LineIs (part p (length s) s) None → (e : ℕ) × FirstFrom (in_class NotText) s p e × (false ≡ is_pair_at s e)
line_lost s p h i =
    let k : ℕ = first (in_class NotText) (part p (length s) s) in (
      p + k,
      first_rest (in_class NotText) s p h (record { is = refl; within = first_within (in_class NotText) (part p (length s) s) }),
      sym (sym (pair_rest s p k) ∙ i),
    )
