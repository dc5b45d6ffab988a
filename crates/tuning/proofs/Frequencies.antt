-- A frequency by its two parts, each found from the place of the dot, and how large they are. Assumes nothing.
use mathlib.Core.Path.{◌≡◌, ap, subst, ◌∙◌, sym, refl, ap₂}
use mathlib.Core.Bool.{Bool, cond, true, false, not, ◌&&◌, ◌||◌, and-true, and-false}
use mathlib.Core.List.{List, [], ◌∷◌, ◌++◌, map}
use Prim.Native.Nat.{ℕ, ◌+◌, ◌*◌, ◌≤◌, ◌<◌}
use native.Mathlib.Omega.{arith}
use lib.Dec.{eqb, ltb, leb}
use lib.ListN.{length, drop, take, length-append, drop_of_length-le}
use borrow.Author.Tests.{lt-ltb, le-ltb, eq-eqb, ne_eqb, lt-leb, eqb-true, ltb-false}
use Rattle.scan.specs.Lists.{first, part, is_between}
use Rattle.scan.specs.Found.{FirstOf}
use Rattle.scan.specs.Text.{is, before, after, has, text, ◌&◌}
use Rattle.scan.proofs.Bools.{cond_keeps, and_and, by_test}
use Rattle.scan.proofs.Parts.{part_rest, part_length}
use Rattle.digits.specs.Reading.{read_number, digit_of, are_digits, spelled, at_least}
use Rattle.std.specs.Prelude.{Option, Some, None, IfSome}
use Rattle.digits.specs.declared.Zeros.TheVariants.{Allowed}
use Rattle.digits.proofs.Limits.{number_most}
use Rattle.tuning.specs.Found.{megahertz, tenfold, fraction, hundredths, frequency_from, in_band}
use native.Mathlib.Nat.{sub-zero}
use Rattle.scan.proofs.Loops.{first_within}
use Rattle.digits.proofs.Positions.{value_from}
use Rattle.digits.proofs.Spelling.{all_digits}
use Rattle.tuning.specs.Values.{frequency}

abbrev dot : List ℕ → ℕ
dot xs = first (is 46) xs

-- what was read is at most n
abbrev AtMost : ℕ → Option ℕ → Type 0
AtMost n r = IfSome r (λ v. v ≤ n)

either : (n : ℕ) (t : Bool) (a b : Option ℕ) → AtMost n a → AtMost n b → AtMost n (cond t a b)
either n t a b h k = cond_keeps (AtMost n) t a b (λ _. h) (λ _. k)

-- a fraction is below a hundred hundredths
tenfold_most : (r : Option ℕ) → AtMost 9 r → AtMost 99 (tenfold r)
tenfold_most (Some v) h = omega arith
tenfold_most None h = tt

fraction_most : (xs : List ℕ) → AtMost 99 (fraction xs)
fraction_most xs =
    either 99 (eqb (length xs) 1) _ _ (tenfold_most (read_number Allowed 1 9 xs) (number_most Allowed 1 9 xs))
    (either 99 (eqb (length xs) 2) _ None (number_most Allowed 2 99 xs) tt)

-- ten times what was read
module _ {q r : Option ℕ} (p : r ≡ q) where
  pub tenfold_value : {v : ℕ} → r ≡ Some v → Some (v * 10) ≡ tenfold q
  tenfold_value e = rw (sym p ∙ e)

  pub tenfold_nothing : r ≡ None → None ≡ tenfold q
  tenfold_nothing e = rw (sym p ∙ e)

-- how large what was read can be, so that the sums of it fit
module _ (xs : List ℕ) {r : Option ℕ} {v : ℕ} where
  pub digit_small : r ≡ read_number Allowed 1 9 xs → r ≡ Some v → v ≤ 9
  digit_small p e = subst (AtMost 9) (sym p ∙ e) (number_most Allowed 1 9 xs)

  pub megahertz_small : r ≡ megahertz xs → r ≡ Some v → v ≤ 99999
  megahertz_small p e = subst (AtMost 99999) (sym p ∙ e) (either 99999 (eqb (dot xs) 5) _ None (number_most Allowed 5 99999 (part 0 (dot xs) xs)) tt)

  pub hundredths_small : r ≡ hundredths xs → r ≡ Some v → v ≤ 99
  hundredths_small p e = subst (AtMost 99) (sym p ∙ e) (either 99 (ltb (dot xs) (length xs)) _ (Some 0) (fraction_most (drop (dot xs + 1) xs)) (omega arith))

-- the two parts by the place of the dot
module _ {xs : List ℕ} {d : ℕ} (f : FirstOf (is 46) xs d) where
  pub megahertz_five : {r : Option ℕ} → d ≡ 5 → r ≡ read_number Allowed 5 99999 (part 0 d xs) → r ≡ megahertz xs
  megahertz_five h q =
      let k : dot xs ≡ 5 = sym f.is ∙ h in
      rw (eq-eqb _ _ k) (q ∙ ap (λ n. read_number Allowed 5 99999 (part 0 n xs)) f.is)

  pub megahertz_not : (d ≡ 5 → ⊥) → None ≡ megahertz xs
  megahertz_not h =
      let k : dot xs ≡ 5 → ⊥ = λ e. h (f.is ∙ e) in
      rw (ne_eqb _ _ k)

  pub hundredths_after : {r : Option ℕ} → d < length xs → r ≡ fraction (part (d + 1) (length xs) xs) → r ≡ hundredths xs
  hundredths_after h q =
      let i : d ≡ dot xs = f.is in
      let k : dot xs < length xs = omega arith in
      let p : part (d + 1) (length xs) xs ≡ drop (d + 1) xs = part_rest (d + 1) (length xs) xs (omega arith) in
      rw (lt-ltb _ _ k) (q ∙ ap fraction (p ∙ ap (λ n. drop (n + 1) xs) i))

  pub hundredths_none : length xs ≤ d → Some 0 ≡ hundredths xs
  hundredths_none h =
      let i : d ≡ dot xs = f.is in
      let k : length xs ≤ dot xs = omega arith in
      rw (le-ltb _ _ k)

-- the frequency by what its parts are
module _ (a b : Option ℕ) {w : Option ℕ} (p : w ≡ a) where
  pub frequency_none : w ≡ None → None ≡ frequency_from a b
  frequency_none e = rw (sym p ∙ e)

  module _ {h : Option ℕ} {m : ℕ} (q : h ≡ b) (e : w ≡ Some m) where
    pub frequency_whole : {r : Option ℕ} {n : ℕ} → h ≡ Some n → r ≡ in_band (m * 100 + n) → r ≡ frequency_from a b
    frequency_whole g i = rw (sym p ∙ e, sym q ∙ g) i

    pub frequency_half : h ≡ None → None ≡ frequency_from a b
    frequency_half g = rw (sym p ∙ e, sym q ∙ g)

-- THE SAME READ AT ONCE, as seven digits
digits_both : (xs ys : List ℕ) → are_digits 10 (xs ++ ys) ≡ are_digits 10 xs && are_digits 10 ys
digits_both [] ys = refl
digits_both (x ∷ xs) ys = ap (λ t. ltb (digit_of x) 10 && t) (digits_both xs ys) ∙ and_and (ltb (digit_of x) 10) (are_digits 10 xs) (are_digits 10 ys)

two_more : (v : ℕ) (xs : List ℕ) (c d : ℕ) → value_from 10 v (map digit_of (xs ++ (c ∷ d ∷ []))) ≡ (value_from 10 v (map digit_of xs) * 10 + digit_of c) * 10 + digit_of d
two_more v [] c d = refl
two_more v (x ∷ xs) c d = two_more (v * 10 + digit_of x) xs c d

banded : (t : Bool) (n : ℕ) → at_least 1070000 (cond (t && leb n 1275000) (Some n) None) ≡ cond t (in_band n) None
banded true n =
    by_test (λ h. at_least 1070000 (cond h (Some n) None) ≡ cond (leb 1070000 n && h) (Some n) None) (leb n 1275000)
    (λ _. rw (and-true (leb 1070000 n)))
    (λ _. rw (and-false (leb 1070000 n)))
banded false n = refl

by_parts : (t u : Bool) (m h : ℕ) → frequency_from (cond t (Some m) None) (cond u (Some h) None) ≡ cond (t && u) (in_band (m * 100 + h)) None
by_parts true true m h = refl
by_parts true false m h = refl
by_parts false u m h = refl

no_hundredths : (r : Option ℕ) → frequency_from r None ≡ None
no_hundredths (Some m) = refl
no_hundredths None = refl

ten_if : (t : Bool) (v : ℕ) → tenfold (cond t (Some v) None) ≡ cond t (Some (v * 10)) None
ten_if true v = refl
ten_if false v = refl

abbrev seven : List ℕ → List ℕ → Option ℕ
seven a t = at_least 1070000 (read_number Allowed 7 1275000 (a & take 2 (t & text "00")))

-- five digits before the dot
module _ (a : List ℕ) (e : length a ≡ 5) where
  abbrev first_five : Option ℕ
  first_five = read_number Allowed 5 99999 a

  five_is : first_five ≡ cond (are_digits 10 a) (Some (spelled 10 a)) None
  unfolding read_number
  five_is = all_digits 10 5 99999 a (omega arith) e (omega arith) (omega arith)

  seven_is : (c d : ℕ) → at_least 1070000 (read_number Allowed 7 1275000 (a ++ (c ∷ d ∷ []))) ≡ cond (are_digits 10 a && are_digits 10 (c ∷ d ∷ [])) (in_band (spelled 10 a * 100 + spelled 10 (c ∷ d ∷ []))) None
  unfolding read_number
  seven_is c d =
      let l : length (a ++ (c ∷ d ∷ [])) ≡ 7 = length-append a (c ∷ d ∷ []) ∙ ap (λ n. n + 2) e in
      let v : spelled 10 (a ++ (c ∷ d ∷ [])) ≡ spelled 10 a * 100 + spelled 10 (c ∷ d ∷ []) = omega (arith, two_more 0 a c d) in
      rw (l, digits_both a (c ∷ d ∷ []), v) (banded (are_digits 10 a && are_digits 10 (c ∷ d ∷ [])) (spelled 10 a * 100 + spelled 10 (c ∷ d ∷ [])))

  with_two : (c d : ℕ) {r : Option ℕ} → r ≡ cond (are_digits 10 (c ∷ d ∷ [])) (Some (spelled 10 (c ∷ d ∷ []))) None → frequency_from first_five r ≡ at_least 1070000 (read_number Allowed 7 1275000 (a ++ (c ∷ d ∷ [])))
  with_two c d q = ap₂ frequency_from five_is q ∙ by_parts (are_digits 10 a) (are_digits 10 (c ∷ d ∷ [])) (spelled 10 a) (spelled 10 (c ∷ d ∷ [])) ∙ sym (seven_is c d)

  tenths_is : (c : ℕ) → fraction (c ∷ []) ≡ cond (are_digits 10 (c ∷ 48 ∷ [])) (Some (spelled 10 (c ∷ 48 ∷ []))) None
  unfolding read_number
  tenths_is c =
      let v : spelled 10 (c ∷ []) * 10 ≡ spelled 10 (c ∷ 48 ∷ []) = omega arith in
      ap tenfold (all_digits 10 1 9 (c ∷ []) (omega arith) refl (omega arith) (omega arith)) ∙ ten_if (are_digits 10 (c ∷ [])) (spelled 10 (c ∷ []))
      ∙ ap (λ n. cond (are_digits 10 (c ∷ [])) (Some n) None) v

  hundredths_is : (c d : ℕ) → fraction (c ∷ d ∷ []) ≡ cond (are_digits 10 (c ∷ d ∷ [])) (Some (spelled 10 (c ∷ d ∷ []))) None
  unfolding read_number
  hundredths_is c d = all_digits 10 2 99 (c ∷ d ∷ []) (omega arith) refl (omega arith) (omega arith)

  by_rest : (t : List ℕ) → frequency_from first_five (fraction t) ≡ cond (is_between 1 2 (length t)) (seven a t) None
  by_rest [] = no_hundredths first_five
  by_rest (c ∷ []) = with_two c 48 (tenths_is c)
  by_rest (c ∷ d ∷ []) = with_two c d (hundredths_is c d)
  by_rest (c ∷ d ∷ g ∷ t) =
      let n : ℕ = length (c ∷ d ∷ g ∷ t) in
      rw (ne_eqb n 1 (λ q. omega arith), ne_eqb n 2 (λ q. omega arith), lt-leb n 2 (omega arith), and-false (leb 1 n)) (no_hundredths first_five)

pub frequency_by : (xs : List ℕ) → frequency_from (megahertz xs) (hundredths xs) ≡ frequency xs
unfolding frequency
frequency_by xs =
    rw before_dot
    (by_test (λ t. eqb (dot xs) 5 ≡ t → frequency_from (cond t (read_number Allowed 5 99999 (before 46 xs)) None) (hundredths xs) ≡ cond (t && (not (has 46 xs) || is_between 1 2 (length (after 46 xs)))) (seven (before 46 xs) (after 46 xs)) None)
    (eqb (dot xs) 5) (λ _ y. five (before_dot ∙ eqb-true (dot xs) 5 y)) (λ _ _. refl) refl)
  where
    before_dot : length (before 46 xs) ≡ dot xs
    before_dot = part_length 0 (dot xs) xs (first_within (is 46) xs) ∙ sub-zero (dot xs)

    five : length (before 46 xs) ≡ 5 → frequency_from (read_number Allowed 5 99999 (before 46 xs)) (hundredths xs) ≡ cond (not (has 46 xs) || is_between 1 2 (length (after 46 xs))) (seven (before 46 xs) (after 46 xs)) None
    five e =
        by_test (λ t. has 46 xs ≡ t → frequency_from (read_number Allowed 5 99999 (before 46 xs)) (cond t (fraction (after 46 xs)) (Some 0)) ≡ cond (not t || is_between 1 2 (length (after 46 xs))) (seven (before 46 xs) (after 46 xs)) None)
        (has 46 xs) (λ _ _. by_rest (before 46 xs) e (after 46 xs))
        (λ _ n. rw (drop_of_length-le xs {i = dot xs + 1} (omega (arith, ltb-false (dot xs) (length xs) n))) (with_two (before 46 xs) e 48 48 refl))
        refl
