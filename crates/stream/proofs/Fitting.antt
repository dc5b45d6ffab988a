-- A query's codes: those that are read of a text are in range, and values in range stay so when such codes replace them.
-- Assumes nothing.
use mathlib.Core.Path.{◌≡◌, refl, subst, sym}
use mathlib.Core.Bool.{Bool, true, cond, ◌&&◌, ◌||◌}
use mathlib.Core.List.{List, [], ◌∷◌}
use Prim.Native.Nat.{ℕ, ◌+◌, ◌≤◌}
use native.Mathlib.Omega.{arith}
use lib.Dec.{eqb, ltb}
use lib.ListN.{length, get_or, drop, take}
use borrow.Author.Tests.{le-leb, ltb-true, eqb-true, eq-eqb}
use Rattle.scan.specs.Text.{text, ◌&◌, cut, before, after, place_among}
use Rattle.scan.specs.Lists.{is_between, all}
use Rattle.scan.specs.declared.Case.TheVariants.{Counts}
use Rattle.scan.proofs.Bools.{never, and_both, by_test, both, or_right}
use Rattle.std.specs.Prelude.{Some, None, IfSome}
use Rattle.digits.specs.declared.Zeros.TheVariants.{Allowed}
use Rattle.digits.proofs.Limits.{number_between}
use Rattle.digits.specs.Reading.{read_number, at_least}
use Rattle.tuning.specs.Values.{plain, word, frequency, value_of, is_megahertz}
use Rattle.stream.specs.Values.{are_in_range, given, merged}
use Rattle.stream.specs.Arrays.{is_in_range, kept, is_fit, are_fit, is_in}
use Rattle.stream.specs.declared.Values.{Values}
use Rattle.stream.proofs.Ranges.{by_place}

-- a test that all of a list pass
pub all_in : (q : ℕ → Bool) (l : List ℕ) (a : ℕ) → all q l ≡ true → is_in a l ≡ true → q a ≡ true
all_in q [] a e h = never h refl
all_in q (x ∷ l) a e h =
    let b = and_both (q x) (all q l) e in
    by_test (λ t. t || is_in a l ≡ true → q a ≡ true) (eqb a x)
    (λ y z. rw (eqb-true a x y) b.0)
    (λ n z. all_in q l a b.1 z) h

pub all_of : (q : ℕ → Bool) (l : List ℕ) → ((a : ℕ) → is_in a l ≡ true → q a ≡ true) → all q l ≡ true
all_of q [] f = refl
all_of q (x ∷ l) f =
    both (f x (rw (eq-eqb x x refl)))
    (all_of q l (λ a h. f a (by_test (λ t. t || is_in a l ≡ true) (eqb a x) (λ y. refl) (λ n. h))))

pub fit_of : (codes : List ℕ) → ((a : ℕ) → is_in a kept ≡ true → is_fit a (get_or codes a 0) ≡ true) → are_fit codes ≡ true
unfolding are_fit
fit_of codes f = all_of (λ a. is_fit a (get_or codes a 0)) kept f

-- values in range stay in range
given_ranged : (attribute code old : ℕ) → is_fit attribute code ≡ true → is_in_range attribute old ≡ true → is_in_range attribute (given code old) ≡ true
given_ranged attribute code old f h =
    by_test (λ t. t || is_in_range attribute code ≡ true → is_in_range attribute (cond t old code) ≡ true) (eqb code 0) (λ y z. h) (λ n z. z) f

keeping : {a b c d : Bool} → (a ≡ true → b ≡ true) → (c ≡ true → d ≡ true) → a && c ≡ true → b && d ≡ true
keeping {a} {b} {c} {d} f g e = let x = and_both a c e in both (f x.0) (g x.1)

pub merged_ranged : (v : Values) (codes : List ℕ) → are_fit codes ≡ true → are_in_range v ≡ true → are_in_range (merged v codes) ≡ true
unfolding are_fit merged
merged_ranged v codes f =
    rw (by_place v, by_place (merged v codes))
    (keeping (keeping (keeping (keeping (keeping (keeping (keeping (keeping (one 0 refl v.src) (one 2 refl v.freq)) (one 3 refl v.pol)) (one 4 refl v.msys)) (one 5 refl v.mtype)) (one 6 refl v.plts)) (one 7 refl v.ro)) (one 8 refl v.sr)) (one 9 refl v.fec))
  where
    one : (a : ℕ) → is_in a kept ≡ true → (old : ℕ) → is_in_range a old ≡ true → is_in_range a (given (get_or codes a 0) old) ≡ true
    one a k old h = given_ranged a (get_or codes a 0) old (all_in (λ b. is_fit b (get_or codes b 0)) kept a f k) h

-- what is read of a text is in range
none_read : {c : ℕ} {P : Type 0} → None ≡ Some c → P
none_read e = let z : ◌≡◌ {A = ℕ} 0 1 = cc in absurd (omega arith)

same_read : {v c : ℕ} → Some v ≡ Some c → v ≡ c
same_read e = cc

number_ranged : (most low high : ℕ) (xs : List ℕ) {c : ℕ} → at_least low (read_number Allowed most high xs) ≡ Some c → is_between low high c ≡ true
number_ranged most low high xs {c} e =
    let b = subst (λ r. IfSome r (λ v. (low ≤ v) × (v ≤ high))) e (number_between Allowed most low high xs) in both (le-leb low c b.0) (le-leb c high b.1)

plain_between : (low high : ℕ) (xs : List ℕ) {c : ℕ} → plain low high xs ≡ Some c → is_between low high c ≡ true
plain_between low high xs e = number_ranged 5 low high xs e

word_most : (words xs : List ℕ) {c : ℕ} → word words xs ≡ Some c → c ≤ length (cut 32 words)
word_most words xs {c} e =
    by_test (λ t. cond t (Some (place_among Counts words xs + 1)) None ≡ Some c → c ≤ length (cut 32 words))
    (ltb (place_among Counts words xs) (length (cut 32 words)))
    (λ y z. let s : place_among Counts words xs + 1 ≡ c = same_read z in omega (arith, ltb-true (place_among Counts words xs) (length (cut 32 words)) y))
    (λ n z. none_read z) e

frequency_between : (xs : List ℕ) {c : ℕ} → frequency xs ≡ Some c → is_between 1070000 1275000 c ≡ true
unfolding frequency
frequency_between xs {c} e =
    by_test (λ t. cond t (at_least 1070000 (read_number Allowed 7 1275000 (before 46 xs & take 2 (after 46 xs & text "00")))) None ≡ Some c → is_between 1070000 1275000 c ≡ true) (is_megahertz xs)
    (λ _ z. number_ranged 7 1070000 1275000 (before 46 xs & take 2 (after 46 xs & text "00")) z)
    (λ _ z. none_read z) e

in_front : (P : ℕ → Type 0) (a x : ℕ) (l : List ℕ) → P x → (is_in a l ≡ true → P a) → is_in a (x ∷ l) ≡ true → P a
in_front P a x l p f =
    by_test (λ t. t || is_in a l ≡ true → P a) (eqb a x) (λ y z. subst P (sym (eqb-true a x y)) p) (λ n z. f z)

-- at each of the places, as the table there is read
pub read_ranged : (f a : ℕ) (xs : List ℕ) (c : ℕ) → is_in a kept ≡ true → value_of f a xs ≡ Some c → is_in_range a c ≡ true
unfolding value_of is_in_range
read_ranged f a xs c =
    let P : ℕ → Type 0 = λ b. value_of f b xs ≡ Some c → is_in_range b c ≡ true in
    in_front P a 0 (drop 1 kept) (λ e. plain_between 1 4 xs e)
    (in_front P a 2 (drop 2 kept) (λ e. or_right (eqb c 0) (frequency_between xs e))
    (in_front P a 3 (drop 3 kept) (λ e. le-leb c 4 (word_most (text "h v l r") xs e))
    (in_front P a 4 (drop 4 kept) (λ e. le-leb c 2 (word_most (text "dvbs dvbs2") xs e))
    (in_front P a 5 (drop 5 kept) (λ e. le-leb c 2 (word_most (text "qpsk 8psk") xs e))
    (in_front P a 6 (drop 6 kept) (λ e. le-leb c 2 (word_most (text "on off") xs e))
    (in_front P a 7 (drop 7 kept) (λ e. le-leb c 3 (word_most (text "0.35 0.25 0.20") xs e))
    (in_front P a 8 (drop 8 kept) (λ e. or_right (eqb c 0) (plain_between 1000 45000 xs e))
    (in_front P a 9 (drop 9 kept) (λ e. le-leb c 9 (word_most (text "12 23 34 56 78 89 35 45 910") xs e)) (λ h. never h refl)))))))))
