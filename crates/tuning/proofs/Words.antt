-- The place of a text among some words, and its code. Assumes nothing.
use mathlib.Core.Path.{◌≡◌, ap, refl, sym, ◌∙◌}
use mathlib.Core.Bool.{Bool, true, cond, false, not}
use mathlib.Core.List.{List, [], ◌∷◌, map}
use Prim.Native.Nat.{ℕ, suc, ◌+◌}
use denote.Ref.{Bor}
use Rattle.std.specs.List.{position_or_len}
use native.Mathlib.Omega.{arith}
use lib.Dec.{ltb, eqb}
use lib.ListN.{length, length-map}
use Rattle.scan.specs.Lists.{first}
use Rattle.scan.specs.Text.{cut, place_among}
use Rattle.scan.specs.Found.{is_word}
use Rattle.scan.specs.declared.Case.TheVariants.{Counts}
use Rattle.scan.proofs.Bools.{by_test}
use Rattle.std.specs.Prelude.{Option, Some, None, MatchOption, option_map}
use Rattle.std.specs.Option.{option_or}
use Rattle.tuning.specs.Found.{place_of, code_of}
use Rattle.tuning.specs.Values.{word, value_of, frequency, are_pids}
use Rattle.digits.specs.Reading.{read_number}

-- the texts behind the references of a list
abbrev texts : List (Bor (List ℕ)) → List (List ℕ)
texts ws = map (λ w. w.now) ws

first_texts : (p : List ℕ → Bool) (ws : List (Bor (List ℕ))) → position_or_len (λ w. p w.now) ws ≡ first p (texts ws)
first_texts p [] = refl
first_texts p (w ∷ ws) = by_test (λ t. cond (not t) (1 + position_or_len (λ v. p v.now) ws) 0 ≡ cond t 0 (suc (first p (texts ws)))) (p w.now) (λ _. refl) (λ _. omega (arith, first_texts p ws))

-- among the words of a text
module _ (words : List ℕ) (ws : List (Bor (List ℕ))) (s : List ℕ) (e : texts ws ≡ cut 32 words) where
  pub place_is : place_of ws s ≡ cond (ltb (place_among Counts words s) (length (cut 32 words))) (Some (place_among Counts words s)) None
  unfolding place_of place_among
  place_is =
      let n : length ws ≡ length (cut 32 words) = sym (length-map ws (λ (w : Bor (List ℕ)). w.now)) ∙ ap length e in
      rw (first_texts (is_word Counts s) ws ∙ ap (first (is_word Counts s)) e, n)

  pub word_is : {r : Option ℕ} → r ≡ code_of ws s → r ≡ word words s
  word_is q =
      q ∙ ap (option_map (λ k. k + 1)) place_is
      ∙ by_test (λ t. option_map (λ k. k + 1) (cond t (Some (place_among Counts words s)) None) ≡ cond t (Some (place_among Counts words s + 1)) None)
      (ltb (place_among Counts words s) (length (cut 32 words))) (λ _. refl) (λ _. refl)

pub or_is : (a b : Option ℕ) {r : Option ℕ} → MatchOption a (r ≡ b) (λ v. r ≡ Some v) → r ≡ option_or a b
or_is (Some v) b e = e
or_is None b e = e

-- AN EMPTY TEXT is no attribute's value
skip : (t : Bool) {r : Option ℕ} → r ≡ None → cond t None r ≡ None
skip true e = refl
skip false e = e

pub value_none : (frontends a : ℕ) → value_of frontends a [] ≡ None
unfolding value_of read_number frequency are_pids place_among
value_none frontends a =
    skip (eqb a 0) (skip (eqb a 1) (skip (eqb a 2) (skip (eqb a 3) (skip (eqb a 4) (skip (eqb a 5) (skip (eqb a 6) (skip (eqb a 7) (skip (eqb a 8)
    (skip (eqb a 9) (skip (eqb a 10) (skip (eqb a 11) (skip (eqb a 12) refl))))))))))))
