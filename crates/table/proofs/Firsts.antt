-- What the methods of iterators give, in this project's words. Assumes nothing.
use Rattle.std.proofs.Common.{◌≡◌, ℕ, suc, ◌+◌, ◌<◌, Bool, cond, List, [], ◌∷◌, length, refl, sym, ap, ◌∙◌, arith, ltb, eq-eqb, ne_eqb}
use Rattle.std.specs.Prelude.{unwrap_or, Option, Some, None, IfSome}
use Rattle.std.specs.List.{position, position_or_len, list_any}
use Rattle.std.proofs.lemmas.List.Recursion.{is_position_or_len}
use borrow.Author.Tests.{ltb-true, ltb-false}
use Rattle.scan.proofs.Bools.{Case, case, is, isnt, Same, same, other, sames}
use Rattle.scan.specs.Lists.{first}
use Rattle.scan.proofs.Loops.{first_within}
use Rattle.table.specs.Table.{any, unless}

next : (n : ℕ) → suc n ≡ 1 + n
next n = omega arith

module _ {A : Type 0} (p : A → Bool) where
  first_same : (l : List A) → first p l ≡ position_or_len p l
  first_same = is_position_or_len (first p) p refl (λ x l. ap (cond (p x) 0) (next (first p l)))

  -- `position`, of so many
  module _ (l : List A) (n : ℕ) {r : Option ℕ} (long : length l ≡ n) (e : r ≡ position p l) where
    pub position_is : r ≡ unless n (first p l)
    position_is = by (case (ltb (position_or_len p l) (length l)))
      where
        by : Case (ltb (position_or_len p l) (length l)) → r ≡ unless n (first p l)
        by (is y) = rw (ne_eqb (first p l) n (omega (arith, first_same l, ltb-true _ _ y)), first_same l) (e ∙ rw y)
        by (isnt h) = rw (eq-eqb (first p l) n (omega (arith, first_same l, first_within p l, ltb-false _ _ h))) (e ∙ rw h)

    pub position_within : IfSome r (λ i. i < n)
    position_within = by (case (ltb (position_or_len p l) (length l)))
      where
        by : Case (ltb (position_or_len p l) (length l)) → IfSome r (λ i. i < n)
        by (is y) = let z : r ≡ Some (position_or_len p l) = e ∙ rw y in rw z (omega (arith, ltb-true _ _ y))
        by (isnt h) = let z : r ≡ None = e ∙ rw h in rw z tt

  -- `any`
  pub any_same : (l : List A) → list_any p l ≡ any p l
  any_same [] = refl
  any_same (x ∷ l) = rw (any_same l)

-- a number that is there, and one that is not
module _ {none n : ℕ} {r : Option ℕ} (e : r ≡ unless none n) where
  pub unless_some : {x : ℕ} → r ≡ Some x → (x ≡ n) × (x ≡ none → ⊥)
  unless_some {x} h = by (sames n none)
    where
      by : Same n none → (x ≡ n) × (x ≡ none → ⊥)
      by (same q) = let z : ◌≡◌ {A = Option ℕ} (Some x) None = sym h ∙ (e ∙ rw (eq-eqb n none q)) in absurd (cc)
      by (other q) = let z : Some x ≡ Some n = sym h ∙ (e ∙ rw (ne_eqb n none q)) in let w : x ≡ n = cc in (w, λ k. q (sym w ∙ k))

  pub unless_none : r ≡ None → n ≡ none
  unless_none h = by (sames n none)
    where
      by : Same n none → n ≡ none
      by (same q) = q
      by (other q) = let z : ◌≡◌ {A = Option ℕ} None (Some n) = sym h ∙ (e ∙ rw (ne_eqb n none q)) in absurd (cc)

pub unless_or : (none n : ℕ) → unwrap_or (unless none n) none ≡ n
unless_or none n = by (sames n none)
  where
    by : Same n none → unwrap_or (unless none n) none ≡ n
    by (same q) = rw (eq-eqb n none q) (sym q)
    by (other q) = rw (ne_eqb n none q)
