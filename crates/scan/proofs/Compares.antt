-- Two texts compared place by place, and what it says that they are alike. Assumes nothing.
use mathlib.Core.Path.{◌≡◌, refl, ap, ap₂, ◌∙◌, sym}
use mathlib.Core.Bool.{Bool, true, false, not, cond, ◌&&◌, ◌||◌, and-false}
use mathlib.Core.List.{List, [], ◌∷◌, map}
use Prim.Native.Nat.{ℕ, suc, ◌+◌, ◌-◌, ◌≤◌, ◌<◌}
use native.Mathlib.Decide.{ℕ_discrete}
use native.Mathlib.Omega.{arith}
use lib.Dec.{eqb, leb}
use lib.ListN.{length}
use borrow.Author.Tests.{eq-eqb, ne_eqb, eqb-true, leb-true, le-leb}
use Rattle.scan.specs.Lists.{is_between, is_capital}
use Rattle.scan.specs.Text.{alike_by, seen}
use Rattle.scan.specs.Found.{is_small, other_case}
use Rattle.scan.specs.declared.Case.TheVariants.{Ignored}
use Rattle.scan.proofs.Bools.{never, and_both, both, by_cases, Case, is, isnt, case}

between : (low high b : ℕ) → is_between low high b ≡ true → (low ≤ b) × (b ≤ high)
between low high b e =
    let t = and_both (leb low b) (leb b high) e in
    (leb-true low b t.0, leb-true b high t.1)

between_is : (low high b : ℕ) → low ≤ b → b ≤ high → is_between low high b ≡ true
between_is low high b h k = both (le-leb low b h) (le-leb b high k)

-- the other case of a letter is a byte
pub capital_small : (b : ℕ) → is_capital b ≡ true → b + 32 < 256
capital_small b e = omega (arith, (between 65 90 b e).1)

pub small_capital : (b : ℕ) → is_small b ≡ true → 32 ≤ b
small_capital b e = omega (arith, (between 97 122 b e).0)

-- two tests for being the same that say the same
same_test : (a b c d : ℕ) → (a ≡ b → c ≡ d) → (c ≡ d → a ≡ b) → eqb a b ≡ eqb c d
same_test a b c d f g = by_cases (ℕ_discrete a b) (λ e. rw (eq-eqb a b e, eq-eqb c d (f e))) (λ n. rw (ne_eqb a b n, ne_eqb c d (λ e. n (g e))))

or_false : (t u : Bool) → u ≡ false → t || u ≡ t
or_false true u e = refl
or_false false u e = e

or_once : (t : Bool) → t || t ≡ t
or_once true = refl
or_once false = refl

-- a byte is alike another if it is that one, in this case or in the other
module _ (x y : ℕ) where
  differ : {t : Bool} → is_capital x ≡ t → is_capital y ≡ not t → eqb x y ≡ false
  differ {t} p q = ne_eqb x y (λ e. unlike t (sym p ∙ ap is_capital e ∙ q))
    where
      unlike : (t : Bool) → t ≡ not t → ⊥
      unlike true e = never refl e
      unlike false e = never e refl

  smalls : Case (is_small x) → is_capital x ≡ false → is_capital y ≡ true → eqb x y || eqb (cond (is_small x) (x - 32) x) y ≡ eqb x (y + 32)
  smalls (is s) p q =
      let a = between 97 122 x s in
      rw (differ p q, s) (same_test (x - 32) y x (y + 32) (λ e. omega arith) (λ e. omega arith))
  smalls (isnt s) p q =
      let b = between 65 90 y q in
      rw (differ p q, s) (differ p q ∙ sym (ne_eqb x (y + 32) (λ e. never (between_is 97 122 x (omega arith) (omega arith)) s)))

  others : Case (is_small x) → is_capital x ≡ false → is_capital y ≡ false → eqb x y || eqb (cond (is_small x) (x - 32) x) y ≡ eqb x y
  others (is s) p q =
      let a = between 97 122 x s in
      rw s (or_false (eqb x y) (eqb (x - 32) y) (ne_eqb (x - 32) y (λ e. never (between_is 65 90 y (omega arith) (omega arith)) q)))
  others (isnt s) p q = rw s (or_once (eqb x y))

  pub pair_alike : eqb x y || eqb (other_case x) y ≡ eqb (seen Ignored x) (seen Ignored y)
  pair_alike = by (case (is_capital x)) (case (is_capital y))
    where
      by : Case (is_capital x) → Case (is_capital y) → eqb x y || eqb (other_case x) y ≡ eqb (seen Ignored x) (seen Ignored y)
      by (is p) (is q) =
          let a = between 65 90 x p in
          let b = between 65 90 y q in
          rw (p, q) (or_false (eqb x y) (eqb (x + 32) y) (ne_eqb (x + 32) y (λ e. omega arith)) ∙ same_test x y (x + 32) (y + 32) (λ e. omega arith) (λ e. omega arith))
      by (is p) (isnt q) = rw (differ p q, p, q)
      by (isnt p) (is q) = rw (p, q) (smalls (case (is_small x)) p q)
      by (isnt p) (isnt q) = rw (p, q) (others (case (is_small x)) p q)

module _ (f : ℕ → ℕ) where
  -- texts of different lengths are not alike
  pub alike_long : (s t : List ℕ) → (length s ≡ length t → ⊥) → false ≡ alike_by f s t
  alike_long [] [] n = absurd (n refl)
  alike_long [] (y ∷ t) n = refl
  alike_long (x ∷ s) [] n = refl
  alike_long (x ∷ s) (y ∷ t) n = rw (← alike_long s t (λ e. n (ap suc e)), and-false)

  -- every text is alike itself
  pub alike_self : (s : List ℕ) → alike_by f s s ≡ true
  alike_self [] = refl
  alike_self (x ∷ s) = rw (eq-eqb (f x) (f x) refl) (alike_self s)

  -- texts that are alike are the same after f; with `alike_by_law` and `alike_self`, the other way round too
  pub alike_same : (s t : List ℕ) → alike_by f s t ≡ true → map f s ≡ map f t
  alike_same [] [] e = refl
  alike_same [] (y ∷ t) e = never e refl
  alike_same (x ∷ s) [] e = never e refl
  alike_same (x ∷ s) (y ∷ t) e =
      let b = and_both (eqb (f x) (f y)) (alike_by f s t) e in
      ap₂ (λ z zs. z ∷ zs) (eqb-true (f x) (f y) b.0) (alike_same s t b.1)

  -- only what f shows of a text counts
  pub alike_by_law : (s t u : List ℕ) → map f s ≡ map f t → alike_by f s u ≡ alike_by f t u
  alike_by_law [] [] u e = refl
  alike_by_law [] (y ∷ t) u e = let z : ◌≡◌ {A = ℕ} 0 1 = omega (arith, ap length e) in absurd (omega arith)
  alike_by_law (x ∷ s) [] u e = let z : ◌≡◌ {A = ℕ} 0 1 = omega (arith, ap length e) in absurd (omega arith)
  alike_by_law (x ∷ s) (y ∷ t) [] e = refl
  alike_by_law (x ∷ s) (y ∷ t) (w ∷ u) e =
      let h : f x ≡ f y = cc in
      let r : map f s ≡ map f t = cc in
      rw (h, alike_by_law s t u r)

  swapped : (x y : ℕ) → eqb x y ≡ eqb y x
  swapped x y = by_cases (ℕ_discrete x y) (λ e. rw (eq-eqb x y e, eq-eqb y x (sym e))) (λ n. rw (ne_eqb x y n, ne_eqb y x (λ e. n (sym e))))

  -- which text is compared with which does not matter
  pub alike_swapped : (s t : List ℕ) → alike_by f s t ≡ alike_by f t s
  alike_swapped [] [] = refl
  alike_swapped [] (y ∷ t) = refl
  alike_swapped (x ∷ s) [] = refl
  alike_swapped (x ∷ s) (y ∷ t) = ap₂ (λ a b. a && b) (swapped (f x) (f y)) (alike_swapped s t)

-- texts that are alike where nothing is changed are the same
pub alike_equal : (s t : List ℕ) → alike_by (λ b. b) s t ≡ true → s ≡ t
alike_equal [] [] e = refl
alike_equal [] (y ∷ t) e = never e refl
alike_equal (x ∷ s) [] e = never e refl
alike_equal (x ∷ s) (y ∷ t) e =
    let b = and_both (eqb x y) (alike_by (λ b. b) s t) e in
    ap₂ (λ z zs. z ∷ zs) (eqb-true x y b.0) (alike_equal s t b.1)
