-- Where a PID stands in an ascending list, or belongs: what adding it and removing it come to there. The lists need not ascend. Assumes nothing.
use mathlib.Core.Path.{◌≡◌, refl, ap, sym}
use mathlib.Core.Bool.{true, false}
use mathlib.Core.List.{List, [], ◌∷◌}
use Prim.Native.Nat.{ℕ, zero, suc, ◌≤◌, ◌<◌}
use native.Mathlib.Omega.{arith}
use native.Mathlib.Decide.{dec_lt}
use Rattle.scan.proofs.Bools.{by_cases}
use lib.Dec.{eqb, ltb}
use lib.ListN.{length, get_or}
use borrow.Author.Tests.{lt-ltb, le-ltb, eq-eqb, ne_eqb}
use Rattle.std.specs.List.{HoldsAt, AllWithin}
use Rattle.stream.specs.Arrays.{There, Missing}

module _ (p : ℕ) where
  -- the PIDs before place i are lower than p
  abbrev Lower : List ℕ → ℕ → Type 0
  Lower l i = (k : ℕ) → k < i → get_or l k 0 < p

  lower_rest : (q : ℕ) (l : List ℕ) (i : ℕ) → Lower (q ∷ l) (suc i) → Lower l i
  lower_rest q l i h k m = h (suc k) (omega arith)

  pub there : (l : List ℕ) (i : ℕ) → Lower l i → i < length l → get_or l i 0 ≡ p → There p l i
  there [] i h w e = absurd (omega arith)
  there (q ∷ l) zero h w e = let k : ltb p q ≡ false = le-ltb p q (omega arith) in let y : eqb p q ≡ true = eq-eqb p q (sym e) in record { within = w; adding = rw (k, y); removing = rw (k, y) }
  there (q ∷ l) (suc i) h w e =
      let b : q < p = h 0 (omega arith) in
      let k : ltb p q ≡ false = le-ltb p q (omega arith) in
      let n : eqb p q ≡ false = ne_eqb p q (λ z. omega arith) in
      let r = there l i (lower_rest q l i h) (omega arith) e in
      record { within = w; adding = rw (k, n) (ap (λ t. q ∷ t) r.adding); removing = rw (k, n) (ap (λ t. q ∷ t) r.removing) }

  pub missing : (l : List ℕ) (i : ℕ) → Lower l i → i ≤ length l → (i < length l → p < get_or l i 0) → Missing p l i
  missing [] zero h w f = record { within = w; adding = refl; removing = refl }
  missing [] (suc i) h w f = absurd (omega arith)
  missing (q ∷ l) zero h w f = let b : p < q = f (omega arith) in let k : ltb p q ≡ true = lt-ltb p q b in record { within = w; adding = rw k; removing = rw k }
  missing (q ∷ l) (suc i) h w f =
      let b : q < p = h 0 (omega arith) in
      let k : ltb p q ≡ false = le-ltb p q (omega arith) in
      let n : eqb p q ≡ false = ne_eqb p q (λ z. omega arith) in
      let r = missing l i (lower_rest q l i h) (omega arith) (λ z. f (omega arith)) in
      record { within = w; adding = rw (k, n) (ap (λ t. q ∷ t) r.adding); removing = rw (k, n) (ap (λ t. q ∷ t) r.removing) }

  -- as `position` finds the first that is not lower
  pub found_there : (l : List ℕ) {i : ℕ} → (i < length l) × HoldsAt (λ q. p ≤ q) l i × AllWithin (λ q. q < p) l 0 i → get_or l i 0 ≡ p → There p l i
  found_there l {i} f e = there l i (λ k h. f.2 k 0 (omega arith) h) f.0 e

  pub found_missing : (l : List ℕ) {i : ℕ} → (i < length l) × HoldsAt (λ q. p ≤ q) l i × AllWithin (λ q. q < p) l 0 i → (get_or l i 0 ≡ p → ⊥) → Missing p l i
  found_missing l {i} f n = missing l i (λ k h. f.2 k 0 (omega arith) h) (omega (arith, f.0)) (λ h. let y : p ≤ get_or l i 0 = f.1 0 in by_cases (dec_lt p (get_or l i 0)) (λ z. z) (λ z. absurd (n (omega arith))))

  pub found_none : (l : List ℕ) → AllWithin (λ q. q < p) l 0 (length l) → Missing p l (length l)
  found_none l f = missing l (length l) (λ k h. f k 0 (omega arith) h) (omega arith) (λ h. absurd (omega arith))
