-- Spaces at the end of a text, taken off one by one. Assumes nothing.
use mathlib.Core.Path.{◌≡◌, refl, ap, ◌∙◌, sym}
use mathlib.Core.Bool.{Bool, true, false, not, cond, ◌&&◌}
use mathlib.Core.List.{List, [], ◌∷◌, ◌++◌}
use Prim.Native.Nat.{ℕ, suc, ◌+◌, ◌-◌, ◌≤◌}
use native.Mathlib.Omega.{arith}
use lib.Dec.{eqb}
use lib.ListN.{length, get_or, take, drop, length-drop}
use lib.Seq.{take-length, take-suc}
use borrow.Author.Tests.{ne_eqb}
use Rattle.scan.specs.Lists.{part}
use Rattle.scan.specs.Found.{FirstOf, Trimmed, leading}
use Rattle.scan.specs.Text.{is_empty, trim_end}
use Rattle.scan.specs.declared.Span.{Span}
use Rattle.scan.proofs.Parts.{part_rest, holds_length}

trim_space : (xs : List ℕ) → trim_end (xs ++ (32 ∷ [])) ≡ trim_end xs
trim_space [] = refl
trim_space (x ∷ xs) = rw (trim_space xs)

trim_kept : (xs : List ℕ) (x : ℕ) → eqb x 32 ≡ false → trim_end (xs ++ (x ∷ [])) ≡ xs ++ (x ∷ [])
trim_kept [] x n = rw n
trim_kept (y ∷ xs) x n = rw (trim_kept xs x n) (some xs (eqb y 32))
  where
    some : (xs : List ℕ) (t : Bool) → cond (t && is_empty (xs ++ (x ∷ []))) [] (y ∷ (xs ++ (x ∷ []))) ≡ y ∷ (xs ++ (x ∷ []))
    some [] true = refl
    some (z ∷ zs) true = refl
    some [] false = refl
    some (z ∷ zs) false = refl

-- by the last byte
module _ (xs : List ℕ) where
  by_last : 1 ≤ length xs → xs ≡ take (length xs - 1) xs ++ (get_or xs (length xs - 1) 0 ∷ [])
  by_last h =
      let n : suc (length xs - 1) ≡ length xs = omega arith in
      sym (take-length xs) ∙ ap (λ k. take k xs) (sym n) ∙ take-suc xs (length xs - 1) 0 (omega arith)

  pub space_off : {ys : List ℕ} → 1 ≤ length xs → get_or xs (length xs - 1) 0 ≡ 32 → trim_end xs ≡ ys → trim_end (take (length xs - 1) xs) ≡ ys
  space_off h e y = sym (ap trim_end (by_last h ∙ ap (λ x. take (length xs - 1) xs ++ (x ∷ [])) e) ∙ trim_space (take (length xs - 1) xs)) ∙ y

  pub none_off : {ys : List ℕ} → 1 ≤ length xs → (get_or xs (length xs - 1) 0 ≡ 32 → ⊥) → trim_end xs ≡ ys → xs ≡ ys
  none_off h n y =
      by_last h ∙ sym (ap trim_end (by_last h) ∙ trim_kept (take (length xs - 1) xs) (get_or xs (length xs - 1) 0) (ne_eqb _ _ n)) ∙ y

-- what is left is the front of the text
trim_front : (xs : List ℕ) → take (length (trim_end xs)) xs ≡ trim_end xs
trim_front [] = refl
trim_front (x ∷ xs) = some (trim_front xs) (eqb x 32 && is_empty (trim_end xs))
  where
    some : take (length (trim_end xs)) xs ≡ trim_end xs → (t : Bool) → take (length (cond t [] (x ∷ trim_end xs))) (x ∷ xs) ≡ cond t [] (x ∷ trim_end xs)
    some e true = refl
    some e false = ap (λ ys. x ∷ ys) e

trim_short : (xs : List ℕ) → length (trim_end xs) ≤ length xs
trim_short [] = omega arith
trim_short (x ∷ xs) = some (trim_short xs) (eqb x 32 && is_empty (trim_end xs))
  where
    some : length (trim_end xs) ≤ length xs → (t : Bool) → length (cond t [] (x ∷ trim_end xs)) ≤ length (x ∷ xs)
    some h true = omega arith
    some h false = omega arith

-- from the first byte that is no space on
pub trimmed_from : (s : List ℕ) {a e : ℕ} {ys : List ℕ} → FirstOf (λ x. not (eqb x 32)) s a → ys ≡ trim_end (part a (length s) s) → e ≡ a + length ys
    → Trimmed s (record { start = a; end = e })
trimmed_from s {a} {e} {ys} f h q =
    let y : ys ≡ trim_end (drop a s) = h ∙ ap trim_end (part_rest a (length s) s (omega arith)) in
    let n : length ys ≤ length (drop a s) = rw y (trim_short (drop a s)) in
    let d : length (drop a s) ≡ length s - a = length-drop a s in
    let w : a ≤ length s = f.within in
    let k : e - a ≡ length ys = omega arith in
    record {
      starts = f.is;
      holds =
          record {
            order = omega arith;
            within = omega arith;
            is = ap (λ m. take m (drop a s)) k ∙ rw y (trim_front (drop a s)) ∙ ap (λ m. trim_end (drop m s)) f.is;
          };
    }

-- the contract of `trimmed` leaves one span
pub trimmed_one : (s : List ℕ) (q r : Span) → Trimmed s q → Trimmed s r → (q.start ≡ r.start) × (q.end ≡ r.end)
trimmed_one s q r t u =
    let a : q.start ≡ leading s = t.starts in
    let b : r.start ≡ leading s = u.starts in
    let x = holds_length t.holds in
    let y = holds_length u.holds in
    (omega arith, omega arith)
