-- What changes nothing: the case of a header's name, and a header that is not known. Both are said of the lines; only where the values
-- stand can change. Assumes nothing.
use mathlib.Core.Path.{◌≡◌, refl}
use mathlib.Core.Bool.{true, false, not}
use mathlib.Core.List.{List, [], ◌∷◌, ◌++◌, map}
use Prim.Native.Nat.{ℕ, ◌≤◌}
use native.Mathlib.Omega.{arith}
use borrow.Author.Tests.{ne_eqb}
use Rattle.scan.specs.Lists.{all, is_text}
use Rattle.scan.specs.Found.{small}
use Rattle.scan.specs.Text.{is_empty}
use Rattle.scan.specs.declared.Case.TheVariants.{Ignored}
use Rattle.scan.proofs.Places.{place_by}
use Rattle.lines.specs.Headers.{is_header, header_of, values_of}
use Rattle.lines.specs.Laid.{known, name_of, header_value, are_headers}

-- header lines whose names differ in case alone
pub data Recased : List (List ℕ) → List (List ℕ) → Type 0 where
  same : Recased [] []
  next : {h g : List ℕ} {hs gs : List (List ℕ)} → map small (name_of h) ≡ map small (name_of g) → header_value h ≡ header_value g → Recased hs gs → Recased (h ∷ hs) (g ∷ gs)

recased_kind : (h g : List ℕ) → map small (name_of h) ≡ map small (name_of g) → header_of h ≡ header_of g
recased_kind h g e = place_by Ignored known (name_of h) (name_of g) e

pub recased_values : (k : ℕ) {hs gs : List (List ℕ)} → Recased hs gs → values_of k hs ≡ values_of k gs
recased_values k same = refl
recased_values k (next {h} {g} n v r) = rw (recased_kind h g n, v, recased_values k r)

-- a header of another name
pub unknown_values : (k : ℕ) (h : List ℕ) (hs gs : List (List ℕ)) → header_of h ≡ 5 → k ≤ 4 → values_of k (hs ++ (h ∷ gs)) ≡ values_of k (hs ++ gs)
unknown_values k h [] gs e l = rw (ne_eqb (header_of h) k (λ q. omega arith))
unknown_values k h (x ∷ hs) gs e l = rw (unknown_values k h hs gs e l)

pub unknown_layout : (h : List ℕ) (hs gs : List (List ℕ)) → is_empty h ≡ false → all is_text h ≡ true → is_header h ≡ true → all (λ l. not (is_empty l)) hs ≡ true
    → are_headers (hs ++ (h ∷ gs)) ≡ are_headers (hs ++ gs)
unknown_layout h [] gs e t i f = rw (e, t, i)
unknown_layout h ([] ∷ hs) gs e t i f = let z : ◌≡◌ {A = ℕ} 0 1 = cc in absurd (omega arith)
unknown_layout h ((x ∷ l) ∷ hs) gs e t i f = rw (unknown_layout h hs gs e t i f)
