-- Operations at each place in turn: what every one of them keeps, all of them keep, and what each changes at its own place only.
-- Assumes nothing.
use mathlib.Core.Path.{◌≡◌, refl, ◌∙◌, ap}
use mathlib.Core.List.{List, [], ◌∷◌, ◌++◌, map, append_assoc, append-nil}
use Prim.Native.Nat.{ℕ, zero, suc, ◌≤◌, ◌<◌}
use native.Mathlib.Omega.{arith}
use lib.ListN.{length, get_or, set, take, drop, length-map, drop_of_length-le}
use lib.Seq.{set_at, get_or_at, take-suc, drop-cons, length-take-le, take_all}
use Rattle.table.specs.declared.SatBox.{SatBox}
use Rattle.closings.specs.Closing.{Did, did, nothing, then, upto}

pub upto_keeps : (f : ℕ → SatBox → Did) (P : SatBox → Type 0) (m : ℕ) → ((i : ℕ) (t : SatBox) → i < m → P t → P (f i t).satbox) → (t : SatBox) → P t → (n : ℕ) → n ≤ m → P (upto f n t).satbox
unfolding upto
upto_keeps f P m k t p zero h = p
upto_keeps f P m k t p (suc n) h = k n (upto f n t).satbox (omega arith) (upto_keeps f P m k t p n (omega arith))

-- a run of steps that do nothing, and one whose steps are those of another
pub upto_idle : (f : ℕ → SatBox → Did) (t : SatBox) (n : ℕ) → ((i : ℕ) → i < n → f i t ≡ nothing t) → upto f n t ≡ nothing t
unfolding upto
upto_idle f t zero h = refl
upto_idle f t (suc n) h =
    ap (λ d. then d (f n)) (upto_idle f t n (λ i l. h i (omega arith))) ∙ ap (λ d. did d.satbox d.records) (h n (omega arith))

pub upto_same : (f g : ℕ → SatBox → Did) (P : SatBox → Type 0) (m : ℕ) → ((i : ℕ) (t : SatBox) → i < m → P t → P (f i t).satbox) → ((i : ℕ) (t : SatBox) → i < m → P t → f i t ≡ g i t) → (t : SatBox) → P t → (n : ℕ) → n ≤ m → upto f n t ≡ upto g n t
unfolding upto
upto_same f g P m k e t p zero h = refl
upto_same f g P m k e t p (suc n) h =
    let d = upto f n t in
    ap (λ x. did x.satbox (d.records ++ x.records)) (e n d.satbox (omega arith) (upto_keeps f P m k t p n (omega arith)))
    ∙ ap (λ x. then x (g n)) (upto_same f g P m k e t p n (omega arith))

-- a run whose step at i changes only the element at i of a list, by g, maps g over the list
module _ {A : Type 0} (f : ℕ → SatBox → Did) (part : SatBox → List A) (g : A → A) (d : A) (local : (i : ℕ) (t : SatBox) → part (f i t).satbox ≡ set (part t) i (g (get_or (part t) i d))) (t : SatBox) where
  map_append : (a b : List A) → map g (a ++ b) ≡ map g a ++ map g b
  map_append [] b = refl
  map_append (x ∷ a) b = ap (λ l. g x ∷ l) (map_append a b)

  upto_part : (n : ℕ) → n ≤ length (part t) → part (upto f n t).satbox ≡ map g (take n (part t)) ++ drop n (part t)
  unfolding upto
  upto_part zero h = refl
  upto_part (suc n) h =
      let l = part t in
      let size : length (map g (take n l)) ≡ n = length-map (take n l) g ∙ length-take-le n l (omega arith) in
      local n (upto f n t).satbox
      ∙ rw (upto_part n (omega arith), drop-cons l n d (omega arith), get_or_at (map g (take n l)) (get_or l n d) (drop (suc n) l) d n size, set_at (map g (take n l)) (get_or l n d) (drop (suc n) l) (g (get_or l n d)) n size, take-suc l n d (omega arith), map_append (take n l) (get_or l n d ∷ []), append_assoc)

  pub upto_map : (n : ℕ) → length (part t) ≡ n → part (upto f n t).satbox ≡ map g (part t)
  upto_map n h =
      upto_part n (omega arith) ∙ rw (take_all n (part t) (omega arith), drop_of_length-le (part t) {i = n} (omega arith)) (append-nil (map g (part t)))

-- what holds of nothing done, and of two operations in a row, holds of a run of operations each of which it holds of
module _ (P : SatBox → Type 0) (R : SatBox → Did → Type 0) (nil : (t : SatBox) → R t (nothing t)) (seq : (t : SatBox) (d : Did) (f : SatBox → Did) → R t d → R d.satbox (f d.satbox) → R t (then d f)) where
  pub upto_holds : (f : ℕ → SatBox → Did) (m : ℕ) → ((i : ℕ) (t : SatBox) → i < m → P t → P (f i t).satbox) → ((i : ℕ) (t : SatBox) → i < m → P t → R t (f i t)) → (t : SatBox) → P t → (n : ℕ) → n ≤ m → R t (upto f n t)
  unfolding upto
  upto_holds f m keeps holds t p zero h = nil t
  upto_holds f m keeps holds t p (suc n) h =
      seq t (upto f n t) (f n) (upto_holds f m keeps holds t p n (omega arith))
      (holds n (upto f n t).satbox (omega arith) (upto_keeps f P m keeps t p n (omega arith)))
