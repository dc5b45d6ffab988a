-- The request line, cut at its spaces as the code finds them, one after the other. Assumes nothing.
use mathlib.Core.Path.{◌≡◌, refl, ap, sym, ◌∙◌}
use mathlib.Core.Bool.{Bool, true, false, not, ◌&&◌, ◌||◌}
use mathlib.Core.List.{List, [], ◌∷◌}
use Prim.Native.Nat.{ℕ, ◌+◌, ◌≤◌, ◌<◌, max}
use native.Mathlib.Omega.{arith}
use lib.Dec.{eqb}
use lib.ListN.{length, get_or, drop}
use borrow.Author.Tests.{eqb-true, eqb-false, ne_eqb}
use Rattle.scan.specs.Lists.{all, first, part}
use Rattle.scan.specs.Found.{FirstFrom, cut_from}
use Rattle.scan.specs.Text.{is, cut, is_empty}
use Rattle.scan.proofs.Parts.{part_empty, some_part}
use Rattle.scan.proofs.Cuts.{cut_start, cut_turn, cut_end}
use Rattle.target.specs.Line.{is_three}
use Rattle.target.specs.Steps.{PartsAre}

-- a part is empty where it ends at its start
empty_part : (a e : ℕ) (s : List ℕ) → a ≤ e → e ≤ length s → is_empty (part a e s) ≡ eqb e a
empty_part a e s h k = go (eqb e a) refl
  where
    go : (t : Bool) → eqb e a ≡ t → is_empty (part a e s) ≡ t
    go true q = let z : e ≡ a = eqb-true e a q in ap is_empty (part_empty a e s (omega arith))
    go false q = let z : e ≡ a → ⊥ = eqb-false e a q in some_part s a e (omega arith) k

abbrev are_three : List (List ℕ) → Bool
are_three ls = eqb (length ls) 3 && all (λ p. not (is_empty p)) ls

nor : (p q r : Bool) → (not p && (not q && (not r && true))) ≡ not (p || q || r)
nor true q r = refl
nor false true r = refl
nor false false true = refl
nor false false false = refl

four : (a b c d : List ℕ) (ls : List (List ℕ)) → are_three (a ∷ b ∷ c ∷ d ∷ ls) ≡ false
four a b c d ls = rw (ne_eqb (length (a ∷ b ∷ c ∷ d ∷ ls)) 3 (λ q. omega arith))

module _ {s : List ℕ} {i : ℕ} (f : FirstFrom (is 32) s 0 i) where
  one : cut 32 s ≡ part 0 i s ∷ cut_from 32 (i + 1) s
  one = cut_start 32 s ∙ cut_turn 32 0 s (omega arith) f.is

  pub one_part : length s ≤ i → is_three s ≡ false
  one_part h = ap are_three one ∙ rw (cut_end 32 (i + 1) s (omega arith))

  module _ (h : i < length s) {j : ℕ} (g : FirstFrom (is 32) s (i + 1) j) where
    two : cut 32 s ≡ part 0 i s ∷ part (i + 1) j s ∷ cut_from 32 (j + 1) s
    two = one ∙ ap (λ l. part 0 i s ∷ l) (cut_turn 32 (i + 1) s (omega arith) g.is)

    pub two_parts : length s ≤ j → is_three s ≡ false
    two_parts k = ap are_three two ∙ rw (cut_end 32 (j + 1) s (omega arith))

    module _ (k : j < length s) {m : ℕ} (l : FirstFrom (is 32) s (j + 1) m) where
      three : cut 32 s ≡ part 0 i s ∷ part (i + 1) j s ∷ part (j + 1) m s ∷ cut_from 32 (m + 1) s
      three = two ∙ ap (λ ls. part 0 i s ∷ part (i + 1) j s ∷ ls) (cut_turn 32 (j + 1) s (omega arith) l.is)

      pub more_parts : m < length s → is_three s ≡ false
      more_parts n =
          let d : ℕ = m + 1 + first (is 32) (drop (m + 1) s) in
          ap are_three three ∙ rw (cut_turn 32 (m + 1) s (omega arith) refl) (four (part 0 i s) (part (i + 1) j s) (part (j + 1) m s) (part (m + 1) d s) (cut_from 32 (d + 1) s))

      module _ (n : length s ≤ m) where
        just : cut 32 s ≡ part 0 i s ∷ part (i + 1) j s ∷ part (j + 1) (length s) s ∷ []
        just =
            let w : m ≤ max (j + 1) (length s) = l.within in
            let e : m ≡ length s = omega arith in
            three ∙ rw (cut_end 32 (m + 1) s (omega arith), e)

        filled : is_three s ≡ not (eqb i 0 || eqb j (i + 1) || eqb (length s) (j + 1))
        filled =
            let o : i + 1 ≤ j = g.from in
            ap are_three just
            ∙ rw (empty_part 0 i s (omega arith) (omega arith), empty_part (i + 1) j s o (omega arith), empty_part (j + 1) (length s) s (omega arith) (omega arith))
            (nor (eqb i 0) (eqb j (i + 1)) (eqb (length s) (j + 1)))

        pub empty_parts : eqb i 0 || eqb j (i + 1) || eqb (length s) (j + 1) ≡ true → is_three s ≡ false
        empty_parts t = filled ∙ ap not t

        pub three_parts : eqb i 0 || eqb j (i + 1) || eqb (length s) (j + 1) ≡ false → PartsAre s (record { first = i; second = j })
        three_parts t =
            let o : i + 1 ≤ j = g.from in
            record {
              three = filled ∙ ap not t;
              method = record { order = omega arith; within = omega arith; is = sym (ap (λ ls. get_or ls 0 []) just) };
              uri = record { order = o; within = omega arith; is = sym (ap (λ ls. get_or ls 1 []) just) };
              version = record { order = omega arith; within = omega arith; is = sym (ap (λ ls. get_or ls 2 []) just) };
            }
