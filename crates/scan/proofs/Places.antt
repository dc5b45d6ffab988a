-- The place of a text among some words, by what the text is alike. Assumes nothing.
use mathlib.Core.Path.{◌≡◌, refl, ap, ◌∙◌, sym}
use mathlib.Core.Bool.{Bool, true, false}
use mathlib.Core.List.{List, [], ◌∷◌, map}
use Prim.Native.Nat.{ℕ, suc}
use lib.ListN.{length}
use Rattle.scan.specs.Lists.{first}
use Rattle.scan.specs.Text.{seen, are_alike, cut, place_among}
use Rattle.scan.specs.Found.{is_word}
use Rattle.scan.specs.declared.Case.{Case}
use Rattle.scan.proofs.Loops.{first_same}
use Rattle.scan.proofs.Compares.{alike_long, alike_same, alike_by_law, alike_swapped}

-- only what is compared of a text counts
pub place_by : (case : Case) (words s t : List ℕ) → map (seen case) s ≡ map (seen case) t → place_among case words s ≡ place_among case words t
unfolding place_among
place_by case words s t e =
    first_same (is_word case s) (is_word case t)
    (λ w. alike_swapped (seen case) w s ∙ alike_by_law (seen case) s t w e ∙ alike_swapped (seen case) t w) (cut 32 words)

-- a text that is alike a word has the word's place
pub place_alike : (case : Case) (words w s : List ℕ) {t : Bool} → t ≡ are_alike case w s → t ≡ true → first (is_word case w) (cut 32 words) ≡ place_among case words s
unfolding place_among
place_alike case words w s a y = place_by case words w s (alike_same (seen case) w s (sym a ∙ y))

-- s is alike no word of a list
pub data None (case : Case) (s : List ℕ) : List (List ℕ) → Type 0 where
  none : None case s []
  miss : {w : List ℕ} {ws : List (List ℕ)} {t : Bool} → t ≡ are_alike case w s → t ≡ false → None case s ws → None case s (w ∷ ws)

-- a word of another length
pub miss_long : {case : Case} {s w : List ℕ} {ws : List (List ℕ)} → (length w ≡ length s → ⊥) → None case s ws → None case s (w ∷ ws)
miss_long {case} {s} {w} h n = miss (alike_long (seen case) w s h) refl n

pub place_none : (case : Case) (words : List ℕ) {s : List ℕ} → None case s (cut 32 words) → length (cut 32 words) ≡ place_among case words s
unfolding place_among
place_none case words {s} n = past n
  where
    past : {ws : List (List ℕ)} → None case s ws → length ws ≡ first (is_word case s) ws
    past none = refl
    past (miss a d n) = rw (sym a ∙ d) (ap suc (past n))
