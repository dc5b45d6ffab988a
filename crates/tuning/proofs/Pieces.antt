-- Whether all of a list pass a test, as std says it. Assumes nothing.
use mathlib.Core.Path.{◌≡◌, refl, ap}
use mathlib.Core.Bool.{Bool, ◌&&◌}
use mathlib.Core.List.{List, [], ◌∷◌}
use Rattle.std.specs.List.{list_all}
use Rattle.scan.specs.Lists.{all}

pub list_all_all : {A : Type 0} (p : A → Bool) (xs : List A) → list_all p xs ≡ all p xs
list_all_all p [] = refl
list_all_all p (x ∷ xs) = ap (λ t. p x && t) (list_all_all p xs)
