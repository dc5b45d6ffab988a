-- A value that is there if a test is met. Assumes nothing.
use mathlib.Core.Path.{◌≡◌, refl}
use mathlib.Core.Bool.{Bool, true, false}
use Rattle.std.specs.Bool.{then_some}
use Rattle.std.specs.Prelude.{MatchOption}

pub by_some : {A : Type 0} (P : Type 0) (Q : A → Type 0) (t : Bool) (v : A) → (t ≡ true → Q v) → (t ≡ false → P) → MatchOption (then_some t v) P Q
by_some P Q true v y n = y refl
by_some P Q false v y n = n refl
