-- Where the digits of a number stand that was read at a place of a text, in any base and of any width. No call of the box reaches it. Assumes nothing.
use Rattle.std.specs.Prelude.{ℕ, ◌≡◌, List, [], Option, MatchOption, is_some}
use Rattle.std.specs.Bool.{then_some}
use Rattle.scan.specs.Found.{Holds, text_at}
use Rattle.scan.specs.declared.Span.{Span}
use Rattle.digits.specs.Reading.{read_in, digits_read}

-- the place itself, where its whole text is a number
abbrev pub digits_at : ℕ → ℕ → ℕ → List ℕ → Span → Option Span
digits_at base most limit s place = then_some (is_some (read_in base most limit (text_at s place))) place

pub record Stands (base most limit : ℕ) (s : List ℕ) (place : Span) (r : Option Span) : Type 0 where
  pub is : r ≡ digits_at base most limit s place
  pub holds : MatchOption r (digits_read base most limit (text_at s place) ≡ []) (λ at. Holds s (digits_read base most limit (text_at s place)) at.start at.end)
