-- Where the digits of a number stand that was read at a place, for any base, count of digits and limit. Assumes nothing.
use mathlib.Core.Path.{◌≡◌, ap, sym, ◌∙◌}
use mathlib.Core.Bool.{Bool}
use mathlib.Core.List.{List, []}
use Prim.Native.Nat.{ℕ, ◌+◌, ◌≤◌, ◌<◌}
use mathlib.Core.Logic.{◌⊎◌, inl, inr}
use native.Mathlib.Omega.{arith}
use lib.ListN.{length}
use Rattle.scan.specs.Found.{text_at}
use Rattle.scan.specs.Lists.{part}
use Rattle.scan.specs.declared.Span.{Span}
use Rattle.scan.proofs.Parts.{text_inside, text_outside, text_none}
use Rattle.digits.specs.Reading.{read_in}
use Rattle.digits.specs.Standing.{Stands}
use Rattle.scan.proofs.Options.{by_some}
use Rattle.std.specs.Bool.{then_some}
use Rattle.std.specs.Prelude.{Option, None, is_some}

module _ (base most limit : ℕ) (s : List ℕ) (place : Span) where
  empty : text_at s place ≡ [] → Stands base most limit s place None
  empty e = record { is = rw e; holds = rw e }

  -- there is no such place
  pub stands_outside : (place.end < place.start) ⊎ (length s < place.end) → Stands base most limit s place None
  stands_outside (inl h) = empty (text_none s place (omega arith))
  stands_outside (inr h) = empty (text_outside s place h)

  -- or x stands there
  module _ {x : List ℕ} {l : ℕ} (h : (place.start ≤ place.end) × (place.end ≤ length s) × (x ≡ part place.start place.end s) × (length x + place.start ≡ l)) where
    here : text_at s place ≡ x
    here = text_inside s place h.0 h.1 ∙ sym h.2

    pub stands_inside : {r : Option ℕ} {t : Bool} {o : Option Span} → r ≡ read_in base most limit x → t ≡ is_some r → o ≡ then_some t place → Stands base most limit s place o
    stands_inside {r} {t} e q w =
        let read : is_some (read_in base most limit (text_at s place)) ≡ t = ap (λ y. is_some (read_in base most limit y)) here ∙ ap is_some (sym e) ∙ sym q in
        record {
          is = rw read w;
          holds = rw w (by_some _ _ t place (λ y. rw (read ∙ y) (record { order = h.0; within = h.1; is = sym (text_inside s place h.0 h.1) })) (λ n. rw (read ∙ n)));
        }
