-- Which record a SETUP writes that opens a new stream, of its bytes s, on a table that was swept. It stands apart from `Records`, which says it of what is asked
-- and has the other records, so that a wrong one there is refused where it stands. Assumes nothing.
use mathlib.Core.Path.{◌≡◌, sym, subst}
use mathlib.Core.Bool.{true, false}
use mathlib.Core.List.{List, [], ◌∷◌}
use Prim.Native.Nat.{ℕ}
use Rattle.aim.specs.declared.Method.TheVariants.{Setup}
use Rattle.reader.specs.Request.{method_of}
use Rattle.table.specs.declared.SatBox.{SatBox}
use Rattle.steps.specs.Sights.{Asked, asked_of, lists_of, sight_of}
use Rattle.steps.specs.Steps.{is_passed, is_named}
use Rattle.serving.specs.Serving.{Serving, client_of, answered}
use Rattle.closings.proofs.Keeping.{Whole}
use Rattle.promises.proofs.Passing.{feed}
use Rattle.promises.proofs.Records.{opens_as, opened_records, alone, alone_passed}

module _ (s : List ℕ) (address draw : ℕ) (t : SatBox) where
  abbrev asks : Asked
  asks = asked_of t.settings.frontends s

  module _ (passed : is_passed (answered s address draw t).case ≡ true) where
    pub answered_opened : method_of s ≡ Setup → is_named (sight_of t asks) ≡ false → asks.stream ≡ 0 → Whole t
        → (answered s address draw t).did.records ≡ opens_as 1 (answered s address draw t).session (feed t asks) t ∷ []
    answered_opened setup stranger none w =
        subst (λ (x : Serving). x.did.records ≡ opens_as 1 x.session (feed t asks) t ∷ []) (sym (alone s address draw t passed stranger))
        (opened_records t asks (lists_of s) (client_of address draw asks) (alone_passed s address draw t passed stranger) setup stranger none w)
