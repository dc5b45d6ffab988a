use native.Mathlib.Omega.{arith}
use Rattle.tuning.proofs.Frequencies.{digit_small}
use Rattle.tuning.proofs.tenths.Goals as goal

pub map-requires : goal.map-requires
map-requires c = λ x e _ _. record { fits = omega (arith, digit_small _ c.number.ensures e) }
