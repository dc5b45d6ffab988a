-- A refusal's number is no 0. Assumes nothing.
use Rattle.std.specs.Prelude.{Result, Ok, Err}
use Rattle.std.specs.Result.{result_unwrap_or}
use mathlib.Core.Path.{◌≡◌, refl}
use native.Mathlib.Omega.{arith}
use Rattle.table.specs.Made.{number_in}
use Rattle.table.specs.declared.Refusal.{Refusal}
use Rattle.table.specs.declared.Refusal.TheVariants.{Table, Journal, Answer, Buffer, Frontend, Sizes}

-- what was done has the number 0, and no refusal has
pub done_is : {T : Type 0} (r : Result T Refusal) (u : T) → number_in r ≡ 0 → r ≡ Ok (result_unwrap_or r u)
done_is (Ok x) u e = refl
done_is (Err Table) u e = absurd (omega arith)
done_is (Err Journal) u e = absurd (omega arith)
done_is (Err Answer) u e = absurd (omega arith)
done_is (Err Buffer) u e = absurd (omega arith)
done_is (Err Frontend) u e = absurd (omega arith)
done_is (Err Sizes) u e = absurd (omega arith)

pub refused_is : {T : Type 0} (r : Result T Refusal) (u : T) → (number_in r ≡ 0 → ⊥) → result_unwrap_or r u ≡ u
refused_is (Ok x) u e = absurd (e refl)
refused_is (Err refusal) u e = refl
