use native.Mathlib.Omega.{arith}
use mathlib.Core.Path.{◌∙◌}
use Rattle.tuning.specs.Found.{hundredths}
use Rattle.tuning.proofs.Frequencies.{megahertz_small, hundredths_small, frequency_whole, frequency_half, frequency_none, frequency_by}
use Rattle.tuning.proofs.frequency.Goals as goal

pub overflow_mul-whole : goal.overflow_mul-whole
overflow_mul-whole c = let s = c.args.s.now in
    omega (arith, megahertz_small s c.megahertz.ensures c.in_ok-whole.was)

pub overflow_add-whole : goal.overflow_add-whole
overflow_add-whole c = let s = c.args.s.now in
    omega (arith, megahertz_small s c.megahertz.ensures c.in_ok-whole.was, hundredths_small s c.hundredths.ensures c.in_ok-rest.was)

pub returns : goal.returns
returns c = frequency_whole _ _ c.megahertz.ensures c.hundredths.ensures c.in_ok-whole.was c.in_ok-rest.was c.in_band.ensures
    ∙ frequency_by _

pub returns-in_err-rest : goal.returns-in_err-rest
returns-in_err-rest c = c.from_residual-in_err-rest.ensures ∙ frequency_half _ _ c.megahertz.ensures c.hundredths.ensures c.in_ok-whole.was c.in_err-rest.was
    ∙ frequency_by _

pub returns-in_err-whole : goal.returns-in_err-whole
returns-in_err-whole c = c.from_residual.ensures ∙ frequency_none _ (hundredths c.args.s.now) c.megahertz.ensures c.in_err-whole.was ∙ frequency_by _
