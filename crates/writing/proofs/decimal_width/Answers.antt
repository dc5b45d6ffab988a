use Rattle.writing.proofs.Numerals.{width_log}
use Rattle.writing.proofs.decimal_width.Goals as goal

pub returns : goal.returns
returns c = width_log _ _ c.ranges.v.fits (c.max.ensures) c.ilog10.ensures.power_le c.ilog10.ensures.next_power_gt c.ilog10.ensures.bound
