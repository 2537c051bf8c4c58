-- `dual_num::DualNum::frac_pi_6` meets its contract: its three floats are the constant's. Assumes nothing.
use mathlib.Core.Path.{refl}
use lib.Ieee.{of_bits, to_bits, fits}
use Rattle.number.specs.Arith.{frac_pi_6}
use Rattle.number.specs.Neighbour.{step_up, step_down, next_up, next_down}
use Rattle.interval.specs.Interval as Interval
use Rattle.enclosure.specs.Constants.{below, above}
use Rattle.enclosure.specs.Enclosure.{constant_e}
use Rattle.enclosure.specs.Enclosed.{enclosed}
use Rattle.dual_num.proofs.DualNum.frac_pi_6.Goals as goal

pub returns : goal.returns
unfolding enclosed constant_e below above next_up next_down step_up step_down to_bits of_bits fits Interval.point
returns g c w = c.constant.ensures w frac_pi_6 (record { is = refl; sound = refl })
