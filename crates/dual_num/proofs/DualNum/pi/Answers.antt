-- `dual_num::DualNum::pi` meets its contract: its three floats are the constant's. Assumes nothing.
use mathlib.Core.Path.{refl}
use lib.Ieee.{of_bits, to_bits, fits}
use Rattle.number.specs.Arith.{pi}
use Rattle.number.specs.Neighbour.{step_up, step_down, next_up, next_down}
use Rattle.interval.specs.Interval as Interval
use Rattle.enclosure.specs.Constants.{below, above}
use Rattle.enclosure.specs.Enclosure.{constant_e}
use Rattle.enclosure.specs.Enclosed.{enclosed}
use Rattle.dual_num.proofs.DualNum.pi.Goals as goal

pub returns : goal.returns
unfolding enclosed constant_e below above next_up next_down step_up step_down to_bits of_bits fits Interval.point
returns g c w = c.constant.ensures w pi (record { is = refl; sound = refl })
