-- A real power with its slope in stages, for the contracts of helpers alone: an exponent and the one below it, and both powers by the base's logarithm. That this is the power, bits and refusals, is shown in proofs/Staged.
use Rattle.std.specs.Prelude.{Float, Bool, false, ◌&&◌}
use Rattle.number.specs.Arith.{floats, decimal}
use Rattle.number.specs.Domain.{exponent_inside}
use Rattle.binary_log.specs.declared.Log.{Log}
use Rattle.power.specs.Power.{exponent_of, power_of}
use Rattle.dual.specs.Dual.{DualOf}
use Rattle.slopes.specs.declared.SlopeExponent.{SlopeExponent}

-- e - 1
abbrev pub lower : Float → Float
lower e = floats.sub e (decimal false 1 0)

-- both exponents lie within the power's domain
unfoldable pub slope_inside : Float → Bool
slope_inside e = exponent_inside e && exponent_inside (lower e)

unfoldable pub slope_exponent_of : Float → SlopeExponent
slope_exponent_of e = record { e = e; at = exponent_of e; below = exponent_of (lower e) }

-- the power of a base by its logarithm, and by the base's slope
unfoldable pub raised_of : Log → Float → SlopeExponent → DualOf Float
raised_of l s x = record { re = power_of l x.at; eps = floats.mul (floats.mul x.e (power_of l x.below)) s }
