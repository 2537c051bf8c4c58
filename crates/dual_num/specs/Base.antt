-- The power of a base whose logarithm is worked once, in each run: as a function of the exponent it is the run's power (contracts of `base`).
use Rattle.std.specs.Prelude.{Float, false, ◌&&◌, cond}
use Rattle.number.specs.Ans.{Ans, held, refused, ◌>>=◌, demand}
use Rattle.number.specs.Functions.{answered₂}
use Rattle.enclosure.specs.declared.Enclosure.{Enclosure}
use Rattle.enclosure.specs.Enclosure.{enclosures}
use Rattle.number.specs.Domain.{base_inside, exponent_inside}
use Rattle.binary_log.specs.BinaryLog.{log_of}
use Rattle.power.specs.Power as Power
use Rattle.dual.specs.declared.Dual.{Dual}
use Rattle.slopes.specs.Mixed.{Mixed, plain, sloped}
use Rattle.slopes.specs.Staged.{slope_inside, slope_exponent_of, raised_of}
use Rattle.dual_num.specs.declared.FloatBase.{FloatBase}
use Rattle.dual_num.specs.declared.EnclosureBase.{EnclosureBase}
use Rattle.dual_num.specs.declared.DualBase.{DualBase}
use Rattle.dual_num.specs.declared.FloatExponent.{FloatExponent}
use Rattle.dual_num.specs.declared.EnclosureExponent.{EnclosureExponent}
use Rattle.dual_num.specs.declared.DualExponent.{DualExponent}

-- the logarithm holds where the base is inside the power's domain
abbrev pub float_base_of : Float → FloatBase
float_base_of x = record { log = log_of x; inside = base_inside x }

abbrev pub enclosure_base_of : Enclosure → EnclosureBase
enclosure_base_of x = record { x = x; base = float_base_of x.value }

abbrev pub dual_base_of : Dual → DualBase
dual_base_of x = record { base = float_base_of x.re; slope = x.eps }

unfoldable pub float_power : FloatBase → Float → Ans Float
float_power b y = demand 6 b.inside >>= λ _. Power.powf_at b.log y

unfoldable pub enclosure_power : EnclosureBase → Enclosure → Ans Enclosure
enclosure_power b y = answered₂ enclosures (float_power b.base y.value) b.x y

-- an exponent is plain
unfoldable pub dual_power : DualBase → Mixed → Ans Mixed
dual_power b (plain y) = demand 6 b.base.inside >>= λ _. demand 6 (slope_inside y) >>= λ _. held (sloped (raised_of b.base.log b.slope (slope_exponent_of y)))
dual_power b (sloped y) = refused 6

-- the same by an exponent in fixed point: what a power is where base and exponent are inside, and the power
abbrev pub float_exponent_of : Float → FloatExponent
float_exponent_of y = record { fixed = Power.exponent_of y; inside = exponent_inside y }

abbrev pub enclosure_exponent_of : Enclosure → EnclosureExponent
enclosure_exponent_of y = record { x = y; at = float_exponent_of y.value }

-- with that of its slope; no power has an exponent that carries a slope
abbrev pub dual_exponent_of : Mixed → DualExponent
dual_exponent_of (plain y) = record { fixed = slope_exponent_of y; inside = slope_inside y }
dual_exponent_of (sloped y) = record { fixed = slope_exponent_of y.re; inside = false }

abbrev pub float_raised : FloatBase → FloatExponent → Float
float_raised b n = Power.power_of b.log n.fixed

unfoldable pub float_power_by : FloatBase → FloatExponent → Ans Float
float_power_by b n = cond (b.inside && n.inside) (held (float_raised b n)) (refused 6)

abbrev pub enclosure_raised : EnclosureBase → EnclosureExponent → Enclosure
enclosure_raised b n = enclosures.after b.x (enclosures.after n.x (enclosures.lit (float_raised b.base n.at)))

unfoldable pub enclosure_power_by : EnclosureBase → EnclosureExponent → Ans Enclosure
enclosure_power_by b n = answered₂ enclosures (float_power_by b.base n.at) b.x n.x

abbrev pub dual_raised : DualBase → DualExponent → Mixed
dual_raised b n = sloped (raised_of b.base.log b.slope n.fixed)

unfoldable pub dual_power_by : DualBase → DualExponent → Ans Mixed
dual_power_by b n = cond (b.base.inside && n.inside) (held (dual_raised b n)) (refused 6)
