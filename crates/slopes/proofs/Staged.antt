-- The power with its slope in stages is the power, refusals included. Assumes nothing.
use lib.Ieee.{Float}
use mathlib.Core.Path.{◌≡◌, refl}
use mathlib.Core.Bool.{Bool, true, false, ◌&&◌, cond}
use Rattle.number.specs.Ans.{held, refused, ◌>>=◌, demand}
use Rattle.number.specs.Domain.{base_inside, exponent_inside}
use Rattle.elementary.specs.Port.{port}
use Rattle.binary_log.specs.BinaryLog.{log_of}
use Rattle.power.specs.Power.{powf_of}
use Rattle.dual.specs.Dual.{DualOf}
use Rattle.slopes.specs.Rules.{real_power}
use Rattle.slopes.specs.Staged.{lower, slope_inside, slope_exponent_of, raised_of}

module _ (x : DualOf Float) (e : Float) where
  pub base_outside : base_inside x.re ≡ false → real_power port x e ≡ refused 6
  unfolding real_power powf_of demand ◌>>=◌
  base_outside h = rw h

  module _ (h : base_inside x.re ≡ true) where
    by_exponents : (s t : Bool) → exponent_inside e ≡ s → exponent_inside (lower e) ≡ t → real_power port x e ≡ cond (s && t) (held (raised_of (log_of x.re) x.eps (slope_exponent_of e))) (refused 6)
    unfolding real_power powf_of demand ◌>>=◌ raised_of slope_exponent_of
    by_exponents true true p q = rw (h, p, q)
    by_exponents true false p q = rw (h, p, q)
    by_exponents false t p q = rw (h, p)

    -- held where both exponents are inside
    pub power_tested : real_power port x e ≡ cond (slope_inside e) (held (raised_of (log_of x.re) x.eps (slope_exponent_of e))) (refused 6)
    unfolding slope_inside
    power_tested = by_exponents (exponent_inside e) (exponent_inside (lower e)) refl refl

  -- the same by the parts, for the code
  pub power_held : base_inside x.re ≡ true → slope_inside e ≡ true → real_power port x e ≡ held (raised_of (log_of x.re) x.eps (slope_exponent_of e))
  power_held h k = rw k at (power_tested h)
