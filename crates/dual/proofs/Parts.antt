-- A part of the code's struct is the pair's. Assumes nothing.
use mathlib.Core.Path.{◌≡◌, refl}
use lib.Ieee.{Float}
use Rattle.dual.specs.declared.Dual.{Dual}
use Rattle.dual.specs.Dual.{DualOf}
use Rattle.dual.specs.Value.{dual_of}

pub made_is : (a b : Float) → dual_of (record { re = a; eps = b }) ≡ record { re = a; eps = b }
unfolding dual_of
made_is a b = refl

pub re_is : (x : Dual) (y : DualOf Float) → dual_of x ≡ y → x.re ≡ y.re
unfolding dual_of
re_is x y p = rw (← p)

pub eps_is : (x : Dual) (y : DualOf Float) → dual_of x ≡ y → x.eps ≡ y.eps
unfolding dual_of
eps_is x y p = rw (← p)
