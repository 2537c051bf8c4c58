-- A part of the code's struct is the pair's. Assumes nothing.
use mathlib.Core.Path.{◌≡◌, refl}
use Rattle.enclosure.specs.declared.Enclosure.{Enclosure}
use Rattle.enclosure_dual.specs.declared.EnclosureDual.{EnclosureDual}
use Rattle.dual.specs.Dual.{DualOf}
use Rattle.enclosure_dual.specs.Value.{dual_of}

pub made_is : (a b : Enclosure) → dual_of (record { re = a; eps = b }) ≡ record { re = a; eps = b }
unfolding dual_of
made_is a b = refl

pub re_is : (x : EnclosureDual) (y : DualOf Enclosure) → dual_of x ≡ y → x.re ≡ y.re
unfolding dual_of
re_is x y p = rw (← p)

pub eps_is : (x : EnclosureDual) (y : DualOf Enclosure) → dual_of x ≡ y → x.eps ≡ y.eps
unfolding dual_of
eps_is x y p = rw (← p)
