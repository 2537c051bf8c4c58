-- The library's absolute value is document 01's. Assumes nothing.
use Rattle.std.proofs.Common.{◌≡◌, Bool, false, refl}
use Rattle.std.specs.Float as Library
use lib.Ieee.{Float, nan, inf, fin}
use Rattle.number.specs.Neighbour.{absolute}

pub cleared : (x : Float) → Library.float_with_sign false x ≡ absolute x
unfolding absolute Library.float_with_sign
cleared nan = refl
cleared (inf s) = refl
cleared (fin s m e) = refl
