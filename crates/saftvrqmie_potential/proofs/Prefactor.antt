-- D_QM_PREFACTOR in floats is one constant. Assumes nothing.
use mathlib.Core.Path.{◌≡◌, refl}
use lib.Ieee as Ieee
use Rattle.number.specs.Arith.{floats, decimal, bits}
use Rattle.number.specs.Functions.{Answers, calls}
use Rattle.saftvrqmie_potential.specs.Potential.{prefactor}

pub prefactor_float : (E : Answers) → prefactor floats (calls floats E) ≡ bits 0x3a80_9e96_28fe_8caa
unfolding prefactor decimal Ieee.mul Ieee.div Ieee.of_bits
prefactor_float E = refl
