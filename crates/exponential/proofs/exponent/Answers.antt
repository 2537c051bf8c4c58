-- `exponential::exponent` meets its contract. Assumes nothing.
use mathlib.Core.Path.{refl, subst, sym}
use lib.Dec.{T}
use lib.Ieee.{binary64, to_bits}
use Rattle.exponential.specs.Exp.{binary_exponent_of}
use Rattle.exponential.proofs.Argument.{no_nan, field_le, binary_le}
use Rattle.exponential.proofs.exponent.Goals as goal

pub float_to_bits-x : goal.float_to_bits-x
float_to_bits-x c = no_nan c.args.x c.requires

pub exponent_bits-requires : goal.exponent_bits-requires
exponent_bits-requires c =
    let f = subst T (sym c.well_formed.0.1) tt in
    (field_le c.args.x f c.requires (to_bits binary64 c.args.x) refl, binary_le c.args.x f c.requires (to_bits binary64 c.args.x) refl)

pub returns : goal.returns
unfolding binary_exponent_of
returns c =
    record { value = c.exponent_bits.ensures.value; range = c.exponent_bits.ensures.range }
