-- `exponent` meets its contract. Assumes nothing.
use mathlib.Core.Path.{refl, subst, sym}
use Prim.Native.Nat.{ℕ, ◌≤◌}
use lib.Dec.{T}
use lib.Ieee.{binary64, to_bits}
use Rattle.exponential.proofs.Argument.{size_is}
use Rattle.power.proofs.Exponents.{no_nan, field_le, accepted, outside_is, value_is}
use Rattle.power.proofs.exponent.Goals as goal

pub float_to_bits-b : goal.float_to_bits-b
float_to_bits-b c = no_nan c.args.y (accepted _ _ c.exponent_inside.ensures c.if-not-exponent_inside.false)

pub overflow_sub-exponent_field : goal.overflow_sub-exponent_field
overflow_sub-exponent_field c =
    let a = c.before.before in
    subst (λ (f : ℕ). f ≤ 1030) (sym c.exponent_field.ensures) (field_le a.args.y (subst T (sym a.well_formed.0.1) tt) (accepted _ _ c.exponent_inside.ensures c.if-not-exponent_inside.false))

pub returns-then-not-exponent_inside : goal.returns-then-not-exponent_inside
returns-then-not-exponent_inside c = outside_is _ _ c.exponent_inside.ensures c.if-not-exponent_inside.true

pub returns : goal.returns
returns c = rw c.is_negative.ensures (value_is _ _ c.exponent_inside.ensures _ c.if-not-exponent_inside.false (size_is (to_bits binary64 c.args.y) _ _ _ 1030 _ c.significand.ensures c.exponent_field.ensures refl c.shift_right-size.ensures))
