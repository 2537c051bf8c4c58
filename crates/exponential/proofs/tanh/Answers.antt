-- `exponential::tanh` meets its contract. Assumes nothing.
use mathlib.Core.Path.{refl, subst, sym}
use Prim.Native.Nat.{◌+◌, ◌^◌}
use lib.Dec.{T}
use lib.Ieee.{binary64, to_bits}
use lib.Ieee.Bits.{to_bits-lt}
use mir.Facts.{Fits-bits}
use Rattle.exponential.specs.Exp.{exponent_at}
use Rattle.exponential.proofs.TanhPart.{tanh_accepted, tanh_no_nan, tanh_bits_le, twice_low, twice_fits, twice_field_le, twice_binary_le, tanh_outside, tanh_tiny, tanh_away}
use Rattle.exponential.proofs.TanhLarge.{large_field, tiny_field, away_field}
use Rattle.exponential.proofs.tanh.Goals as goal

pub returns-then-not-tanh_inside : goal.returns-then-not-tanh_inside
returns-then-not-tanh_inside c = tanh_outside _ _ c.tanh_inside.ensures c.if-not-tanh_inside.true

pub float_to_bits-b : goal.float_to_bits-b
float_to_bits-b c = tanh_no_nan c.args.x (tanh_accepted c.args.x c.tanh_inside.result c.tanh_inside.ensures c.if-not-tanh_inside.false)

pub tanh_large-requires : goal.tanh_large-requires
tanh_large-requires c =
    let a = c.before.before.before in
    let x = a.args.x in
    let u = tanh_bits_le x (subst T (sym a.well_formed.0.1) tt) (tanh_accepted x c.tanh_inside.result c.tanh_inside.ensures c.if-not-tanh_inside.false) in
    (c.if-top-ge4109.true, twice_low (to_bits binary64 x) u)

pub overflow_add-b : goal.overflow_add-b
overflow_add-b c =
    let a = c.before.before.before.before in
    let x = a.args.x in
    let f = subst T (sym a.well_formed.0.1) tt in
    Fits-bits 64 tt (twice_fits (to_bits binary64 x) (tanh_bits_le x f (tanh_accepted x c.tanh_inside.result c.tanh_inside.ensures c.if-not-tanh_inside.false)) (to_bits-lt binary64 x f))

pub exponent_bits-requires : goal.exponent_bits-requires
exponent_bits-requires c =
    let a = c.before.before.before.before in
    let x = a.args.x in
    let b = to_bits binary64 x in
    let u = tanh_bits_le x (subst T (sym a.well_formed.0.1) tt) (tanh_accepted x c.tanh_inside.result c.tanh_inside.ensures c.if-not-tanh_inside.false) in
    let l = away_field b c.if-top-lt4024.false in
    (twice_field_le b u l, twice_binary_le b u l)

pub returns-then-top-ge4109 : goal.returns-then-top-ge4109
returns-then-top-ge4109 c =
    let x = c.args.x in
    tanh_away x _ c.tanh_inside.ensures (exponent_at (to_bits binary64 x + 2 ^ 52)) c.tanh_large.result c.if-not-tanh_inside.false (large_field (to_bits binary64 x) c.if-top-ge4109.true) refl c.tanh_large.ensures

pub returns-then-top-lt4024 : goal.returns-then-top-lt4024
returns-then-top-lt4024 c = tanh_tiny _ _ c.tanh_inside.ensures c.if-not-tanh_inside.false (tiny_field _ c.if-top-lt4024.true)

pub returns-else-top-lt4024 : goal.returns-else-top-lt4024
returns-else-top-lt4024 c = tanh_away _ _ c.tanh_inside.ensures c.exponent_bits.result c.tanh_ratio.result c.if-not-tanh_inside.false (away_field _ c.if-top-lt4024.false) c.exponent_bits.ensures.value c.tanh_ratio.ensures
