-- `log_base` meets its contract. Assumes nothing.
use mathlib.Core.Path.{ap, refl, subst, sym, ◌∙◌}
use Prim.Native.Nat.{ℕ, ◌+◌, ◌-◌, ◌*◌, ◌/◌, ◌^◌, ◌≤◌, ◌<◌}
use native.Mathlib.Omega.{arith}
use mir.Facts.{Fits-bits}
use lib.Dec.{T}
use lib.Ieee.{binary64, to_bits}
use Rattle.binary_log.specs.BinaryLog.{significand_log}
use Rattle.binary_log.proofs.Base.{base_no_nan, base_bits, accepted, outside_is, up_is, down_is}
use Rattle.binary_log.proofs.log_base.Goals as goal

five : (b : ℕ) → b ≤ 1028 * 2 ^ 52 → (b / 2 ^ 52 - 1023) * 2 ^ 61 < 2 ^ 64
five b h = omega arith

sum : (b g : ℕ) → b ≤ 1028 * 2 ^ 52 → g ≤ 2 ^ 61 → (b / 2 ^ 52 - 1023) * 2 ^ 61 + g < 2 ^ 64
sum b g h k = omega arith

five_down : (b : ℕ) → 1018 * 2 ^ 52 ≤ b → (1023 - b / 2 ^ 52) * 2 ^ 61 < 2 ^ 64
five_down b h = omega arith

pub float_to_bits-b : goal.float_to_bits-b
float_to_bits-b c = base_no_nan c.args.x (accepted _ _ c.base_inside.ensures c.if-not-base_inside.false)

pub overflow_mul-result : goal.overflow_mul-result
overflow_mul-result c =
    let a = c.before.before.before.before in
    let i = base_bits a.args.x (subst T (sym a.well_formed.0.1) tt) (accepted _ _ c.base_inside.ensures c.if-not-base_inside.false) in
    Fits-bits 64 tt (five (to_bits binary64 a.args.x) i.1)

pub overflow_add-result : goal.overflow_add-result
overflow_add-result c =
    let a = c.before.before.before.before in
    let i = base_bits a.args.x (subst T (sym a.well_formed.0.1) tt) (accepted _ _ c.base_inside.ensures c.if-not-base_inside.false) in
    Fits-bits 64 tt (sum (to_bits binary64 a.args.x) c.significand_log-log.result i.1 c.significand_log-log.ensures.small)

pub overflow_mul-result-else-field-ge1023 : goal.overflow_mul-result-else-field-ge1023
overflow_mul-result-else-field-ge1023 c =
    let a = c.before.before.before.before in
    let i = base_bits a.args.x (subst T (sym a.well_formed.0.1) tt) (accepted _ _ c.base_inside.ensures c.if-not-base_inside.false) in
    Fits-bits 64 tt (five_down (to_bits binary64 a.args.x) i.0)

pub returns-then-field-ge1023 : goal.returns-then-field-ge1023
returns-then-field-ge1023 c = up_is _ _ c.base_inside.ensures _ _ refl (c.significand_log-log.ensures.value ∙ ap significand_log c.significand.ensures) c.if-not-base_inside.false c.if-field-ge1023.true

pub returns-else-field-ge1023 : goal.returns-else-field-ge1023
returns-else-field-ge1023 c = down_is _ _ c.base_inside.ensures _ _ refl (c.significand_log-log.ensures.value ∙ ap significand_log c.significand.ensures) c.if-not-base_inside.false c.if-field-ge1023.false

pub returns-then-not-base_inside : goal.returns-then-not-base_inside
returns-then-not-base_inside c = outside_is _ _ c.base_inside.ensures c.if-not-base_inside.true
