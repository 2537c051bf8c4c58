-- `exponential::significand` meets its contract. Assumes nothing.
use mathlib.Core.Path.{ap, subst, sym, ◌∙◌}
use Prim.Native.Nat.{ℕ, ◌+◌, ◌*◌, ◌/◌, ◌%◌, ◌^◌, ◌≤◌}
use native.Mathlib.Nat.{le_trans}
use native.Mathlib.Omega.{arith}
use lib.Dec.{lit<, lit≤}
use mir.Facts.{Fits-bits}
use Rattle.fixed_point.specs.Horner.{horner}
use Rattle.fixed_point.proofs.Run.{total, under_total, total_fit}
use Rattle.exponential.specs.Powers.{terms}
use Rattle.exponential.specs.Raise.{significand_of}
use Rattle.exponential.proofs.Digits.{place, room_of}
use Rattle.exponential.proofs.significand.Goals as goal

low_le : (w : ℕ) → w % 2 ^ 46 * 2 ^ 18 ≤ 2 ^ 64
low_le w = omega arith

pub polynomial_at-requires : goal.polynomial_at-requires
polynomial_at-requires c = total_fit terms (c.args.w % 2 ^ 46 * 2 ^ 18) (total terms) (low_le c.args.w) (lit≤ tt) (lit< tt)

pub overflow_add-result : goal.overflow_add-result
overflow_add-result c =
    let w = c.args.w in
    let small = subst (λ (x : ℕ). x ≤ 12820991510198240000) (sym c.polynomial_at.ensures) (le_trans (under_total terms (w % 2 ^ 46 * 2 ^ 18) (low_le w)) (lit≤ tt)) in
    Fits-bits 64 tt (room_of (w / 2 ^ 46 % 128) (place w) c.power_table-power.ensures c.high_product.ensures.value (le_trans c.high_product-rest.ensures.small small))

pub returns : goal.returns
unfolding significand_of
returns c =
    let w = c.args.w in
    let low = w % 2 ^ 46 * 2 ^ 18 in
    let p = c.power_table-power.result in
    ap (λ (x : ℕ). p + x / 128) c.high_product.ensures.value
    ∙ ap (λ (x : ℕ). p + p * x / 2 ^ 64 / 128) (c.high_product-rest.ensures.value ∙ ap (λ (x : ℕ). low * x / 2 ^ 64) c.polynomial_at.ensures)
    ∙ ap (λ (x : ℕ). x + x * (low * horner terms low / 2 ^ 64) / 2 ^ 64 / 128) c.power_table-power.ensures
