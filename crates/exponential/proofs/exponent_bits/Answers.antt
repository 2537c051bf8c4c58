-- `exponential::exponent_bits` meets its contract. Assumes nothing.
use mathlib.Core.Path.{◌≡◌, ap, subst, sym, ◌∙◌}
use Prim.Native.Nat.{ℕ, ◌*◌, ◌/◌, ◌^◌, ◌≤◌}
use Rattle.fixed_point.proofs.Sign.{set, not_set}
use Rattle.exponential.specs.Exp.{binary_of}
use Rattle.exponential.proofs.Argument.{size_is, negative_at, positive_at, down_range, up_range}
use Rattle.exponential.proofs.exponent_bits.Goals as goal

pub returns-then-is_negative : goal.returns-then-is_negative
returns-then-is_negative c =
    let b = c.args.b in
    let v = c.high_product-v.result in
    let is : v ≡ binary_of b = c.high_product-v.ensures.value ∙ ap (λ (y : ℕ). y * 13306513097844322491 / 2 ^ 64) (size_is b _ _ _ 1032 _ c.significand-digits.ensures c.exponent_field.ensures c.saturating_sub.ensures c.shift_right-size.ensures) in
    let le : v ≤ 1010 * 2 ^ 53 = subst (λ (y : ℕ). y ≤ 1010 * 2 ^ 53) (sym is) c.requires.1 in
    record { value = negative_at b v is (set _ _ c.is_negative.ensures c.if-is_negative.true); range = down_range v le }

pub returns-else-is_negative : goal.returns-else-is_negative
returns-else-is_negative c =
    let b = c.args.b in
    let v = c.high_product-v.result in
    let is : v ≡ binary_of b = c.high_product-v.ensures.value ∙ ap (λ (y : ℕ). y * 13306513097844322491 / 2 ^ 64) (size_is b _ _ _ 1032 _ c.significand-digits.ensures c.exponent_field.ensures c.saturating_sub.ensures c.shift_right-size.ensures) in
    let le : v ≤ 1010 * 2 ^ 53 = subst (λ (y : ℕ). y ≤ 1010 * 2 ^ 53) (sym is) c.requires.1 in
    record { value = positive_at b v is (not_set _ _ c.is_negative.ensures c.if-is_negative.false); range = up_range v le }
