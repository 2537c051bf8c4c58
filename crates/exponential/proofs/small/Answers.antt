-- `exponential::small` meets its contract. Assumes nothing.
use native.Mathlib.Nat.{le_of_lt}
use lib.Dec.{lit<, lit≤}
use Rattle.fixed_point.proofs.Run.{total, total_fit}
use Rattle.exponential.specs.ExpM1.{over_terms}
use Rattle.exponential.proofs.Argument.{size_is}
use Rattle.exponential.proofs.SmallPart.{s_le, q_le, a_le, small_is}
use Rattle.exponential.proofs.small.Goals as goal

pub polynomial_at-a-requires : goal.polynomial_at-a-requires
polynomial_at-a-requires c = total_fit over_terms c.high_product-q.result (total over_terms) (le_of_lt c.high_product-q.type_inv) (lit≤ tt) (lit< tt)

pub under-d-requires : goal.under-d-requires
under-d-requires c = (s_le c.args.b c.shift_right-s.result c.high_product-q.result 0 c.requires (size_is c.args.b _ _ _ 1022 _ c.significand-digits.ensures c.exponent_field.ensures c.saturating_sub.ensures c.shift_right-s.ensures) c.high_product-q.ensures.value, q_le c.args.b c.shift_right-s.result c.high_product-q.result 0 c.requires (size_is c.args.b _ _ _ 1022 _ c.significand-digits.ensures c.exponent_field.ensures c.saturating_sub.ensures c.shift_right-s.ensures) c.high_product-q.ensures.value, a_le c.args.b c.shift_right-s.result c.high_product-q.result c.polynomial_at-a.result c.requires (size_is c.args.b _ _ _ 1022 _ c.significand-digits.ensures c.exponent_field.ensures c.saturating_sub.ensures c.shift_right-s.ensures) c.high_product-q.ensures.value c.polynomial_at-a.ensures)

pub returns : goal.returns
returns c = small_is c.args.b c.shift_right-s.result c.high_product-q.result c.polynomial_at-a.result c.requires (size_is c.args.b _ _ _ 1022 _ c.significand-digits.ensures c.exponent_field.ensures c.saturating_sub.ensures c.shift_right-s.ensures) c.high_product-q.ensures.value c.polynomial_at-a.ensures c.under-d.result (rw c.is_negative.ensures at c.under-d.ensures) _
