-- `eight_terms` meets its contract: two polynomials, and a product. Assumes nothing.
use mathlib.Core.Path.{subst, sym}
use Prim.Native.Nat.{ℕ, ◌+◌, ◌^◌, ◌≤◌, ◌<◌}
use native.Mathlib.Nat.{le_of_lt, le_trans, lt_of_le_of_lt, add-le-add}
use lib.Dec.{lit<, lit≤}
use mir.Facts.{Fits-bits}
use Rattle.fixed_point.proofs.Run.{total, under_total, total_fit}
use Rattle.binary_log.specs.Tables.{odd_terms, even_terms}
use Rattle.binary_log.proofs.eight_terms.Goals as goal

pub polynomial_at-odd-requires : goal.polynomial_at-odd-requires
polynomial_at-odd-requires c = total_fit odd_terms c.high_product-q.result (total odd_terms) (le_of_lt c.high_product-q.type_inv) (lit≤ tt) (lit< tt)

pub polynomial_at-even-requires : goal.polynomial_at-even-requires
polynomial_at-even-requires c = total_fit even_terms c.high_product-q.result (total even_terms) (le_of_lt c.high_product-q.type_inv) (lit≤ tt) (lit< tt)

-- the second product is at most the even terms' sum
sum : (x y p : ℕ) → x ≤ total odd_terms → p ≤ y → y ≤ total even_terms → x + p < 2 ^ 64
sum x y p h k l = lt_of_le_of_lt (add-le-add h (le_trans k l)) (lit< tt)

pub overflow_add-odd : goal.overflow_add-odd
overflow_add-odd c =
    let q = c.high_product-q.result in
    let h = le_of_lt c.high_product-q.type_inv in
    let odd = subst (λ (x : ℕ). x ≤ total odd_terms) (sym c.polynomial_at-odd.ensures) (under_total odd_terms q h) in
    let even = subst (λ (x : ℕ). x ≤ total even_terms) (sym c.polynomial_at-even.ensures) (under_total even_terms q h) in
    Fits-bits 64 tt (sum c.polynomial_at-odd.result c.polynomial_at-even.result c.high_product.result odd c.high_product.ensures.small even)
