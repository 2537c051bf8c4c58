-- `logarithm::core` meets its contract. Assumes nothing.
use mathlib.Core.Path.{sym, ap, ◌∙◌, subst}
use Prim.Native.Nat.{ℕ, ◌*◌, ◌/◌, ◌^◌, ◌≤◌}
use native.Mathlib.Nat.{le_trans}
use lib.Dec.{lit≤}
use Rattle.fixed_point.specs.Horner.{horner}
use Rattle.fixed_point.specs.Quotient.{quotient}
use Rattle.fixed_point.proofs.Run.{small_fit}
use Rattle.logarithm.specs.Logarithm.{coefficients, core}
use Rattle.logarithm.proofs.CoreBounds.{q_small}
use Rattle.logarithm.proofs.Ranges.{z_small}
use Rattle.logarithm.proofs.core.Goals as goal

pub polynomial_at-b-requires : goal.polynomial_at-b-requires
polynomial_at-b-requires c =
    let a = c.args in
    let p = c.requires in
    small_fit coefficients c.high_product-q.result
    (subst (λ (x : ℕ). x ≤ 2 ^ 61) (sym c.high_product-q.ensures.value)
    (subst (λ (x : ℕ). x / 2 ^ a.sh * (x / 2 ^ a.sh) / 2 ^ 64 ≤ 2 ^ 61) (sym c.quot-zn.ensures)
    (le_trans (q_small (quotient a.n a.d / 2 ^ a.sh) (z_small a.n a.d a.sh p.0 p.1 p.2 p.3)) (lit≤ tt)))) tt

pub returns : goal.returns
unfolding core
returns c =
    let a = c.args in
    c.high_product.ensures.value
    ∙ ap (λ (x : ℕ). c.quot-zn.result * x / 2 ^ 64) (c.polynomial_at-b.ensures ∙ ap (horner coefficients) c.high_product-q.ensures.value)
    ∙ ap (λ (x : ℕ). x * horner coefficients (x / 2 ^ a.sh * (x / 2 ^ a.sh) / 2 ^ 64) / 2 ^ 64) c.quot-zn.ensures
