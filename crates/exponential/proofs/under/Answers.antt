-- `exponential::under` meets its contract. Assumes nothing.
use mathlib.Core.Path.{◌≡◌, subst, sym}
use mathlib.Core.List.{[], ◌∷◌}
use Prim.Native.Nat.{ℕ, ◌+◌, ◌*◌, ◌/◌, ◌^◌, ◌≤◌, ◌<◌}
use native.Mathlib.Nat.{le_of_lt}
use native.Mathlib.Omega.{arith}
use mir.Facts.{Fits-bits}
use lib.Dec.{lit<, lit≤}
use Rattle.fixed_point.specs.Horner.{horner}
use Rattle.fixed_point.proofs.Run.{total, under_total, total_fit}
use Rattle.exponential.specs.ExpM1.{under_terms}
use Rattle.exponential.proofs.SmallPart.{less_is, more_is}
use Rattle.exponential.proofs.under.Goals as goal

pub polynomial_at-c-requires : goal.polynomial_at-c-requires
polynomial_at-c-requires c = total_fit under_terms c.args.q (total under_terms) (le_of_lt c.ranges.q.fits) (lit≤ tt) (lit< tt)

-- the polynomial is between its first coefficient and the sum of all
module _ (q c half a : ℕ) (fit : q ≤ 2 ^ 64) (is : c ≡ horner under_terms q) (le : half ≤ a) (small : a ≤ 2 ^ 63) where
  room : c + half / 2 < 2 ^ 64
  room = go c (subst (λ (x : ℕ). x ≤ total under_terms) (sym is) (under_total under_terms q fit))
    where
      go : (c : ℕ) → c ≤ 8511803295730238385 + (945755921747804265 + (8444249301319680 + 0)) → c + half / 2 < 2 ^ 64
      go c h = omega arith

  above : half / 2 ≤ c
  unfolding horner
  above = subst (λ (x : ℕ). half / 2 ≤ x) (sym is) (go (horner (945755921747804265 ∷ 8444249301319680 ∷ []) q * q / 2 ^ 64))
    where
      go : (x : ℕ) → half / 2 ≤ 8511803295730238385 + x
      go x = omega arith

pub overflow_add-result : goal.overflow_add-result
overflow_add-result c = Fits-bits 64 tt (room _ _ _ _ (le_of_lt c.ranges.q.fits) c.polynomial_at-c.ensures c.high_product-half.ensures.small c.requires.2)

pub overflow_sub-result : goal.overflow_sub-result
overflow_sub-result c = above _ _ _ _ (le_of_lt c.ranges.q.fits) c.polynomial_at-c.ensures c.high_product-half.ensures.small c.requires.2

pub returns-then-negative : goal.returns-then-negative
returns-then-negative c =
    let a = c.before.before.before in
    more_is a.args.s a.args.q a.args.a c.polynomial_at-c.result c.high_product-half.result a.requires.0 a.requires.1 a.requires.2 c.polynomial_at-c.ensures c.high_product-half.ensures.value _ c.if-negative.true

pub returns-else-negative : goal.returns-else-negative
returns-else-negative c =
    let a = c.before.before.before in
    less_is a.args.s a.args.q a.args.a c.polynomial_at-c.result c.high_product-half.result a.requires.0 a.requires.1 a.requires.2 c.polynomial_at-c.ensures c.high_product-half.ensures.value _ c.if-negative.false
