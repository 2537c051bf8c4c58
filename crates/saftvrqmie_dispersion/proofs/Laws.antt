-- The turns of the second order, over any arithmetic. Assumes nothing.
use Prim.Native.Nat.{ℕ}
use lib.Dec.{eqb}
use borrow.Author.Tests.{eqb-true}
use mathlib.Core.Path.{◌≡◌, refl, ap, sym}
use mathlib.Core.Bool.{Bool, true, false, not}
use Rattle.number.specs.Arith.{Arith}
use Rattle.saftvrqmie_parameters.specs.declared.FeynmanHibbsOrder.{FeynmanHibbsOrder}
use Rattle.saftvrqmie_potential.specs.Potential.{second_order}
use Rattle.saftvrqmie_dispersion.specs.declared.perturbation.Factors.{Factors}
use Rattle.saftvrqmie_dispersion.specs.Perturbation.{QuantumIn, factors_by, taken_each, factors0, factors1, factors2, factors2_more, factors3, factors4, factors}

-- what is a D already is kept where it is taken as one
pub each_kept : {D N : Type 0} (of : D → N) (taken : N → N) → ((x : D) → taken (of x) ≡ of x) → (h : Factors D) → factors_by of h ≡ taken_each taken (factors_by of h)
each_kept of taken kept h = rw (kept h.afac, kept h.rfac, kept h.arfac)

not_equal : (a b : ℕ) → (a ≡ b → ⊥) → eqb a b ≡ false
not_equal a b h = go (eqb a b) refl
  where
    go : (t : Bool) → eqb a b ≡ t → eqb a b ≡ false
    go true e = absurd (h (eqb-true a b e))
    go false e = e

-- a number that stands for a Bool
pub stands_true : (n : ℕ) → (n ≡ 0 → ⊥) → true ≡ not (eqb n 0)
stands_true n h = sym (ap not (not_equal n 0 h))

pub stands_false : (n : ℕ) → n ≡ 0 → false ≡ not (eqb n 0)
stands_false n h = sym (ap (λ k. not (eqb k 0)) h)

-- ---- the factors of each turn
module _ (A : Arith) (g : QuantumIn A.Num) (o : FeynmanHibbsOrder) (q : ℕ) where
  pub turn_0 : q ≡ 0 → factors0 A ≡ factors A g o q
  unfolding factors
  turn_0 h = rw h

  pub turn_1 : q ≡ 1 → factors1 A g ≡ factors A g o q
  unfolding factors
  turn_1 h = rw h

  pub turn_2_more : q ≡ 2 → second_order o ≡ true → factors2_more A g (factors2 A g) ≡ factors A g o q
  unfolding factors
  turn_2_more h k = rw (h, k)

  pub turn_2 : q ≡ 2 → second_order o ≡ false → factors2 A g ≡ factors A g o q
  unfolding factors
  turn_2 h k = rw (h, k)

  pub turn_3 : q ≡ 3 → factors3 A g ≡ factors A g o q
  unfolding factors
  turn_3 h = rw h

  pub turn_4 : (q ≡ 0 → ⊥) → (q ≡ 1 → ⊥) → (q ≡ 2 → ⊥) → (q ≡ 3 → ⊥) → factors4 A g ≡ factors A g o q
  unfolding factors
  turn_4 h0 h1 h2 h3 = rw (not_equal q 0 h0, not_equal q 1 h1, not_equal q 2 h2, not_equal q 3 h3)
