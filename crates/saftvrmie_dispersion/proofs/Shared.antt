-- A pair's formulas from what is worked once: of an exponent, and of alpha. Assumes nothing.
use mathlib.Core.Path.{◌≡◌, refl}
use Rattle.number.specs.Arith.{Arith}
use Rattle.number.specs.Functions.{Functions}
use Rattle.saftvrmie_dispersion.specs.Sutherland.{FluidIn, zeta_eff, a1s, i_of, j_of, a1s_b_of}
use Rattle.saftvrqmie_dispersion_terms.specs.Terms.{ilambda_from, jlambda_from}
use Rattle.saftvrmie_dispersion.specs.Terms.{BarIn, xi_of, a3_of}
use Rattle.saftvrmie_dispersion.specs.Shared.{lambda_of, zeta_eff_by, a1s_by, i_by, j_by, a1s_b_by, six_of, xi_by, a3_by}

module _ (A : Arith) where
  pub xi_is : (bar : BarIn A.Num) (alpha : A.Num) → xi_of A bar alpha ≡ xi_by A bar (six_of A alpha)
  unfolding xi_of xi_by six_of
  xi_is bar alpha = refl

  pub a3_is : (F : Functions A.Num) (zeta_x_bar alpha eps-k : A.Num) → a3_of A F zeta_x_bar alpha eps-k ≡ a3_by A F zeta_x_bar (six_of A alpha) eps-k
  unfolding a3_of a3_by six_of
  a3_is F zeta_x_bar alpha eps-k = refl

  -- in one arithmetic the integrals of b are those of the quantum model
  pub i_is : (l3 p3 : A.Num) → ilambda_from A l3 p3 ≡ i_by A A (λ x. x) p3 l3
  unfolding i_by
  i_is l3 p3 = refl

  pub j_is : (l3 l4 p4 p3 : A.Num) → jlambda_from A l3 l4 p4 p3 ≡ j_by A A (λ x. x) p4 p3 l3 l4
  unfolding j_by
  j_is l3 l4 p4 p3 = refl

module _ (A D : Arith) (plain : A.Num → D.Num) where
  pub zeta_eff_is : (zeta : D.Num) (lambda : A.Num) → zeta_eff A D plain zeta lambda ≡ zeta_eff_by A D plain zeta (lambda_of A lambda)
  unfolding zeta_eff zeta_eff_by lambda_of
  zeta_eff_is zeta lambda = refl

  pub a1s_is : (zeta_x : D.Num) (lambda : A.Num) → a1s A D plain zeta_x lambda ≡ a1s_by A D plain zeta_x (lambda_of A lambda)
  unfolding a1s zeta_eff a1s_by zeta_eff_by lambda_of
  a1s_is zeta_x lambda = refl

module _ (A D : Arith) (plain : A.Num → D.Num) (w : FluidIn D.Num) where
  pub a1s_b_is : (lambda p p3 p4 : A.Num) → a1s_b_of A D plain w lambda p p3 p4 ≡ a1s_b_by A D plain w (lambda_of A lambda) p p3 p4
  unfolding a1s_b_of a1s zeta_eff i_of j_of a1s_b_by a1s_by zeta_eff_by i_by j_by lambda_of
  a1s_b_is lambda p p3 p4 = refl
