-- One state worked through: the claim is not empty, and the slopes there are not zero. Assumes nothing.
use Prim.Native.Nat.{◌*◌}
use mathlib.Core.Path.{refl}
use mathlib.Core.Bool.{false}
use mathlib.Core.List.{List, [], ◌∷◌}
use lib.Ieee as Ieee
use lib.Ieee.{Float}
use lib.ListN.{replicate}
use Rattle.number.specs.Ans.{held, ◌>>=◌}
use Rattle.number.specs.Arith.{decimal, nearest}
use Rattle.number.specs.Frac.{val_f}
use Rattle.number.specs.Functions.{Answers, answered, answered₂}
use Rattle.number.specs.Power.{digits, pow_digits, pow_up}
use Rattle.number.specs.Walk.{turns, walk}
use Rattle.sizes.specs.Sizes.{side, sheet}
use Rattle.number.proofs.Frac.{val_f_pos}
use Rattle.enclosure.specs.Exact.{exactly, chosen, add_x, sub_x, mul_x, div_x, neg_x, after_x, pow_x, down_x}
use Rattle.dual.specs.Dual.{plain_d, add_d, sub_d, neg_d, mul_d, div_d, pow_d, down_d}
use Rattle.mie_parameters.specs.Places.{in_places}
use Rattle.mie_parameters.specs.Sums.{weighted, orders_sum, f_from}
use Rattle.saftvrmie_parameters.specs.declared.SaftVRMiePars.{SaftVRMiePars}
use Rattle.saftvrmie_dispersion.specs.Sutherland.{k_hs, fluid_of, c_row, zeta_eff, a1s, i_of, j_of, b_of, a1s_b_of, a1s_b}
use Rattle.saftvrmie_dispersion.specs.Terms.{f, bar_of, xi_of, a3_of, x0_of, add_pure, five, pref_of, a1_of, a2_of, term_orders_of}
use Rattle.saftvrmie_dispersion.specs.Chain.{k_of, rho_dual, zeta_dual, fluid_dual, g1_of, g2_of, link_pref, add_link, g_hs, gamma_of, ln_g_mie, link_of, chain_pure}
use Rattle.saftvrmie_energies.specs.Properties.{total, xs_of, d_ij, d3_ij, s3_ij, zeta_turn, zeta_row, zeta_sum, after_lower, properties}
use Rattle.saftvrmie_energies.specs.Dispersion.{pair_row, chain_row, chain_rows, dispersion_chain}
use Rattle.saftvrmie_energies.specs.Energies.{energy_run}
use Rattle.chain_derivatives.specs.Chain.{Example}

abbrev one : Float
one = decimal false 1 0

-- every call is answered by 1: each power of x0 is 1 at a diameter of sigma
abbrev ones : Answers
ones = record { sqrt = λ x. held one; ln = λ x. held one; ln1p = λ x. held one; exp = λ x. held one; expm1 = λ x. held one; tanh = λ x. held one; powf = λ x y. held one }

-- one component of two segments, with exponents 12 and 6; sigma, epsilon_k, c and alpha are 1
abbrev fluid : SaftVRMiePars
fluid =
    record {
      count = 1;
      m = replicate side (decimal false 2 0);
      sigma = replicate side one;
      epsilon_k = replicate side one;
      lr = replicate side (decimal false 12 0);
      la = replicate side (decimal false 6 0);
      sheets = replicate (6 * sheet) one;
    }

abbrev alone : List Float
alone = one ∷ []

-- at temperature 1, alone, with density and diameter 1; the constants are the Rust's floats
pub example : Example
unfolding energy_run dispersion_chain properties total weighted turns xs_of in_places d_ij d3_ij s3_ij zeta_sum zeta_row zeta_turn after_lower k_of chain_rows chain_row pair_row walk chain_pure add_pure add_link link_of g_hs gamma_of ln_g_mie g1_of g2_of link_pref a3_of f f_from xi_of bar_of orders_sum term_orders_of five a1s_b ◌>>=◌ answered answered₂ x0_of k_hs fluid_of c_row zeta_eff a1s i_of j_of b_of a1s_b_of pref_of a1_of a2_of rho_dual zeta_dual fluid_dual plain_d add_d sub_d neg_d mul_d div_d pow_d down_d exactly chosen add_x sub_x mul_x div_x neg_x after_x pow_x down_x digits pow_digits pow_up decimal Ieee.of_int Ieee.neg Ieee.of_bits Ieee.eq Ieee.add Ieee.mul
example =
    record {
      C = λ c. val_f (nearest c);
      of_fractions = λ c. val_f_pos (nearest c);
      E = ones;
      s = fluid;
      t = one;
      x = alone;
      rho = alone;
      d = alone;
      w = _;
      e = _;
      f = _;
      properties_are = refl;
      not_zero = refl;
      run = refl;
      result = refl;
      count = refl;
      orders = _;
      worked = refl;
      first = record { v = _; s = _; value = refl; slope = refl; not_zero = tt };
      second = record { v = _; s = _; value = refl; slope = refl; not_zero = tt };
    }
