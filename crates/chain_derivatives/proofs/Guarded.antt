-- The chain's numbers with slopes as the terms of a component use them: with the whole powers 2, 3, 4 and −3 alone, and no look at the float run's value. That is no other reading of the terms. Assumes nothing.
use Prim.Native.Nat.{ℕ, zero, suc}
use mathlib.Core.Path.{◌≡◌, refl}
use mathlib.Core.Option.{none}
use Rattle.number.specs.Arith.{Arith, zero64}
use Rattle.number.specs.Functions.{Functions}
use Rattle.enclosure.specs.Exact.{Exact}
use Rattle.dual.specs.Dual.{DualOf, duals, plain_d, pow_d, down_d}
use Rattle.saftvrmie_dispersion.specs.Sutherland.{FluidIn, k_hs, fluid_of, zeta_eff, a1s, i_of, j_of, b_of, a1s_b_of, a1s_b}
use Rattle.saftvrmie_dispersion.specs.Terms.{PairIn, five, pref_of, a1_of, a2_of, term_orders_of}

abbrev pub no_result : Exact
no_result = record { value = zero64; exact = none }

module _ (A : Arith) (ended : A.Num) where
  abbrev pub nothing : DualOf A.Num
  nothing = record { re = ended; eps = ended }

  -- the powers 2, 3 and 4
  abbrev pub pow_g : DualOf A.Num → ℕ → DualOf A.Num
  pow_g x zero = nothing
  pow_g x (suc zero) = nothing
  pow_g x (suc (suc zero)) = pow_d A x 2
  pow_g x (suc (suc (suc zero))) = pow_d A x 3
  pow_g x (suc (suc (suc (suc zero)))) = pow_d A x 4
  pow_g x (suc (suc (suc (suc (suc n))))) = nothing

  -- and −3
  abbrev pub down_g : DualOf A.Num → ℕ → DualOf A.Num
  down_g x zero = nothing
  down_g x (suc zero) = nothing
  down_g x (suc (suc zero)) = nothing
  down_g x (suc (suc (suc zero))) = down_d A x 3
  down_g x (suc (suc (suc (suc n)))) = nothing

  abbrev pub guarded : Arith
  guarded =
      record {
        Num = DualOf A.Num;
        add = (duals A).add;
        sub = (duals A).sub;
        mul = (duals A).mul;
        div = (duals A).div;
        neg = (duals A).neg;
        pow = pow_g;
        pow_down = down_g;
        lit = (duals A).lit;
        constant = (duals A).constant;
        val = λ x. zero64;
        after = λ u x. x;
      }

  pub same_fluid : (rho z : DualOf A.Num) → fluid_of guarded rho z (k_hs guarded z) ≡ fluid_of (duals A) rho z (k_hs (duals A) z)
  unfolding k_hs fluid_of
  same_fluid rho z = refl

  pub same_orders : (F : Functions A.Num) (w : FluidIn (DualOf A.Num)) (p : PairIn A.Num) (d : A.Num)
      → term_orders_of A guarded (plain_d A) F w p d ≡ term_orders_of A (duals A) (plain_d A) F w p d
  unfolding zeta_eff a1s i_of j_of b_of a1s_b_of a1s_b five pref_of a1_of a2_of term_orders_of
  same_orders F w p d = refl
