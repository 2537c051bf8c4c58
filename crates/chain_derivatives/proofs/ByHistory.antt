-- The same with answers that look at histories: the numbers without their histories are those of the exact run, and keep the same relation. Assumes nothing.
use Prim.Native.Nat.{ℕ, zero, suc}
use mathlib.Core.Path.{refl, ◌∙◌, subst}
use mathlib.Core.Option.{some}
use lib.Ieee.{Float}
use Rattle.number.specs.Arith.{Arith, zero64}
use Rattle.number.specs.Frac.{Frac}
use Rattle.number.proofs.Rel.{Rel}
use Rattle.histories.specs.History as Made
use Rattle.histories.specs.History.{Traced, histories, asks}
use Rattle.histories.proofs.Same.{Same, histories_rel, asks_rel}
use Rattle.enclosure.specs.Constants.{Choice}
use Rattle.enclosure.specs.Exact.{Exact, exacts}
use Rattle.dual.specs.Dual.{DualOf, plain_d, add_d, sub_d, neg_d, mul_d, div_d, pow_d, down_d}
use Rattle.saftvrmie_parameters.specs.declared.PairParameters.{PairParameters}
use Rattle.saftvrmie_dispersion.specs.Answer.{pair_in}
use Rattle.saftvrmie_dispersion.specs.Sutherland.{FluidIn, k_hs, fluid_of}
use Rattle.saftvrmie_dispersion.specs.Chain.{rho_dual, zeta_dual, fluid_dual}
use Rattle.saftvrmie_dispersion.proofs.Relation.{Pairs, Fluids, k_hs_rel, fluid_of_rel, orders_of_rel}
use Rattle.chain_derivatives.specs.Quotient.{Quotient, constant_of, constant, variable, mul_q, quotients}
use Rattle.chain_derivatives.specs.Chain.{OfFractions, fluid_quotient, plain_dual, DensityAt, ChainSlopesByHistory}
use Rattle.chain_derivatives.proofs.Rational.{Rational, of}
use Rattle.chain_derivatives.proofs.Stands.{proper, itself}
use Rattle.chain_derivatives.proofs.Results.{Known, known, exactly_known, chosen_known}
use Rattle.chain_derivatives.proofs.Guarded.{no_result, pow_g, down_g, guarded, same_fluid, same_orders}
use Rattle.chain_derivatives.proofs.Derives.{Derives, derives_plain, derives_add, derives_sub, derives_neg, derives_mul, derives_div, derives_pow, derives_downs}
use Rattle.chain_derivatives.proofs.Chain.{both_of, claim, rho_derives, ratio_derives}

abbrev traced : Choice → Arith
traced C = histories (exacts C)

abbrev ended : Traced Exact
ended = record { history = Made.lit zero64; number = no_result }

abbrev Keeps : Rational → DualOf (Traced Exact) → Quotient → Type 0
Keeps r t q = Derives r (plain_dual t) q

module _ (C : Choice) (r : Rational) where
  module _ (x y : DualOf (Traced Exact)) (u v : Quotient) (p : Keeps r x u) (q : Keeps r y v) where
    pub keeps_add : Keeps r (add_d (traced C) x y) ((quotients C).add u v)
    unfolding add_d
    keeps_add = derives_add C r (plain_dual x) (plain_dual y) u v p q

    pub keeps_sub : Keeps r (sub_d (traced C) x y) ((quotients C).sub u v)
    unfolding sub_d
    keeps_sub = derives_sub C r (plain_dual x) (plain_dual y) u v p q

    pub keeps_mul : Keeps r (mul_d (traced C) x y) ((quotients C).mul u v)
    unfolding mul_d
    keeps_mul = derives_mul C r (plain_dual x) (plain_dual y) u v p q

    pub keeps_div : Keeps r (div_d (traced C) x y) ((quotients C).div u v)
    unfolding div_d
    keeps_div = derives_div C r (plain_dual x) (plain_dual y) u v p q

  module _ (x : DualOf (Traced Exact)) (u : Quotient) (p : Keeps r x u) where
    pub keeps_neg : Keeps r (neg_d (traced C) x) ((quotients C).neg u)
    unfolding neg_d
    keeps_neg = derives_neg C r (plain_dual x) u p

    pub keeps_pow : (n : ℕ) → Keeps r (pow_g (traced C) ended x n) ((quotients C).pow u n)
    unfolding pow_d
    keeps_pow zero = derives_pow C r 0 (plain_dual x) u p
    keeps_pow (suc zero) = derives_pow C r 1 (plain_dual x) u p
    keeps_pow (suc (suc zero)) = derives_pow C r 2 (plain_dual x) u p
    keeps_pow (suc (suc (suc zero))) = derives_pow C r 3 (plain_dual x) u p
    keeps_pow (suc (suc (suc (suc zero)))) = derives_pow C r 4 (plain_dual x) u p
    keeps_pow (suc (suc (suc (suc (suc n))))) = derives_pow C r (suc (suc (suc (suc (suc n))))) (plain_dual x) u p

    pub keeps_down : (n : ℕ) → Keeps r (down_g (traced C) ended x n) ((quotients C).pow_down u n)
    unfolding down_d
    keeps_down zero = derives_downs C r 0 (plain_dual x) u p
    keeps_down (suc zero) = derives_downs C r 1 (plain_dual x) u p
    keeps_down (suc (suc zero)) = derives_downs C r 2 (plain_dual x) u p
    keeps_down (suc (suc (suc zero))) = derives_downs C r 3 (plain_dual x) u p
    keeps_down (suc (suc (suc (suc n)))) = derives_downs C r (suc (suc (suc (suc n)))) (plain_dual x) u p

  pub keeps_plain : (x u : Traced Exact) → Same Known x u → Keeps r (plain_d (traced C) x) (constant u.number)
  unfolding plain_d
  keeps_plain x u h = derives_plain C r x.number u.number h.number

  abbrev pub kept : OfFractions C → Rel (guarded (traced C) ended) (quotients C)
  kept fine =
      record {
        R = Keeps r;
        r_add = λ p q. keeps_add _ _ _ _ p q;
        r_sub = λ p q. keeps_sub _ _ _ _ p q;
        r_mul = λ p q. keeps_mul _ _ _ _ p q;
        r_div = λ p q. keeps_div _ _ _ _ p q;
        r_neg = λ p. keeps_neg _ _ p;
        r_pow = λ n p. keeps_pow _ _ p n;
        r_down = λ n p. keeps_down _ _ p n;
        r_lit = λ f. keeps_plain _ _ (record { same = refl; number = exactly_known f });
        r_constant = λ c. keeps_plain _ _ (record { same = refl; number = chosen_known C fine c });
        r_val = λ p. refl;
        r_after = λ p q. q;
      }

-- ---- the state
module _ (C : Choice) (ratio x : Frac) (zeta_x rho : Traced Exact) (h : DensityAt ratio x zeta_x.number rho.number) where
  abbrev r : Rational
  r = of (proper x h.proper)

  density_keeps : Keeps r (rho_dual (traced C) rho) variable
  unfolding rho_dual
  density_keeps = rho_derives C ratio x zeta_x.number rho.number h

  ratio_keeps : Keeps r (plain_d (traced C) ((traced C).div zeta_x rho)) (constant_of (some ratio))
  unfolding plain_d
  ratio_keeps = ratio_derives C ratio x zeta_x.number rho.number h

  packing_keeps : Keeps r (zeta_dual (traced C) zeta_x rho) (mul_q (constant_of (some ratio)) variable)
  unfolding zeta_dual
  packing_keeps = rw h.not_zero (keeps_mul C r _ _ _ _ ratio_keeps density_keeps)

  pub fluid_keeps : OfFractions C → Fluids (Keeps r) (fluid_dual (traced C) zeta_x rho) (fluid_quotient C ratio)
  unfolding fluid_dual fluid_quotient
  fluid_keeps fine =
      subst (λ (w : FluidIn (DualOf (Traced Exact))). Fluids (Keeps r) w (fluid_of (quotients C) variable (mul_q (constant_of (some ratio)) variable) (k_hs (quotients C) (mul_q (constant_of (some ratio)) variable))))
      (same_fluid (traced C) ended (rho_dual (traced C) rho) (zeta_dual (traced C) zeta_x rho))
      (fluid_of_rel (guarded (traced C) ended) (quotients C) (kept C r fine) density_keeps packing_keeps (k_hs_rel (guarded (traced C) ended) (quotients C) (kept C r fine) packing_keeps))

-- ---- the theorem
pair_known : (C : Choice) (p : PairParameters) → Pairs (Same Known) (pair_in (traced C).lit p) (pair_in (traced C).lit p)
pair_known C p = record { sigma = it _; epsilon_k = it _; lr = it _; la = it _; c = it _; alpha = it _ }
  where
    it : (f : Float) → Same Known ((traced C).lit f) ((traced C).lit f)
    it f = record { same = refl; number = exactly_known f }

pub by_history : ChainSlopesByHistory
by_history C fine E ratio p d x zeta_x rho o h e =
    let r = of (proper x h.proper) in
    let F = asks (exacts C) E in
    let all =
    orders_of_rel (traced C) (traced C) (histories_rel (exacts C) (exacts C) (known C fine)) (guarded (traced C) ended) (quotients C) (kept C r fine) (plain_d (traced C)) (λ y. constant y.number) (λ y u k. keeps_plain C r y u k) F F
    (asks_rel (exacts C) (exacts C) (known C fine) E) (fluid_keeps C ratio x zeta_x rho h fine) (pair_known C p) (record { same = refl; number = exactly_known d }) in
    let k = both_of o all (same_orders (traced C) ended F (fluid_dual (traced C) zeta_x rho) (pair_in (traced C).lit p) ((traced C).lit d) ∙ e) in
    let at = itself x h.proper in
    (k.0, k.1, record { first = claim r x at _ _ k.2.a1; second = claim r x at _ _ k.2.a2 })
