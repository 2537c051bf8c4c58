-- The chain of saftvrmie/eos/dispersion.rs, in the Rust's order of operations: a component's first two orders with their slopes by the segment density, and what it adds to a_chain.
use Rattle.std.specs.Float.Ieee.{eq}
use Rattle.std.specs.Prelude.{false, cond}
use Rattle.number.specs.Ans.{Ans, held, ◌>>=◌}
use Rattle.number.specs.Arith.{Arith, decimal, whole}
use Rattle.number.specs.Functions.{Functions}
use Rattle.dual.specs.Dual.{DualOf, duals, plain_d, mul_d}
use Rattle.saftvrmie_dispersion.specs.Sutherland.{FluidIn, k_hs, fluid_of}
use Rattle.saftvrmie_dispersion.specs.Terms.{PairIn, BarIn, OrdersIn, SumsIn, x0_of, a3_of, xi_of, term_orders_of, add_pure}

-- the k-values of the hard spheres' pair correlation function
pub record KIn (N : Type 0) : Type 0 where
  pub k0 : N
  pub k1 : N
  pub k2 : N
  pub k3 : N

-- what only the chain reads of a component, and of the state: m, the mole fraction, and 1/T
pub record LinkIn (N : Type 0) : Type 0 where
  pub m : N
  pub fraction : N
  pub t_inv : N

module _ (A : Arith) where
  open A use {Num, add as ◌⊕◌, sub as ◌⊖◌, mul as ◌⊗◌, div as ◌⊘◌, neg as ⊖◌, pow, lit, val}

  infixl 60 ◌⊕◌
  infixl 60 ◌⊖◌
  infixl 70 ◌⊗◌
  infixl 70 ◌⊘◌
  infix 80 ⊖◌
  -- k0 to k3 of `Properties::new`
  unfoldable pub k_of : Functions Num → Num → Ans (KIn Num)
  k_of F zeta_x =
      let frac = whole A 1 ⊘ pow (⊖ zeta_x ⊕ whole A 1) 3 in
      let z2 = zeta_x ⊗ zeta_x in
      let z3 = z2 ⊗ zeta_x in
      F.ln (⊖ zeta_x ⊕ whole A 1) >>= λ l.
      held (record {
        k0 = ⊖ l ⊕ zeta_x ⊗ (⊖ zeta_x ⊗ whole A 39 ⊕ z2 ⊗ whole A 9 ⊖ z3 ⊗ whole A 2 ⊕ whole A 42) ⊗ frac ⊘ whole A 6;
        k1 = zeta_x ⊗ frac ⊗ lit (decimal false 5 1) ⊗ (z3 ⊕ zeta_x ⊗ whole A 6 ⊖ whole A 12);
        k2 = ⊖ z2 ⊗ whole A 3 ⊘ whole A 8 ⊗ frac ⊗ (⊖ zeta_x ⊕ whole A 1);
        k3 = zeta_x ⊗ frac ⊘ whole A 6 ⊗ (⊖ z3 ⊕ zeta_x ⊗ whole A 3 ⊕ whole A 3);
      })

  -- `rho_s_dual`
  unfoldable pub rho_dual : Num → DualOf Num
  rho_dual rho = record { re = rho; eps = lit (decimal false 1 0) }

  -- `zeta_x_dual`: the density is looked at in the float run
  unfoldable pub zeta_dual : Num → Num → DualOf Num
  zeta_dual zeta_x rho =
      cond (eq (val rho) (decimal false 0 0))
      (mul_d A (rho_dual rho) (plain_d A (lit (decimal false 0 0))))
      (mul_d A (plain_d A (zeta_x ⊘ rho)) (rho_dual rho))

  -- the state with its slopes
  unfoldable pub fluid_dual : Num → Num → FluidIn (DualOf Num)
  fluid_dual zeta_x rho = let z = zeta_dual zeta_x rho in fluid_of (duals A) (rho_dual rho) z (k_hs (duals A) z)

  -- `g1` from the slope of a1; pref is that of `linkPref`
  unfoldable pub g1_of : OrdersIn (DualOf Num) → PairIn Num → Num → Num
  g1_of o p pref = o.a1.eps ⊗ whole A 3 ⊘ pref ⊖ (o.five.at_la.re ⊗ p.la ⊖ o.five.at_lr.re ⊗ p.lr) ⊗ p.c

  -- `g2_mca` from the slope of a2
  unfoldable pub g2_of : OrdersIn (DualOf Num) → PairIn Num → Num → Num → Num
  g2_of o p pref k_hs =
      o.a2.eps ⊗ whole A 3 ⊘ pref ⊘ p.epsilon_k
      ⊖ (o.five.at_2lr.re ⊗ p.lr ⊖ o.five.at_lalr.re ⊗ (p.la ⊕ p.lr) ⊕ o.five.at_2la.re ⊗ p.la) ⊗ k_hs ⊗ pow p.c 2

  -- the pref of `g1` and `g2_mca`: d3 * eps_k * 2.0 * PI
  unfoldable pub link_pref : Num → Num → Num → Num
  link_pref pi d3 eps-k = d3 ⊗ eps-k ⊗ whole A 2 ⊗ pi

  -- a_chain += l
  unfoldable pub add_link : SumsIn Num → Num → SumsIn Num
  add_link s l = record { a1 = s.a1; a2 = s.a2; a3 = s.a3; a_chain = s.a_chain ⊕ l }

  module _ (F : Functions Num) where
    -- `g_hs`
    unfoldable pub g_hs : KIn Num → Num → Ans Num
    g_hs k x0 = F.exp (k.k0 ⊕ k.k1 ⊗ x0 ⊕ k.k2 ⊗ pow x0 2 ⊕ k.k3 ⊗ pow x0 3)

    -- `gamma`
    unfoldable pub gamma_of : Num → Num → Num → Ans Num
    gamma_of zeta_x_bar beta-eps alpha =
        F.expm1 beta-eps >>= λ e.
        F.tanh (whole A 10 ⊗ (lit (decimal false 57 2) ⊖ alpha)) >>= λ t.
        F.exp (⊖ zeta_x_bar ⊗ lit (decimal false 67 1) ⊖ pow zeta_x_bar 2 ⊗ whole A 8) >>= λ g.
        held (zeta_x_bar ⊗ e ⊗ whole A 10 ⊗ (⊖ t ⊕ whole A 1) ⊗ g)

    -- `ln_g_mie`
    unfoldable pub ln_g_mie : Num → Num → Num → Num → Ans Num
    ln_g_mie g-hs beta-eps g1 g2 = F.ln g-hs >>= λ l. held (l ⊕ (beta-eps ⊗ g1 ⊕ pow beta-eps 2 ⊗ g2) ⊘ g-hs)

    -- what a component adds to a_chain: -x_i * (m - 1.0) * ln_g_mie
    unfoldable pub link_of : KIn Num → Num → OrdersIn (DualOf Num) → Num → PairIn Num → Num → LinkIn Num → Ans Num
    link_of k zeta_x_bar o k_hs p d link =
        let pref = link_pref F.pi (pow d 3) p.epsilon_k in
        let beta-eps = link.t_inv ⊗ p.epsilon_k in
        g_hs k (x0_of A d p.sigma) >>= λ g-hs.
        gamma_of zeta_x_bar beta-eps p.alpha >>= λ gamma.
        ln_g_mie g-hs beta-eps (g1_of o p pref) (g2_of o p pref k_hs ⊗ (gamma ⊕ whole A 1)) >>= λ ln-g.
        held (⊖ link.fraction ⊗ (link.m ⊖ whole A 1) ⊗ ln-g)

    -- a component of the chain: its orders with slopes, the third order, and its link; added to the sums
    unfoldable pub chain_pure : FluidIn (DualOf Num) → BarIn Num → KIn Num → PairIn Num → Num → LinkIn Num → Num → SumsIn Num → Ans (SumsIn Num)
    chain_pure w bar k p d link xs s =
        term_orders_of A (duals A) (plain_d A) F w p d >>= λ o.
        a3_of A F bar.zeta_x_bar p.alpha p.epsilon_k >>= λ a3.
        let t = add_pure A xs (record { a1 = o.a1.re; a2 = o.a2.re; a3 = a3; xi = xi_of A bar p.alpha }) s in
        link_of k bar.zeta_x_bar o w.k_hs.re p d link >>= λ l.
        held (add_link t l)
