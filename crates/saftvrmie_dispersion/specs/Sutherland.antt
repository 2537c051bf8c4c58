-- Hard spheres' compressibility and the Sutherland sums of saftvrmie/eos/dispersion.rs (Lafitte et al. 2013), in the Rust's order of operations.
-- The Rust is generic in D and works lambda in plain f64. So there are two arithmetics, the plain one and that of D, which a plain number enters by `plain`: D is the plain one itself (dispersion, and pairs), or dual numbers over it (the pure terms of the chain).
use Rattle.std.specs.Prelude.{Float, false, List}
use Rattle.number.specs.Ans.{Ans, held, ◌>>=◌}
use Rattle.number.specs.Arith.{Arith, decimal}
use Rattle.number.specs.Lists.{at}
use Rattle.mie_parameters.specs.Tables.{c0, c1, c2, c3}

-- What all pairs of a state share: the segment density, zeta_x, k_hs, and the three factors of `b_ij` that hang on zeta_x alone. The Rust works these three anew in each call, from the same zeta_x.
pub record FluidIn (N : Type 0) : Type 0 where
  pub segment_density : N
  pub zeta_x : N
  pub k_hs : N
  -- -zeta_x * 0.5 + 1.0
  pub b1 : N
  -- zeta_x * (zeta_x + 1.0) * 4.5
  pub b2 : N
  -- (-zeta_x + 1.0).powi(-3)
  pub b3 : N

module _ (D : Arith) where
  open D use {Num, add as ◌⊕◌, sub as ◌⊖◌, mul as ◌⊗◌, div as ◌⊘◌, neg as ⊖◌, pow, pow_down, lit}

  infixl 60 ◌⊕◌
  infixl 60 ◌⊖◌
  infixl 70 ◌⊗◌
  infixl 70 ◌⊘◌
  infix 80 ⊖◌
  -- `k_hs`: (zeta_x - 1.0).powi(4) / ((zeta_x + zeta_x.powi(2) - zeta_x.powi(3)) * 4.0 + zeta_x.powi(4) + 1.0)
  unfoldable pub k_hs : Num → Num
  k_hs zeta_x =
      pow (zeta_x ⊖ lit (decimal false 1 0)) 4
      ⊘ ((zeta_x ⊕ pow zeta_x 2 ⊖ pow zeta_x 3) ⊗ lit (decimal false 4 0) ⊕ pow zeta_x 4 ⊕ lit (decimal false 1 0))

  -- from the segment density, zeta_x and k_hs
  unfoldable pub fluid_of : Num → Num → Num → FluidIn Num
  fluid_of rho zeta_x k_hs =
      record {
        segment_density = rho;
        zeta_x = zeta_x;
        k_hs = k_hs;
        b1 = ⊖ zeta_x ⊗ lit (decimal false 5 1) ⊕ lit (decimal false 1 0);
        b2 = zeta_x ⊗ (zeta_x ⊕ lit (decimal false 1 0)) ⊗ lit (decimal false 45 1);
        b3 = pow_down (⊖ zeta_x ⊕ lit (decimal false 1 0)) 3;
      }

module _ (A : Arith) where
  open A use {Num, add as ◌⊕◌, mul as ◌⊗◌, lit}

  infixl 60 ◌⊕◌
  infixl 70 ◌⊗◌
  -- li * C[k][1] + li2 * C[k][2] + li3 * C[k][3] + C[k][0]
  unfoldable pub c_row : Num → Num → Num → List Float → Num
  c_row li li2 li3 c = li ⊗ lit (at c 1) ⊕ li2 ⊗ lit (at c 2) ⊕ li3 ⊗ lit (at c 3) ⊕ lit (at c 0)

module _ (A D : Arith) (plain : A.Num → D.Num) where
  open A use {sub as ◌-'◌, mul as ◌*'◌, div as ◌/'◌, lit as lit'}
  open D use {Num, add as ◌⊕◌, sub as ◌⊖◌, mul as ◌⊗◌, div as ◌⊘◌, neg as ⊖◌, pow, lit}

  infixl 60 ◌-'◌
  infixl 70 ◌*'◌
  infixl 70 ◌/'◌
  infixl 60 ◌⊕◌
  infixl 60 ◌⊖◌
  infixl 70 ◌⊗◌
  infixl 70 ◌⊘◌
  infix 80 ⊖◌
  abbrev three : A.Num
  three = lit' (decimal false 3 0)

  abbrev four : A.Num
  four = lit' (decimal false 4 0)

  abbrev one : Num
  one = lit (decimal false 1 0)

  abbrev half : Num
  half = lit (decimal false 5 1)

  -- `zeta_eff`, from the rows of C at 1 / lambda
  abbrev pub zeta_eff_from : Num → A.Num → A.Num → A.Num → A.Num → Num
  zeta_eff_from zeta r0 r1 r2 r3 = zeta ⊗ (zeta ⊗ (zeta ⊗ (zeta ⊗ plain r3 ⊕ plain r2) ⊕ plain r1) ⊕ plain r0)

  unfoldable pub zeta_eff : Num → A.Num → Num
  zeta_eff zeta lambda =
      let li = lit' (decimal false 1 0) /' lambda in
      let li2 = li *' li in
      let li3 = li *' li2 in
      zeta_eff_from zeta (c_row A li li2 li3 c0) (c_row A li li2 li3 c1) (c_row A li li2 li3 c2) (c_row A li li2 li3 c3)

  -- `a1s_ij`: the Sutherland potential for mixtures (eq. A16), divided by 2 pi rho_s d_ij³ epsilon_k_ij; from zeta_eff and l3 = lambda - 3
  abbrev pub a1s_from : Num → A.Num → Num
  a1s_from ze l3 = ⊖ (⊖ ze ⊗ half ⊕ one) ⊘ (pow (⊖ ze ⊕ one) 3 ⊗ plain l3)

  unfoldable pub a1s : Num → A.Num → Num
  a1s zeta_x lambda = a1s_from (zeta_eff zeta_x lambda) (lambda -' three)

  -- i of `b_ij`, from l3
  abbrev pub i_from : Num → A.Num → Num
  i_from x0-3ml l3 = ⊖ (x0-3ml ⊖ one) ⊘ plain l3

  unfoldable pub i_of : Num → A.Num → Num
  i_of x0-3ml lambda = i_from x0-3ml (lambda -' three)

  -- j of `b_ij`, from l3 and l4 = lambda - 4
  abbrev pub j_from : Num → Num → A.Num → A.Num → Num
  j_from x0-4ml x0-3ml l3 l4 = ⊖ (x0-4ml ⊗ plain l3 ⊖ x0-3ml ⊗ plain l4 ⊖ one) ⊘ plain (l3 *' l4)

  unfoldable pub j_of : Num → Num → A.Num → Num
  j_of x0-4ml x0-3ml lambda = j_from x0-4ml x0-3ml (lambda -' three) (lambda -' four)

  -- the last line of `b_ij`
  unfoldable pub b_of : FluidIn Num → Num → Num → Num
  b_of w i j = (w.b1 ⊗ i ⊖ w.b2 ⊗ j) ⊗ w.b3

  -- `a1s_b_ij` from its powers of x0, p to lambda, p3 to 3 - lambda, p4 to 4 - lambda: p (a1s_ij + b_ij), without the prefactor C; `b_ij` is eq. A12, divided as a1s_ij is
  unfoldable pub a1s_b_of : FluidIn Num → A.Num → A.Num → A.Num → A.Num → Num
  a1s_b_of w lambda p p3 p4 = plain p ⊗ (a1s w.zeta_x lambda ⊕ b_of w (i_of (plain p3) lambda) (j_of (plain p4) (plain p3) lambda))

  -- `a1s_b_ij`. x0 is a plain number in either run (01: 'x0 has slope 0'). Its real powers, `x0-powf`, are worked plain and enter by `plain` (01: 'a plain number, and a real power of x0, has slope +0').
  unfoldable pub a1s_b : (A.Num → Ans A.Num) → FluidIn Num → A.Num → Ans Num
  a1s_b x0-powf w lambda =
      x0-powf lambda >>= λ p.
      x0-powf (three -' lambda) >>= λ p3.
      x0-powf (four -' lambda) >>= λ p4.
      held (a1s_b_of w lambda p p3 p4)
