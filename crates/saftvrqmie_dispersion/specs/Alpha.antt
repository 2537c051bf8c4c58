-- `Alpha` of saftvrqmie/eos/dispersion.rs for one pair: alpha_ij, the functions f_k of it, and what the perturbations take of them, over any arithmetic, in the Rust's order of operations.
use Rattle.std.specs.Prelude.{Float, false, cond, List}
use Rattle.number.specs.Ans.{Ans, held, ◌>>=◌}
use Rattle.number.specs.Arith.{Arith, decimal, whole}
use Rattle.number.specs.Functions.{Functions}
use Rattle.mie_parameters.specs.Sums.{f_from}
use Rattle.mie_parameters.specs.Tables.{phi0, phi1, phi2, phi3, phi4, phi5}
use Rattle.saftvrqmie_potential.specs.Potential.{PairIn, first_order, second_order, quantum_d}

module _ (A : Arith) where
  open A use {Num, add as ◌⊕◌, sub as ◌⊖◌, mul as ◌⊗◌, div as ◌⊘◌, neg as ⊖◌, pow, lit, after}

  infixl 60 ◌⊕◌
  infixl 60 ◌⊖◌
  infixl 70 ◌⊗◌
  infixl 70 ◌⊘◌
  infix 80 ⊖◌
  -- D::one() * x / y
  unfoldable pub ratio : Num → Num → Num
  ratio x y = whole A 1 ⊗ x ⊘ y

  -- dmt: quantum_d_ij / sigma_ij.powi(2)
  unfoldable pub dmt_of : Functions Num → PairIn Num → Num
  dmt_of F p = quantum_d A F p.mass p.temperature ⊘ pow p.sigma 2

  -- ma - mr, from the powers of the ratio of diameters
  unfoldable pub alpha_mie : Num → Num → Num → Num → Num
  alpha_mie la lr ra rr = ra ⊘ (la ⊖ whole A 3) ⊖ rr ⊘ (lr ⊖ whole A 3)

  -- q1a or q1r, q2a or q2r: of an exponent l, the ratio s and its power r. The second has no factor l + 1.
  unfoldable pub alpha_q1 : Num → Num → Num → Num
  alpha_q1 l s r = r ⊗ pow s 2 ⊗ l

  unfoldable pub alpha_q2 : Num → Num → Num → Num
  alpha_q2 l s r = r ⊗ pow s 4 ⊗ (l ⊕ whole A 2) ⊗ l ⊗ (l ⊖ whole A 1) ⊗ lit (decimal false 5 1)

  -- alpha before its last factor, from dmt, the ratio s and its two powers
  unfoldable pub alpha_of : PairIn Num → Num → Num → Num → Num → Num
  alpha_of p dmt s ra rr =
      let v = alpha_mie p.la p.lr ra rr in
      let v₁ = cond (first_order p.order) (v ⊕ dmt ⊗ (alpha_q1 p.la s ra ⊖ alpha_q1 p.lr s rr)) v in
      cond (second_order p.order) (v₁ ⊕ pow dmt 2 ⊗ (alpha_q2 p.la s ra ⊖ alpha_q2 p.lr s rr)) v₁

  -- alpha_ij of a pair, at its effective diameter and depth; dmt is worked at every order, used or not
  unfoldable pub alpha : Functions Num → PairIn Num → Num → Num → Ans Num
  alpha F p sigma_eff epsilon_k_eff =
      let s = ratio p.sigma sigma_eff in
      let e = ratio p.epsilon_k epsilon_k_eff in
      F.powf s p.la >>= λ ra.
      F.powf s p.lr >>= λ rr.
      let dmt = dmt_of F p in
      held (after dmt (alpha_of p dmt s ra rr ⊗ (e ⊗ p.c)))

  -- `f` of a row of PHI
  unfoldable pub f : List Float → Num → Num
  f phi a = f_from A phi a (pow a 2) (pow a 3)

  -- chi of the second order
  unfoldable pub chi : Num → Num → Num
  chi a zeta_bar = f phi0 a ⊗ zeta_bar ⊕ f phi1 a ⊗ pow zeta_bar 5 ⊕ f phi2 a ⊗ pow zeta_bar 8

  -- `third_order_perturbation_ij`, from the pair's alpha
  unfoldable pub third_order_ij : Functions Num → Num → Num → Num → Ans Num
  third_order_ij F epsilon_k_eff a zeta_bar =
      F.exp (f phi4 a ⊗ zeta_bar ⊕ f phi5 a ⊗ pow zeta_bar 2) >>= λ e.
      held (⊖ pow epsilon_k_eff 3 ⊗ f phi3 a ⊗ zeta_bar ⊗ e)
