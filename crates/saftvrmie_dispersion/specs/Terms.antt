-- What a pair adds to the three orders of dispersion (saftvrmie/eos/dispersion.rs), in the Rust's order of operations: the first two over the plain arithmetic or dual numbers, the third plain.
use Rattle.std.specs.Prelude.{Float, false, List}
use Rattle.number.specs.Ans.{Ans, held, ◌>>=◌}
use Rattle.number.specs.Arith.{Arith, decimal}
use Rattle.number.specs.Functions.{Functions}
use Rattle.mie_parameters.specs.Sums.{f_from}
use Rattle.mie_parameters.specs.Tables.{phi0, phi1, phi2, phi3, phi4, phi5}
use Rattle.saftvrmie_dispersion.specs.Sutherland.{FluidIn, a1s_b}

-- the parameters of a pair, or of a component, in the numbers N
pub record PairIn (N : Type 0) : Type 0 where
  pub sigma : N
  pub epsilon_k : N
  pub lr : N
  pub la : N
  pub c : N
  pub alpha : N

-- zeta_x_bar and its powers 5 and 8
pub record BarIn (N : Type 0) : Type 0 where
  pub zeta_x_bar : N
  pub zx5 : N
  pub zx8 : N

-- a1s_b at la, lr, 2 la, la + lr, 2 lr
pub record FiveIn (N : Type 0) : Type 0 where
  pub at_la : N
  pub at_lr : N
  pub at_2la : N
  pub at_lalr : N
  pub at_2lr : N

-- the first and the second order of a pair, with the sums that they are made of
pub record OrdersIn (N : Type 0) : Type 0 where
  pub five : FiveIn N
  pub a1 : N
  pub a2 : N

-- the three orders of a pair, and the chi that corrects the second
pub record TermsIn (N : Type 0) : Type 0 where
  pub a1 : N
  pub a2 : N
  pub a3 : N
  pub xi : N

-- a1, a2, a3 and a_chain as far as they are summed
pub record SumsIn (N : Type 0) : Type 0 where
  pub a1 : N
  pub a2 : N
  pub a3 : N
  pub a_chain : N

module _ (A : Arith) where
  open A use {Num, add as ◌⊕◌, sub as ◌⊖◌, mul as ◌⊗◌, div as ◌⊘◌, neg as ⊖◌, pow, lit}

  infixl 60 ◌⊕◌
  infixl 60 ◌⊖◌
  infixl 70 ◌⊗◌
  infixl 70 ◌⊘◌
  infix 80 ⊖◌
  abbrev one : Num
  one = lit (decimal false 1 0)

  abbrev two : Num
  two = lit (decimal false 2 0)

  -- `f` of a row of PHI
  unfoldable pub f : List Float → Num → Num
  f phi alpha =
      let alpha2 = alpha ⊗ alpha in
      let alpha3 = alpha ⊗ alpha2 in
      f_from A phi alpha alpha2 alpha3

  -- zeta_x_bar, `zx5` and `zx8`
  unfoldable pub bar_of : Num → BarIn Num
  bar_of zeta_x_bar = record { zeta_x_bar = zeta_x_bar; zx5 = pow zeta_x_bar 5; zx8 = pow zeta_x_bar 8 }

  -- `xii`, `xij`, from the first three of f
  abbrev pub xi_from : BarIn Num → Num → Num → Num → Num
  xi_from bar f0 f1 f2 = bar.zeta_x_bar ⊗ f0 ⊕ bar.zx5 ⊗ f1 ⊕ bar.zx8 ⊗ f2

  unfoldable pub xi_of : BarIn Num → Num → Num
  xi_of bar alpha = xi_from bar (f phi0 alpha) (f phi1 alpha) (f phi2 alpha)

  -- `a3_ii`, `a3_ij`, from the last three
  abbrev pub a3_from : Functions Num → Num → Num → Num → Num → Num → Ans Num
  a3_from F zeta_x_bar f3 f4 f5 eps-k =
      F.exp (zeta_x_bar ⊗ (zeta_x_bar ⊗ f5 ⊕ f4)) >>= λ e.
      held (⊖ zeta_x_bar ⊗ f3 ⊗ e ⊗ pow eps-k 3)

  unfoldable pub a3_of : Functions Num → Num → Num → Num → Ans Num
  a3_of F zeta_x_bar alpha eps-k = a3_from F zeta_x_bar (f phi3 alpha) (f phi4 alpha) (f phi5 alpha) eps-k

  -- di.recip() * sig
  unfoldable pub x0_of : Num → Num → Num
  x0_of d sigma = one ⊘ d ⊗ sigma

  -- a1 += a1_ii * xs_ii2, and the other orders
  unfoldable pub add_pure : Num → TermsIn Num → SumsIn Num → SumsIn Num
  add_pure xs t s =
      let xs-ii2 = xs ⊗ xs in
      record { a1 = s.a1 ⊕ t.a1 ⊗ xs-ii2; a2 = s.a2 ⊕ t.a2 ⊗ xs-ii2 ⊗ (t.xi ⊕ one); a3 = s.a3 ⊕ t.a3 ⊗ xs-ii2; a_chain = s.a_chain }

  -- a1 += a1_ij * xs_ij * 2.0, and the other orders
  unfoldable pub add_pair : Num → Num → TermsIn Num → SumsIn Num → SumsIn Num
  add_pair xi xj t s =
      let xs-ij = xi ⊗ xj in
      record { a1 = s.a1 ⊕ t.a1 ⊗ xs-ij ⊗ two; a2 = s.a2 ⊕ t.a2 ⊗ xs-ij ⊗ (t.xi ⊕ one) ⊗ two; a3 = s.a3 ⊕ t.a3 ⊗ xs-ij ⊗ two; a_chain = s.a_chain }

module _ (A D : Arith) (plain : A.Num → D.Num) where
  open A use {add as ◌+'◌, mul as ◌*'◌, pow as pow', lit as lit'}
  open D use {Num, add as ◌⊕◌, sub as ◌⊖◌, mul as ◌⊗◌, lit}

  infixl 60 ◌+'◌
  infixl 70 ◌*'◌
  infixl 60 ◌⊕◌
  infixl 60 ◌⊖◌
  infixl 70 ◌⊗◌
  -- the sums at the five exponents
  unfoldable pub five : (A.Num → Ans A.Num) → FluidIn Num → A.Num → A.Num → Ans (FiveIn Num)
  five x0-powf w la lr =
      a1s_b A D plain x0-powf w la >>= λ at_la.
      a1s_b A D plain x0-powf w lr >>= λ at_lr.
      a1s_b A D plain x0-powf w (lit' (decimal false 2 0) *' la) >>= λ at_2la.
      a1s_b A D plain x0-powf w (la +' lr) >>= λ at_lalr.
      a1s_b A D plain x0-powf w (lit' (decimal false 2 0) *' lr) >>= λ at_2lr.
      held (record { at_la = at_la; at_lr = at_lr; at_2la = at_2la; at_lalr = at_lalr; at_2lr = at_2lr })

  -- segment_density * d3 * eps_k * 2.0 * PI * c
  unfoldable pub pref_of : A.Num → Num → A.Num → A.Num → A.Num → Num
  pref_of pi rho d3 eps-k c = rho ⊗ plain d3 ⊗ plain eps-k ⊗ lit (decimal false 2 0) ⊗ plain pi ⊗ plain c

  -- `a1_ii`, `a1_ij`
  unfoldable pub a1_of : Num → FiveIn Num → Num
  a1_of pref s = pref ⊗ (s.at_la ⊖ s.at_lr)

  -- `a2_ii`, `a2_ij`
  unfoldable pub a2_of : Num → A.Num → A.Num → Num → FiveIn Num → Num
  a2_of pref eps-k c k_hs s = pref ⊗ plain eps-k ⊗ plain c ⊗ k_hs ⊗ lit (decimal false 5 1) ⊗ (s.at_2la ⊖ s.at_lalr ⊗ lit (decimal false 2 0) ⊕ s.at_2lr)

  -- from the fluid, the parameters and the pair's diameter
  unfoldable pub term_orders_of : Functions A.Num → FluidIn Num → PairIn A.Num → A.Num → Ans (OrdersIn Num)
  term_orders_of F w p d =
      five (F.powf (x0_of A d p.sigma)) w p.la p.lr >>= λ s.
      let pref = pref_of F.pi w.segment_density (pow' d 3) p.epsilon_k p.c in
      held (record { five = s; a1 = a1_of pref s; a2 = a2_of pref p.epsilon_k p.c w.k_hs s })

-- the three orders of a pair, in the plain arithmetic
module _ (A : Arith) (F : Functions A.Num) where
  open A use {Num}

  unfoldable pub terms_of : FluidIn Num → BarIn Num → PairIn Num → Num → Ans (TermsIn Num)
  terms_of w bar p d =
      term_orders_of A A (λ x. x) F w p d >>= λ o.
      a3_of A F bar.zeta_x_bar p.alpha p.epsilon_k >>= λ a3.
      held (record { a1 = o.a1; a2 = o.a2; a3 = a3; xi = xi_of A bar p.alpha })
