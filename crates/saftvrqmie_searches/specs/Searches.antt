-- The three radius searches of saftvrqmie/eos/hard_sphere.rs, over any arithmetic. Branches are those of the float run.
use Rattle.std.specs.Prelude.{ℕ, zero, suc, ◌-◌, Float, Bool, false, cond, Result}
use Rattle.number.specs.declared.refusal.Refusal.{Refusal}
use Rattle.number.specs.Answer.{answer_by}
use Rattle.std.specs.Float.Ieee as Ieee
use Rattle.std.specs.Float.{binary64}
use Rattle.std.specs.Float.Ieee.{lt}
use Rattle.number.specs.Ans.{Ans, held, ◌>>=◌}
use Rattle.number.specs.Arith.{Arith, decimal, zero64, epsilon64, whole}
use Rattle.number.specs.Functions.{Functions}
use Rattle.number.specs.Neighbour.{absolute}
use Rattle.saftvrqmie_potential.specs.Potential.{PairIn, PotentialIn, potential}
use Rattle.saftvrqmie_searches.specs.declared.Search.{Search}
use Rattle.saftvrqmie_searches.specs.declared.Search.TheVariants.{Found, Spent}

-- 'found or spent, each with its radius and last potential'
pub data SearchIn (N : Type 0) : Type 0 where
  found : N → N → SearchIn N
  spent : N → N → SearchIn N

-- 'A count is the evaluation, 1 to 19, at which the search left, or 20 if it was spent'
pub record Counted (N : Type 0) : Type 0 where
  pub search : SearchIn N
  pub count : ℕ

-- a search whose numbers are read by `of`
abbrev pub search_by : {D N : Type 0} → (D → N) → Search D → SearchIn N
search_by of (Found r u) = found (of r) (of u)
search_by of (Spent r u) = spent (of r) (of u)

abbrev pub counted_by : {D N : Type 0} → (D → N) → Search D × ℕ → Counted N
counted_by of (s, n) = record { search = search_by of s; count = n }

abbrev pub search_in : Search Float → SearchIn Float
search_in = search_by (λ x. x)

abbrev pub search_answer : Result (Search Float × ℕ) Refusal → Ans (Counted Float)
search_answer = answer_by (counted_by (λ x. x))

module _ (A : Arith) where
  open A use {Num, add as ◌⊕◌, mul as ◌⊗◌, div as ◌⊘◌, neg as ⊖◌, lit, val, after}

  infixl 60 ◌⊕◌
  infixl 70 ◌⊗◌
  infixl 70 ◌⊘◌
  infix 80 ⊖◌
  -- x.re().abs() < 1.0e-12
  abbrev pub small : Num → Bool
  small x = lt (absolute (val x)) (decimal false 1 12)

  -- a step above 0.5 in size is multiplied by the plain number 0.5/size, rounded
  unfoldable pub clamped : Num → Num
  clamped dr =
      cond (lt (decimal false 5 1) (absolute (val dr))) (dr ⊗ lit (Ieee.div binary64 (decimal false 5 1) (absolute (val dr)))) dr

  -- x `after` all that one evaluation works, whether used or not: the potential, both derivatives and the tested value f (in floats it is x itself)
  abbrev pub evaluated : PotentialIn Num → Num → Num → Num
  evaluated v f x = after v.u (after v.u_r (after v.u_rr (after f x)))

  -- A search by the potential U: what is tested, and the next radius from the radius, its potential and the tested value. The radius stands `after` every evaluation; u is kept beside it, as the last potential.
  module _ (U : Num → Ans (PotentialIn Num)) (tested : PotentialIn Num → Ans Num) (moved : Num → PotentialIn Num → Num → Num) where
    -- at most n evaluations more from the radius r; u is the last potential
    unfoldable pub search_from : ℕ → Num → Num → Ans (Counted Num)
    search_from zero r u = held (record { search = spent r u; count = 20 })
    search_from (suc n) r u =
        U r >>= λ v.
        tested v >>= λ f.
        let later = search_from n (evaluated v f (moved r v f)) v.u in
        cond (small f) (held (record { search = found (evaluated v f r) v.u; count = 19 - n })) later

    -- 'A search makes at most 19 evaluations'
    unfoldable pub searched : Num → Ans (Counted Num)
    searched start = search_from 19 start (lit zero64)

  -- r += -u_vec[0] / u_vec[1]
  abbrev pub sigma_step : Num → PotentialIn Num → Num → Num
  sigma_step r v f = r ⊕ ⊖ v.u ⊘ v.u_r

  -- r += -u_vec[1] / u_vec[2]
  abbrev pub depth_step : Num → PotentialIn Num → Num → Num
  depth_step r v f = r ⊕ ⊖ v.u_r ⊘ v.u_rr

  -- dfdr = u_vec[1] / temperature; dr = -(f / dfdr), its size limited; r += dr
  abbrev pub zero_step : Num → Num → PotentialIn Num → Num → Num
  zero_step temperature r v f = r ⊕ clamped (⊖ (f ⊘ (v.u_r ⊘ temperature)))

  -- f = u_vec[0] / temperature + f64::EPSILON.ln()
  abbrev pub zero_value : Num → Num → PotentialIn Num → Num
  zero_value temperature l v = v.u ⊘ temperature ⊕ l

  unfoldable pub zero_tested : Functions Num → Num → PotentialIn Num → Ans Num
  zero_tested F temperature v = F.ln (lit epsilon64) >>= λ l. held (zero_value temperature l v)

  module _ (U : Num → Ans (PotentialIn Num)) where
    -- the searches by a potential U: the sigma search tests u, the depth search u_r, the zero search f
    unfoldable pub sigma_search : Num → Ans (Counted Num)
    sigma_search sigma = searched U (λ v. held v.u) sigma_step sigma

    unfoldable pub depth_search : Num → Ans (Counted Num)
    depth_search sigma = searched U (λ v. held v.u_r) depth_step sigma

    unfoldable pub zero_search : Functions Num → Num → Num → Ans (Counted Num)
    zero_search F temperature sigma_eff = searched U (zero_tested F temperature) (zero_step temperature) (sigma_eff ⊗ lit (decimal false 7 1))

  module _ (F : Functions Num) (p : PairIn Num) where
    -- `calc_sigma_eff_ij`: from sigma_ij to where u is zero
    unfoldable pub sigma_eff : Ans (Counted Num)
    sigma_eff = sigma_search (potential A F p) (whole A 1 ⊗ p.sigma)

    -- `zero_integrand`: from 0.7 sigma_eff to where exp(-u / T) is EPSILON
    unfoldable pub zero_integrand : Num → Ans (Counted Num)
    zero_integrand sigma_eff = zero_search (potential A F p) F p.temperature sigma_eff

    -- `calc_epsilon_k_eff_ij`: from sigma_ij to where u_r is zero; epsilon_k_eff is minus the last potential
    unfoldable pub epsilon_k_eff : Ans (Counted Num)
    epsilon_k_eff = depth_search (potential A F p) (whole A 1 ⊗ p.sigma)
