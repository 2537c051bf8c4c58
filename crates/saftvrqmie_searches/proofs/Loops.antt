-- Laws of the searches where unused work does not count, one for each place of a loop. Assumes nothing.
use Prim.Native.Nat.{ℕ, suc, ◌+◌, ◌-◌, ◌≤◌, ◌<◌}
use native.Mathlib.Omega.{arith}
use lib.Ieee.{Float}
use mathlib.Core.Path.{◌≡◌, refl, ◌∙◌, fun_ext}
use mathlib.Core.Bool.{Bool, true, false}
use Rattle.number.specs.Ans.{Ans, held, refused, ◌>>=◌}
use Rattle.number.specs.Arith.{Arith, floats, decimal, epsilon64}
use Rattle.number.specs.Functions.{Functions, calls}
use Rattle.elementary.specs.Port.{port}
use Rattle.saftvrqmie_potential.specs.Potential.{PairIn, PotentialIn, potential}
use Rattle.saftvrqmie_searches.specs.Searches.{Counted, found, spent, small, evaluated, search_from, searched, zero_value, zero_step, zero_tested, sigma_search, depth_search, zero_search, sigma_eff, zero_integrand, epsilon_k_eff}

-- ---- at the loop: k evaluations done; what is left, run on from here, is the whole search
module _ (A : Arith) (U : A.Num → Ans (PotentialIn A.Num)) (tested : PotentialIn A.Num → A.Num) (moved : A.Num → PotentialIn A.Num → A.Num → A.Num) where
  abbrev pub from : ℕ → A.Num → A.Num → Ans (Counted A.Num)
  from n r u = search_from A U (λ v. held (tested v)) moved n r u

  abbrev pub On : Ans (Counted A.Num) → A.Num → A.Num → ℕ → Type 0
  On whole r u k = (k ≤ 19) × (from (19 - k) r u ≡ whole)

  -- the first turn sets u
  pub begun_at : (r u : A.Num) → On (searched A U (λ v. held (tested v)) moved r) r u 0
  unfolding searched search_from
  begun_at r u = (omega arith, refl)

  module _ (whole : Ans (Counted A.Num)) (r u : A.Num) (k : ℕ) (h : On whole r u k) where
    pub spent_at : 19 ≤ k → held (record { search = spent r u; count = 20 }) ≡ whole
    unfolding search_from
    spent_at p = let d : 19 - k ≡ 0 = omega arith in rw d at h.1

    module _ (p : k < 19) where
      turn : from (suc (19 - (k + 1))) r u ≡ whole
      turn = let d : 19 - k ≡ suc (19 - (k + 1)) = omega arith in rw d at h.1

      pub outside_at : (n : ℕ) → U r ≡ refused n → refused n ≡ whole
      unfolding search_from ◌>>=◌
      outside_at n e = rw e at turn

      module _ (after-is : (x y : A.Num) → A.after x y ≡ y) (v : PotentialIn A.Num) (e : U r ≡ held v) (f : A.Num) (is_f : f ≡ tested v) (t : Bool) (is-t : t ≡ small A f) where
        evaluated_is : (x : A.Num) → evaluated A v f x ≡ x
        evaluated_is x = after-is v.u _ ∙ after-is v.u_r _ ∙ after-is v.u_rr _ ∙ after-is f x

        pub found_at : t ≡ true → held (record { search = found r v.u; count = k + 1 }) ≡ whole
        unfolding search_from ◌>>=◌
        found_at q = let d : 19 - (19 - (k + 1)) ≡ k + 1 = omega arith in rw (e, ← is_f, ← is-t, q, d, evaluated_is r) at turn

        pub goes_on : (s : A.Num) → t ≡ false → s ≡ moved r v f → On whole s v.u (k + 1)
        unfolding search_from ◌>>=◌
        goes_on s q is-s = (omega arith, rw (e, ← is_f, ← is-t, q, ← is-s, evaluated_is s) at turn)

-- ---- a pair without a potential at any radius has no search
module _ (A : Arith) (n : ℕ) where
  abbrev pub none : A.Num → Ans (PotentialIn A.Num)
  none r = refused n

  pub sigma_none : (s : A.Num) → refused n ≡ sigma_search A none s
  unfolding sigma_search searched search_from ◌>>=◌
  sigma_none s = refl

  -- at its first radius
  pub sigma_refused : (U : A.Num → Ans (PotentialIn A.Num)) (s : A.Num) → U s ≡ refused n → refused n ≡ sigma_search A U s
  unfolding sigma_search searched search_from ◌>>=◌
  sigma_refused U s h = rw h

  depth_none : (s : A.Num) → refused n ≡ depth_search A none s
  unfolding depth_search searched search_from ◌>>=◌
  depth_none s = refl

  zero_none : (F : Functions A.Num) (t s : A.Num) → refused n ≡ zero_search A none F t s
  unfolding zero_search searched search_from ◌>>=◌
  zero_none F t s = refl

module _ (p : PairIn Float) (n : ℕ) (h : (r : Float) → potential floats (calls floats port) p r ≡ refused n) where
  no_potential : potential floats (calls floats port) p ≡ none floats n
  no_potential = fun_ext h

  pub no_sigma_eff : refused n ≡ sigma_eff floats (calls floats port) p
  unfolding sigma_eff
  no_sigma_eff = rw no_potential (sigma_none floats n _)

  pub no_epsilon_k_eff : refused n ≡ epsilon_k_eff floats (calls floats port) p
  unfolding epsilon_k_eff
  no_epsilon_k_eff = rw no_potential (depth_none floats n _)

  pub no_zero_integrand : (s : Float) → refused n ≡ zero_integrand floats (calls floats port) p s
  unfolding zero_integrand
  no_zero_integrand s = rw no_potential (zero_none floats n (calls floats port) _ s)

-- ---- the logarithm of EPSILON, asked once
module _ (A : Arith) (F : Functions A.Num) (U : A.Num → Ans (PotentialIn A.Num)) (t : A.Num) where
  tested_held : (l : A.Num) → F.ln (A.lit epsilon64) ≡ held l → zero_tested A F t ≡ (λ v. held (zero_value A t l v))
  unfolding zero_tested ◌>>=◌
  tested_held l e = fun_ext (λ v. rw e)

  pub log_held : (l s : A.Num) → F.ln (A.lit epsilon64) ≡ held l → searched A U (λ v. held (zero_value A t l v)) (zero_step A t) (A.mul s (A.lit (decimal false 7 1))) ≡ zero_search A U F t s
  unfolding zero_search
  log_held l s e = rw (tested_held l e)
