-- The ways of a pair's properties where unused work does not count, one for each refusal and one for the values. Assumes nothing.
use Prim.Native.Nat.{ℕ}
use mathlib.Core.Path.{◌≡◌}
use Rattle.number.specs.Ans.{Ans, held, refused, ◌>>=◌}
use Rattle.number.specs.Arith.{Arith}
use Rattle.number.specs.Functions.{Functions}
use Rattle.saftvrqmie_potential.specs.Potential.{PotentialIn, quantum_d}
use Rattle.saftvrqmie_searches.specs.declared.Search.{Search}
use Rattle.saftvrqmie_searches.specs.declared.Search.TheVariants.{Found, Spent}
use Rattle.saftvrqmie_searches.specs.Searches.{Counted, search_by, sigma_search, zero_search, depth_search}
use Rattle.saftvrqmie_searches.specs.Diameter.{diameter_by}
use Rattle.saftvrqmie_searches.proofs.Loops.{sigma_refused}
use Rattle.saftvrqmie_properties.specs.Properties.{PairPropertiesIn, radius_of, last_of, properties_from}

-- ---- a search read by `of`
pub radius_by : {D N : Type 0} (of : D → N) (s : Search D) (r : D) → r ≡ radius_of (search_by (λ x. x) s) → of r ≡ radius_of (search_by of s)
radius_by of (Found x u) r p = rw p
radius_by of (Spent x u) r p = rw p

pub last_by : {D N : Type 0} (of : D → N) (s : Search D) (r : D) → r ≡ last_of (search_by (λ x. x) s) → of r ≡ last_of (search_by of s)
last_by of (Found x u) r p = rw p
last_by of (Spent x u) r p = rw p

module _ (A : Arith) (F : Functions A.Num) (U : A.Num → Ans (PotentialIn A.Num)) (start mass t : A.Num) where
  abbrev result : Ans (PairPropertiesIn A.Num)
  result = properties_from A F U start mass t

  pub no_shared : (n : ℕ) → U start ≡ refused n → refused n ≡ result
  unfolding ◌>>=◌
  no_shared n h = rw (← sigma_refused A n U start h)

  module _ (x : A.Num) (is_x : x ≡ start) where
    pub no_sigma : (n : ℕ) → sigma_search A U x ≡ refused n → refused n ≡ result
    unfolding ◌>>=◌
    no_sigma n e = rw (← is_x, e)

    module _ (s : Counted A.Num) (is-s : sigma_search A U x ≡ held s) (sigma_eff : A.Num) (is-sigma : sigma_eff ≡ radius_of s.search) where
      pub no_zero : (n : ℕ) → zero_search A U F t sigma_eff ≡ refused n → refused n ≡ result
      unfolding ◌>>=◌
      no_zero n e = rw (← is_x, is-s, ← is-sigma, e)

      module _ (z : Counted A.Num) (is-z : zero_search A U F t sigma_eff ≡ held z) (r0 : A.Num) (is-r0 : r0 ≡ radius_of z.search) where
        pub no_diameter : (n : ℕ) → diameter_by A F U t sigma_eff r0 ≡ refused n → refused n ≡ result
        unfolding ◌>>=◌
        no_diameter n e = rw (← is_x, is-s, ← is-sigma, is-z, ← is-r0, e)

        module _ (d : A.Num) (is-d : diameter_by A F U t sigma_eff r0 ≡ held d) where
          pub no_depth : (n : ℕ) → depth_search A U x ≡ refused n → refused n ≡ result
          unfolding ◌>>=◌
          no_depth n e = rw (← is_x, is-s, ← is-sigma, is-z, ← is-r0, is-d, e)

          pub properties_are : ((u y : A.Num) → A.after u y ≡ y) → (e : Counted A.Num) (v u q : A.Num) → depth_search A U x ≡ held e → u ≡ last_of e.search → v ≡ A.neg u → q ≡ quantum_d A F mass t
              → held (record { sigma_eff = sigma_eff; hs_diameter = d; epsilon_k_eff = v; quantum_d = q; sigma_count = s.count; zero_count = z.count; depth_count = e.count }) ≡ result
          unfolding ◌>>=◌
          properties_are after-is e v u q is-e is-u is-v is-q = rw (← is_x, is-s, ← is-sigma, is-z, ← is-r0, is-d, is-e, after-is (radius_of e.search) (last_of e.search), ← is-u, ← is-v, ← is-q)
