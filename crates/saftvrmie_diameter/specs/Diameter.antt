-- `hs_diameter_ij` of saftvrmie/parameters.rs, over any arithmetic: the lower limit by Halley's method, then the 10-node rule in reduced distances.
use Rattle.std.specs.Prelude.{ℕ, zero, suc, true, false, cond, List, [], ◌∷◌}
use Rattle.std.specs.Float.Ieee.{lt}
use Rattle.number.specs.Ans.{Ans, held, ◌>>=◌}
use Rattle.number.specs.Arith.{Arith, decimal, zero64, epsilon64}
use Rattle.number.specs.Functions.{Functions, Decimal, dec, entry}
use Rattle.number.specs.Walk.{walk}

-- GLQ10: positions and weights
abbrev pub positions : List Decimal
positions =
    dec true 1488743389816312 16 ∷ dec false 1488743389816312 16 ∷ dec true 4333953941292472 16 ∷ dec false 4333953941292472 16 ∷ dec true 6794095682990244 16
    ∷ dec false 6794095682990244 16 ∷ dec true 8650633666889845 16 ∷ dec false 8650633666889845 16 ∷ dec true 9739065285171717 16 ∷ dec false 9739065285171717 16 ∷ []

abbrev pub weights : List Decimal
weights =
    dec false 2955242247147529 16 ∷ dec false 2955242247147529 16 ∷ dec false 2692667193099963 16 ∷ dec false 2692667193099963 16 ∷ dec false 219086362515982 15
    ∷ dec false 219086362515982 15 ∷ dec false 1494513491505806 16 ∷ dec false 1494513491505806 16 ∷ dec false 666713443086881 16 ∷ dec false 666713443086881 16 ∷ []

-- what one evaluation gives: the function and the step
pub record Halley (N : Type 0) : Type 0 where
  pub f : N
  pub dr : N

module _ (A : Arith) where
  open A use {Num, add as ◌⊕◌, sub as ◌⊖◌, mul as ◌⊗◌, div as ◌⊘◌, neg as ⊖◌, lit, val, after}

  infixl 60 ◌⊕◌
  infixl 60 ◌⊖◌
  infixl 70 ◌⊗◌
  infixl 70 ◌⊘◌
  infix 80 ⊖◌
  abbrev one : Num
  one = lit (decimal false 1 0)

  abbrev half : Num
  half = lit (decimal false 5 1)

  -- half of what is left of the reduced distance; a node's radius, `node` its position in the rule; its inverse; the potential from its two powers; what the node adds
  abbrev pub width_from : Num → Num
  width_from r0 = (⊖ r0 ⊕ one) ⊗ half

  abbrev pub radius_from : Num → Num → Num
  radius_from r0 node = width_from r0 ⊗ node ⊕ width_from r0 ⊕ r0

  abbrev pub inverse_from : Num → Num
  inverse_from r = one ⊘ r ⊗ one

  abbrev pub beta_u_from : Num → Num → Num → Num
  beta_u_from plr pla c-eps-t = (plr ⊖ pla) ⊗ c-eps-t

  abbrev pub added_from : Num → Num → Num → Num → Num
  added_from r0 weight e d = d ⊕ width_from r0 ⊗ (⊖ e) ⊗ weight

  -- inverse_temperature * c_ij * epsilon_k_ij
  unfoldable pub c_eps_t : Num → Num → Num → Num
  c_eps_t temperature c epsilon_k = one ⊘ temperature ⊗ c ⊗ epsilon_k

  module _ (F : Functions Num) where
    module _ (la lr c-eps-t : Num) where
      -- `mie_potential_halley` and the step that follows it, all worked before the test
      unfoldable pub halley_step : Num → Ans (Halley Num)
      halley_step r =
          let ri = one ⊘ r in
          F.powf ri lr >>= λ plr.
          F.powf ri la >>= λ pla.
          F.ln (lit epsilon64) >>= λ l.
          let u = plr ⊖ pla in
          let dplr = plr ⊗ (⊖ lr) ⊗ ri in
          let dpla = pla ⊗ (⊖ la) ⊗ ri in
          let du = dplr ⊖ dpla in
          let d2u = (dplr ⊗ (⊖ lr ⊖ one) ⊖ dpla ⊗ (⊖ la ⊖ one)) ⊗ ri in
          let f = ⊖ c-eps-t ⊗ u ⊖ l in
          let df = ⊖ c-eps-t ⊗ du in
          let d2f = ⊖ c-eps-t ⊗ d2u in
          let u-du = f ⊘ df in
          let du-d2u = df ⊘ d2f in
          held (record { f = f; dr = u-du ⊘ (⊖ u-du ⊘ du-d2u ⊗ half ⊕ one) })

      -- at most n steps; a negative function value returns the radius as it is, the step having been worked
      unfoldable pub halley : ℕ → Num → Ans Num
      halley zero r = held r
      halley (suc n) r =
          halley_step r >>= λ s.
          let next = halley n (r ⊖ s.dr) in
          cond (lt (val s.f) zero64) (held (after s.dr r)) next

      -- `lower_integratal_limit`: from the repulsive contribution, at most 4 steps
      unfoldable pub lower_limit : Ans Num
      lower_limit =
          F.ln (lit epsilon64) >>= λ l.
          F.ln (⊖ (one ⊘ c-eps-t) ⊗ l) >>= λ k.
          F.exp (⊖ k ⊘ lr) >>= λ r.
          halley 4 r

      -- `beta_u_mie` with sigma 1.0
      unfoldable pub beta_u_mie : Num → Ans Num
      beta_u_mie r =
          let ri = inverse_from r in
          F.powf ri lr >>= λ plr.
          F.powf ri la >>= λ pla.
          held (beta_u_from plr pla c-eps-t)

      -- one node of the rule, from the reduced r0
      unfoldable pub node_turn : Num → ℕ → Num → Ans Num
      node_turn r0 k d =
          beta_u_mie (radius_from r0 (entry F positions k)) >>= λ u.
          F.expm1 (⊖ u) >>= λ e.
          held (added_from r0 (entry F weights k) e d)

      -- the diameter from the reduced r0
      unfoldable pub diameter_from : Num → Num → Ans Num
      diameter_from sigma r0 = walk 10 (node_turn r0) r0 >>= λ d. held (d ⊗ sigma)

    -- `hs_diameter_ij`
    unfoldable pub hs_diameter : Num → Num → Num → Num → Num → Num → Ans Num
    hs_diameter la lr c epsilon_k sigma temperature =
        let e = c_eps_t temperature c epsilon_k in
        lower_limit la lr e >>= λ r0.
        diameter_from la lr e sigma r0
