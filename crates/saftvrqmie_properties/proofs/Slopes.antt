-- A pair's properties beside plain numbers are those where every number is a D. Assumes nothing.
use Prim.Native.Nat.{ℕ}
use native.Mathlib.Omega.{arith}
use lib.Ieee as Ieee
use lib.Ieee.{Float}
use mathlib.Core.Bool.{false}
use mathlib.Core.Path.{◌≡◌, refl, sym, ap, subst}
use Rattle.std.specs.Prelude.{Result, Ok, Err}
use Rattle.number.specs.declared.refusal.Refusal.{Refusal}
use Rattle.number.specs.Ans.{Ans, held, refused}
use Rattle.number.specs.Answer.{code, answer_by}
use Rattle.number.specs.Arith.{floats, bits, decimal}
use Rattle.number.specs.Functions.{Answers}
use Rattle.number.proofs.Rel.{Both, both_held, both_refused, then_both}
use Rattle.number.proofs.Walk.{held_inj}
use Rattle.elementary.specs.Port.{port}
use Rattle.dual.specs.Dual.{DualOf, plain_d, mul_d, div_d, duals}
use Rattle.dual.specs.Value.{dual_of}
use Rattle.dual.specs.declared.Dual.{Dual}
use Rattle.slopes.specs.Mixed.{Mixed, plain, sloped, as_dual, mixed}
use Rattle.slopes.specs.Rules.{mixed_functions, dual_functions}
use Rattle.saftvrqmie_potential.specs.Potential.{FloatPair, prefactor, quantum_d, potential}
use Rattle.saftvrqmie_potential.specs.Slopes.{mixed_pair}
use Rattle.saftvrqmie_searches.proofs.Slopes.{Same, is_same, s_neg, s_after, sigma_same, zero_same, diameter_same, depth_same}
use Rattle.saftvrqmie_properties.specs.declared.PairProperties.{PairProperties}
use Rattle.saftvrqmie_properties.specs.Properties.{PairPropertiesIn, pair_properties_by, radius_of, properties_from, properties_by}
use Rattle.saftvrqmie_properties.specs.Slopes.{properties_slope}
use Rattle.saftvrqmie_properties.proofs.Relation.{PropertiesR, radius_rel, last_rel}

abbrev D : Type 0
D = DualOf Float

-- ---- the prefactor has no slope
prefactor_plain : (E : Answers) → prefactor mixed (mixed_functions E) ≡ plain (bits 0x3a80_9e96_28fe_8caa)
unfolding prefactor decimal Ieee.mul Ieee.div Ieee.of_bits
prefactor_plain E = refl

prefactor_dual : (E : Answers) → prefactor (duals floats) (dual_functions E) ≡ plain_d floats (bits 0x3a80_9e96_28fe_8caa)
unfolding prefactor decimal mul_d div_d plain_d Ieee.add Ieee.sub Ieee.mul Ieee.div Ieee.of_bits
prefactor_dual E = refl

module _ (E : Answers) where
  quantum_same : (m : Float) (t : D) → Same (quantum_d mixed (mixed_functions E) (plain m) (sloped t)) (quantum_d (duals floats) (dual_functions E) (plain_d floats m) t)
  unfolding quantum_d
  quantum_same m t = record { same = rw (prefactor_plain E, prefactor_dual E) }

  module _ (p : FloatPair) (t : D) where
    pub properties_same : Both (PropertiesR Same) (properties_from mixed (mixed_functions E) (potential mixed (mixed_functions E) (mixed_pair p t)) (mixed.mul (sloped (plain_d floats (decimal false 1 0))) (plain p.sigma)) (plain p.mass) (sloped t)) (properties_slope E p t)
    unfolding properties_slope properties_by
    properties_same =
        then_both (sigma_same E p t (is_same _)) (λ _ _ s.
        let sigma = radius_rel Same s.search in
        then_both (zero_same E p t sigma) (λ _ _ z.
        then_both (diameter_same E p t sigma (radius_rel Same z.search)) (λ _ _ d.
        then_both (depth_same E p t (is_same _)) (λ x y e.
        both_held
        (record {
          sigma_eff = sigma;
          hs_diameter = d;
          epsilon_k_eff = s_neg (s_after (last_rel Same e.search) (radius_of x.search) (radius_of y.search));
          quantum_d = quantum_same p.mass t;
          sigma_count = s.count;
          zero_count = z.count;
          depth_count = e.count;
        })))))

-- ---- read from the code's answer
held_refused : {S : Type 0} (x : S) (n : ℕ) → held x ≡ refused n → ⊥
held_refused x n p = let z : ◌≡◌ {A = ℕ} 0 1 = cc in omega arith

refused_inj : {S : Type 0} (m n : ℕ) → ◌≡◌ {A = Ans S} (refused m) (refused n) → m ≡ n
refused_inj m n p = cc

abbrev of_mixed : Dual → Mixed
of_mixed x = sloped (dual_of x)

d_is : {x y : D} → Same (sloped x) y → x ≡ y
d_is p = ap as_dual p.same

parts_are : (p : PairProperties Dual) (v : PairPropertiesIn D) → PropertiesR Same (pair_properties_by of_mixed p) v → pair_properties_by dual_of p ≡ v
parts_are p v r = rw (d_is r.sigma_eff, d_is r.hs_diameter, d_is r.epsilon_k_eff, d_is r.quantum_d, r.sigma_count, r.zero_count, r.depth_count)

answer_from : (a : Result (PairProperties Dual) Refusal) (m : Ans (PairPropertiesIn Mixed)) (b : Ans (PairPropertiesIn D)) → answer_by (pair_properties_by of_mixed) a ≡ m → Both (PropertiesR Same) m b → answer_by (pair_properties_by dual_of) a ≡ b
answer_from (Ok p) m b e (both_held {x = x} {y = y} r) = ap held (parts_are p y (subst (λ (w : _). PropertiesR Same w y) (sym (held_inj (pair_properties_by of_mixed p) x e)) r))
answer_from (Err k) m b e (both_refused {n = n}) = ap refused (refused_inj (code k) n e)
answer_from (Ok p) m b e (both_refused {n = n}) = absurd (held_refused _ n e)
answer_from (Err k) m b e (both_held {x = x} r) = absurd (held_refused x _ (sym e))

-- the answer at a pair that is the float pair q at the temperature t
pub slope_answer : (a : Result (PairProperties Dual) Refusal) (q : FloatPair) (t : D)
    → answer_by (pair_properties_by of_mixed) a ≡ properties_from mixed (mixed_functions port) (potential mixed (mixed_functions port) (mixed_pair q t)) (mixed.mul (sloped (plain_d floats (decimal false 1 0))) (plain q.sigma)) (plain q.mass) (sloped t)
    → answer_by (pair_properties_by dual_of) a ≡ properties_slope port q t
slope_answer a q t e = answer_from a _ _ e (properties_same port q t)
