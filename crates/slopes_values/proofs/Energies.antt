-- The energies with slopes have the values of the energies without them. Assumes nothing.
use Prim.Native.Nat.{ℕ}
use native.Mathlib.Omega.{arith}
use lib.Ieee.{Float}
use lib.Ieee.Scale.{finite}
use mathlib.Core.Bool.{Bool, true, false, ◌&&◌}
use mathlib.Core.List.{List}
use mathlib.Core.Path.{◌≡◌, refl, ap}
use Rattle.number.specs.Ans.{held, refused, ◌>>=◌, demand}
use Rattle.number.specs.Arith.{floats}
use Rattle.number.specs.Functions.{Answers, calls}
use Rattle.number.proofs.Walk.{then_held, held_inj}
use Rattle.limits.specs.Limits.{state_within}
use Rattle.dual.specs.Dual.{DualOf, plain_d}
use Rattle.slopes.specs.Mixed.{Mixed, plain, sloped, as_dual, value_of, mixed_one}
use Rattle.saftvrqmie_parameters.specs.declared.SaftVRQMiePars.{SaftVRQMiePars}
use Rattle.saftvrqmie_hard_sphere.specs.State.{points}
use Rattle.saftvrqmie_energies.specs.Energies.{EnergiesIn, contributions_of, energies_finite, state_lengths, energies_by}
use Rattle.saftvrqmie_energies_slopes.specs.State.{sloped_at, sloped_sheets}
use Rattle.saftvrqmie_energies_slopes.specs.Energies.{as_duals, finite_dual, slopes_finite, contributions_slope, energies_slope}
use Rattle.slopes_values.specs.Values.{energies_values}
use Rattle.slopes_values.specs.Energies.{duals_values, EnergiesKept}
use Rattle.slopes_values.proofs.Values.{one_is_kept}

-- the value of a number is that of the D it is taken as
re_is : (x : Mixed) → value_of x ≡ (as_dual x).re
unfolding plain_d
re_is (plain x) = refl
re_is (sloped x) = refl

values_are : (e : EnergiesIn Mixed) → energies_values e ≡ duals_values (as_duals e)
values_are e = rw (re_is e.hard_sphere, re_is e.dispersion, re_is e.non_additive)

-- where values and slopes are finite, the values are
both_finite : (a b c d e f : Bool) → ((a && b) && (c && d) && (e && f)) ≡ true → (a && c && e) ≡ true
both_finite true true true true true f p = refl
both_finite true true true true false f p = p
both_finite true true true false e f p = absurd (mathlib.Core.Bool.false≢true p)
both_finite true true false d e f p = p
both_finite true false c d e f p = absurd (mathlib.Core.Bool.false≢true p)
both_finite false b c d e f p = p

finite_values : (e : EnergiesIn (DualOf Float)) → slopes_finite e ≡ true → energies_finite (duals_values e) ≡ true
unfolding slopes_finite finite_dual energies_finite
finite_values e p = both_finite (finite e.hard_sphere.re) (finite e.hard_sphere.eps) (finite e.dispersion.re) (finite e.dispersion.eps) (finite e.non_additive.re) (finite e.non_additive.eps) p

module _ (E : Answers) (s : SaftVRQMiePars) (t : DualOf Float) (x x' rho rho' table table' : List Float) (wanted : Bool) where
  run_kept : (e : EnergiesIn Mixed) → contributions_slope E s t x x' rho rho' table table' wanted ≡ held e → contributions_of floats (calls floats E) s t.re x rho table wanted ≡ held (energies_values e)
  unfolding contributions_slope sloped_at
  run_kept e q = one_is_kept.contributions_one_kept E (sloped_sheets s.count s.sheets s.orders t table table') (sloped_at x x') (sloped_at rho rho') (points mixed_one s.m) (sloped t) wanted e q

  tested : (e : EnergiesIn Mixed) (d : EnergiesIn (DualOf Float)) (b : Bool) → slopes_finite (as_duals e) ≡ b → (demand 7 b >>= λ _. held (as_duals e)) ≡ held d → (slopes_finite (as_duals e) ≡ true) × (as_duals e ≡ d)
  unfolding demand ◌>>=◌
  tested e d true p q = (p, held_inj (as_duals e) d q)
  tested e d false p q = absurd (never q)
    where
      never : refused 7 ≡ held d → ⊥
      never q = let z : ◌≡◌ {A = ℕ} 0 1 = cc in omega arith

  energies_kept : (d : EnergiesIn (DualOf Float)) → energies_slope E s t x x' rho rho' table table' wanted ≡ held d → state_lengths s.count x rho table ≡ true → state_within s.count t.re x rho ≡ true → energies_by E s t.re x rho table wanted ≡ held (duals_values d)
  unfolding energies_slope energies_by demand ◌>>=◌
  energies_kept d q p₁ p₂ =
      let h = then_held (contributions_slope E s t x x' rho rho' table table' wanted) _ d q in
      let e = h.0 in
      let g = tested e d (slopes_finite (as_duals e)) refl h.2 in
      let r = run_kept e h.1 in
      rw (p₁, p₂, r, values_are e, finite_values (as_duals e) g.0) (ap (λ (v : EnergiesIn (DualOf Float)). held (duals_values v)) g.1)

pub energies_are_kept : EnergiesKept
energies_are_kept = record { energies_kept = λ E s t x x' rho rho' table table' wanted e q p₁ p₂. energies_kept E s t x x' rho rho' table table' wanted e q p₁ p₂ }
