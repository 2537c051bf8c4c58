-- The terms of a component, worked with slopes in the exact run, are quotients of polynomials in the segment density, and their slopes are the derivatives: from one relation by the lemma of each formula. Assumes nothing.
use Prim.Native.Nat.{ℕ, ◌*◌, ◌<◌}
use native.Mathlib.Nat.{eq-zero-or-pos}
use native.Mathlib.Omega.{arith}
use mathlib.Core.Path.{◌≡◌, refl, ap, ap₂, ◌∙◌, subst}
use mathlib.Core.Logic.{◌⊎◌, inl, inr}
use mathlib.Core.Bool.{false, not}
use mathlib.Core.Option.{some}
use mathlib.Core.List.{List}
use lib.Dec.{T}
use Rattle.number.specs.Ans.{Ans, held, refused}
use Rattle.number.specs.Arith.{decimal}
use Rattle.number.specs.Frac.{Frac, frac, Pos, mul_f, div_f}
use Rattle.number.specs.Functions.{calls}
use Rattle.number.proofs.Rel.{Both, both_held, both_refused, calls_rel}
use Rattle.enclosure.specs.Constants.{Choice}
use Rattle.enclosure.specs.Exact.{Exact, exacts, exactly, is_zero, div_x}
use Rattle.dual.specs.Dual.{DualOf, plain_d}
use Rattle.saftvrmie_parameters.specs.declared.PairParameters.{PairParameters}
use Rattle.saftvrmie_dispersion.specs.Answer.{pair_in}
use Rattle.saftvrmie_dispersion.specs.Sutherland.{FluidIn, k_hs, fluid_of}
use Rattle.saftvrmie_dispersion.specs.Chain.{rho_dual, zeta_dual, fluid_dual}
use Rattle.saftvrmie_dispersion.proofs.Relation.{Pairs, Fluids, k_hs_rel, fluid_of_rel, orders_of_rel}
use Rattle.chain_derivatives.specs.Polynomial.{evaluated, negative, product, derivative}
use Rattle.chain_derivatives.specs.Quotient.{fractions, Quotient, constant_of, constant, variable, mul_q, quotients, value_at, derived}
use Rattle.chain_derivatives.specs.Chain.{OfFractions, fluid_quotient, SlopeIsDerivative, DensityAt, ChainSlopes}
use Rattle.chain_derivatives.proofs.Rational.{Rational, of, whole_p, whole, ◌⊞◌, ◌⊠◌, ⊟◌, rational, times_comm, plus_zero, minus_self, times_cancel, product_not_zero}
use Rattle.chain_derivatives.proofs.Polynomial.{rationals, value, slope, sum_value, negative_value, product_value}
use Rattle.chain_derivatives.proofs.Stands.{Stands, proper, itself, equals, one_number, stands_mul, stands_div, is_not_zero, not_zero, stand_evaluated, stand_sum, stand_negative, stand_product, stand_derivative}
use Rattle.chain_derivatives.proofs.Jet.{Jet, Derived, derived_constant, derived_variable}
use Rattle.chain_derivatives.proofs.Results.{Known, known, exactly_known, one_result, from_div, has_div}
use Rattle.chain_derivatives.proofs.Guarded.{no_result, guarded, same_fluid, same_orders}
use Rattle.chain_derivatives.proofs.Derives.{Derives, result_is, result_zero, derives_plain, derives_mul, derivatives}

-- ---- from the relation to the claim
module _ (r : Rational) (x : Frac) (at : Stands x r) where
  -- (s d + v d') d − v d d' is s d d
  left_over : (s v d d' : Rational) → (s ⊠ d ⊞ v ⊠ d') ⊠ d ⊞ ⊟ (v ⊠ d ⊠ d') ≡ s ⊠ (d ⊠ d)
  left_over s v d d' = spread ∙ ap (λ (y : Rational). s ⊠ (d ⊠ d) ⊞ y) (minus_self (v ⊠ (d ⊠ d'))) ∙ plus_zero _
    where
      spread : (s ⊠ d ⊞ v ⊠ d') ⊠ d ⊞ ⊟ (v ⊠ d ⊠ d') ≡ s ⊠ (d ⊠ d) ⊞ (v ⊠ (d ⊠ d') ⊞ ⊟ (v ⊠ (d ⊠ d')))
      spread = simp rational

  jet_at : (p : List Frac) (v s : Rational) → Jet r p v s → Stands (evaluated fractions p x) v
  jet_at p v s j = subst (Stands (evaluated fractions p x)) j.value_is (stand_evaluated p j.coefficients x r j.stand at)

  cancelled : (d a w : Rational) → (d ≡ whole 0 → ⊥) → w ⊠ d ≡ a ⊠ d → w ≡ a
  cancelled d a w h e = times_cancel d w a h (times_comm d w ∙ e ∙ times_comm a d)

  module _ (q : Quotient) (a b : Rational) (h : Derived r q a b) where
    bottom : Stands (evaluated fractions q.denominator x) h.d
    bottom = jet_at q.denominator h.d h.d' h.under

    value_stands : Stands (value_at q x) a
    unfolding value_at
    value_stands =
        let top = jet_at q.numerator _ _ h.over in
        let w = stands_div _ _ _ _ top bottom (is_not_zero _ _ bottom h.divisor) in
        subst (Stands (div_f (evaluated fractions q.numerator x) (evaluated fractions q.denominator x))) (cancelled h.d a w.0 h.divisor w.2) w.1

    slope_stands : Stands (value_at (derived q) x) b
    unfolding value_at derived
    slope_stands =
        let n = h.over.coefficients in
        let m = h.under.coefficients in
        let n' = derivative rationals n in
        let m' = derivative rationals m in
        let sn = h.over.stand in
        let sm = h.under.stand in
        let list = stand_sum _ _ _ _ (stand_product _ _ _ _ (stand_derivative _ _ sn) sm) (stand_negative _ _ (stand_product _ _ _ _ sn (stand_derivative _ _ sm))) in
        let top = stand_evaluated _ _ x r list at in
        let low = stand_evaluated _ _ x r (stand_product _ _ _ _ sm sm) at in
        let low-is = product_value r m m ∙ ap₂ ◌⊠◌ h.under.value_is h.under.value_is in
        let nonzero = product_not_zero h.d h.d h.divisor h.divisor in
        let w = stands_div _ _ _ _ top (subst (Stands _) low-is low) (is_not_zero _ _ (subst (Stands _) low-is low) nonzero) in
        let top_is =
        sum_value r (product rationals n' m) (negative rationals (product rationals n m'))
        ∙ ap₂ ◌⊞◌ (product_value r n' m ∙ ap₂ ◌⊠◌ h.over.slope_is h.under.value_is)
        (negative_value r (product rationals n m') ∙ ap (λ (y : Rational). ⊟ y) (product_value r n m' ∙ ap₂ ◌⊠◌ h.over.value_is h.under.slope_is))
        ∙ left_over b a h.d h.d' in
        subst (Stands _) (cancelled (h.d ⊠ h.d) b w.0 nonzero (w.2 ∙ top_is)) w.1

  pub claim : (q : Quotient) (t : DualOf Exact) → Derives r t q → SlopeIsDerivative q x t
  claim q t h v s e f =
      let g = h (v, e) (s, f) in
      let vs = subst (λ (y : Frac). Stands y g.a) (one_result t.re _ v g.value.has e) g.value.stands in
      let ss = subst (λ (y : Frac). Stands y g.b) (one_result t.eps _ s g.slope.has f) g.slope.stands in
      record {
        divisor = is_not_zero _ _ (bottom q g.a g.b g.derived) g.derived.divisor;
        value = equals _ _ g.a vs (value_stands q g.a g.b g.derived);
        slope = equals _ _ g.b ss (slope_stands q g.a g.b g.derived);
      }

-- ---- the state: the density and the packing fraction
pos_left : (d c : ℕ) → 0 < d * c → 0 < d
pos_left d c h = go (eq-zero-or-pos d)
  where
    go : (d ≡ 0) ⊎ (0 < d) → 0 < d
    go (inl e) = let k = subst (λ (n : ℕ). 0 < n * c) e h in omega arith
    go (inr k) = k

ratio_proper : (g x : Frac) → Pos (mul_f g x) → Pos g
ratio_proper (frac p n d) (frac q m c) h = pos_left d c h

module _ (C : Choice) (ratio x : Frac) (zeta_x rho : Exact) (h : DensityAt ratio x zeta_x rho) where
  abbrev r : Rational
  r = of (proper x h.proper)

  pub rho_derives : Derives r (rho_dual (exacts C) rho) variable
  unfolding rho_dual whole decimal
  rho_derives s t =
      record {
        a = r;
        b = whole 1;
        value = record { fraction = x; has = h.density; stands = itself x h.proper };
        slope = result_is (decimal false 1 0) (whole_p 1) refl refl;
        derived = derived_variable r;
      }

  pub ratio_derives : Derives r (plain_d (exacts C) (div_x zeta_x rho)) (constant_of (some ratio))
  unfolding plain_d
  ratio_derives s t =
      let k = from_div zeta_x rho s in
      let z = k.0.0 in
      let same = h.packing z k.0.1 in
      let g = itself ratio (ratio_proper ratio x same.right) in
      let nonzero = subst (λ (f : Frac). T (not (is_zero f))) (one_result rho k.1.0 x k.1.1 h.density) k.1.2 in
      let at = itself x h.proper in
      let zs = itself z same.left in
      let w = stands_div z x _ r zs at nonzero in
      let e = one_number z (mul_f ratio x) _ _ same zs (stands_mul ratio x _ r g at) in
      let is = times_cancel r w.0 _ (not_zero x r at nonzero) (times_comm r w.0 ∙ w.2 ∙ e ∙ times_comm _ r) in
      record {
        a = _;
        b = whole 0;
        value = record { fraction = div_f z x; has = has_div zeta_x rho z x k.0.1 h.density nonzero; stands = subst (Stands (div_f z x)) is w.1 };
        slope = result_zero;
        derived = derived_constant r g;
      }

  pub zeta_derives : Derives r (zeta_dual (exacts C) zeta_x rho) (mul_q (constant_of (some ratio)) variable)
  unfolding zeta_dual
  zeta_derives = rw h.not_zero (derives_mul C r _ _ _ _ ratio_derives rho_derives)

  pub fluid_derives : OfFractions C → Fluids (Derives r) (fluid_dual (exacts C) zeta_x rho) (fluid_quotient C ratio)
  unfolding fluid_dual fluid_quotient
  fluid_derives fine =
      subst (λ (w : FluidIn (DualOf Exact)). Fluids (Derives r) w (fluid_of (quotients C) variable (mul_q (constant_of (some ratio)) variable) (k_hs (quotients C) (mul_q (constant_of (some ratio)) variable))))
      (same_fluid (exacts C) no_result (rho_dual (exacts C) rho) (zeta_dual (exacts C) zeta_x rho))
      (fluid_of_rel (guarded (exacts C) no_result) (quotients C) (derivatives C r fine) rho_derives zeta_derives (k_hs_rel (guarded (exacts C) no_result) (quotients C) (derivatives C r fine) zeta_derives))

-- ---- the theorem
pair_known : (p : PairParameters) → Pairs Known (pair_in exactly p) (pair_in exactly p)
pair_known p = record { sigma = exactly_known _; epsilon_k = exactly_known _; lr = exactly_known _; la = exactly_known _; c = exactly_known _; alpha = exactly_known _ }

pub held_same : {S : Type 0} {x y : S} → held x ≡ held y → x ≡ y
held_same e = cc

pub not_held : {S : Type 0} {n : ℕ} {x : S} → ◌≡◌ {A = Ans S} (refused n) (held x) → ⊥
not_held {S} e = subst is_refused e tt
  where
    is_refused : Ans S → Type 0
    is_refused (refused n) = Unit {0}
    is_refused (held x) = ⊥

pub both_of : {S T : Type 0} {R : S → T → Type 0} {a : Ans S} {b : Ans T} (o : S) → Both R a b → a ≡ held o → (q : T) × (b ≡ held q) × R o q
both_of {R = R} o (both_held {y = y} p) e = (y, refl, subst (λ x. R x y) (held_same e) p)
both_of o both_refused e = absurd (not_held e)

pub chain_slopes : ChainSlopes
chain_slopes C fine E ratio p d x zeta_x rho o h e =
    let r = of (proper x h.proper) in
    let F = calls (exacts C) E in
    let all =
    orders_of_rel (exacts C) (exacts C) (known C fine) (guarded (exacts C) no_result) (quotients C) (derivatives C r fine) (plain_d (exacts C)) constant (λ y u k. derives_plain C r y u k) F F (calls_rel (exacts C) (exacts C) (known C fine) E)
    (fluid_derives C ratio x zeta_x rho h fine) (pair_known p) (exactly_known d) in
    let k = both_of o all (same_orders (exacts C) no_result F (fluid_dual (exacts C) zeta_x rho) (pair_in exactly p) (exactly d) ∙ e) in
    let at = itself x h.proper in
    (k.0, k.1, record { first = claim r x at _ _ k.2.a1; second = claim r x at _ _ k.2.a2 })
