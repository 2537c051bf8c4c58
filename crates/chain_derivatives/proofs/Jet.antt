-- What a quotient of polynomials and its derivative come to at one density, operation by operation. Assumes nothing.
use mathlib.Core.Path.{◌≡◌, refl, sym, ap, ap₂, ◌∙◌}
use mathlib.Core.List.{List, [], ◌∷◌}
use mathlib.Core.Option.{some}
use Rattle.number.specs.Frac.{Frac, frac}
use Rattle.chain_derivatives.specs.Polynomial.{evaluated, sum, negative, product, counted, derivative}
use Rattle.chain_derivatives.specs.Quotient.{fractions, Quotient, constant_of, variable, add_q, neg_q, sub_q, mul_q, div_q}
use Rattle.chain_derivatives.proofs.Rational.{Rational, whole, ◌⊞◌, ◌⊠◌, ⊟◌, rational, plus_assoc, plus_comm, times_comm, plus_zero, times_zero, times_one, minus_times, minus_self, times_cancel, product_not_zero, one_not_zero}
use Rattle.chain_derivatives.proofs.Polynomial.{rationals, value, slope, sum_value, negative_value, product_value, sum_slope, negative_slope, product_slope}
use Rattle.chain_derivatives.proofs.Stands.{Stands, Stand, none, more, stands_whole, stand_sum, stand_negative, stand_product}

module _ (r : Rational) where
  -- a polynomial's value v and its derivative's value s
  pub record Jet (p : List Frac) (v s : Rational) : Type 0 where
    pub coefficients : List Rational
    pub stand : Stand p coefficients
    pub value_is : value r coefficients ≡ v
    pub slope_is : slope r coefficients ≡ s

  pub jet_as : {p : List Frac} {v s w t : Rational} → Jet p v s → v ≡ w → s ≡ t → Jet p w t
  jet_as j e f = record { coefficients = j.coefficients; stand = j.stand; value_is = j.value_is ∙ e; slope_is = j.slope_is ∙ f }

  pub jet_sum : {p q : List Frac} {v s w t : Rational} → Jet p v s → Jet q w t → Jet (sum fractions p q) (v ⊞ w) (s ⊞ t)
  jet_sum j k =
      record {
        coefficients = sum rationals j.coefficients k.coefficients;
        stand = stand_sum _ _ _ _ j.stand k.stand;
        value_is = sum_value r j.coefficients k.coefficients ∙ ap₂ ◌⊞◌ j.value_is k.value_is;
        slope_is = sum_slope r j.coefficients k.coefficients ∙ ap₂ ◌⊞◌ j.slope_is k.slope_is;
      }

  pub jet_negative : {p : List Frac} {v s : Rational} → Jet p v s → Jet (negative fractions p) (⊟ v) (⊟ s)
  jet_negative j =
      record {
        coefficients = negative rationals j.coefficients;
        stand = stand_negative _ _ j.stand;
        value_is = negative_value r j.coefficients ∙ ap (λ (x : Rational). ⊟ x) j.value_is;
        slope_is = negative_slope r j.coefficients ∙ ap (λ (x : Rational). ⊟ x) j.slope_is;
      }

  pub jet_product : {p q : List Frac} {v s w t : Rational} → Jet p v s → Jet q w t → Jet (product fractions p q) (v ⊠ w) (s ⊠ w ⊞ v ⊠ t)
  jet_product j k =
      record {
        coefficients = product rationals j.coefficients k.coefficients;
        stand = stand_product _ _ _ _ j.stand k.stand;
        value_is = product_value r j.coefficients k.coefficients ∙ ap₂ ◌⊠◌ j.value_is k.value_is;
        slope_is = product_slope r j.coefficients k.coefficients ∙ ap₂ ◌⊞◌ (ap₂ ◌⊠◌ j.slope_is k.value_is) (ap₂ ◌⊠◌ j.value_is k.slope_is);
      }

  pub jet_constant : {c : Frac} {a : Rational} → Stands c a → Jet (c ∷ []) a (whole 0)
  unfolding evaluated derivative counted
  jet_constant {a = a} h = record { coefficients = a ∷ []; stand = more h none; value_is = ap (λ (x : Rational). a ⊞ x) (times_zero r) ∙ plus_zero a; slope_is = refl }

  jet_variable : Jet (frac 0 0 1 ∷ frac 1 0 1 ∷ []) r (whole 1)
  unfolding evaluated derivative counted
  jet_variable =
      record {
        coefficients = whole 0 ∷ whole 1 ∷ [];
        stand = more (stands_whole 0) (more (stands_whole 1) none);
        value_is = simp rational;
        slope_is = simp rational;
      }

  -- A quotient P/Q of value v and slope s: Q is not zero, P is vQ, and P' is sQ + vQ'.
  pub record Derived (q : Quotient) (v s : Rational) : Type 0 where
    pub d : Rational
    pub d' : Rational
    pub over : Jet q.numerator (v ⊠ d) (s ⊠ d ⊞ v ⊠ d')
    pub under : Jet q.denominator d d'
    pub divisor : d ≡ whole 0 → ⊥

  pub derived_as : {q : Quotient} {v s w t : Rational} → Derived q v s → v ≡ w → s ≡ t → Derived q w t
  derived_as x e f =
      record {
        d = x.d;
        d' = x.d';
        over = jet_as x.over (ap (λ (y : Rational). y ⊠ x.d) e) (ap₂ (λ (y z : Rational). y ⊠ x.d ⊞ z ⊠ x.d') f e);
        under = x.under;
        divisor = x.divisor;
      }

  pub derived_constant : {c : Frac} {a : Rational} → Stands c a → Derived (constant_of (some c)) a (whole 0)
  unfolding constant_of
  derived_constant {a = a} h =
      record {
        d = whole 1;
        d' = whole 0;
        over = jet_as (jet_constant h) (sym (times_one a)) (simp rational);
        under = jet_constant (stands_whole 1);
        divisor = one_not_zero;
      }

  pub derived_variable : Derived variable r (whole 1)
  unfolding variable
  derived_variable = record { d = whole 1; d' = whole 0; over = jet_as jet_variable (sym (times_one r)) (simp rational); under = jet_constant (stands_whole 1); divisor = one_not_zero }

  -- ---- the algebra of the operations; d, d' and e, e' are the denominators' values and slopes
  module _ (v s w t d d' e e' : Rational) where
    sum_over : v ⊠ d ⊠ e ⊞ w ⊠ e ⊠ d ≡ (v ⊞ w) ⊠ (d ⊠ e)
    sum_over = simp rational

    sum_over' : (s ⊠ d ⊞ v ⊠ d') ⊠ e ⊞ v ⊠ d ⊠ e' ⊞ ((t ⊠ e ⊞ w ⊠ e') ⊠ d ⊞ w ⊠ e ⊠ d') ≡ (s ⊞ t) ⊠ (d ⊠ e) ⊞ (v ⊞ w) ⊠ (d' ⊠ e ⊞ d ⊠ e')
    sum_over' = simp rational

    product_over : v ⊠ d ⊠ (w ⊠ e) ≡ v ⊠ w ⊠ (d ⊠ e)
    product_over = simp rational

    product_over' : (s ⊠ d ⊞ v ⊠ d') ⊠ (w ⊠ e) ⊞ v ⊠ d ⊠ (t ⊠ e ⊞ w ⊠ e') ≡ (s ⊠ w ⊞ v ⊠ t) ⊠ (d ⊠ e) ⊞ v ⊠ w ⊠ (d' ⊠ e ⊞ d ⊠ e')
    product_over' = simp rational

    -- v is v/w here and s its slope, so that v ⊠ w is what was divided and s ⊠ w ⊞ v ⊠ t its slope
    quotient_over : v ⊠ w ⊠ d ⊠ e ≡ v ⊠ (d ⊠ (w ⊠ e))
    quotient_over = simp rational

    quotient_over' : ((s ⊠ w ⊞ v ⊠ t) ⊠ d ⊞ v ⊠ w ⊠ d') ⊠ e ⊞ v ⊠ w ⊠ d ⊠ e' ≡ s ⊠ (d ⊠ (w ⊠ e)) ⊞ v ⊠ (d' ⊠ (w ⊠ e) ⊞ d ⊠ (t ⊠ e ⊞ w ⊠ e'))
    quotient_over' = simp rational

  module _ {x y : Quotient} {v s w t : Rational} where
    pub derived_add : Derived x v s → Derived y w t → Derived (add_q x y) (v ⊞ w) (s ⊞ t)
    unfolding add_q
    derived_add h k =
        record {
          d = h.d ⊠ k.d;
          d' = h.d' ⊠ k.d ⊞ h.d ⊠ k.d';
          over = jet_as (jet_sum (jet_product h.over k.under) (jet_product k.over h.under)) (sum_over v s w t h.d h.d' k.d k.d') (sum_over' v s w t h.d h.d' k.d k.d');
          under = jet_product h.under k.under;
          divisor = product_not_zero h.d k.d h.divisor k.divisor;
        }

    pub derived_mul : Derived x v s → Derived y w t → Derived (mul_q x y) (v ⊠ w) (s ⊠ w ⊞ v ⊠ t)
    unfolding mul_q
    derived_mul h k =
        record {
          d = h.d ⊠ k.d;
          d' = h.d' ⊠ k.d ⊞ h.d ⊠ k.d';
          over = jet_as (jet_product h.over k.over) (product_over v s w t h.d h.d' k.d k.d') (product_over' v s w t h.d h.d' k.d k.d');
          under = jet_product h.under k.under;
          divisor = product_not_zero h.d k.d h.divisor k.divisor;
        }

    by_quotient : Derived x (v ⊠ w) (s ⊠ w ⊞ v ⊠ t) → Derived y w t → (w ≡ whole 0 → ⊥) → Derived (div_q x y) v s
    unfolding div_q
    by_quotient h k n =
        record {
          d = h.d ⊠ (w ⊠ k.d);
          d' = h.d' ⊠ (w ⊠ k.d) ⊞ h.d ⊠ (t ⊠ k.d ⊞ w ⊠ k.d');
          over = jet_as (jet_product h.over k.under) (quotient_over v s w t h.d h.d' k.d k.d') (quotient_over' v s w t h.d h.d' k.d k.d');
          under = jet_product h.under k.over;
          divisor = product_not_zero h.d (w ⊠ k.d) h.divisor (product_not_zero w k.d n k.divisor);
        }

  pub derived_neg : {x : Quotient} {v s : Rational} → Derived x v s → Derived (neg_q x) (⊟ v) (⊟ s)
  unfolding neg_q
  derived_neg {v = v} {s = s} h =
      record {
        d = h.d;
        d' = h.d';
        over = jet_as (jet_negative h.over) (sym (minus_times v h.d)) (negative_over s v h.d h.d');
        under = h.under;
        divisor = h.divisor;
      }
    where
      negative_over : (s v d d' : Rational) → ⊟ (s ⊠ d ⊞ v ⊠ d') ≡ ⊟ s ⊠ d ⊞ ⊟ v ⊠ d'
      negative_over s v d d' = simp rational

  pub derived_sub : {x y : Quotient} {v s w t : Rational} → Derived x v s → Derived y w t → Derived (sub_q x y) (v ⊞ ⊟ w) (s ⊞ ⊟ t)
  unfolding sub_q
  derived_sub h k = derived_add h (derived_neg k)

  -- z times w is v, and u times ww is sw − vt
  pub derived_div : {x y : Quotient} {v s w t z u : Rational} → Derived x v s → Derived y w t → (w ≡ whole 0 → ⊥) → z ⊠ w ≡ v → u ⊠ (w ⊠ w) ≡ s ⊠ w ⊞ ⊟ (v ⊠ t) → Derived (div_q x y) z u
  derived_div {v = v} {s = s} {w = w} {t = t} {z = z} {u = u} h k n e f = by_quotient (derived_as h (sym e) (sym (times_cancel w _ _ n (slope_of f)))) k n
    where
      moved : (a b : Rational) → a ⊞ ⊟ b ⊞ b ≡ a
      moved a b = plus_assoc a (⊟ b) b ∙ ap (λ (y : Rational). a ⊞ y) (plus_comm (⊟ b) b ∙ minus_self b) ∙ plus_zero a

      spread : (u w z t : Rational) → w ⊠ (u ⊠ w ⊞ z ⊠ t) ≡ u ⊠ (w ⊠ w) ⊞ z ⊠ w ⊠ t
      spread u w z t = simp rational

      slope_of : u ⊠ (w ⊠ w) ≡ s ⊠ w ⊞ ⊟ (v ⊠ t) → w ⊠ (u ⊠ w ⊞ z ⊠ t) ≡ w ⊠ s
      slope_of f = spread u w z t ∙ ap₂ ◌⊞◌ f (ap (λ (y : Rational). y ⊠ t) e) ∙ moved (s ⊠ w) (v ⊠ t) ∙ times_comm s w
