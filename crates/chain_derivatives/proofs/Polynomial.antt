-- Values of polynomials over the rational numbers, and of their derivatives: of a sum, a negative, a product. Assumes nothing.
use Prim.Native.Nat.{ℕ, suc}
use native.Mathlib.Omega.{arith}
use mathlib.Core.Path.{◌≡◌, sym, ap, ap₂, ◌∙◌}
use mathlib.Core.List.{List, [], ◌∷◌}
use Rattle.chain_derivatives.specs.Polynomial.{Coefficients, evaluated, sum, negative, scaled, product, counted, derivative}
use Rattle.chain_derivatives.proofs.Rational.{Rational, whole, ◌⊞◌, ◌⊠◌, ⊟◌, rational, whole_plus, zero_plus, plus_zero, zero_times, times_zero, one_times, minus_self}

abbrev pub rationals : Coefficients Rational
rationals = record { add = ◌⊞◌; mul = ◌⊠◌; neg = ⊟◌; whole = whole }

minus_zero : ⊟ whole 0 ≡ whole 0
minus_zero = sym (zero_plus (⊟ whole 0)) ∙ minus_self (whole 0)

-- ---- what one coefficient more comes to; x is the variable, v and w are values of what is left
module _ (x c d k v w s t : Rational) where
  sum_step : c ⊞ d ⊞ x ⊠ (v ⊞ w) ≡ c ⊞ x ⊠ v ⊞ (d ⊞ x ⊠ w)
  sum_step = simp rational

  negative_step : ⊟ c ⊞ x ⊠ ⊟ v ≡ ⊟ (c ⊞ x ⊠ v)
  negative_step = simp rational

  scaled_step : k ⊠ c ⊞ x ⊠ (k ⊠ v) ≡ k ⊠ (c ⊞ x ⊠ v)
  scaled_step = simp rational

  product_step : c ⊠ w ⊞ (whole 0 ⊞ x ⊠ (v ⊠ w)) ≡ (c ⊞ x ⊠ v) ⊠ w
  product_step = simp rational

  counted_sum_step : k ⊠ (c ⊞ d) ⊞ x ⊠ (v ⊞ w) ≡ k ⊠ c ⊞ x ⊠ v ⊞ (k ⊠ d ⊞ x ⊠ w)
  counted_sum_step = simp rational

  counted_negative_step : k ⊠ ⊟ c ⊞ x ⊠ ⊟ v ≡ ⊟ (k ⊠ c ⊞ x ⊠ v)
  counted_negative_step = simp rational

  counted_scaled_step : k ⊠ (d ⊠ c) ⊞ x ⊠ (d ⊠ v) ≡ d ⊠ (k ⊠ c ⊞ x ⊠ v)
  counted_scaled_step = simp rational

  counted_step : k ⊠ c ⊞ x ⊠ ((whole 1 ⊞ k) ⊠ v ⊞ x ⊠ s) ≡ k ⊠ (c ⊞ x ⊠ v) ⊞ x ⊠ (whole 1 ⊠ v ⊞ x ⊠ s)
  counted_step = simp rational

  slope_product_step : c ⊠ t ⊞ (v ⊠ w ⊞ x ⊠ (s ⊠ w ⊞ v ⊠ t)) ≡ (v ⊞ x ⊠ s) ⊠ w ⊞ (c ⊞ x ⊠ v) ⊠ t
  slope_product_step = simp rational

module _ (r : Rational) where
  abbrev pub value : List Rational → Rational
  value p = evaluated rationals p r

  abbrev pub slope : List Rational → Rational
  slope p = value (derivative rationals p)

  abbrev o : Rational
  o = whole 0

  -- ---- values
  pub sum_value : (p q : List Rational) → value (sum rationals p q) ≡ value p ⊞ value q
  unfolding evaluated sum
  sum_value [] q = sym (zero_plus (value q))
  sum_value (c ∷ p) [] = sym (plus_zero _)
  sum_value (c ∷ p) (d ∷ q) = ap (λ (y : Rational). c ⊞ d ⊞ r ⊠ y) (sum_value p q) ∙ sum_step r c d o (value p) (value q) o o

  pub negative_value : (p : List Rational) → value (negative rationals p) ≡ ⊟ value p
  unfolding evaluated negative
  negative_value [] = sym minus_zero
  negative_value (c ∷ p) = ap (λ (y : Rational). ⊟ c ⊞ r ⊠ y) (negative_value p) ∙ negative_step r c o o (value p) o o o

  scaled_value : (k : Rational) (p : List Rational) → value (scaled rationals k p) ≡ k ⊠ value p
  unfolding evaluated scaled
  scaled_value k [] = sym (times_zero k)
  scaled_value k (c ∷ p) = ap (λ (y : Rational). k ⊠ c ⊞ r ⊠ y) (scaled_value k p) ∙ scaled_step r c o k (value p) o o o

  pub product_value : (p q : List Rational) → value (product rationals p q) ≡ value p ⊠ value q
  unfolding evaluated product
  product_value [] q = sym (zero_times (value q))
  product_value (c ∷ p) q =
      sum_value (scaled rationals c q) (whole 0 ∷ product rationals p q)
      ∙ ap₂ (λ (y z : Rational). y ⊞ (whole 0 ⊞ r ⊠ z)) (scaled_value c q) (product_value p q)
      ∙ product_step r c o o (value p) (value q) o o

  -- ---- the coefficients counted
  counted_sum : (k : ℕ) (p q : List Rational) → value (counted rationals k (sum rationals p q)) ≡ value (counted rationals k p) ⊞ value (counted rationals k q)
  unfolding evaluated sum counted
  counted_sum k [] q = sym (zero_plus _)
  counted_sum k (c ∷ p) [] = sym (plus_zero _)
  counted_sum k (c ∷ p) (d ∷ q) = ap (λ (y : Rational). whole k ⊠ (c ⊞ d) ⊞ r ⊠ y) (counted_sum (suc k) p q) ∙ counted_sum_step r c d (whole k) (value (counted rationals (suc k) p)) (value (counted rationals (suc k) q)) o o

  counted_negative : (k : ℕ) (p : List Rational) → value (counted rationals k (negative rationals p)) ≡ ⊟ value (counted rationals k p)
  unfolding evaluated negative counted
  counted_negative k [] = sym minus_zero
  counted_negative k (c ∷ p) = ap (λ (y : Rational). whole k ⊠ ⊟ c ⊞ r ⊠ y) (counted_negative (suc k) p) ∙ counted_negative_step r c o (whole k) (value (counted rationals (suc k) p)) o o o

  counted_scaled : (k : ℕ) (d : Rational) (p : List Rational) → value (counted rationals k (scaled rationals d p)) ≡ d ⊠ value (counted rationals k p)
  unfolding evaluated scaled counted
  counted_scaled k d [] = sym (times_zero d)
  counted_scaled k d (c ∷ p) = ap (λ (y : Rational). whole k ⊠ (d ⊠ c) ⊞ r ⊠ y) (counted_scaled (suc k) d p) ∙ counted_scaled_step r c d (whole k) (value (counted rationals (suc k) p)) o o o

  next : (k : ℕ) → whole (suc k) ≡ whole 1 ⊞ whole k
  next k = ap whole (omega arith) ∙ whole_plus 1 k

  -- k c0 + (k + 1) c1 x + .. is k times the value and x times the slope
  counted_value : (k : ℕ) (p : List Rational) → value (counted rationals k p) ≡ whole k ⊠ value p ⊞ r ⊠ slope p
  unfolding evaluated counted derivative
  counted_value k [] = sym (ap₂ ◌⊞◌ (times_zero (whole k)) (times_zero r) ∙ zero_plus (whole 0))
  counted_value k (c ∷ p) =
      ap (λ (y : Rational). whole k ⊠ c ⊞ r ⊠ y) (counted_value (suc k) p ∙ ap (λ (y : Rational). y ⊠ value p ⊞ r ⊠ slope p) (next k))
      ∙ counted_step r c o (whole k) (value p) o (slope p) o
      ∙ ap (λ (y : Rational). whole k ⊠ (c ⊞ r ⊠ value p) ⊞ r ⊠ y) (sym (counted_value _ p))

  -- ---- slopes
  pub sum_slope : (p q : List Rational) → slope (sum rationals p q) ≡ slope p ⊞ slope q
  unfolding sum derivative evaluated
  sum_slope [] q = sym (zero_plus _)
  sum_slope (c ∷ p) [] = sym (plus_zero _)
  sum_slope (c ∷ p) (d ∷ q) = counted_sum _ p q

  pub negative_slope : (p : List Rational) → slope (negative rationals p) ≡ ⊟ slope p
  unfolding negative derivative evaluated
  negative_slope [] = sym minus_zero
  negative_slope (c ∷ p) = counted_negative _ p

  scaled_slope : (k : Rational) (p : List Rational) → slope (scaled rationals k p) ≡ k ⊠ slope p
  unfolding scaled derivative evaluated
  scaled_slope k [] = sym (times_zero k)
  scaled_slope k (c ∷ p) = counted_scaled _ k p

  -- of c + x p: the value of p, and x times its slope
  slope_step : (c : Rational) (p : List Rational) → slope (c ∷ p) ≡ value p ⊞ r ⊠ slope p
  unfolding derivative
  slope_step c p = counted_value _ p ∙ ap (λ (x : Rational). x ⊞ r ⊠ slope p) (one_times (value p))

  pub product_slope : (p q : List Rational) → slope (product rationals p q) ≡ slope p ⊠ value q ⊞ value p ⊠ slope q
  unfolding evaluated product derivative
  product_slope [] q = sym (ap₂ ◌⊞◌ (zero_times (value q)) (zero_times (slope q)) ∙ zero_plus (whole 0))
  product_slope (c ∷ p) q =
      sum_slope (scaled rationals c q) (whole 0 ∷ product rationals p q)
      ∙ ap₂ ◌⊞◌ (scaled_slope c q) (slope_step (whole 0) (product rationals p q) ∙ ap₂ (λ (y z : Rational). y ⊞ r ⊠ z) (product_value p q) (product_slope p q))
      ∙ slope_product_step r c o o (value p) (value q) (slope p) (slope q)
      ∙ ap (λ (y : Rational). y ⊠ value q ⊞ (c ⊞ r ⊠ value p) ⊠ slope q) (sym (slope_step c p))
