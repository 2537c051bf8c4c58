-- `ln_1p` of a v that is at most 2 ^ -54 in size: v itself keeps document 01's distance. Assumes nothing.
use mathlib.Core.Path.{◌≡◌, refl, sym, ap, ap₂, ◌∙◌, subst}
use mathlib.Core.Logic.{◌⊎◌, inl, inr}
use mathlib.Core.Bool.{Bool, true, false}
use Prim.Native.Nat.{ℕ, ◌+◌, ◌-◌, ◌*◌, ◌/◌, ◌^◌, ◌≤◌, ◌<◌}
use native.Mathlib.Nat as Nat
use native.Mathlib.Nat.{le_refl, le_trans, le_of_eq, le_of_lt, lt_of_lt_of_le, lt_of_le_of_lt, add-le-add, mul_comm, mul_assoc, add-mul, mul-add, one-mul, mul-one, add_comm, mul-le-mul, mul-le-mul_left, mul-le-mul_right, le_of_mul-le-mul_right, div-mul-le_self, lt-div-mul-add, mul-pos}
use native.Mathlib.Omega.{arith}
use lib.Dec.{lit<, lit≤}
use Rattle.number.specs.Frac.{Frac, frac, Pos, sgn}
use Rattle.number.proofs.Frac.{sgn_pos}
use Rattle.fixed_point.specs.Horner.{horner}
use Rattle.fixed_point.proofs.Horner.{ac}
use Rattle.series.specs.Sums.{eq_f}
use Rattle.series.specs.Exact.{LnValue}
use Rattle.series.specs.Distance.{within}
use Rattle.logarithm.specs.Logarithm.{coefficients}
use Rattle.logarithm.proofs.CoreBounds.{core_lo, core_hi}
use Rattle.logarithm.proofs.Fractions.{eq_sym_f, eq_trans_f}
use Rattle.logarithm.proofs.OddSeries.{whole}
use Rattle.logarithm.proofs.Near.{rounded_near}
use Rattle.logarithm.proofs.Split.{Part}
use Rattle.logarithm.proofs.Joined.{Parts, none_near, one_low, one_high}
use Rattle.logarithm.proofs.LnNear.{cancel}

-- ---- |v| = a / c at most 2 ^ -54: v itself. The core is worked with a scale of its own, at which its square is nothing, to bound the series
module _ (s : Bool) (a c u : ℕ) (cp : 0 < c) (tiny : 2 ^ 54 * a ≤ c) (part : Part s u a c) where
  abbrev D : ℕ
  D = u + c

  abbrev S : ℕ
  S = D / (4 * a + 1)

  abbrev Z : ℕ
  Z = a * S * 2 ^ 64 / D

  D-lo : (2 ^ 55 - 1) * c ≤ 2 ^ 54 * D
  D-lo = go s part
    where
      go : (s : Bool) → Part s u a c → (2 ^ 55 - 1) * c ≤ 2 ^ 54 * D
      go false p = omega (arith, p)
      go true p = omega (arith, p, tiny)

  D-hi : 2 ^ 54 * D ≤ (2 ^ 55 + 1) * c
  D-hi = go s part
    where
      go : (s : Bool) → Part s u a c → 2 ^ 54 * D ≤ (2 ^ 55 + 1) * c
      go false p = omega (arith, p, tiny)
      go true p = omega (arith, p)

  D-pos : 0 < D
  D-pos = omega arith

  D-big : 2 ^ 54 * a ≤ D
  D-big = le_trans tiny (le_trans (Nat.le-add_right c u) (le_of_eq (add_comm c u)))

  range_low : 2 * c ≤ 3 * u
  range_low = go s part
    where
      go : (s : Bool) → Part s u a c → 2 * c ≤ 3 * u
      go false p = omega (arith, p)
      go true p = omega (arith, p, tiny)

  range_high : 3 * u < 4 * c
  range_high = go s part
    where
      go : (s : Bool) → Part s u a c → 3 * u < 4 * c
      go false p = omega (arith, p, tiny, cp)
      go true p = omega (arith, p, cp)

  step_pos : (a : ℕ) → 0 < 4 * a + 1
  step_pos a = omega arith

  S-lo : S * (4 * a + 1) ≤ D
  S-lo = div-mul-le_self D (4 * a + 1)

  S-hi : D < S * (4 * a + 1) + (4 * a + 1)
  S-hi = lt-div-mul-add {a = D} {b = 4 * a + 1} (step_pos a)

  spread : S * (4 * a + 1) ≡ 4 * (a * S) + S
  spread = go S a
    where
      go : (S a : ℕ) → S * (4 * a + 1) ≡ 4 * (a * S) + S
      go S a = mul-add S (4 * a) 1 ∙ ap₂ ◌+◌ (turn S a) (mul-one S)
        where
          turn : (S a : ℕ) → S * (4 * a) ≡ 4 * (a * S)
          turn S a = simp ac

  fourth_part : 4 * (a * S) + S ≤ D
  fourth_part = le_trans (le_of_eq (sym spread)) S-lo

  S_pos : 0 < S
  S_pos = go (Nat.eq-zero-or-pos S)
    where
      none : (a D : ℕ) → D < 0 * (4 * a + 1) + (4 * a + 1) → 2 ^ 54 * a ≤ D → 0 < D → ⊥
      none a D h k l = omega arith

      go : (S ≡ 0) ⊎ (0 < S) → 0 < S
      go (inl e) = absurd (none a D (subst (λ (x : ℕ). D < x * (4 * a + 1) + (4 * a + 1)) e S-hi) D-big D-pos)
      go (inr p) = p

  five : 5 * a ≤ D
  five = le_trans (mul-le-mul_right a (lit≤ {m = 5} {n = 2 ^ 54} tt)) D-big

  few : a * S ≤ D
  few = go (a * S) S D fourth_part
    where
      go : (t S D : ℕ) → 4 * t + S ≤ D → t ≤ D
      go t S D h = omega arith

  Z-lo : Z * D ≤ a * S * 2 ^ 64
  Z-lo = div-mul-le_self (a * S * 2 ^ 64) D

  Z-hi : a * S * 2 ^ 64 < Z * D + D
  Z-hi = lt-div-mul-add {a = a * S * 2 ^ 64} {b = D} D-pos

  Z-small : 4 * Z ≤ 2 ^ 64
  Z-small = le_of_mul-le-mul_right {k = D} (le_trans (le_of_eq (mul_assoc 4 Z D)) (le_trans (mul-le-mul_left 4 Z-lo) (le_trans (le_of_eq (sym (mul_assoc 4 (a * S) (2 ^ 64)))) (le_trans (mul-le-mul_right (2 ^ 64) (most (a * S) S D fourth_part)) (le_of_eq (mul_comm D (2 ^ 64))))))) D-pos
    where
      most : (t S D : ℕ) → 4 * t + S ≤ D → 4 * t ≤ D
      most t S D h = omega arith

  Z-few : 10 * Z ≤ 3 * 2 ^ 64
  Z-few = go Z Z-small
    where
      go : (z : ℕ) → 4 * z ≤ 2 ^ 64 → 10 * z ≤ 3 * 2 ^ 64
      go z h = omega arith

  abbrev R : ℕ
  R = Z * horner coefficients (Z / S * (Z / S) / 2 ^ 64) / 2 ^ 64

  above : Z * D ≤ a * S * 2 ^ 64 + D
  above = le_trans Z-lo (Nat.le-add_right (a * S * 2 ^ 64) D)

  below : a * S * 2 ^ 64 ≤ (Z + 8) * D
  below = le_trans (le_of_lt Z-hi) (le_trans (add-le-add (le_refl (Z * D)) (le_trans (le_of_eq (sym (one-mul D))) (mul-le-mul_right D (lit≤ {m = 1} {n = 8} tt)))) (le_of_eq (sym (add-mul Z 8 D))))

  tiny_parts : Parts s a c u S R
  tiny_parts = record {
    whole_one = cp;
    part = part;
    low = range_low;
    high = range_high;
    denominator = D-pos;
    scale = S_pos;
    few = few;
    near_low = core_lo a D S Z (whole a D D-pos).p (whole a D D-pos).q S_pos D-pos above below Z-few five (whole a D D-pos).closed;
    near_high = core_hi a D S Z (whole a D D-pos).p (whole a D D-pos).q S_pos D-pos above below Z-few five (whole a D D-pos).closed;
  }

  -- with an a above 0
  module _ (ap0 : 0 < a) where
    S-big : 2 ^ 51 ≤ S
    S-big = go S (Nat.lt_of_mul-lt-mul_right a (lt_of_le_of_lt D-big (lt_of_lt_of_le S-hi (le_trans (le_of_eq (one S (4 * a + 1))) (le_trans (mul-le-mul_left (S + 1) (fifth a ap0)) (le_of_eq (turn (S + 1) a)))))))
      where
        one : (x y : ℕ) → x * y + y ≡ (x + 1) * y
        one x y = sym (add-mul x 1 y ∙ ap (λ (t : ℕ). x * y + t) (one-mul y))

        fifth : (a : ℕ) → 0 < a → 4 * a + 1 ≤ 5 * a
        fifth a h = omega arith

        turn : (x a : ℕ) → x * (5 * a) ≡ 5 * x * a
        turn x a = simp ac

        go : (S : ℕ) → 2 ^ 54 < 5 * (S + 1) → 2 ^ 51 ≤ S
        go S h = omega arith

    q_none : Z / S * (Z / S) / 2 ^ 64 ≡ 0
    q_none = Nat.div-eq_of_lt (lt_of_le_of_lt (mul-le-mul z_small z_small) (lit< {m = 2 ^ 11 * 2 ^ 11} {n = 2 ^ 64} tt))
      where
        z_small : Z / S ≤ 2 ^ 11
        z_small = le_of_mul-le-mul_right {k = 2 ^ 51} (le_trans (mul-le-mul_left (Z / S) S-big) (le_trans (div-mul-le_self Z S) (quarter Z Z-small))) (lit< tt)
          where
            quarter : (z : ℕ) → 4 * z ≤ 2 ^ 64 → z ≤ 2 ^ 11 * 2 ^ 51
            quarter z h = omega arith

    R-is : R ≡ Z * 9223372036854775808 / 2 ^ 64
    unfolding horner
    R-is = ap (λ (q : ℕ). Z * horner coefficients q / 2 ^ 64) q_none

    R-lo : 2 * R ≤ Z
    R-lo = subst (λ (x : ℕ). 2 * x ≤ Z) (sym R-is) (go Z)
      where
        go : (z : ℕ) → 2 * (z * 9223372036854775808 / 2 ^ 64) ≤ z
        go z = omega arith

    R-hi : Z ≤ 2 * R + 1
    R-hi = subst (λ (x : ℕ). Z ≤ 2 * x + 1) (sym R-is) (go Z)
      where
        go : (z : ℕ) → z ≤ 2 * (z * 9223372036854775808 / 2 ^ 64) + 1
        go z = omega arith

    sixth : D ≤ 6 * (a * S)
    sixth = go (a * S) S a D ap0 (subst (λ (x : ℕ). D < x + (4 * a + 1)) spread S-hi) D-big (mul-le-mul_right S ap0)
      where
        go : (t S a D : ℕ) → 0 < a → D < 4 * t + S + (4 * a + 1) → 2 ^ 54 * a ≤ D → 1 * S ≤ t → D ≤ 6 * t
        go t S a D p h k l = omega arith

    R-big : 2 ^ 59 ≤ R
    R-big = go R Z R-hi (Nat.lt_of_mul-lt-mul_right D (lt_of_le_of_lt (le_trans (le_of_eq (mul_comm (2 ^ 64) D)) (le_trans (mul-le-mul_right (2 ^ 64) sixth) (le_of_eq (mul_assoc 6 (a * S) (2 ^ 64))))) (lt_of_lt_of_le (times (a * S * 2 ^ 64) (Z * D + D) Z-hi) (le_of_eq (last Z D)))))
      where
        times : (x y : ℕ) → x < y → 6 * x < 6 * y
        times x y h = omega arith

        last : (Z D : ℕ) → 6 * (Z * D + D) ≡ 6 * (Z + 1) * D
        last Z D = ap (λ (x : ℕ). 6 * x) (ap (λ (x : ℕ). Z * D + x) (sym (one-mul D)) ∙ sym (add-mul Z 1 D)) ∙ sym (mul_assoc 6 (Z + 1) D)

        go : (r z : ℕ) → z ≤ 2 * r + 1 → 2 ^ 64 < 6 * (z + 1) → 2 ^ 59 ≤ r
        go r z h k = omega arith

    -- t = a S against r D
    t_hi : a * S * 2 ^ 63 ≤ (R + 1) * D
    t_hi = le_of_mul-le-mul_right {k = 2} (le_trans (le_of_eq (mul_assoc (a * S) (2 ^ 63) 2)) (le_trans (le_of_lt Z-hi) (le_trans (le_of_eq (one Z D)) (le_trans (mul-le-mul_right D (lin Z R R-hi)) (le_of_eq (turn (R + 1) D)))))) (lit< tt)
      where
        one : (x y : ℕ) → x * y + y ≡ (x + 1) * y
        one x y = sym (add-mul x 1 y ∙ ap (λ (t : ℕ). x * y + t) (one-mul y))

        lin : (z r : ℕ) → z ≤ 2 * r + 1 → z + 1 ≤ 2 * (r + 1)
        lin z r h = omega arith

        turn : (x d : ℕ) → 2 * x * d ≡ x * d * 2
        turn x d = simp ac

    t_lo : R * D ≤ a * S * 2 ^ 63
    t_lo = le_of_mul-le-mul_right {k = 2} (le_trans (le_of_eq (turn R D)) (le_trans (mul-le-mul_right D R-lo) (le_trans Z-lo (le_of_eq (sym (mul_assoc (a * S) (2 ^ 63) 2)))))) (lit< tt)
      where
        turn : (x d : ℕ) → x * d * 2 ≡ 2 * x * d
        turn x d = simp ac

    -- a E 2 ^ 53 four times
    four_times : a * (2 ^ 62 * S) * 2 ^ 53 * 4 ≡ a * S * 2 ^ 63 * 2 ^ 54
    four_times = go a S (2 ^ 62) (2 ^ 53) 4 ∙ sym (mul_assoc (a * S) (2 ^ 63) (2 ^ 54))
      where
        go : (a S x y z : ℕ) → a * (x * S) * y * z ≡ a * S * (x * y * z)
        go a S x y z = simp ac

    rounded_up : a * (2 ^ 62 * S) * 2 ^ 53 ≤ R * (2 ^ 53 + 1) * c
    rounded_up =
        le_of_mul-le-mul_right {k = 4}
        (le_trans (le_of_eq four_times) (le_trans (mul-le-mul_right (2 ^ 54) t_hi) (le_trans (le_of_eq (turn (R + 1) D (2 ^ 54))) (le_trans (mul-le-mul_left (R + 1) D-hi) (le_trans (le_of_eq (sym (mul_assoc (R + 1) (2 ^ 55 + 1) c))) (le_trans (mul-le-mul_right c (lin R R-big)) (le_of_eq (last R c))))))))
        (lit< tt)
      where
        turn : (x d t : ℕ) → x * d * t ≡ x * (t * d)
        turn x d t = simp ac

        lin : (r : ℕ) → 2 ^ 59 ≤ r → (r + 1) * (2 ^ 55 + 1) ≤ r * ((2 ^ 53 + 1) * 4)
        lin r h = omega arith

        last : (r c : ℕ) → r * ((2 ^ 53 + 1) * 4) * c ≡ r * (2 ^ 53 + 1) * c * 4
        last r c = go r c (2 ^ 53 + 1) 4
          where
            go : (r c x y : ℕ) → r * (x * y) * c ≡ r * x * c * y
            go r c x y = simp ac

    rounded_down : R * (2 ^ 53 - 1) * c ≤ a * (2 ^ 62 * S) * 2 ^ 53
    rounded_down =
        le_of_mul-le-mul_right {k = 4}
        (le_trans (le_of_eq (first R c)) (le_trans (mul-le-mul_left R (le_trans (mul-le-mul_right c (lit≤ {m = (2 ^ 53 - 1) * 4} {n = 2 ^ 55 - 1} tt)) D-lo)) (le_trans (le_of_eq (turn R D (2 ^ 54))) (le_trans (mul-le-mul_right (2 ^ 54) t_lo) (le_of_eq (sym four_times))))))
        (lit< tt)
      where
        first : (r c : ℕ) → r * (2 ^ 53 - 1) * c * 4 ≡ r * ((2 ^ 53 - 1) * 4 * c)
        first r c = go r c (2 ^ 53 - 1) 4
          where
            go : (r c x y : ℕ) → r * x * c * y ≡ r * (x * y * c)
            go r c x y = simp ac

        turn : (x d t : ℕ) → x * (t * d) ≡ x * d * t
        turn x d t = simp ac

  pub tiny_near : (x y v : Frac) → eq_f x (sgn s a c) → Pos y → eq_f y (frac u 0 c) → LnValue y v → within (2 ^ 48) x v
  tiny_near x y v same yp given value = go (Nat.eq-zero-or-pos a)
    where
      at : eq_f y (frac (u * 2 ^ 1023) 0 (c * 2 ^ 1023))
      at = eq_trans_f y (frac u 0 c) (frac (u * 2 ^ 1023) 0 (c * 2 ^ 1023)) cp given (eq_sym_f (frac (u * 2 ^ 1023) 0 (c * 2 ^ 1023)) (frac u 0 c) (cancel u c (2 ^ 1023)))

      zero_is : (s : Bool) (a : ℕ) → a ≡ 0 → eq_f (sgn s a c) (frac 0 0 1)
      zero_is false a e = subst (λ (z : ℕ). eq_f (frac z 0 c) (frac 0 0 1)) (sym e) (omega arith, omega arith)
      zero_is true a e = subst (λ (z : ℕ). eq_f (frac 0 z c) (frac 0 0 1)) (sym e) (omega arith, omega arith)

      go : (a ≡ 0) ⊎ (0 < a) → within (2 ^ 48) x v
      go (inl e) = none_near s a c u S R tiny_parts y v yp 1023 (lit≤ tt) at value refl e x (eq_trans_f x (sgn s a c) (frac 0 0 1) (sgn_pos s a c cp) same (zero_is s a e))
      go (inr p) = rounded_near s x v R 111 a c (2 ^ 62 * S) cp (mul-pos {m = 2 ^ 62} (lit< tt) S_pos) same (rounded_up p) (rounded_down p) (le_trans (lit≤ tt) (R-big p)) (one_low s a c u S R tiny_parts y v yp 1023 (lit≤ tt) at value refl (R-big p)) (one_high s a c u S R tiny_parts y v yp 1023 (lit≤ tt) at value refl (R-big p))
