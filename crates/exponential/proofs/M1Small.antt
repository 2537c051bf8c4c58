-- exp_m1's distance below 1/4, from the bits of the argument. Assumes nothing.
use mathlib.Core.Path.{◌≡◌, sym, ap, ◌∙◌, subst}
use mathlib.Core.Bool.{Bool, true, false}
use Prim.Native.Nat.{ℕ, zero, suc, ◌+◌, ◌-◌, ◌*◌, ◌/◌, ◌^◌, ◌≤◌, ◌<◌}
use native.Mathlib.Nat.{add-mul, mul-add, mul_assoc, mul_comm, mul_left_comm, mul-zero, zero-mul, one-mul, add-zero, zero-add, add_comm, add-le-add, le_refl, le_trans, le_of_eq, le_of_lt, mul-le-mul, mul-le-mul_left, mul-le-mul_right, le_of_mul-le-mul_right, div-mul-le_self, lt-div-mul-add, sub-add_cancel, pow-suc}
use native.Mathlib.Omega.{arith}
use lib.Dec.{lit<, lit≤}
use lib.Pow.{pow_pos, pow-add, pow_mono}
use lib.Ieee.{Float, binary64, mul, div}
use lib.Ieee.Exact.{HasValue}
use Rattle.number.specs.Frac.{Frac, frac, Pos, le_f, neg_f, add_f, sub_f, mul_f}
use Rattle.number.proofs.Frac.{ring, neg_anti_f, neg_f_pos}
use Rattle.series.specs.Sums.{nat_f, eq_f}
use Rattle.series.specs.Exact.{ExpValue}
use Rattle.series.specs.Distance.{within}
use Rattle.series.proofs.Close.{Close}
use Rattle.fixed_point.specs.Horner.{horner}
use Rattle.exponential.specs.ExpM1.{over_terms, under_of}
use Rattle.exponential.proofs.Decode.{units_of}
use Rattle.exponential.proofs.Terms.{K}
use Rattle.exponential.proofs.SmallPart.{square_le, over_top, over_least, over_most, below_least, below_most, under_minus, under_plus, moved_le}
use Rattle.exponential.proofs.SmallTerms.{odds, evens}
use Rattle.exponential.proofs.SmallSeries.{Known, known_plus, known_minus, even_fits}
use Rattle.exponential.proofs.Rounded.{whole}
use Rattle.exponential.proofs.SmallRounded.{k₂, k₂_most, k_up, k_down, Z, quotient_value, Z-lo, Z-hi}
use Rattle.exponential.proofs.SmallNear.{quotient_lo, quotient_hi, sum_plus, sum_minus, plus_sized, minus_sized}
use Rattle.exponential.proofs.Bounds.{Bound, bound_up}
use Rattle.exponential.proofs.AtZero.{at_zero, same_size, rest_pos}
use Rattle.exponential.proofs.Value.{tail_le}
use Rattle.exponential.proofs.PackedNear.{Sized, rounded_plus, rounded_minus}
use Rattle.exponential.proofs.M1Near.{sized_eq, minus_one_pos}

-- |x| = n / d by its field f and its digits g
module _ (n d f t : ℕ) (D : 0 < d) (least : 969 ≤ f) (most : f < 1021) (digits_lt : t < 4503599627370496) (size_is : n * 2 ^ 1074 ≡ units_of f t * d) where
  abbrev g : ℕ
  g = (t + 4503599627370496) * 2048

  abbrev w : ℕ
  w = 2 ^ f

  abbrev s : ℕ
  s = g / 2 ^ (1022 - f)

  link : n * (2 * 2 ^ 1085) ≡ g * w * d
  link = go f least size_is
    where
      move : (n u c d k p : ℕ) → n * c ≡ u * k * d → n * (c * 4096) ≡ u * 2048 * (k * 2) * d
      move n u c d k p e = sym (mul_assoc n c 4096) ∙ ap (λ (z : ℕ). z * 4096) e ∙ turn u k d
        where
          turn : (u k d : ℕ) → u * k * d * 4096 ≡ u * 2048 * (k * 2) * d
          turn u k d = simp (mul_assoc, mul_comm, mul_left_comm) (omega arith)

      go : (f : ℕ) → 969 ≤ f → n * 2 ^ 1074 ≡ units_of f t * d → n * (2 * 2 ^ 1085) ≡ (t + 4503599627370496) * 2048 * 2 ^ f * d
      go zero h e = absurd (none h)
        where
          none : 969 ≤ 0 → ⊥
          none h = omega arith
      go (suc k) h e = move n (4503599627370496 + t) (2 ^ 1074) d (2 ^ k) 0 e ∙ ap (λ (z : ℕ). z * 2048 * (2 ^ k * 2) * d) (add_comm 4503599627370496 t) ∙ ap (λ (z : ℕ). (t + 4503599627370496) * 2048 * z * d) (sym (pow-suc 2 k))

  shift_is : 2 ^ (1022 - f) * w ≡ 2 ^ 1022
  shift_is = sym (pow-add 2 (1022 - f) f) ∙ ap (λ (z : ℕ). 2 ^ z) (lin f most)
    where
      lin : (f : ℕ) → f < 1021 → 1022 - f + f ≡ 1022
      lin f h = omega arith

  wide : n * (2 * 2 ^ 1085) ≡ n * 2 ^ 64 * 2 ^ 1022
  wide = sym (mul_assoc n (2 ^ 64) (2 ^ 1022))

  s_lo : s * d ≤ n * 2 ^ 64
  s_lo = le_of_mul-le-mul_right {k = 2 ^ 1022} (le_trans (le_of_eq (ap (λ (z : ℕ). s * d * z) (sym shift_is) ∙ a s d (2 ^ (1022 - f)) w)) (le_trans (mul-le-mul_right (w * d) (div-mul-le_self g (2 ^ (1022 - f)))) (le_of_eq (sym (mul_assoc g w d) ∙ sym link ∙ wide)))) (pow_pos 1022)
    where
      a : (s d p w : ℕ) → s * d * (p * w) ≡ s * p * (w * d)
      a s d p w = simp (mul_assoc, mul_comm, mul_left_comm)

  s_hi : n * 2 ^ 64 ≤ (s + 1) * d
  s_hi = le_of_mul-le-mul_right {k = 2 ^ 1022} (le_trans (le_of_eq (sym wide ∙ link ∙ mul_assoc g w d)) (le_trans (mul-le-mul_right (w * d) (le_trans (le_of_lt (lt-div-mul-add {a = g} {b = 2 ^ (1022 - f)} (pow_pos (1022 - f)))) (le_of_eq (one s (2 ^ (1022 - f)))))) (le_of_eq (a (s + 1) d (2 ^ (1022 - f)) w ∙ ap (λ (z : ℕ). (s + 1) * d * z) shift_is)))) (pow_pos 1022)
    where
      one : (x p : ℕ) → x * p + p ≡ (x + 1) * p
      one x p = simp (add-mul, one-mul)

      a : (s d p w : ℕ) → s * p * (w * d) ≡ s * d * (p * w)
      a s d p w = simp (mul_assoc, mul_comm, mul_left_comm)

  g_hi : g < 2 ^ 64
  g_hi = go t digits_lt
    where
      go : (t : ℕ) → t < 4503599627370496 → (t + 4503599627370496) * 2048 < 2 ^ 64
      go t h = omega arith

  quarter : 4 * n ≤ d
  quarter = le_of_mul-le-mul_right {k = 2 ^ 1084} (le_trans (le_of_eq (turn n)) (le_trans (le_of_eq link) (le_trans (mul-le-mul_right d (mul-le-mul (le_of_lt g_hi) (pow_mono (last f most)))) (le_of_eq (mul_comm (2 ^ 64 * 2 ^ 1020) d))))) (pow_pos 1084)
    where
      turn : (n : ℕ) → 4 * n * 2 ^ 1084 ≡ n * (2 * 2 ^ 1085)
      turn n = ap (λ (z : ℕ). z * 2 ^ 1084) (mul_comm 4 n) ∙ mul_assoc n 4 (2 ^ 1084)

      last : (f : ℕ) → f < 1021 → f ≤ 1020
      last f h = omega arith

  s_le : s ≤ 2 ^ 62
  s_le = moved_le g (1022 - f) g_hi (two f most)
    where
      two : (f : ℕ) → f < 1021 → 2 ≤ 1022 - f
      two f h = omega arith

  tiny : 2 ^ 1085 ≤ w * 2 ^ 130
  tiny = le_trans (lit≤ {m = 2 ^ 1085} {n = 2 ^ 969 * 2 ^ 130} tt) (mul-le-mul_right (2 ^ 130) (pow_mono least))

  room : le_f (add_f (mul_f (frac 0 0 1) (frac 36 0 25)) (frac 1 0 (2 ^ 130))) (frac w 0 (2 ^ 1085))
  room = go (2 ^ 130) (2 ^ 1085) w tiny
    where
      go : (E G h : ℕ) → G ≤ h * E → le_f (add_f (mul_f (frac 0 0 1) (frac 36 0 25)) (frac 1 0 E)) (frac h 0 G)
      go E G h k = let z = simp ring at k in simp (ring, one-mul, mul-zero, zero-mul, add-zero, zero-add) (omega arith)

  quarter_size : (v : Frac) → Bound v (frac 1 0 4) → Bound v (frac 9 0 25)
  quarter_size v h = bound_up v (frac 1 0 4) (frac 9 0 25) (lit< tt) (lit≤ tt) h

  small_plus : Bound (frac n 0 d) (frac 1 0 4)
  small_plus = (up₁ n d quarter, down₁ n d)
    where
      up₁ : (n d : ℕ) → 4 * n ≤ d → n * 4 + 0 * d ≤ 1 * d + 0 * 4
      up₁ n d h = omega arith

      down₁ : (n d : ℕ) → 0 * 4 + 0 * d ≤ 1 * d + n * 4
      down₁ n d = omega arith

  small_minus : Bound (frac 0 n d) (frac 1 0 4)
  small_minus = (small_plus.1, small_plus.0)

  -- ---- the quotient's numbers
  abbrev q : ℕ
  q = s * s / 2 ^ 64

  abbrev A : ℕ
  A = horner over_terms q

  q_le : q ≤ 2 ^ 60
  q_le = square_le s s_le

  abbrev under : Bool → ℕ
  under b = under_of b s q A

  under_lo : (b : Bool) → 3 * 2 ^ 61 ≤ under b
  under_lo b = below_least b s q A s_le q_le (over_most q q_le)

  under_hi : (b : Bool) → under b ≤ 37 * 2 ^ 58
  under_hi b = below_most b s q A s_le q_le (over_most q q_le)

  abbrev U : ℕ
  U = K * (d * d) ^ 14

  abbrev G : ℕ
  G = t + 4503599627370496

  G-hi : G < 2 ^ 53
  G-hi = go t digits_lt
    where
      go : (t : ℕ) → t < 4503599627370496 → t + 4503599627370496 < 2 ^ 53
      go t h = omega arith

  A-hi : A / 2048 ≤ 31 * 2 ^ 47
  A-hi = go A (over_top q q_le)
    where
      go : (A : ℕ) → A ≤ 31 * 2 ^ 58 → A / 2048 ≤ 31 * 2 ^ 47
      go A h = omega arith

  A-lo : 15120 * 2 ^ 38 ≤ A / 2048
  A-lo = go A (over_least q)
    where
      go : (A : ℕ) → 15120 * 2 ^ 49 ≤ A → 15120 * 2 ^ 38 ≤ A / 2048
      go A h = omega arith

  last : f ≤ 1020
  last = go f most
    where
      go : (f : ℕ) → f < 1021 → f ≤ 1020
      go f h = omega arith

  -- |x| in units of 2 ^ -1074
  units_is : 2 * (n * 2 ^ 1074) ≡ G * 2 ^ f * d
  units_is = go f least size_is
    where
      move : (n u c d k : ℕ) → n * c ≡ u * k * d → 2 * (n * c) ≡ u * (k * 2) * d
      move n u c d k e = ap (λ (z : ℕ). 2 * z) e ∙ turn u k d 2
        where
          turn : (u k d t : ℕ) → t * (u * k * d) ≡ u * (k * t) * d
          turn u k d t = simp (mul_assoc, mul_comm, mul_left_comm)

      go : (f : ℕ) → 969 ≤ f → n * 2 ^ 1074 ≡ units_of f t * d → 2 * (n * 2 ^ 1074) ≡ (t + 4503599627370496) * 2 ^ f * d
      go zero h e = absurd (none h)
        where
          none : 969 ≤ 0 → ⊥
          none h = omega arith
      go (suc k) h e = move n (4503599627370496 + t) (2 ^ 1074) d (2 ^ k) e ∙ ap (λ (z : ℕ). z * (2 ^ k * 2) * d) (add_comm 4503599627370496 t) ∙ ap (λ (z : ℕ). (t + 4503599627370496) * z * d) (sym (pow-suc 2 k))

  -- ---- the f64 and its digits k, by the sign b of x
  module _ (b : Bool) (x₁ : Float) (value : HasValue x₁ b n d) (D₁ : ℕ) (D-lo : 3 * 2 ^ 61 ≤ D₁) (D-hi : D₁ ≤ 37 * 2 ^ 58) where
    abbrev r : Float
    r = div binary64 (mul binary64 x₁ (whole (A / 2048))) (whole (D₁ / 2048))

    cut_lo : 3 * 2 ^ 50 ≤ D₁ / 2048
    cut_lo = go D₁ D-lo
      where
        go : (D : ℕ) → 3 * 2 ^ 61 ≤ D → 3 * 2 ^ 50 ≤ D / 2048
        go D h = omega arith

    cut_hi : D₁ / 2048 ≤ 37 * 2 ^ 47
    cut_hi = go D₁ D-hi
      where
        go : (D : ℕ) → D ≤ 37 * 2 ^ 58 → D / 2048 ≤ 37 * 2 ^ 47
        go D h = omega arith

    cut_fits : D₁ / 2048 ≤ 2 ^ 53
    cut_fits = le_trans cut_hi (lit≤ tt)

    abbrev k : ℕ
    k = k₂ b x₁ n d f G (A / 2048) (D₁ / 2048) value D units_is last G-hi A-hi cut_lo cut_fits

    abbrev z : ℕ
    z = Z b x₁ n d f G (A / 2048) (D₁ / 2048) value D units_is last G-hi A-hi cut_lo cut_fits

    r_value : HasValue r b z (2 ^ 1074)
    r_value = quotient_value b x₁ n d f G (A / 2048) (D₁ / 2048) value D units_is last G-hi A-hi cut_lo cut_fits

    up : 2 * (k * (D₁ / 2048)) ≤ G * (A / 2048) + 2 ^ 52
    up = k_up b x₁ n d f G (A / 2048) (D₁ / 2048) value D units_is last G-hi A-hi cut_lo cut_fits

    down : G * (A / 2048) ≤ 2 * ((k + 1) * (D₁ / 2048)) + 2 ^ 52
    down = k_down b x₁ n d f G (A / 2048) (D₁ / 2048) value D units_is last G-hi A-hi cut_lo cut_fits

    abbrev y : ℕ
    y = 2048 * k

    z_lo : y * w ≤ z * 2048
    z_lo = le_trans (le_of_eq (go k w)) (mul-le-mul_right 2048 (Z-lo b x₁ n d f G (A / 2048) (D₁ / 2048) value D units_is last G-hi A-hi cut_lo cut_fits))
      where
        go : (k w : ℕ) → 2048 * k * w ≡ k * w * 2048
        go k w = simp (mul_assoc, mul_comm, mul_left_comm)

    z_hi : z * 2048 ≤ (y + 2048) * w
    z_hi = le_trans (mul-le-mul_right 2048 (Z-hi b x₁ n d f G (A / 2048) (D₁ / 2048) value D units_is last G-hi A-hi cut_lo cut_fits)) (le_of_eq (go k w))
      where
        go : (k w : ℕ) → (k + 1) * w * 2048 ≡ (2048 * k + 2048) * w
        go k w = simp (ring, one-mul) (omega arith)

    -- k is large
    y_large : 2 ^ 48 * (10001 + 2048) + 10001 ≤ y
    y_large = go k (le_of_mul-le-mul_right {k = 37 * 2 ^ 47} (le_trans (lit≤ {m = 3571000000000000 * (37 * 2 ^ 47)} {n = 15120 * 2 ^ 38 * 2 ^ 52 - 2 ^ 52} tt) rest) (lit< tt))
      where
        digits_lo : 2 ^ 52 ≤ G
        digits_lo = lin t
          where
            lin : (t : ℕ) → 2 ^ 52 ≤ t + 4503599627370496
            lin t = omega arith

        rest : 15120 * 2 ^ 38 * 2 ^ 52 - 2 ^ 52 ≤ 2 * (k + 1) * (37 * 2 ^ 47)
        rest = lin (G * (A / 2048)) ((k + 1) * (D₁ / 2048)) ((k + 1) * (37 * 2 ^ 47)) (2 * (k + 1) * (37 * 2 ^ 47)) (le_trans (le_of_eq (mul_comm (15120 * 2 ^ 38) (2 ^ 52))) (mul-le-mul digits_lo A-lo)) down (mul-le-mul_left (k + 1) cut_hi) (mul_assoc 2 (k + 1) (37 * 2 ^ 47))
          where
            lin : (x u v m : ℕ) → 15120 * 2 ^ 38 * 2 ^ 52 ≤ x → x ≤ 2 * u + 2 ^ 52 → u ≤ v → m ≡ 2 * v → 15120 * 2 ^ 38 * 2 ^ 52 - 2 ^ 52 ≤ m
            lin x u v m h i j e = omega arith

        go : (k : ℕ) → 3571000000000000 ≤ 2 * (k + 1) → 2 ^ 48 * (10001 + 2048) + 10001 ≤ 2048 * k
        go k h = omega arith

    abbrev L : ℕ
    L = y - 10000

    L-is : L + 10000 ≡ y
    L-is = go y y_large
      where
        go : (y : ℕ) → 2 ^ 48 * (10001 + 2048) + 10001 ≤ y → y - 10000 + 10000 ≡ y
        go y h = omega arith

    high_le : (y + 10000) * w ≤ 2 ^ 1085
    high_le = le_trans (mul-le-mul (go k (k₂_most b x₁ n d f G (A / 2048) (D₁ / 2048) value D units_is last G-hi A-hi cut_lo cut_fits)) (pow_mono last)) (lit≤ {m = 2 ^ 65 * 2 ^ 1020} {n = 2 ^ 1085} tt)
      where
        go : (k : ℕ) → k + 1 < 2 ^ 53 → 2048 * k + 10000 ≤ 2 ^ 65
        go k h = omega arith

    -- the true ratio S / U, in units of 2 ^ (f - 1085) of the value
    module _ (S : ℕ) (known : Known s n d s_lo s_hi quarter D D₁ S) where
      ratio_lo : L * U ≤ 1024 * G * S
      ratio_lo = go L U (1024 * G * S) (le_trans (le_of_eq (ap (λ (z : ℕ). z * U) L-is)) (quotient_lo k G S U A D₁ D-lo G-hi known.0 known.1 known.2 up down))
        where
          go : (L U x : ℕ) → (L + 10000) * U ≤ x + 10000 * U → L * U ≤ x
          go L U x h = lin (L * U) (10000 * U) x (le_trans (le_of_eq (sym (add-mul L 10000 U))) h)
            where
              lin : (l u x : ℕ) → l + u ≤ x + u → l ≤ x
              lin l u x h = omega arith

      ratio_hi : 1024 * G * S ≤ (y + 10000) * U
      ratio_hi = le_trans (quotient_hi k G S U A D₁ D-lo G-hi known.0 known.1 known.2 up down) (le_of_eq (sym (add-mul y 10000 U)))

      exact : n * S * 2 ^ 1085 * 2 ≡ 1024 * G * S * (2 * (w * d))
      exact = one n S (2 ^ 1085) ∙ ap (λ (z : ℕ). S * z) link ∙ two S G w d
        where
          one : (n S C : ℕ) → n * S * C * 2 ≡ S * (n * (2 * C))
          one n S C = simp (mul_assoc, mul_comm, mul_left_comm)

          two : (S G w d : ℕ) → S * (G * 2048 * w * d) ≡ 1024 * G * S * (2 * (w * d))
          two S G w d = simp (mul_assoc, mul_comm, mul_left_comm) (omega arith)

      around : (y w U d : ℕ) → y * w * (U * d) * 2 ≡ y * U * (2 * (w * d))
      around y w U d = simp (mul_assoc, mul_comm, mul_left_comm)

      true_lo : L * w * (U * d) ≤ n * S * 2 ^ 1085
      true_lo = le_of_mul-le-mul_right {k = 2} (le_trans (le_of_eq (around L w U d)) (le_trans (mul-le-mul_right (2 * (w * d)) ratio_lo) (le_of_eq (sym exact)))) (lit< tt)

      true_hi : n * S * 2 ^ 1085 ≤ (y + 10000) * w * (U * d)
      true_hi = le_of_mul-le-mul_right {k = 2} (le_trans (le_of_eq exact) (le_trans (mul-le-mul_right (2 * (w * d)) ratio_hi) (le_of_eq (sym (around (y + 10000) w U d))))) (lit< tt)

    -- from L and y + 10000, a unit w more at either end
    sized : (u : Frac) → le_f (frac (L * w) w (2 ^ 1085)) u × le_f u (frac ((y + 10000) * w + w) 0 (2 ^ 1085)) → Sized y 10001 f u
    sized (frac p m c) (l, h) = (subst (λ (v : ℕ). le_f (frac (v * w) (10001 * w) (2 ^ 1085)) (frac p m c)) L-is (low L w p m c (2 ^ 1085) l), subst (λ (v : ℕ). le_f (frac p m c) (frac v 0 (2 ^ 1085))) (high y w) h)
      where
        low : (L w p m c C : ℕ) → le_f (frac (L * w) w C) (frac p m c) → le_f (frac ((L + 10000) * w) (10001 * w) C) (frac p m c)
        low L w p m c C h = let k = simp ring at h in simp ring (omega arith)

        high : (y w : ℕ) → (y + 10000) * w + w ≡ (y + 10001) * w
        high y w = simp ring (omega arith)

  -- ---- the laws
  pub plus_near : (x₁ : Float) (e x : Frac) → HasValue x₁ false n d → Pos x → ExpValue (frac n 0 d) e → eq_f x (sub_f e (nat_f 1)) → Close (within (2 ^ 48)) (div binary64 (mul binary64 x₁ (whole (A / 2048))) (whole (under false / 2048))) x
  plus_near x₁ e x h X₁ v q =
      let D₁ = under false in
      let S = odds n d + n * d * evens n d in
      let kn = known_plus s n d s_lo s_hi quarter D D₁ (under_plus s (s * s / 2 ^ 64) A s_le (over_most (s * s / 2 ^ 64) q_le)) (under_lo false) in
      let l = L false x₁ h D₁ (under_lo false) (under_hi false) * w in
      let u = (y false x₁ h D₁ (under_lo false) (under_hi false) + 10000) * w in
      let sums = sum_plus n d (2 ^ 1085) D l u (true_lo false x₁ h D₁ (under_lo false) (under_hi false) S kn) (true_hi false x₁ h D₁ (under_lo false) (under_hi false) S kn) in
      let z₁ = at_zero (frac n 0 d) e D small_plus (2 ^ 1085 + l) (2 ^ 1085 + u) w (2 ^ 1085) (pow_pos 1085) (frac 1 0 (2 ^ 130)) (lit< tt) room (λ (l : Frac) (L : Pos l). tail_le (sub_f (frac n 0 d) (mul_f (frac 0 0 1) l)) (rest_pos (frac n 0 d) l D L) (same_size (frac n 0 d) l 9 25 D (quarter_size (frac n 0 d) small_plus))) sums.0 sums.1 v in
      rounded_plus (y false x₁ h D₁ (under_lo false) (under_hi false)) 10001 (z false x₁ h D₁ (under_lo false) (under_hi false)) f (r false x₁ h D₁ (under_lo false) (under_hi false)) x X₁ (y_large false x₁ h D₁ (under_lo false) (under_hi false)) (z_lo false x₁ h D₁ (under_lo false) (under_hi false)) (z_hi false x₁ h D₁ (under_lo false) (under_hi false)) (r_value false x₁ h D₁ (under_lo false) (under_hi false))
      (sized_eq (y false x₁ h D₁ (under_lo false) (under_hi false)) 10001 f x (sub_f e (nat_f 1)) (minus_one_pos e v.proper.0) q (sized false x₁ h D₁ (under_lo false) (under_hi false) (sub_f e (nat_f 1)) (plus_sized e l u w (2 ^ 1085) z₁.0 z₁.1)))

  pub minus_near : (x₁ : Float) (e x : Frac) → HasValue x₁ true n d → Pos x → ExpValue (frac 0 n d) e → eq_f x (sub_f e (nat_f 1)) → Close (within (2 ^ 48)) (div binary64 (mul binary64 x₁ (whole (A / 2048))) (whole (under true / 2048))) x
  minus_near x₁ e x h X₁ v q =
      let D₁ = under true in
      let S = odds n d - n * d * evens n d in
      let S-is : S + n * d * evens n d ≡ odds n d = sub-add_cancel (even_fits s n d s_lo s_hi quarter D) in
      let kn = subst (λ (D₁ : ℕ). Known s n d s_lo s_hi quarter D D₁ S) (sym (under_minus s (s * s / 2 ^ 64) A)) (known_minus s n d s_lo s_hi quarter D S S-is (subst (λ (D₁ : ℕ). 3 * 2 ^ 61 ≤ D₁) (under_minus s (s * s / 2 ^ 64) A) (under_lo true))) in
      let l = L true x₁ h D₁ (under_lo true) (under_hi true) * w in
      let u = (y true x₁ h D₁ (under_lo true) (under_hi true) + 10000) * w in
      let top = high_le true x₁ h D₁ (under_lo true) (under_hi true) in
      let X = 2 ^ 1085 - u in
      let Y = 2 ^ 1085 - l in
      let xe : X + u ≡ 2 ^ 1085 = sub-add_cancel top in
      let ye : Y + l ≡ 2 ^ 1085 = sub-add_cancel (le_trans (mul-le-mul_right w (less (y true x₁ h D₁ (under_lo true) (under_hi true)))) top) in
      let sums = sum_minus n d (2 ^ 1085) D X Y l u xe ye (lower l (U * d) n S (n * d * evens n d) (odds n d) (2 ^ 1085) S-is (true_lo true x₁ h D₁ (under_lo true) (under_hi true) S kn)) (upper u (U * d) n S (n * d * evens n d) (odds n d) (2 ^ 1085) S-is (true_hi true x₁ h D₁ (under_lo true) (under_hi true) S kn)) in
      let z₁ = at_zero (frac 0 n d) e D small_minus X Y w (2 ^ 1085) (pow_pos 1085) (frac 1 0 (2 ^ 130)) (lit< tt) room (λ (l : Frac) (L : Pos l). tail_le (sub_f (frac 0 n d) (mul_f (frac 0 0 1) l)) (rest_pos (frac 0 n d) l D L) (same_size (frac 0 n d) l 9 25 D (quarter_size (frac 0 n d) small_minus))) sums.0 sums.1 v in
      rounded_minus (y true x₁ h D₁ (under_lo true) (under_hi true)) 10001 (z true x₁ h D₁ (under_lo true) (under_hi true)) f (r true x₁ h D₁ (under_lo true) (under_hi true)) x X₁ (y_large true x₁ h D₁ (under_lo true) (under_hi true)) (z_lo true x₁ h D₁ (under_lo true) (under_hi true)) (z_hi true x₁ h D₁ (under_lo true) (under_hi true)) (r_value true x₁ h D₁ (under_lo true) (under_hi true))
      (sized_eq (y true x₁ h D₁ (under_lo true) (under_hi true)) 10001 f (neg_f x) (neg_f (sub_f e (nat_f 1))) (neg_f_pos (sub_f e (nat_f 1)) (minus_one_pos e v.proper.0)) (neg_anti_f (sub_f e (nat_f 1)) x q.1, neg_anti_f x (sub_f e (nat_f 1)) q.0) (sized true x₁ h D₁ (under_lo true) (under_hi true) (neg_f (sub_f e (nat_f 1))) (minus_sized e l u w (2 ^ 1085) X Y xe ye z₁.0 z₁.1)))
    where
      less : (y : ℕ) → y - 10000 ≤ y + 10000
      less y = omega arith

      parts : (n S t o C : ℕ) → S + t ≡ o → n * o * C ≡ n * S * C + n * t * C
      parts n S t o C e = ap (λ (z : ℕ). n * z * C) (sym e) ∙ ap (λ (z : ℕ). z * C) (mul-add n S t) ∙ add-mul (n * S) (n * t) C

      lower : (l z n S t o C : ℕ) → S + t ≡ o → l * z ≤ n * S * C → l * z + n * t * C ≤ n * o * C
      lower l z n S t o C e h = le_trans (add-le-add h (le_refl (n * t * C))) (le_of_eq (sym (parts n S t o C e)))

      upper : (u z n S t o C : ℕ) → S + t ≡ o → n * S * C ≤ u * z → n * o * C ≤ u * z + n * t * C
      upper u z n S t o C e h = le_trans (le_of_eq (parts n S t o C e)) (add-le-add h (le_refl (n * t * C)))
