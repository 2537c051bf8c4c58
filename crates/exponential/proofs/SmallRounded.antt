-- exp_m1's product and quotient near 0: what rounding does to them, in units of the argument's last digit. Assumes nothing.
use mathlib.Core.Path.{◌≡◌, sym, ap, ◌∙◌, subst}
use mathlib.Core.Bool.{Bool}
use Prim.Native.Nat.{ℕ, ◌+◌, ◌*◌, ◌/◌, ◌^◌, ◌≤◌, ◌<◌}
use native.Mathlib.Nat.{add-mul, mul_assoc, mul_comm, mul_left_comm, one-mul, le_trans, le_of_eq, le_of_lt, mul-pos, mul-le-mul, mul-le-mul_left, mul-le-mul_right, le_of_mul-le-mul_right, div-mul-le_self, lt-div-mul-add, div-le_of_le-mul}
use native.Mathlib.Omega.{arith}
use lib.Dec.{lit<, lit≤}
use lib.Pow.{pow_pos, pow-add}
use lib.Ieee.{Float, binary64, mul, div}
use lib.Ieee.Exact.{HasValue}
use lib.Ieee.Scale.{grid}
use Rattle.exponential.proofs.Rounded.{whole, whole_is, product_is, quotient_is, rounded_value, rounded_lo, rounded_hi}

one_more : (x y : ℕ) → 0 < y → x ≤ (x / y + 1) * y
one_more x y h = le_trans (le_of_lt (lt-div-mul-add {a = x} {b = y} h)) (le_of_eq (go (x / y) y))
  where
    go : (x g : ℕ) → x * g + g ≡ (x + 1) * g
    go x g = simp (add-mul, one-mul)

-- |x| = n / d = G 2 ^ f / 2 ^ 1075; A and D the whole numbers
module _ (s : Bool) (x : Float) (n d f G A D : ℕ) (value : HasValue x s n d) (P : 0 < d) (link : 2 * (n * 2 ^ 1074) ≡ G * 2 ^ f * d) (F : f ≤ 1020) (G-hi : G < 2 ^ 53) (A-hi : A ≤ 31 * 2 ^ 47) (D-lo : 3 * 2 ^ 50 ≤ D) (D-hi : D ≤ 2 ^ 53) where
  abbrev w : ℕ
  w = 2 ^ f

  w_pos : 0 < w
  w_pos = pow_pos f

  D-pos : 0 < D
  D-pos = le_trans (lit≤ tt) D-lo

  -- ---- the product
  abbrev k₁ : ℕ
  k₁ = A * G / 2 ^ 52

  k₁_lo : k₁ * 2 ^ 52 ≤ A * G
  k₁_lo = div-mul-le_self (A * G) (2 ^ 52)

  k₁_hi : A * G ≤ (k₁ + 1) * 2 ^ 52
  k₁_hi = one_more (A * G) (2 ^ 52) (lit< tt)

  k₁_most : k₁ + 1 < 2 ^ 53
  k₁_most = go k₁ (div-le_of_le-mul (2 ^ 52) (le_trans (mul-le-mul A-hi (le_of_lt G-hi)) (lit≤ tt)))
    where
      go : (k : ℕ) → k ≤ 31 * 2 ^ 48 → k + 1 < 2 ^ 53
      go k h = omega arith

  unit : 2 ^ (f + 51) ≡ w * 2 ^ 51
  unit = pow-add 2 f 51

  twice : (k : ℕ) → k * 2 ^ (f + 51) * d * 2 ≡ k * 2 ^ 52 * (w * d)
  twice k = ap (λ (z : ℕ). k * z * d * 2) unit ∙ go k w (2 ^ 51) d 2
    where
      go : (k w u d t : ℕ) → k * (w * u) * d * t ≡ k * (u * t) * (w * d)
      go k w u d t = simp (mul_assoc, mul_comm, mul_left_comm)

  exact : A * G * (w * d) ≡ n * A * 2 ^ 1074 * 2
  exact = one A G w d ∙ ap (λ (z : ℕ). A * z) (sym link) ∙ two A n (2 ^ 1074) 2
    where
      one : (A G w d : ℕ) → A * G * (w * d) ≡ A * (G * w * d)
      one A G w d = simp (mul_assoc, mul_comm, mul_left_comm)

      two : (A n u t : ℕ) → A * (t * (n * u)) ≡ n * A * u * t
      two A n u t = simp (mul_assoc, mul_comm, mul_left_comm)

  first_lo : k₁ * 2 ^ (f + 51) * d ≤ n * A * 2 ^ 1074
  first_lo = le_of_mul-le-mul_right {k = 2} (le_trans (le_of_eq (twice k₁)) (le_trans (mul-le-mul_right (w * d) k₁_lo) (le_of_eq exact))) (lit< tt)

  first_hi : n * A * 2 ^ 1074 ≤ (k₁ + 1) * 2 ^ (f + 51) * d
  first_hi = le_of_mul-le-mul_right {k = 2} (le_trans (le_of_eq (sym exact)) (le_trans (mul-le-mul_right (w * d) k₁_hi) (le_of_eq (sym (twice (k₁ + 1)))))) (lit< tt)

  first_unit : f + 51 ≤ 2000
  first_unit = go f F
    where
      go : (f : ℕ) → f ≤ 1020 → f + 51 ≤ 2000
      go f h = omega arith

  abbrev Z₁ : ℕ
  Z₁ = grid binary64 (n * A) d

  A-fits : A ≤ 2 ^ 53
  A-fits = le_trans A-hi (lit≤ tt)

  product_value : HasValue (mul binary64 x (whole A)) s Z₁ (2 ^ 1074)
  product_value = subst (λ (y : Float). HasValue y s Z₁ (2 ^ 1074)) (sym (product_is s x (whole A) n d A P value (whole_is A A-fits))) (rounded_value (n * A) d k₁ (f + 51) P k₁_most first_unit first_lo first_hi s)

  Z₁-lo : k₁ * 2 ^ 51 * w ≤ Z₁
  Z₁-lo = le_trans (le_of_eq (go k₁ w (2 ^ 51) ∙ ap (λ (z : ℕ). k₁ * z) (sym unit))) (rounded_lo (n * A) d k₁ (f + 51) P k₁_most first_unit first_lo first_hi)
    where
      go : (k w u : ℕ) → k * u * w ≡ k * (w * u)
      go k w u = simp (mul_assoc, mul_comm)

  Z₁-hi : Z₁ ≤ (k₁ + 1) * 2 ^ 51 * w
  Z₁-hi = le_trans (rounded_hi (n * A) d k₁ (f + 51) P k₁_most first_unit first_lo first_hi) (le_of_eq (ap (λ (z : ℕ). (k₁ + 1) * z) unit ∙ go (k₁ + 1) w (2 ^ 51)))
    where
      go : (k w u : ℕ) → k * (w * u) ≡ k * u * w
      go k w u = simp (mul_assoc, mul_comm)

  -- ---- the quotient
  abbrev pub k₂ : ℕ
  k₂ = Z₁ / (w * D)

  k₂_lo : k₂ * (w * D) ≤ Z₁
  k₂_lo = div-mul-le_self Z₁ (w * D)

  k₂_hi : Z₁ ≤ (k₂ + 1) * (w * D)
  k₂_hi = one_more Z₁ (w * D) (mul-pos w_pos D-pos)

  swap : (k w D : ℕ) → k * (w * D) ≡ k * D * w
  swap k w D = simp (mul_assoc, mul_comm)

  half_up : k₂ * D ≤ (k₁ + 1) * 2 ^ 51
  half_up = le_of_mul-le-mul_right {k = w} (le_trans (le_of_eq (sym (swap k₂ w D))) (le_trans k₂_lo Z₁-hi)) w_pos

  half_down : k₁ * 2 ^ 51 ≤ (k₂ + 1) * D
  half_down = le_of_mul-le-mul_right {k = w} (le_trans Z₁-lo (le_trans k₂_hi (le_of_eq (swap (k₂ + 1) w D)))) w_pos

  pub k_up : 2 * (k₂ * D) ≤ G * A + 2 ^ 52
  k_up = go (k₂ * D) k₁ (A * G) (G * A) half_up k₁_lo (mul_comm A G)
    where
      go : (x k y z : ℕ) → x ≤ (k + 1) * 2 ^ 51 → k * 2 ^ 52 ≤ y → y ≡ z → 2 * x ≤ z + 2 ^ 52
      go x k y z h l e = omega arith

  pub k_down : G * A ≤ 2 * ((k₂ + 1) * D) + 2 ^ 52
  k_down = go ((k₂ + 1) * D) k₁ (A * G) (G * A) half_down k₁_hi (mul_comm A G)
    where
      go : (x k y z : ℕ) → k * 2 ^ 51 ≤ x → y ≤ (k + 1) * 2 ^ 52 → y ≡ z → z ≤ 2 * x + 2 ^ 52
      go x k y z h l e = omega arith

  pub k₂_most : k₂ + 1 < 2 ^ 53
  k₂_most = go k₂ k₁ (le_trans (mul-le-mul_left k₂ D-lo) half_up) k₁_most
    where
      go : (k j : ℕ) → k * (3 * 2 ^ 50) ≤ (j + 1) * 2 ^ 51 → j + 1 < 2 ^ 53 → k + 1 < 2 ^ 53
      go k j h l = omega arith

  second_lo : k₂ * w * (2 ^ 1074 * D) ≤ Z₁ * 2 ^ 1074
  second_lo = le_trans (le_of_eq (go k₂ w D (2 ^ 1074))) (mul-le-mul_right (2 ^ 1074) k₂_lo)
    where
      go : (k w D u : ℕ) → k * w * (u * D) ≡ k * (w * D) * u
      go k w D u = simp (mul_assoc, mul_comm, mul_left_comm)

  second_hi : Z₁ * 2 ^ 1074 ≤ (k₂ + 1) * w * (2 ^ 1074 * D)
  second_hi = le_trans (mul-le-mul_right (2 ^ 1074) k₂_hi) (le_of_eq (go (k₂ + 1) w D (2 ^ 1074)))
    where
      go : (k w D u : ℕ) → k * (w * D) * u ≡ k * w * (u * D)
      go k w D u = simp (mul_assoc, mul_comm, mul_left_comm)

  second_unit : f ≤ 2000
  second_unit = le_trans F (lit≤ tt)

  some : 0 < 2 ^ 1074 * D
  some = mul-pos (pow_pos 1074) D-pos

  abbrev pub Z : ℕ
  Z = grid binary64 Z₁ (2 ^ 1074 * D)

  pub quotient_value : HasValue (div binary64 (mul binary64 x (whole A)) (whole D)) s Z (2 ^ 1074)
  quotient_value = subst (λ (y : Float). HasValue y s Z (2 ^ 1074)) (sym (quotient_is s (mul binary64 x (whole A)) (whole D) Z₁ (2 ^ 1074) D (pow_pos 1074) D-pos product_value (whole_is D D-hi))) (rounded_value Z₁ (2 ^ 1074 * D) k₂ f some k₂_most second_unit second_lo second_hi s)

  pub Z-lo : k₂ * w ≤ Z
  Z-lo = rounded_lo Z₁ (2 ^ 1074 * D) k₂ f some k₂_most second_unit second_lo second_hi

  pub Z-hi : Z ≤ (k₂ + 1) * w
  Z-hi = rounded_hi Z₁ (2 ^ 1074 * D) k₂ f some k₂_most second_unit second_lo second_hi
