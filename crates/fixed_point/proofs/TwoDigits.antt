-- A quotient by two digits of 32 bits, each digit taken with the divisor's upper half rounded up. Assumes nothing.
use mathlib.Core.Path.{◌≡◌, sym, ap, ◌∙◌}
use Prim.Native.Nat.{ℕ, ◌+◌, ◌-◌, ◌*◌, ◌/◌, ◌%◌, ◌^◌, ◌≤◌, ◌<◌}
use native.Mathlib.Nat.{le_refl, le_trans, le_of_eq, lt_of_le_of_lt, lt_of_lt_of_le, add-le-add, mul-add, add-mul, mul_assoc, add_assoc, mul-one, one-mul, mul-le-mul, mul-le-mul_left, mul-le-mul_right, lt_of_mul-lt-mul_right, div-mul-le_self, lt-div-mul-add, le_of_lt, div-lt_iff_lt-mul}
use native.Mathlib.Omega.{arith}
use Rattle.fixed_point.specs.Quotient.{quotient}
use Rattle.fixed_point.proofs.Horner.{ac}

abbrev pub P : ℕ
P = 4294967296

module _ (n d : ℕ) where
  abbrev pub x : ℕ
  x = d / P

  abbrev pub y : ℕ
  y = d % P

  abbrev pub q : ℕ
  q = n / (d / P + 1)

  abbrev pub a : ℕ
  a = n - n / (d / P + 1) * (d / P)

  abbrev pub r : ℕ
  r = (n - n / (d / P + 1) * (d / P)) * P - n / (d / P + 1) * (d % P)

  pub whole : x * P + y ≡ d
  whole = omega arith

  pub y_lt : y < P
  y_lt = omega arith

-- on plain numbers
over : (x y d : ℕ) → x * P + y ≡ d → y < P → d < (x + 1) * P
over x y d e h = omega arith

digit_up : (q x : ℕ) → q * (x + 1) ≡ q * x + q
digit_up q x = mul-add q x 1 ∙ ap (λ (z : ℕ). q * x + z) (mul-one q)

q_small : (n d x q : ℕ) → d < (x + 1) * P → 10 * n ≤ 3 * d → q * (x + 1) ≤ n → q < 1288490189
q_small n d x q h k l =
    tenth q (lt_of_mul-lt-mul_right (x + 1) (lt_of_le_of_lt (le_trans (le_of_eq (mul_assoc 10 q (x + 1))) (le_trans (mul-le-mul_left 10 l) k)) (lt_of_lt_of_le (thrice d ((x + 1) * P) h) (le_of_eq (swap 3 (x + 1) P)))))
  where
    tenth : (q : ℕ) → 10 * q < 3 * P → q < 1288490189
    tenth q h = omega arith

    thrice : (d u : ℕ) → d < u → 3 * d < 3 * u
    thrice d u h = omega arith

    swap : (a b c : ℕ) → a * (b * c) ≡ a * c * b
    swap a b c = simp ac

module _ (n d : ℕ) (lo : 2 ^ 62 ≤ d) (hi : 5 * d ≤ 14 * 2 ^ 62) (few : 10 * n ≤ 3 * d) where
  below : q n d * (x n d + 1) ≤ n
  below = div-mul-le_self n (d / P + 1)

  one_pos : (z : ℕ) → 0 < z + 1
  one_pos z = omega arith

  above : n < q n d * (x n d + 1) + (x n d + 1)
  above = lt-div-mul-add {a = n} {b = d / P + 1} (one_pos (d / P))

  pub q_lt : q n d < 1288490189
  q_lt = q_small n d (x n d) (q n d) (over (x n d) (y n d) d (whole n d) (y_lt n d)) few below

  x_le : x n d ≤ 3006477107
  x_le = omega arith

  pub x_ge : 2 ^ 30 ≤ x n d
  x_ge = omega arith

  below' : q n d * x n d + q n d ≤ n
  below' = le_trans (le_of_eq (sym (digit_up (q n d) (x n d)))) below

  above' : n < q n d * x n d + q n d + (x n d + 1)
  above' = lt_of_lt_of_le above (le_of_eq (ap (λ (z : ℕ). z + (x n d + 1)) (digit_up (q n d) (x n d))))

  pub sub_a_ok : q n d * x n d ≤ n
  sub_a_ok = go (q n d * x n d) (q n d) n below'
    where
      go : (u q n : ℕ) → u + q ≤ n → u ≤ n
      go u q n h = omega arith

  pub q_le_a : q n d ≤ a n d
  q_le_a = go (q n d * x n d) (q n d) n below'
    where
      go : (u q n : ℕ) → u + q ≤ n → q ≤ n - u
      go u q n h = omega arith

  pub a_lt : a n d < P
  a_lt = go (q n d * x n d) (q n d) n (x n d) above' q_lt x_le
    where
      go : (u q n x : ℕ) → n < u + q + (x + 1) → q < 1288490189 → x ≤ 3006477107 → n - u < P
      go u q n x h k l = omega arith

  pub sub_r_ok : q n d * y n d ≤ a n d * P
  sub_r_ok = mul-le-mul q_le_a (le_of_lt (y_lt n d))

  pub a_p_lt : a n d * P < 2 ^ 64
  a_p_lt = go (a n d) a_lt
    where
      go : (a : ℕ) → a < P → a * P < 2 ^ 64
      go a h = omega arith

  pub r_lt : r n d < 2 ^ 64
  r_lt = go (a n d * P) (q n d * y n d) a_p_lt
    where
      go : (u v : ℕ) → u < 2 ^ 64 → u - v < 2 ^ 64
      go u v h = omega arith

  -- n * P = q * d + r
  pub balance : n * P ≡ q n d * d + r n d
  balance =
      back (q n d * y n d) (a n d * P) (q n d * x n d * P) (q n d * d) (n * P) sub_r_ok (cut n (q n d * x n d) sub_a_ok)
      (ap (λ (z : ℕ). q n d * z) (sym (whole n d)) ∙ spread (q n d) (x n d) (y n d))
    where
      cut : (n u : ℕ) → u ≤ n → (n - u) * P + u * P ≡ n * P
      cut n u h = omega arith

      spread : (q x y : ℕ) → q * (x * P + y) ≡ q * x * P + q * y
      spread q x y = mul-add q (x * P) y ∙ ap (λ (z : ℕ). z + q * y) (sym (mul_assoc q x P))

      back : (v u w s t : ℕ) → v ≤ u → u + w ≡ t → s ≡ w + v → t ≡ s + (u - v)
      back v u w s t h e f = omega arith

  pub e_lt : r n d / (d / P + 1) < 2 ^ 34
  e_lt = (div-lt_iff_lt-mul (one_pos (d / P))).1 (lt_of_lt_of_le r_lt (go (d / P) x_ge))
    where
      go : (x : ℕ) → 2 ^ 30 ≤ x → 2 ^ 64 ≤ 2 ^ 34 * (x + 1)
      go x h = omega arith

  pub result_fits : q n d * P + r n d / (d / P + 1) < 2 ^ 64
  result_fits = go (q n d) (r n d / (d / P + 1)) q_lt e_lt
    where
      go : (q e : ℕ) → q < 1288490189 → e < 2 ^ 34 → q * P + e < 2 ^ 64
      go q e h k = omega arith

  pub q_p_lt : q n d * P < 2 ^ 64
  q_p_lt = go (q n d) q_lt
    where
      go : (q : ℕ) → q < 1288490189 → q * P < 2 ^ 64
      go q h = omega arith

  -- n * 2 ^ 64 = q * d * P + r * P
  scaled : n * 2 ^ 64 ≡ q n d * P * d + r n d * P
  scaled = two n ∙ ap (λ (z : ℕ). z * P) balance ∙ add-mul (q n d * d) (r n d) P ∙ ap (λ (z : ℕ). z + r n d * P) (flip (q n d) d)
    where
      two : (n : ℕ) → n * 2 ^ 64 ≡ n * P * P
      two n = omega arith

      flip : (q d : ℕ) → q * d * P ≡ q * P * d
      flip q d = simp ac

  result_lo : (q n d * P + r n d / (d / P + 1)) * d ≤ n * 2 ^ 64
  result_lo =
      le_trans (le_of_eq (add-mul (q n d * P) (r n d / (d / P + 1)) d))
      (le_trans (add-le-add (le_refl (q n d * P * d)) (part (r n d / (d / P + 1)) (x n d) (r n d) (le_of_lt (over (x n d) (y n d) d (whole n d) (y_lt n d))) (div-mul-le_self (r n d) (d / P + 1))))
      (le_of_eq (sym scaled)))
    where
      part : (e x r : ℕ) → d ≤ (x + 1) * P → e * (x + 1) ≤ r → e * d ≤ r * P
      part e x r h k = le_trans (mul-le-mul_left e h) (le_trans (le_of_eq (sym (mul_assoc e (x + 1) P))) (mul-le-mul_right P k))

  -- k d covers the rounding up of the divisor's upper half
  result_hi : (k : ℕ) → (r n d / (d / P + 1) + 1) * P ≤ k * d → n * 2 ^ 64 ≤ (q n d * P + r n d / (d / P + 1) + (1 + k)) * d
  result_hi k cover =
      le_trans (le_of_eq scaled)
      (le_trans (add-le-add (le_refl (q n d * P * d)) (part (r n d / (d / P + 1)) (x n d) (y n d) (r n d) (whole n d) (lt-div-mul-add {a = r n d} {b = d / P + 1} (one_pos (d / P))) cover))
      (le_of_eq (sym (add-mul (q n d * P) (r n d / (d / P + 1) + (1 + k)) d) ∙ ap (λ (z : ℕ). z * d) (sym (add_assoc (q n d * P) (r n d / (d / P + 1)) (1 + k))))))
    where
      -- r < (e + 1) (x + 1), and (x + 1) P ≤ d + P
      part : (e x y r : ℕ) → x * P + y ≡ d → r < e * (x + 1) + (x + 1) → (e + 1) * P ≤ k * d → r * P ≤ (e + (1 + k)) * d
      part e x y r w h c =
          le_trans (mul-le-mul_right P (le_of_lt h))
          (le_trans (le_of_eq (p1 e x))
          (le_trans (mul-le-mul_left (e + 1) (p2 x y w))
          (le_trans (le_of_eq (mul-add (e + 1) d P))
          (le_trans (add-le-add (le_refl ((e + 1) * d)) c) (le_of_eq (p4 e))))))
        where
          p1 : (e x : ℕ) → (e * (x + 1) + (x + 1)) * P ≡ (e + 1) * ((x + 1) * P)
          p1 e x = ap (λ (z : ℕ). (e * (x + 1) + z) * P) (sym (one-mul (x + 1))) ∙ ap (λ (z : ℕ). z * P) (sym (add-mul e 1 (x + 1))) ∙ mul_assoc (e + 1) (x + 1) P

          p2 : (x y : ℕ) → x * P + y ≡ d → (x + 1) * P ≤ d + P
          p2 x y h = omega arith

          p4 : (e : ℕ) → (e + 1) * d + k * d ≡ (e + (1 + k)) * d
          p4 e = sym (add-mul (e + 1) k d) ∙ ap (λ (z : ℕ). z * d) (add_assoc e 1 k)

  -- ---- the laws of `quotient`
  pub quotient_lo : quotient n d * d ≤ n * 2 ^ 64
  unfolding quotient
  quotient_lo = result_lo

  pub quotient_hi : n * 2 ^ 64 ≤ (quotient n d + 17) * d
  unfolding quotient
  quotient_hi = result_hi 16 (go (r n d / (d / P + 1)) d e_lt lo)
    where
      go : (e d : ℕ) → e < 2 ^ 34 → 2 ^ 62 ≤ d → (e + 1) * P ≤ 16 * d
      go e d h k = omega arith

  pub quotient_hi7 : 5 * 2 ^ 62 ≤ 3 * d → n * 2 ^ 64 ≤ (quotient n d + 7) * d
  unfolding quotient
  quotient_hi7 five = result_hi 6 (go (r n d / (d / P + 1)) d e_lt7 five)
    where
      e_lt7 : r n d / (d / P + 1) < 10307921511
      e_lt7 = (div-lt_iff_lt-mul (one_pos (d / P))).1 (lt_of_lt_of_le r_lt (most (d / P) (big d five)))
        where
          big : (d : ℕ) → 5 * 2 ^ 62 ≤ 3 * d → 1789569706 ≤ d / P
          big d h = omega arith

          most : (x : ℕ) → 1789569706 ≤ x → 2 ^ 64 ≤ 10307921511 * (x + 1)
          most x h = omega arith

      go : (e d : ℕ) → e < 10307921511 → 5 * 2 ^ 62 ≤ 3 * d → (e + 1) * P ≤ 6 * d
      go e d h k = omega arith
