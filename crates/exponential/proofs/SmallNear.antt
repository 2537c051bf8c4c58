-- exp_m1's distance from document 01's values for an argument below 1/4 in size: the laws on plain numbers and on fractions. Assumes nothing.
use mathlib.Core.Path.{◌≡◌, sym, ap, ◌∙◌, subst}
use Prim.Native.Nat.{ℕ, zero, suc, ◌+◌, ◌*◌, ◌/◌, ◌^◌, ◌≤◌, ◌<◌}
use native.Mathlib.Nat.{add-mul, mul_assoc, mul_comm, mul_left_comm, zero-mul, one-mul, mul-one, add-zero, zero-add, le_trans, le_of_eq, mul-pos, mul-le-mul_left, mul-le-mul_right, le_of_mul-le-mul_right, pow-zero, pow-suc}
use native.Mathlib.Omega.{arith}
use lib.Dec.{lit<, lit≤}
use Rattle.number.specs.Frac.{Frac, frac, le_f, neg_f, sub_f}
use Rattle.number.proofs.Frac.{ring, le_trans_f}
use Rattle.series.specs.Sums.{nat_f}
use Rattle.series.specs.Exact.{exp_sum}
use Rattle.exponential.proofs.Terms.{K, all_terms, both_terms}
use Rattle.exponential.proofs.Literal.{sum_up, sum_down}
use Rattle.exponential.proofs.SmallTerms.{odds, evens, odd_is, even_is, all_is, power_is}

-- ---- on plain numbers: k the quotient's digits, G the argument's, S / U the true ratio, A / D the worked one, cut to A₁ / D₁
module _ (k G S U A D : ℕ) (some : 3 * 2 ^ 61 ≤ D) (digits : G < 2 ^ 53) (ratio : S ≤ 2 * U) (up : 2 * D * S ≤ 2 * A * U + 2518 * U) (down : 2 * A * U ≤ 2 * D * S + 2528 * U) (k_up : 2 * (k * (D / 2048)) ≤ G * (A / 2048) + 2 ^ 52) (k_down : G * (A / 2048) ≤ 2 * ((k + 1) * (D / 2048)) + 2 ^ 52) where
  abbrev A₁ : ℕ
  A₁ = A / 2048

  abbrev D₁ : ℕ
  D₁ = D / 2048

  least : 3 * 2 ^ 50 ≤ D₁
  least = go D some
    where
      go : (D : ℕ) → 3 * 2 ^ 61 ≤ D → 3 * 2 ^ 50 ≤ D / 2048
      go D h = omega arith

  D₁-pos : 0 < D₁
  D₁-pos = le_trans (lit≤ tt) least

  lower : (x : ℕ) → 2048 * (x / 2048) ≤ x
  lower x = omega arith

  upper : (x : ℕ) → x ≤ 2048 * (x / 2048) + 2048
  upper x = omega arith

  -- the cut numbers against the ratio
  cut_down : 4096 * (A₁ * U) ≤ 4096 * (D₁ * S) + 10720 * U
  cut_down = go A₁ D₁ A D S U (mul-le-mul_right U (lower A)) down (mul-le-mul_right S (upper D)) ratio
    where
      go : (a b A D S U : ℕ) → 2048 * a * U ≤ A * U → 2 * A * U ≤ 2 * D * S + 2528 * U → D * S ≤ (2048 * b + 2048) * S → S ≤ 2 * U → 4096 * (a * U) ≤ 4096 * (b * S) + 10720 * U
      go a b A D S U h i j l =
          let h' = simp ring at h in
          let i' = simp ring at i in
          let j' = simp ring at j in
          omega arith

  cut_up : 4096 * (D₁ * S) ≤ 4096 * (A₁ * U) + 6614 * U
  cut_up = go A₁ D₁ A D S U (mul-le-mul_right S (lower D)) up (mul-le-mul_right U (upper A))
    where
      go : (a b A D S U : ℕ) → 2048 * b * S ≤ D * S → 2 * D * S ≤ 2 * A * U + 2518 * U → A * U ≤ (2048 * a + 2048) * U → 4096 * (b * S) ≤ 4096 * (a * U) + 6614 * U
      go a b A D S U h i j =
          let h' = simp ring at h in
          let i' = simp ring at i in
          let j' = simp ring at j in
          omega arith

  digits_U : G * U ≤ 2 ^ 53 * U
  digits_U = mul-le-mul_right U (go G digits)
    where
      go : (G : ℕ) → G < 2 ^ 53 → G ≤ 2 ^ 53
      go G h = omega arith

  least_U : 3 * 2 ^ 50 * U ≤ D₁ * U
  least_U = mul-le-mul_right U least

  pub quotient_lo : 2048 * k * U ≤ 1024 * G * S + 10000 * U
  quotient_lo = le_of_mul-le-mul_right {k = D₁} (lin (k * D₁ * U) (G * A₁ * U) (G * D₁ * S) (G * U) (D₁ * U) U (2048 * k * U * D₁) ((1024 * G * S + 10000 * U) * D₁) (one k D₁ G A₁ U (mul-le-mul_right U k_up)) (two G A₁ D₁ S U (mul-le-mul_left G cut_down)) digits_U least_U (left k U D₁) (right G S U D₁)) D₁-pos
    where
      one : (k b G a U : ℕ) → 2 * (k * b) * U ≤ (G * a + 2 ^ 52) * U → 2 * (k * b * U) ≤ G * a * U + 2 ^ 52 * U
      one k b G a U h = le_trans (le_of_eq (sym (mul_assoc 2 (k * b) U))) (le_trans h (le_of_eq (add-mul (G * a) (2 ^ 52) U)))

      two : (G a b S U : ℕ) → G * (4096 * (a * U)) ≤ G * (4096 * (b * S) + 10720 * U) → 4096 * (G * a * U) ≤ 4096 * (G * b * S) + 10720 * (G * U)
      two G a b S U h = let h' = simp ring at h in simp ring (omega arith)

      left : (k U b : ℕ) → 2048 * k * U * b ≡ 2048 * (k * b * U)
      left k U b = simp (mul_assoc, mul_comm, mul_left_comm)

      right : (G S U b : ℕ) → (1024 * G * S + 10000 * U) * b ≡ 1024 * (G * b * S) + 10000 * (b * U)
      right G S U b = simp ring (omega arith)

      lin : (x y z g b U l r : ℕ) → 2 * x ≤ y + 2 ^ 52 * U → 4096 * y ≤ 4096 * z + 10720 * g → g ≤ 2 ^ 53 * U → 3 * 2 ^ 50 * U ≤ b → l ≡ 2048 * x → r ≡ 1024 * z + 10000 * b → l ≤ r
      lin x y z g b U l r h i j m p q = omega arith

  pub quotient_hi : 1024 * G * S ≤ 2048 * k * U + 10000 * U
  quotient_hi = le_of_mul-le-mul_right {k = D₁} (lin (k * D₁ * U) (G * A₁ * U) (G * D₁ * S) (G * U) (D₁ * U) U (1024 * G * S * D₁) ((2048 * k * U + 10000 * U) * D₁) (one k D₁ G A₁ U (mul-le-mul_right U k_down)) (two G A₁ D₁ S U (mul-le-mul_left G cut_up)) digits_U least_U (left G S D₁) (right k U D₁)) D₁-pos
    where
      one : (k b G a U : ℕ) → G * a * U ≤ (2 * ((k + 1) * b) + 2 ^ 52) * U → G * a * U ≤ 2 * (k * b * U) + 2 * (b * U) + 2 ^ 52 * U
      one k b G a U h = let h' = simp (ring, one-mul) at h in simp ring (omega arith)

      two : (G a b S U : ℕ) → G * (4096 * (b * S)) ≤ G * (4096 * (a * U) + 6614 * U) → 4096 * (G * b * S) ≤ 4096 * (G * a * U) + 6614 * (G * U)
      two G a b S U h = let h' = simp ring at h in simp ring (omega arith)

      left : (G S b : ℕ) → 1024 * G * S * b ≡ 1024 * (G * b * S)
      left G S b = simp (mul_assoc, mul_comm, mul_left_comm)

      right : (k U b : ℕ) → (2048 * k * U + 10000 * U) * b ≡ 2048 * (k * b * U) + 10000 * (b * U)
      right k U b = simp ring (omega arith)

      lin : (x y z g b U l r : ℕ) → y ≤ 2 * x + 2 * b + 2 ^ 52 * U → 4096 * z ≤ 4096 * y + 6614 * g → g ≤ 2 ^ 53 * U → 3 * 2 ^ 50 * U ≤ b → l ≡ 1024 * z → r ≡ 2048 * x + 10000 * b → l ≤ r
      lin x y z g b U l r h i j m p q = omega arith

-- ---- the sums at ± n / d, over C
module _ (n d C : ℕ) (D : 0 < d) where
  abbrev u : ℕ
  u = K * (d * d) ^ 14

  whole_is : K * d ^ 29 ≡ u * d
  whole_is = ap (λ (z : ℕ). K * z) (power_is n d) ∙ sym (mul_assoc K ((d * d) ^ 14) d)

  all_at : all_terms n d ≡ u * d + n * (odds n d + n * d * evens n d)
  all_at = all_is n d ∙ ap (λ (z : ℕ). z + (both_terms n d).1) (odd_is n d) ∙ ap (λ (z : ℕ). n * odds n d + z) (even_is n d) ∙ go n d ((d * d) ^ 14) K (odds n d) (evens n d)
    where
      go : (n d p k o e : ℕ) → n * o + (k * (p * d) + n * n * d * e) ≡ k * p * d + n * (o + n * d * e)
      go n d p k o e = simp ring (omega arith)

  even_at : (both_terms n d).1 ≡ u * d + n * (n * d * evens n d)
  even_at = even_is n d ∙ go n d ((d * d) ^ 14) K (evens n d)
    where
      go : (n d p k e : ℕ) → k * (p * d) + n * n * d * e ≡ k * p * d + n * (n * d * e)
      go n d p k e = simp ring

  pos₁ : 0 < K * d ^ 29
  pos₁ = subst (λ (z : ℕ). 0 < z) (sym whole_is) (mul-pos (mul-pos (lit< tt) (pow_positive (d * d) 14 (mul-pos D D))) D)
    where
      pow_positive : (x k : ℕ) → 0 < x → 0 < x ^ k
      pow_positive x zero h = subst (λ (z : ℕ). 0 < z) (sym (pow-zero x)) (lit< tt)
      pow_positive x (suc k) h = subst (λ (z : ℕ). 0 < z) (sym (pow-suc x k)) (mul-pos (pow_positive x k h) h)

  -- X / C ≤ exp ≤ Y / C from the ratio's bounds
  pub sum_plus : (a b : ℕ) → a * (u * d) ≤ n * (odds n d + n * d * evens n d) * C → n * (odds n d + n * d * evens n d) * C ≤ b * (u * d) → le_f (frac (C + a) 0 C) (exp_sum (frac n 0 d)) × le_f (exp_sum (frac n 0 d)) (frac (C + b) 0 C)
  sum_plus a b h k =
      let S = exp_sum (frac n 0 d) in
      let A = frac (all_terms n d) 0 (K * d ^ 29) in
      let e = sum_up n d D in
      (le_trans_f (frac (C + a) 0 C) A S pos₁ (rw (all_at, whole_is) (low C a (u * d) (n * (odds n d + n * d * evens n d)) h)) e.1, le_trans_f S A (frac (C + b) 0 C) pos₁ e.0 (rw (all_at, whole_is) (high C b (u * d) (n * (odds n d + n * d * evens n d)) k)))
    where
      low : (C a z o : ℕ) → a * z ≤ o * C → (C + a) * z + 0 * C ≤ (z + o) * C + 0 * z
      low C a z o h = let k = simp ring at h in simp (ring, zero-mul, add-zero) (omega arith)

      high : (C b z o : ℕ) → o * C ≤ b * z → (z + o) * C + 0 * z ≤ (C + b) * z + 0 * C
      high C b z o h = let k = simp ring at h in simp (ring, zero-mul, add-zero) (omega arith)

  pub sum_minus : (X Y a b : ℕ) → X + b ≡ C → Y + a ≡ C → a * (u * d) + n * (n * d * evens n d) * C ≤ n * odds n d * C → n * odds n d * C ≤ b * (u * d) + n * (n * d * evens n d) * C → le_f (frac X 0 C) (exp_sum (frac 0 n d)) × le_f (exp_sum (frac 0 n d)) (frac Y 0 C)
  sum_minus X Y a b p q h k =
      let S = exp_sum (frac 0 n d) in
      let A = frac (both_terms n d).1 (both_terms n d).0 (K * d ^ 29) in
      let e = sum_down n d D in (
        le_trans_f (frac X 0 C) A S pos₁ (rw (even_at, odd_is n d, whole_is) (low X b (u * d) (n * odds n d) (n * (n * d * evens n d)) C p k)) e.1,
        le_trans_f S A (frac Y 0 C) pos₁ e.0 (rw (even_at, odd_is n d, whole_is) (high Y a (u * d) (n * odds n d) (n * (n * d * evens n d)) C q h)),
      )
    where
      low : (X b z o t C : ℕ) → X + b ≡ C → o * C ≤ b * z + t * C → X * z + o * C ≤ (z + t) * C + 0 * z
      low X b z o t C e h =
          let p = simp ring at (ap (λ (y : ℕ). y * z) e) in
          simp (ring, zero-mul, add-zero) (omega arith)

      high : (Y a z o t C : ℕ) → Y + a ≡ C → a * z + t * C ≤ o * C → (z + t) * C + 0 * z ≤ Y * z + o * C
      high Y a z o t C e h =
          let p = simp ring at (ap (λ (y : ℕ). y * z) e) in
          simp (ring, zero-mul, add-zero) (omega arith)

-- ---- exp x - 1 from L to H, a unit w more at either end, over C
module _ (e : Frac) (L H w C : ℕ) where
  pub plus_sized : le_f (frac (C + L) w C) e → le_f e (frac (C + H + w) 0 C) → le_f (frac L w C) (sub_f e (nat_f 1)) × le_f (sub_f e (nat_f 1)) (frac (H + w) 0 C)
  plus_sized l u = go e l u
    where
      low : (p n d L w C : ℕ) → (C + L) * d + n * C ≤ p * C + w * d → le_f (frac L w C) (sub_f (frac p n d) (nat_f 1))
      low p n d L w C h = let k = simp ring at h in simp (ring, one-mul, mul-one, zero-mul, add-zero, zero-add) (omega arith)

      high : (p n d H w C : ℕ) → p * C + 0 * d ≤ (C + H + w) * d + n * C → le_f (sub_f (frac p n d) (nat_f 1)) (frac (H + w) 0 C)
      high p n d H w C h = let k = simp (ring, zero-mul, add-zero) at h in simp (ring, one-mul, mul-one, zero-mul, add-zero, zero-add) (omega arith)

      go : (e : Frac) → le_f (frac (C + L) w C) e → le_f e (frac (C + H + w) 0 C) → le_f (frac L w C) (sub_f e (nat_f 1)) × le_f (sub_f e (nat_f 1)) (frac (H + w) 0 C)
      go (frac p n d) l u = (low p n d L w C l, high p n d H w C u)

  pub minus_sized : (X Y : ℕ) → X + H ≡ C → Y + L ≡ C → le_f (frac X w C) e → le_f e (frac (Y + w) 0 C) → le_f (frac L w C) (neg_f (sub_f e (nat_f 1))) × le_f (neg_f (sub_f e (nat_f 1))) (frac (H + w) 0 C)
  minus_sized X Y p q l u = go e l u
    where
      low : (p n d L w C Y : ℕ) → Y + L ≡ C → p * C + 0 * d ≤ (Y + w) * d + n * C → le_f (frac L w C) (neg_f (sub_f (frac p n d) (nat_f 1)))
      low p n d L w C Y e h =
          let k = simp (ring, zero-mul, add-zero) at h in
          let r = simp ring at (ap (λ (z : ℕ). z * d) e) in
          simp (ring, one-mul, mul-one, zero-mul, add-zero, zero-add) (omega arith)

      high : (p n d H w C X : ℕ) → X + H ≡ C → X * d + n * C ≤ p * C + w * d → le_f (neg_f (sub_f (frac p n d) (nat_f 1))) (frac (H + w) 0 C)
      high p n d H w C X e h =
          let r = simp ring at (ap (λ (z : ℕ). z * d) e) in
          simp (ring, one-mul, mul-one, zero-mul, add-zero, zero-add) (omega arith)

      go : (e : Frac) → le_f (frac X w C) e → le_f e (frac (Y + w) 0 C) → le_f (frac L w C) (neg_f (sub_f e (nat_f 1))) × le_f (neg_f (sub_f e (nat_f 1))) (frac (H + w) 0 C)
      go (frac p₁ n₁ d₁) l u = (low p₁ n₁ d₁ L w C Y q u, high p₁ n₁ d₁ H w C X p l)
