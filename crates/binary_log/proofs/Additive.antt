-- What the tables' test says, in numbers: the lists' values, and the eight terms' floors beside them. Assumes nothing.
use mathlib.Core.Path.{◌≡◌, sym, ap, ◌∙◌}
use mathlib.Core.List.{[], ◌∷◌}
use Prim.Native.Nat.{ℕ, ◌+◌, ◌*◌, ◌^◌, ◌≤◌, ◌<◌}
use native.Mathlib.Nat.{le_trans, le_of_eq, add-mul, mul_assoc, mul-one, mul-zero, zero-mul, mul-le-mul_right, le_of_mul-le-mul_right, pow-zero}
use native.Mathlib.Omega.{arith}
use Rattle.fixed_point.proofs.Polynomial.{hom}
use Rattle.series.proofs.Constants.{md}
use Rattle.logarithm.proofs.CoreBounds.{common, tops}
use Rattle.binary_log.proofs.Terms.{ones}
use Rattle.fixed_point.proofs.Horner.{ac}
use Rattle.fixed_point.proofs.Bernstein.{front_start, again_is, once, twice, once_acts, twice_acts}
use Rattle.binary_log.proofs.TableTest.{u_l, v_l, x_l}

-- ---- the lists' values
module _ (s t np nq dp dq : ℕ) where
  pub U-is : hom (u_l np nq dp dq) t s ≡ (2 ^ 19 * s + 2 ^ 19 * t) ^ 8 * ((np * s + nq * t) * hom (tops 0 24) ((np * s + nq * t) * (np * s + nq * t)) ((dp * s + dq * t) * (dp * s + dq * t)))
  U-is =
      again_is 8 (once (2 ^ 19) (2 ^ 19)) (2 ^ 19 * s + 2 ^ 19 * t) 1 s t (once_acts (2 ^ 19) (2 ^ 19) s t) _
      ∙ ap (λ (z : ℕ). (2 ^ 19 * s + 2 ^ 19 * t) ^ 8 * z)
      ((once_acts np nq s t).value _
      ∙ ap (λ (z : ℕ). (np * s + nq * t) * z)
      (front_start (twice np nq) (twice dp dq) ((np * s + nq * t) * (np * s + nq * t)) ((dp * s + dq * t) * (dp * s + dq * t)) 2 s t (twice_acts np nq s t) (twice_acts dp dq s t) common (tops 1 23)))

  pub V-is : (r0 r1 : ℕ) → hom (v_l r0 r1 dp dq) t s ≡ (dp * s + dq * t) ^ 47 * ((r0 * s + r1 * t) * hom (ones 1 8) (r0 * s + r1 * t) (2 ^ 19 * s + 2 ^ 19 * t))
  V-is r0 r1 =
      again_is 47 (once dp dq) (dp * s + dq * t) 1 s t (once_acts dp dq s t) _
      ∙ ap (λ (z : ℕ). (dp * s + dq * t) ^ 47 * z)
      ((once_acts r0 r1 s t).value _
      ∙ ap (λ (z : ℕ). (r0 * s + r1 * t) * z)
      (front_start (once r0 r1) (once (2 ^ 19) (2 ^ 19)) (r0 * s + r1 * t) (2 ^ 19 * s + 2 ^ 19 * t) 1 s t (once_acts r0 r1 s t) (once_acts (2 ^ 19) (2 ^ 19) s t) (md * 840 * 64 ^ 7) (ones 2 7)))

  pub X-is : hom (x_l dp dq) t s ≡ (dp * s + dq * t) ^ 47 * (2 ^ 19 * s + 2 ^ 19 * t) ^ 8
  unfolding hom
  X-is =
      again_is 47 (once dp dq) (dp * s + dq * t) 1 s t (once_acts dp dq s t) _
      ∙ ap (λ (z : ℕ). (dp * s + dq * t) ^ 47 * z)
      (again_is 8 (once (2 ^ 19) (2 ^ 19)) (2 ^ 19 * s + 2 ^ 19 * t) 1 s t (once_acts (2 ^ 19) (2 ^ 19) s t) (1 ∷ [])
      ∙ go ((2 ^ 19 * s + 2 ^ 19 * t) ^ 8) (s ^ 0) t (pow-zero s))
    where
      go : (x S t : ℕ) → S ≡ 1 → x * (1 * S + t * 0) ≡ x
      go x S t h = ap (λ (z : ℕ). x * (1 * z + t * 0)) h ∙ ap (λ (z : ℕ). x * (1 * 1 + z)) (mul-zero t) ∙ mul-one x

-- ---- plain numbers. a / (K p) is document 01's sum num / den; b / (C w m) the program's eight terms over ln 2 = m / q; e the unit
module _ (K C m q e a b p w num den rho l : ℕ) (pos : 0 < K * C * (p * w)) (sum : num * (K * p) ≡ a * den) where
  e1 : 2 * C * q * e * (w * a) * den ≡ 2 * e * q * num * (K * C * (p * w))
  e1 = s1 C q e w a den ∙ ap (λ (z : ℕ). 2 * C * q * e * w * z) (sym sum) ∙ s2 C q e w num K p
    where
      s1 : (C q e w a den : ℕ) → 2 * C * q * e * (w * a) * den ≡ 2 * C * q * e * w * (a * den)
      s1 C q e w a den = simp ac

      s2 : (C q e w num K p : ℕ) → 2 * C * q * e * w * (num * (K * p)) ≡ 2 * e * q * num * (K * C * (p * w))
      s2 C q e w num K p = simp ac

  e2 : rho * (m * C * w) ≤ e * b → m * rho * den * (K * C * (p * w)) ≤ K * e * (p * b) * den
  e2 h = le_trans (le_of_eq (s1 m rho den K C p w)) (le_trans (mul-le-mul_right (K * p * den) h) (le_of_eq (s2 e b K p den)))
    where
      s1 : (m rho den K C p w : ℕ) → m * rho * den * (K * C * (p * w)) ≡ rho * (m * C * w) * (K * p * den)
      s1 m rho den K C p w = simp ac

      s2 : (e b K p den : ℕ) → e * b * (K * p * den) ≡ K * e * (p * b) * den
      s2 e b K p den = simp ac

  e3 : 32 * (e * b) ≤ (32 * rho + 33) * (m * C * w) → 32 * (K * e * (p * b) * den) ≤ m * (32 * rho + 33) * den * (K * C * (p * w))
  e3 h = le_trans (le_of_eq (s2 32 e b K p den)) (le_trans (mul-le-mul_right (K * p * den) h) (le_of_eq (sym (s1 m (32 * rho + 33) den K C p w))))
    where
      s1 : (m rho den K C p w : ℕ) → m * rho * den * (K * C * (p * w)) ≡ rho * (m * C * w) * (K * p * den)
      s1 m rho den K C p w = simp ac

      s2 : (n e b K p den : ℕ) → n * (K * e * (p * b) * den) ≡ n * (e * b) * (K * p * den)
      s2 n e b K p den = simp ac

  e4 : (k : ℕ) → K * C * m * k * (p * w) * den ≡ m * k * den * (K * C * (p * w))
  e4 k = go K C m k p w den
    where
      go : (K C m k p w den : ℕ) → K * C * m * k * (p * w) * den ≡ m * k * den * (K * C * (p * w))
      go K C m k p w den = simp ac

  e5 : K * C * m * (p * w) * den ≡ m * den * (K * C * (p * w))
  e5 = go K C m p w den
    where
      go : (K C m p w den : ℕ) → K * C * m * (p * w) * den ≡ m * den * (K * C * (p * w))
      go K C m p w den = simp ac

  wide : (x y z x' y' z' d : ℕ) → x + y + z ≤ x' + y' + z' → x * d + y * d + z * d ≤ x' * d + y' * d + z' * d
  wide x y z x' y' z' d h = le_trans (le_of_eq (sym (three x y z d))) (le_trans (mul-le-mul_right d h) (le_of_eq (three x' y' z' d)))
    where
      three : (x y z d : ℕ) → (x + y + z) * d ≡ x * d + y * d + z * d
      three x y z d = simp add-mul

  out : (n c x d : ℕ) → n * c * x * d ≡ n * (c * x * d)
  out n c x d = simp ac

  out2 : (n c k x d : ℕ) → n * c * k * x * d ≡ n * (c * k * x * d)
  out2 n c k x d = simp ac

  zero3 : (x d : ℕ) → 0 * x * d ≡ 0
  zero3 x d = simp zero-mul

  pub hi0 : rho * (m * C * w) ≤ e * b
      → 2 * C * q * e * (w * a) + K * e * (p * b) + 0 * (p * w) ≤ 0 * (w * a) + 0 * (p * b) + K * C * m * (l + 1) * (p * w)
      → 2 * e * q * num + m * rho * den ≤ m * (l + 1) * den
  hi0 h k = le_of_mul-le-mul_right (le_trans (le_of_eq (add-mul (2 * e * q * num) (m * rho * den) (K * C * (p * w))))
      (lin e1 (e2 h) (e4 (l + 1)) (zero3 (p * w) den) (zero3 (w * a) den) (zero3 (p * b) den) (wide (2 * C * q * e * (w * a)) (K * e * (p * b)) (0 * (p * w)) (0 * (w * a)) (0 * (p * b)) (K * C * m * (l + 1) * (p * w)) den k))) pos
    where
      lin : {A B D u v x z z' z'' : ℕ} → u ≡ A → B ≤ v → x ≡ D → z ≡ 0 → z' ≡ 0 → z'' ≡ 0 → u + v + z ≤ z' + z'' + x → A + B ≤ D
      lin e f g i j o h = omega arith

  pub lo0 : 32 * (e * b) ≤ (32 * rho + 33) * (m * C * w)
      → 0 * (w * a) + 0 * (p * b) + 32 * (K * C * m) * l * (p * w) ≤ 32 * (2 * C * q * e) * (w * a) + 32 * (K * e) * (p * b) + K * C * m * (p * w)
      → 32 * (m * l * den) ≤ 32 * (2 * e * q * num) + m * (32 * rho + 33) * den + m * den
  lo0 h k = le_of_mul-le-mul_right (le_trans (le_of_eq (mul_assoc 32 (m * l * den) (K * C * (p * w)))) (le_trans
      (lin (K * e * (p * b) * den) e1 (e3 h) (e4 l) e5 (zero3 (w * a) den) (zero3 (p * b) den) (out 32 (2 * C * q * e) (w * a) den) (out 32 (K * e) (p * b) den) (out2 32 (K * C * m) l (p * w) den) (wide (0 * (w * a)) (0 * (p * b)) (32 * (K * C * m) * l * (p * w)) (32 * (2 * C * q * e) * (w * a)) (32 * (K * e) * (p * b)) (K * C * m * (p * w)) den k))
      (le_of_eq (sym (dis (2 * e * q * num) (m * (32 * rho + 33) * den) (m * den) (K * C * (p * w))))))) pos
    where
      dis : (x y z d : ℕ) → (32 * x + y + z) * d ≡ 32 * (x * d) + y * d + z * d
      dis x y z d = simp (add-mul, mul_assoc)

      lin : {A B D E u x x' z z' u2 v2 x2 : ℕ} (v : ℕ) → u ≡ A → 32 * v ≤ B → x ≡ D → x' ≡ E → z ≡ 0 → z' ≡ 0 → u2 ≡ 32 * u → v2 ≡ 32 * v → x2 ≡ 32 * x → z + z' + x2 ≤ u2 + v2 + x' → 32 * D ≤ 32 * A + B + E
      lin v e f g i j o r s t h = omega arith

  pub hi1 : rho * (m * C * w) ≤ e * b
      → 0 * (w * a) + K * e * (p * b) + K * C * m * e * (p * w) ≤ 2 * C * q * e * (w * a) + 0 * (p * b) + K * C * m * (l + 1) * (p * w)
      → m * rho * den + m * e * den ≤ 2 * e * q * num + m * (l + 1) * den
  hi1 h k = le_of_mul-le-mul_right (le_trans (le_of_eq (add-mul (m * rho * den) (m * e * den) (K * C * (p * w)))) (le_trans
      (lin e1 (e2 h) (e4 (l + 1)) (e4 e) (zero3 (w * a) den) (zero3 (p * b) den) (wide (0 * (w * a)) (K * e * (p * b)) (K * C * m * e * (p * w)) (2 * C * q * e * (w * a)) (0 * (p * b)) (K * C * m * (l + 1) * (p * w)) den k))
      (le_of_eq (sym (add-mul (2 * e * q * num) (m * (l + 1) * den) (K * C * (p * w))))))) pos
    where
      lin : {A B D E u v x y z z' : ℕ} → u ≡ A → B ≤ v → x ≡ D → y ≡ E → z ≡ 0 → z' ≡ 0 → z + v + y ≤ u + z' + x → B + E ≤ A + D
      lin e f g i j o h = omega arith

  pub lo1 : 32 * (e * b) ≤ (32 * rho + 33) * (m * C * w)
      → 32 * (2 * C * q * e) * (w * a) + 0 * (p * b) + 32 * (K * C * m) * l * (p * w) ≤ 0 * (w * a) + 32 * (K * e) * (p * b) + (32 * (K * C * m) * e + K * C * m) * (p * w)
      → 32 * (2 * e * q * num) + 32 * (m * l * den) ≤ m * (32 * rho + 33) * den + 32 * (m * e * den) + m * den
  lo1 h k = le_of_mul-le-mul_right (le_trans (le_of_eq (dis2 (2 * e * q * num) (m * l * den) (K * C * (p * w)))) (le_trans
      (lin (K * e * (p * b) * den) e1 (e3 h) (e4 l) (e4 e) e5 (zero3 (w * a) den) (zero3 (p * b) den) (out 32 (2 * C * q * e) (w * a) den) (out 32 (K * e) (p * b) den) (out2 32 (K * C * m) l (p * w) den) (more (K * C * m) e (p * w) den) (wide (32 * (2 * C * q * e) * (w * a)) (0 * (p * b)) (32 * (K * C * m) * l * (p * w)) (0 * (w * a)) (32 * (K * e) * (p * b)) ((32 * (K * C * m) * e + K * C * m) * (p * w)) den k))
      (le_of_eq (sym (dis (m * (32 * rho + 33) * den) (m * e * den) (m * den) (K * C * (p * w))))))) pos
    where
      dis : (x y z d : ℕ) → (x + 32 * y + z) * d ≡ x * d + 32 * (y * d) + z * d
      dis x y z d = simp (add-mul, mul_assoc)

      dis2 : (x y d : ℕ) → (32 * x + 32 * y) * d ≡ 32 * (x * d) + 32 * (y * d)
      dis2 x y d = simp (add-mul, mul_assoc)

      more : (c e x d : ℕ) → (32 * c * e + c) * x * d ≡ 32 * (c * e * x * d) + c * x * d
      more c e x d = simp (add-mul, mul_assoc)

      lin : {A B D E F u x y y' z z' u2 v2 x2 y2 : ℕ} (v : ℕ) → u ≡ A → 32 * v ≤ B → x ≡ D → y ≡ E → y' ≡ F → z ≡ 0 → z' ≡ 0 → u2 ≡ 32 * u → v2 ≡ 32 * v → x2 ≡ 32 * x → y2 ≡ 32 * y + y' → u2 + z' + x2 ≤ z + v2 + y2 → 32 * A + 32 * D ≤ B + 32 * E + F
      lin v e f g g2 i j o r s t t2 h = omega arith
