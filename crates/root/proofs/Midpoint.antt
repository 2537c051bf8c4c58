-- From units of 2 ^ -1074 to fractions: the square of a midpoint against a number. Assumes nothing.
use mathlib.Core.Path.{◌≡◌, sym, ap, ◌∙◌, subst₂}
use Prim.Native.Nat.{ℕ, ◌+◌, ◌*◌, ◌<◌}
use native.Mathlib.Nat.{mul-pos, one-mul, zero-mul, mul-zero, add-zero, zero-add, mul-lt-mul_of_pos_right, lt_of_mul-lt-mul_right}
use native.Mathlib.Omega.{arith}
use Rattle.number.specs.Frac.{frac, lt_f, add_f, mul_f}
use Rattle.number.proofs.Frac.{ring}
use Rattle.root.specs.Root.{square_f}

-- p / d is n / u, and s / w is t / u
module _ (p d s w n t u : ℕ) (U : 0 < u) (D : 0 < d) (W : 0 < w) (e : p * u ≡ n * d) (f : s * u ≡ t * w) where
  left : p * (2 * w * (2 * w)) * (u * u) ≡ 4 * n * u * (w * w * d)
  left = order p w u ∙ ap (λ (z : ℕ). z * (4 * (w * w) * u)) e ∙ back n d w u
    where
      order : (p w u : ℕ) → p * (2 * w * (2 * w)) * (u * u) ≡ p * u * (4 * (w * w) * u)
      order p w u = simp ring (omega arith)

      back : (n d w u : ℕ) → n * d * (4 * (w * w) * u) ≡ 4 * n * u * (w * w * d)
      back n d w u = simp ring (omega arith)

  right : s * s * d * (u * u) ≡ t * t * (w * w * d)
  right = order s d u ∙ ap (λ (z : ℕ). z * z * d) f ∙ back t w d
    where
      order : (s d u : ℕ) → s * s * d * (u * u) ≡ s * u * (s * u) * d
      order s d u = simp ring

      back : (t w d : ℕ) → t * w * (t * w) * d ≡ t * t * (w * w * d)
      back t w d = simp ring

  under : 4 * n * u < t * t → p * (2 * w * (2 * w)) < s * s * d
  under h = lt_of_mul-lt-mul_right (u * u) (subst₂ (λ (x y : ℕ). x < y) (sym left) (sym right) (mul-lt-mul_of_pos_right h (mul-pos (mul-pos W W) D)))

  over : t * t < 4 * n * u → s * s * d < p * (2 * w * (2 * w))
  over h = lt_of_mul-lt-mul_right (u * u) (subst₂ (λ (x y : ℕ). x < y) (sym right) (sym left) (mul-lt-mul_of_pos_right h (mul-pos (mul-pos W W) D)))

ruleset clean = (zero-mul, mul-zero, one-mul, add-zero, zero-add)

-- x is n units, r and y are a and b units, u units are 1
module _ (p d q c o l n a b u : ℕ) (U : 0 < u) (D : 0 < d) (C : 0 < c) (L : 0 < l) (ex : p * u ≡ n * d) (er : q * u ≡ a * c) (ey : o * u ≡ b * l) where
  sum : (q * l + o * c) * u ≡ (a + b) * (c * l)
  sum = order q l o c u ∙ ap (λ (z : ℕ). z * l + o * u * c) er ∙ ap (λ (z : ℕ). a * c * l + z * c) ey ∙ back a b c l
    where
      order : (q l o c u : ℕ) → (q * l + o * c) * u ≡ q * u * l + o * u * c
      order q l o c u = simp ring

      back : (a b c l : ℕ) → a * c * l + b * l * c ≡ (a + b) * (c * l)
      back a b c l = simp ring

  pub square_above : 4 * n * u < (a + b) * (a + b) → lt_f (frac p 0 d) (square_f (mul_f (frac 1 0 2) (add_f (frac q 0 c) (frac o 0 l))))
  square_above h = simp clean (under p d (q * l + o * c) (c * l) n (a + b) u U D (mul-pos C L) ex sum h)

  pub square_below : (a + b) * (a + b) < 4 * n * u → lt_f (square_f (mul_f (frac 1 0 2) (add_f (frac q 0 c) (frac o 0 l)))) (frac p 0 d)
  square_below h = simp clean (over p d (q * l + o * c) (c * l) n (a + b) u U D (mul-pos C L) ex sum h)
