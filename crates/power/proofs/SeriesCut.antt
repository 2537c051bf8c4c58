-- T is within 2 ^ -60 of twice document 01's sum of 24 terms: the twelve terms that T leaves out are small. Assumes nothing.
use mathlib.Core.Path.{◌≡◌, refl, sym, ap, ap₂, ◌∙◌}
use mathlib.Core.List.{List, [], ◌∷◌}
use Prim.Native.Nat.{ℕ, suc, ◌+◌, ◌*◌, ◌/◌, ◌^◌, ◌≤◌, ◌<◌}
use native.Mathlib.Nat.{le_refl, le_trans, le_of_eq, add-le-add, mul_assoc, mul-add, one-mul, zero-mul, zero-add, mul-le-mul, mul-le-mul_left, mul-le-mul_right, le_of_mul-le-mul_right, mul-pos, one-le-pow, pow-suc, pow-zero}
use native.Mathlib.Omega.{arith}
use lib.Dec.{T, lit<, lit≤}
use lib.ListN.{length}
use lib.Pow.{pow-add}
use Rattle.number.specs.Frac.{frac, sub_f}
use Rattle.fixed_point.proofs.Polynomial.{hom}
use Rattle.fixed_point.proofs.Horner.{ring, ac, rest, aboveb}
use Rattle.logarithm.proofs.CoreBounds.{common, tops}
use Rattle.exponential.proofs.Bounds.{Bound}
use Rattle.binary_log.proofs.Significand.{Odds}
use Rattle.power.proofs.Compose.{series, coefficients, last_one, T₀, U, pad, pad_is, zeros, powers, squares, square_pow}

-- k times T's coefficients, and others behind them
abbrev before : ℕ → List ℕ → ℕ → List ℕ → List ℕ
before k [] e ys = k * e ∷ ys
before k (c ∷ cs) e ys = k * c ∷ before k cs e ys

before_length : (k : ℕ) (cs : List ℕ) (e : ℕ) (ys : List ℕ) → length (before k cs e ys) ≡ suc (length cs) + length ys
before_length k [] e ys = lin (length ys)
  where
    lin : (l : ℕ) → suc l ≡ 1 + l
    lin l = omega arith
before_length k (c ∷ cs) e ys = ap suc (before_length k cs e ys) ∙ lin (length cs) (length ys)
  where
    lin : (a b : ℕ) → suc (suc a + b) ≡ suc (suc a) + b
    lin a b = omega arith

before_is : (k : ℕ) (cs : List ℕ) (e : ℕ) (ys : List ℕ) (N D : ℕ) → hom (before k cs e ys) N D ≡ k * (series cs e N D * D ^ length ys) + N ^ suc (length cs) * hom ys N D
unfolding hom
before_is k [] e ys N D = ap₂ ◌+◌ (mul_assoc k e (D ^ length ys)) (ap (λ (x : ℕ). x * hom ys N D) (sym (pow-suc N 0 ∙ ap (λ (x : ℕ). x * N) (pow-zero N) ∙ one-mul N)))
before_is k (c ∷ cs) e ys N D =
    ap₂ (λ (p x : ℕ). k * c * p + N * x) (ap (λ (l : ℕ). D ^ l) (before_length k cs e ys) ∙ pow-add D (suc (length cs)) (length ys)) (before_is k cs e ys N D)
    ∙ go k c N (D ^ suc (length cs)) (D ^ length ys) (series cs e N D) (N ^ suc (length cs)) (hom ys N D)
    ∙ ap (λ (x : ℕ). k * ((c * D ^ suc (length cs) + N * series cs e N D) * D ^ length ys) + x * hom ys N D) (sym (pow-suc N (suc (length cs))))
  where
    go : (k c N p q s m h : ℕ) → k * c * (p * q) + N * (k * (s * q) + m * h) ≡ k * ((c * p + N * s) * q) + m * N * h
    go k c N p q s m h = simp ring

-- common is k times T's denominator
abbrev k : ℕ
k = 41343081645

twice_tops : pad 2 0 (tops 0 24) ≡ before k coefficients last_one (pad 2 0 (tops 12 12))
unfolding pad
twice_tops = refl

-- twice the coefficients left out are at most this
abbrev m : ℕ
m = 2 * common / 25

few : T (aboveb 0 0 m [] (pad 2 0 (tops 12 12)))
unfolding pad zeros
few = tt

twelve : length (pad 2 0 (tops 12 12)) ≡ 12
unfolding pad zeros
twelve = refl

module _ (n d p q : ℕ) (fifth : 5 * n ≤ d) (dp : 0 < d) (odds : Odds n d p q) where
  abbrev N : ℕ
  N = n * n

  abbrev D : ℕ
  D = d * d

  abbrev σ : ℕ
  σ = series coefficients last_one N D

  abbrev R : ℕ
  R = hom (pad 2 0 (tops 12 12)) N D

  abbrev H : ℕ
  H = hom (tops 0 24) N D

  D-pos : 0 < D
  D-pos = mul-pos dp dp

  twice : 2 * H ≡ k * (σ * D ^ 12) + N ^ 12 * R
  twice =
      sym (pad_is 2 0 N D (tops 0 24) ∙ ap (λ (x : ℕ). 2 * x * H) (pow-zero D))
      ∙ ap (λ (ls : List ℕ). hom ls N D) twice_tops ∙ before_is k coefficients last_one (pad 2 0 (tops 12 12)) N D
      ∙ ap (λ (l : ℕ). k * (σ * D ^ l) + N ^ 12 * R) twelve

  -- common d D ^ 24 is k U D ^ 13
  whole : common * d * D ^ 24 ≡ k * U d * D ^ 13
  whole = ap (λ (x : ℕ). common * d * x) (pow-add D 11 13) ∙ go k 334639305 d (D ^ 11) (D ^ 13) ∙ ap (λ (x : ℕ). k * (334639305 * x) * D ^ 13) (ap (λ (x : ℕ). x * d) (sym (square_pow d 11)) ∙ sym (pow-suc d 22))
    where
      go : (k l d x y : ℕ) → k * l * d * (x * y) ≡ k * (l * (x * d)) * y
      go k l d x y = simp ac

  main : 2 * (p * (k * U d * D ^ 13)) ≡ n * σ * q * (k * D ^ 13) + n * (N ^ 12 * (R * D)) * q
  main =
      ap (λ (x : ℕ). 2 * (p * x)) (sym whole) ∙ ap (λ (x : ℕ). 2 * x) odds ∙ s1 n H D q ∙ ap (λ (x : ℕ). n * x * D * q) twice ∙ s2 n k σ (D ^ 12) (N ^ 12) R D q
      ∙ ap (λ (x : ℕ). n * σ * q * (k * x) + n * (N ^ 12 * (R * D)) * q) (sym (pow-suc D 12))
    where
      s1 : (n h d q : ℕ) → 2 * (n * h * d * q) ≡ n * (2 * h) * d * q
      s1 n h d q = simp ac

      s2 : (n k s e m r d q : ℕ) → n * (k * (s * e) + m * r) * d * q ≡ n * s * q * (k * (e * d)) + n * (m * (r * d)) * q
      s2 n k s e m r d q = simp ring

  scale_pos : 0 < k * D ^ 13
  scale_pos = mul-pos {m = k} (lit< tt) (one-le-pow 13 D D-pos)

  pub low : n * σ * q ≤ 2 * p * U d
  low = le_of_mul-le-mul_right {k = k * D ^ 13} (le_trans (more (n * σ * q * (k * D ^ 13)) (n * (N ^ 12 * (R * D)) * q)) (le_trans (le_of_eq (sym main)) (le_of_eq (go p k (U d) (D ^ 13))))) scale_pos
    where
      more : (x y : ℕ) → x ≤ x + y
      more x y = omega arith

      go : (p k u e : ℕ) → 2 * (p * (k * u * e)) ≡ 2 * p * u * (k * e)
      go p k u e = simp ac

  half : 2 * N ≤ D
  half = lin N D (squares n d fifth)
    where
      lin : (a b : ℕ) → 25 * a ≤ b → 2 * a ≤ b
      lin a b h = omega arith

  -- what is left out, times 2 ^ 60
  left : 2 ^ 60 * (n * (N ^ 12 * (R * D))) ≤ k * U d * D ^ 13
  left =
      le_trans
      (le_of_mul-le-mul_right {k = 5 * 25 ^ 12}
      (le_trans (mul-le-mul_right (5 * 25 ^ 12) (mul-le-mul_left (2 ^ 60) (mul-le-mul_left n (mul-le-mul_left (N ^ 12) (le_trans (rest 0 0 0 N D m (pad 2 0 (tops 12 12)) few half) (le_of_eq (ap (λ (l : ℕ). 2 * m * D ^ l) twelve)))))))
      (le_trans (le_of_eq (s1 (2 ^ 60) n (N ^ 12) (2 * m) (D ^ 12) 5 (25 ^ 12)))
      (le_trans (mul-le-mul_left (2 ^ 60 * (2 * m)) (mul-le-mul_right (D ^ 12) (mul-le-mul fifth (powers n d fifth 12))))
      (le_trans (mul-le-mul_right (d * D ^ 12 * D ^ 12) (lit≤ {m = 2 ^ 60 * (2 * m)} {n = common * (5 * 25 ^ 12)} tt))
      (le_of_eq (s2 common (5 * 25 ^ 12) d (D ^ 12))))))) (lit< tt))
      (le_of_eq (ap (λ (x : ℕ). common * d * x) (sym (pow-add D 12 12)) ∙ whole))
    where
      s1 : (a n x b y c e : ℕ) → a * (n * (x * (b * y))) * (c * e) ≡ a * b * (c * n * (e * x) * y)
      s1 a n x b y c e = simp ac

      s2 : (c f d x : ℕ) → c * f * (d * x * x) ≡ c * d * (x * x) * f
      s2 c f d x = simp ac

  high : 2 ^ 60 * (2 * p * U d) ≤ 2 ^ 60 * (n * σ * q) + q * U d
  high =
      le_of_mul-le-mul_right {k = k * D ^ 13}
      (le_trans (le_of_eq (go p k (U d) (D ^ 13))) (le_trans (le_of_eq (ap (λ (x : ℕ). 2 ^ 60 * x) main)) (le_trans (le_of_eq (mul-add (2 ^ 60) (n * σ * q * (k * D ^ 13)) (n * (N ^ 12 * (R * D)) * q))) (le_trans (add-le-add (le_refl (2 ^ 60 * (n * σ * q * (k * D ^ 13)))) (le_trans (le_of_eq (sym (mul_assoc (2 ^ 60) (n * (N ^ 12 * (R * D))) q))) (mul-le-mul_right q left))) (le_of_eq (back (n * σ * q) k (U d) (D ^ 13) q)))))) scale_pos
    where
      go : (p k u e : ℕ) → 2 ^ 60 * (2 * p * u) * (k * e) ≡ 2 ^ 60 * (2 * (p * (k * u * e)))
      go p k u e = simp ac

      back : (x k u e q : ℕ) → 2 ^ 60 * (x * (k * e)) + k * u * e * q ≡ (2 ^ 60 * x + q * u) * (k * e)
      back x k u e q = simp ring

  -- as a distance
  pub cut_near : Bound (sub_f (frac (2 * p) 0 (1 * q)) (frac (T₀ n d) 0 (U d))) (frac 1 0 (2 ^ 60))
  cut_near = (hi (2 * p) q (n * σ) (U d) high, lo (2 * p) q (n * σ) (U d) low)
    where
      hi : (x q t u : ℕ) → 2 ^ 60 * (x * u) ≤ 2 ^ 60 * (t * q) + q * u → (x * u + 0 * (1 * q)) * 2 ^ 60 + 0 * (1 * q * u) ≤ 1 * (1 * q * u) + (0 * u + t * (1 * q)) * 2 ^ 60
      hi x q t u h = let z = simp ring at h in simp (ring, one-mul, zero-mul, zero-add) (omega arith)

      lo : (x q t u : ℕ) → t * q ≤ x * u → (0 * u + t * (1 * q)) * 2 ^ 60 + 0 * (1 * q * u) ≤ 1 * (1 * q * u) + (x * u + 0 * (1 * q)) * 2 ^ 60
      lo x q t u h = let z = simp ring at (mul-le-mul_right (2 ^ 60) h) in simp (ring, one-mul, zero-mul, zero-add) (omega arith)
