-- The logarithm's core: a quotient, its square, the series and the product, all rounded down, against the exact series of 24 terms. Assumes nothing.
use mathlib.Core.Path.{◌≡◌, sym, ap, ◌∙◌}
use mathlib.Core.List.{List, [], ◌∷◌}
use lib.ListN.{drop}
use Prim.Native.Nat.{ℕ, zero, suc, ◌+◌, ◌*◌, ◌/◌, ◌^◌, ◌≤◌, ◌<◌}
use native.Mathlib.Nat.{le_refl, le_trans, le_of_eq, add-le-add, mul-add, add-mul, mul-one, one-mul, mul_assoc, mul_comm, mul-le-mul, mul-le-mul_left, mul-le-mul_right, le_of_mul-le-mul_right, div-mul-le_self, lt-div-mul-add, mul-pos, one-le-pow}
use native.Mathlib.Omega.{arith}
use lib.Dec.{lit<, lit≤}
use Rattle.fixed_point.specs.Horner.{horner}
use Rattle.fixed_point.proofs.Polynomial.{hom}
use Rattle.fixed_point.proofs.Horner.{ring, ac, upper, half_of, fits}
use Rattle.fixed_point.proofs.HornerTwo.{lower2}
use Rattle.logarithm.specs.Logarithm.{coefficients}

-- the least common multiple of 1, 3, .., 47
abbrev pub common : ℕ
common = 13835020108241056725

-- common / (2 i + 1) from i on, k of them
abbrev pub tops : ℕ → ℕ → List ℕ
tops i zero = []
tops i (suc k) = common / (2 * i + 1) ∷ tops (i + 1) k

abbrev W : ℕ
W = 2 ^ 64

w_pos : 0 < W
w_pos = lit< tt

next : (x : ℕ) → x ≤ (x / W + 1) * W
next x = omega arith

-- ---- z = Z / S, where Z is n S W / D up to one unit above and eight below
z_lo : (n D S Z z : ℕ) → 0 < S → Z * D ≤ n * S * W + D → z * S ≤ Z → z * D ≤ n * W + D
z_lo n D S Z z s h k =
    le_of_mul-le-mul_right (le_trans (le_of_eq (a z D S)) (le_trans (mul-le-mul_right D k) (le_trans h (le_trans (add-le-add (le_refl (n * S * W)) (most D S s)) (le_of_eq (b n S W D)))))) s
  where
    a : (z D S : ℕ) → z * D * S ≡ z * S * D
    a z D S = simp ac

    most : (D S : ℕ) → 0 < S → D ≤ D * S
    most D S s = le_trans (le_of_eq (sym (mul-one D))) (mul-le-mul_left D s)

    b : (n S w D : ℕ) → n * S * w + D * S ≡ (n * w + D) * S
    b n S w D = simp ring

z_hi : (n D S Z z : ℕ) → 0 < S → n * S * W ≤ (Z + 8) * D → Z < z * S + S → n * W ≤ (z + 8) * D
z_hi n D S Z z s h k = le_of_mul-le-mul_right (le_trans (le_of_eq (a n W S)) (le_trans h (le_trans (mul-le-mul_right D (lin Z S (z * S) k s)) (le_of_eq (b z S D))))) s
  where
    a : (n w S : ℕ) → n * w * S ≡ n * S * w
    a n w S = simp ac

    lin : (Z S u : ℕ) → Z < u + S → 0 < S → Z + 8 ≤ u + 8 * S
    lin Z S u h k = omega arith

    b : (z S D : ℕ) → (z * S + 8 * S) * D ≡ (z + 8) * D * S
    b z S D = simp ring

-- ---- q = z z / W
q_lo : (n D z q : ℕ) → 5 * n ≤ D → z * D ≤ n * W + D → q * W ≤ z * z → q * (D * D) ≤ n * n * W + 1 * (D * D)
q_lo n D z q five h k =
    le_of_mul-le-mul_right (le_trans (le_of_eq (a q D W)) (le_trans (mul-le-mul_right (D * D) k) (le_trans (le_of_eq (b z D)) (le_trans (mul-le-mul h h) (le_trans (le_of_eq (c n W D)) (go (n * n * W) (n * D) (D * D) (le_trans (le_of_eq (sym (mul_assoc 5 n D))) (mul-le-mul_right D five)))))))) w_pos
  where
    a : (q D w : ℕ) → q * (D * D) * w ≡ q * w * (D * D)
    a q D w = simp ac

    b : (z D : ℕ) → z * z * (D * D) ≡ z * D * (z * D)
    b z D = simp ac

    c : (n w D : ℕ) → (n * w + D) * (n * w + D) ≡ n * n * w * w + (n * D * w + n * D * w) + D * D
    c n w D = simp ring

    lin : (vw ew fw f : ℕ) → 5 * ew ≤ fw → 5 * f ≤ fw → vw + (ew + ew) + f ≤ vw + fw
    lin vw ew fw f h k = omega arith

    go : (v e f : ℕ) → 5 * e ≤ f → v * W + (e * W + e * W) + f ≤ (v + 1 * f) * W
    go v e f h =
        le_trans (lin (v * W) (e * W) (f * W) f (le_trans (le_of_eq (sym (mul_assoc 5 e W))) (mul-le-mul_right W h)) (le_trans (le_of_eq (mul_comm 5 f)) (mul-le-mul_left f (lit≤ {m = 5} tt))))
        (le_of_eq (ap (λ (x : ℕ). v * W + x * W) (sym (one-mul f)) ∙ sym (add-mul v (1 * f) W)))

q_hi : (n D z q : ℕ) → n * W ≤ (z + 8) * D → z * z ≤ (q + 1) * W → z ≤ 2 ^ 62 → n * n * W ≤ (q + 6) * (D * D)
q_hi n D z q h k l = le_of_mul-le-mul_right (le_trans (le_of_eq (sym (c n W))) (le_trans (mul-le-mul h h) (le_trans (le_of_eq (b (z + 8) D)) (le_trans (mul-le-mul_right (D * D) (sq z q k l)) (le_of_eq (e (q + 6) W D)))))) w_pos
  where
    c : (n w : ℕ) → n * w * (n * w) ≡ n * n * w * w
    c n w = simp ac

    b : (u D : ℕ) → u * D * (u * D) ≡ u * u * (D * D)
    b u D = simp ac

    e : (u w D : ℕ) → u * w * (D * D) ≡ u * (D * D) * w
    e u w D = simp ac

    sq : (z q : ℕ) → z * z ≤ (q + 1) * W → z ≤ 2 ^ 62 → (z + 8) * (z + 8) ≤ (q + 6) * W
    sq z q k l = le_trans (le_of_eq (x z)) (fin (z * z) z q k l)
      where
        x : (z : ℕ) → (z + 8) * (z + 8) ≡ z * z + 16 * z + 64
        x z = mul-add (z + 8) z 8 ∙ ap (λ (t : ℕ). t + (z + 8) * 8) (add-mul z 8 z) ∙ lin (z * z) z
          where
            lin : (u z : ℕ) → u + 8 * z + (z + 8) * 8 ≡ u + 16 * z + 64
            lin u z = omega arith

        fin : (u z q : ℕ) → u ≤ (q + 1) * W → z ≤ 2 ^ 62 → u + 16 * z + 64 ≤ (q + 6) * W
        fin u z q h k = omega arith

pub q_small : (z : ℕ) → z ≤ 2 ^ 62 → z * z / 2 ^ 64 ≤ 2 ^ 60
q_small z h = shrink (z * z) (mul-le-mul h h)
  where
    shrink : (u : ℕ) → u ≤ 2 ^ 62 * 2 ^ 62 → u / 2 ^ 64 ≤ 2 ^ 60
    shrink u h = omega arith

-- ---- the series at q: two units too large at most, 345 too small, the terms from the twelfth on being most of that (601522613401785075 is the common denominator over 23, and 802032351030850071 is 2 ^ 64 / 23, rounded up)
series_lo : (Q n d : ℕ) → Q * d ≤ n * 2 ^ 64 + 1 * d → 25 * n ≤ d → Q ≤ 2 ^ 63 → horner coefficients Q * common * d ^ 24 ≤ 2 ^ 63 * hom (tops 0 24) n d * d + 2 * common * d ^ 24
series_lo Q n d h g q = lower2 common (2 ^ 63) Q n d 25 1 coefficients (tops 0 24) tt h g (lit≤ tt) q tt

series_hi : (Q n d : ℕ) → n * 2 ^ 64 ≤ (Q + 6) * d → 25 * n ≤ d → Q ≤ 2 ^ 63 → 2 ^ 63 * hom (tops 0 24) n d * d ≤ (horner coefficients Q + 345) * common * d ^ 24
series_hi Q n d h g q = upper common (2 ^ 63) Q n d 25 6 601522613401785075 802032351030850071 coefficients (tops 0 24) tt h g (lit≤ tt) (lit≤ tt) q tt

pub series_small : (q : ℕ) → q ≤ 2 ^ 60 → horner coefficients q ≤ 2 ^ 63 + 2 ^ 60
unfolding horner
series_small q h = first q h (half_of (horner (drop 1 coefficients) q) q (fits (drop 1 coefficients) q (le_trans h (lit≤ tt)) tt))
  where
    first : (q : ℕ) {x : ℕ} → q ≤ 2 ^ 60 → x ≤ q → 9223372036854775808 + x ≤ 2 ^ 63 + 2 ^ 60
    first q h k = omega arith

-- ---- the product R = Z b / W. X is common (D D) ^ 24, H the polynomial times D D
mul_lo : (n D S Z b R X H : ℕ) → Z * D ≤ n * S * W + D → n * S * W ≤ (Z + 8) * D → 10 * Z ≤ 3 * W → b * X ≤ 2 ^ 63 * H + 2 * X → 2 ^ 63 * H ≤ W * X → R * W ≤ Z * b
    → R * D * X ≤ n * S * 2 ^ 63 * H + 2 * D * X
mul_lo n D S Z b R X H h h' few k k' l =
    le_of_mul-le-mul_right
    (le_trans (le_of_eq (a R D X W)) (le_trans (mul-le-mul_right (D * X) l) (le_trans (le_of_eq (c Z b D X)) (le_trans (mul-le-mul h k)
    (le_trans (le_of_eq (e n S W D (2 ^ 63 * H) X)) (le_trans (rest (n * S * W * (2 ^ 63 * H)) (D * X) (n * S * W * X) (D * (2 ^ 63 * H)) (over n S Z D X h' few) (le_trans (mul-le-mul_left D k') (le_of_eq (t D W X)))) (le_of_eq (f n S W (2 ^ 63) H D X)))))))) w_pos
  where
    a : (R D X w : ℕ) → R * D * X * w ≡ R * w * (D * X)
    a R D X w = simp ac

    c : (Z b D X : ℕ) → Z * b * (D * X) ≡ Z * D * (b * X)
    c Z b D X = simp ac

    e : (n S w D g X : ℕ) → (n * S * w + D) * (g + 2 * X) ≡ n * S * w * g + 2 * (n * S * w * X) + (D * g + 2 * (D * X))
    e n S w D g X = simp ring

    t : (D w X : ℕ) → D * (w * X) ≡ w * (D * X)
    t D w X = simp ac

    over : (n S Z D X : ℕ) → n * S * W ≤ (Z + 8) * D → 10 * Z ≤ 3 * W → 10 * (n * S * W * X) ≤ (3 * W + 80) * (D * X)
    over n S Z D X h few = le_trans (mul-le-mul_left 10 (mul-le-mul_right X h)) (le_trans (le_of_eq (u Z D X)) (mul-le-mul_right (D * X) (lin Z few)))
      where
        lin : (Z : ℕ) → 10 * Z ≤ 3 * W → 10 * (Z + 8) ≤ 3 * W + 80
        lin Z h = omega arith

        u : (Z D X : ℕ) → 10 * ((Z + 8) * D * X) ≡ 10 * (Z + 8) * (D * X)
        u Z D X = ap (λ (x : ℕ). 10 * x) (mul_assoc (Z + 8) D X) ∙ sym (mul_assoc 10 (Z + 8) (D * X))

    rest : (u x y g : ℕ) → 10 * y ≤ (3 * W + 80) * x → g ≤ W * x → u + 2 * y + (g + 2 * x) ≤ u + 2 * x * W
    rest u x y g h k = le_trans (lin u x y g (W * x) (le_trans h (le_of_eq (add-mul (3 * W) 80 x ∙ ap (λ (t : ℕ). t + 80 * x) (mul_assoc 3 W x)))) k (mul-le-mul_right x (lit≤ {m = 1000} tt))) (le_of_eq (ap (λ (t : ℕ). u + t) (s2 x)))
      where
        lin : (u x y g t : ℕ) → 10 * y ≤ 3 * t + 80 * x → g ≤ t → 1000 * x ≤ t → u + 2 * y + (g + 2 * x) ≤ u + 2 * t
        lin u x y g t h k l = omega arith

        s2 : (x : ℕ) → 2 * (W * x) ≡ 2 * x * W
        s2 x = ap (λ (t : ℕ). 2 * t) (mul_comm W x) ∙ sym (mul_assoc 2 x W)

    f : (n S w p H D X : ℕ) → n * S * w * (p * H) + 2 * (D * X) * w ≡ (n * S * p * H + 2 * D * X) * w
    f n S w p H D X = simp ring

mul_hi : (n D S Z b R X H : ℕ) → n * S * W ≤ (Z + 8) * D → 2 ^ 63 * H ≤ (b + 345) * X → Z * b ≤ (R + 1) * W → 10 * Z ≤ 3 * W → b ≤ 2 ^ 63 + 2 ^ 60 → n * S * 2 ^ 63 * H ≤ (R + 110) * D * X
mul_hi n D S Z b R X H h k l m o =
    le_of_mul-le-mul_right (le_trans (le_of_eq (sym (e n S W (2 ^ 63) H))) (le_trans (mul-le-mul h k) (le_trans (le_of_eq (c (Z + 8) D (b + 345) X)) (le_trans (mul-le-mul_right (D * X) (cross Z b R l m o)) (le_of_eq (a (R + 110) W D X)))))) w_pos
  where
    e : (n S w t H : ℕ) → n * S * w * (t * H) ≡ n * S * t * H * w
    e n S w t H = simp ac

    c : (u d v X : ℕ) → u * d * (v * X) ≡ u * v * (d * X)
    c u d v X = simp ac

    a : (r w d X : ℕ) → r * w * (d * X) ≡ r * d * X * w
    a r w d X = simp ac

    cross : (Z b R : ℕ) → Z * b ≤ (R + 1) * W → 10 * Z ≤ 3 * W → b ≤ 2 ^ 63 + 2 ^ 60 → (Z + 8) * (b + 345) ≤ (R + 110) * W
    cross Z b R l m o = le_trans (le_of_eq (x Z b)) (fin (Z * b) Z b R l m o)
      where
        x : (Z b : ℕ) → (Z + 8) * (b + 345) ≡ Z * b + 8 * b + (345 * Z + 2760)
        x Z b = mul-add (Z + 8) b 345 ∙ ap (λ (t : ℕ). t + (Z + 8) * 345) (add-mul Z 8 b) ∙ lin (Z * b) Z b
          where
            lin : (u Z b : ℕ) → u + 8 * b + (Z + 8) * 345 ≡ u + 8 * b + (345 * Z + 2760)
            lin u Z b = omega arith

        fin : (u Z b R : ℕ) → u ≤ (R + 1) * W → 10 * Z ≤ 3 * W → b ≤ 2 ^ 63 + 2 ^ 60 → u + 8 * b + (345 * Z + 2760) ≤ (R + 110) * W
        fin u Z b R h k l = omega arith

-- ---- all together: R = Z b / W, b the series at q = z z / W, z = Z / S; P / Q the exact sum at n / D
module _ (n D S Z P Q : ℕ) (sp : 0 < S) (dp : 0 < D) (h1 : Z * D ≤ n * S * 2 ^ 64 + D) (h2 : n * S * 2 ^ 64 ≤ (Z + 8) * D) (few : 10 * Z ≤ 3 * 2 ^ 64) (five : 5 * n ≤ D)
    (sum : P * (common * D * (D * D) ^ 24) ≡ n * hom (tops 0 24) (n * n) (D * D) * (D * D) * Q) where
  abbrev q : ℕ
  q = Z / S * (Z / S) / 2 ^ 64

  zlo : Z / S * D ≤ n * 2 ^ 64 + D
  zlo = z_lo n D S Z (Z / S) sp h1 (div-mul-le_self Z S)

  z62 : Z / S ≤ 2 ^ 62
  z62 = fifth_of (Z / S) (le_of_mul-le-mul_right (le_trans (le_of_eq (mul_assoc 5 (Z / S) D)) (le_trans (mul-le-mul_left 5 zlo) (le_trans (le_of_eq (sp5 n (2 ^ 64) D)) (le_trans (add-le-add (mul-le-mul_right (2 ^ 64) five) (le_refl (5 * D))) (le_of_eq (j D (2 ^ 64))))))) dp)
    where
      sp5 : (n w D : ℕ) → 5 * (n * w + D) ≡ 5 * n * w + 5 * D
      sp5 n w D = simp ring

      j : (D w : ℕ) → D * w + 5 * D ≡ (w + 5) * D
      j D w = simp ring

      fifth_of : (z : ℕ) → 5 * z ≤ 2 ^ 64 + 5 → z ≤ 2 ^ 62
      fifth_of z h = omega arith

  q60 : q ≤ 2 ^ 60
  q60 = q_small (Z / S) z62

  q63 : q ≤ 2 ^ 63
  q63 = le_trans q60 (lit≤ tt)

  sq25 : 25 * (n * n) ≤ D * D
  sq25 = le_trans (le_of_eq (go 5 n)) (mul-le-mul five five)
    where
      go : (k n : ℕ) → k * k * (n * n) ≡ k * n * (k * n)
      go k n = simp ac

  abbrev b : ℕ
  b = horner coefficients q

  abbrev X : ℕ
  X = common * (D * D) ^ 24

  abbrev H : ℕ
  H = hom (tops 0 24) (n * n) (D * D) * (D * D)

  b_lo : b * X ≤ 2 ^ 63 * H + 2 * X
  b_lo =
      le_trans (le_of_eq (sym (mul_assoc b common ((D * D) ^ 24))))
      (le_trans (series_lo q (n * n) (D * D) (q_lo n D (Z / S) q five zlo (div-mul-le_self (Z / S * (Z / S)) (2 ^ 64))) sq25 q63)
      (le_of_eq (u (2 ^ 63) (hom (tops 0 24) (n * n) (D * D)) (D * D) common ((D * D) ^ 24))))
    where
      u : (t h d k p : ℕ) → t * h * d + 2 * k * p ≡ t * (h * d) + 2 * (k * p)
      u t h d k p = ap (λ (x : ℕ). x + 2 * k * p) (mul_assoc t h d) ∙ ap (λ (x : ℕ). t * (h * d) + x) (mul_assoc 2 k p)

  b_hi : 2 ^ 63 * H ≤ (b + 345) * X
  b_hi =
      le_trans (le_of_eq (sym (mul_assoc (2 ^ 63) (hom (tops 0 24) (n * n) (D * D)) (D * D))))
      (le_trans (series_hi q (n * n) (D * D) (q_hi n D (Z / S) q (z_hi n D S Z (Z / S) sp h2 (lt-div-mul-add {a = Z} {b = S} sp)) (next (Z / S * (Z / S))) z62) sq25 q63)
      (le_of_eq (mul_assoc (b + 345) common ((D * D) ^ 24))))

  b64 : b ≤ 2 ^ 63 + 2 ^ 60
  b64 = series_small q q60

  abbrev R : ℕ
  R = Z * b / 2 ^ 64

  X-pos : 0 < X
  X-pos = mul-pos {m = common} (lit< tt) (one-le-pow 24 (D * D) (mul-pos dp dp))

  -- with the sum's own numbers
  as_sum : P * (D * X) ≡ n * H * Q
  as_sum = a P common D ((D * D) ^ 24) ∙ sum ∙ c n (hom (tops 0 24) (n * n) (D * D)) (D * D) Q
    where
      a : (P k D p : ℕ) → P * (D * (k * p)) ≡ P * (k * D * p)
      a P k D p = simp ac

      c : (n h d Q : ℕ) → n * h * d * Q ≡ n * (h * d) * Q
      c n h d Q = simp ac

  pub core_lo : R * Q ≤ 2 ^ 63 * S * P + 2 * Q
  core_lo =
      le_of_mul-le-mul_right
      (le_trans (le_of_eq (a R Q D X))
      (le_trans (mul-le-mul_right Q (mul_lo n D S Z b R X H h1 h2 few b_lo (le_trans b_hi (mul-le-mul_right X (room b b64))) (div-mul-le_self (Z * b) (2 ^ 64))))
      (le_of_eq (c n S (2 ^ 63) H D X Q ∙ ap (λ (x : ℕ). 2 ^ 63 * S * x + 2 * Q * (D * X)) (sym as_sum) ∙ e (2 ^ 63) S P D X Q))))
      (mul-pos dp X-pos)
    where
      room : (b : ℕ) → b ≤ 2 ^ 63 + 2 ^ 60 → b + 345 ≤ 2 ^ 64
      room b h = omega arith

      a : (R Q D X : ℕ) → R * Q * (D * X) ≡ R * D * X * Q
      a R Q D X = simp ac

      c : (n S t H D X Q : ℕ) → (n * S * t * H + 2 * D * X) * Q ≡ t * S * (n * H * Q) + 2 * Q * (D * X)
      c n S t H D X Q = simp ring

      e : (t S P D X Q : ℕ) → t * S * (P * (D * X)) + 2 * Q * (D * X) ≡ (t * S * P + 2 * Q) * (D * X)
      e t S P D X Q = simp ring

  pub core_hi : 2 ^ 63 * S * P ≤ (R + 110) * Q
  core_hi =
      le_of_mul-le-mul_right
      (le_trans (le_of_eq (mul_assoc (2 ^ 63 * S) P (D * X) ∙ ap (λ (x : ℕ). 2 ^ 63 * S * x) as_sum ∙ c (2 ^ 63) S n H Q))
      (le_trans (mul-le-mul_right Q (mul_hi n D S Z b R X H h2 b_hi (next (Z * b)) few b64)) (le_of_eq (a (R + 110) D X Q))))
      (mul-pos dp X-pos)
    where
      c : (t S n H Q : ℕ) → t * S * (n * H * Q) ≡ n * S * t * H * Q
      c t S n H Q = simp ac

      a : (r D X Q : ℕ) → r * D * X * Q ≡ r * Q * (D * X)
      a r D X Q = simp ac
