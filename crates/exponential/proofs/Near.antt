-- The significand that the core works against document 01's thirty terms: what the table's test and the floors say together. Assumes nothing.
use mathlib.Core.Path.{◌≡◌, refl, sym, ap, ◌∙◌, subst}
use mathlib.Core.List.{List, [], ◌∷◌}
use Prim.Native.Nat.{ℕ, suc, ◌+◌, ◌*◌, ◌/◌, ◌^◌, ◌≤◌, ◌<◌}
use native.Mathlib.Nat.{le_refl, le_trans, le_of_eq, le_of_lt, add-le-add, mul_assoc, mul_comm, mul_left_comm, mul-le-mul_left, mul-le-mul_right, le_of_mul-le-mul_right, div-mul-le_self, pow-suc, zero-mul, one-mul, mul-one}
use native.Mathlib.Omega.{arith}
use lib.Dec.{T, lit<}
use lib.ListN.{length}
use Rattle.fixed_point.specs.Horner.{horner}
use Rattle.fixed_point.proofs.Polynomial.{hom}
use Rattle.fixed_point.proofs.Horner.{ring, lower}
use Rattle.exponential.specs.Powers.{terms}

-- ---- the floors of Horner's rule at an exact q: one unit a step
floor_step : (c f h Q W n d p H l : ℕ) → h * Q ≤ (f + 1) * W → n * W ≡ Q * d → 0 < W → n ≤ d → H * d ≤ (h + l) * p
    → (c * p + n * H) * d ≤ (c + f + (1 + l)) * (p * d)
floor_step c f h Q W n d p H l a b w e k =
    let t1 : n * h ≤ (f + 1) * d = le_of_mul-le-mul_right {k = W} (le_trans (le_of_eq (x1 n h W ∙ ap (λ (z : ℕ). h * z) b ∙ sym (mul_assoc h Q d))) (le_trans (mul-le-mul_right d a) (le_of_eq (x2 (f + 1) W d)))) w in
    let t2 : n * (H * d) ≤ n * ((h + l) * p) = mul-le-mul_left n k in
    let t3 : n * h * p ≤ (f + 1) * d * p = mul-le-mul_right p t1 in
    let t4 : n * (l * p) ≤ d * (l * p) = mul-le-mul_right (l * p) e in
    fin c f n d p H l h t2 t3 t4
  where
    x1 : (n h W : ℕ) → n * h * W ≡ h * (n * W)
    x1 n h W = simp (mul_assoc, mul_comm, mul_left_comm)

    x2 : (f W d : ℕ) → f * W * d ≡ f * d * W
    x2 f W d = simp (mul_assoc, mul_comm, mul_left_comm)

    fin : (c f n d p H l h : ℕ) → n * (H * d) ≤ n * ((h + l) * p) → n * h * p ≤ (f + 1) * d * p → n * (l * p) ≤ d * (l * p) → (c * p + n * H) * d ≤ (c + f + (1 + l)) * (p * d)
    fin c f n d p H l h u v w =
        let a = simp ring at u in
        let b = simp (ring, one-mul) at v in
        let e = simp ring at w in
        simp (ring, one-mul) (omega arith)

pub floors : (Q n d : ℕ) → n * 2 ^ 64 ≡ Q * d → n ≤ d → (cs : List ℕ) → hom cs n d * d ≤ (horner cs Q + length cs) * d ^ length cs
unfolding horner hom
floors Q n d e k [] = le_of_eq (zero-mul d ∙ sym (zero-mul (d ^ 0)))
floors Q n d e k (c ∷ cs) =
    rw (pow-suc d (length cs))
    (subst (λ (l : ℕ). (c * d ^ length cs + n * hom cs n d) * d ≤ (c + horner cs Q * Q / 2 ^ 64 + l) * (d ^ length cs * d)) (one (length cs))
    (floor_step c (horner cs Q * Q / 2 ^ 64) (horner cs Q) Q (2 ^ 64) n d (d ^ length cs) (hom cs n d) (length cs) (next (horner cs Q * Q)) e (lit< tt) k (floors Q n d e k cs)))
  where
    next : (x : ℕ) → x ≤ (x / 2 ^ 64 + 1) * 2 ^ 64
    next x = omega arith

    one : (l : ℕ) → 1 + l ≡ suc l
    one l = omega arith

-- ---- the core's number against its polynomial, on plain numbers: p is T ^ 5, w is 2 ^ 71
core_lo : (e y w g T t h H p : ℕ) → 0 < T → y * w ≤ e * g → g * T ≤ t * h → h * p ≤ H * T → (e + y) * w * p ≤ e * (w * p + t * H)
core_lo e y w g T t h H p P a b c =
    let t1 : y * w * p * T ≤ e * t * H * T =
    le_trans (le_trans (mul-le-mul_right T (mul-le-mul_right p a)) (le_of_eq (x1 e g p T)))
    (le_trans (mul-le-mul_left (e * p) b) (le_trans (le_of_eq (x2 e p t h)) (le_trans (mul-le-mul_left (e * t) c) (le_of_eq (sym (mul_assoc (e * t) H T)))))) in
    let t2 : y * w * p ≤ e * t * H = le_of_mul-le-mul_right t1 P in
    le_trans (le_of_eq (x3 e y w p)) (le_trans (add-le-add (le_refl (e * (w * p))) t2) (le_of_eq (x4 e w p t H)))
  where
    x1 : (e g p T : ℕ) → e * g * p * T ≡ e * p * (g * T)
    x1 e g p T = simp (mul_assoc, mul_comm, mul_left_comm)

    x2 : (e p t h : ℕ) → e * p * (t * h) ≡ e * t * (h * p)
    x2 e p t h = simp (mul_assoc, mul_comm, mul_left_comm)

    x3 : (e y w p : ℕ) → (e + y) * w * p ≡ e * (w * p) + y * w * p
    x3 e y w p = simp ring

    x4 : (e w p t H : ℕ) → e * (w * p) + e * t * H ≡ e * (w * p + t * H)
    x4 e w p t H = simp ring

core_hi : (e y w g T t h H p : ℕ) → 0 < T → e * g ≤ (y + 1) * w → t * h ≤ (g + 1) * T → H * T ≤ (h + 5) * p → t ≤ T → 6 * e ≤ w → e * (w * p + t * H) ≤ (e + y + 2) * w * p
core_hi e y w g T t h H p P a b c d f =
    let t1 : t * H * T ≤ (g + 6) * p * T = go (mul-le-mul_left t c) (mul-le-mul_right p b) (mul-le-mul_right (5 * p) d) in
    let t2 : t * H ≤ (g + 6) * p = le_of_mul-le-mul_right t1 P in
    last (mul-le-mul_left e t2) (mul-le-mul_right p a) (mul-le-mul_right p f)
  where
    go : t * (H * T) ≤ t * ((h + 5) * p) → t * h * p ≤ (g + 1) * T * p → t * (5 * p) ≤ T * (5 * p) → t * H * T ≤ (g + 6) * p * T
    go u v z =
        let i = simp ring at u in
        let j = simp (ring, one-mul) at v in
        let k = simp ring at z in
        simp ring (omega arith)

    last : e * (t * H) ≤ e * ((g + 6) * p) → e * g * p ≤ (y + 1) * w * p → 6 * e * p ≤ w * p → e * (w * p + t * H) ≤ (e + y + 2) * w * p
    last u v z =
        let i = simp ring at u in
        let j = simp (ring, one-mul) at v in
        let k = simp ring at z in
        simp ring (omega arith)

-- ---- the core's significand at the place j, t units above it
module _ (t e : ℕ) (small : t < 2 ^ 46) (fits : e ≤ 2 ^ 64) where
  abbrev q : ℕ
  q = t * 2 ^ 18

  abbrev result : ℕ
  result = e + e * (q * horner terms q / 2 ^ 64) / 2 ^ 64 / 128

  exact : t * 2 ^ 64 ≡ q * 2 ^ 46
  exact = go t
    where
      go : (t : ℕ) → t * 2 ^ 64 ≡ t * 2 ^ 18 * 2 ^ 46
      go t = omega arith

  poly_is : hom (2 ^ 71 ∷ terms) t (2 ^ 46) ≡ 2 ^ 71 * (2 ^ 46) ^ 5 + t * hom terms t (2 ^ 46)
  unfolding hom
  poly_is = refl

  series_lo : horner terms q * (2 ^ 46) ^ 5 ≤ hom terms t (2 ^ 46) * 2 ^ 46
  series_lo = go (horner terms q) (hom terms t (2 ^ 46)) (lower 1 1 q t (2 ^ 46) terms terms tt (le_of_eq (sym exact)))
    where
      go : (h H : ℕ) → h * 1 * (2 ^ 46) ^ 5 ≤ 1 * H * 2 ^ 46 → h * (2 ^ 46) ^ 5 ≤ H * 2 ^ 46
      go h H k = rw (mul-one h, one-mul H) at k

  scaled_lo : q * horner terms q / 2 ^ 64 * 2 ^ 46 ≤ t * horner terms q
  scaled_lo = le_of_mul-le-mul_right {k = 2 ^ 18} (le_trans (le_of_eq (a (q * horner terms q / 2 ^ 64))) (le_trans (div-mul-le_self (q * horner terms q) (2 ^ 64)) (le_of_eq (b t (horner terms q))))) (lit< tt)
    where
      a : (g : ℕ) → g * 2 ^ 46 * 2 ^ 18 ≡ g * 2 ^ 64
      a g = omega arith

      b : (t h : ℕ) → t * 2 ^ 18 * h ≡ t * h * 2 ^ 18
      b t h = simp (mul_assoc, mul_comm, mul_left_comm)

  scaled_hi : t * horner terms q ≤ (q * horner terms q / 2 ^ 64 + 1) * 2 ^ 46
  scaled_hi = le_of_mul-le-mul_right {k = 2 ^ 18} (le_trans (le_of_eq (b t (horner terms q))) (le_trans (next (q * horner terms q)) (le_of_eq (a (q * horner terms q / 2 ^ 64 + 1))))) (lit< tt)
    where
      a : (g : ℕ) → g * 2 ^ 64 ≡ g * 2 ^ 46 * 2 ^ 18
      a g = omega arith

      b : (t h : ℕ) → t * h * 2 ^ 18 ≡ t * 2 ^ 18 * h
      b t h = simp (mul_assoc, mul_comm, mul_left_comm)

      next : (x : ℕ) → x ≤ (x / 2 ^ 64 + 1) * 2 ^ 64
      next x = omega arith

  pub result_lo : result * 2 ^ 71 * (2 ^ 46) ^ 5 ≤ e * hom (2 ^ 71 ∷ terms) t (2 ^ 46)
  result_lo = rw poly_is (core_lo e (e * (q * horner terms q / 2 ^ 64) / 2 ^ 64 / 128) (2 ^ 71) (q * horner terms q / 2 ^ 64) (2 ^ 46) t (horner terms q) (hom terms t (2 ^ 46)) ((2 ^ 46) ^ 5) (lit< tt) (floor (e * (q * horner terms q / 2 ^ 64))) scaled_lo series_lo)
    where
      floor : (x : ℕ) → x / 2 ^ 64 / 128 * 2 ^ 71 ≤ x
      floor x = le_trans (le_of_eq (a (x / 2 ^ 64 / 128))) (le_trans (mul-le-mul_right (2 ^ 64) (div-mul-le_self (x / 2 ^ 64) 128)) (div-mul-le_self x (2 ^ 64)))
        where
          a : (y : ℕ) → y * 2 ^ 71 ≡ y * 128 * 2 ^ 64
          a y = omega arith

  pub result_hi : e * hom (2 ^ 71 ∷ terms) t (2 ^ 46) ≤ (result + 2) * 2 ^ 71 * (2 ^ 46) ^ 5
  result_hi = rw poly_is (core_hi e (e * (q * horner terms q / 2 ^ 64) / 2 ^ 64 / 128) (2 ^ 71) (q * horner terms q / 2 ^ 64) (2 ^ 46) t (horner terms q) (hom terms t (2 ^ 46)) ((2 ^ 46) ^ 5) (lit< tt) (floor (e * (q * horner terms q / 2 ^ 64))) scaled_hi (floors q t (2 ^ 46) exact (le_of_lt small) terms) (le_of_lt small) (six e fits))
    where
      floor : (x : ℕ) → x ≤ (x / 2 ^ 64 / 128 + 1) * 2 ^ 71
      floor x = le_trans (next x) (le_trans (mul-le-mul_right (2 ^ 64) (more (x / 2 ^ 64))) (le_of_eq (a (x / 2 ^ 64 / 128 + 1))))
        where
          next : (x : ℕ) → x ≤ (x / 2 ^ 64 + 1) * 2 ^ 64
          next x = omega arith

          more : (y : ℕ) → y + 1 ≤ (y / 128 + 1) * 128
          more y = omega arith

          a : (y : ℕ) → y * 128 * 2 ^ 64 ≡ y * 2 ^ 71
          a y = omega arith

      six : (e : ℕ) → e ≤ 2 ^ 64 → 6 * e ≤ 2 ^ 71
      six e h = omega arith
