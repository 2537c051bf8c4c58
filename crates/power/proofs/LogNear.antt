-- The binary logarithm times ln 2 is within 24 / 2 ^ 66 of every value of document 01's ln, at each base of the domain. Assumes nothing.
use mathlib.Core.Path.{◌≡◌, refl, sym, ap, ◌∙◌, subst}
use mathlib.Core.Bool.{true, false}
use Prim.Native.Nat.{ℕ, ◌+◌, ◌-◌, ◌*◌, ◌/◌, ◌%◌, ◌^◌, ◌≤◌, ◌<◌}
use native.Mathlib.Nat.{le_trans, le_of_eq, lt_of_not-le, mul_assoc, add_comm, one-mul, zero-mul, add-zero, zero-add, mul-le-mul_right, le_of_mul-le-mul_right}
use native.Mathlib.Decide.{dec_le}
use native.Mathlib.Omega.{arith}
use lib.Dec.{T, lit<, lit≤}
use lib.Pow.{pow_pos, pow-add}
use lib.Ieee.{Float, binary64, fits, to_bits}
use lib.Ieee.Bits.{is_true}
use Rattle.number.specs.Frac.{Frac, frac, Pos, le_f, neg_f, sub_f, mul_f, sgn, val_f}
use Rattle.number.proofs.Frac.{ring, val_f_pos}
use Rattle.number.specs.Domain.{base_inside}
use Rattle.fixed_point.specs.Horner.{horner}
use Rattle.fixed_point.proofs.Patterns64.{val}
use Rattle.fixed_point.proofs.Decode.{normal_value}
use Rattle.series.specs.Sums.{eq_f}
use Rattle.series.specs.Exact.{LnValue}
use Rattle.series.proofs.Constants.{mn, md}
use Rattle.logarithm.proofs.Fractions.{eq_sym_f, eq_trans_f, value_is}
use Rattle.logarithm.proofs.OddSeries.{whole}
use Rattle.logarithm.proofs.LnNear.{cancel}
use Rattle.exponential.proofs.Bounds.{Bound}
use Rattle.exponential.proofs.Position.{M}
use Rattle.binary_log.specs.BinaryLog.{significand_log, log_of}
use Rattle.binary_log.specs.declared.Log.{Log}
use Rattle.binary_log.proofs.Base.{base_bits, up_is, down_is}
use Rattle.binary_log.proofs.Significand.{near, near_two, log_small}
use Rattle.power.proofs.LnBracket.{D, unit, from_low, from_high}

-- a logarithm with its sign, as a fraction
abbrev pub signed_log : Log → Frac
signed_log l = sgn l.negative l.size (2 ^ 61)

-- ---- the sum's bounds over D: m / q is ln 2, u is 2 ^ 61
one_low : (m q W u g p t : ℕ) → 32 * (m * g * t) ≤ 32 * (2 * u * q * p) + 34 * (m * t) → le_f (frac (m * W * (32 * g)) (m * W * 34) (q * (32 * u * W))) (frac (2 * p) 0 (1 * t))
one_low m q W u g p t h = let x = simp ring at (mul-le-mul_right W h) in simp (ring, one-mul, zero-mul, add-zero) (omega arith)

one_high : (m q W u g p t : ℕ) → 2 * u * q * p ≤ m * (g + 1) * t → le_f (frac (2 * p) 0 (1 * t)) (frac (m * W * (32 * g + 32)) 0 (q * (32 * u * W)))
one_high m q W u g p t h = let x = simp ring at (mul-le-mul_right W h) in simp (ring, one-mul, zero-mul, add-zero) (omega arith)

two_low : (m q W u g p t : ℕ) → 32 * (2 * u * q * p) + 32 * (m * g * t) ≤ 32 * (m * u * t) + 34 * (m * t) → le_f (frac (m * W * (32 * g)) (m * W * (34 + 32 * u)) (q * (32 * u * W))) (frac 0 (2 * p) (1 * t))
two_low m q W u g p t h = let x = simp ring at (mul-le-mul_right W h) in simp (ring, one-mul, zero-mul, zero-add) (omega arith)

two_high : (m q W u g p t : ℕ) → m * u * t ≤ 2 * u * q * p + m * (g + 1) * t → le_f (frac 0 (2 * p) (1 * t)) (frac (m * W * (32 * g + 32)) (m * W * (32 * u)) (q * (32 * u * W)))
two_high m q W u g p t h = let x = simp ring at (mul-le-mul_right W h) in simp (ring, one-mul, zero-mul, zero-add) (omega arith)

-- ---- the bracket's room: the logarithm is x - y, the sum's whole part c, and k is a - b; P is ln 2 in units of 2 ^ -66
room_low : (P x y g c a b t s B : ℕ) → x + c + 2 ^ 61 * b ≡ y + g + 2 ^ 61 * a → 34 * P + t + s ≤ B → P * (32 * x) + (P * (34 + 32 * c) + t) + (P * b * 2 ^ 66 + s) ≤ P * (32 * g) + P * a * 2 ^ 66 + (P * (32 * y) + B)
room_low P x y g c a b t s B r k = let z = simp ring at (ap (λ (n : ℕ). P * n) r) in simp ring (omega arith)

room_high : (P x y g c a b t s B : ℕ) → x + c + 2 ^ 61 * b ≡ y + g + 2 ^ 61 * a → 32 * P + t + s ≤ B → P * (32 * g + 32) + t + (P * a * 2 ^ 66 + s) + P * (32 * y) ≤ P * (32 * x) + B + P * (32 * c) + P * b * 2 ^ 66
room_high P x y g c a b t s B r k = let z = simp ring at (ap (λ (n : ℕ). P * n) r) in simp ring (omega arith)

abbrev B : ℕ
B = 24 * md * 2 ^ 93

-- ---- as a distance
distance_low : (m q W u x y p n d : ℕ) → 0 < W → le_f (frac (m * W * (32 * x)) (m * W * (32 * y) + 24 * q * W) (q * (32 * u * W))) (frac p n d) → le_f (neg_f (sub_f (frac p n d) (mul_f (frac x y u) (frac m 0 q)))) (frac 24 0 (32 * u))
distance_low m q W u x y p n d w h =
    let k : (m * (32 * x) * d + n * (q * (32 * u))) ≤ (p * (q * (32 * u)) + (m * (32 * y) + 24 * q) * d) = le_of_mul-le-mul_right {k = W} (le_trans (le_of_eq (left m q W u x n d)) (le_trans h (le_of_eq (right m q W u y p d)))) w in
    let z = simp ring at (mul-le-mul_right u k) in
    simp (ring, zero-mul, add-zero, zero-add) (omega arith)
  where
    left : (m q W u x n d : ℕ) → (m * (32 * x) * d + n * (q * (32 * u))) * W ≡ m * W * (32 * x) * d + n * (q * (32 * u * W))
    left m q W u x n d = simp ring

    right : (m q W u y p d : ℕ) → p * (q * (32 * u * W)) + (m * W * (32 * y) + 24 * q * W) * d ≡ (p * (q * (32 * u)) + (m * (32 * y) + 24 * q) * d) * W
    right m q W u y p d = simp ring

distance_high : (m q W u x y p n d : ℕ) → 0 < W → le_f (frac p n d) (frac (m * W * (32 * x) + 24 * q * W) (m * W * (32 * y)) (q * (32 * u * W))) → le_f (sub_f (frac p n d) (mul_f (frac x y u) (frac m 0 q))) (frac 24 0 (32 * u))
distance_high m q W u x y p n d w h =
    let k : (p * (q * (32 * u)) + m * (32 * y) * d) ≤ ((m * (32 * x) + 24 * q) * d + n * (q * (32 * u))) = le_of_mul-le-mul_right {k = W} (le_trans (le_of_eq (left m q W u y p d)) (le_trans h (le_of_eq (right m q W u x n d)))) w in
    let z = simp ring at (mul-le-mul_right u k) in
    simp (ring, zero-mul, add-zero, zero-add) (omega arith)
  where
    left : (m q W u y p d : ℕ) → (p * (q * (32 * u)) + m * (32 * y) * d) * W ≡ p * (q * (32 * u * W)) + m * W * (32 * y) * d
    left m q W u y p d = simp ring

    right : (m q W u x n d : ℕ) → (m * W * (32 * x) + 24 * q * W) * d + n * (q * (32 * u * W)) ≡ ((m * (32 * x) + 24 * q) * d + n * (q * (32 * u))) * W
    right m q W u x n d = simp ring

distance : (x y : ℕ) (l : Frac) → le_f (frac (unit * (32 * x)) (unit * (32 * y) + B) D) l → le_f l (frac (unit * (32 * x) + B) (unit * (32 * y)) D) → Bound (sub_f l (mul_f (frac x y (2 ^ 61)) M)) (frac 24 0 (2 ^ 66))
distance x y (frac p n d) h k = (distance_high mn md (2 ^ 93) (2 ^ 61) x y p n d (lit< tt) k, distance_low mn md (2 ^ 93) (2 ^ 61) x y p n d (lit< tt) h)

-- ---- a significand m and an exponent's field f; y is 2 ^ (f - 1023) m / 2 ^ 52, and its logarithm x - x'
module _ (f m : ℕ) (f₀ : 1018 ≤ f) (f₁ : f ≤ 1028) (m₀ : 2 ^ 52 ≤ m) (m₁ : m < 2 ^ 53) (x x' : ℕ) (is : x + 1023 * 2 ^ 61 ≡ x' + significand_log m + f * 2 ^ 61) (y l : Frac) (yp : Pos y) (value : LnValue y l) where
  abbrev g : ℕ
  g = significand_log m

  below : 3 * m < 2 ^ 54 → eq_f y (frac (m * 2 ^ f) 0 (2 ^ 52 * 2 ^ 1023)) → Bound (sub_f l (mul_f (frac x x' (2 ^ 61)) M)) (frac 24 0 (2 ^ 66))
  below h given =
      let n = m - 2 ^ 52 in
      let dp : 0 < m + 2 ^ 52 = omega arith in
      let part : m ≡ 2 ^ 52 + (m - 2 ^ 52) = omega arith in
      let lo : 2 * 2 ^ 52 ≤ 3 * m = omega arith in
      let s = whole n (m + 2 ^ 52) dp in
      let b = near m m₀ m₁ s.p s.q (low m h) s.closed in
      distance x x' l
      (from_low false n (2 ^ 52) m f (lit< tt) dp part lo h f₀ (next f f₁) y l yp given value (unit * (32 * g)) (unit * 34) (unit * (32 * x)) (unit * (32 * x') + B) (one_low mn md (2 ^ 93) (2 ^ 61) g s.p s.q b.1)
      (λ (a c : ℕ) (r : a + 1023 ≡ f + c). room_low unit x x' g 0 a c (md * 2 ^ 59) (6 * md) B (same f x x' g a c r is) (lit≤ tt)))
      (from_high false n (2 ^ 52) m f (lit< tt) dp part lo h f₀ (next f f₁) y l yp given value (unit * (32 * g + 32)) 0 (unit * (32 * x) + B) (unit * (32 * x')) (one_high mn md (2 ^ 93) (2 ^ 61) g s.p s.q b.0)
      (λ (a c : ℕ) (r : a + 1023 ≡ f + c). room_high unit x x' g 0 a c (md * 2 ^ 59) (6 * md) B (same f x x' g a c r is) (lit≤ tt)))
    where
      low : (m : ℕ) → 3 * m < 2 ^ 54 → m / 2 ^ 45 - 128 ≤ 54
      low m h = omega arith

      next : (f : ℕ) → f ≤ 1028 → f ≤ 1029
      next f h = omega arith

      same : (f x x' g a c : ℕ) → a + 1023 ≡ f + c → x + 1023 * 2 ^ 61 ≡ x' + g + f * 2 ^ 61 → x + 0 + 2 ^ 61 * c ≡ x' + g + 2 ^ 61 * a
      same f x x' g a c r h = omega arith

  above : 2 ^ 54 ≤ 3 * m → eq_f y (frac (m * 2 ^ (f + 1)) 0 (2 ^ 53 * 2 ^ 1023)) → Bound (sub_f l (mul_f (frac x x' (2 ^ 61)) M)) (frac 24 0 (2 ^ 66))
  above h given =
      let n = 2 ^ 53 - m in
      let dp : 0 < m + 2 ^ 53 = omega arith in
      let part : m + (2 ^ 53 - m) ≡ 2 ^ 53 = omega arith in
      let hi : 3 * m < 4 * 2 ^ 53 = omega arith in
      let s = whole n (m + 2 ^ 53) dp in
      let b = near_two m m₀ m₁ s.p s.q (high m h) s.closed in
      distance x x' l
      (from_low true n (2 ^ 53) m (f + 1) (lit< tt) dp part h hi (least f f₀) (most f f₁) y l yp given value (unit * (32 * g)) (unit * (34 + 32 * 2 ^ 61)) (unit * (32 * x)) (unit * (32 * x') + B) (two_low mn md (2 ^ 93) (2 ^ 61) g s.p s.q b.1)
      (λ (a c : ℕ) (r : a + 1023 ≡ f + 1 + c). room_low unit x x' g (2 ^ 61) a c (md * 2 ^ 59) (6 * md) B (same f x x' g a c r is) (lit≤ tt)))
      (from_high true n (2 ^ 53) m (f + 1) (lit< tt) dp part h hi (least f f₀) (most f f₁) y l yp given value (unit * (32 * g + 32)) (unit * (32 * 2 ^ 61)) (unit * (32 * x) + B) (unit * (32 * x')) (two_high mn md (2 ^ 93) (2 ^ 61) g s.p s.q b.0)
      (λ (a c : ℕ) (r : a + 1023 ≡ f + 1 + c). room_high unit x x' g (2 ^ 61) a c (md * 2 ^ 59) (6 * md) B (same f x x' g a c r is) (lit≤ tt)))
    where
      high : (m : ℕ) → 2 ^ 54 ≤ 3 * m → 42 ≤ m / 2 ^ 45 - 128
      high m h = omega arith

      least : (f : ℕ) → 1018 ≤ f → 1018 ≤ f + 1
      least f h = omega arith

      most : (f : ℕ) → f ≤ 1028 → f + 1 ≤ 1029
      most f h = omega arith

      same : (f x x' g a c : ℕ) → a + 1023 ≡ f + 1 + c → x + 1023 * 2 ^ 61 ≡ x' + g + f * 2 ^ 61 → x + 2 ^ 61 + 2 ^ 61 * c ≡ x' + g + 2 ^ 61 * a
      same f x x' g a c r h = omega arith

-- ---- an f64 of the domain
-- the logarithm of 32 is 5
whole_part : (1028 * 2 ^ 52 / 2 ^ 52 - 1023) * 2 ^ 61 + significand_log (1028 * 2 ^ 52 % 2 ^ 52 + 2 ^ 52) ≤ 5 * 2 ^ 61
unfolding horner
whole_part = lit≤ tt

module _ (x : Float) (fits₁ : T (fits binary64 x)) (inside : T (base_inside x)) where
  abbrev b : ℕ
  b = to_bits binary64 x

  abbrev field : ℕ
  field = b / 2 ^ 52

  abbrev m : ℕ
  m = b % 2 ^ 52 + 2 ^ 52

  bits : (1018 * 2 ^ 52 ≤ b) × (b ≤ 1028 * 2 ^ 52)
  bits = base_bits x fits₁ inside

  field_lo : 1018 ≤ field
  field_lo = lin b bits.0
    where
      lin : (b : ℕ) → 1018 * 2 ^ 52 ≤ b → 1018 ≤ b / 2 ^ 52
      lin b h = omega arith

  field_hi : field ≤ 1028
  field_hi = lin b bits.1
    where
      lin : (b : ℕ) → b ≤ 1028 * 2 ^ 52 → b / 2 ^ 52 ≤ 1028
      lin b h = omega arith

  m_lo : 2 ^ 52 ≤ m
  m_lo = lin b
    where
      lin : (b : ℕ) → 2 ^ 52 ≤ b % 2 ^ 52 + 2 ^ 52
      lin b = omega arith

  m_hi : m < 2 ^ 53
  m_hi = lin b
    where
      lin : (b : ℕ) → b % 2 ^ 52 + 2 ^ 52 < 2 ^ 53
      lin b = omega arith

  -- x is 2 ^ (f - 1023) m / 2 ^ 52, and 2 ^ (f + 1 - 1023) m / 2 ^ 53
  pub scaled_value : (e c : ℕ) → 2 ^ e ≡ 2 ^ (field - 1) * c → eq_f (val_f x) (frac (m * 2 ^ e) 0 (2 ^ 1074 * c))
  scaled_value e c p =
      eq_trans_f (val_f x) (frac (val b) 0 (2 ^ 1074)) (frac (m * 2 ^ e) 0 (2 ^ 1074 * c)) (pow_pos 1074)
      (value_is x false (val b) (2 ^ 1074) (normal_value x fits₁ (le_trans (lit≤ tt) bits.0) (less b bits.1)))
      (eq_sym_f (frac (m * 2 ^ e) 0 (2 ^ 1074 * c)) (frac (val b) 0 (2 ^ 1074)) (subst (λ (z : ℕ). eq_f (frac z 0 (2 ^ 1074 * c)) (frac (val b) 0 (2 ^ 1074))) (numbers (b % 2 ^ 52) (2 ^ (field - 1)) c ∙ ap (λ (z : ℕ). m * z) (sym p)) (cancel (val b) (2 ^ 1074) c)))
    where
      less : (b : ℕ) → b ≤ 1028 * 2 ^ 52 → b < 9218868437227405312
      less b h = omega arith

      numbers : (t f c : ℕ) → (4503599627370496 + t) * f * c ≡ (t + 2 ^ 52) * (f * c)
      numbers t f c = mul_assoc (4503599627370496 + t) f c ∙ ap (λ (z : ℕ). z * (f * c)) (add_comm 4503599627370496 t)

  pub power_is : (i j : ℕ) → i ≡ field - 1 + j → 2 ^ i ≡ 2 ^ (field - 1) * 2 ^ j
  power_is i j h = ap (λ (z : ℕ). 2 ^ z) h ∙ pow-add 2 (field - 1) j

  pub by_parts : (l : Frac) (y y' : ℕ) → y + 1023 * 2 ^ 61 ≡ y' + significand_log m + field * 2 ^ 61 → LnValue (val_f x) l → Bound (sub_f l (mul_f (frac y y' (2 ^ 61)) M)) (frac 24 0 (2 ^ 66))
  by_parts l y y' is value = go (dec_le (2 ^ 54) (3 * m))
    where
      one : (f : ℕ) → 1018 ≤ f → f ≡ f - 1 + 1
      one f h = omega arith

      two : (f : ℕ) → 1018 ≤ f → f + 1 ≡ f - 1 + 2
      two f h = omega arith

      go : Dec (2 ^ 54 ≤ 3 * m) → Bound (sub_f l (mul_f (frac y y' (2 ^ 61)) M)) (frac 24 0 (2 ^ 66))
      go (yes h) = above field m field_lo field_hi m_lo m_hi y y' is (val_f x) l (val_f_pos x) value h (scaled_value (field + 1) 4 (power_is (field + 1) 2 (two field field_lo)))
      go (no h) = below field m field_lo field_hi m_lo m_hi y y' is (val_f x) l (val_f_pos x) value (lt_of_not-le h) (scaled_value field 2 (power_is field 1 (one field field_lo)))

  -- the law, and that the logarithm is at most 5
  pub log_near : (l : Frac) → LnValue (val_f x) l → Bound (sub_f l (mul_f (signed_log (log_of x)) M)) (frac 24 0 (2 ^ 66))
  log_near l value = go (dec_le 1023 field)
    where
      up : (f g : ℕ) → 1023 ≤ f → (f - 1023) * 2 ^ 61 + g + 1023 * 2 ^ 61 ≡ 0 + g + f * 2 ^ 61
      up f g h = omega arith

      down : (f g : ℕ) → f < 1023 → g ≤ 2 ^ 61 → 0 + 1023 * 2 ^ 61 ≡ (1023 - f) * 2 ^ 61 - g + g + f * 2 ^ 61
      down f g h k = omega arith

      go : Dec (1023 ≤ field) → Bound (sub_f l (mul_f (signed_log (log_of x)) M)) (frac 24 0 (2 ^ 66))
      go (yes h) =
          subst (λ (r : Log). Bound (sub_f l (mul_f (signed_log r) M)) (frac 24 0 (2 ^ 66))) (up_is x true (sym (is_true (base_inside x) inside)) b (significand_log m) refl refl refl h)
          (by_parts l ((field - 1023) * 2 ^ 61 + significand_log m) 0 (up field (significand_log m) h) value)
      go (no h) =
          subst (λ (r : Log). Bound (sub_f l (mul_f (signed_log r) M)) (frac 24 0 (2 ^ 66))) (down_is x true (sym (is_true (base_inside x) inside)) b (significand_log m) refl refl refl (lt_of_not-le h))
          (by_parts l 0 ((1023 - field) * 2 ^ 61 - significand_log m) (down field (significand_log m) (lt_of_not-le h) (log_small m m_lo m_hi)) value)

  pub log_le : (log_of x).size ≤ 5 * 2 ^ 61
  log_le = go (dec_le 1023 field)
    where
      down : (f g : ℕ) → 1018 ≤ f → (1023 - f) * 2 ^ 61 - g ≤ 5 * 2 ^ 61
      down f g h = omega arith

      go : Dec (1023 ≤ field) → (log_of x).size ≤ 5 * 2 ^ 61
      go (yes h) = subst (λ (r : Log). r.size ≤ 5 * 2 ^ 61) (up_is x true (sym (is_true (base_inside x) inside)) b (significand_log m) refl refl refl h) (top b bits.1 (dec_le field 1027))
        where
          few : (f g : ℕ) → f ≤ 1027 → g ≤ 2 ^ 61 → (f - 1023) * 2 ^ 61 + g ≤ 5 * 2 ^ 61
          few f g h k = omega arith

          last : (b : ℕ) → b ≤ 1028 * 2 ^ 52 → 1027 < b / 2 ^ 52 → b ≡ 1028 * 2 ^ 52
          last b h k = omega arith

          top : (b : ℕ) → b ≤ 1028 * 2 ^ 52 → Dec (b / 2 ^ 52 ≤ 1027) → (b / 2 ^ 52 - 1023) * 2 ^ 61 + significand_log (b % 2 ^ 52 + 2 ^ 52) ≤ 5 * 2 ^ 61
          top b h (yes k) = few (b / 2 ^ 52) (significand_log (b % 2 ^ 52 + 2 ^ 52)) k (log_small (b % 2 ^ 52 + 2 ^ 52) (lo b) (hi b))
            where
              lo : (b : ℕ) → 2 ^ 52 ≤ b % 2 ^ 52 + 2 ^ 52
              lo b = omega arith

              hi : (b : ℕ) → b % 2 ^ 52 + 2 ^ 52 < 2 ^ 53
              hi b = omega arith
          top b h (no k) = subst (λ (b : ℕ). (b / 2 ^ 52 - 1023) * 2 ^ 61 + significand_log (b % 2 ^ 52 + 2 ^ 52) ≤ 5 * 2 ^ 61) (sym (last b h (lt_of_not-le k))) whole_part
      go (no h) = subst (λ (r : Log). r.size ≤ 5 * 2 ^ 61) (down_is x true (sym (is_true (base_inside x) inside)) b (significand_log m) refl refl refl (lt_of_not-le h)) (down field (significand_log m) field_lo)
