-- exp's distance: its answer is within 2 ^ -48 of every value of document 01's bracket. Assumes nothing.
use mathlib.Core.Path.{◌≡◌, refl, sym, ap, ◌∙◌, subst}
use mathlib.Core.Bool.{Bool, true, false, cond}
use Prim.Native.Nat.{ℕ, ◌+◌, ◌-◌, ◌*◌, ◌/◌, ◌%◌, ◌^◌, ◌≤◌, ◌<◌}
use native.Mathlib.Nat.{mul_assoc, mul_comm, mul_left_comm, mul-zero, zero-mul, one-mul, add-zero, zero-add, add-le-add, le_trans, le_of_eq, mul-le-mul_left, mul-le-mul_right, le_of_mul-le-mul_right, div-mul-le_self, div-le_of_le-mul}
use native.Mathlib.Omega.{arith}
use lib.Dec.{T, leb, lit<, lit≤}
use lib.IntN.{ℤ}
use lib.Pow.{pow_pos, pow-add}
use lib.Ieee.{Float, fin, up, down, binary64, fits, to_bits}
use Rattle.number.specs.Ans.{Ans, held, refused}
use Rattle.number.specs.Frac.{Frac, frac, Pos, le_f, neg_f, sub_f, mul_f, sgn, val_f}
use Rattle.number.proofs.Frac.{ring, val_f_pos}
use Rattle.number.specs.Domain.{exp_inside}
use Rattle.series.specs.Exact.{ExpValue}
use Rattle.series.specs.Distance.{within}
use Rattle.series.proofs.Close.{Close}
use Rattle.series.proofs.Constants.{mn, md}
use Rattle.exponential.specs.Raise.{raise_of}
use Rattle.exponential.specs.Exp.{argument_size, binary_of, exponent_at, binary_exponent_of, exp_of}
use Rattle.exponential.proofs.Decode.{units_of, decoded, size_lo, size_hi, size_le_of, field_lt}
use Rattle.exponential.proofs.Argument.{exp_inside_is, units_le, down_range, up_range}
use Rattle.exponential.proofs.Bounds.{Bound}
use Rattle.exponential.proofs.Position.{M}
use Rattle.exponential.proofs.Value.{Within}
use Rattle.exponential.proofs.RaiseNear.{raise_finite, raise_near}

-- ---- the size over ln 2: S / 2 ^ 54 is the size A / D rounded down, I 2 ^ 63 / ln 2, V S I / 2 ^ 64; ln 2 is m / q
module _ (A D S V₁ I m q : ℕ) (below : S * D ≤ A * 2 ^ 54) (above : A * 2 ^ 54 ≤ (S + 1) * D) (fits : S ≤ 2 ^ 64) (v₀ : V₁ * 2 ^ 64 ≤ S * I) (v₁ : S * I ≤ (V₁ + 1) * 2 ^ 64) (i₀ : I * m ≤ 2 ^ 63 * q) (i₁ : 2 ^ 63 * q ≤ (I + 1) * m) where
  -- V m / q at most S / 2
  product_lo : 2 * V₁ * m ≤ S * q
  product_lo = le_of_mul-le-mul_right {k = 2 ^ 63} (le_trans (le_of_eq (a V₁ m)) (le_trans (mul-le-mul_right m v₀) (le_trans (le_of_eq (mul_assoc S I m)) (le_trans (mul-le-mul_left S i₀) (le_of_eq (b S q)))))) (lit< tt)
    where
      a : (v m : ℕ) → 2 * v * m * 2 ^ 63 ≡ v * 2 ^ 64 * m
      a v m = two (v * m) (2 * v * m) (v * 2 ^ 64 * m) (mul_assoc 2 v m) (turn v m)
        where
          turn : (v m : ℕ) → v * 2 ^ 64 * m ≡ v * m * 2 ^ 64
          turn v m = simp (mul_assoc, mul_comm)

          two : (x y z : ℕ) → y ≡ 2 * x → z ≡ x * 2 ^ 64 → y * 2 ^ 63 ≡ z
          two x y z p q = omega arith

      b : (s q : ℕ) → s * (2 ^ 63 * q) ≡ s * q * 2 ^ 63
      b s q = simp (mul_assoc, mul_comm)

  product_hi : S * q ≤ (2 * V₁ + 4) * m
  product_hi =
      le_of_mul-le-mul_right {k = 2 ^ 63}
      (le_trans (le_of_eq (b S q)) (le_trans (mul-le-mul_left S i₁) (le_trans (le_of_eq (c S I m)) (le_trans (mul-le-mul_right m (add-le-add v₁ fits)) (le_trans (mul-le-mul_right m (d V₁)) (le_of_eq (e (2 * V₁ + 4) m))))))) (lit< tt)
    where
      b : (s q : ℕ) → s * q * 2 ^ 63 ≡ s * (2 ^ 63 * q)
      b s q = simp (mul_assoc, mul_comm)

      c : (s i m : ℕ) → s * ((i + 1) * m) ≡ (s * i + s) * m
      c s i m = simp (ring, one-mul)

      d : (v : ℕ) → (v + 1) * 2 ^ 64 + 2 ^ 64 ≤ (2 * v + 4) * 2 ^ 63
      d v = omega arith

      e : (x m : ℕ) → x * 2 ^ 63 * m ≡ x * m * 2 ^ 63
      e x m = simp (mul_assoc, mul_comm)

  -- V ln 2 / 2 ^ 53 from below and from above
  pub scaled_lo : V₁ * m * D ≤ A * (2 ^ 53 * q)
  scaled_lo = go (mul-le-mul_right D product_lo) (mul-le-mul_right q below)
    where
      go : 2 * V₁ * m * D ≤ S * q * D → S * D * q ≤ A * 2 ^ 54 * q → V₁ * m * D ≤ A * (2 ^ 53 * q)
      go h k = lin V₁ m D S q A h k
        where
          lin : (v m d s q a : ℕ) → 2 * v * m * d ≤ s * q * d → s * d * q ≤ a * 2 ^ 54 * q → v * m * d ≤ a * (2 ^ 53 * q)
          lin v m d s q a h k =
              let x = simp ring at h in
              let y = simp ring at k in
              simp ring (omega arith)

  pub scaled_hi : A * (2 ^ 54 * q) ≤ (2 * V₁ + 4) * m * D + q * D
  scaled_hi = lin A q S D V₁ m (mul-le-mul_right q above) (mul-le-mul_right D product_hi)
    where
      lin : (a q s d v m : ℕ) → a * 2 ^ 54 * q ≤ (s + 1) * d * q → s * q * d ≤ (2 * v + 4) * m * d → a * (2 ^ 54 * q) ≤ (2 * v + 4) * m * d + q * d
      lin a q s d v m h k =
          let x = simp (ring, one-mul) at h in
          let y = simp ring at k in
          simp ring (omega arith)

-- ---- as a distance of fractions: w is x + V or x - V, T is 2 ^ 53, U 2 ^ 60
module _ (A D v m q T₁ U c x w : ℕ) (lo : v * m * D ≤ A * (T₁ * q)) (hi : A * (T₁ * q) * U ≤ v * m * D * U + c * (D * (T₁ * q))) where
  near_pos : w ≡ x + v → Bound (sub_f (frac A 0 D) (mul_f (frac w x T₁) (frac m 0 q))) (frac c 0 U)
  near_pos e = subst (λ (w : ℕ). Bound (sub_f (frac A 0 D) (mul_f (frac w x T₁) (frac m 0 q))) (frac c 0 U)) (sym e) (one A D v m q T₁ U c x hi, two A D v m q T₁ U c x (mul-le-mul_right U lo))
    where
      one : (A D v m q T₁ U c x : ℕ) → A * (T₁ * q) * U ≤ v * m * D * U + c * (D * (T₁ * q)) → le_f (sub_f (frac A 0 D) (mul_f (frac (x + v) x T₁) (frac m 0 q))) (frac c 0 U)
      one A D v m q T₁ U c x h = let z = simp ring at h in simp (ring, mul-zero, zero-mul, add-zero, zero-add) (omega arith)

      two : (A D v m q T₁ U c x : ℕ) → v * m * D * U ≤ A * (T₁ * q) * U → le_f (neg_f (sub_f (frac A 0 D) (mul_f (frac (x + v) x T₁) (frac m 0 q)))) (frac c 0 U)
      two A D v m q T₁ U c x h = let z = simp ring at h in simp (ring, mul-zero, zero-mul, add-zero, zero-add) (omega arith)

  near_neg : x ≡ w + v → Bound (sub_f (frac 0 A D) (mul_f (frac w x T₁) (frac m 0 q))) (frac c 0 U)
  near_neg e = subst (λ (x : ℕ). Bound (sub_f (frac 0 A D) (mul_f (frac w x T₁) (frac m 0 q))) (frac c 0 U)) (sym e) (one A D v m q T₁ U c w (mul-le-mul_right U lo), two A D v m q T₁ U c w hi)
    where
      one : (A D v m q T₁ U c w : ℕ) → v * m * D * U ≤ A * (T₁ * q) * U → le_f (sub_f (frac 0 A D) (mul_f (frac w (w + v) T₁) (frac m 0 q))) (frac c 0 U)
      one A D v m q T₁ U c w h = let z = simp ring at h in simp (ring, mul-zero, zero-mul, add-zero, zero-add) (omega arith)

      two : (A D v m q T₁ U c w : ℕ) → A * (T₁ * q) * U ≤ v * m * D * U + c * (D * (T₁ * q)) → le_f (neg_f (sub_f (frac 0 A D) (mul_f (frac w (w + v) T₁) (frac m 0 q)))) (frac c 0 U)
      two A D v m q T₁ U c w h = let z = simp ring at h in simp (ring, mul-zero, zero-mul, add-zero, zero-add) (omega arith)

-- the upper bound in the units of the distance: (4 m + q) / 2 ^ 54 is at most 242 q / 2 ^ 60
room : (A D v : ℕ) → A * (2 ^ 54 * md) ≤ (2 * v + 4) * mn * D + md * D → A * (2 ^ 53 * md) * 2 ^ 60 ≤ v * mn * D * 2 ^ 60 + 242 * (D * (2 ^ 53 * md))
room A D v h = half (A * (2 ^ 53 * md)) (A * (2 ^ 54 * md)) ((2 * v + 4) * mn * D + md * D) (v * mn * D) (D * (4 * mn + md)) (242 * (D * (2 ^ 53 * md))) (double A) (parts v mn md D) h (le_trans (le_of_eq (turn D)) (le_trans (mul-le-mul_left D small) (le_of_eq (back D))))
  where
    double : (A : ℕ) → A * (2 ^ 54 * md) ≡ 2 * (A * (2 ^ 53 * md))
    double A = sym (mul_left_comm 2 A (2 ^ 53 * md))

    parts : (v m q D : ℕ) → (2 * v + 4) * m * D + q * D ≡ 2 * (v * m * D) + D * (4 * m + q)
    parts v m q D = simp ring (omega arith)

    small : (4 * mn + md) * 2 ^ 59 ≤ 242 * (2 ^ 53 * md)
    small = lit≤ tt

    turn : (D : ℕ) → D * (4 * mn + md) * 2 ^ 59 ≡ D * ((4 * mn + md) * 2 ^ 59)
    turn D = mul_assoc D (4 * mn + md) (2 ^ 59)

    back : (D : ℕ) → D * (242 * (2 ^ 53 * md)) ≡ 242 * (D * (2 ^ 53 * md))
    back D = mul_left_comm D 242 (2 ^ 53 * md)

    half : (a b r y z e : ℕ) → b ≡ 2 * a → r ≡ 2 * y + z → b ≤ r → z * 2 ^ 59 ≤ e → a * 2 ^ 60 ≤ y * 2 ^ 60 + e
    half a b r y z e p q h k = omega arith

-- ---- the argument: its sign s and its size A / D, as the bits b have them
module _ (s : Bool) (A D b : ℕ) (sign_is : s ≡ leb 9223372036854775808 b) (size_is : A * 2 ^ 1074 ≡ units_of (b / 4503599627370496 % 2048) (b % 4503599627370496) * D) (bound : units_of (b / 4503599627370496 % 2048) (b % 4503599627370496) ≤ 700 * 2 ^ 1074) where
  abbrev field : ℕ
  field = b / 4503599627370496 % 2048

  abbrev digits : ℕ
  digits = b % 4503599627370496

  digits_lt : digits < 4503599627370496
  digits_lt = go b
    where
      go : (b : ℕ) → b % 4503599627370496 < 4503599627370496
      go b = omega arith

  field_ok : field < 1033
  field_ok = field_lt 700 field digits (lit< tt) digits_lt bound

  size_le : argument_size b ≤ 700 * 2 ^ 54
  size_le = size_le_of 700 field digits (lit< tt) digits_lt bound

  unit_split : (x d : ℕ) → x * 2 ^ 1020 * d ≡ x * d * 2 ^ 1020
  unit_split x d = simp (mul_assoc, mul_comm)

  whole_split : A * 2 ^ 1074 ≡ A * 2 ^ 54 * 2 ^ 1020
  whole_split = ap (λ (z : ℕ). A * z) (pow-add 2 54 1020) ∙ sym (mul_assoc A (2 ^ 54) (2 ^ 1020))

  size_below : argument_size b * D ≤ A * 2 ^ 54
  size_below = le_of_mul-le-mul_right {k = 2 ^ 1020} (le_trans (le_of_eq (sym (unit_split (argument_size b) D))) (le_trans (mul-le-mul_right D (size_lo field digits field_ok digits_lt)) (le_of_eq (sym size_is ∙ whole_split)))) (pow_pos 1020)

  size_above : A * 2 ^ 54 ≤ (argument_size b + 1) * D
  size_above = le_of_mul-le-mul_right {k = 2 ^ 1020} (le_trans (le_of_eq (sym whole_split ∙ size_is)) (le_trans (mul-le-mul_right D (size_hi field digits field_ok digits_lt)) (le_of_eq (unit_split (argument_size b + 1) D)))) (pow_pos 1020)

  next : (x : ℕ) → x ≤ (x / 2 ^ 64 + 1) * 2 ^ 64
  next x = omega arith

  low : binary_of b * mn * D ≤ A * (2 ^ 53 * md)
  low = scaled_lo A D (argument_size b) (binary_of b) 13306513097844322491 mn md size_below size_above (le_trans size_le (lit≤ tt)) (div-mul-le_self (argument_size b * 13306513097844322491) (2 ^ 64)) (next (argument_size b * 13306513097844322491)) (lit≤ tt) (lit≤ tt)

  high : A * (2 ^ 53 * md) * 2 ^ 60 ≤ binary_of b * mn * D * 2 ^ 60 + 242 * (D * (2 ^ 53 * md))
  high = room A D (binary_of b) (scaled_hi A D (argument_size b) (binary_of b) 13306513097844322491 mn md size_below size_above (le_trans size_le (lit≤ tt)) (div-mul-le_self (argument_size b * 13306513097844322491) (2 ^ 64)) (next (argument_size b * 13306513097844322491)) (lit≤ tt) (lit≤ tt))

  -- 700 / ln 2 is below 1010
  small : binary_of b ≤ 1010 * 2 ^ 53
  small = div-le_of_le-mul (2 ^ 64) (le_trans (mul-le-mul_right 13306513097844322491 size_le) (lit≤ tt))

  -- w / 2 ^ 53 - 1023 times ln 2 is within 242 / 2 ^ 60 of the argument, and w in the core's range
  pub bits_near : Bound (sub_f (sgn s A D) (mul_f (frac (exponent_at b) (1023 * 2 ^ 53) (2 ^ 53)) M)) (frac 242 0 (2 ^ 60)) × (2 ^ 53 ≤ exponent_at b) × (exponent_at b < 2046 * 2 ^ 53)
  unfolding exponent_at
  bits_near = subst (λ (t : Bool). Bound (sub_f (sgn s A D) (mul_f (frac (cond t (1023 * 2 ^ 53 - binary_of b) (1023 * 2 ^ 53 + binary_of b)) (1023 * 2 ^ 53) (2 ^ 53)) M)) (frac 242 0 (2 ^ 60)) × (2 ^ 53 ≤ cond t (1023 * 2 ^ 53 - binary_of b) (1023 * 2 ^ 53 + binary_of b)) × (cond t (1023 * 2 ^ 53 - binary_of b) (1023 * 2 ^ 53 + binary_of b) < 2046 * 2 ^ 53)) sign_is (go s)
    where
      less : (v : ℕ) → v ≤ 1010 * 2 ^ 53 → 1023 * 2 ^ 53 ≡ 1023 * 2 ^ 53 - v + v
      less v h = omega arith

      go : (t : Bool) → Bound (sub_f (sgn t A D) (mul_f (frac (cond t (1023 * 2 ^ 53 - binary_of b) (1023 * 2 ^ 53 + binary_of b)) (1023 * 2 ^ 53) (2 ^ 53)) M)) (frac 242 0 (2 ^ 60)) × (2 ^ 53 ≤ cond t (1023 * 2 ^ 53 - binary_of b) (1023 * 2 ^ 53 + binary_of b)) × (cond t (1023 * 2 ^ 53 - binary_of b) (1023 * 2 ^ 53 + binary_of b) < 2046 * 2 ^ 53)
      go false = (near_pos A D (binary_of b) mn md (2 ^ 53) (2 ^ 60) 242 (1023 * 2 ^ 53) (1023 * 2 ^ 53 + binary_of b) low high refl, (up_range (binary_of b) small).0, (up_range (binary_of b) small).1)
      go true = (near_neg A D (binary_of b) mn md (2 ^ 53) (2 ^ 60) 242 (1023 * 2 ^ 53) (1023 * 2 ^ 53 - binary_of b) low high (less (binary_of b) small), (down_range (binary_of b) small).0, (down_range (binary_of b) small).1)

-- the same of an f64
pub argument_near : (s : Bool) (m : ℕ) (e : ℤ) → T (fits binary64 (fin s m e)) → m * up e ≤ 700 * down e
    → Bound (sub_f (val_f (fin s m e)) (mul_f (frac (binary_exponent_of (fin s m e)) (1023 * 2 ^ 53) (2 ^ 53)) M)) (frac 242 0 (2 ^ 60)) × (2 ^ 53 ≤ binary_exponent_of (fin s m e)) × (binary_exponent_of (fin s m e) < 2046 * 2 ^ 53)
unfolding binary_exponent_of
argument_near s m e f bound =
    let b = to_bits binary64 (fin s m e) in
    let d = decoded s m e f b refl in
    bits_near s (m * up e) (down e) b d.0.0 d.0.1 (units_le 700 m e (units_of (b / 4503599627370496 % 2048) (b % 4503599627370496)) d.0.1 bound)

-- ---- the law
-- (216 + 3 · 242) / 2 ^ 60 is at most 2 ^ -48
loosen : (r e : Frac) → Pos r → Pos e → Within (2 ^ 60) (216 + 3 * 242) r e → within (2 ^ 48) r e
loosen (frac p n d) (frac q k c) R E h = go ((p * c + k * d - (n * c + q * d)) + (n * c + q * d - (p * c + k * d))) ((q - k) + (k - q)) c (d * c) h
  where
    go : (x y c z : ℕ) → (2 ^ 60 * x + 0 * 0) * (1 * c) + ((216 + 3 * 242) * 0 + 0 * y) * (1 * z) ≤ ((216 + 3 * 242) * y + 0 * 0) * (1 * z) + (2 ^ 60 * 0 + 0 * x) * (1 * c) → (2 ^ 48 * x + 0 * 0) * c + 0 * (1 * z) ≤ y * (1 * z) + (2 ^ 48 * 0 + 0 * x) * c
    go x y c z h =
        let u = simp (ring, one-mul, mul-zero, zero-mul, add-zero, zero-add) at h in
        simp (ring, one-mul, mul-zero, zero-mul, add-zero, zero-add) (omega arith)

pub exp_near : (x : Float) (e : Frac) → T (fits binary64 x) → T (exp_inside x) → ExpValue (val_f x) e → Close (within (2 ^ 48)) (raise_of (binary_exponent_of x)) e
exp_near x e f h v = go (exp_inside_is x h)
  where
    go : (s : Bool) × (m : ℕ) × (t : ℤ) × (x ≡ fin s m t) × (m * up t ≤ 700 * down t) → Close (within (2 ^ 48)) (raise_of (binary_exponent_of x)) e
    go (s, m, t, p, q) = subst (λ (y : Float). Close (within (2 ^ 48)) (raise_of (binary_exponent_of y)) e) (sym p) (at s m t (subst (λ (y : Float). T (fits binary64 y)) p f) q (subst (λ (y : Float). ExpValue (val_f y) e) p v))
      where
        at : (s : Bool) (m : ℕ) (t : ℤ) → T (fits binary64 (fin s m t)) → m * up t ≤ 700 * down t → ExpValue (val_f (fin s m t)) e → Close (within (2 ^ 48)) (raise_of (binary_exponent_of (fin s m t))) e
        at s m t f q v =
            let z = argument_near s m t f q in
            let w = binary_exponent_of (fin s m t) in
            (raise_finite w z.2, loosen (val_f (raise_of w)) e (val_f_pos (raise_of w)) v.proper.0 (raise_near w 242 (val_f (fin s m t)) e z.1 z.2 (lit≤ tt) (val_f_pos (fin s m t)) z.0 v))

-- 'The distance holds from every value in the bracket': whatever value exp holds, at each f64 x; and it is finite
pub exp_distance : (x v : Float) (e : Frac) → T (fits binary64 x) → exp_of x ≡ held v → ExpValue (val_f x) e → Close (within (2 ^ 48)) v e
unfolding exp_of
exp_distance x v e f h w = go (exp_inside x) refl h
  where
    go : (t : Bool) → t ≡ exp_inside x → cond t (held (raise_of (binary_exponent_of x))) (refused 6) ≡ held v → Close (within (2 ^ 48)) v e
    go true p h = subst (λ (y : Float). Close (within (2 ^ 48)) y e) (same h) (exp_near x e f (subst T p tt) w)
      where
        same : held (raise_of (binary_exponent_of x)) ≡ held v → raise_of (binary_exponent_of x) ≡ v
        same h = cc
    go false p h = absurd (never h)
      where
        never : ◌≡◌ {A = Ans Float} (refused 6) (held v) → ⊥
        never h = let z : ◌≡◌ {A = ℕ} 0 1 = cc in omega arith
