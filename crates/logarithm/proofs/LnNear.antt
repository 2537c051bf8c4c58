-- `ln` keeps document 01's distance: the core's numbers, the two halves of w, an f64's bits, and the theorem. Assumes nothing.
use mathlib.Core.Path.{◌≡◌, refl, sym, ap, ap₂, ◌∙◌, subst}
use mathlib.Core.Bool.{Bool, true, false, cond}
use Prim.Native.Nat.{ℕ, ◌+◌, ◌-◌, ◌*◌, ◌/◌, ◌%◌, ◌^◌, ◌≤◌, ◌<◌}
use native.Mathlib.Nat.{le_trans, le_of_eq, le_of_lt, lt_of_lt_of_le, lt_of_le_of_lt, lt_of_not-le, mul_comm, mul_assoc, zero-mul, zero-div, add_comm, mul-le-mul, mul-le-mul_left, mul-le-mul_right, le_of_mul-le-mul_right, div-le_of_le-mul}
use native.Mathlib.Nat as Nat
use native.Mathlib.Decide.{dec_le}
use native.Mathlib.Omega.{arith}
use lib.Dec.{T, lit<, lit≤}
use lib.Pow.{pow_pos, pow-add}
use lib.Count.{count_leading_zeros, leading_le}
use lib.Ieee.{Float, binary64, of_bits, to_bits, fits, le}
use lib.Ieee.Fits.{and_l, and_r}
use lib.Ieee.Positive.{positive, between}
use borrow.Author.Tests.{lt-ltb, le-ltb}
use Rattle.number.specs.Ans.{held, refused}
use Rattle.number.specs.Frac.{Frac, frac, Pos, val_f}
use Rattle.number.proofs.Frac.{val_f_pos}
use Rattle.number.specs.Domain.{ln_inside}
use Rattle.fixed_point.specs.Horner.{horner}
use Rattle.fixed_point.specs.Quotient.{quotient}
use Rattle.fixed_point.proofs.Horner.{ac}
use Rattle.fixed_point.proofs.TwoDigits.{quotient_lo, quotient_hi7}
use Rattle.fixed_point.proofs.Patterns64.{val}
use Rattle.std.specs.Int.{from_bool}
use Rattle.fixed_point.proofs.Decode.{positive_bits, bits_from, normal_value}
use Rattle.series.specs.Sums.{eq_f}
use Rattle.series.specs.Exact.{LnValue}
use Rattle.series.specs.Distance.{within}
use Rattle.series.proofs.Close.{Close}
use Rattle.logarithm.specs.Logarithm.{coefficients, core, signed, reduced, ln_bits, ln_of}
use Rattle.logarithm.proofs.CoreBounds.{core_lo, core_hi, q_small, series_small}
use Rattle.logarithm.proofs.Ranges.{z_small, part_small, moved_lt, moved_ge, moved_few, moved_five}
use Rattle.logarithm.proofs.Fractions.{eq_sym_f, eq_trans_f, value_is}
use Rattle.logarithm.proofs.OddSeries.{whole}
use Rattle.logarithm.proofs.Split.{Part}
use Rattle.logarithm.proofs.Joined.{Parts, Joins, join_near}

-- ---- the core's numbers, at a number m and a denominator d as `core` asks for
module _ (m d sh : ℕ) (lo : 5 * 2 ^ 62 ≤ 3 * d) (hi : 5 * d ≤ 14 * 2 ^ 62) (few : 10 * m ≤ 3 * d) (five : 5 * m ≤ d * 2 ^ sh) where
  abbrev Z : ℕ
  Z = quotient m d

  abbrev b : ℕ
  b = horner coefficients (quotient m d / 2 ^ sh * (quotient m d / 2 ^ sh) / 2 ^ 64)

  d_lo : 2 ^ 62 ≤ d
  d_lo = omega arith

  d_pos : 0 < d
  d_pos = lt_of_lt_of_le (lit< tt) d_lo

  pub few_Z : 10 * Z ≤ 3 * 2 ^ 64
  few_Z = le_of_mul-le-mul_right {k = d} (le_trans (le_of_eq (mul_assoc 10 Z d)) (le_trans (mul-le-mul_left 10 (quotient_lo m d d_lo hi few)) (le_trans (le_of_eq (sym (mul_assoc 10 m (2 ^ 64)))) (le_trans (mul-le-mul_right (2 ^ 64) few) (le_of_eq (go 3 d (2 ^ 64))))))) d_pos
    where
      go : (a d w : ℕ) → a * d * w ≡ a * w * d
      go a d w = simp ac

  b_hi : b ≤ 2 ^ 63 + 2 ^ 60
  b_hi = series_small (quotient m d / 2 ^ sh * (quotient m d / 2 ^ sh) / 2 ^ 64) (q_small (quotient m d / 2 ^ sh) (z_small m d sh lo hi few five))

  pub core_fits : core m d sh < 2 ^ 64
  unfolding core
  core_fits = lt_of_le_of_lt (div-le_of_le-mul (2 ^ 64) (le_trans (mul-le-mul_left Z (le_trans b_hi (lit≤ tt))) (le_of_eq (mul_comm Z (2 ^ 64))))) (less Z few_Z)
    where
      less : (z : ℕ) → 10 * z ≤ 3 * 2 ^ 64 → z < 2 ^ 64
      less z h = omega arith

  b_lo : 2 ^ 63 ≤ b
  unfolding horner
  b_lo = Nat.le-add_right 9223372036854775808 _

  pub core_big : 2 ^ 60 ≤ m → 2 ^ 59 ≤ core m d sh
  unfolding core
  core_big h = half (Z * b) (le_trans (lit≤ tt) (mul-le-mul Z-big b_lo))
    where
      half : (x : ℕ) → 2 ^ 60 * 2 ^ 63 ≤ x → 2 ^ 59 ≤ x / 2 ^ 64
      half x h = omega arith

      enough : (z : ℕ) → 5 * 2 ^ 62 ≤ (z + 7) * 14 → 2 ^ 60 ≤ z
      enough z h = omega arith

      Z-big : 2 ^ 60 ≤ Z
      Z-big =
          enough Z (le_of_mul-le-mul_right {k = 2 ^ 62}
          (le_trans (lit≤ {m = 5 * 2 ^ 62 * 2 ^ 62} {n = 5 * (2 ^ 60 * 2 ^ 64)} tt) (le_trans (mul-le-mul_left 5 (le_trans (mul-le-mul_right (2 ^ 64) h) (quotient_hi7 m d d_lo hi few lo))) (le_trans (le_of_eq (go 5 (Z + 7) d)) (le_trans (mul-le-mul_left (Z + 7) hi) (le_of_eq (sym (mul_assoc (Z + 7) 14 (2 ^ 62))))))))
          (lit< tt))
        where
          go : (a z d : ℕ) → a * (z * d) ≡ z * (a * d)
          go a z d = simp ac

  pub core_none : m ≡ 0 → core m d sh ≡ 0
  unfolding core
  core_none e = ap (λ (x : ℕ). x * b / 2 ^ 64) (zero_Z e) ∙ ap (λ (x : ℕ). x / 2 ^ 64) (zero-mul b) ∙ zero-div (2 ^ 64)
    where
      least : (z : ℕ) → z ≤ 0 → z ≡ 0
      least z h = omega arith

      zero_Z : m ≡ 0 → Z ≡ 0
      zero_Z e = least Z (le_of_mul-le-mul_right {k = d} (le_trans (quotient_lo m d d_lo hi few) (le_of_eq (ap (λ (x : ℕ). x * 2 ^ 64) e ∙ zero-mul (2 ^ 64) ∙ sym (zero-mul d)))) d_pos)

-- ---- `signed`: w = u / 2 ^ 62
module _ (s : Bool) (n u : ℕ) (part : Part s u n (2 ^ 62)) (low : 2 * 2 ^ 62 ≤ 3 * u) (high : 3 * u < 4 * 2 ^ 62) where
  abbrev sh : ℕ
  sh = count_leading_zeros 64 n - 3

  abbrev d : ℕ
  d = u + 2 ^ 62

  small : n < 2 ^ 61
  small = go s part
    where
      go : (s : Bool) → Part s u n (2 ^ 62) → n < 2 ^ 61
      go false p = omega (arith, p, high)
      go true p = omega (arith, p, low)

  fifth : 5 * n ≤ d
  fifth = go s part
    where
      go : (s : Bool) → Part s u n (2 ^ 62) → 5 * n ≤ d
      go false p = omega (arith, p, high)
      go true p = omega (arith, p, low)

  lo : 5 * 2 ^ 62 ≤ 3 * d
  lo = omega arith

  hi : 5 * d ≤ 14 * 2 ^ 62
  hi = omega arith

  few : 10 * (n * 2 ^ sh) ≤ 3 * d
  few = moved_few (n * 2 ^ sh) d (moved_lt n small) lo

  five : 5 * (n * 2 ^ sh) ≤ d * 2 ^ sh
  five = moved_five n d (2 ^ sh) fifth

  positive_d : 0 < d
  positive_d = omega arith

  d_low : 2 ^ 62 ≤ d
  d_low = omega arith

  above : quotient (n * 2 ^ sh) d * d ≤ n * 2 ^ sh * 2 ^ 64 + d
  above = le_trans (quotient_lo (n * 2 ^ sh) d d_low hi few) (Nat.le-add_right (n * 2 ^ sh * 2 ^ 64) d)

  below : n * 2 ^ sh * 2 ^ 64 ≤ (quotient (n * 2 ^ sh) d + 8) * d
  below = le_trans (quotient_hi7 (n * 2 ^ sh) d d_low hi few lo) (mul-le-mul_right d (more (quotient (n * 2 ^ sh) d)))
    where
      more : (z : ℕ) → z + 7 ≤ z + 8
      more z = omega arith

  signed_parts : Parts s n (2 ^ 62) u (2 ^ sh) (core (n * 2 ^ sh) d sh)
  unfolding core
  signed_parts = record {
    whole_one = lit< tt;
    part = part;
    low = low;
    high = high;
    denominator = positive_d;
    scale = pow_pos sh;
    few = le_trans (le_of_lt (moved_lt n small)) (le_trans (lit≤ tt) d_low);
    near_low = core_lo n d (2 ^ sh) (quotient (n * 2 ^ sh) d) (whole n d positive_d).p (whole n d positive_d).q (pow_pos sh) positive_d above below (few_Z (n * 2 ^ sh) d sh lo hi few five) fifth (whole n d positive_d).closed;
    near_high = core_hi n d (2 ^ sh) (quotient (n * 2 ^ sh) d) (whole n d positive_d).p (whole n d positive_d).q (pow_pos sh) positive_d above below (few_Z (n * 2 ^ sh) d sh lo hi few five) fifth (whole n d positive_d).closed;
  }

  signed_joins : Joins n sh (core (n * 2 ^ sh) d sh)
  signed_joins = record {
    shift = less (count_leading_zeros 64 n) (leading_le 64 n);
    fits = core_fits (n * 2 ^ sh) d sh lo hi few five;
    small = part_small (n * 2 ^ sh) d sh lo hi few five;
    big = λ (p : 0 < n). core_big (n * 2 ^ sh) d sh lo hi few five (moved_ge n small p);
    none = λ (e : n ≡ 0). core_none (n * 2 ^ sh) d sh lo hi few five (ap (λ (x : ℕ). x * 2 ^ sh) e ∙ zero-mul (2 ^ sh));
  }
    where
      less : (l : ℕ) → l ≤ 64 → l - 3 < 64
      less l h = omega arith

  pub signed_near : (y v : Frac) → Pos y → (e : ℕ) → e ≤ 2048 → eq_f y (frac (u * 2 ^ e) 0 (2 ^ 62 * 2 ^ 1023)) → LnValue y v → Close (within (2 ^ 48)) (signed e (from_bool s) n d) v
  unfolding signed
  signed_near y v yp e eh given value = join_near s n (2 ^ 62) u (2 ^ sh) (core (n * 2 ^ sh) d sh) signed_parts y v yp e eh given value sh refl signed_joins

-- ---- `reduced`
pub cancel : (a c k : ℕ) → eq_f (frac (a * k) 0 (c * k)) (frac a 0 c)
cancel a c k = (le_of_eq (go a c k), le_of_eq (sym (go a c k)))
  where
    turn : (a c k : ℕ) → a * k * c ≡ a * (c * k)
    turn a c k = simp ac

    go : (a c k : ℕ) → a * k * c + 0 * (c * k) ≡ a * (c * k) + 0 * c
    go a c k = ap₂ ◌+◌ (turn a c k) (zero-mul (c * k) ∙ sym (zero-mul c))

pub reduced_near : (m : ℕ) → 2 ^ 63 ≤ m → m < 2 ^ 64 → m % 4 ≡ 0 → (y v : Frac) → Pos y → (e : ℕ) → e ≤ 2047 → eq_f y (frac (m * 2 ^ e) 0 (2 ^ 63 * 2 ^ 1023)) → LnValue y v → Close (within (2 ^ 48)) (reduced e m) v
unfolding reduced
reduced_near m lo hi four y v yp e eh given value = go (dec_le 12297829382473034411 m)
  where
    half_low : (m : ℕ) → 2 ^ 63 ≤ m → 2 * 2 ^ 62 ≤ 3 * (m / 2)
    half_low m h = omega arith

    half_high : (m : ℕ) → m < 12297829382473034411 → 3 * (m / 2) < 4 * 2 ^ 62
    half_high m h = omega arith

    quarter_low : (m : ℕ) → 12297829382473034411 ≤ m → m % 4 ≡ 0 → 2 * 2 ^ 62 ≤ 3 * (m / 4)
    quarter_low m h k = omega arith

    quarter_high : (m : ℕ) → m < 2 ^ 64 → 3 * (m / 4) < 4 * 2 ^ 62
    quarter_high m h = omega arith

    two : (m : ℕ) → m % 4 ≡ 0 → m ≡ m / 2 * 2
    two m h = omega arith

    fours : (m : ℕ) → m % 4 ≡ 0 → m ≡ m / 4 * 4
    fours m h = omega arith

    less : (e : ℕ) → e ≤ 2047 → e ≤ 2048
    less e h = omega arith

    next : (e : ℕ) → e ≤ 2047 → e + 1 ≤ 2048
    next e h = omega arith

    twice : (w : ℕ) → m * 2 ^ e ≡ w * 2 → eq_f y (frac w 0 (2 ^ 62 * 2 ^ 1023))
    twice w q = eq_trans_f y (frac (m * 2 ^ e) 0 (2 ^ 63 * 2 ^ 1023)) (frac w 0 (2 ^ 62 * 2 ^ 1023)) (lit< tt) given (subst (λ (x : ℕ). eq_f (frac x 0 (2 ^ 62 * 2 ^ 1023 * 2)) (frac w 0 (2 ^ 62 * 2 ^ 1023))) (sym q) (cancel w (2 ^ 62 * 2 ^ 1023) 2))

    first : m * 2 ^ e ≡ m / 2 * 2 ^ e * 2
    first = ap (λ (x : ℕ). x * 2 ^ e) (two m four) ∙ swap (m / 2) 2 (2 ^ e)
      where
        swap : (a b c : ℕ) → a * b * c ≡ a * c * b
        swap a b c = simp ac

    second : m * 2 ^ e ≡ m / 4 * 2 ^ (e + 1) * 2
    second = ap (λ (x : ℕ). x * 2 ^ e) (fours m four) ∙ swap (m / 4) 2 (2 ^ e) ∙ ap (λ (x : ℕ). m / 4 * x * 2) (sym (pow-add 2 e 1))
      where
        swap : (a b c : ℕ) → a * (b * b) * c ≡ a * (c * b) * b
        swap a b c = simp ac

    up : (m : ℕ) → 2 ^ 63 ≤ m → m / 2 ≡ 2 ^ 62 + (m / 2 - 4611686018427387904)
    up m h = omega arith

    down : (m : ℕ) → m < 2 ^ 64 → m / 4 + (4611686018427387904 - m / 4) ≡ 2 ^ 62
    down m h = omega arith

    go : Dec (12297829382473034411 ≤ m) → Close (within (2 ^ 48)) (reduced e m) v
    go (no l) = rw (lt-ltb m 12297829382473034411 (lt_of_not-le l)) (signed_near false (m / 2 - 4611686018427387904) (m / 2) (up m lo) (half_low m lo) (half_high m (lt_of_not-le l)) y v yp e (less e eh) (twice (m / 2 * 2 ^ e) first) value)
    go (yes l) = rw (le-ltb m 12297829382473034411 l) (signed_near true (4611686018427387904 - m / 4) (m / 4) (down m hi) (quarter_low m l four) (quarter_high m hi) y v yp (e + 1) (next e eh) (twice (m / 4 * 2 ^ (e + 1)) second) value)

-- ---- an f64
pub bits_near : (b : ℕ) → 4503599627370496 ≤ b → b < 9218868437227405312 → (y v : Frac) → Pos y → eq_f y (frac (val b) 0 (2 ^ 1074)) → LnValue y v → Close (within (2 ^ 48)) (ln_bits b) v
unfolding ln_bits
bits_near b lo hi y v yp given value =
    reduced_near ((b % 2 ^ 52 + 2 ^ 52) * 2048) (large b) (fit b) (four b) y v yp (b / 2 ^ 52 % 2048) (field_le b) (eq_trans_f y (frac (val b) 0 (2 ^ 1074)) (frac ((b % 2 ^ 52 + 2 ^ 52) * 2048 * 2 ^ (b / 2 ^ 52 % 2048)) 0 (2 ^ 63 * 2 ^ 1023)) (lit< tt) given same) value
  where
    large : (b : ℕ) → 2 ^ 63 ≤ (b % 2 ^ 52 + 2 ^ 52) * 2048
    large b = omega arith

    fit : (b : ℕ) → (b % 2 ^ 52 + 2 ^ 52) * 2048 < 2 ^ 64
    fit b = omega arith

    four : (b : ℕ) → (b % 2 ^ 52 + 2 ^ 52) * 2048 % 4 ≡ 0
    four b = omega arith

    field_le : (b : ℕ) → b / 2 ^ 52 % 2048 ≤ 2047
    field_le b = omega arith

    field : (b : ℕ) → 4503599627370496 ≤ b → b < 9218868437227405312 → b / 2 ^ 52 % 2048 ≡ b / 4503599627370496 - 1 + 1
    field b h k = omega arith

    -- 2 ^ 12 more on both sides
    numbers : (t f : ℕ) → (t + 2 ^ 52) * 2048 * (f * 2) ≡ (2 ^ 52 + t) * f * 4096
    numbers t f = ap (λ (x : ℕ). x * 2048 * (f * 2)) (add_comm t (2 ^ 52)) ∙ go (2 ^ 52 + t) f 2048 2
      where
        go : (x f a b : ℕ) → x * a * (f * b) ≡ x * f * (a * b)
        go x f a b = simp ac

    same : eq_f (frac (val b) 0 (2 ^ 1074)) (frac ((b % 2 ^ 52 + 2 ^ 52) * 2048 * 2 ^ (b / 2 ^ 52 % 2048)) 0 (2 ^ 63 * 2 ^ 1023))
    same =
        subst (λ (x : ℕ). eq_f (frac (val b) 0 (2 ^ 1074)) (frac x 0 (2 ^ 1074 * 4096)))
        (sym (ap (λ (x : ℕ). (b % 2 ^ 52 + 2 ^ 52) * 2048 * 2 ^ x) (field b lo hi) ∙ ap (λ (x : ℕ). (b % 2 ^ 52 + 2 ^ 52) * 2048 * x) (pow-add 2 (b / 4503599627370496 - 1) 1) ∙ numbers (b % 2 ^ 52) (2 ^ (b / 4503599627370496 - 1))))
        (eq_sym_f (frac (val b * 4096) 0 (2 ^ 1074 * 4096)) (frac (val b) 0 (2 ^ 1074)) (cancel (val b) (2 ^ 1074) 4096))

-- the bits of a number that `ln` takes
least_positive : T (positive (of_bits binary64 0x0010_0000_0000_0000))
unfolding of_bits
least_positive = tt

largest_positive : T (positive (of_bits binary64 0x7fef_ffff_ffff_ffff))
unfolding of_bits
largest_positive = tt

pub taken_bits : (x : Float) → T (fits binary64 x) → T (ln_inside x) → (4503599627370496 ≤ to_bits binary64 x) × (to_bits binary64 x < 9218868437227405312)
taken_bits x f t =
    let l = and_l (le (of_bits binary64 0x0010_0000_0000_0000) x) (le x (of_bits binary64 0x7fef_ffff_ffff_ffff)) t in
    let p = between (of_bits binary64 0x0010_0000_0000_0000) x (of_bits binary64 0x7fef_ffff_ffff_ffff) least_positive largest_positive l (and_r (le (of_bits binary64 0x0010_0000_0000_0000) x) (le x (of_bits binary64 0x7fef_ffff_ffff_ffff)) t) in
    (bits_from x f p 4503599627370496 (lit≤ tt) (lit< tt) l, positive_bits x f p)

-- THE THEOREM: for every f64 that `ln` takes, what it holds is finite and within 2 ^ -48 of every value in document 01's bracket of its logarithm
pub ln_near : (x : Float) → T (fits binary64 x) → (r : Float) → ln_of x ≡ held r → (v : Frac) → LnValue (val_f x) v → Close (within (2 ^ 48)) r v
unfolding ln_of
ln_near x f r e v value = go (ln_inside x) refl e
  where
    never : refused 6 ≡ held r → ⊥
    never e = let z : ◌≡◌ {A = ℕ} 0 1 = cc in omega arith

    same : held (ln_bits (to_bits binary64 x)) ≡ held r → ln_bits (to_bits binary64 x) ≡ r
    same e = cc

    go : (t : Bool) → ln_inside x ≡ t → cond t (held (ln_bits (to_bits binary64 x))) (refused 6) ≡ held r → Close (within (2 ^ 48)) r v
    go false q e = absurd (never e)
    go true q e =
        let b = taken_bits x f (subst T (sym q) tt) in
        subst (λ (z : Float). Close (within (2 ^ 48)) z v) (same e)
        (bits_near (to_bits binary64 x) b.0 b.1 (val_f x) v (val_f_pos x) (value_is x false (val (to_bits binary64 x)) (2 ^ 1074) (normal_value x f b.0 b.1)) value)
