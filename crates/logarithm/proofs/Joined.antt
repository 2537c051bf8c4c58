-- `join` keeps document 01's distance from every value of the logarithm, whatever numbers its parts were made of. Assumes nothing.
use mathlib.Core.Path.{◌≡◌, refl, sym, ap, ◌∙◌, subst}
use mathlib.Core.Logic.{◌⊎◌, inl, inr}
use mathlib.Core.Bool.{Bool, true, false, cond}
use Prim.Native.Nat.{ℕ, ◌+◌, ◌-◌, ◌*◌, ◌/◌, ◌^◌, ◌≤◌, ◌<◌}
use native.Mathlib.Nat.{le_refl, le_trans, le_of_eq, le_of_lt, lt_of_lt_of_le, lt_of_not-le, mul_comm, mul_assoc, add-mul, one-mul, zero-mul, add-zero, mul-le-mul_left, mul-le-mul_right, div-mul-le_self, lt-div-mul-add, mul-pos, eq-zero-or-pos, eq_of_mul-eq-mul_right, le_antisymm, one-le-pow}
use native.Mathlib.Decide.{dec_le}
use native.Mathlib.Omega.{arith}
use lib.Dec.{lit<, lit≤}
use lib.Pow.{pow_pos, pow-add}
use lib.Ieee.{binary64, of_bits}
use borrow.Author.Tests.{eq-eqb, ne_eqb, lt-ltb, le-ltb}
use Rattle.number.specs.Frac.{Frac, frac, Pos, le_f, neg_f, add_f, sub_f, mul_f, sgn, val_f}
use Rattle.number.proofs.Frac.{le_trans_f, add_mono_f, neg_anti_f, add_f_pos, mul_f_pos, sgn_pos}
use Rattle.fixed_point.specs.Pack.{packed}
use Rattle.fixed_point.proofs.Horner.{ac}
use Rattle.fixed_point.proofs.Polynomial.{hom}
use Rattle.logarithm.proofs.CoreBounds.{common, tops}
use Rattle.std.specs.Int.{from_bool}
use Rattle.fixed_point.proofs.Packed.{size, packed_value, packed_up, packed_down}
use Rattle.series.specs.Sums.{eq_f, pow_f, sum_f}
use Rattle.series.specs.Exact.{twice_odds, odd_tail, ln2_low, ln2_high, times_low, times_high, z_of, LnValue}
use Rattle.series.specs.Distance.{within}
use Rattle.series.proofs.Close.{Close, value_finite}
use Rattle.logarithm.specs.Logarithm.{multiple, far, join}
use Rattle.logarithm.proofs.Fractions.{eq_refl_f, value_is}
use Rattle.logarithm.proofs.Near.{Low, High, rounded_near, zero_near}
use Rattle.logarithm.proofs.Ranges.{multiple_lo, multiple_hi}
use Rattle.logarithm.proofs.Split.{Exponent, Part, split, z_is, z_pos}
use Rattle.logarithm.proofs.OddSeries.{whole, twice_is, twice_cong, tail_small}
use Rattle.logarithm.proofs.Bracket.{low_of, high_of, sum_below, sum_above, part_low, part_high, bracket_pos, times_low_is, times_high_is, times_low_neg, times_high_neg}

-- ---- a number y in units 1 / E = 1 / (2 ^ 11 m), packed
pub packed_near : (s : Bool) (v : Frac) (y e E m d : ℕ) → 0 < y → y < 2 ^ 64 → 64 ≤ e → e ≤ 2044 → 0 < E → 2 ^ e * m ≡ 2 ^ 1074 → 2048 * m ≡ E → 2 ^ 49 * d ≤ y → Low s (y - d) E v → High s (y + d) E v
    → Close (within (2 ^ 48)) (packed (from_bool s) y e) v
packed_near s v y e E m d yp yf el eh ep em me far l u =
    let value = packed_value s y e yp yf eh in (
      value_finite (packed (from_bool s) y e) s (size y e) (2 ^ 1074) value,
      rounded_near s (val_f (packed (from_bool s) y e)) v y d (size y e) (2 ^ 1074) E (pow_pos 1074) ep (value_is (packed (from_bool s) y e) s (size y e) (2 ^ 1074) value)
          (le_trans (le_of_eq (a (size y e) (2 ^ 53) m E me)) (le_trans (mul-le-mul_right m (packed_up y e yp yf el)) (le_of_eq (b y (2 ^ e) (2 ^ 53 + 1) m (2 ^ 1074) em))))
          (le_trans (le_of_eq (sym (b y (2 ^ e) (2 ^ 53 - 1) m (2 ^ 1074) em))) (le_trans (mul-le-mul_right m (packed_down y e yp yf el)) (le_of_eq (sym (a (size y e) (2 ^ 53) m E me)))))
          far l u,
    )
  where
    a : (x t m E : ℕ) → 2048 * m ≡ E → x * E * t ≡ x * 2048 * t * m
    a x t m E h = ap (λ (z : ℕ). x * z * t) (sym h) ∙ go x t m 2048
      where
        go : (x t m c : ℕ) → x * (c * m) * t ≡ x * c * t * m
        go x t m c = simp ac

    b : (y f t m C : ℕ) → f * m ≡ C → y * f * t * m ≡ y * t * C
    b y f t m C h = go y f t m ∙ ap (λ (z : ℕ). y * t * z) h
      where
        go : (y f t m : ℕ) → y * f * t * m ≡ y * t * (f * m)
        go y f t m = simp ac

-- ---- the part of w over 2 ^ 54, with c for r / G; E is B G
abbrev low54 : Bool → ℕ → ℕ → Frac
low54 false c B = frac c 1 B
low54 true c B = frac 0 (c + 2) B

abbrev high54 : Bool → ℕ → ℕ → Frac
high54 false c B = frac (c + 2) 0 B
high54 true c B = frac 1 c B

module _ (r c B G : ℕ) (lo : c * G ≤ r) (hi : r < c * G + G) (unit : 111 ≤ G) where
  up : (r + 111) * B ≤ (c + 2) * (B * G)
  up = le_trans (mul-le-mul_right B (lin r (c * G) G hi unit)) (le_of_eq (t c G B))
    where
      lin : (r x g : ℕ) → r < x + g → 111 ≤ g → r + 111 ≤ x + 2 * g
      lin r x g h k = omega arith

      t : (c g b : ℕ) → (c * g + 2 * g) * b ≡ (c + 2) * (b * g)
      t c g b = ap (λ (z : ℕ). z * b) (sym (add-mul c 2 g)) ∙ go (c + 2) g b
        where
          go : (x g b : ℕ) → x * g * b ≡ x * (b * g)
          go x g b = simp ac

  down : c * (B * G) + 3 * B ≤ r * B + 1 * (B * G)
  down = le_trans (le_of_eq (t c G B)) (le_trans (mul-le-mul_right B (lin r (c * G) G lo unit)) (le_of_eq (t' r G B)))
    where
      lin : (r x g : ℕ) → x ≤ r → 111 ≤ g → x + 3 ≤ r + g
      lin r x g h k = omega arith

      t : (c g b : ℕ) → c * (b * g) + 3 * b ≡ (c * g + 3) * b
      t c g b = sym (add-mul (c * g) 3 b ∙ ap (λ (z : ℕ). z + 3 * b) (go c g b))
        where
          go : (x g b : ℕ) → x * g * b ≡ x * (b * g)
          go x g b = simp ac

      t' : (r g b : ℕ) → (r + g) * b ≡ r * b + 1 * (b * g)
      t' r g b = add-mul r g b ∙ ap (λ (z : ℕ). r * b + z) (mul_comm g b ∙ sym (one-mul (b * g)))

  to54_low : (s : Bool) → le_f (low54 s c B) (low_of s r (B * G))
  to54_low false = down
  to54_low true = go ((r + 111) * B) ((c + 2) * (B * G)) (B * G) B up
    where
      go : (a b x y : ℕ) → a ≤ b → 0 * x + a ≤ 0 * y + b
      go a b x y h = omega arith

  to54_high : (s : Bool) → le_f (high_of s r (B * G)) (high54 s c B)
  to54_high false = go ((r + 111) * B) ((c + 2) * (B * G)) (B * G) B up
    where
      go : (a b x y : ℕ) → a ≤ b → a + 0 * x ≤ b + 0 * y
      go a b x y h = omega arith
  to54_high true = go (c * (B * G)) (3 * B) (r * B) (1 * (B * G)) down
    where
      go : (a b x y : ℕ) → a + b ≤ x + y → b + a ≤ y + x
      go a b x y h = omega arith

-- ---- k ln 2 over 2 ^ 54, a units
abbrev low_k : Bool → ℕ → ℕ → Frac
low_k false a B = frac a 0 B
low_k true a B = frac 0 (a + 2) B

abbrev high_k : Bool → ℕ → ℕ → Frac
high_k false a B = frac (a + 2) 0 B
high_k true a B = frac 0 a B

-- the sum of the two, for both signs of each
module _ (v : Frac) (a c : ℕ) (more : 2 ^ 53 + 2 ^ 51 ≤ a) (less : c ≤ 2 ^ 53) (fits : a ≤ 13000000000000000000) where
  abbrev B : ℕ
  B = 2 ^ 54

  B2 : 0 < 2 ^ 54 * 2 ^ 54
  B2 = lit< tt

  abbrev total : Bool → Bool → ℕ
  total false false = a + c
  total false true = a - c
  total true false = a - c
  total true true = a + c

  total_lo : (g s : Bool) → 2 ^ 49 * 4 ≤ total g s
  total_lo false false = omega arith
  total_lo false true = omega arith
  total_lo true false = omega arith
  total_lo true true = omega arith

  total_pos : (g s : Bool) → 0 < total g s
  total_pos g s = lt_of_lt_of_le (lit< tt) (total_lo g s)

  total_hi : (g s : Bool) → total g s < 2 ^ 64
  total_hi false false = omega arith
  total_hi false true = omega arith
  total_hi true false = omega arith
  total_hi true true = omega arith

  low_end : (g s : Bool) → le_f (add_f (low54 s c B) (low_k g a B)) v → le_f v (add_f (high54 s c B) (high_k g a B)) → Low g (total g s - 4) B v
  low_end false false l h = le_trans_f (frac (a + c - 4) 0 B) (add_f (frac c 1 B) (frac a 0 B)) v B2 (sum_below (a + c - 4) 0 c 1 a 0 B (omega arith)) l
  low_end false true l h = le_trans_f (frac (a - c - 4) 0 B) (add_f (frac 0 (c + 2) B) (frac a 0 B)) v B2 (sum_below (a - c - 4) 0 0 (c + 2) a 0 B (omega arith)) l
  low_end true false l h = le_trans_f v (add_f (frac (c + 2) 0 B) (frac 0 a B)) (frac 0 (a - c - 4) B) B2 h (sum_above 0 (a - c - 4) (c + 2) 0 0 a B (omega arith))
  low_end true true l h = le_trans_f v (add_f (frac 1 c B) (frac 0 a B)) (frac 0 (a + c - 4) B) B2 h (sum_above 0 (a + c - 4) 1 c 0 a B (omega arith))

  high_end : (g s : Bool) → le_f (add_f (low54 s c B) (low_k g a B)) v → le_f v (add_f (high54 s c B) (high_k g a B)) → High g (total g s + 4) B v
  high_end false false l h = le_trans_f v (add_f (frac (c + 2) 0 B) (frac (a + 2) 0 B)) (frac (a + c + 4) 0 B) B2 h (sum_above (a + c + 4) 0 (c + 2) 0 (a + 2) 0 B (omega arith))
  high_end false true l h = le_trans_f v (add_f (frac 1 c B) (frac (a + 2) 0 B)) (frac (a - c + 4) 0 B) B2 h (sum_above (a - c + 4) 0 1 c (a + 2) 0 B (omega arith))
  high_end true false l h = le_trans_f (frac 0 (a - c + 4) B) (add_f (frac c 1 B) (frac 0 (a + 2) B)) v B2 (sum_below 0 (a - c + 4) c 1 0 (a + 2) B (omega arith)) l
  high_end true true l h = le_trans_f (frac 0 (a + c + 4) B) (add_f (frac 0 (c + 2) B) (frac 0 (a + 2) B)) v B2 (sum_below 0 (a + c + 4) 0 (c + 2) 0 (a + 2) B (omega arith)) l

  total_near : (g s : Bool) → le_f (add_f (low54 s c B) (low_k g a B)) v → le_f v (add_f (high54 s c B) (high_k g a B)) → Close (within (2 ^ 48)) (packed (from_bool g) (total g s) 1031) v
  total_near g s l h = packed_near g v (total g s) 1031 B (2 ^ 43) 4 (total_pos g s) (total_hi g s) (lit≤ tt) (lit≤ tt) (lit< tt) (sym (pow-add 2 1031 43)) refl (total_lo g s) (low_end g s l h) (high_end g s l h)

-- `far` packs that sum
pub far_near : (g s : Bool) (k r sh : ℕ) (v : Frac) → 0 < k → k ≤ 1025 → r / 2 ^ (sh + 8) ≤ 2 ^ 53
    → le_f (add_f (low54 s (r / 2 ^ (sh + 8)) (2 ^ 54)) (low_k g (multiple k) (2 ^ 54))) v → le_f v (add_f (high54 s (r / 2 ^ (sh + 8)) (2 ^ 54)) (high_k g (multiple k) (2 ^ 54)))
    → Close (within (2 ^ 48)) (far (from_bool g) k (from_bool s) r sh) v
unfolding far
far_near false false k r sh v p q m l h = total_near v (multiple k) (r / 2 ^ (sh + 8)) (multiple_lo k p) m (multiple_hi k q) false false l h
far_near false true k r sh v p q m l h = total_near v (multiple k) (r / 2 ^ (sh + 8)) (multiple_lo k p) m (multiple_hi k q) false true l h
far_near true false k r sh v p q m l h = total_near v (multiple k) (r / 2 ^ (sh + 8)) (multiple_lo k p) m (multiple_hi k q) true false l h
far_near true true k r sh v p q m l h = total_near v (multiple k) (r / 2 ^ (sh + 8)) (multiple_lo k p) m (multiple_hi k q) true true l h

-- ---- k ln 2 by the exponent e = k + 1023
none_numbers : (p n d E : ℕ) → 0 * (1 * d) + (0 * n + 0 * p) * E ≤ (0 * p + 0 * n) * E + 0 * (1 * d)
none_numbers p n d E = simp (zero-mul, add-zero) (le_refl 0)

none_numbers' : (p n d E : ℕ) → (0 * p + 0 * n) * E + 0 * (1 * d) ≤ 0 * (1 * d) + (0 * n + 0 * p) * E
none_numbers' p n d E = simp (zero-mul, add-zero) (le_refl 0)

none_below : (neg : Bool) (x : Frac) (E : ℕ) → le_f (frac 0 0 E) (mul_f (sgn neg 0 1) x)
none_below false (frac p n d) E = none_numbers p n d E
none_below true (frac p n d) E = none_numbers p n d E

none_above : (neg : Bool) (x : Frac) (E : ℕ) → le_f (mul_f (sgn neg 0 1) x) (frac 0 0 E)
none_above false (frac p n d) E = none_numbers' p n d E
none_above true (frac p n d) E = none_numbers' p n d E

at_one : (neg : Bool) (k e E : ℕ) → Exponent neg k e → e ≡ 1023 → le_f (frac 0 0 E) (times_low neg k) × le_f (times_high neg k) (frac 0 0 E)
at_one neg k e E h q = subst (λ (j : ℕ). le_f (frac 0 0 E) (times_low neg j) × le_f (times_high neg j) (frac 0 0 E)) (sym (zero_of neg h)) (none_below neg (cond neg ln2_high ln2_low) E, none_above neg (cond neg ln2_low ln2_high) E)
  where
    zero_of : (neg : Bool) → Exponent neg k e → k ≡ 0
    zero_of false h = omega arith
    zero_of true h = omega arith

above_one : (neg : Bool) (k e : ℕ) → Exponent neg k e → 1023 < e → e ≤ 2048 → le_f (low_k false (multiple (e - 1023)) (2 ^ 54)) (times_low neg k) × le_f (times_high neg k) (high_k false (multiple (e - 1023)) (2 ^ 54))
above_one true k e h p q = absurd (no h p)
  where
    no : e + k ≡ 1023 → 1023 < e → ⊥
    no h p = omega arith
above_one false k e h p q = subst (λ (j : ℕ). le_f (low_k false (multiple j) (2 ^ 54)) (times_low false k) × le_f (times_high false k) (high_k false (multiple j) (2 ^ 54))) (same k e h) (times_low_is k (few k e h q), times_high_is k (few k e h q))
  where
    same : (k e : ℕ) → k + 1023 ≡ e → k ≡ e - 1023
    same k e h = omega arith

    few : (k e : ℕ) → k + 1023 ≡ e → e ≤ 2048 → k ≤ 1025
    few k e h q = omega arith

below_one : (neg : Bool) (k e : ℕ) → Exponent neg k e → e < 1023 → le_f (low_k true (multiple (1023 - e)) (2 ^ 54)) (times_low neg k) × le_f (times_high neg k) (high_k true (multiple (1023 - e)) (2 ^ 54))
below_one false k e h p = absurd (no h p)
  where
    no : k + 1023 ≡ e → e < 1023 → ⊥
    no h p = omega arith
below_one true k e h p = subst (λ (j : ℕ). le_f (low_k true (multiple j) (2 ^ 54)) (times_low true k) × le_f (times_high true k) (high_k true (multiple j) (2 ^ 54))) (same k e h) (times_low_neg k (few k e h), times_high_neg k (few k e h))
  where
    same : (k e : ℕ) → e + k ≡ 1023 → k ≡ 1023 - e
    same k e h = omega arith

    few : (k e : ℕ) → e + k ≡ 1023 → k ≤ 1025
    few k e h = omega arith

ln2_pos : Pos ln2_low × Pos ln2_high
unfolding ln2_low ln2_high twice_odds odd_tail sum_f pow_f
ln2_pos = (lit< tt, lit< tt)

pub times_pos : (neg : Bool) (k : ℕ) → Pos (times_low neg k) × Pos (times_high neg k)
times_pos false k = (mul_f_pos (frac k 0 1) ln2_low (lit< tt) ln2_pos.0, mul_f_pos (frac k 0 1) ln2_high (lit< tt) ln2_pos.1)
times_pos true k = (mul_f_pos (frac 0 k 1) ln2_high (lit< tt) ln2_pos.1, mul_f_pos (frac 0 k 1) ln2_low (lit< tt) ln2_pos.0)

-- ---- the law of `join`. w is u / o = (o + n) / o, or (o - n) / o where s is true; r units 1 / (2 ^ 62 S) come near to twice the series at n / (u + o)
pub record Parts (s : Bool) (n o u S r : ℕ) : Type 0 where
  pub whole_one : 0 < o
  pub part : Part s u n o
  pub low : 2 * o ≤ 3 * u
  pub high : 3 * u < 4 * o
  pub denominator : 0 < u + o
  pub scale : 0 < S
  pub few : n * S ≤ u + o
  pub near_low : r * (whole n (u + o) denominator).q ≤ 2 ^ 63 * S * (whole n (u + o) denominator).p + 2 * (whole n (u + o) denominator).q
  pub near_high : 2 ^ 63 * S * (whole n (u + o) denominator).p ≤ (r + 110) * (whole n (u + o) denominator).q

-- and what `join` asks of r
pub record Joins (n sh r : ℕ) : Type 0 where
  pub shift : sh < 64
  pub fits : r < 2 ^ 64
  pub small : r / 2 ^ (sh + 8) ≤ 2 ^ 53
  pub big : 0 < n → 2 ^ 59 ≤ r
  pub none : n ≡ 0 → r ≡ 0

module _ (s : Bool) (n o u S r : ℕ) (h : Parts s n o u S r) (y v : Frac) (yp : Pos y) (e : ℕ) (eh : e ≤ 2048) (given : eq_f y (frac (u * 2 ^ e) 0 (o * 2 ^ 1023))) (value : LnValue y v) where
  wp : Pos value.w
  wp = value.proper.1

  way : Exponent value.neg value.k e × eq_f value.w (frac u 0 o)
  way = split u o e h.whole_one h.low h.high y yp given value.neg value.k value.w wp value.splits value.range.0 value.range.1

  abbrev z : Frac
  z = z_of value.w

  z_same : eq_f z (sgn s n (u + o))
  z_same = z_is s value.w wp u n o h.whole_one h.part way.1

  zp : Pos z
  zp = z_pos s value.w wp u n o h.whole_one h.part way.1

  five : 5 * n ≤ u + o
  five = go s h.part
    where
      go : (s : Bool) → Part s u n o → 5 * n ≤ u + o
      go false p = omega (arith, p, h.high)
      go true p = omega (arith, p, h.low)

  abbrev E : ℕ
  E = 2 ^ 62 * S

  low : le_f (low_of s r E) (sub_f (twice_odds 24 z) (odd_tail 24 z))
  low = part_low s z n (u + o) S r zp h.denominator h.scale five z_same h.few h.near_low h.near_high

  high : le_f (add_f (twice_odds 24 z) (odd_tail 24 z)) (high_of s r E)
  high = part_high s z n (u + o) S r zp h.denominator h.scale five z_same h.few h.near_low h.near_high

  ends_pos : Pos (sub_f (twice_odds 24 z) (odd_tail 24 z)) × Pos (add_f (twice_odds 24 z) (odd_tail 24 z))
  ends_pos = bracket_pos s z n (u + o) S r zp h.denominator h.scale five z_same h.few h.near_low h.near_high

  from_low : (a c : Frac) → le_f a (sub_f (twice_odds 24 z) (odd_tail 24 z)) → le_f c (times_low value.neg value.k) → le_f (add_f a c) v
  from_low a c p q =
      le_trans_f (add_f a c) (add_f (sub_f (twice_odds 24 z) (odd_tail 24 z)) (times_low value.neg value.k)) v (add_f_pos (sub_f (twice_odds 24 z) (odd_tail 24 z)) (times_low value.neg value.k) ends_pos.0 (times_pos value.neg value.k).0)
      (add_mono_f a (sub_f (twice_odds 24 z) (odd_tail 24 z)) c (times_low value.neg value.k) p q) value.low

  from_high : (a c : Frac) → le_f (add_f (twice_odds 24 z) (odd_tail 24 z)) a → le_f (times_high value.neg value.k) c → le_f v (add_f a c)
  from_high a c p q =
      le_trans_f v (add_f (add_f (twice_odds 24 z) (odd_tail 24 z)) (times_high value.neg value.k)) (add_f a c) (add_f_pos (add_f (twice_odds 24 z) (odd_tail 24 z)) (times_high value.neg value.k) ends_pos.1 (times_pos value.neg value.k).1)
      value.high (add_mono_f (add_f (twice_odds 24 z) (odd_tail 24 z)) a (times_high value.neg value.k) c p q)

  -- in units of 1 / E: e is 1023
  EE : 0 < E * E
  EE = mul-pos (mul-pos {m = 2 ^ 62} (lit< tt) h.scale) (mul-pos {m = 2 ^ 62} (lit< tt) h.scale)

  module _ (p : e ≡ 1023) (large : 2 ^ 59 ≤ r) where
    t : le_f (frac 0 0 E) (times_low value.neg value.k) × le_f (times_high value.neg value.k) (frac 0 0 E)
    t = at_one value.neg value.k e E way.0 p

    below : le_f (add_f (low_of s r E) (frac 0 0 E)) v
    below = from_low (low_of s r E) (frac 0 0 E) low t.0

    above : le_f v (add_f (high_of s r E) (frac 0 0 E))
    above = from_high (high_of s r E) (frac 0 0 E) high t.1

    less_low : (r : ℕ) → 2 ^ 59 ≤ r → r - 111 + 3 + 0 ≤ r + 0 + 0
    less_low r h = omega arith

    three_more : (r : ℕ) → 2 ^ 59 ≤ r → 3 + 0 + (r - 111) ≤ 0 + r + 0
    three_more r h = omega arith

    low_end' : (s : Bool) → le_f (add_f (low_of s r E) (frac 0 0 E)) v → le_f v (add_f (high_of s r E) (frac 0 0 E)) → Low s (r - 111) E v
    low_end' false a b = le_trans_f (frac (r - 111) 0 E) (add_f (frac r 3 E) (frac 0 0 E)) v EE (sum_below (r - 111) 0 r 3 0 0 E (less_low r large)) a
    low_end' true a b = le_trans_f v (add_f (frac 3 r E) (frac 0 0 E)) (frac 0 (r - 111) E) EE b (sum_above 0 (r - 111) 3 r 0 0 E (three_more r large))

    high_end' : (s : Bool) → le_f (add_f (low_of s r E) (frac 0 0 E)) v → le_f v (add_f (high_of s r E) (frac 0 0 E)) → High s (r + 111) E v
    high_end' false a b = le_trans_f v (add_f (frac (r + 111) 0 E) (frac 0 0 E)) (frac (r + 111) 0 E) EE b (sum_above (r + 111) 0 (r + 111) 0 0 0 E (le_refl (r + 111 + 0 + 0)))
    high_end' true a b = le_trans_f (frac 0 (r + 111) E) (add_f (frac 0 (r + 111) E) (frac 0 0 E)) v EE (sum_below 0 (r + 111) 0 (r + 111) 0 0 E (same r)) a
      where
        same : (r : ℕ) → 0 + (r + 111) + 0 ≤ 0 + 0 + (r + 111)
        same r = omega arith

    pub one_low : Low s (r - 111) E v
    one_low = low_end' s below above

    pub one_high : High s (r + 111) E v
    one_high = high_end' s below above

  -- w is 1
  module _ (p : e ≡ 1023) (n0 : n ≡ 0) where
    sum_none : (whole n (u + o) h.denominator).p ≡ 0
    sum_none =
        eq_of_mul-eq-mul_right K K-pos (whole n (u + o) h.denominator).p 0
        ((whole n (u + o) h.denominator).closed ∙ gone n (hom (tops 0 24) (n * n) ((u + o) * (u + o))) ((u + o) * (u + o)) (whole n (u + o) h.denominator).q n0 ∙ sym (zero-mul K))
      where
        K : ℕ
        K = common * (u + o) * ((u + o) * (u + o)) ^ 24

        K-pos : 0 < common * (u + o) * ((u + o) * (u + o)) ^ 24
        K-pos = mul-pos (mul-pos {m = common} (lit< tt) h.denominator) (one-le-pow 24 ((u + o) * (u + o)) (mul-pos h.denominator h.denominator))

        gone : (n h d q : ℕ) → n ≡ 0 → n * h * d * q ≡ 0
        gone n h d q e = ap (λ (x : ℕ). x * h * d * q) e ∙ rw (zero-mul, zero-mul, zero-mul)

    twice_none : eq_f (twice_odds 24 z) (sgn s 0 (1 * (whole n (u + o) h.denominator).q))
    twice_none = subst (eq_f (twice_odds 24 z)) (twice_is n (u + o) h.denominator s ∙ ap (λ (x : ℕ). sgn s (2 * x) (1 * (whole n (u + o) h.denominator).q)) sum_none) (twice_cong z (sgn s n (u + o)) z_same)

    nothing : (s : Bool) (q : ℕ) → le_f (frac 0 0 1) (sgn s 0 q) × le_f (sgn s 0 q) (frac 0 0 1)
    nothing false q = (omega arith, omega arith)
    nothing true q = (omega arith, omega arith)

    q_pos : Pos (sgn s 0 (1 * (whole n (u + o) h.denominator).q))
    q_pos = sgn_pos s 0 (1 * (whole n (u + o) h.denominator).q) (mul-pos {m = 1} (lit< tt) (whole n (u + o) h.denominator).positive)

    tail_none : le_f (odd_tail 24 z) (frac 0 0 1)
    tail_none = le_trans_f (odd_tail 24 z) (frac n 0 ((u + o) * 2 ^ 100)) (frac 0 0 1) (mul-pos {n = 2 ^ 100} h.denominator (lit< tt)) (tail_small s z n (u + o) zp h.denominator five z_same) (go n ((u + o) * 2 ^ 100) n0)
      where
        go : (n d : ℕ) → n ≡ 0 → n * 1 + 0 * d ≤ 0 * d + 0 * 1
        go n d h = omega arith

    least : le_f (frac 0 0 1) (sub_f (twice_odds 24 z) (odd_tail 24 z))
    least = add_mono_f (frac 0 0 1) (twice_odds 24 z) (frac 0 0 1) (neg_f (odd_tail 24 z)) (le_trans_f (frac 0 0 1) (sgn s 0 (1 * (whole n (u + o) h.denominator).q)) (twice_odds 24 z) q_pos (nothing s (1 * (whole n (u + o) h.denominator).q)).0 twice_none.1) (neg_anti_f (odd_tail 24 z) (frac 0 0 1) tail_none)

    most : le_f (add_f (twice_odds 24 z) (odd_tail 24 z)) (frac 0 0 1)
    most = add_mono_f (twice_odds 24 z) (frac 0 0 1) (odd_tail 24 z) (frac 0 0 1) (le_trans_f (twice_odds 24 z) (sgn s 0 (1 * (whole n (u + o) h.denominator).q)) (frac 0 0 1) q_pos twice_none.0 (nothing s (1 * (whole n (u + o) h.denominator).q)).1) tail_none

    pub none_near : (x : Frac) → eq_f x (frac 0 0 1) → within (2 ^ 48) x v
    none_near x same =
        let t = at_one value.neg value.k e 1 way.0 p in
        zero_near (2 ^ 48) 281474976710655 refl x v same (from_low (frac 0 0 1) (frac 0 0 1) least t.0) (from_high (frac 0 0 1) (frac 0 0 1) most t.1)

  module _ (sh : ℕ) (scale_is : 2 ^ sh ≡ S) (j : Joins n sh r) where
    -- in units of 2 ^ -54
    abbrev c : ℕ
    c = r / 2 ^ (sh + 8)

    abbrev G : ℕ
    G = 2 ^ 8 * S

    G-is : 2 ^ (sh + 8) ≡ G
    G-is = pow-add 2 sh 8 ∙ mul_comm (2 ^ sh) (2 ^ 8) ∙ ap (λ (x : ℕ). 2 ^ 8 * x) scale_is

    c_lo : c * G ≤ r
    c_lo = subst (λ (x : ℕ). c * x ≤ r) G-is (div-mul-le_self r (2 ^ (sh + 8)))

    c_hi : r < c * G + G
    c_hi = subst (λ (x : ℕ). r < c * x + x) G-is (lt-div-mul-add {a = r} {b = 2 ^ (sh + 8)} (pow_pos (sh + 8)))

    unit : 111 ≤ G
    unit = le_trans (lit≤ tt) (mul-le-mul_left (2 ^ 8) h.scale)

    E-is : 2 ^ 54 * G ≡ E
    E-is = sym (mul_assoc (2 ^ 54) (2 ^ 8) S)

    low_54 : le_f (low54 s c (2 ^ 54)) (sub_f (twice_odds 24 z) (odd_tail 24 z))
    low_54 = le_trans_f (low54 s c (2 ^ 54)) (low_of s r E) (sub_f (twice_odds 24 z) (odd_tail 24 z)) (low_of_pos s) (subst (λ (x : ℕ). le_f (low54 s c (2 ^ 54)) (low_of s r x)) E-is (to54_low r c (2 ^ 54) G c_lo c_hi unit s)) low
      where
        low_of_pos : (s : Bool) → Pos (low_of s r E)
        low_of_pos false = mul-pos {m = 2 ^ 62} (lit< tt) h.scale
        low_of_pos true = mul-pos {m = 2 ^ 62} (lit< tt) h.scale

    high_54 : le_f (add_f (twice_odds 24 z) (odd_tail 24 z)) (high54 s c (2 ^ 54))
    high_54 = le_trans_f (add_f (twice_odds 24 z) (odd_tail 24 z)) (high_of s r E) (high54 s c (2 ^ 54)) (high_of_pos s) high (subst (λ (x : ℕ). le_f (high_of s r x) (high54 s c (2 ^ 54))) E-is (to54_high r c (2 ^ 54) G c_lo c_hi unit s))
      where
        high_of_pos : (s : Bool) → Pos (high_of s r E)
        high_of_pos false = mul-pos {m = 2 ^ 62} (lit< tt) h.scale
        high_of_pos true = mul-pos {m = 2 ^ 62} (lit< tt) h.scale

    above_near : 1023 < e → Close (within (2 ^ 48)) (far 0 (e - 1023) (from_bool s) r sh) v
    above_near p =
        let t = above_one value.neg value.k e way.0 p eh in
        far_near false s (e - 1023) r sh v (pos e p) (few e eh) j.small (from_low (low54 s c (2 ^ 54)) (low_k false (multiple (e - 1023)) (2 ^ 54)) low_54 t.0) (from_high (high54 s c (2 ^ 54)) (high_k false (multiple (e - 1023)) (2 ^ 54)) high_54 t.1)
      where
        pos : (e : ℕ) → 1023 < e → 0 < e - 1023
        pos e h = omega arith

        few : (e : ℕ) → e ≤ 2048 → e - 1023 ≤ 1025
        few e h = omega arith

    below_near : e < 1023 → Close (within (2 ^ 48)) (far 1 (1023 - e) (from_bool s) r sh) v
    below_near p =
        let t = below_one value.neg value.k e way.0 p in
        far_near true s (1023 - e) r sh v (pos e p) (few e) j.small (from_low (low54 s c (2 ^ 54)) (low_k true (multiple (1023 - e)) (2 ^ 54)) low_54 t.0) (from_high (high54 s c (2 ^ 54)) (high_k true (multiple (1023 - e)) (2 ^ 54)) high_54 t.1)
      where
        pos : (e : ℕ) → e < 1023 → 0 < 1023 - e
        pos e h = omega arith

        few : (e : ℕ) → 1023 - e ≤ 1025
        few e = omega arith

    one_near : e ≡ 1023 → 2 ^ 59 ≤ r → Close (within (2 ^ 48)) (packed (from_bool s) r (1023 - sh)) v
    one_near p large =
        packed_near s v r (1023 - sh) E (2 ^ 51 * S) 111 (lt_of_lt_of_le (lit< tt) large) j.fits (wide sh j.shift) (short sh) (mul-pos {m = 2 ^ 62} (lit< tt) h.scale) powers (sym (mul_assoc 2048 (2 ^ 51) S)) (le_trans (lit≤ tt) large) (one_low p large) (one_high p large)
      where
        wide : (sh : ℕ) → sh < 64 → 64 ≤ 1023 - sh
        wide sh h = omega arith

        short : (sh : ℕ) → 1023 - sh ≤ 2044
        short sh = omega arith

        powers : 2 ^ (1023 - sh) * (2 ^ 51 * S) ≡ 2 ^ 1074
        powers = ap (λ (x : ℕ). 2 ^ (1023 - sh) * (2 ^ 51 * x)) (sym scale_is) ∙ turn (2 ^ (1023 - sh)) (2 ^ 51) (2 ^ sh) ∙ ap (λ (x : ℕ). x * 2 ^ 51) (sym (pow-add 2 (1023 - sh) sh) ∙ ap (λ (x : ℕ). 2 ^ x) (back sh j.shift)) ∙ sym (pow-add 2 1023 51)
          where
            turn : (a b c : ℕ) → a * (b * c) ≡ a * c * b
            turn a b c = simp ac

            back : (sh : ℕ) → sh < 64 → 1023 - sh + sh ≡ 1023
            back sh h = omega arith

    pub join_near : Close (within (2 ^ 48)) (join e (from_bool s) r sh) v
    unfolding join of_bits
    join_near = go (dec_le e 1023) (dec_le 1023 e) (eq-zero-or-pos n)
      where
        not_one : (e : ℕ) → (e ≤ 1023 → ⊥) → e ≡ 1023 → ⊥
        not_one e h q = omega arith

        not_one' : (e : ℕ) → (1023 ≤ e → ⊥) → e ≡ 1023 → ⊥
        not_one' e h q = omega arith

        positive : (r : ℕ) → 2 ^ 59 ≤ r → r ≡ 0 → ⊥
        positive r h q = omega arith

        go : Dec (e ≤ 1023) → Dec (1023 ≤ e) → (n ≡ 0) ⊎ (0 < n) → Close (within (2 ^ 48)) (join e (from_bool s) r sh) v
        go (no a) b m = rw (ne_eqb e 1023 (not_one e a), le-ltb e 1023 (le_of_lt (lt_of_not-le a))) (above_near (lt_of_not-le a))
        go (yes a) (no b) m = rw (ne_eqb e 1023 (not_one' e b), lt-ltb e 1023 (lt_of_not-le b)) (below_near (lt_of_not-le b))
        go (yes a) (yes b) (inl m) = rw (eq-eqb e 1023 (le_antisymm a b), eq-eqb r 0 (j.none m)) (tt, none_near (le_antisymm a b) m (val_f (of_bits binary64 0)) (eq_refl_f (frac 0 0 1)))
        go (yes a) (yes b) (inr m) = rw (eq-eqb e 1023 (le_antisymm a b), ne_eqb r 0 (positive r (j.big m))) (one_near (le_antisymm a b) (j.big m))
