-- Every number that is taken has a logarithm: document 01's bracket is never empty, so the theorems on distance speak of something. Assumes nothing.
use mathlib.Core.Path.{◌≡◌, refl, sym, ap, ◌∙◌, subst}
use mathlib.Core.Bool.{Bool, true, false, cond}
use Prim.Native.Nat.{ℕ, suc, ◌+◌, ◌-◌, ◌*◌, ◌/◌, ◌%◌, ◌^◌, ◌≤◌, ◌<◌}
use native.Mathlib.Nat as Nat
use native.Mathlib.Nat.{le_trans, le_of_lt, lt_of_lt_of_le, lt_of_le_of_lt, lt_of_not-le, mul-pos, pow-suc}
use native.Mathlib.Decide.{dec_le}
use native.Mathlib.Omega.{arith}
use lib.Dec.{T, lit<, lit≤}
use lib.Pow.{pow_pos, pow-add, pow_mono}
use lib.Count.{count_leading_zeros, leading_top}
use lib.Ieee.{Float, binary64, of_bits, to_bits, fits, neg}
use lib.Ieee.Bits.{of_bits-to_bits, to_bits-lt}
use lib.Ieee.Exact.{HasValue}
use Rattle.number.specs.Frac.{Frac, frac, Pos, le_f, zero_f, neg_f, add_f, sub_f, mul_f, sgn, val_f}
use Rattle.number.proofs.Frac.{ring, le_refl_f, le_trans_f, add_mono_f, neg_anti_f, add_f_pos, neg_f_pos}
use Rattle.number.specs.Domain.{ln_inside, ln1p_inside}
use Rattle.fixed_point.proofs.Patterns64.{sign_bit, val, val_mono, bits_is}
use Rattle.std.specs.Int.{from_bool}
use Rattle.fixed_point.proofs.Decode.{small_is, sign_of, normal_value}
use Rattle.series.specs.Sums.{nat_f, eq_f, pow_f, sum_f, scale_f}
use Rattle.series.specs.Exact.{twice_odds, odd_tail, ln2_low, ln2_high, times_low, times_high, z_of, LnValue, Ln1pValue}
use Rattle.series.proofs.Constants.{leb→le_f}
use Rattle.logarithm.proofs.Fractions.{eq_refl_f, eq_sym_f, eq_trans_f, mul_neg_left, value_is}
use Rattle.logarithm.proofs.OddSeries.{twice_pos, tail_pos, tail_above}
use Rattle.logarithm.proofs.Split.{Part, z_is, z_pos}
use Rattle.logarithm.proofs.Bracket.{times_mono}
use Rattle.logarithm.proofs.Joined.{times_pos}
use Rattle.logarithm.proofs.LnNear.{cancel, taken_bits}
use Rattle.logarithm.proofs.PlusNear.{plus_is, range_is, taken_range}

-- ---- the ends are in order
ln2_order : le_f ln2_low ln2_high
unfolding ln2_low ln2_high twice_odds odd_tail sum_f pow_f
ln2_order = leb→le_f ln2_low ln2_high tt

times_order : (neg : Bool) (k : ℕ) → le_f (times_low neg k) (times_high neg k)
times_order false k = times_mono k ln2_low ln2_high ln2_order
times_order true k = subst (λ (x : Frac). le_f x (mul_f (frac 0 k 1) ln2_low)) (sym (mul_neg_left (frac k 0 1) ln2_high)) (subst (le_f (neg_f (mul_f (frac k 0 1) ln2_high))) (sym (mul_neg_left (frac k 0 1) ln2_low)) (neg_anti_f (mul_f (frac k 0 1) ln2_low) (mul_f (frac k 0 1) ln2_high) (times_mono k ln2_low ln2_high ln2_order)))

minus_plus : (x : Frac) → le_f zero_f x → le_f (neg_f x) x
minus_plus x h = le_trans_f (neg_f x) zero_f x (lit< tt) (turn x h) h
  where
    turn : (x : Frac) → le_f zero_f x → le_f (neg_f x) zero_f
    turn (frac p n d) h = neg_anti_f zero_f (frac p n d) h

-- ---- w = u / o, and y = 2 ^ (e - 1023) w
module _ (s : Bool) (n o u : ℕ) (op : 0 < o) (part : Part s u n o) (low : 2 * o ≤ 3 * u) (high : 3 * u < 4 * o) (y : Frac) where
  five : 5 * n ≤ u + o
  five = go s part
    where
      go : (s : Bool) → Part s u n o → 5 * n ≤ u + o
      go false p = omega (arith, p, high)
      go true p = omega (arith, p, low)

  D-pos : 0 < u + o
  D-pos = omega arith

  abbrev w : Frac
  w = frac u 0 o

  abbrev z : Frac
  z = z_of w

  z_same : eq_f z (sgn s n (u + o))
  z_same = z_is s w op u n o op part (eq_refl_f w)

  zp : Pos z
  zp = z_pos s w op u n o op part (eq_refl_f w)

  abbrev low_end : Bool → ℕ → Frac
  low_end neg k = add_f (sub_f (twice_odds 24 z) (odd_tail 24 z)) (times_low neg k)

  value_of : (neg : Bool) (k : ℕ) → eq_f y (scale_f neg k w) → (v : Frac) × LnValue y v
  value_of neg k e = (
    low_end neg k,
    record {
      neg = neg;
      k = k;
      w = w;
      proper = (add_f_pos (sub_f (twice_odds 24 z) (odd_tail 24 z)) (times_low neg k) (add_f_pos (twice_odds 24 z) (neg_f (odd_tail 24 z)) (twice_pos z zp) (neg_f_pos (odd_tail 24 z) (tail_pos s z n (u + o) zp D-pos five z_same))) (times_pos neg k).0, op);
      splits = e;
      range = (from low, to high);
      low = le_refl_f (low_end neg k);
      high = add_mono_f (sub_f (twice_odds 24 z) (odd_tail 24 z)) (add_f (twice_odds 24 z) (odd_tail 24 z)) (times_low neg k) (times_high neg k) (add_mono_f (twice_odds 24 z) (twice_odds 24 z) (neg_f (odd_tail 24 z)) (odd_tail 24 z) (le_refl_f (twice_odds 24 z)) (minus_plus (odd_tail 24 z) (tail_above s z n (u + o) zp D-pos five z_same))) (times_order neg k);
    },
  )
    where
      from : 2 * o ≤ 3 * u → 2 * o + 0 * 3 ≤ u * 3 + 0 * o
      from h = omega arith

      to : 3 * u < 4 * o → u * 3 + 0 * o < 4 * o + 0 * 3
      to h = omega arith

  up : (k : ℕ) → eq_f (frac (u * 2 ^ (k + 1023)) 0 (o * 2 ^ 1023)) (scale_f false k w)
  up k = subst (λ (x : ℕ). eq_f (frac (u * x) 0 (o * 2 ^ 1023)) (scale_f false k w)) (sym (pow-add 2 k 1023)) (go u o (2 ^ k) (2 ^ 1023))
    where
      go : (u o x c : ℕ) → eq_f (frac (u * (x * c)) 0 (o * c)) (frac (x * u + 0 * 0) (x * 0 + 0 * u) (1 * o))
      go u o x c = (simp ring (omega arith), simp ring (omega arith))

  down : (k e : ℕ) → e + k ≡ 1023 → eq_f (frac (u * 2 ^ e) 0 (o * 2 ^ 1023)) (scale_f true k w)
  down k e h = subst (λ (x : ℕ). eq_f (frac (u * 2 ^ e) 0 (o * 2 ^ x)) (scale_f true k w)) h (subst (λ (x : ℕ). eq_f (frac (u * 2 ^ e) 0 (o * x)) (scale_f true k w)) (sym (pow-add 2 e k)) (go u o (2 ^ e) (2 ^ k)))
    where
      go : (u o x c : ℕ) → eq_f (frac (u * x) 0 (o * (x * c))) (frac u 0 (o * c))
      go u o x c = (simp ring (omega arith), simp ring (omega arith))

  has_value : (e : ℕ) → eq_f y (frac (u * 2 ^ e) 0 (o * 2 ^ 1023)) → (v : Frac) × LnValue y v
  has_value e given = go (dec_le 1023 e)
    where
      pos : 0 < o * 2 ^ 1023
      pos = mul-pos op (pow_pos 1023)

      back : (e : ℕ) → 1023 ≤ e → e - 1023 + 1023 ≡ e
      back e h = omega arith

      rest : (e : ℕ) → e < 1023 → e + (1023 - e) ≡ 1023
      rest e h = omega arith

      go : Dec (1023 ≤ e) → (v : Frac) × LnValue y v
      go (yes l) = value_of false (e - 1023) (eq_trans_f y (frac (u * 2 ^ e) 0 (o * 2 ^ 1023)) (scale_f false (e - 1023) w) pos given (subst (λ (x : ℕ). eq_f (frac (u * 2 ^ x) 0 (o * 2 ^ 1023)) (scale_f false (e - 1023) w)) (back e l) (up (e - 1023))))
      go (no l) = value_of true (1023 - e) (eq_trans_f y (frac (u * 2 ^ e) 0 (o * 2 ^ 1023)) (scale_f true (1023 - e) w) pos given (down (1023 - e) e (rest e (lt_of_not-le l))))

-- ---- y = u / 2 ^ 1074, u from 2 ^ 52 on: w is u over the power of 2 below it or above it
module _ (u : ℕ) (least : 2 ^ 52 ≤ u) (y : Frac) (given : eq_f y (frac u 0 (2 ^ 1074))) where
  placed : (o x : ℕ) → o * 2 ^ 1023 ≡ 2 ^ 1074 * x → eq_f y (frac (u * x) 0 (o * 2 ^ 1023))
  placed o x e = subst (λ (d : ℕ). eq_f y (frac (u * x) 0 d)) (sym e) (eq_trans_f y (frac u 0 (2 ^ 1074)) (frac (u * x) 0 (2 ^ 1074 * x)) (pow_pos 1074) given (eq_sym_f (frac (u * x) 0 (2 ^ 1074 * x)) (frac u 0 (2 ^ 1074)) (cancel u (2 ^ 1074) x)))

  some_value : (k : ℕ) → u < 2 ^ k → (v : Frac) × LnValue y v
  some_value k fit = go (leading_top k u (lt_of_lt_of_le (lit< tt) least) fit)
    where
      from : (j : ℕ) → u < 2 ^ suc j → 52 ≤ j
      from j h = less j (lt_of_not-le (λ g. Nat.not-le_of_lt (lt_of_le_of_lt least h) (pow_mono g)))
        where
          less : (j : ℕ) → 52 < suc j → 52 ≤ j
          less j h = omega arith

      plus : (o u : ℕ) → o ≤ u → u ≡ o + (u - o)
      plus o u h = omega arith

      minus : (o u : ℕ) → u < o → u + (o - u) ≡ o
      minus o u h = omega arith

      twice : (o u : ℕ) → o ≤ u → 2 * o ≤ 3 * u
      twice o u h = omega arith

      thrice : (o u : ℕ) → u < o → 3 * u < 4 * o
      thrice o u h = omega arith

      double : (j : ℕ) → 2 ^ suc j ≡ 2 ^ j * 2
      double j = pow-suc 2 j

      half : (o u : ℕ) → 4 * o ≤ 3 * u → 2 * (o * 2) ≤ 3 * u
      half o u h = omega arith

      sum : (j : ℕ) → 52 ≤ j → j + 1023 ≡ 1074 + (j - 51)
      sum j h = omega arith

      sum' : (j : ℕ) → 52 ≤ j → suc j + 1023 ≡ 1074 + (j - 50)
      sum' j h = omega arith

      powers : (a b : ℕ) → a + 1023 ≡ 1074 + b → 2 ^ a * 2 ^ 1023 ≡ 2 ^ 1074 * 2 ^ b
      powers a b e = sym (pow-add 2 a 1023) ∙ ap (λ (x : ℕ). 2 ^ x) e ∙ pow-add 2 1074 b

      kinds : (j : ℕ) → 2 ^ j ≤ u → u < 2 ^ suc j → Dec (4 * 2 ^ j ≤ 3 * u) → (v : Frac) × LnValue y v
      kinds j a b (no h) = has_value false (u - 2 ^ j) (2 ^ j) u (pow_pos j) (plus (2 ^ j) u a) (twice (2 ^ j) u a) (lt_of_not-le h) y (j - 51) (placed (2 ^ j) (2 ^ (j - 51)) (powers j (j - 51) (sum j (from j b))))
      kinds j a b (yes h) = has_value true (2 ^ suc j - u) (2 ^ suc j) u (pow_pos (suc j)) (minus (2 ^ suc j) u b) (subst (λ (x : ℕ). 2 * x ≤ 3 * u) (sym (double j)) (half (2 ^ j) u h)) (thrice (2 ^ suc j) u b) y (j - 50) (placed (2 ^ suc j) (2 ^ (j - 50)) (powers (suc j) (j - 50) (sum' j (from j b))))

      go : (j : ℕ) × (count_leading_zeros k u + suc j ≡ k) × (2 ^ j ≤ u) × (u < 2 ^ suc j) → (v : Frac) × LnValue y v
      go (j, e, a, b) = kinds j a b (dec_le (4 * 2 ^ j) (3 * u))

-- ---- every number that `ln` takes has a logarithm
pub ln_has_value : (x : Float) → T (fits binary64 x) → T (ln_inside x) → (v : Frac) × LnValue (val_f x) v
ln_has_value x f t =
    let b = taken_bits x f t in
    some_value (val (to_bits binary64 x)) (le_trans (lit≤ tt) (val_mono 4503599627370496 (to_bits binary64 x) (lit≤ tt) b.0)) (val_f x) (value_is x false (val (to_bits binary64 x)) (2 ^ 1074) (normal_value x f b.0 b.1))
    2100 (lt_of_le_of_lt (val_mono (to_bits binary64 x) 9218868437227405311 b.0 (below (to_bits binary64 x) b.1)) (lit< tt))
  where
    below : (b : ℕ) → b < 9218868437227405312 → b ≤ 9218868437227405311
    below b h = omega arith

-- ---- and every number that `ln_1p` takes
module _ (x : Float) (s : Bool) (m : ℕ) (fit : m < 9223372036854775808) (is : of_bits binary64 (sign_bit s + m) ≡ x) (range : m / 4503599627370496 + 21 * from_bool s ≤ 1043) where
  size_of : (a : ℕ) × HasValue x s a (2 ^ 1074) × (a ≤ val (cond s 4607182418800017407 4701758010974797823))
  size_of = go (dec_le 4503599627370496 m)
    where
      at : (a : ℕ) → HasValue (of_bits binary64 (sign_bit s + m)) s a (2 ^ 1074) → HasValue x s a (2 ^ 1074)
      at a h = subst (λ (z : Float). HasValue z s a (2 ^ 1074)) is h

      wide : (m g : ℕ) → m / 4503599627370496 + 21 * g ≤ 1043 → m < 9218868437227405312
      wide m g h = omega arith

      top : (s : Bool) → m / 4503599627370496 + 21 * from_bool s ≤ 1043 → m ≤ cond s 4607182418800017407 4701758010974797823
      top false h = omega arith
      top true h = omega arith

      small : (s : Bool) → m < 4503599627370496 → m ≤ val (cond s 4607182418800017407 4701758010974797823)
      small false h = le_trans (le_of_lt h) (lit≤ tt)
      small true h = le_trans (le_of_lt h) (lit≤ tt)

      go : Dec (4503599627370496 ≤ m) → (a : ℕ) × HasValue x s a (2 ^ 1074) × (a ≤ val (cond s 4607182418800017407 4701758010974797823))
      go (no l) = (m, at m (small_is s m (lt_of_not-le l)), small s (lt_of_not-le l))
      go (yes l) = (val m, at (val m) (bits_is s m l (wide m (from_bool s) range)), val_mono m (cond s 4607182418800017407 4701758010974797823) l (top s range))

  plus_has_value : (v : Frac) × Ln1pValue (val_f x) v
  plus_has_value = go s size_of.0 (value_is x s size_of.0 (2 ^ 1074) size_of.1) size_of.2
    where
      more : (a c : ℕ) → c ≤ c + a
      more a c = omega arith

      back : (a c : ℕ) → a ≤ c → c - a + a ≡ c
      back a c h = omega arith

      most : (a c d t : ℕ) → a ≤ c → c + d ≤ t → d ≤ t - a
      most a c d t h k = omega arith

      less : (a t u : ℕ) → t < u → t - a < u
      less a t u h = omega arith

      go : (s : Bool) (a : ℕ) → eq_f (val_f x) (sgn s a (2 ^ 1074)) → a ≤ val (cond s 4607182418800017407 4701758010974797823) → (v : Frac) × Ln1pValue (val_f x) v
      go false a e h = some_value (2 ^ 1074 + a) (le_trans (lit≤ tt) (more a (2 ^ 1074))) (add_f (nat_f 1) (val_f x)) (plus_is false (val_f x) (2 ^ 1074 + a) a (2 ^ 1074) (pow_pos 1074) e refl) 2100 (lt_of_le_of_lt (Nat.add-le-add (Nat.le_refl (2 ^ 1074)) h) (lit< tt))
      go true a e h = some_value (2 ^ 1074 - a) (most a (val 4607182418800017407) (2 ^ 52) (2 ^ 1074) h (lit≤ tt)) (add_f (nat_f 1) (val_f x)) (plus_is true (val_f x) (2 ^ 1074 - a) a (2 ^ 1074) (pow_pos 1074) e (back a (2 ^ 1074) (le_trans h (lit≤ tt)))) 2100 (less a (2 ^ 1074) (2 ^ 2100) (lit< tt))

pub ln_1p_has_value : (x : Float) → T (fits binary64 x) → T (ln1p_inside x) → (v : Frac) × Ln1pValue (val_f x) v
ln_1p_has_value x f t = go (to_bits binary64 x) (of_bits-to_bits binary64 x f) (taken_range x f t) (sign_of (to_bits binary64 x) (to_bits-lt binary64 x f))
  where
    go : (b : ℕ) → of_bits binary64 b ≡ x → b / 2 ^ 52 % 2048 + 21 * (b / 2 ^ 63) ≤ 1043 → (s : Bool) × (m : ℕ) × (b ≡ sign_bit s + m) × (m < 9223372036854775808) → (v : Frac) × Ln1pValue (val_f x) v
    go b is range (s, m, q, h) = plus_has_value x s m h (ap (of_bits binary64) (sym q) ∙ is) (range_is s m h (subst (λ (z : ℕ). z / 2 ^ 52 % 2048 + 21 * (z / 2 ^ 63) ≤ 1043) q range))
