-- `ln_1p` keeps document 01's distance: 1 + v as one fraction, the three ways it is worked, and the theorem. Assumes nothing.
use mathlib.Core.Path.{◌≡◌, refl, sym, ap, ap₂, ◌∙◌, subst}
use mathlib.Core.Bool.{Bool, true, false, cond}
use Prim.Native.Nat.{ℕ, ◌+◌, ◌-◌, ◌*◌, ◌/◌, ◌%◌, ◌^◌, ◌≤◌, ◌<◌}
use native.Mathlib.Nat as Nat
use native.Mathlib.Nat.{le_refl, le_trans, le_of_eq, le_of_lt, lt_of_lt_of_le, lt_of_not-le, add-le-add, mul_assoc, add-mul, mul-add, one-mul, add_comm, mul-le-mul_left, mul-le-mul_right, div-mul-le_self, lt-div-mul-add, mul-pos, sub-pos_iff_lt}
use native.Mathlib.Decide.{dec_le}
use native.Mathlib.Omega.{arith}
use lib.Dec.{T, ltb, lit<, lit≤}
use lib.Pow.{pow_pos, pow-add, pow_mono}
use lib.Count.{count_leading_zeros, leading_le}
use lib.Ieee.{Float, binary64, of_bits, to_bits, fits, neg, lt, le}
use lib.Ieee.Bits.{is_true, of_bits-to_bits, to_bits-lt}
use lib.Ieee.Fits.{and_l, and_r}
use lib.Ieee.Exact.{HasValue}
use borrow.Author.Tests.{lt-ltb, le-ltb}
use Rattle.number.specs.Ans.{held, refused}
use Rattle.number.specs.Frac.{Frac, frac, Pos, add_f, sgn, val_f}
use Rattle.number.proofs.Frac.{ring, val_f_pos, add_f_pos, sgn_pos}
use Rattle.number.specs.Domain.{ln1p_inside}
use Rattle.fixed_point.specs.Quotient.{quotient}
use Rattle.fixed_point.proofs.Horner.{ac}
use Rattle.fixed_point.proofs.TwoDigits.{quotient_lo, quotient_hi7}
use Rattle.fixed_point.proofs.Patterns64.{sign_bit, val, val_mono, bits_is}
use Rattle.fixed_point.proofs.Decode.{small_is, sign_of}
use Rattle.std.specs.Int.{from_bool}
use Rattle.fixed_point.proofs.Packed.{top_lo, top_hi}
use Rattle.series.specs.Sums.{nat_f, eq_f}
use Rattle.series.specs.Exact.{LnValue, Ln1pValue}
use Rattle.series.specs.Distance.{within}
use Rattle.series.proofs.Close.{Close, value_finite}
use Rattle.logarithm.specs.Logarithm.{core, join, small1p, moved1p, large1p, bits1p, value1p, ln1p_of}
use Rattle.logarithm.proofs.CoreBounds.{core_lo, core_hi}
use Rattle.logarithm.proofs.Ranges.{zeros_from, fours, asked_1p, part_of_two, two_le, part_small, plus_lt, minus_lt, minus_pos}
use Rattle.logarithm.proofs.Fractions.{eq_refl_f, eq_sym_f, eq_trans_f, add_cong, value_is}
use Rattle.logarithm.proofs.OddSeries.{whole}
use Rattle.logarithm.proofs.Split.{Part}
use Rattle.logarithm.proofs.Domain.{range_1p}
use Rattle.logarithm.proofs.TinyNear.{tiny_near}
use Rattle.logarithm.proofs.Joined.{Parts, Joins, join_near}
use Rattle.logarithm.proofs.LnNear.{cancel, few_Z, core_fits, core_big, core_none, reduced_near}

-- ---- 1 + v is u / c, v being a / c or its negative
one_plus : (s : Bool) (u a c : ℕ) → Part s u a c → eq_f (add_f (nat_f 1) (sgn s a c)) (frac u 0 c)
one_plus false u a c e = subst (λ (x : ℕ). eq_f (add_f (nat_f 1) (frac a 0 c)) (frac x 0 c)) (sym e) (simp ring (omega arith), simp ring (omega arith))
one_plus true u a c e = subst (λ (x : ℕ). eq_f (add_f (nat_f 1) (frac 0 a x)) (frac u 0 x)) e (simp ring (omega arith), simp ring (omega arith))

pub plus_is : (s : Bool) (x : Frac) (u a c : ℕ) → 0 < c → eq_f x (sgn s a c) → Part s u a c → eq_f (add_f (nat_f 1) x) (frac u 0 c)
plus_is s x u a c p e part = eq_trans_f (add_f (nat_f 1) x) (add_f (nat_f 1) (sgn s a c)) (frac u 0 c) (add_f_pos (nat_f 1) (sgn s a c) (lit< tt) (sgn_pos s a c p)) (add_cong (nat_f 1) (nat_f 1) x (sgn s a c) (eq_refl_f (nat_f 1)) e) (one_plus s u a c part)

-- ---- |v| from 1/4 on
module _ (y v : Frac) (yp : Pos y) (value : LnValue y v) where
  moved_near : (f k : ℕ) → 1021 ≤ f → f ≤ 1043 → 0 < k → k < 2 ^ 55 → eq_f y (frac (k * 2 ^ (f - 1)) 0 (2 ^ 1074)) → Close (within (2 ^ 48)) (moved1p f k) v
  unfolding moved1p
  moved_near f k lo hi p h given =
      reduced_near (k * 2 ^ l) (top_lo k p fit) (top_hi k p fit) (fours k l (two l (zeros_from k 55 (lit< tt) h))) y v yp (f + 11 - l) (wide f l hi)
      (eq_trans_f y (frac (k * 2 ^ (f - 1)) 0 (2 ^ 1074)) (frac (k * 2 ^ l * 2 ^ (f + 11 - l)) 0 (2 ^ 63 * 2 ^ 1023)) (lit< tt) given
      (subst (λ (x : ℕ). eq_f (frac (k * 2 ^ (f - 1)) 0 (2 ^ 1074)) (frac x 0 (2 ^ 1074 * 4096))) numbers (eq_sym_f (frac (k * 2 ^ (f - 1) * 4096) 0 (2 ^ 1074 * 4096)) (frac (k * 2 ^ (f - 1)) 0 (2 ^ 1074)) (cancel (k * 2 ^ (f - 1)) (2 ^ 1074) 4096))))
      value
    where
      l : ℕ
      l = count_leading_zeros 64 k

      fit : k < 2 ^ 64
      fit = lt_of_lt_of_le h (lit≤ tt)

      two : (l : ℕ) → 64 ≤ l + 55 → 2 ≤ l
      two l h = omega arith

      wide : (f l : ℕ) → f ≤ 1043 → f + 11 - l ≤ 2047
      wide f l h = omega arith

      places : (f l : ℕ) → 1021 ≤ f → l ≤ 64 → f - 1 + 12 ≡ l + (f + 11 - l)
      places f l h k = omega arith

      numbers : k * 2 ^ (f - 1) * 4096 ≡ k * 2 ^ count_leading_zeros 64 k * 2 ^ (f + 11 - count_leading_zeros 64 k)
      numbers = mul_assoc k (2 ^ (f - 1)) 4096 ∙ ap (λ (x : ℕ). k * x) (sym (pow-add 2 (f - 1) 12) ∙ ap (λ (x : ℕ). 2 ^ x) (places f (count_leading_zeros 64 k) lo (leading_le 64 k)) ∙ pow-add 2 (count_leading_zeros 64 k) (f + 11 - count_leading_zeros 64 k)) ∙ sym (mul_assoc k (2 ^ count_leading_zeros 64 k) (2 ^ (f + 11 - count_leading_zeros 64 k)))

  pub large_near : (s : Bool) (f m : ℕ) → 1021 ≤ f → f + 21 * from_bool s ≤ 1043 → m < 2 ^ 53 → 2 ^ 52 ≤ m → ((u : ℕ) → Part s u (m * 2 ^ (f - 1)) (2 ^ 1074) → eq_f y (frac u 0 (2 ^ 1074))) → Close (within (2 ^ 48)) (large1p (from_bool s) f m) v
  unfolding large1p
  large_near s f m lo hi fit least given = go s hi given
    where
      one_le : 2 ^ (1075 - f) ≤ 2 ^ 54
      one_le = pow_mono (places f lo)
        where
          places : (f : ℕ) → 1021 ≤ f → 1075 - f ≤ 54
          places f h = omega arith

      sum : (f : ℕ) → 1021 ≤ f → f ≤ 1043 → 1075 - f + (f - 1) ≡ 1074
      sum f h k = omega arith

      whole_is : f ≤ 1043 → 2 ^ (1075 - f) * 2 ^ (f - 1) ≡ 2 ^ 1074
      whole_is k = sym (pow-add 2 (1075 - f) (f - 1)) ∙ ap (λ (x : ℕ). 2 ^ x) (sum f lo k)

      plain : (f : ℕ) → f + 21 * 0 ≤ 1043 → f ≤ 1043
      plain f h = omega arith

      less : (f : ℕ) → f + 21 * 1 ≤ 1043 → f ≤ 1043
      less f h = omega arith

      high : (f : ℕ) → f + 21 * 1 ≤ 1043 → 53 ≤ 1075 - f
      high f h = omega arith

      more : (x m : ℕ) → 2 ^ 52 ≤ m → 0 < x + m
      more x m h = omega arith

      back : (x m : ℕ) → m ≤ x → x - m + m ≡ x
      back x m h = omega arith

      go : (s : Bool) → f + 21 * from_bool s ≤ 1043 → ((u : ℕ) → Part s u (m * 2 ^ (f - 1)) (2 ^ 1074) → eq_f y (frac u 0 (2 ^ 1074))) → Close (within (2 ^ 48)) (large1p (from_bool s) f m) v
      go false k given =
          moved_near f (2 ^ (1075 - f) + m) lo (plain f k) (more (2 ^ (1075 - f)) m least) (plus_lt (2 ^ (1075 - f)) m one_le fit)
          (given ((2 ^ (1075 - f) + m) * 2 ^ (f - 1)) (add-mul (2 ^ (1075 - f)) m (2 ^ (f - 1)) ∙ ap (λ (x : ℕ). x + m * 2 ^ (f - 1)) (whole_is (plain f k))))
      go true k given =
          let above : m < 2 ^ (1075 - f) = minus_pos (2 ^ (1075 - f)) m (pow_mono (high f k)) fit in
          moved_near f (2 ^ (1075 - f) - m) lo (less f k) (sub-pos_iff_lt.1 above) (minus_lt (2 ^ (1075 - f)) m one_le)
          (given ((2 ^ (1075 - f) - m) * 2 ^ (f - 1)) (sym (add-mul (2 ^ (1075 - f) - m) m (2 ^ (f - 1))) ∙ ap (λ (x : ℕ). x * 2 ^ (f - 1)) (back (2 ^ (1075 - f)) m (le_of_lt above)) ∙ whole_is (less f k)))

-- ---- |v| < 1/4: the quotient is taken by d, and D is d S up to S
near_quotient : (n d S D Z : ℕ) → Z * d ≤ n * 2 ^ 64 → n * 2 ^ 64 ≤ (Z + 7) * d → D ≤ d * S + S → d * S ≤ D + S → Z + 8 ≤ d → (Z * D ≤ n * S * 2 ^ 64 + D) × (n * S * 2 ^ 64 ≤ (Z + 8) * D)
near_quotient n d S D Z lo hi up down room =
    let small : (Z + 7) * S ≤ D = under ((Z + 7) * S) S D (le_trans (le_of_eq (one (Z + 7) S)) (le_trans (mul-le-mul_right S (le_trans (le_of_eq (eight Z)) room)) down)) in (
      le_trans (mul-le-mul_left Z up) (le_trans (le_of_eq (spread Z d S)) (add-le-add (le_trans (mul-le-mul_right S lo) (le_of_eq (turn n (2 ^ 64) S))) (le_trans (mul-le-mul_right S (seven Z)) small))),
      le_trans (le_of_eq (sym (turn n (2 ^ 64) S))) (le_trans (mul-le-mul_right S hi) (le_trans (le_of_eq (mul_assoc (Z + 7) d S)) (le_trans (mul-le-mul_left (Z + 7) down) (le_trans (le_of_eq (mul-add (Z + 7) D S)) (le_trans (add-le-add (le_refl ((Z + 7) * D)) small) (le_of_eq (last Z D))))))),
    )
  where
    one : (x S : ℕ) → x * S + S ≡ (x + 1) * S
    one x S = sym (add-mul x 1 S ∙ ap (λ (t : ℕ). x * S + t) (one-mul S))

    eight : (Z : ℕ) → Z + 7 + 1 ≡ Z + 8
    eight Z = omega arith

    seven : (Z : ℕ) → Z ≤ Z + 7
    seven Z = omega arith

    under : (x s d : ℕ) → x + s ≤ d + s → x ≤ d
    under x s d h = omega arith

    spread : (Z d S : ℕ) → Z * (d * S + S) ≡ Z * d * S + Z * S
    spread Z d S = mul-add Z (d * S) S ∙ ap (λ (t : ℕ). t + Z * S) (sym (mul_assoc Z d S))

    turn : (n w S : ℕ) → n * w * S ≡ n * S * w
    turn n w S = simp ac

    last : (Z D : ℕ) → (Z + 7) * D + D ≡ (Z + 8) * D
    last Z D = ap (λ (t : ℕ). (Z + 7) * D + t) (sym (one-mul D)) ∙ sym (add-mul (Z + 7) 1 D) ∙ ap (λ (t : ℕ). t * D) (eight Z)

module _ (s : Bool) (n sh d u : ℕ) (one_up : 1 ≤ sh) (room : sh < 64) (least : 2 ^ 60 ≤ n) (fit : n < 2 ^ 61) (d_lo : 7 * 2 ^ 60 ≤ d) (d-hi : d ≤ 9 * 2 ^ 60)
    (part : Part s u n (2 ^ 62 * 2 ^ sh)) (up : u + 2 ^ 62 * 2 ^ sh ≤ d * 2 ^ sh + 2 ^ sh) (down : d * 2 ^ sh ≤ u + 2 ^ 62 * 2 ^ sh + 2 ^ sh) where
  abbrev o : ℕ
  o = 2 ^ 62 * 2 ^ sh

  asked : (5 * 2 ^ 62 ≤ 3 * d) × (5 * d ≤ 14 * 2 ^ 62) × (10 * n ≤ 3 * d) × (5 * n ≤ d * 2 ^ sh) × (sh < 64)
  asked = asked_1p n d sh one_up room fit d_lo d-hi

  fourth : 4 * n ≤ o
  fourth = le_trans (four n fit) (mul-le-mul_left (2 ^ 62) (two_le sh one_up))
    where
      four : (n : ℕ) → n < 2 ^ 61 → 4 * n ≤ 2 ^ 62 * 2
      four n h = omega arith

  o_pos : 0 < o
  o_pos = mul-pos {m = 2 ^ 62} (lit< tt) (pow_pos sh)

  low : 2 * o ≤ 3 * u
  low = go s part
    where
      plus : (u n o : ℕ) → u ≡ o + n → 2 * o ≤ 3 * u
      plus u n o e = omega arith

      minus : (u n o : ℕ) → u + n ≡ o → 4 * n ≤ o → 2 * o ≤ 3 * u
      minus u n o e h = omega arith

      go : (s : Bool) → Part s u n o → 2 * o ≤ 3 * u
      go false p = plus u n o p
      go true p = minus u n o p fourth

  high : 3 * u < 4 * o
  high = go s part
    where
      plus : (u n o : ℕ) → u ≡ o + n → 4 * n ≤ o → 0 < o → 3 * u < 4 * o
      plus u n o e h k = omega arith

      minus : (u n o : ℕ) → u + n ≡ o → 0 < o → 3 * u < 4 * o
      minus u n o e h = omega arith

      go : (s : Bool) → Part s u n o → 3 * u < 4 * o
      go false p = plus u n o p fourth o_pos
      go true p = minus u n o p o_pos

  positive_D : 0 < u + o
  positive_D = lt_of_lt_of_le o_pos (le_trans (Nat.le-add_right o u) (le_of_eq (add_comm o u)))

  five : 5 * n ≤ u + o
  five = go (4 * n) n o u fourth low
    where
      go : (x n o u : ℕ) → 4 * n ≤ o → 2 * o ≤ 3 * u → 5 * n ≤ u + o
      go x n o u h k = omega arith

  d62 : 2 ^ 62 ≤ d
  d62 = le_trans (lit≤ tt) d_lo

  Z-few : 10 * quotient n d ≤ 3 * 2 ^ 64
  Z-few = few_Z n d sh asked.0 asked.1 asked.2 asked.3

  quotients : (quotient n d * (u + o) ≤ n * 2 ^ sh * 2 ^ 64 + (u + o)) × (n * 2 ^ sh * 2 ^ 64 ≤ (quotient n d + 8) * (u + o))
  quotients = near_quotient n d (2 ^ sh) (u + o) (quotient n d) (quotient_lo n d d62 asked.1 asked.2) (quotient_hi7 n d d62 asked.1 asked.2 asked.0) up down (less (quotient n d) d Z-few d_lo)
    where
      less : (z d : ℕ) → 10 * z ≤ 3 * 2 ^ 64 → 7 * 2 ^ 60 ≤ d → z + 8 ≤ d
      less z d h k = omega arith

  small_parts : Parts s n o u (2 ^ sh) (core n d sh)
  unfolding core
  small_parts = record {
    whole_one = o_pos;
    part = part;
    low = low;
    high = high;
    denominator = positive_D;
    scale = pow_pos sh;
    few = le_trans (mul-le-mul_right (2 ^ sh) (le_of_lt fit)) (le_trans (mul-le-mul_right (2 ^ sh) (lit≤ {m = 2 ^ 61} {n = 2 ^ 62} tt)) (le_trans (Nat.le-add_right o u) (le_of_eq (add_comm o u))));
    near_low = core_lo n (u + o) (2 ^ sh) (quotient n d) (whole n (u + o) positive_D).p (whole n (u + o) positive_D).q (pow_pos sh) positive_D quotients.0 quotients.1 Z-few five (whole n (u + o) positive_D).closed;
    near_high = core_hi n (u + o) (2 ^ sh) (quotient n d) (whole n (u + o) positive_D).p (whole n (u + o) positive_D).q (pow_pos sh) positive_D quotients.0 quotients.1 Z-few five (whole n (u + o) positive_D).closed;
  }

  small_joins : Joins n sh (core n d sh)
  small_joins = record {
    shift = room;
    fits = core_fits n d sh asked.0 asked.1 asked.2 asked.3;
    small = part_small n d sh asked.0 asked.1 asked.2 asked.3;
    big = λ (p : 0 < n). core_big n d sh asked.0 asked.1 asked.2 asked.3 least;
    none = λ (e : n ≡ 0). core_none n d sh asked.0 asked.1 asked.2 asked.3 e;
  }

  near_one : (y v : Frac) → Pos y → eq_f y (frac u 0 o) → LnValue y v → Close (within (2 ^ 48)) (join 1023 (from_bool s) (core n d sh) sh) v
  near_one y v yp given value =
      join_near s n o u (2 ^ sh) (core n d sh) small_parts y v yp 1023 (lit≤ tt) (eq_trans_f y (frac u 0 o) (frac (u * 2 ^ 1023) 0 (o * 2 ^ 1023)) o_pos given (eq_sym_f (frac (u * 2 ^ 1023) 0 (o * 2 ^ 1023)) (frac u 0 o) (cancel u o (2 ^ 1023)))) value sh refl small_joins

module _ (y v : Frac) (yp : Pos y) (value : LnValue y v) (f m : ℕ) (lo : 969 ≤ f) (hi : f < 1021) (least : 2 ^ 52 ≤ m) (fit : m < 2 ^ 53) where
  abbrev sh : ℕ
  sh = 1021 - f

  abbrev one : ℕ
  one = 2 ^ 62 * 2 ^ sh

  abbrev q : ℕ
  q = m * 256 / 2 ^ sh

  one_up : 1 ≤ sh
  one_up = omega arith

  room : sh < 64
  room = omega arith

  n_ge : 2 ^ 60 ≤ m * 256
  n_ge = omega arith

  n_lt : m * 256 < 2 ^ 61
  n_lt = omega arith

  q_lt : q < 2 ^ 60
  q_lt = part_of_two (m * 256) (2 ^ sh) (two_le sh one_up) n_lt

  q_lo : q * 2 ^ sh ≤ m * 256
  q_lo = div-mul-le_self (m * 256) (2 ^ sh)

  q_hi : m * 256 < q * 2 ^ sh + 2 ^ sh
  q_hi = lt-div-mul-add {a = m * 256} {b = 2 ^ sh} (pow_pos sh)

  -- from 2 ^ -1074 to units of one
  one_is : one * 2 ^ (f - 9) ≡ 2 ^ 1074
  one_is = ap (λ (x : ℕ). x * 2 ^ (f - 9)) (sym (pow-add 2 62 sh)) ∙ sym (pow-add 2 (62 + sh) (f - 9)) ∙ ap (λ (x : ℕ). 2 ^ x) (sum f lo hi)
    where
      sum : (f : ℕ) → 969 ≤ f → f < 1021 → 62 + (1021 - f) + (f - 9) ≡ 1074
      sum f h k = omega arith

  n_is : m * 256 * 2 ^ (f - 9) ≡ m * 2 ^ (f - 1)
  n_is = mul_assoc m 256 (2 ^ (f - 9)) ∙ ap (λ (x : ℕ). m * x) (sym (pow-add 2 8 (f - 9)) ∙ ap (λ (x : ℕ). 2 ^ x) (sum f lo))
    where
      sum : (f : ℕ) → 969 ≤ f → 8 + (f - 9) ≡ f - 1
      sum f h = omega arith

  in_units : (u : ℕ) → eq_f y (frac (u * 2 ^ (f - 9)) 0 (2 ^ 1074)) → eq_f y (frac u 0 one)
  in_units u e = eq_trans_f y (frac (u * 2 ^ (f - 9)) 0 (one * 2 ^ (f - 9))) (frac u 0 one) (mul-pos (mul-pos {m = 2 ^ 62} (lit< tt) (pow_pos sh)) (pow_pos (f - 9))) (subst (λ (x : ℕ). eq_f y (frac (u * 2 ^ (f - 9)) 0 x)) (sym one_is) e) (cancel u one (2 ^ (f - 9)))

  quarter : 4 * (m * 256) ≤ one
  quarter = le_trans (four (m * 256) n_lt) (mul-le-mul_left (2 ^ 62) (two_le sh one_up))
    where
      four : (n : ℕ) → n < 2 ^ 61 → 4 * n ≤ 2 ^ 62 * 2
      four n h = omega arith

  pub small_near : (s : Bool) → ((u : ℕ) → Part s u (m * 2 ^ (f - 1)) (2 ^ 1074) → eq_f y (frac u 0 (2 ^ 1074))) → Close (within (2 ^ 48)) (small1p (from_bool s) f m) v
  unfolding small1p
  small_near false given =
      near_one false (m * 256) sh (9223372036854775808 + q) (one + m * 256) one_up room n_ge n_lt (low q) (high q q_lt) refl (up one (m * 256) (q * 2 ^ sh) (2 ^ sh) ((9223372036854775808 + q) * 2 ^ sh) q_hi d_is) (down one (m * 256) (q * 2 ^ sh) (2 ^ sh) ((9223372036854775808 + q) * 2 ^ sh) q_lo d_is) y v yp
      (in_units (one + m * 256) (given ((one + m * 256) * 2 ^ (f - 9)) (add-mul one (m * 256) (2 ^ (f - 9)) ∙ ap₂ ◌+◌ one_is n_is))) value
    where
      low : (q : ℕ) → 7 * 2 ^ 60 ≤ 9223372036854775808 + q
      low q = omega arith

      high : (q : ℕ) → q < 2 ^ 60 → 9223372036854775808 + q ≤ 9 * 2 ^ 60
      high q h = omega arith

      double : (x : ℕ) → 9223372036854775808 * x ≡ 2 ^ 62 * x + 2 ^ 62 * x
      double x = omega arith

      d_is : (9223372036854775808 + q) * 2 ^ sh ≡ one + one + q * 2 ^ sh
      d_is = add-mul 9223372036854775808 q (2 ^ sh) ∙ ap (λ (x : ℕ). x + q * 2 ^ sh) (double (2 ^ sh))

      up : (o n x S t : ℕ) → n < x + S → t ≡ o + o + x → o + n + o ≤ t + S
      up o n x S t h e = omega arith

      down : (o n x S t : ℕ) → x ≤ n → t ≡ o + o + x → t ≤ o + n + o + S
      down o n x S t h e = omega arith
  small_near true given =
      near_one true (m * 256) sh (9223372036854775808 - q) (one - m * 256) one_up room n_ge n_lt (low q q_lt) (high q) (back one (m * 256) quarter) (up one (m * 256) (q * 2 ^ sh) (2 ^ sh) ((9223372036854775808 - q) * 2 ^ sh) q_lo d_is quarter) (down one (m * 256) (q * 2 ^ sh) (2 ^ sh) ((9223372036854775808 - q) * 2 ^ sh) q_hi d_is quarter) y v yp
      (in_units (one - m * 256) (given ((one - m * 256) * 2 ^ (f - 9)) (ap (λ (x : ℕ). (one - m * 256) * 2 ^ (f - 9) + x) (sym n_is) ∙ sym (add-mul (one - m * 256) (m * 256) (2 ^ (f - 9))) ∙ ap (λ (x : ℕ). x * 2 ^ (f - 9)) (back one (m * 256) quarter) ∙ one_is))) value
    where
      low : (q : ℕ) → q < 2 ^ 60 → 7 * 2 ^ 60 ≤ 9223372036854775808 - q
      low q h = omega arith

      high : (q : ℕ) → 9223372036854775808 - q ≤ 9 * 2 ^ 60
      high q = omega arith

      back : (o n : ℕ) → 4 * n ≤ o → o - n + n ≡ o
      back o n h = omega arith

      double : (x : ℕ) → 9223372036854775808 * x ≡ 2 ^ 62 * x + 2 ^ 62 * x
      double x = omega arith

      whole_is : (q : ℕ) → q < 2 ^ 60 → 9223372036854775808 - q + q ≡ 9223372036854775808
      whole_is q h = omega arith

      d_is : (9223372036854775808 - q) * 2 ^ sh + q * 2 ^ sh ≡ one + one
      d_is = sym (add-mul (9223372036854775808 - q) q (2 ^ sh)) ∙ ap (λ (x : ℕ). x * 2 ^ sh) (whole_is q q_lt) ∙ double (2 ^ sh)

      up : (o n x S t : ℕ) → x ≤ n → t + x ≡ o + o → 4 * n ≤ o → o - n + o ≤ t + S
      up o n x S t h e k = omega arith

      down : (o n x S t : ℕ) → n < x + S → t + x ≡ o + o → 4 * n ≤ o → t ≤ o - n + o + S
      down o n x S t h e k = omega arith

-- ---- an f64 by its sign and the rest of its bits
field_is : (s : Bool) (m : ℕ) → m < 9223372036854775808 → (sign_bit s + m) / 2 ^ 52 % 2048 ≡ m / 4503599627370496
field_is false m h = omega arith
field_is true m h = omega arith

sign_is : (s : Bool) (m : ℕ) → m < 9223372036854775808 → (sign_bit s + m) / 2 ^ 63 ≡ from_bool s
sign_is false m h = omega arith
sign_is true m h = omega arith

digits_are : (s : Bool) (m : ℕ) → (sign_bit s + m) % 2 ^ 52 ≡ m % 4503599627370496
digits_are false m = omega arith
digits_are true m = omega arith

module _ (x : Float) (s : Bool) (m : ℕ) (fit : m < 9223372036854775808) (is : of_bits binary64 (sign_bit s + m) ≡ x) (range : m / 4503599627370496 + 21 * from_bool s ≤ 1043) (v : Frac) (value : Ln1pValue (val_f x) v) where
  y_pos : Pos (add_f (nat_f 1) (val_f x))
  y_pos = add_f_pos (nat_f 1) (val_f x) (lit< tt) (val_f_pos x)

  plus_value : (a : ℕ) → HasValue x s a (2 ^ 1074) → (u : ℕ) → Part s u a (2 ^ 1074) → eq_f (add_f (nat_f 1) (val_f x)) (frac u 0 (2 ^ 1074))
  plus_value a h u p = plus_is s (val_f x) u a (2 ^ 1074) (pow_pos 1074) (value_is x s a (2 ^ 1074) h) p

  -- v itself
  own_near : (a : ℕ) → HasValue x s a (2 ^ 1074) → 2 ^ 54 * a ≤ 2 ^ 1074 → Close (within (2 ^ 48)) x v
  own_near a h tiny = (value_finite x s a (2 ^ 1074) h, go s (value_is x s a (2 ^ 1074) h) (plus_value a h))
    where
      less : (a c : ℕ) → 2 ^ 54 * a ≤ c → c - a + a ≡ c
      less a c h = omega arith

      go : (s : Bool) → eq_f (val_f x) (sgn s a (2 ^ 1074)) → ((u : ℕ) → Part s u a (2 ^ 1074) → eq_f (add_f (nat_f 1) (val_f x)) (frac u 0 (2 ^ 1074))) → within (2 ^ 48) (val_f x) v
      go false e p = tiny_near false a (2 ^ 1074) (2 ^ 1074 + a) (pow_pos 1074) tiny refl (val_f x) (add_f (nat_f 1) (val_f x)) v e y_pos (p (2 ^ 1074 + a) refl) value
      go true e p = tiny_near true a (2 ^ 1074) (2 ^ 1074 - a) (pow_pos 1074) tiny (less a (2 ^ 1074) tiny) (val_f x) (add_f (nat_f 1) (val_f x)) v e y_pos (p (2 ^ 1074 - a) (less a (2 ^ 1074) tiny)) value

  value_at : (a : ℕ) → HasValue (of_bits binary64 (sign_bit s + m)) s a (2 ^ 1074) → HasValue x s a (2 ^ 1074)
  value_at a h = subst (λ (z : Float). HasValue z s a (2 ^ 1074)) is h

  below_near : m / 4503599627370496 < 969 → Close (within (2 ^ 48)) x v
  below_near h = go (dec_le 4503599627370496 m)
    where
      few : (m : ℕ) → m < 4503599627370496 → 2 ^ 54 * m ≤ 2 ^ 54 * 2 ^ 52
      few m h = mul-le-mul_left (2 ^ 54) (le_of_lt h)

      under : (m : ℕ) → m / 4503599627370496 < 969 → m ≤ 4363988038922010624
      under m h = omega arith

      wide : (m : ℕ) → m / 4503599627370496 < 969 → m < 9218868437227405312
      wide m h = omega arith

      go : Dec (4503599627370496 ≤ m) → Close (within (2 ^ 48)) x v
      go (no l) = own_near m (value_at m (small_is s m (lt_of_not-le l))) (le_trans (few m (lt_of_not-le l)) (lit≤ tt))
      go (yes l) = own_near (val m) (value_at (val m) (bits_is s m l (wide m h))) (le_trans (mul-le-mul_left (2 ^ 54) (val_mono m 4363988038922010624 l (under m h))) (lit≤ tt))

  -- the series
  above_near : 969 ≤ m / 4503599627370496 → Close (within (2 ^ 48)) (bits1p (sign_bit s + m)) v
  unfolding bits1p
  above_near h =
      rw (field_is s m fit, sign_is s m fit, digits_are s m)
      (go (dec_le 1021 (m / 4503599627370496)))
    where
      lo : (m : ℕ) → 969 ≤ m / 4503599627370496 → 4503599627370496 ≤ m
      lo m h = omega arith

      hi : (m g : ℕ) → m / 4503599627370496 + 21 * g ≤ 1043 → m < 9218868437227405312
      hi m g h = omega arith

      M-lo : (m : ℕ) → 2 ^ 52 ≤ m % 4503599627370496 + 4503599627370496
      M-lo m = omega arith

      M-hi : (m : ℕ) → m % 4503599627370496 + 4503599627370496 < 2 ^ 53
      M-hi m = omega arith

      given : (u : ℕ) → Part s u ((m % 4503599627370496 + 4503599627370496) * 2 ^ (m / 4503599627370496 - 1)) (2 ^ 1074) → eq_f (add_f (nat_f 1) (val_f x)) (frac u 0 (2 ^ 1074))
      given u p = plus_value ((m % 4503599627370496 + 4503599627370496) * 2 ^ (m / 4503599627370496 - 1)) (subst (λ (z : ℕ). HasValue x s (z * 2 ^ (m / 4503599627370496 - 1)) (2 ^ 1074)) (add_comm 4503599627370496 (m % 4503599627370496)) (value_at (val m) (bits_is s m (lo m h) (hi m (from_bool s) range)))) u p

      go : Dec (1021 ≤ m / 4503599627370496) → Close (within (2 ^ 48)) (cond (ltb (m / 4503599627370496) 1021) (small1p (from_bool s) (m / 4503599627370496) (m % 4503599627370496 + 2 ^ 52)) (large1p (from_bool s) (m / 4503599627370496) (m % 4503599627370496 + 2 ^ 52))) v
      go (no l) = rw (lt-ltb (m / 4503599627370496) 1021 (lt_of_not-le l)) (small_near (add_f (nat_f 1) (val_f x)) v y_pos value (m / 4503599627370496) (m % 4503599627370496 + 4503599627370496) h (lt_of_not-le l) (M-lo m) (M-hi m) s given)
      go (yes l) = rw (le-ltb (m / 4503599627370496) 1021 l) (large_near (add_f (nat_f 1) (val_f x)) v y_pos value s (m / 4503599627370496) (m % 4503599627370496 + 4503599627370496) l range (M-hi m) (M-lo m) given)

pub range_is : (s : Bool) (m : ℕ) → m < 9223372036854775808 → (sign_bit s + m) / 2 ^ 52 % 2048 + 21 * ((sign_bit s + m) / 2 ^ 63) ≤ 1043 → m / 4503599627370496 + 21 * from_bool s ≤ 1043
range_is s m h r = subst (λ (z : ℕ). z + 21 * from_bool s ≤ 1043) (field_is s m h) (subst (λ (z : ℕ). (sign_bit s + m) / 2 ^ 52 % 2048 + 21 * z ≤ 1043) (sign_is s m h) r)

pub taken_range : (x : Float) → T (fits binary64 x) → T (ln1p_inside x) → to_bits binary64 x / 2 ^ 52 % 2048 + 21 * (to_bits binary64 x / 2 ^ 63) ≤ 1043
taken_range x f t =
    range_1p x f (is_true (lt (neg (of_bits binary64 0x3ff0_0000_0000_0000)) x) (and_l (lt (neg (of_bits binary64 0x3ff0_0000_0000_0000)) x) (le x (of_bits binary64 0x4130_0000_0000_0000)) t))
    (is_true (le x (of_bits binary64 0x4130_0000_0000_0000)) (and_r (lt (neg (of_bits binary64 0x3ff0_0000_0000_0000)) x) (le x (of_bits binary64 0x4130_0000_0000_0000)) t))

-- THE THEOREM: for every f64 that `ln_1p` takes, what it holds is finite and within 2 ^ -48 of every value in document 01's bracket of ln (1 + v), 1 + v being exact
pub ln_1p_near : (x : Float) → T (fits binary64 x) → (r : Float) → ln1p_of x ≡ held r → (v : Frac) → Ln1pValue (val_f x) v → Close (within (2 ^ 48)) r v
unfolding ln1p_of value1p
ln_1p_near x f r e v value = go (ln1p_inside x) refl e
  where
    never : refused 6 ≡ held r → ⊥
    never e = let z : ◌≡◌ {A = ℕ} 0 1 = cc in omega arith

    same : (w : Float) → held w ≡ held r → w ≡ r
    same w e = cc

    at : (b : ℕ) → of_bits binary64 b ≡ x → b / 2 ^ 52 % 2048 + 21 * (b / 2 ^ 63) ≤ 1043 → (s : Bool) × (m : ℕ) × (b ≡ sign_bit s + m) × (m < 9223372036854775808) → Close (within (2 ^ 48)) (cond (ltb (b / 2 ^ 52 % 2048) 969) x (bits1p b)) v
    at b is range (s, m, q, h) = subst (λ (z : ℕ). Close (within (2 ^ 48)) (cond (ltb (z / 2 ^ 52 % 2048) 969) x (bits1p z)) v) (sym q) (kinds (dec_le 969 (m / 4503599627370496)))
      where
        is' : of_bits binary64 (sign_bit s + m) ≡ x
        is' = ap (of_bits binary64) (sym q) ∙ is

        range' : m / 4503599627370496 + 21 * from_bool s ≤ 1043
        range' = range_is s m h (subst (λ (z : ℕ). z / 2 ^ 52 % 2048 + 21 * (z / 2 ^ 63) ≤ 1043) q range)

        kinds : Dec (969 ≤ m / 4503599627370496) → Close (within (2 ^ 48)) (cond (ltb ((sign_bit s + m) / 2 ^ 52 % 2048) 969) x (bits1p (sign_bit s + m))) v
        kinds (yes l) = rw (field_is s m h, le-ltb (m / 4503599627370496) 969 l) (above_near x s m h is' range' v value l)
        kinds (no l) = rw (field_is s m h, lt-ltb (m / 4503599627370496) 969 (lt_of_not-le l)) (below_near x s m h is' range' v value (lt_of_not-le l))

    go : (t : Bool) → ln1p_inside x ≡ t → cond t (held (cond (ltb (to_bits binary64 x / 2 ^ 52 % 2048) 969) x (bits1p (to_bits binary64 x)))) (refused 6) ≡ held r → Close (within (2 ^ 48)) r v
    go false q e = absurd (never e)
    go true q e =
        subst (λ (z : Float). Close (within (2 ^ 48)) z v) (same (cond (ltb (to_bits binary64 x / 2 ^ 52 % 2048) 969) x (bits1p (to_bits binary64 x))) e)
        (at (to_bits binary64 x) (of_bits-to_bits binary64 x f) (taken_range x f (subst T (sym q) tt)) (sign_of (to_bits binary64 x) (to_bits-lt binary64 x f)))
