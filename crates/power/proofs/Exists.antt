-- Every fraction has a value in document 01's bracket of exp, and every base and exponent of the domain one in that of the power: the theorems on distances speak of something. Assumes nothing.
use mathlib.Core.Path.{◌≡◌, subst}
use mathlib.Core.Bool.{Bool, true, false, ◌&&◌}
use Prim.Native.Nat.{ℕ, ◌+◌, ◌-◌, ◌*◌, ◌/◌, ◌^◌, ◌≤◌, ◌<◌}
use native.Mathlib.Nat.{le_trans, le_of_lt, lt_of_not-le, le_of_eq, mul_assoc, add-mul, one-mul, mul-zero, zero-mul, add-zero, zero-add, mul-pos, div-mul-le_self, lt-div-mul-add, add-sub_of_le, mul-le-mul_right, le_of_mul-le-mul_right}
use native.Mathlib.Decide.{dec_le}
use native.Mathlib.Omega.{arith}
use lib.Dec.{T, lit<, lit≤}
use lib.Ieee.{Float, binary64, fits, to_bits, of_bits, le}
use lib.Ieee.Bits.{of_bits-to_bits}
use Rattle.number.specs.Frac.{Frac, frac, Pos, le_f, lt_f, zero_f, neg_f, sub_f, mul_f, sgn, val_f}
use Rattle.number.proofs.Frac.{ring, le_trans_f, le_lt_trans_f, lt_le_trans_f, lt_le_f, neg_anti_f, add_f_pos, mul_f_pos, neg_f_pos, sgn_pos, val_f_pos}
use Rattle.number.specs.Domain.{ln_inside, base_inside}
use Rattle.fixed_point.proofs.Patterns64.{bits_mono}
use Rattle.series.specs.Sums.{nat_f, over_f, eq_f, pow_f, sum_f, factorial, scale_f}
use Rattle.series.specs.Exact.{LnValue, ExpValue, PowerValue, exp_sum, middle, rest}
use Rattle.series.proofs.Constants.{mn, md, middle_is}
use Rattle.logarithm.proofs.Fractions.{add_cong, neg_cong, mul_cong, eq_refl_f}
use Rattle.logarithm.proofs.Exists.{ln_has_value}
use Rattle.exponential.proofs.Bounds.{Bound, bound_eq, bound_up, sum_pos, exp_moves}
use Rattle.exponential.proofs.Position.{M}
use Rattle.binary_log.proofs.Base.{base_bits}
use Rattle.power.proofs.ExpLn.{middle_pos, half_is, half_pos, value_of}

-- ---- k by a division of whole numbers: ln 2 is m / q
up_lo : (n x d k m q : ℕ) → k * (2 * m * d) ≤ 2 * x * q + m * d → le_f (frac 0 m (q * 2)) (sub_f (frac (n + x) n d) (mul_f (frac k 0 1) (frac m 0 q)))
up_lo n x d k m q h = let z = simp ring at (mul-le-mul_right q h) in simp (ring, one-mul, mul-zero, zero-mul, add-zero, zero-add) (omega arith)

up_hi : (n x d k m q : ℕ) → 0 < q → 2 * x * q + m * d + 1 ≤ (k + 1) * (2 * m * d) → lt_f (sub_f (frac (n + x) n d) (mul_f (frac k 0 1) (frac m 0 q))) (frac m 0 (q * 2))
up_hi n x d k m q c h = let z = simp (ring, one-mul) at (mul-le-mul_right q h) in simp (ring, one-mul, mul-zero, zero-mul, add-zero) (omega arith)

down_lo : (p y d k m q : ℕ) → 2 * y * q ≤ k * (2 * m * d) + m * d → le_f (frac 0 m (q * 2)) (sub_f (frac p (p + y) d) (mul_f (frac 0 k 1) (frac m 0 q)))
down_lo p y d k m q h = let z = simp ring at (mul-le-mul_right q h) in simp (ring, one-mul, mul-zero, zero-mul, add-zero, zero-add) (omega arith)

down_hi : (p y d k m q : ℕ) → 0 < q → k * (2 * m * d) + 1 ≤ 2 * y * q + m * d → lt_f (sub_f (frac p (p + y) d) (mul_f (frac 0 k 1) (frac m 0 q))) (frac m 0 (q * 2))
down_hi p y d k m q c h = let z = simp (ring, one-mul) at (mul-le-mul_right q h) in simp (ring, one-mul, mul-zero, zero-mul, add-zero, zero-add) (omega arith)

-- k, with a rest within half of ln 2
record Cut (v : Frac) : Type 0 where
  neg : Bool
  k : ℕ
  low : le_f (frac 0 mn (md * 2)) (sub_f v (mul_f (sgn neg k 1) M))
  high : lt_f (sub_f v (mul_f (sgn neg k 1) M)) (frac mn 0 (md * 2))

cut_of : (v : Frac) → Pos v → Cut v
cut_of (frac p n d) vp = go (dec_le n p)
  where
    unit_pos : 0 < 2 * mn * d
    unit_pos = mul-pos {m = 2 * mn} (lit< tt) vp

    go : Dec (n ≤ p) → Cut (frac p n d)
    go (yes h) =
        let x = p - n in
        let a = 2 * x * md + mn * d in
        let k = a / (2 * mn * d) in
        subst (λ (p : ℕ). Cut (frac p n d)) (add-sub_of_le h)
        (record { neg = false; k = k; low = up_lo n x d k mn md (div-mul-le_self a (2 * mn * d)); high = up_hi n x d k mn md (lit< tt) (next a k (2 * mn * d) (lt-div-mul-add {a = a} {b = 2 * mn * d} unit_pos)) })
      where
        next : (a k b : ℕ) → a < k * b + b → a + 1 ≤ (k + 1) * b
        next a k b h = le_trans (more a (k * b + b) h) (le_of_eq (same k b))
          where
            more : (x y : ℕ) → x < y → x + 1 ≤ y
            more x y h = omega arith

            same : (k b : ℕ) → k * b + b ≡ (k + 1) * b
            same k b = simp (add-mul, one-mul)
    go (no h) =
        let y = n - p in
        let a = 2 * y * md + mn * d - 1 in
        let k = a / (2 * mn * d) in
        subst (λ (n : ℕ). Cut (frac p n d)) (add-sub_of_le (le_of_lt (lt_of_not-le h)))
        (record { neg = true; k = k; low = down_lo p y d k mn md (under (2 * y * md) (mn * d) (k * (2 * mn * d)) (2 * mn * d) (double mn d) (lt-div-mul-add {a = a} {b = 2 * mn * d} unit_pos)); high = down_hi p y d k mn md (lit< tt) (over (2 * y * md) (mn * d) (k * (2 * mn * d)) (mul-pos {m = mn} (lit< tt) vp) (div-mul-le_self a (2 * mn * d))) })
      where
        double : (m d : ℕ) → 2 * m * d ≡ 2 * (m * d)
        double m d = mul_assoc 2 m d

        under : (a c k b : ℕ) → b ≡ 2 * c → a + c - 1 < k + b → a ≤ k + c
        under a c k b e h = omega arith

        over : (a c k : ℕ) → 0 < c → k ≤ a + c - 1 → k + 1 ≤ a + c
        over a c k h l = omega arith

-- ---- the sum at a rest is not negative: it moves from 1, the sum at 0, by less than 1
one_at_zero : le_f (nat_f 1) (exp_sum zero_f)
unfolding exp_sum sum_f pow_f factorial
one_at_zero = lit≤ tt

less_nothing : (x : Frac) → eq_f (sub_f x zero_f) x
less_nothing (frac p n d) = (le_of_eq (simp (ring, zero-mul, add-zero)), le_of_eq (simp (ring, zero-mul, add-zero)))

not_below : (s t : Frac) → Pos t → le_f (nat_f 1) t → le_f (neg_f (sub_f s t)) (nat_f 1) → le_f zero_f s
not_below (frac p n d) (frac q m c) C one h = plain n p d (le_of_mul-le-mul_right {k = c} (go n c q d p m (mul-le-mul_right d one) h) C)
  where
    go : (n c q d p m : ℕ) → (1 * c + m * 1) * d ≤ (q * 1 + 0 * c) * d → (n * c + q * d) * 1 + 0 * (d * c) ≤ 1 * (d * c) + (p * c + m * d) * 1 → n * c ≤ p * c
    go n c q d p m h k = let z = simp (ring, one-mul, zero-mul, add-zero) at h in let y = simp (ring, one-mul, zero-mul, add-zero) at k in omega arith

    plain : (n p d : ℕ) → n ≤ p → 0 * d + n * 1 ≤ p * 1 + 0 * d
    plain n p d h = omega arith

sum_positive : (x : Frac) → Pos x → Pos (exp_sum x)
unfolding exp_sum
sum_positive x h = sum_pos x h 30

sum_above : (r : Frac) → Pos r → Bound r (frac 9 0 25) → le_f zero_f (exp_sum r)
sum_above r rp b = not_below (exp_sum r) (exp_sum zero_f) (sum_positive zero_f (lit< tt)) one_at_zero (le_trans_f (neg_f (sub_f (exp_sum r) (exp_sum zero_f))) (mul_f (frac 9 0 25) (frac 36 0 25)) (nat_f 1) (lit< tt) moved.1 (lit≤ tt))
  where
    moved : Bound (sub_f (exp_sum r) (exp_sum zero_f)) (mul_f (frac 9 0 25) (frac 36 0 25))
    moved = exp_moves r zero_f 9 25 rp (lit< tt) (lit< tt) b (lit≤ tt, lit≤ tt) (bound_eq r (sub_f r zero_f) (frac 9 0 25) rp (less_nothing r) b)

scale_above : (neg : Bool) (k : ℕ) (y : Frac) → le_f zero_f y → le_f zero_f (scale_f neg k y)
scale_above false k (frac p n d) h = go (2 ^ k) p n d (mul-le-mul_right (2 ^ k) h)
  where
    go : (c p n d : ℕ) → (0 * d + n * 1) * c ≤ (p * 1 + 0 * d) * c → 0 * (1 * d) + (c * n + 0 * p) * 1 ≤ (c * p + 0 * n) * 1 + 0 * (1 * d)
    go c p n d h = let z = simp (ring, one-mul, zero-mul, add-zero, zero-add) at h in simp (ring, one-mul, zero-mul, add-zero, zero-add) (omega arith)
scale_above true k (frac p n d) h = go (d * 2 ^ k) p n d h
  where
    go : (c p n d : ℕ) → 0 * d + n * 1 ≤ p * 1 + 0 * d → 0 * c + n * 1 ≤ p * 1 + 0 * c
    go c p n d h = omega arith

-- every v has a value in the bracket of exp, and one that is not negative
pub exp_has_value : (v : Frac) → Pos v → (e : Frac) × ExpValue v e × le_f zero_f e
exp_has_value v vp = go (cut_of v vp)
  where
    go : Cut v → (e : Frac) × ExpValue v e × le_f zero_f e
    go c =
        let km = mul_f (sgn c.neg c.k 1) M in
        let kp = sgn_pos c.neg c.k 1 (lit< tt) in
        let r = rest v c.neg c.k middle in
        let same = add_cong v v (neg_f (mul_f (sgn c.neg c.k 1) middle)) (neg_f km) (eq_refl_f v) (neg_cong (mul_f (sgn c.neg c.k 1) middle) km (mul_cong (sgn c.neg c.k 1) (sgn c.neg c.k 1) middle M (eq_refl_f (sgn c.neg c.k 1)) middle_is)) in
        let rp = add_f_pos v (neg_f (mul_f (sgn c.neg c.k 1) middle)) vp (neg_f_pos (mul_f (sgn c.neg c.k 1) middle) (mul_f_pos (sgn c.neg c.k 1) middle kp middle_pos)) in
        let sp = add_f_pos v (neg_f km) vp (neg_f_pos km (mul_f_pos (sgn c.neg c.k 1) M kp (lit< tt))) in
        let b = bound_eq (sub_f v km) r (frac 9 0 25) sp same (bound_up (sub_f v km) (frac mn 0 (md * 2)) (frac 9 0 25) (lit< tt) (lit≤ tt) (lt_le_f (sub_f v km) (frac mn 0 (md * 2)) c.high, neg_anti_f (frac 0 mn (md * 2)) (sub_f v km) c.low)) in (
          scale_f c.neg c.k (exp_sum r),
          value_of v vp c.neg c.k
              (le_trans_f (neg_f (over_f middle 2)) (frac 0 mn (md * 2)) r (lit< tt) (neg_anti_f (frac mn 0 (md * 2)) (over_f middle 2) half_is.1) (le_trans_f (frac 0 mn (md * 2)) (sub_f v km) r sp c.low same.1))
              (lt_le_trans_f r (frac mn 0 (md * 2)) (over_f middle 2) (lit< tt) half_pos (le_lt_trans_f r (sub_f v km) (frac mn 0 (md * 2)) rp sp same.0 c.high) half_is.1),
          scale_above c.neg c.k (exp_sum r) (sum_above r rp b),
        )

-- ---- the power
takes : (x : Float) → T (fits binary64 x) → T (base_inside x) → T (ln_inside x)
takes x f h = subst (λ (z : Float). T (ln_inside z)) (of_bits-to_bits binary64 x f) (go (to_bits binary64 x) (base_bits x f h).0 (base_bits x f h).1)
  where
    low : (b : ℕ) → 1018 * 2 ^ 52 ≤ b → 4503599627370496 ≤ b
    low b h = omega arith

    high : (b : ℕ) → b ≤ 1028 * 2 ^ 52 → (b ≤ 0x7fef_ffff_ffff_ffff) × (b < 9218868437227405312)
    high b h = (omega arith, omega arith)

    both : (a b : Bool) → T a → T b → T (a && b)
    both false b h k = elim h [ ]
    both true false h k = elim k [ ]
    both true true h k = tt

    go : (b : ℕ) → 1018 * 2 ^ 52 ≤ b → b ≤ 1028 * 2 ^ 52 → T (ln_inside (of_bits binary64 b))
    go b h k = both (le (of_bits binary64 0x0010_0000_0000_0000) (of_bits binary64 b)) (le (of_bits binary64 b) (of_bits binary64 0x7fef_ffff_ffff_ffff)) (bits_mono 0x0010_0000_0000_0000 b (lit≤ tt) (low b h) (high b k).1) (bits_mono b 0x7fef_ffff_ffff_ffff (low b h) (high b k).0 (lit< tt))

pub power_has_value : (x y : Float) → T (fits binary64 x) → T (base_inside x) → (e : Frac) × PowerValue (val_f x) (val_f y) e
power_has_value x y f h = go (ln_has_value x f (takes x f h))
  where
    go : (l : Frac) × LnValue (val_f x) l → (e : Frac) × PowerValue (val_f x) (val_f y) e
    go (l, u) =
        let e = exp_has_value (mul_f (val_f y) l) (mul_f_pos (val_f y) l (val_f_pos y) u.proper.0) in
        (e.0, record { l = l; is_ln = u; is_exp = e.1 })
