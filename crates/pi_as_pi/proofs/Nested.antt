-- The brackets of pi: each lies in the one before. Assumes nothing.
use Prim.Native.Nat.{ℕ, zero, suc, ◌+◌, ◌*◌, ◌^◌, ◌≤◌, ◌<◌}
use native.Mathlib.Nat.{mul-le-mul, mul-le-mul_right, mul-pos, one-le-pow, pow-le-pow_right, zero-lt-suc}
use native.Mathlib.Omega.{arith}
use mathlib.Core.Path.{subst}
use lib.Dec.{lit<, lit≤}
use Rattle.number.specs.Frac.{Frac, frac, Pos, le_f, zero_f, neg_f, add_f, sub_f, mul_f}
use Rattle.number.proofs.Frac.{ring, le_refl_f, le_trans_f, add_f_pos, mul_f_pos, neg_f_pos, add_mono_f, neg_anti_f, keeps_of}
use Rattle.series.specs.Sums.{nat_f, sum_f}
use Rattle.pi_as_pi.specs.Machin.{term, arctan_low, arctan_high, pi_low, pi_high}
use Rattle.pi_as_pi.specs.Statement.{InBracket}

-- ---- fractions
add_zero : (x : Frac) → le_f x (add_f x zero_f)
add_zero (frac p n d) = simp ring (omega arith)

assoc : (x y z : Frac) → le_f (add_f (add_f x y) z) (add_f x (add_f y z))
assoc (frac p n d) (frac q m c) (frac r l b) = simp ring (omega arith)

-- one over a, b and c
apart : (a b : ℕ) → a ≤ b → le_f zero_f (sub_f (frac 1 0 a) (frac 1 0 b))
apart a b h = omega arith

back : (a b c : ℕ) → b ≤ c → le_f (add_f (sub_f (frac 1 0 a) (frac 1 0 b)) (frac 1 0 c)) (frac 1 0 a)
back a b c h = let k = simp ring at (mul-le-mul_right (a * a) h) in simp ring (omega arith)

-- ---- the terms fall
module _ (m : ℕ) (M : 0 < m) where
  under : (k j : ℕ) → k ≤ j → k * m ^ k ≤ j * m ^ j
  under k j h = mul-le-mul h (pow-le-pow_right M h)

  term_pos : (k : ℕ) → 0 < k → Pos (term m k)
  term_pos k K = mul-pos K (one-le-pow k m M)

  pair_pos : (i : ℕ) → Pos (sub_f (term m (4 * i + 1)) (term m (4 * i + 3)))
  pair_pos i = add_f_pos (term m (4 * i + 1)) (neg_f (term m (4 * i + 3))) (term_pos (4 * i + 1) (omega arith)) (neg_f_pos (term m (4 * i + 3)) (term_pos (4 * i + 3) (omega arith)))

  pub low_pos : (n : ℕ) → Pos (arctan_low m n)
  unfolding arctan_low sum_f
  low_pos zero = zero-lt-suc 0
  low_pos (suc n) = add_f_pos (arctan_low m n) (sub_f (term m (4 * n + 1)) (term m (4 * n + 3))) (low_pos n) (pair_pos n)

  pub high_pos : (n : ℕ) → Pos (arctan_high m n)
  unfolding arctan_high
  high_pos n = add_f_pos (arctan_low m n) (term m (4 * n + 1)) (low_pos n) (term_pos (4 * n + 1) (omega arith))

  pub low_rises : (n : ℕ) → le_f (arctan_low m n) (arctan_low m (suc n))
  unfolding arctan_low sum_f
  low_rises n =
      let S = arctan_low m n in
      let t = sub_f (term m (4 * n + 1)) (term m (4 * n + 3)) in
      le_trans_f S (add_f S zero_f) (add_f S t) (add_f_pos S zero_f (low_pos n) (zero-lt-suc 0)) (add_zero S)
      (add_mono_f S S zero_f t (le_refl_f S) (apart _ _ (under (4 * n + 1) (4 * n + 3) (omega arith))))

  pub high_falls : (n : ℕ) → le_f (arctan_high m (suc n)) (arctan_high m n)
  unfolding arctan_high arctan_low sum_f
  high_falls n =
      let S = arctan_low m n in
      let t = term m (4 * n + 1) in
      let u = sub_f t (term m (4 * n + 3)) in
      let v = term m (4 * suc n + 1) in
      le_trans_f (add_f (add_f S u) v) (add_f S (add_f u v)) (add_f S t) (add_f_pos S (add_f u v) (low_pos n) (add_f_pos u v (pair_pos n) (term_pos (4 * suc n + 1) (omega arith)))) (assoc S u v)
      (add_mono_f S S (add_f u v) t (le_refl_f S) (back _ _ _ (under (4 * n + 3) (4 * suc n + 1) (omega arith))))

  pub low_high : (n : ℕ) → le_f (arctan_low m n) (arctan_high m n)
  unfolding arctan_high
  low_high n =
      let S = arctan_low m n in
      let t = term m (4 * n + 1) in
      le_trans_f S (add_f S zero_f) (add_f S t) (add_f_pos S zero_f (low_pos n) (zero-lt-suc 0)) (add_zero S) (add_mono_f S S zero_f t (le_refl_f S) (over_zero (4 * n + 1)))
    where
      over_zero : (k : ℕ) → le_f zero_f (term m k)
      over_zero k = omega arith

-- ---- pi
five : 0 < 5
five = lit< tt

big : 0 < 239
big = lit< tt

parts : (x x' y y' : Frac) → le_f x x' → le_f y y' → le_f (sub_f (mul_f x (nat_f 16)) (mul_f y' (nat_f 4))) (sub_f (mul_f x' (nat_f 16)) (mul_f y (nat_f 4)))
parts x x' y y' h k =
    add_mono_f (mul_f x (nat_f 16)) (mul_f x' (nat_f 16)) (neg_f (mul_f y' (nat_f 4))) (neg_f (mul_f y (nat_f 4))) (keeps_of (nat_f 16) (lit≤ tt) x x' h)
    (neg_anti_f (mul_f y (nat_f 4)) (mul_f y' (nat_f 4)) (keeps_of (nat_f 4) (lit≤ tt) y y' k))

parts_pos : (x y : Frac) → Pos x → Pos y → Pos (sub_f (mul_f x (nat_f 16)) (mul_f y (nat_f 4)))
parts_pos x y X Y = add_f_pos (mul_f x (nat_f 16)) (neg_f (mul_f y (nat_f 4))) (mul_f_pos x (nat_f 16) X (zero-lt-suc 0)) (neg_f_pos (mul_f y (nat_f 4)) (mul_f_pos y (nat_f 4) Y (zero-lt-suc 0)))

pub pi_low_pos : (n : ℕ) → Pos (pi_low n)
unfolding pi_low
pi_low_pos n = parts_pos (arctan_low 5 n) (arctan_high 239 n) (low_pos 5 five n) (high_pos 239 big n)

pub pi_high_pos : (n : ℕ) → Pos (pi_high n)
unfolding pi_high
pi_high_pos n = parts_pos (arctan_high 5 n) (arctan_low 239 n) (high_pos 5 five n) (low_pos 239 big n)

low_next : (n : ℕ) → le_f (pi_low n) (pi_low (suc n))
unfolding pi_low
low_next n = parts (arctan_low 5 n) (arctan_low 5 (suc n)) (arctan_high 239 (suc n)) (arctan_high 239 n) (low_rises 5 five n) (high_falls 239 big n)

high_next : (n : ℕ) → le_f (pi_high (suc n)) (pi_high n)
unfolding pi_high
high_next n = parts (arctan_high 5 (suc n)) (arctan_high 5 n) (arctan_low 239 n) (arctan_low 239 (suc n)) (high_falls 5 five n) (low_rises 239 big n)

low_under : (n : ℕ) → le_f (pi_low n) (pi_high n)
unfolding pi_low pi_high
low_under n = parts (arctan_low 5 n) (arctan_high 5 n) (arctan_low 239 n) (arctan_high 239 n) (low_high 5 five n) (low_high 239 big n)

pub holds : (n : ℕ) → InBracket n (pi_low n) × InBracket n (pi_high n)
holds n = (record { proper = pi_low_pos n; low = le_refl_f (pi_low n); high = low_under n }, record { proper = pi_high_pos n; low = low_under n; high = le_refl_f (pi_high n) })

pub narrows : (n : ℕ) (p : Frac) → InBracket (suc n) p → InBracket n p
narrows n p h =
    record {
      proper = h.proper;
      low = le_trans_f (pi_low n) (pi_low (suc n)) p (pi_low_pos (suc n)) (low_next n) h.low;
      high = le_trans_f p (pi_high (suc n)) (pi_high n) (pi_high_pos (suc n)) h.high (high_next n);
    }

-- so a later bracket lies in an earlier one
pub within : (d n : ℕ) (p : Frac) → InBracket (d + n) p → InBracket n p
within zero n p h = subst (λ (k : ℕ). InBracket k p) (omega arith) h
within (suc d) n p h = within d n p (narrows (d + n) p (subst (λ (k : ℕ). InBracket k p) (omega arith) h))
