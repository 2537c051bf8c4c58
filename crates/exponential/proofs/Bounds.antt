-- Sizes of fractions, |x| ≤ a, through sums, products and powers; and that exp's sum moves by at most 36/25 of its argument's move, for arguments of at most 9/25. Assumes nothing.
use mathlib.Core.Path.{◌≡◌, ap, ◌∙◌, subst}
use Prim.Native.Nat.{ℕ, zero, suc, ◌+◌, ◌*◌, ◌≤◌, ◌<◌}
use native.Mathlib.Nat.{mul-zero, zero-mul, one-mul, add-zero, le_dest, mul-le-mul_right}
use native.Mathlib.Omega.{arith}
use lib.Dec.{lit<, lit≤}
use Rattle.number.specs.Frac.{Frac, frac, Pos, le_f, neg_f, add_f, sub_f, mul_f, zero_f}
use Rattle.number.proofs.Frac.{ring, le_trans_f, add_mono_f, neg_anti_f, add_f_pos, mul_f_pos, neg_f_pos}
use Rattle.series.specs.Sums.{nat_f, over_f, eq_f, pow_f, sum_f, factorial}
use Rattle.series.specs.Exact.{exp_term, exp_sum}
use Rattle.series.proofs.Constants.{leb→le_f}
use Rattle.series.proofs.Fractions.{over_pos}
use Rattle.exponential.proofs.Literal.{factorial_pos}

-- |x| ≤ a
abbrev pub Bound : Frac → Frac → Type 0
Bound x a = le_f x a × le_f (neg_f x) a

pub bound_eq : (x y a : Frac) → Pos x → eq_f y x → Bound x a → Bound y a
bound_eq x y a X e h = (le_trans_f y x a X e.0 h.0, le_trans_f (neg_f y) (neg_f x) a (neg_f_pos x X) (neg_anti_f x y e.1) h.1)

pub bound_up : (x a b : Frac) → Pos a → le_f a b → Bound x a → Bound x b
bound_up x a b A l h = (le_trans_f x a b A h.0 l, le_trans_f (neg_f x) a b A h.1 l)

pub bound_add : (x y a b : Frac) → Bound x a → Bound y b → Bound (add_f x y) (add_f a b)
bound_add (frac p n d) (frac q m c) a b h k = (add_mono_f (frac p n d) a (frac q m c) b h.0 k.0, add_mono_f (frac n p d) a (frac m q c) b h.1 k.1)

-- ---- products
-- a ≤ b and c ≤ d: (b - a) (d - c) is not negative
rearranged : (a b c d : ℕ) → a ≤ b → c ≤ d → a * d + b * c ≤ a * c + b * d
rearranged a b c d h k = go (le_dest h) (le_dest k)
  where
    go : (x : ℕ) × (a + x ≡ b) → (y : ℕ) × (c + y ≡ d) → a * d + b * c ≤ a * c + b * d
    go (x, e) (y, f) = subst (λ (b : ℕ). a * d + b * c ≤ a * c + b * d) e (subst (λ (d : ℕ). a * d + (a + x) * c ≤ a * c + (a + x) * d) f (simp ring (omega arith)))

-- |P - N| ≤ Q - R and |p - n| ≤ q - r
corner : (P N Q R p n q r : ℕ) → P + R ≤ Q + N → N + R ≤ Q + P → p + r ≤ q + n → n + r ≤ q + p → P * p + N * n + (Q * r + R * q) ≤ Q * q + R * r + (P * n + N * p)
corner P N Q R p n q r a b c d =
    let u = simp ring at (rearranged (P + R) (Q + N) (n + r) (q + p) a d) in
    let v = simp ring at (rearranged (N + R) (Q + P) (p + r) (q + n) b c) in
    omega arith

upper_product : (p n d q m c p' n' d' q' m' c' : ℕ) → Bound (frac p n d) (frac q m c) → Bound (frac p' n' d') (frac q' m' c') → le_f (mul_f (frac p n d) (frac p' n' d')) (mul_f (frac q m c) (frac q' m' c'))
upper_product p n d q m c p' n' d' q' m' c' h k =
    let z = simp ring at (corner (p * c) (n * c) (q * d) (m * d) (p' * c') (n' * c') (q' * d') (m' * d') h.0 h.1 k.0 k.1) in
    simp ring (omega arith)

pub bound_mul : (x y a b : Frac) → Bound x a → Bound y b → Bound (mul_f x y) (mul_f a b)
bound_mul (frac p n d) (frac p' n' d') (frac q m c) (frac q' m' c') h k = (
  upper_product p n d q m c p' n' d' q' m' c' h k,
  subst (λ (z : Frac). le_f z (mul_f (frac q m c) (frac q' m' c'))) (turned n p p' n' (d * d')) (upper_product n p d q m c p' n' d' q' m' c' (h.1, h.0) k),
)
  where
    turned : (n p p' n' e : ℕ) → frac (n * p' + p * n') (n * n' + p * p') e ≡ frac (p * n' + n * p') (p * p' + n * n') e
    turned n p p' n' e = ap (λ (z : ℕ). frac z (n * n' + p * p') e) (lin (n * p') (p * n')) ∙ ap (λ (z : ℕ). frac (p * n' + n * p') z e) (lin (n * n') (p * p'))
      where
        lin : (a b : ℕ) → a + b ≡ b + a
        lin a b = omega arith

-- ---- powers
pub pow_f_pos : (x : Frac) → Pos x → (i : ℕ) → Pos (pow_f x i)
unfolding pow_f
pow_f_pos x X zero = lit< tt
pow_f_pos x X (suc i) = mul_f_pos (pow_f x i) x (pow_f_pos x X i) X

pub bound_power : (x m : Frac) → Bound x m → (i : ℕ) → Bound (pow_f x i) (pow_f m i)
unfolding pow_f
bound_power x m h zero = (lit≤ tt, lit≤ tt)
bound_power x m h (suc i) = bound_mul (pow_f x i) x (pow_f m i) m (bound_power x m h i) h

-- ---- identities of fractions
-- X x - Y y = X (x - y) + (X - Y) y
split_F : (u v x y : Frac) → eq_f (sub_f (mul_f u x) (mul_f v y)) (add_f (mul_f u (sub_f x y)) (mul_f (sub_f u v) y))
split_F (frac a b c) (frac a' b' c') (frac p n d) (frac p' n' d') = (simp ring (omega arith), simp ring (omega arith))

-- (q m) e + (e (k q)) m = e ((k + 1) (q m))
collect : (q m e : Frac) (k : ℕ) → le_f (add_f (mul_f (mul_f q m) e) (mul_f (mul_f e (mul_f (nat_f k) q)) m)) (mul_f e (mul_f (nat_f (suc k)) (mul_f q m)))
collect (frac a b c) (frac p n d) (frac r s f) k = subst (λ (z : ℕ). le_f (add_f (mul_f (mul_f (frac a b c) (frac p n d)) (frac r s f)) (mul_f (mul_f (frac r s f) (mul_f (nat_f k) (frac a b c))) (frac p n d))) (mul_f (frac r s f) (mul_f (nat_f z) (mul_f (frac a b c) (frac p n d))))) (one k) (nums k a b c p n d r s f)
  where
    one : (k : ℕ) → k + 1 ≡ suc k
    one k = omega arith

    nums : (k a b c p n d r s f : ℕ) → le_f (add_f (mul_f (mul_f (frac a b c) (frac p n d)) (frac r s f)) (mul_f (mul_f (frac r s f) (mul_f (nat_f k) (frac a b c))) (frac p n d))) (mul_f (frac r s f) (mul_f (nat_f (k + 1)) (mul_f (frac a b c) (frac p n d))))
    nums k a b c p n d r s f = simp (ring, one-mul, zero-mul, add-zero) (omega arith)

-- a bound of x - y is one of x / (f k) - y / (f k)
over : (p n d q m c a b g r s h f k : ℕ) → Bound (sub_f (frac p n d) (frac q m c)) (mul_f (frac r s h) (mul_f (nat_f k) (frac a b g)))
    → Bound (sub_f (over_f (frac p n d) (f * k)) (over_f (frac q m c) (f * k))) (mul_f (frac r s h) (over_f (frac a b g) f))
over p n d q m c a b g r s h f k l =
    let u = simp (ring, one-mul, zero-mul, add-zero) at (mul-le-mul_right (f * k * f) l.0) in
    let v = simp (ring, one-mul, zero-mul, add-zero) at (mul-le-mul_right (f * k * f) l.1) in
    (simp ring (omega arith), simp ring (omega arith))

-- (u + a) - (v + b) = (u - v) + (a - b)
pub apart : (u a v b : Frac) → eq_f (sub_f (add_f u a) (add_f v b)) (add_f (sub_f u v) (sub_f a b))
apart (frac p n d) (frac p' n' d') (frac q m c) (frac q' m' c') = (simp ring (omega arith), simp ring (omega arith))

-- e q + e r = e (q + r)
pub together : (e q r : Frac) → le_f (add_f (mul_f e q) (mul_f e r)) (mul_f e (add_f q r))
together (frac p n d) (frac p' n' d') (frac q m c) = simp ring (omega arith)

-- the first term is 1
first_moves : (x y e : Frac) → Bound (sub_f (sum_f 1 (exp_term x)) (sum_f 1 (exp_term y))) (mul_f e zero_f)
unfolding sum_f pow_f factorial
first_moves x y (frac r s f) = (simp (mul-zero, add-zero) (omega arith), simp (mul-zero, add-zero) (omega arith))

pub sub_pos : (u v : Frac) → Pos u → Pos v → Pos (sub_f u v)
sub_pos u v U W = add_f_pos u (neg_f v) U (neg_f_pos v W)

pub term_pos : (x : Frac) → Pos x → (k : ℕ) → Pos (exp_term x k)
term_pos x X k = over_pos (pow_f x k) (factorial k) (pow_f_pos x X k) (factorial_pos k)

pub sum_pos : (x : Frac) → Pos x → (k : ℕ) → Pos (sum_f k (exp_term x))
unfolding sum_f
sum_pos x X zero = lit< tt
sum_pos x X (suc k) = add_f_pos (sum_f k (exp_term x)) (exp_term x k) (sum_pos x X k) (term_pos x X k)

-- ---- the difference of two powers: x^(i+1) - y^(i+1), where |x| and |y| are at most m and |x - y| at most e, is at most e (i + 1) m^i
module _ (x y m e : Frac) (X : Pos x) (Y : Pos y) (M : Pos m) (E : Pos e) (hx : Bound x m) (hy : Bound y m) (hd : Bound (sub_f x y) e) where
  pub power_moves : (i : ℕ) → Bound (sub_f (pow_f x (suc i)) (pow_f y (suc i))) (mul_f e (mul_f (nat_f (suc i)) (pow_f m i)))
  unfolding pow_f
  power_moves zero = bound_eq (sub_f x y) (sub_f (mul_f (nat_f 1) x) (mul_f (nat_f 1) y)) (mul_f e (mul_f (nat_f 1) (nat_f 1))) (sub_pos x y X Y) (first x y) (bound_up (sub_f x y) e (mul_f e (mul_f (nat_f 1) (nat_f 1))) E (last e) hd)
    where
      first : (x y : Frac) → eq_f (sub_f (mul_f (nat_f 1) x) (mul_f (nat_f 1) y)) (sub_f x y)
      first (frac p n d) (frac q m c) = (simp (one-mul, zero-mul, add-zero) (omega arith), simp (one-mul, zero-mul, add-zero) (omega arith))

      last : (e : Frac) → le_f e (mul_f e (mul_f (nat_f 1) (nat_f 1)))
      last (frac r s f) = omega arith
  power_moves (suc i) =
      let u = pow_f x (suc i) in
      let v = pow_f y (suc i) in
      let U = pow_f_pos x X (suc i) in
      let V₁ = pow_f_pos y Y (suc i) in
      let q = pow_f m i in
      let Q = pow_f_pos m M i in
      let k = nat_f (suc i) in
      let a = mul_f u (sub_f x y) in
      let b = mul_f (sub_f u v) y in
      let a' = mul_f (mul_f q m) e in
      let b' = mul_f (mul_f e (mul_f k q)) m in
      bound_eq (add_f a b) (sub_f (mul_f u x) (mul_f v y)) (mul_f e (mul_f (nat_f (suc (suc i))) (mul_f q m))) (add_f_pos a b (mul_f_pos u (sub_f x y) U (sub_pos x y X Y)) (mul_f_pos (sub_f u v) y (sub_pos u v U V₁) Y)) (split_F u v x y)
      (bound_up (add_f a b) (add_f a' b') (mul_f e (mul_f (nat_f (suc (suc i))) (mul_f q m))) (add_f_pos a' b' (mul_f_pos (mul_f q m) e (mul_f_pos q m Q M) E) (mul_f_pos (mul_f e (mul_f k q)) m (mul_f_pos e (mul_f k q) E (mul_f_pos k q (lit< tt) Q)) M)) (collect q m e (suc i))
      (bound_add a b a' b' (bound_mul u (sub_f x y) (mul_f q m) e (bound_power x m hx (suc i)) hd) (bound_mul (sub_f u v) y (mul_f e (mul_f k q)) m (power_moves i) hy)))

  -- ---- the terms and the sum
  pub term_moves : (k : ℕ) → Bound (sub_f (exp_term x (suc k)) (exp_term y (suc k))) (mul_f e (exp_term m k))
  unfolding factorial
  term_moves k =
      go (pow_f x (suc k)) (pow_f y (suc k)) (pow_f m k) e (factorial k) (power_moves k)
    where
      go : (u v q e : Frac) (f : ℕ) → Bound (sub_f u v) (mul_f e (mul_f (nat_f (suc k)) q)) → Bound (sub_f (over_f u (f * suc k)) (over_f v (f * suc k))) (mul_f e (over_f q f))
      go (frac p n d) (frac q m c) (frac a b g) (frac r s h) f l = over p n d q m c a b g r s h f (suc k) l

  -- the sums of k + 1 terms
  pub sum_moves : (k : ℕ) → Bound (sub_f (sum_f (suc k) (exp_term x)) (sum_f (suc k) (exp_term y))) (mul_f e (sum_f k (exp_term m)))
  unfolding sum_f
  sum_moves zero = first_moves x y e
  sum_moves (suc k) =
      let u = sum_f (suc k) (exp_term x) in
      let v = sum_f (suc k) (exp_term y) in
      let a = exp_term x (suc k) in
      let b = exp_term y (suc k) in
      let q = sum_f k (exp_term m) in
      let r = exp_term m k in
      let U = sum_pos x X (suc k) in
      let V₁ = sum_pos y Y (suc k) in
      let A = term_pos x X (suc k) in
      let B = term_pos y Y (suc k) in
      bound_eq (add_f (sub_f u v) (sub_f a b)) (sub_f (add_f u a) (add_f v b)) (mul_f e (add_f q r)) (add_f_pos (sub_f u v) (sub_f a b) (sub_pos u v U V₁) (sub_pos a b A B)) (apart u a v b)
      (bound_up (add_f (sub_f u v) (sub_f a b)) (add_f (mul_f e q) (mul_f e r)) (mul_f e (add_f q r)) (add_f_pos (mul_f e q) (mul_f e r) (mul_f_pos e q E (sum_pos m M k)) (mul_f_pos e r E (term_pos m M k))) (together e q r)
      (bound_add (sub_f u v) (sub_f a b) (mul_f e q) (mul_f e r) (sum_moves k) (term_moves k)))

-- ---- arguments of at most 9/25
-- twenty-nine terms of exp at 9/25 are at most 36/25
top_sum : le_f (sum_f 29 (exp_term (frac 9 0 25))) (frac 36 0 25)
unfolding sum_f pow_f factorial
top_sum = leb→le_f (sum_f 29 (exp_term (frac 9 0 25))) (frac 36 0 25) tt

pub scaled : (d f : ℕ) (x y : Frac) → le_f x y → le_f (mul_f (frac d 0 f) x) (mul_f (frac d 0 f) y)
scaled d f (frac p n c) (frac p' n' c') h = go d f p n c p' n' c' (mul-le-mul_right (d * f) h)
  where
    go : (d f p n c p' n' c' : ℕ) → (p * c' + n' * c) * (d * f) ≤ (p' * c + n * c') * (d * f) → (d * p + 0 * n) * (f * c') + (d * n' + 0 * p') * (f * c) ≤ (d * p' + 0 * n') * (f * c) + (d * n + 0 * p) * (f * c')
    go d f p n c p' n' c' h = let z = simp ring at h in simp (ring, zero-mul, add-zero) (omega arith)

pub exp_moves : (x y : Frac) (d f : ℕ) → Pos x → Pos y → 0 < f → Bound x (frac 9 0 25) → Bound y (frac 9 0 25) → Bound (sub_f x y) (frac d 0 f) → Bound (sub_f (exp_sum x) (exp_sum y)) (mul_f (frac d 0 f) (frac 36 0 25))
unfolding exp_sum
exp_moves x y d f X Y F hx hy h =
    bound_up (sub_f (sum_f 30 (exp_term x)) (sum_f 30 (exp_term y))) (mul_f (frac d 0 f) (sum_f 29 (exp_term (frac 9 0 25)))) (mul_f (frac d 0 f) (frac 36 0 25)) (mul_f_pos (frac d 0 f) (sum_f 29 (exp_term (frac 9 0 25))) F (sum_pos (frac 9 0 25) (lit< tt) 29)) (scaled d f (sum_f 29 (exp_term (frac 9 0 25))) (frac 36 0 25) top_sum)
    (sum_moves x y (frac 9 0 25) (frac d 0 f) X Y (lit< tt) F hx hy h 29)
