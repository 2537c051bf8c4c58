-- exp_m1 of a tiny argument is the argument: within 2 ^ -48 of every value of document 01's bracket. Assumes nothing.
use mathlib.Core.Path.{◌≡◌, subst}
use mathlib.Core.Bool.{Bool, true, false}
use Prim.Native.Nat.{ℕ, ◌+◌, ◌*◌, ◌^◌, ◌≤◌, ◌<◌}
use native.Mathlib.Nat.{mul-zero, zero-mul, one-mul, mul-one, add-zero, zero-add, mul-pos, mul-le-mul_right, le_of_mul-le-mul_right}
use native.Mathlib.Omega.{arith}
use lib.Dec.{lit<, lit≤}
use Rattle.number.specs.Frac.{Frac, frac, Pos, le_f, neg_f, add_f, sub_f, mul_f, sgn}
use Rattle.number.proofs.Frac.{ring, le_trans_f, le_refl_f, lt_le_f, add_mono_f, neg_anti_f, add_f_pos, mul_f_pos, neg_f_pos}
use Rattle.series.specs.Sums.{nat_f, over_f, eq_f, sum_f, scale_f, abs_f, pow_f, factorial}
use Rattle.series.specs.Exact.{ExpValue, exp_term, exp_sum, exp_tail, middle, rest}
use Rattle.series.specs.Distance.{within}
use Rattle.exponential.proofs.Literal.{factorial_pos}
use Rattle.exponential.proofs.Bounds.{Bound, bound_up, exp_moves, sum_pos, pow_f_pos}
use Rattle.series.proofs.Fractions.{over_pos}
use Rattle.exponential.proofs.AtZero.{no_cut, unscaled, scale_pos, same_size, rest_pos}
use Rattle.exponential.proofs.Tiny.{tail_part, sum_near, first_two}
use Rattle.exponential.proofs.Value.{within_of}
use Rattle.exponential.proofs.PackedNear.{one_times, turned}

-- ---- no difference
zero_apart : (a b : Frac) → Bound (sub_f a b) (mul_f (frac 0 0 1) (frac 36 0 25)) → le_f a b × le_f b a
zero_apart (frac p n d) (frac q m c) h = (one p n d q m c h.0, two p n d q m c h.1)
  where
    one : (p n d q m c : ℕ) → le_f (sub_f (frac p n d) (frac q m c)) (mul_f (frac 0 0 1) (frac 36 0 25)) → le_f (frac p n d) (frac q m c)
    one p n d q m c h = let k = simp (ring, zero-mul, add-zero, zero-add) at h in omega arith

    two : (p n d q m c : ℕ) → le_f (neg_f (sub_f (frac p n d) (frac q m c))) (mul_f (frac 0 0 1) (frac 36 0 25)) → le_f (frac q m c) (frac p n d)
    two p n d q m c h = let k = simp (ring, zero-mul, add-zero, zero-add) at h in omega arith

-- a ≤ b + x from a - b ≤ x
pub moved : (a b x : Frac) → Pos b → le_f (sub_f a b) x → le_f a (add_f b x)
moved (frac p n d) (frac q m c) (frac r s f) B h = le_of_mul-le-mul_right {k = c} (go p n d q m c r s f (mul-le-mul_right c h)) B
  where
    go : (p n d q m c r s f : ℕ) → ((p * c + m * d) * f + s * (d * c)) * c ≤ (r * (d * c) + (n * c + q * d) * f) * c → (p * (c * f) + (m * f + s * c) * d) * c ≤ ((q * f + r * c) * d + n * (c * f)) * c
    go p n d q m c r s f h = let k = simp ring at h in simp ring (omega arith)

pub moved_back : (a b x : Frac) → Pos a → le_f (neg_f (sub_f a b)) x → le_f b (add_f a x)
moved_back (frac p n d) (frac q m c) (frac r s f) A h = le_of_mul-le-mul_right {k = d} (go p n d q m c r s f (mul-le-mul_right d h)) A
  where
    go : (p n d q m c r s f : ℕ) → ((n * c + q * d) * f + s * (d * c)) * d ≤ (r * (d * c) + (p * c + m * d) * f) * d → (q * (d * f) + (n * f + s * d) * c) * d ≤ ((p * f + r * d) * c + m * (d * f)) * d
    go p n d q m c r s f h = let k = simp ring at h in simp ring (omega arith)

-- the two errors together are at most a part of 2 ^ 52
errors : (z : Frac) (n d : ℕ) → le_f (add_f (add_f z (mul_f (frac n 0 d) (frac 1 0 (2 ^ 53)))) (frac n 0 (d * 2 ^ 60))) (add_f z (frac n 0 (d * 2 ^ 52)))
errors (frac p m c) n d = go p m c n d (2 ^ 52)
  where
    go : (p m c n d E : ℕ) → le_f (add_f (add_f (frac p m c) (mul_f (frac n 0 d) (frac 1 0 (2 * E)))) (frac n 0 (d * (256 * E)))) (add_f (frac p m c) (frac n 0 (d * E)))
    go p m c n d E = simp (ring, one-mul, mul-one, mul-zero, zero-mul, add-zero, zero-add) (omega arith)

errors_turned : (z : Frac) (n d : ℕ) → le_f (add_f (add_f z (frac n 0 (d * 2 ^ 60))) (mul_f (frac n 0 d) (frac 1 0 (2 ^ 53)))) (add_f z (frac n 0 (d * 2 ^ 52)))
errors_turned (frac p m c) n d = go p m c n d (2 ^ 52)
  where
    go : (p m c n d E : ℕ) → le_f (add_f (add_f (frac p m c) (frac n 0 (d * (256 * E)))) (mul_f (frac n 0 d) (frac 1 0 (2 * E)))) (add_f (frac p m c) (frac n 0 (d * E)))
    go p m c n d E = simp (ring, one-mul, mul-one, mul-zero, zero-mul, add-zero, zero-add) (omega arith)

-- ---- e against 1 + v
module _ (v e l : Frac) (n d : ℕ) (P : Pos v) (E : Pos e) (L : Pos l) (D : 0 < d) (small : Bound v (frac 1 0 (2 ^ 54))) (size : Bound v (frac n 0 d)) where
  abbrev t : Frac
  t = sub_f v (mul_f (frac 0 0 1) l)

  abbrev one_and : Frac
  one_and = add_f (nat_f 1) v

  t_pos : Pos t
  t_pos = rest_pos v l P L

  v_size : Bound v (frac 9 0 25)
  v_size = bound_up v (frac 1 0 (2 ^ 54)) (frac 9 0 25) (lit< tt) (lit≤ tt) small

  sum_at : (x : Frac) → Pos x → Pos (exp_sum x)
  unfolding exp_sum
  sum_at x X₁ = sum_pos x X₁ 30

  tail_at : (x : Frac) → Pos x → Pos (exp_tail x)
  unfolding exp_tail
  tail_at (frac p n d) X₁ = over_pos (mul_f (nat_f 2) (pow_f (abs_f (frac p n d)) 30)) (factorial 30) (mul_f_pos (nat_f 2) (pow_f (abs_f (frac p n d)) 30) (lit< tt) (pow_f_pos (abs_f (frac p n d)) X₁ 30)) (factorial_pos 30)

  same : le_f (exp_sum t) (exp_sum v) × le_f (exp_sum v) (exp_sum t)
  same = zero_apart (exp_sum t) (exp_sum v) (exp_moves t v 0 1 t_pos P (lit< tt) (same_size v l 9 25 P v_size) v_size no_move)
    where
      no_move : Bound (sub_f t v) (frac 0 0 1)
      no_move = go v l
        where
          nums : (p n d q m c : ℕ) → le_f (sub_f (sub_f (frac p n d) (mul_f (frac 0 0 1) (frac q m c))) (frac p n d)) (frac 0 0 1)
          nums p n d q m c = simp (ring, one-mul, mul-one, mul-zero, zero-mul, add-zero, zero-add) (omega arith)

          turn : (p n d q m c : ℕ) → le_f (neg_f (sub_f (sub_f (frac p n d) (mul_f (frac 0 0 1) (frac q m c))) (frac p n d))) (frac 0 0 1)
          turn p n d q m c = simp (ring, one-mul, mul-one, mul-zero, zero-mul, add-zero, zero-add) (omega arith)

          go : (v l : Frac) → Bound (sub_f (sub_f v (mul_f (frac 0 0 1) l)) v) (frac 0 0 1)
          go (frac p n d) (frac q m c) = (nums p n d q m c, turn p n d q m c)

  tail : le_f (exp_tail t) (frac n 0 (d * 2 ^ 60))
  tail = tail_part t n d t_pos D (same_size v l 9 25 P v_size) (same_size v l n d P size)

  abbrev part : Frac
  part = mul_f (frac n 0 d) (frac 1 0 (2 ^ 53))

  part_pos : Pos part
  part_pos = mul-pos D (lit< tt)

  two_pos : Pos (sum_f 2 (exp_term v))
  two_pos = sum_pos v P 2

  one_pos : Pos one_and
  one_pos = add_f_pos (nat_f 1) v (lit< tt) P

  sum_up : le_f (exp_sum v) (add_f one_and part)
  sum_up = le_trans_f (exp_sum v) (add_f (sum_f 2 (exp_term v)) part) (add_f one_and part) (add_f_pos (sum_f 2 (exp_term v)) part two_pos part_pos) (moved (exp_sum v) (sum_f 2 (exp_term v)) part two_pos (sum_near v n d P D small size).0) (add_mono_f (sum_f 2 (exp_term v)) one_and part part (first_two v).0 (le_refl_f part))

  sum_down : le_f one_and (add_f (exp_sum v) part)
  sum_down = le_trans_f one_and (sum_f 2 (exp_term v)) (add_f (exp_sum v) part) two_pos (first_two v).1 (moved_back (exp_sum v) (sum_f 2 (exp_term v)) part (sum_at v P) (sum_near v n d P D small size).1)

  abbrev θ : Frac
  θ = frac n 0 (d * 2 ^ 60)

  θ_pos : Pos θ
  θ_pos = mul-pos D (lit< tt)

  pub tiny_up : le_f e (add_f (exp_sum t) (exp_tail t)) → le_f e (add_f one_and (frac n 0 (d * 2 ^ 52)))
  tiny_up h =
      le_trans_f e (add_f (exp_sum t) (exp_tail t)) (add_f one_and (frac n 0 (d * 2 ^ 52))) (add_f_pos (exp_sum t) (exp_tail t) (sum_at t t_pos) (tail_at t t_pos)) h
      (le_trans_f (add_f (exp_sum t) (exp_tail t)) (add_f (add_f one_and part) θ) (add_f one_and (frac n 0 (d * 2 ^ 52))) (add_f_pos (add_f one_and part) θ (add_f_pos one_and part one_pos part_pos) θ_pos)
      (add_mono_f (exp_sum t) (add_f one_and part) (exp_tail t) θ (le_trans_f (exp_sum t) (exp_sum v) (add_f one_and part) (sum_at v P) same.0 sum_up) tail) (errors one_and n d))

  pub tiny_down : le_f (sub_f (exp_sum t) (exp_tail t)) e → le_f one_and (add_f e (frac n 0 (d * 2 ^ 52)))
  tiny_down h =
      le_trans_f one_and (add_f (exp_sum v) part) (add_f e (frac n 0 (d * 2 ^ 52))) (add_f_pos (exp_sum v) part (sum_at v P) part_pos) sum_down
      (le_trans_f (add_f (exp_sum v) part) (add_f (add_f e θ) part) (add_f e (frac n 0 (d * 2 ^ 52))) (add_f_pos (add_f e θ) part (add_f_pos e θ E θ_pos) part_pos)
      (add_mono_f (exp_sum v) (add_f e θ) part part (le_trans_f (exp_sum v) (exp_sum t) (add_f e θ) (sum_at t t_pos) same.1 (le_trans_f (exp_sum t) (add_f e (exp_tail t)) (add_f e θ) (add_f_pos e (exp_tail t) E (tail_at t t_pos)) (put (exp_sum t) (exp_tail t) e (tail_at t t_pos) h) (add_mono_f e e (exp_tail t) θ (le_refl_f e) tail))) (le_refl_f part))
      (errors_turned e n d))
    where
      put : (s t e : Frac) → Pos t → le_f (sub_f s t) e → le_f s (add_f e t)
      put (frac p n d) (frac q m c) (frac r s f) C h = le_of_mul-le-mul_right {k = c} (go p n d q m c r s f (mul-le-mul_right c h)) C
        where
          go : (p n d q m c r s f : ℕ) → ((p * c + m * d) * f + s * (d * c)) * c ≤ (r * (d * c) + (n * c + q * d) * f) * c → (p * (f * c) + (s * c + m * f) * d) * c ≤ ((r * c + q * f) * d + n * (f * c)) * c
          go p n d q m c r s f h = let k = simp ring at h in simp ring (omega arith)

-- ---- from the record of document 01's value
module _ (v e : Frac) (n d : ℕ) (P : Pos v) (D : 0 < d) (small : Bound v (frac 1 0 (2 ^ 54))) (size : Bound v (frac n 0 d)) where
  quarter : Bound v (frac 1 0 4)
  quarter = bound_up v (frac 1 0 (2 ^ 54)) (frac 1 0 4) (lit< tt) (lit≤ tt) small

  abbrev δ : Frac
  δ = frac n 0 (d * 2 ^ 52)

  uncut : (neg : Bool) (k : ℕ) → le_f (neg_f (over_f middle 2)) (rest v neg k middle) → le_f (rest v neg k middle) (over_f middle 2) → k ≡ 0
  uncut false k l u = none k (no_cut v k 0 P quarter l u).0
    where
      none : (k : ℕ) → k ≤ 0 → k ≡ 0
      none k h = omega arith
  uncut true k l u = none k (no_cut v 0 k P quarter l u).1
    where
      none : (k : ℕ) → k ≤ 0 → k ≡ 0
      none k h = omega arith

  at_sign : (neg : Bool) (l : Frac) → Pos e → Pos l → le_f (scale_f neg 0 (sub_f (exp_sum (sub_f v (mul_f (frac 0 0 1) l))) (exp_tail (sub_f v (mul_f (frac 0 0 1) l))))) e → le_f e (scale_f neg 0 (add_f (exp_sum (sub_f v (mul_f (frac 0 0 1) l))) (exp_tail (sub_f v (mul_f (frac 0 0 1) l)))))
      → le_f e (add_f (add_f (nat_f 1) v) δ) × le_f (add_f (nat_f 1) v) (add_f e δ)
  at_sign neg l E L low high =
      let t = sub_f v (mul_f (frac 0 0 1) l) in
      let y = sub_f (exp_sum t) (exp_tail t) in
      let z = add_f (exp_sum t) (exp_tail t) in
      let sp = sum_at v e l n d P E L D small size t (rest_pos v l P L) in
      let tp = tail_at v e l n d P E L D small size t (rest_pos v l P L) in (
        tiny_up v e l n d P E L D small size (le_trans_f e (scale_f neg 0 z) z (scale_pos neg z (add_f_pos (exp_sum t) (exp_tail t) sp tp)) high (unscaled neg z).0),
        tiny_down v e l n d P E L D small size (le_trans_f y (scale_f neg 0 y) e (scale_pos neg y (add_f_pos (exp_sum t) (neg_f (exp_tail t)) sp (neg_f_pos (exp_tail t) tp))) (unscaled neg y).1 low),
      )

  by_sign : (neg : Bool) (l : Frac) → Pos e → Pos l → le_f (scale_f neg 0 (sub_f (exp_sum (rest v neg 0 l)) (exp_tail (rest v neg 0 l)))) e → le_f e (scale_f neg 0 (add_f (exp_sum (rest v neg 0 l)) (exp_tail (rest v neg 0 l))))
      → le_f e (add_f (add_f (nat_f 1) v) δ) × le_f (add_f (nat_f 1) v) (add_f e δ)
  by_sign false l E L low high = at_sign false l E L low high
  by_sign true l E L low high = at_sign true l E L low high

  pub tiny_value : ExpValue v e → le_f e (add_f (add_f (nat_f 1) v) δ) × le_f (add_f (nat_f 1) v) (add_f e δ)
  tiny_value x =
      let k0 = uncut x.neg x.k x.range.0 (lt_le_f (rest v x.neg x.k middle) (over_f middle 2) x.range.1) in
      by_sign x.neg x.l x.proper.0 x.proper.1
      (subst (λ (k : ℕ). le_f (scale_f x.neg k (sub_f (exp_sum (rest v x.neg k x.l)) (exp_tail (rest v x.neg k x.l)))) e) k0 x.low)
      (subst (λ (k : ℕ). le_f e (scale_f x.neg k (add_f (exp_sum (rest v x.neg k x.l)) (exp_tail (rest v x.neg k x.l))))) k0 x.high)

-- ---- the distance, on plain numbers: N stands for the argument, P - M for the value
near_nums : (N P M : ℕ) → 2 ^ 52 * P ≤ 2 ^ 52 * N + N + 2 ^ 52 * M → 2 ^ 52 * N + 2 ^ 52 * M ≤ 2 ^ 52 * P + N → (2 ^ 48 * N + 2 ^ 48 * M + M ≤ P + 2 ^ 48 * P) × (2 ^ 48 * P + M ≤ P + 2 ^ 48 * N + 2 ^ 48 * M)
near_nums N P M h k = (omega arith, omega arith)

-- x within |x| / 2 ^ 52 of n / d: n / d is within 2 ^ -48 of it
size_near : (x : Frac) (n d : ℕ) → Pos x → 0 < d → le_f x (add_f (frac n 0 d) (frac n 0 (d * 2 ^ 52))) → le_f (frac n 0 d) (add_f x (frac n 0 (d * 2 ^ 52))) → within (2 ^ 48) (frac n 0 d) x
size_near (frac p m c) n d X D h k =
    let z = near_nums (n * c) (p * d) (m * d) (le_of_mul-le-mul_right {k = d} (up₁ p m c n d (2 ^ 52) h) D) (le_of_mul-le-mul_right {k = d} (down₁ p m c n d (2 ^ 52) k) D) in
    one_times (frac n 0 d) (frac p m c) (within_of (frac n 0 d) (frac p m c) 1 (2 ^ 48) X (lit< tt) (first p m c n d (2 ^ 48) (mul-le-mul_right c z.0), second p m c n d (2 ^ 48) (mul-le-mul_right c z.1)))
  where
    up₁ : (p m c n d E : ℕ) → le_f (frac p m c) (add_f (frac n 0 d) (frac n 0 (d * E))) → E * (p * d) * d ≤ (E * (n * c) + n * c + E * (m * d)) * d
    up₁ p m c n d E h = let k = simp (ring, zero-mul, add-zero, zero-add) at h in simp ring (omega arith)

    down₁ : (p m c n d E : ℕ) → le_f (frac n 0 d) (add_f (frac p m c) (frac n 0 (d * E))) → (E * (n * c) + E * (m * d)) * d ≤ (E * (p * d) + n * c) * d
    down₁ p m c n d E h = let k = simp (ring, zero-mul, add-zero, zero-add) at h in simp ring (omega arith)

    first : (p m c n d B : ℕ) → (B * (n * c) + B * (m * d) + m * d) * c ≤ (p * d + B * (p * d)) * c → le_f (sub_f (frac n 0 d) (frac p m c)) (mul_f (frac 1 0 B) (frac p m c))
    first p m c n d B h = let k = simp ring at h in simp (ring, one-mul, zero-mul, add-zero, zero-add) (omega arith)

    second : (p m c n d B : ℕ) → (B * (p * d) + m * d) * c ≤ (p * d + B * (n * c) + B * (m * d)) * c → le_f (neg_f (sub_f (frac n 0 d) (frac p m c))) (mul_f (frac 1 0 B) (frac p m c))
    second p m c n d B h = let k = simp ring at h in simp (ring, one-mul, zero-mul, add-zero, zero-add) (omega arith)

-- 1 taken away
less_one : (e v δ : Frac) → le_f e (add_f (add_f (nat_f 1) v) δ) → le_f (sub_f e (nat_f 1)) (add_f v δ)
less_one (frac p n d) (frac q m c) (frac r s f) h = go p n d q m c r s f h
  where
    go : (p n d q m c r s f : ℕ) → le_f (frac p n d) (add_f (add_f (nat_f 1) (frac q m c)) (frac r s f)) → le_f (sub_f (frac p n d) (nat_f 1)) (add_f (frac q m c) (frac r s f))
    go p n d q m c r s f h = let k = simp (ring, one-mul, mul-one, zero-mul, add-zero, zero-add) at h in simp (ring, one-mul, mul-one, zero-mul, add-zero, zero-add) (omega arith)

one_less : (e v δ : Frac) → le_f (add_f (nat_f 1) v) (add_f e δ) → le_f v (add_f (sub_f e (nat_f 1)) δ)
one_less (frac p n d) (frac q m c) (frac r s f) h = go p n d q m c r s f h
  where
    go : (p n d q m c r s f : ℕ) → le_f (add_f (nat_f 1) (frac q m c)) (add_f (frac p n d) (frac r s f)) → le_f (frac q m c) (add_f (sub_f (frac p n d) (nat_f 1)) (frac r s f))
    go p n d q m c r s f h = let k = simp (ring, one-mul, mul-one, zero-mul, add-zero, zero-add) at h in simp (ring, one-mul, mul-one, zero-mul, add-zero, zero-add) (omega arith)

-- the sides changed
across : (a b δ : Frac) → le_f a (add_f b δ) → le_f (neg_f b) (add_f (neg_f a) δ)
across (frac p n d) (frac q m c) (frac r s f) h = go p n d q m c r s f h
  where
    go : (p n d q m c r s f : ℕ) → le_f (frac p n d) (add_f (frac q m c) (frac r s f)) → le_f (frac m q c) (add_f (frac n p d) (frac r s f))
    go p n d q m c r s f h = let k = simp ring at h in simp ring (omega arith)

minus_pos : (e : Frac) → Pos e → Pos (sub_f e (nat_f 1))
minus_pos e P = add_f_pos e (neg_f (nat_f 1)) P (lit< tt)

-- the law: v = ± n / d, at most 2 ^ -54 in size, is within 2 ^ -48 of every value of exp v - 1
pub tiny_near : (s : Bool) (n d : ℕ) (e x : Frac) → 0 < d → 2 ^ 54 * n ≤ d → Pos x → ExpValue (sgn s n d) e → eq_f x (sub_f e (nat_f 1)) → within (2 ^ 48) (sgn s n d) x
tiny_near false n d e x D h X v q =
    let δ = frac n 0 (d * 2 ^ 52) in
    let z = tiny_value (frac n 0 d) e n d D D (small n d h, none n d) (le_refl_f (frac n 0 d), turn n d) v in
    let M = minus_pos e v.proper.0 in
    size_near x n d X D
    (le_trans_f x (sub_f e (nat_f 1)) (add_f (frac n 0 d) δ) M q.0 (less_one e (frac n 0 d) δ z.0))
    (le_trans_f (frac n 0 d) (add_f (sub_f e (nat_f 1)) δ) (add_f x δ) (add_f_pos (sub_f e (nat_f 1)) δ M (mul-pos D (lit< tt))) (one_less e (frac n 0 d) δ z.1) (add_mono_f (sub_f e (nat_f 1)) x δ δ q.1 (le_refl_f δ)))
  where
    small : (n d : ℕ) → 2 ^ 54 * n ≤ d → n * 2 ^ 54 + 0 * d ≤ 1 * d + 0 * 2 ^ 54
    small n d h = omega arith

    none : (n d : ℕ) → 0 * 2 ^ 54 + 0 * d ≤ 1 * d + n * 2 ^ 54
    none n d = omega arith

    turn : (n d : ℕ) → le_f (frac 0 n d) (frac n 0 d)
    turn n d = go (n * d) d
      where
        go : (x d : ℕ) → 0 * d + 0 * d ≤ x + x
        go x d = omega arith
tiny_near true n d e x D h X v q =
    let δ = frac n 0 (d * 2 ^ 52) in
    let z = tiny_value (frac 0 n d) e n d D D (none n d, small n d h) (turn n d, le_refl_f (frac n 0 d)) v in
    let M = minus_pos e v.proper.0 in
    turned (frac 0 n d) x (size_near (neg_f x) n d (neg_f_pos x X) D
    (le_trans_f (neg_f x) (neg_f (sub_f e (nat_f 1))) (add_f (frac n 0 d) δ) (neg_f_pos (sub_f e (nat_f 1)) M) (neg_anti_f (sub_f e (nat_f 1)) x q.1) (across (frac 0 n d) (sub_f e (nat_f 1)) δ (one_less e (frac 0 n d) δ z.1)))
    (le_trans_f (frac n 0 d) (add_f (neg_f (sub_f e (nat_f 1))) δ) (add_f (neg_f x) δ) (add_f_pos (neg_f (sub_f e (nat_f 1))) δ (neg_f_pos (sub_f e (nat_f 1)) M) (mul-pos D (lit< tt))) (across (sub_f e (nat_f 1)) (frac 0 n d) δ (less_one e (frac 0 n d) δ z.0)) (add_mono_f (neg_f (sub_f e (nat_f 1))) (neg_f x) δ δ (neg_anti_f x (sub_f e (nat_f 1)) q.0) (le_refl_f δ))))
  where
    small : (n d : ℕ) → 2 ^ 54 * n ≤ d → n * 2 ^ 54 + 0 * d ≤ 1 * d + 0 * 2 ^ 54
    small n d h = omega arith

    none : (n d : ℕ) → 0 * 2 ^ 54 + 0 * d ≤ 1 * d + n * 2 ^ 54
    none n d = omega arith

    turn : (n d : ℕ) → le_f (frac 0 n d) (frac n 0 d)
    turn n d = go (n * d) d
      where
        go : (x d : ℕ) → 0 * d + 0 * d ≤ x + x
        go x d = omega arith
