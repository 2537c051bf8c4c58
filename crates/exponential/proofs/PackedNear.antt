-- A packed number, or one that was rounded on a grid, against a true value that is within a units of it: the distance 2 ^ -48. Assumes nothing.
use mathlib.Core.Path.{◌≡◌, sym, ap, ◌∙◌, subst}
use mathlib.Core.Bool.{true, false}
use Prim.Native.Nat.{ℕ, ◌+◌, ◌-◌, ◌*◌, ◌^◌, ◌≤◌, ◌<◌}
use native.Mathlib.Nat.{add-mul, mul-add, mul_assoc, mul_comm, mul_left_comm, zero-mul, one-mul, add-zero, zero-add, add_comm, le_trans, le_of_eq, mul-le-mul_left, mul-le-mul_right}
use native.Mathlib.Omega.{arith}
use lib.Dec.{lit<}
use lib.Pow.{pow_pos}
use lib.Ieee.{Float}
use lib.Ieee.Exact.{HasValue}
use Rattle.number.specs.Frac.{Frac, frac, Pos, le_f, neg_f, sub_f, mul_f, val_f}
use Rattle.number.proofs.Frac.{ring, le_refl_f, add_mono_f, neg_anti_f, add_f_pos, neg_f_pos, val_f_pos}
use Rattle.series.specs.Sums.{eq_f}
use Rattle.series.specs.Distance.{within}
use Rattle.series.proofs.Close.{Close, value_finite}
use Rattle.fixed_point.specs.Pack.{packed}
use Rattle.fixed_point.proofs.Packed.{size, packed_value, packed_up, packed_down}
use Rattle.exponential.proofs.Bounds.{Bound, bound_eq}
use Rattle.exponential.proofs.Value.{Within, within_of}
use Rattle.exponential.proofs.RaiseNear.{value_of}

-- ---- on plain numbers, in units: the true value is from y - a to y + a, P - N its w times, e the packed number's
apart : (a y : ℕ) → 32 * (2 ^ 48 + 1) * a ≤ 31 * y → 32 * (2 ^ 48 * a) + 32 * a ≤ 31 * y
apart a y h = omega arith

near_nums : (y a e N P w : ℕ) → 32 * (2 ^ 48 + 1) * a ≤ 31 * y → y * w + N ≤ P + a * w → P ≤ (y + a) * w + N → e * 2 ^ 53 ≤ y * w * (2 ^ 53 + 1) → y * w * (2 ^ 53 - 1) ≤ e * 2 ^ 53
    → (2 ^ 48 * (e + N) + N ≤ P + 2 ^ 48 * P) × (2 ^ 48 * P + N ≤ P + 2 ^ 48 * (e + N))
near_nums y a e N P w k l u p q =
    let k' = le_trans (le_of_eq (sym (mul_assoc (32 * (2 ^ 48 + 1)) a w))) (le_trans (mul-le-mul_right w k) (le_of_eq (mul_assoc 31 y w))) in
    let u' = le_trans u (le_of_eq (ap (λ (z : ℕ). z + N) (add-mul y a w))) in
    (one (y * w) (a * w) e N P k' l p, two (y * w) (a * w) e N P k' l u' q)
  where
    -- b times the facts, b being 2 ^ 48
    one : (y a e N P : ℕ) → 32 * (2 ^ 48 + 1) * a ≤ 31 * y → y + N ≤ P + a → e * 2 ^ 53 ≤ y * (2 ^ 53 + 1) → 2 ^ 48 * (e + N) + N ≤ P + 2 ^ 48 * P
    one y a e N P k l p = subst (λ (x : ℕ). x + N ≤ P + 2 ^ 48 * P) (sym (mul-add (2 ^ 48) e N)) (lin y a (2 ^ 48 * a) (2 ^ 48 * e) (2 ^ 48 * y) (2 ^ 48 * N) (2 ^ 48 * P) N P (apart a y k) l (times l) (units e y p))
      where
        lin : (y a A E G M Q N P : ℕ) → 32 * A + 32 * a ≤ 31 * y → y + N ≤ P + a → G + M ≤ Q + A → 32 * E ≤ 32 * G + y → E + M + N ≤ P + Q
        lin y a A E G M Q N P k l m p = omega arith

        units : (e y : ℕ) → e * 2 ^ 53 ≤ y * (2 ^ 53 + 1) → 32 * (2 ^ 48 * e) ≤ 32 * (2 ^ 48 * y) + y
        units e y h = omega arith

        times : y + N ≤ P + a → 2 ^ 48 * y + 2 ^ 48 * N ≤ 2 ^ 48 * P + 2 ^ 48 * a
        times h = le_trans (le_of_eq (sym (mul-add (2 ^ 48) y N))) (le_trans (mul-le-mul_left (2 ^ 48) h) (le_of_eq (mul-add (2 ^ 48) P a)))

    two : (y a e N P : ℕ) → 32 * (2 ^ 48 + 1) * a ≤ 31 * y → y + N ≤ P + a → P ≤ y + a + N → y * (2 ^ 53 - 1) ≤ e * 2 ^ 53 → 2 ^ 48 * P + N ≤ P + 2 ^ 48 * (e + N)
    two y a e N P k l u q = subst (λ (x : ℕ). 2 ^ 48 * P + N ≤ P + x) (sym (mul-add (2 ^ 48) e N)) (lin y a (2 ^ 48 * a) (2 ^ 48 * e) (2 ^ 48 * y) (2 ^ 48 * N) (2 ^ 48 * P) N P (apart a y k) l (times u) (units e y q))
      where
        lin : (y a A E G M Q N P : ℕ) → 32 * A + 32 * a ≤ 31 * y → y + N ≤ P + a → Q ≤ G + A + M → 32 * G ≤ 32 * E + y → Q + N ≤ P + (E + M)
        lin y a A E G M Q N P k l m p = omega arith

        units : (e y : ℕ) → y * (2 ^ 53 - 1) ≤ e * 2 ^ 53 → 32 * (2 ^ 48 * y) ≤ 32 * (2 ^ 48 * e) + y
        units e y h = omega arith

        times : P ≤ y + a + N → 2 ^ 48 * P ≤ 2 ^ 48 * y + 2 ^ 48 * a + 2 ^ 48 * N
        times h = le_trans (mul-le-mul_left (2 ^ 48) h) (le_of_eq (mul-add (2 ^ 48) (y + a) N ∙ ap (λ (x : ℕ). x + 2 ^ 48 * N) (mul-add (2 ^ 48) y a)))

-- the distance as a bound, r = z / c
abbrev Both : ℕ → ℕ → ℕ → ℕ → ℕ → Type 0
Both z c p n d = (2 ^ 48 * (z * 2048 * d + n * (c * 2048)) + n * (c * 2048) ≤ p * (c * 2048) + 2 ^ 48 * (p * (c * 2048))) × (2 ^ 48 * (p * (c * 2048)) + n * (c * 2048) ≤ p * (c * 2048) + 2 ^ 48 * (z * 2048 * d + n * (c * 2048)))

bound_of : (z c p n d : ℕ) → Both z c p n d → Bound (sub_f (frac z 0 c) (frac p n d)) (mul_f (frac 1 0 (2 ^ 48)) (frac p n d))
bound_of z c p n d b = (first z c p n d (mul-le-mul_right d b.0), second z c p n d (mul-le-mul_right d b.1))
  where
    first : (z c p n d : ℕ) → (2 ^ 48 * (z * 2048 * d + n * (c * 2048)) + n * (c * 2048)) * d ≤ (p * (c * 2048) + 2 ^ 48 * (p * (c * 2048))) * d → le_f (sub_f (frac z 0 c) (frac p n d)) (mul_f (frac 1 0 (2 ^ 48)) (frac p n d))
    first z c p n d h = let k = simp ring at h in simp (ring, one-mul, zero-mul, add-zero, zero-add) (omega arith)

    second : (z c p n d : ℕ) → (2 ^ 48 * (p * (c * 2048)) + n * (c * 2048)) * d ≤ (p * (c * 2048) + 2 ^ 48 * (z * 2048 * d + n * (c * 2048))) * d → le_f (neg_f (sub_f (frac z 0 c) (frac p n d))) (mul_f (frac 1 0 (2 ^ 48)) (frac p n d))
    second z c p n d h = let k = simp ring at h in simp (ring, one-mul, zero-mul, add-zero, zero-add) (omega arith)

-- ---- as fractions: W / D the unit, r = z / c, D = 2048 c
module _ (y a z c W p n d : ℕ) (C : 0 < c) (budget : 32 * (2 ^ 48 + 1) * a ≤ 31 * y) (l : le_f (frac (y * W) (a * W) (c * 2048)) (frac p n d)) (u : le_f (frac p n d) (frac ((y + a) * W) 0 (c * 2048)))
    (up : z * 2048 * 2 ^ 53 ≤ y * W * (2 ^ 53 + 1)) (down : y * W * (2 ^ 53 - 1) ≤ z * 2048 * 2 ^ 53) where
  both : Both z c p n d
  both =
      near_nums y a (z * 2048 * d) (n * (c * 2048)) (p * (c * 2048)) (W * d) budget
      (le_trans (le_of_eq (ap (λ (x : ℕ). x + n * (c * 2048)) (sym (mul_assoc y W d)))) (le_trans l (le_of_eq (ap (λ (x : ℕ). p * (c * 2048) + x) (mul_assoc a W d)))))
      (le_trans (le_of_eq (sym (drop (p * (c * 2048)) d))) (le_trans u (le_of_eq (ap (λ (x : ℕ). x + n * (c * 2048)) (mul_assoc (y + a) W d)))))
      (le_trans (le_of_eq (turn (z * 2048) d (2 ^ 53))) (le_trans (mul-le-mul_right d up) (le_of_eq (move y W d (2 ^ 53 + 1)))))
      (le_trans (le_of_eq (sym (move y W d (2 ^ 53 - 1)))) (le_trans (mul-le-mul_right d down) (le_of_eq (sym (turn (z * 2048) d (2 ^ 53))))))
    where
      drop : (x d : ℕ) → x + 0 * d ≡ x
      drop x d = ap (λ (y : ℕ). x + y) (zero-mul d) ∙ add-zero x

      turn : (x d k : ℕ) → x * d * k ≡ x * k * d
      turn x d k = simp (mul_assoc, mul_comm)

      move : (y w d k : ℕ) → y * w * k * d ≡ y * (w * d) * k
      move y w d k = simp (mul_assoc, mul_comm, mul_left_comm)

-- ---- the packed number, with its sign
-- t's size is from (y - a) 2 ^ (e - 1085) to (y + a) 2 ^ (e - 1085)
abbrev pub Sized : ℕ → ℕ → ℕ → Frac → Type 0
Sized y a e t = le_f (frac (y * 2 ^ e) (a * 2 ^ e) (2 ^ 1085)) t × le_f t (frac ((y + a) * 2 ^ e) 0 (2 ^ 1085))

pub one_times : (r t : Frac) → Within (2 ^ 48) 1 r t → within (2 ^ 48) r t
one_times (frac p n d) (frac q m c) h = go (2 ^ 48 * ((p * c + m * d - (n * c + q * d)) + (n * c + q * d - (p * c + m * d))) + 0 * 0) ((q - m) + (m - q)) (1 * (d * c)) c (2 ^ 48 * 0 + 0 * ((p * c + m * d - (n * c + q * d)) + (n * c + q * d - (p * c + m * d)))) h
  where
    go : (x y z c u : ℕ) → x * (1 * c) + (1 * 0 + 0 * y) * z ≤ (1 * y + 0 * 0) * z + u * (1 * c) → x * c + 0 * z ≤ y * z + u * c
    go x y z c u h = let k = simp (one-mul, zero-mul, add-zero, zero-add) at h in simp (zero-mul, add-zero) k

of_both : (r : Frac) (z p n d : ℕ) → Pos r → Pos (frac p n d) → eq_f r (frac z 0 (2 ^ 1074)) → Both z (2 ^ 1074) p n d → within (2 ^ 48) r (frac p n d)
of_both r z p n d R T₁ q b =
    let t = frac p n d in
    let s = frac z 0 (2 ^ 1074) in
    one_times r t (within_of r t 1 (2 ^ 48) T₁ (lit< tt)
    (bound_eq (sub_f s t) (sub_f r t) (mul_f (frac 1 0 (2 ^ 48)) t) (add_f_pos s (neg_f t) (pow_pos 1074) (neg_f_pos t T₁))
    (add_mono_f r s (neg_f t) (neg_f t) q.0 (le_refl_f (neg_f t)), add_mono_f s r (neg_f t) (neg_f t) q.1 (le_refl_f (neg_f t)))
    (bound_of z (2 ^ 1074) p n d b)))

pos_near : (r t : Frac) (y a z e : ℕ) → Pos r → Pos t → 32 * (2 ^ 48 + 1) * a ≤ 31 * y → Sized y a e t → eq_f r (frac z 0 (2 ^ 1074)) → z * 2048 * 2 ^ 53 ≤ y * 2 ^ e * (2 ^ 53 + 1) → y * 2 ^ e * (2 ^ 53 - 1) ≤ z * 2048 * 2 ^ 53 → within (2 ^ 48) r t
pos_near r (frac p n d) y a z e R T₁ k (l, u) q up down = of_both r z p n d R T₁ q (both y a z (2 ^ 1074) (2 ^ e) p n d (pow_pos 1074) k l u up down)

-- ---- a number of the grid from y to y + 2048 units
grid_nums : (y a e N P w : ℕ) → 2 ^ 48 * (a + 2048) + a ≤ y → y * w + N ≤ P + a * w → P ≤ (y + a) * w + N → y * w ≤ e → e ≤ (y + 2048) * w
    → (2 ^ 48 * (e + N) + N ≤ P + 2 ^ 48 * P) × (2 ^ 48 * P + N ≤ P + 2 ^ 48 * (e + N))
grid_nums y a e N P w k l u p q =
    let k' = le_trans (le_of_eq (sym (parts a w))) (mul-le-mul_right w k) in
    let u' = le_trans u (le_of_eq (ap (λ (z : ℕ). z + N) (add-mul y a w))) in
    let q' = le_trans q (le_of_eq (add-mul y 2048 w)) in
    (one (y * w) (a * w) e N P w k' l q', two (y * w) (a * w) e N P w k' l u' p)
  where
    parts : (a w : ℕ) → (2 ^ 48 * (a + 2048) + a) * w ≡ 2 ^ 48 * (a * w + 2048 * w) + a * w
    parts a w = simp ring (omega arith)

    -- x the error in units, X its 2 ^ 48 times, so are T and Q
    lin : (y a N P X T Q : ℕ) → X + a ≤ y → y + N ≤ P + a → T ≤ Q + X → T + N ≤ P + Q
    lin y a N P X T Q h k l = omega arith

    lin_too : (y a N P X T Q : ℕ) → X + a ≤ y → y + N ≤ P + a → Q ≤ T + X → Q + N ≤ P + T
    lin_too y a N P X T Q h k l = omega arith

    times : (u v x : ℕ) → u ≤ v + x → 2 ^ 48 * u ≤ 2 ^ 48 * v + 2 ^ 48 * x
    times u v x h = le_trans (mul-le-mul_left (2 ^ 48) h) (le_of_eq (mul-add (2 ^ 48) v x))

    one : (y a e N P w : ℕ) → 2 ^ 48 * (a + 2048 * w) + a ≤ y → y + N ≤ P + a → e ≤ y + 2048 * w → 2 ^ 48 * (e + N) + N ≤ P + 2 ^ 48 * P
    one y a e N P w k l q = lin y a N P (2 ^ 48 * (a + 2048 * w)) (2 ^ 48 * (e + N)) (2 ^ 48 * P) k l (times (e + N) P (a + 2048 * w) (go y a e N P w l q))
      where
        go : (y a e N P w : ℕ) → y + N ≤ P + a → e ≤ y + 2048 * w → e + N ≤ P + (a + 2048 * w)
        go y a e N P w l q = omega arith

    two : (y a e N P w : ℕ) → 2 ^ 48 * (a + 2048 * w) + a ≤ y → y + N ≤ P + a → P ≤ y + a + N → y ≤ e → 2 ^ 48 * P + N ≤ P + 2 ^ 48 * (e + N)
    two y a e N P w k l u p = lin_too y a N P (2 ^ 48 * (a + 2048 * w)) (2 ^ 48 * (e + N)) (2 ^ 48 * P) k l (times P (e + N) (a + 2048 * w) (go y a e N P w u p))
      where
        go : (y a e N P w : ℕ) → P ≤ y + a + N → y ≤ e → P ≤ e + N + (a + 2048 * w)
        go y a e N P w u p = omega arith

grid_near : (r t : Frac) (y a z e : ℕ) → Pos r → Pos t → 2 ^ 48 * (a + 2048) + a ≤ y → Sized y a e t → eq_f r (frac z 0 (2 ^ 1074)) → y * 2 ^ e ≤ z * 2048 → z * 2048 ≤ (y + 2048) * 2 ^ e → within (2 ^ 48) r t
grid_near r (frac p n d) y a z e R T₁ k (l, u) q lo hi = of_both r z p n d R T₁ q (go (2 ^ 1074) (2 ^ e) l u lo hi)
  where
    drop : (x d : ℕ) → x + 0 * d ≡ x
    drop x d = ap (λ (y : ℕ). x + y) (zero-mul d) ∙ add-zero x

    go : (c W : ℕ) → le_f (frac (y * W) (a * W) (c * 2048)) (frac p n d) → le_f (frac p n d) (frac ((y + a) * W) 0 (c * 2048)) → y * W ≤ z * 2048 → z * 2048 ≤ (y + 2048) * W → Both z c p n d
    go c W l u lo hi =
        grid_nums y a (z * 2048 * d) (n * (c * 2048)) (p * (c * 2048)) (W * d) k
        (le_trans (le_of_eq (ap (λ (x : ℕ). x + n * (c * 2048)) (sym (mul_assoc y W d)))) (le_trans l (le_of_eq (ap (λ (x : ℕ). p * (c * 2048) + x) (mul_assoc a W d)))))
        (le_trans (le_of_eq (sym (drop (p * (c * 2048)) d))) (le_trans u (le_of_eq (ap (λ (x : ℕ). x + n * (c * 2048)) (mul_assoc (y + a) W d)))))
        (le_trans (le_of_eq (sym (mul_assoc y W d))) (mul-le-mul_right d lo))
        (le_trans (mul-le-mul_right d hi) (le_of_eq (mul_assoc (y + 2048) W d)))

-- the size of a difference does not know its sign
pub turned : (r t : Frac) → within (2 ^ 48) (neg_f r) (neg_f t) → within (2 ^ 48) r t
turned (frac p n d) (frac q m c) h = go (p * c + m * d) (n * c + q * d) q m c (1 * (d * c)) h
  where
    go : (x y q m c z : ℕ) → (2 ^ 48 * ((y - x) + (x - y)) + 0 * 0) * c + 0 * z ≤ ((m - q) + (q - m)) * z + (2 ^ 48 * 0 + 0 * ((y - x) + (x - y))) * c
        → (2 ^ 48 * ((x - y) + (y - x)) + 0 * 0) * c + 0 * z ≤ ((q - m) + (m - q)) * z + (2 ^ 48 * 0 + 0 * ((x - y) + (y - x))) * c
    go x y q m c z h = subst (λ (u : ℕ). (2 ^ 48 * u + 0 * 0) * c + 0 * z ≤ ((q - m) + (m - q)) * z + (2 ^ 48 * 0 + 0 * u) * c) (add_comm (y - x) (x - y)) (subst (λ (u : ℕ). (2 ^ 48 * ((y - x) + (x - y)) + 0 * 0) * c + 0 * z ≤ u * z + (2 ^ 48 * 0 + 0 * ((y - x) + (x - y))) * c) (add_comm (m - q) (q - m)) h)

turn_value : (x : Frac) (z : ℕ) → eq_f x (frac 0 z (2 ^ 1074)) → eq_f (neg_f x) (frac z 0 (2 ^ 1074))
turn_value x z h = (neg_anti_f (frac 0 z (2 ^ 1074)) x h.1, neg_anti_f x (frac 0 z (2 ^ 1074)) h.0)

-- the law: the packed number is within 2 ^ -48 of a true value, or of its negative
module _ (y a e : ℕ) (t : Frac) (P : 0 < y) (F : y < 2 ^ 64) (E : 64 ≤ e) (E' : e ≤ 2044) (T₁ : Pos t) (budget : 32 * (2 ^ 48 + 1) * a ≤ 31 * y) where
  pub packed_plus : Sized y a e t → Close (within (2 ^ 48)) (packed 0 y e) t
  packed_plus s =
      let v = packed_value false y e P F E' in
      (value_finite (packed 0 y e) false (size y e) (2 ^ 1074) v, pos_near (val_f (packed 0 y e)) t y a (size y e) e (val_f_pos (packed 0 y e)) T₁ budget s (value_of (packed 0 y e) false (size y e) (2 ^ 1074) (pow_pos 1074) v) (packed_up y e P F E) (packed_down y e P F E))

  pub packed_minus : Sized y a e (neg_f t) → Close (within (2 ^ 48)) (packed 1 y e) t
  packed_minus s =
      let v = packed_value true y e P F E' in (
        value_finite (packed 1 y e) true (size y e) (2 ^ 1074) v,
        turned (val_f (packed 1 y e)) t
            (pos_near (neg_f (val_f (packed 1 y e))) (neg_f t) y a (size y e) e (neg_f_pos (val_f (packed 1 y e)) (val_f_pos (packed 1 y e))) (neg_f_pos t T₁) budget s (turn_value (val_f (packed 1 y e)) (size y e) (value_of (packed 1 y e) true (size y e) (2 ^ 1074) (pow_pos 1074) v)) (packed_up y e P F E) (packed_down y e P F E)),
      )

-- the law for a number r of the grid, with its sign
module _ (y a z e : ℕ) (r : Float) (t : Frac) (T₁ : Pos t) (budget : 2 ^ 48 * (a + 2048) + a ≤ y) (lo : y * 2 ^ e ≤ z * 2048) (hi : z * 2048 ≤ (y + 2048) * 2 ^ e) where
  pub rounded_plus : HasValue r false z (2 ^ 1074) → Sized y a e t → Close (within (2 ^ 48)) r t
  rounded_plus v s = (value_finite r false z (2 ^ 1074) v, grid_near (val_f r) t y a z e (val_f_pos r) T₁ budget s (value_of r false z (2 ^ 1074) (pow_pos 1074) v) lo hi)

  pub rounded_minus : HasValue r true z (2 ^ 1074) → Sized y a e (neg_f t) → Close (within (2 ^ 48)) r t
  rounded_minus v s = (value_finite r true z (2 ^ 1074) v, turned (val_f r) t (grid_near (neg_f (val_f r)) (neg_f t) y a z e (neg_f_pos (val_f r) (val_f_pos r)) (neg_f_pos t T₁) budget s (turn_value (val_f r) z (value_of r true z (2 ^ 1074) (pow_pos 1074) v)) lo hi))
