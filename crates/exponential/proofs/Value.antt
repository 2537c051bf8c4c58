-- From the sum at the exponent's own argument to document 01's values: moves, tails and the power of 2, over plain fractions. Assumes nothing.
use mathlib.Core.Path.{◌≡◌, sym, ap, ◌∙◌, subst}
use mathlib.Core.Bool.{Bool, true, false}
use Prim.Native.Nat.{ℕ, ◌+◌, ◌-◌, ◌*◌, ◌^◌, ◌≤◌, ◌<◌}
use native.Mathlib.Nat.{add-mul, mul_assoc, mul-zero, zero-mul, one-mul, add-zero, zero-add, le_trans, le_of_eq, mul-pos, mul-le-mul_right, le_of_mul-le-mul_right, le_of_lt, lt_of_not-le}
use native.Mathlib.Decide.{dec_le}
use native.Mathlib.Omega.{arith}
use lib.Dec.{lit<}
use lib.Pow.{pow_pos}
use Rattle.number.specs.Frac.{Frac, frac, Pos, le_f, neg_f, add_f, sub_f, mul_f}
use Rattle.number.proofs.Frac.{ring, le_trans_f, le_refl_f, add_mono_f, add_f_pos, mul_f_pos, neg_f_pos}
use Rattle.series.specs.Sums.{nat_f, over_f, abs_f, pow_f, factorial, scale_f}
use Rattle.series.specs.Exact.{exp_tail}
use Rattle.series.proofs.Constants.{leb→le_f}
use Rattle.exponential.proofs.Bounds.{Bound, bound_power, pow_f_pos, scaled}
use Rattle.exponential.proofs.Literal.{factorial_pos}
use Rattle.series.proofs.Fractions.{over_mono}

-- ---- sizes
apart_is : (p n : ℕ) → n ≤ p → n + ((p - n) + (n - p)) ≡ p
apart_is p n h = omega arith

apart_turns : (p n : ℕ) → p ≤ n → p + ((p - n) + (n - p)) ≡ n
apart_turns p n h = omega arith

abs_le_nums : (p n d q m c : ℕ) → p * c + m * d ≤ q * d + n * c → n * c + m * d ≤ q * d + p * c → ((p - n) + (n - p)) * c + m * d ≤ q * d + 0 * c
abs_le_nums p n d q m c h k = go (dec_le n p)
  where
    from : (n x d q m c : ℕ) → (n + x) * c + m * d ≤ q * d + n * c → x * c + m * d ≤ q * d + 0 * c
    from n x d q m c h = let u = simp ring at h in simp (zero-mul, add-zero) (omega arith)

    go : Dec (n ≤ p) → ((p - n) + (n - p)) * c + m * d ≤ q * d + 0 * c
    go (yes l) = from n ((p - n) + (n - p)) d q m c (subst (λ (y : ℕ). y * c + m * d ≤ q * d + n * c) (sym (apart_is p n l)) h)
    go (no l) = from p ((p - n) + (n - p)) d q m c (subst (λ (y : ℕ). y * c + m * d ≤ q * d + p * c) (sym (apart_turns p n (le_of_lt (lt_of_not-le l)))) k)

-- |x| ≤ a
pub abs_le : (x a : Frac) → Bound x a → le_f (abs_f x) a
abs_le (frac p n d) (frac q m c) h = abs_le_nums p n d q m c h.0 h.1

-- x ≤ |x|
pub le_abs : (x : Frac) → le_f x (abs_f x)
le_abs (frac p n d) = go p n d (more p n)
  where
    more : (p n : ℕ) → p ≤ (p - n) + (n - p) + n
    more p n = omega arith

    go : (p n d : ℕ) → p ≤ (p - n) + (n - p) + n → p * d + 0 * d ≤ ((p - n) + (n - p)) * d + n * d
    go p n d h = le_trans (le_of_eq (ap (λ (y : ℕ). p * d + y) (zero-mul d) ∙ add-zero (p * d))) (le_trans (mul-le-mul_right d h) (le_of_eq (add-mul ((p - n) + (n - p)) n d)))

pub abs_bound : (x : Frac) (q c : ℕ) → Bound x (frac q 0 c) → Bound (abs_f x) (frac q 0 c)
abs_bound (frac p n d) q c h = (abs_le (frac p n d) (frac q 0 c) h, small (q * d) (((p - n) + (n - p)) * c) c d)
  where
    small : (x y c d : ℕ) → 0 * c + 0 * d ≤ x + y
    small x y c d = omega arith

-- ---- the tail at an argument of at most 9/25 is below 2 ^ -130
tail_small : le_f (over_f (mul_f (nat_f 2) (pow_f (frac 9 0 25) 30)) (factorial 30)) (frac 1 0 (2 ^ 130))
unfolding pow_f factorial
tail_small = leb→le_f (over_f (mul_f (nat_f 2) (pow_f (frac 9 0 25) 30)) (factorial 30)) (frac 1 0 (2 ^ 130)) tt

pub tail_le : (t : Frac) → Pos t → Bound t (frac 9 0 25) → le_f (exp_tail t) (frac 1 0 (2 ^ 130))
unfolding exp_tail
tail_le (frac p n d) P h =
    let s = abs_f (frac p n d) in
    le_trans_f (over_f (mul_f (nat_f 2) (pow_f s 30)) (factorial 30)) (over_f (mul_f (nat_f 2) (pow_f (frac 9 0 25) 30)) (factorial 30)) (frac 1 0 (2 ^ 130))
    (over_pos_of (mul_f (nat_f 2) (pow_f (frac 9 0 25) 30)) (factorial 30) (mul_f_pos (nat_f 2) (pow_f (frac 9 0 25) 30) (lit< tt) (pow_f_pos (frac 9 0 25) (lit< tt) 30)) (factorial_pos 30))
    (over_mono (mul_f (nat_f 2) (pow_f s 30)) (mul_f (nat_f 2) (pow_f (frac 9 0 25) 30)) (factorial 30) (scaled 2 1 (pow_f s 30) (pow_f (frac 9 0 25) 30) (bound_power s (frac 9 0 25) (abs_bound (frac p n d) 9 25 h) 30).0))
    tail_small
  where
    over_pos_of : (x : Frac) (k : ℕ) → Pos x → 0 < k → Pos (over_f x k)
    over_pos_of (frac p n d) k X K = mul-pos X K

-- ---- the sum S' and its tail, from S within b of it: X / G ≤ S ≤ Y / G, b and the tail at most h / G together
-- S = (S' - t) + (- (S' - S) + t), S' + t = S + ((S' - S) + t)
parts_low : (s s' t : Frac) → le_f s (add_f (sub_f s' t) (add_f (neg_f (sub_f s' s)) t))
parts_low (frac a b c) (frac a' b' c') (frac p n d) = simp ring (omega arith)

parts_high : (s s' t : Frac) → le_f (add_f s' t) (add_f s (add_f (sub_f s' s) t))
parts_high (frac a b c) (frac a' b' c') (frac p n d) = simp ring (omega arith)

take_off : (X h G : ℕ) (y : Frac) → 0 < G → le_f (frac X 0 G) (add_f y (frac h 0 G)) → le_f (frac X h G) y
take_off X h G (frac p n d) P l = le_of_mul-le-mul_right {k = G} (go X h G p n d l) P
  where
    go : (X h G p n d : ℕ) → X * (d * G) + (n * G + 0 * d) * G ≤ (p * G + h * d) * G + 0 * (d * G) → (X * d + n * G) * G ≤ (p * G + h * d) * G
    go X h G p n d l = let u = simp (ring, zero-mul, add-zero) at l in simp ring (omega arith)

put_on : (Y h G : ℕ) → le_f (add_f (frac Y 0 G) (frac h 0 G)) (frac (Y + h) 0 G)
put_on Y h G = simp ring (omega arith)

module _ (s s' t b : Frac) (X Y h G : ℕ) (S : Pos s) (S' : Pos s') (T₁ : Pos t) (B : Pos b) (P : 0 < G) (θ : Frac) (F : Pos θ)
    (near : Bound (sub_f s' s) b) (tail : le_f t θ) (room : le_f (add_f b θ) (frac h 0 G)) where
  gap_pos : Pos (sub_f s' s)
  gap_pos = add_f_pos s' (neg_f s) S' (neg_f_pos s S)

  pub sum_low : le_f (frac X 0 G) s → le_f (frac X h G) (sub_f s' t)
  sum_low l =
      let y = sub_f s' t in
      let Y₁ = add_f_pos s' (neg_f t) S' (neg_f_pos t T₁) in
      take_off X h G y P
      (le_trans_f (frac X 0 G) s (add_f y (frac h 0 G)) S l
      (le_trans_f s (add_f y (add_f (neg_f (sub_f s' s)) t)) (add_f y (frac h 0 G)) (add_f_pos y (add_f (neg_f (sub_f s' s)) t) Y₁ (add_f_pos (neg_f (sub_f s' s)) t (neg_f_pos (sub_f s' s) gap_pos) T₁)) (parts_low s s' t)
      (add_mono_f y y (add_f (neg_f (sub_f s' s)) t) (frac h 0 G) (le_refl_f y) (le_trans_f (add_f (neg_f (sub_f s' s)) t) (add_f b θ) (frac h 0 G) (add_f_pos b θ B F) (add_mono_f (neg_f (sub_f s' s)) b t θ near.1 tail) room))))

  pub sum_high : le_f s (frac Y 0 G) → le_f (add_f s' t) (frac (Y + h) 0 G)
  sum_high l =
      le_trans_f (add_f s' t) (add_f s (add_f (sub_f s' s) t)) (frac (Y + h) 0 G) (add_f_pos s (add_f (sub_f s' s) t) S (add_f_pos (sub_f s' s) t gap_pos T₁)) (parts_high s s' t)
      (le_trans_f (add_f s (add_f (sub_f s' s) t)) (add_f (frac Y 0 G) (frac h 0 G)) (frac (Y + h) 0 G) (mul-pos P P)
      (add_mono_f s (frac Y 0 G) (add_f (sub_f s' s) t) (frac h 0 G) l (le_trans_f (add_f (sub_f s' s) t) (add_f b θ) (frac h 0 G) (add_f_pos b θ B F) (add_mono_f (sub_f s' s) b t θ near.0 tail) room))
      (put_on Y h G))

-- ---- the power of 2: Y / C is 2 ^ k / G
abbrev pub Factor : Bool → ℕ → ℕ → ℕ → ℕ → Type 0
Factor false k G Y C = Y * G ≡ 2 ^ k * C
Factor true k G Y C = Y * (G * 2 ^ k) ≡ C

times_low_is : (X h G Y C n : ℕ) → Y * G ≡ n * C → le_f (frac (X * Y) (h * Y) C) (mul_f (nat_f n) (frac X h G))
times_low_is X h G Y C n e = go X h G Y C n (ap (λ (z : ℕ). X * z) e) (ap (λ (z : ℕ). h * z) e)
  where
    go : (X h G Y C n : ℕ) → X * (Y * G) ≡ X * (n * C) → h * (Y * G) ≡ h * (n * C) → X * Y * (1 * G) + (n * h + 0 * X) * C ≤ (n * X + 0 * h) * C + h * Y * (1 * G)
    go X h G Y C n u v =
        let a = simp ring at u in
        let b = simp ring at v in
        simp (ring, one-mul, zero-mul, add-zero) (omega arith)

times_high_is : (X G Y C n : ℕ) → Y * G ≡ n * C → le_f (mul_f (nat_f n) (frac X 0 G)) (frac (X * Y) 0 C)
times_high_is X G Y C n e = go X G Y C n (ap (λ (z : ℕ). X * z) e)
  where
    go : (X G Y C n : ℕ) → X * (Y * G) ≡ X * (n * C) → (n * X + 0 * 0) * C + 0 * (1 * G) ≤ X * Y * (1 * G) + (n * 0 + 0 * X) * C
    go X G Y C n u =
        let a = simp ring at u in
        simp (ring, one-mul, mul-zero, zero-mul, add-zero) (omega arith)

over_low : (X h G Y C n : ℕ) → Y * (G * n) ≡ C → le_f (frac (X * Y) (h * Y) C) (over_f (frac X h G) n)
over_low X h G Y C n e = le_of_eq (go X h Y (G * n) C e)
  where
    go : (X h Y g C : ℕ) → Y * g ≡ C → X * Y * g + h * C ≡ X * C + h * Y * g
    go X h Y g C e = ap (λ (z : ℕ). X * Y * g + h * z) (sym e) ∙ ap (λ (z : ℕ). z + h * (Y * g)) (mul_assoc X Y g ∙ ap (λ (z : ℕ). X * z) e) ∙ ap (λ (z : ℕ). X * C + z) (sym (mul_assoc h Y g))

over_high : (X G Y C n : ℕ) → Y * (G * n) ≡ C → le_f (over_f (frac X 0 G) n) (frac (X * Y) 0 C)
over_high X G Y C n e = le_of_eq (go X Y (G * n) C e)
  where
    go : (X Y g C : ℕ) → Y * g ≡ C → X * C + 0 * g ≡ X * Y * g + 0 * C
    go X Y g C e = ap (λ (z : ℕ). X * C + z) (zero-mul g) ∙ add-zero (X * C) ∙ ap (λ (z : ℕ). X * z) (sym e) ∙ sym (mul_assoc X Y g) ∙ sym (ap (λ (z : ℕ). X * Y * g + z) (zero-mul C) ∙ add-zero (X * Y * g))

pub scale_low : (neg : Bool) (k X h G Y C : ℕ) (y e : Frac) → Factor neg k G Y C → Pos y → 0 < G → le_f (frac X h G) y → le_f (scale_f neg k y) e → le_f (frac (X * Y) (h * Y) C) e
scale_low false k X h G Y C y e f P g l u =
    le_trans_f (frac (X * Y) (h * Y) C) (mul_f (nat_f (2 ^ k)) (frac X h G)) e (mul-pos (lit< tt) g) (times_low_is X h G Y C (2 ^ k) f)
    (le_trans_f (mul_f (nat_f (2 ^ k)) (frac X h G)) (mul_f (nat_f (2 ^ k)) y) e (mul_f_pos (nat_f (2 ^ k)) y (lit< tt) P) (scaled (2 ^ k) 1 (frac X h G) y l) u)
scale_low true k X h G Y C (frac p n d) e f P g l u =
    le_trans_f (frac (X * Y) (h * Y) C) (over_f (frac X h G) (2 ^ k)) e (mul-pos g (pow_pos k)) (over_low X h G Y C (2 ^ k) f)
    (le_trans_f (over_f (frac X h G) (2 ^ k)) (over_f (frac p n d) (2 ^ k)) e (mul-pos P (pow_pos k)) (over_mono (frac X h G) (frac p n d) (2 ^ k) l) u)

pub scale_high : (neg : Bool) (k X G Y C : ℕ) (y e : Frac) → Factor neg k G Y C → Pos y → 0 < G → le_f y (frac X 0 G) → le_f e (scale_f neg k y) → le_f e (frac (X * Y) 0 C)
scale_high false k X G Y C y e f P g l u =
    le_trans_f e (mul_f (nat_f (2 ^ k)) y) (frac (X * Y) 0 C) (mul_f_pos (nat_f (2 ^ k)) y (lit< tt) P) u
    (le_trans_f (mul_f (nat_f (2 ^ k)) y) (mul_f (nat_f (2 ^ k)) (frac X 0 G)) (frac (X * Y) 0 C) (mul-pos (lit< tt) g) (scaled (2 ^ k) 1 y (frac X 0 G) l) (times_high_is X G Y C (2 ^ k) f))
scale_high true k X G Y C (frac p n d) e f P g l u =
    le_trans_f e (over_f (frac p n d) (2 ^ k)) (frac (X * Y) 0 C) (mul-pos P (pow_pos k)) u
    (le_trans_f (over_f (frac p n d) (2 ^ k)) (over_f (frac X 0 G) (2 ^ k)) (frac (X * Y) 0 C) (mul-pos g (pow_pos k)) (over_mono (frac p n d) (frac X 0 G) (2 ^ k) l) (over_high X G Y C (2 ^ k) f))

-- ---- the distance: r is R Y / C, R within 1024 of X; e is from (X - h) Y / C to (X + 652 + h) Y / C
-- b |r - e| ≤ a |e|
abbrev pub Within : ℕ → ℕ → Frac → Frac → Type 0
Within b a r e = le_f (mul_f (nat_f b) (abs_f (sub_f r e))) (mul_f (nat_f a) (abs_f e))

distance_nums : (a b X R y N P h : ℕ) → b * (1676 + h) + a * h ≤ a * X → X * y + N ≤ P + h * y → P ≤ (X + 652 + h) * y + N → R ≤ X + 1024 → X ≤ R + 1023
    → (b * (R * y + N) + a * N ≤ a * P + b * P) × (b * P + a * N ≤ a * P + b * (R * y + N))
distance_nums a b X R y N P h k l u r s =
    let k' = simp ring at (mul-le-mul_right y k) in
    let la = simp ring at (mul-le-mul_right a l) in
    let lb = simp ring at (mul-le-mul_right b l) in
    let ub = simp ring at (mul-le-mul_right b u) in
    let r' = simp ring at (mul-le-mul_right (b * y) r) in
    let s' = simp ring at (mul-le-mul_right (b * y) s) in
    (simp ring (omega arith), simp ring (omega arith))

module _ (a b X R Y C p n d h : ℕ) (k : b * (1676 + h) + a * h ≤ a * X) (l : le_f (frac (X * Y) (h * Y) C) (frac p n d)) (u : le_f (frac p n d) (frac ((X + 652 + h) * Y) 0 C)) (r : R ≤ X + 1024) (s : X ≤ R + 1023) where
  both : (b * (R * (Y * d) + n * C) + a * (n * C) ≤ a * (p * C) + b * (p * C)) × (b * (p * C) + a * (n * C) ≤ a * (p * C) + b * (R * (Y * d) + n * C))
  both = distance_nums a b X R (Y * d) (n * C) (p * C) h k (le_trans (le_of_eq (ap (λ (z : ℕ). z + n * C) (sym (mul_assoc X Y d)))) (le_trans l (le_of_eq (ap (λ (z : ℕ). p * C + z) (mul_assoc h Y d))))) (le_trans (le_of_eq (sym (no_more p C d))) (le_trans u (le_of_eq (ap (λ (z : ℕ). z + n * C) (mul_assoc (X + 652 + h) Y d))))) r s
    where
      no_more : (p C d : ℕ) → p * C + 0 * d ≡ p * C
      no_more p C d = ap (λ (z : ℕ). p * C + z) (zero-mul d) ∙ add-zero (p * C)

  pub distance : Bound (sub_f (frac (R * Y) 0 C) (frac p n d)) (mul_f (frac a 0 b) (frac p n d))
  distance = (first (mul-le-mul_right d both.0), second (mul-le-mul_right d both.1))
    where
      first : (b * (R * (Y * d) + n * C) + a * (n * C)) * d ≤ (a * (p * C) + b * (p * C)) * d → (R * Y * d + n * C) * (b * d) + (a * n + 0 * p) * (C * d) ≤ (a * p + 0 * n) * (C * d) + (0 * d + p * C) * (b * d)
      first h = go a b R Y C p n d h
        where
          go : (a b R Y C p n d : ℕ) → (b * (R * (Y * d) + n * C) + a * (n * C)) * d ≤ (a * (p * C) + b * (p * C)) * d → (R * Y * d + n * C) * (b * d) + (a * n + 0 * p) * (C * d) ≤ (a * p + 0 * n) * (C * d) + (0 * d + p * C) * (b * d)
          go a b R Y C p n d h = let z = simp ring at h in simp (ring, zero-mul, add-zero, zero-add) (omega arith)

      second : (b * (p * C) + a * (n * C)) * d ≤ (a * (p * C) + b * (R * (Y * d) + n * C)) * d → (0 * d + p * C) * (b * d) + (a * n + 0 * p) * (C * d) ≤ (a * p + 0 * n) * (C * d) + (R * Y * d + n * C) * (b * d)
      second h = go a b R Y C p n d h
        where
          go : (a b R Y C p n d : ℕ) → (b * (p * C) + a * (n * C)) * d ≤ (a * (p * C) + b * (R * (Y * d) + n * C)) * d → (0 * d + p * C) * (b * d) + (a * n + 0 * p) * (C * d) ≤ (a * p + 0 * n) * (C * d) + (R * Y * d + n * C) * (b * d)
          go a b R Y C p n d h = let z = simp ring at h in simp (ring, zero-mul, add-zero, zero-add) (omega arith)

-- as a distance with sizes
pub within_of : (r e : Frac) (a b : ℕ) → Pos e → 0 < b → Bound (sub_f r e) (mul_f (frac a 0 b) e) → Within b a r e
within_of r (frac p n d) a b E B h =
    let e = frac p n d in
    le_trans_f (mul_f (nat_f b) (abs_f (sub_f r e))) (mul_f (nat_f b) (mul_f (frac a 0 b) (abs_f e))) (mul_f (nat_f a) (abs_f e)) (mul-pos (lit< tt) (mul-pos B E))
    (scaled b 1 (abs_f (sub_f r e)) (mul_f (frac a 0 b) (abs_f e)) (le_trans_f (abs_f (sub_f r e)) (mul_f (frac a 0 b) e) (mul_f (frac a 0 b) (abs_f e)) (mul-pos B E) (abs_le (sub_f r e) (mul_f (frac a 0 b) e) h) (scaled a b e (abs_f e) (le_abs e))))
    (cancel a b (abs_f e))
  where
    cancel : (a b : ℕ) (x : Frac) → le_f (mul_f (nat_f b) (mul_f (frac a 0 b) x)) (mul_f (nat_f a) x)
    cancel a b (frac p n d) = nums a b p n d
      where
        nums : (a b p n d : ℕ) → le_f (mul_f (nat_f b) (mul_f (frac a 0 b) (frac p n d))) (mul_f (nat_f a) (frac p n d))
        nums a b p n d = simp (ring, one-mul, zero-mul, add-zero, zero-add) (omega arith)
