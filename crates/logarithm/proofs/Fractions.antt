-- Fractions that are the same give the same results, and fractions without a minus part are worked as pairs. Assumes nothing.
use mathlib.Core.Path.{◌≡◌, refl, sym, ap, ap₂, ◌∙◌, subst}
use mathlib.Core.Bool.{Bool, true, false}
use Prim.Native.Nat.{ℕ, zero, suc, ◌+◌, ◌-◌, ◌*◌, ◌^◌, ◌≤◌, ◌<◌}
use native.Mathlib.Nat.{le_antisymm, mul-zero, zero-mul, add-zero, add_comm, le_of_mul-le-mul_right, add-sub_of_le, pow-suc}
use native.Mathlib.Nat as Nat
use native.Mathlib.Omega.{arith}
use lib.Ieee.{Float, nan, inf, fin, up, down}
use lib.Ieee.Exact.{HasValue}
use Rattle.number.specs.Frac.{Frac, frac, Pos, le_f, lt_f, zero_f, neg_f, add_f, mul_f, inv_f, sgn, val_f}
use Rattle.number.proofs.Frac.{ring, add_mono_f, neg_anti_f, mul_f_pos, lt_le_trans_f}
use Rattle.number.proofs.Hull.{inv_anti_above}
use Rattle.series.specs.Sums.{nat_f, over_f, abs_f, eq_f, pow_f, sum_f}
pub use Rattle.series.proofs.Fractions.{eq_refl_f, eq_sym_f, eq_trans_f, over_mono, abs_pos}

cross : (p n d q m c : ℕ) → eq_f (frac p n d) (frac q m c) → p * c + m * d ≡ q * d + n * c
cross p n d q m c e = le_antisymm e.0 e.1

pub add_cong : (x x' y y' : Frac) → eq_f x x' → eq_f y y' → eq_f (add_f x y) (add_f x' y')
add_cong x x' y y' e f = (add_mono_f x x' y y' e.0 f.0, add_mono_f x' x y' y e.1 f.1)

pub neg_cong : (x y : Frac) → eq_f x y → eq_f (neg_f x) (neg_f y)
neg_cong x y e = (neg_anti_f y x e.1, neg_anti_f x y e.0)

mul_half : (x x' y y' : Frac) → eq_f x x' → eq_f y y' → le_f (mul_f x y) (mul_f x' y')
mul_half (frac p n d) (frac p' n' d') (frac q m c) (frac q' m' c') e f =
    let E = cross p n d p' n' d' e in
    let F = cross q m c q' m' c' f in
    let a = simp ring at (ap (λ (t : ℕ). t * (q * c')) E) in
    let b = simp ring at (ap (λ (t : ℕ). t * (m * c')) E) in
    let g = simp ring at (ap (λ (t : ℕ). t * (p' * d)) F) in
    let h = simp ring at (ap (λ (t : ℕ). t * (n' * d)) F) in
    simp ring (omega arith)

pub mul_cong : (x x' y y' : Frac) → eq_f x x' → eq_f y y' → eq_f (mul_f x y) (mul_f x' y')
mul_cong x x' y y' e f = (mul_half x x' y y' e f, mul_half x' x y' y (eq_sym_f x x' e) (eq_sym_f y y' f))

pub over_cong : (x y : Frac) (k : ℕ) → eq_f x y → eq_f (over_f x k) (over_f y k)
over_cong x y k e = (over_mono x y k e.0, over_mono y x k e.1)

pub inv_cong : (x y : Frac) → lt_f zero_f x → lt_f zero_f y → eq_f x y → eq_f (inv_f x) (inv_f y)
inv_cong x y p q e = (inv_anti_above y x q p e.1, inv_anti_above x y p q e.0)

pub pow_pos : (x : Frac) (k : ℕ) → Pos x → Pos (pow_f x k)
unfolding pow_f
pow_pos x zero h = omega arith
pow_pos x (suc k) h = mul_f_pos (pow_f x k) x (pow_pos x k h) h

pub pow_cong : (x y : Frac) (k : ℕ) → eq_f x y → eq_f (pow_f x k) (pow_f y k)
unfolding pow_f
pow_cong x y zero e = eq_refl_f (nat_f 1)
pow_cong x y (suc k) e = mul_cong (pow_f x k) (pow_f y k) x y (pow_cong x y k e) e

pub sum_cong : (k : ℕ) (f g : ℕ → Frac) → ((i : ℕ) → eq_f (f i) (g i)) → eq_f (sum_f k f) (sum_f k g)
unfolding sum_f
sum_cong zero f g h = eq_refl_f zero_f
sum_cong (suc k) f g h = add_cong (sum_f k f) (sum_f k g) (f k) (g k) (sum_cong k f g h) (h k)

-- a positive one is, whatever stands for it
pub above_cong : (x y : Frac) → Pos x → Pos y → eq_f x y → lt_f zero_f x → lt_f zero_f y
above_cong x y p q e h = lt_le_trans_f zero_f x y p q h e.0

-- ---- the size of a fraction that is a / c, or its negative
size_is : (t q : ℕ) → q + t - q + (q - (q + t)) ≡ t
size_is t q = omega arith

size_is' : (t q : ℕ) → q - (q + t) + (q + t - q) ≡ t
size_is' t q = omega arith

order : (p q d n e : ℕ) → 0 < d → p * d ≡ n * e + q * d → q ≤ p
order p q d n e h k = le_of_mul-le-mul_right (go (p * d) (q * d) (n * e) k) h
  where
    go : (x y z : ℕ) → x ≡ z + y → y ≤ x
    go x y z h = omega arith

plus_size : (t q e n d : ℕ) → eq_f (frac (q + t) q e) (frac n 0 d) → eq_f (frac t 0 e) (frac n 0 d)
plus_size t q e n d h =
    let a = simp ring at h.0 in
    let b = simp ring at h.1 in
    (simp ring (omega arith), simp ring (omega arith))

minus_size : (t q e n d : ℕ) → eq_f (frac q (q + t) e) (frac 0 n d) → eq_f (frac t 0 e) (frac n 0 d)
minus_size t q e n d h =
    let a = simp ring at h.0 in
    let b = simp ring at h.1 in
    (simp ring (omega arith), simp ring (omega arith))

pub abs_is : (s : Bool) (x : Frac) (n d : ℕ) → 0 < d → eq_f x (sgn s n d) → eq_f (abs_f x) (frac n 0 d)
abs_is false (frac p q e) n d h k =
    let l : q ≤ p = order p q d n e h (lin (p * d) (q * d) (n * e) (cross p q e n 0 d k)) in
    subst (λ (z : ℕ). eq_f (abs_f (frac z q e)) (frac n 0 d)) (add-sub_of_le l)
    (subst (λ (z : ℕ). eq_f (frac z 0 e) (frac n 0 d)) (sym (size_is (p - q) q))
    (plus_size (p - q) q e n d (subst (λ (z : ℕ). eq_f (frac z q e) (frac n 0 d)) (sym (add-sub_of_le l)) k)))
  where
    lin : (x y z : ℕ) → x + 0 * e ≡ z + y → x ≡ z + y
    lin x y z h = omega arith
abs_is true (frac p q e) n d h k =
    let l : p ≤ q = order q p d n e h (lin (q * d) (p * d) (n * e) (cross p q e 0 n d k)) in
    subst (λ (z : ℕ). eq_f (abs_f (frac p z e)) (frac n 0 d)) (add-sub_of_le l)
    (subst (λ (z : ℕ). eq_f (frac z 0 e) (frac n 0 d)) (sym (size_is' (q - p) p))
    (minus_size (q - p) p e n d (subst (λ (z : ℕ). eq_f (frac p z e) (sgn true n d)) (sym (add-sub_of_le l)) k)))
  where
    lin : (x y z : ℕ) → y + z ≡ 0 * e + x → x ≡ z + y
    lin x y z h = omega arith

-- ---- without a minus part
pub mul_plain : (a b c d : ℕ) → mul_f (frac a 0 b) (frac c 0 d) ≡ frac (a * c) 0 (b * d)
mul_plain a b c d = ap₂ (λ (x y : ℕ). frac x y (b * d)) (ap (λ (x : ℕ). a * c + x) (zero-mul 0) ∙ add-zero (a * c)) (ap₂ ◌+◌ (mul-zero a) (zero-mul c))

pub add_plain : (a b c d : ℕ) → add_f (frac a 0 b) (frac c 0 d) ≡ frac (a * d + c * b) 0 (b * d)
add_plain a b c d = ap (λ (y : ℕ). frac (a * d + c * b) y (b * d)) (ap₂ ◌+◌ (zero-mul d) (zero-mul b))

pub pow_plain : (n d k : ℕ) → pow_f (frac n 0 d) k ≡ frac (n ^ k) 0 (d ^ k)
unfolding pow_f
pow_plain n d zero = ap₂ (λ (x y : ℕ). frac x 0 y) (sym (Nat.pow-zero n)) (sym (Nat.pow-zero d))
pow_plain n d (suc k) = ap (λ (x : Frac). mul_f x (frac n 0 d)) (pow_plain n d k) ∙ mul_plain (n ^ k) (d ^ k) n d ∙ ap₂ (λ (x y : ℕ). frac x 0 y) (sym (pow-suc n k)) (sym (pow-suc d k))

-- ---- signs
pub mul_neg_left : (x y : Frac) → mul_f (neg_f x) y ≡ neg_f (mul_f x y)
mul_neg_left (frac p n d) (frac q m c) = ap₂ (λ (x y : ℕ). frac x y (d * c)) (add_comm (n * q) (p * m)) (add_comm (n * m) (p * q))

pub mul_neg_neg : (x y : Frac) → mul_f (neg_f x) (neg_f y) ≡ mul_f x y
mul_neg_neg (frac p n d) (frac q m c) = ap₂ (λ (x y : ℕ). frac x y (d * c)) (add_comm (n * m) (p * q)) (add_comm (n * q) (p * m))

pub add_neg : (x y : Frac) → add_f (neg_f x) (neg_f y) ≡ neg_f (add_f x y)
add_neg (frac p n d) (frac q m c) = refl

-- ---- a float's fraction
pub value_is : (x : Float) (s : Bool) (a c : ℕ) → HasValue x s a c → eq_f (val_f x) (sgn s a c)
value_is nan s a c h = absurd h
value_is (inf t) s a c h = absurd h
value_is (fin t m e) s a c h = subst (λ (u : Bool). eq_f (sgn u (m * up e) (down e)) (sgn s a c)) (sym h.0) (go s (m * up e) (down e) a c h.1)
  where
    go : (s : Bool) (u d a c : ℕ) → u * c ≡ a * d → eq_f (sgn s u d) (sgn s a c)
    go false u d a c e = (omega arith, omega arith)
    go true u d a c e = (omega arith, omega arith)
