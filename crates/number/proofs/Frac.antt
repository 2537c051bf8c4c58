-- The order of fractions, and what keeps it. Assumes nothing.
use Rattle.std.proofs.Common.{◌≡◌, refl, ℕ, ◌+◌, ◌-◌, ◌*◌, ◌<◌, ◌≤◌, Bool, true, false, ◌⊎◌, subst, inl, inr, mul-le-mul_right, zero-lt-suc, mul_assoc, mul_comm, add-mul, add-sub_of_le, lt_of_mul-lt-mul_right, mul-lt-mul_of_pos_right, mul-pos, lt_of_not-le, mul-add, le_of_mul-le-mul_right, mul_left_comm, arith}
use native.Mathlib.Decide.{dec_le}
use lib.Ieee.{Float, nan, inf, fin, up, down}
use lib.Ieee.Fits.{down_pos}
use Rattle.number.specs.Frac.{Frac, frac, Pos, le_f, lt_f, zero_f, neg_f, add_f, mul_f, sgn, val_f}

-- products multiplied out and in one order; `omega` does the rest
pub ruleset ring = (add-mul, mul-add, mul_assoc, mul_comm, mul_left_comm)

pub sgn_pos : (s : Bool) (a c : ℕ) → 0 < c → Pos (sgn s a c)
sgn_pos false a c C = C
sgn_pos true a c C = C

pub val_f_pos : (x : Float) → Pos (val_f x)
val_f_pos nan = zero-lt-suc 0
val_f_pos (inf s) = zero-lt-suc 0
val_f_pos (fin s m e) = sgn_pos s (m * up e) (down e) (down_pos e)

-- ---- the order
pub le_refl_f : (x : Frac) → le_f x x
le_refl_f (frac p n d) = omega arith

pub le_trans_f : (x y z : Frac) → Pos y → le_f x y → le_f y z → le_f x z
le_trans_f (frac p n d) (frac q m c) (frac r l e) C h k =
    let a = simp ring at (mul-le-mul_right e h) in
    let b = simp ring at (mul-le-mul_right d k) in
    le_of_mul-le-mul_right {k = c} (simp ring (omega arith)) C

pub lt_le_trans_f : (x y z : Frac) → Pos y → Pos z → lt_f x y → le_f y z → lt_f x z
lt_le_trans_f (frac p n d) (frac q m c) (frac r l e) C E h k =
    let a = simp ring at (mul-lt-mul_of_pos_right {k = e} h E) in
    let b = simp ring at (mul-le-mul_right d k) in
    lt_of_mul-lt-mul_right c (simp ring (omega arith))

pub le_lt_trans_f : (x y z : Frac) → Pos x → Pos y → le_f x y → lt_f y z → lt_f x z
le_lt_trans_f (frac p n d) (frac q m c) (frac r l e) D C h k =
    let a = simp ring at (mul-le-mul_right e h) in
    let b = simp ring at (mul-lt-mul_of_pos_right {k = d} k D) in
    lt_of_mul-lt-mul_right c (simp ring (omega arith))

pub lt_le_f : (x y : Frac) → lt_f x y → le_f x y
lt_le_f (frac p n d) (frac q m c) h = omega arith

pub lt_irrefl_f : (x y : Frac) → le_f x y → lt_f y x → ⊥
lt_irrefl_f (frac p n d) (frac q m c) h k = omega arith

pub le_or_lt : (x y : Frac) → le_f x y ⊎ lt_f y x
le_or_lt (frac p n d) (frac q m c) = go (dec_le (p * c + m * d) (q * d + n * c))
  where
    go : Dec (p * c + m * d ≤ q * d + n * c) → le_f (frac p n d) (frac q m c) ⊎ lt_f (frac q m c) (frac p n d)
    go (yes h) = inl h
    go (no h) = inr (lt_of_not-le h)

-- ---- the operations keep a positive denominator
pub add_f_pos : (x y : Frac) → Pos x → Pos y → Pos (add_f x y)
add_f_pos (frac p n d) (frac q m c) D C = mul-pos D C

pub mul_f_pos : (x y : Frac) → Pos x → Pos y → Pos (mul_f x y)
mul_f_pos (frac p n d) (frac q m c) D C = mul-pos D C

pub neg_f_pos : (x : Frac) → Pos x → Pos (neg_f x)
neg_f_pos (frac p n d) D = D

pub neg_right : (x y : Frac) → mul_f x (neg_f y) ≡ neg_f (mul_f x y)
neg_right (frac p n d) (frac q m c) = refl

-- ---- monotonicity
pub add_mono_f : (x x' y y' : Frac) → le_f x x' → le_f y y' → le_f (add_f x y) (add_f x' y')
add_mono_f (frac p n d) (frac p' n' d') (frac q m c) (frac q' m' c') h k =
    let a = simp ring at (mul-le-mul_right (c * c') h) in
    let b = simp ring at (mul-le-mul_right (d * d') k) in
    simp ring (omega arith)

pub neg_anti_f : (x y : Frac) → le_f x y → le_f (neg_f y) (neg_f x)
neg_anti_f (frac p n d) (frac q m c) h = omega arith

-- a factor that is not negative: (m + u) - m over c
mul_up : (x x' : Frac) (m u c : ℕ) → le_f x x' → le_f (mul_f x (frac (m + u) m c)) (mul_f x' (frac (m + u) m c))
mul_up (frac p n d) (frac p' n' d') m u c h =
    let a = simp ring at (mul-le-mul_right (c * u) h) in
    simp ring (omega arith)

mul_down : (x x' : Frac) (m u c : ℕ) → le_f x x' → le_f (mul_f x' (frac m (m + u) c)) (mul_f x (frac m (m + u) c))
mul_down (frac p n d) (frac p' n' d') m u c h =
    let a = simp ring at (mul-le-mul_right (c * u) h) in
    simp ring (omega arith)

-- by the factor's sign
abbrev pub Keeps : Frac → Type 0
Keeps y = (x x' : Frac) → le_f x x' → le_f (mul_f x y) (mul_f x' y)

abbrev pub Turns : Frac → Type 0
Turns y = (x x' : Frac) → le_f x x' → le_f (mul_f x' y) (mul_f x y)

pub keeps_of : (y : Frac) → le_f zero_f y → Keeps y
keeps_of (frac q m c) h x x' k = subst (λ (z : ℕ). le_f (mul_f x (frac z m c)) (mul_f x' (frac z m c))) (add-sub_of_le (le_of h)) (mul_up x x' m (q - m) c k)
  where
    le_of : le_f zero_f (frac q m c) → m ≤ q
    le_of h = omega arith

pub turns_of : (y : Frac) → le_f y zero_f → Turns y
turns_of (frac q m c) h x x' k = subst (λ (z : ℕ). le_f (mul_f x' (frac q z c)) (mul_f x (frac q z c))) (add-sub_of_le (le_of h)) (mul_down x x' q (m - q) c k)
  where
    le_of : le_f (frac q m c) zero_f → q ≤ m
    le_of h = omega arith

pub mul_sign : (y : Frac) → Keeps y ⊎ Turns y
mul_sign y = go (le_or_lt zero_f y)
  where
    go : le_f zero_f y ⊎ lt_f y zero_f → Keeps y ⊎ Turns y
    go (inl h) = inl (keeps_of y h)
    go (inr h) = inr (turns_of y (lt_le_f y zero_f h))
