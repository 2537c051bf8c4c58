-- A product of two fractions from two ranges is bounded by the products of the ranges' ends; a quotient likewise, the divisor's range being on one side of zero. Assumes nothing.
use Rattle.std.proofs.Common.{◌≡◌, ℕ, ◌+◌, ◌-◌, ◌<◌, Bool, cond, ltb, ◌⊎◌, sym, ap, subst, subst₂, inl, inr, le_of_lt, add-sub_of_le, arith, ltb→lt, lt→ltb}
use native.Mathlib.Nat.{sub-pos_iff_lt}
use lib.Dec.{not_T}
use lib.Ieee.Bits.{is_true, is_false}
use Rattle.number.specs.Frac.{Frac, frac, Pos, le_f, lt_f, zero_f, mul_f, inv_f}
use Rattle.number.proofs.Frac.{ring, le_trans_f, Keeps, Turns, mul_sign, mul_f_pos}

pub mul_comm_f : (x y : Frac) → le_f (mul_f x y) (mul_f y x)
mul_comm_f (frac p n d) (frac q m c) = simp ring (omega arith)

module _ (L : Frac) where
  lower_left : (a x b y : Frac) → Pos a → Pos b → Pos y → le_f a x → le_f x b → le_f L (mul_f a y) → le_f L (mul_f b y) → le_f L (mul_f x y)
  lower_left a x b y A B Y h k l r = go (mul_sign y)
    where
      go : Keeps y ⊎ Turns y → le_f L (mul_f x y)
      go (inl u) = le_trans_f L (mul_f a y) (mul_f x y) (mul_f_pos a y A Y) l (u a x h)
      go (inr u) = le_trans_f L (mul_f b y) (mul_f x y) (mul_f_pos b y B Y) r (u x b k)

  upper_left : (a x b y : Frac) → Pos a → Pos b → Pos y → le_f a x → le_f x b → le_f (mul_f a y) L → le_f (mul_f b y) L → le_f (mul_f x y) L
  upper_left a x b y A B Y h k l r = go (mul_sign y)
    where
      go : Keeps y ⊎ Turns y → le_f (mul_f x y) L
      go (inl u) = le_trans_f (mul_f x y) (mul_f b y) L (mul_f_pos b y B Y) (u x b k) r
      go (inr u) = le_trans_f (mul_f x y) (mul_f a y) L (mul_f_pos a y A Y) (u a x h) l

  lower_turn : (x y : Frac) → Pos x → Pos y → le_f L (mul_f x y) → le_f L (mul_f y x)
  lower_turn x y X Y h = le_trans_f L (mul_f x y) (mul_f y x) (mul_f_pos x y X Y) h (mul_comm_f x y)

  upper_turn : (x y : Frac) → Pos x → Pos y → le_f (mul_f x y) L → le_f (mul_f y x) L
  upper_turn x y X Y h = le_trans_f (mul_f y x) (mul_f x y) L (mul_f_pos x y X Y) (mul_comm_f y x) h

  pub mul_lower : (a x b c y d : Frac) → Pos a → Pos x → Pos b → Pos c → Pos y → Pos d → le_f a x → le_f x b → le_f c y → le_f y d
      → le_f L (mul_f a c) → le_f L (mul_f a d) → le_f L (mul_f b c) → le_f L (mul_f b d) → le_f L (mul_f x y)
  mul_lower a x b c y d A X B C Y D h h' k k' ac ad bc bd =
      lower_left a x b y A B Y h h'
      (lower_turn y a Y A (lower_left c y d a C D A k k' (lower_turn a c A C ac) (lower_turn a d A D ad)))
      (lower_turn y b Y B (lower_left c y d b C D B k k' (lower_turn b c B C bc) (lower_turn b d B D bd)))

  pub mul_upper : (a x b c y d : Frac) → Pos a → Pos x → Pos b → Pos c → Pos y → Pos d → le_f a x → le_f x b → le_f c y → le_f y d
      → le_f (mul_f a c) L → le_f (mul_f a d) L → le_f (mul_f b c) L → le_f (mul_f b d) L → le_f (mul_f x y) L
  mul_upper a x b c y d A X B C Y D h h' k k' ac ad bc bd =
      upper_left a x b y A B Y h h'
      (upper_turn y a Y A (upper_left c y d a C D A k k' (upper_turn a c A C ac) (upper_turn a d A D ad)))
      (upper_turn y b Y B (upper_left c y d b C D B k k' (upper_turn b c B C bc) (upper_turn b d B D bd)))

-- ---- 1 / y, for a y that is not zero (at zero its denominator is 0)

pub inv_above : (q m c : ℕ) → m < q → inv_f (frac q m c) ≡ frac c 0 (q - m)
inv_above q m c h = ap (λ (b : Bool). cond b (frac c 0 (q - m)) (frac 0 c (m - q))) (is_true (ltb m q) (lt→ltb m q h))

no_both : (q m : ℕ) → q < m → m < q → ⊥
no_both q m h k = omega arith

pub inv_below : (q m c : ℕ) → q < m → inv_f (frac q m c) ≡ frac 0 c (m - q)
inv_below q m c h = ap (λ (b : Bool). cond b (frac c 0 (q - m)) (frac 0 c (m - q))) (is_false (ltb m q) (not_T (ltb m q) (λ t. no_both q m h (ltb→lt m q t))))

above_is : (q m c : ℕ) → lt_f zero_f (frac q m c) → m < q
above_is q m c h = omega arith

below_is : (q m c : ℕ) → lt_f (frac q m c) zero_f → q < m
below_is q m c h = omega arith

-- with the differences as numbers
anti_above : (u m c v n d : ℕ) → le_f (frac (m + u) m c) (frac (n + v) n d) → le_f (frac d 0 v) (frac c 0 u)
anti_above u m c v n d h = let a = simp ring at h in simp ring (omega arith)

anti_below : (u m c v n d : ℕ) → le_f (frac m (m + u) c) (frac n (n + v) d) → le_f (frac 0 d v) (frac 0 c u)
anti_below u m c v n d h = let a = simp ring at h in simp ring (omega arith)

pub inv_anti_above : (y y' : Frac) → lt_f zero_f y → lt_f zero_f y' → le_f y y' → le_f (inv_f y') (inv_f y)
inv_anti_above (frac q m c) (frac r n d) s t h =
    let e = above_is q m c s in
    let g = above_is r n d t in
    subst₂ (λ (x y : Frac). le_f x y) (sym (inv_above r n d g)) (sym (inv_above q m c e))
    (anti_above (q - m) m c (r - n) n d (subst₂ (λ (a b : ℕ). le_f (frac a m c) (frac b n d)) (sym (add-sub_of_le (le_of_lt e))) (sym (add-sub_of_le (le_of_lt g))) h))

pub inv_anti_below : (y y' : Frac) → lt_f y zero_f → lt_f y' zero_f → le_f y y' → le_f (inv_f y') (inv_f y)
inv_anti_below (frac q m c) (frac r n d) s t h =
    let e = below_is q m c s in
    let g = below_is r n d t in
    subst₂ (λ (x y : Frac). le_f x y) (sym (inv_below r n d g)) (sym (inv_below q m c e))
    (anti_below (m - q) q c (n - r) r d (subst₂ (λ (a b : ℕ). le_f (frac q a c) (frac r b d)) (sym (add-sub_of_le (le_of_lt e))) (sym (add-sub_of_le (le_of_lt g))) h))

pub inv_f_pos_above : (y : Frac) → lt_f zero_f y → Pos (inv_f y)
inv_f_pos_above (frac q m c) s = subst Pos (sym (inv_above q m c (above_is q m c s))) (sub-pos_iff_lt.1 (above_is q m c s))

pub inv_f_pos_below : (y : Frac) → lt_f y zero_f → Pos (inv_f y)
inv_f_pos_below (frac q m c) s = subst Pos (sym (inv_below q m c (below_is q m c s))) (sub-pos_iff_lt.1 (below_is q m c s))
