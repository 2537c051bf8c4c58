-- The base-2 core's distance from every value of exp, for an argument v near (w / 2 ^ 53 - 1023) ln 2: the law that exp and the power stand on. Assumes nothing.
use mathlib.Core.Path.{◌≡◌, refl, sym, ap, ◌∙◌, subst}
use mathlib.Core.Logic.{◌⊎◌, inl, inr}
use mathlib.Core.Bool.{Bool, true, false}
use Prim.Native.Nat.{ℕ, ◌+◌, ◌-◌, ◌*◌, ◌/◌, ◌%◌, ◌^◌, ◌≤◌, ◌<◌}
use native.Mathlib.Nat.{mul_assoc, mul_comm, mul_left_comm, mul-zero, zero-mul, one-mul, add-zero, zero-add, add-le-add, le_refl, le_trans, le_of_eq, mul-pos, mul-le-mul, mul-le-mul_left, mul-le-mul_right}
use native.Mathlib.Omega.{arith}
use lib.Dec.{T, lit<, lit≤}
use lib.Pow.{pow-add, pow_pos}
use lib.Ieee.{Float, nan, inf, fin, up, down}
use lib.Ieee.Exact.{HasValue}
use lib.Ieee.Scale.{finite}
use Rattle.number.specs.Frac.{Frac, frac, Pos, le_f, neg_f, add_f, sub_f, mul_f, sgn, val_f}
use Rattle.number.proofs.Frac.{ring, le_trans_f, le_refl_f, lt_le_f, add_mono_f, add_f_pos, mul_f_pos, neg_f_pos}
use Rattle.series.specs.Sums.{nat_f, over_f, abs_f, eq_f, pow_f, factorial, scale_f}
use Rattle.series.specs.Exact.{ExpValue, exp_sum, exp_tail, middle, rest, ln2_low, ln2_high}
use Rattle.series.proofs.Constants.{mn, md}
use Rattle.series.proofs.Close.{value_finite}
use Rattle.fixed_point.proofs.Patterns64.{pack_value, near_lo, near_hi, near_up, near_down}
use Rattle.exponential.specs.Raise.{significand_of, raise_of}
use Rattle.exponential.proofs.Digits.{significand_lo, significand_hi}
use Rattle.exponential.proofs.Terms.{K, all_terms, both_terms}
use Rattle.exponential.proofs.Literal.{sum_up, sum_down, factorial_pos}
use Rattle.exponential.proofs.Joined as joined
use Rattle.exponential.proofs.Bounds.{Bound, bound_eq, bound_up, bound_add, exp_moves, sum_pos, pow_f_pos}
use Rattle.series.proofs.Fractions.{over_pos}
use Rattle.exponential.proofs.Position.{M, Same, Next, cut}
use Rattle.exponential.proofs.Moved.{moved_near}
use Rattle.exponential.proofs.Value.{Within, Factor, tail_le, sum_low, sum_high, scale_low, scale_high, distance, within_of}

-- ---- the sum at the exponent's own argument
module _ (w : ℕ) where
  abbrev X : ℕ
  X = significand_of w

  at_same : w % 2 ^ 53 < 65 * 2 ^ 46 → le_f (frac X 0 (2 ^ 63)) (exp_sum (frac (mn * (w % 2 ^ 53)) 0 (md * 2 ^ 53))) × le_f (exp_sum (frac (mn * (w % 2 ^ 53)) 0 (md * 2 ^ 53))) (frac (X + 652) 0 (2 ^ 63))
  at_same h =
      let n = mn * (w % 2 ^ 53) in
      let S = exp_sum (frac n 0 (md * 2 ^ 53)) in
      let A = frac (all_terms n (md * 2 ^ 53)) 0 (K * (md * 2 ^ 53) ^ 29) in
      let e = sum_up n (md * 2 ^ 53) (lit< tt) in
      let z = joined.near_up w h in (
        le_trans_f (frac X 0 (2 ^ 63)) A S (lit< tt) (below X (K * (md * 2 ^ 53) ^ 29) (2 ^ 63) (all_terms n (md * 2 ^ 53)) z.0) e.1,
        le_trans_f S A (frac (X + 652) 0 (2 ^ 63)) (lit< tt) e.0 (above (X + 652) (K * (md * 2 ^ 53) ^ 29) (2 ^ 63) (all_terms n (md * 2 ^ 53)) z.1),
      )
    where
      below : (x z g a : ℕ) → x * z ≤ g * a → x * z + 0 * g ≤ a * g + 0 * z
      below x z g a h = le_trans (le_of_eq (ap (λ (y : ℕ). x * z + y) (zero-mul g) ∙ add-zero (x * z))) (le_trans h (le_of_eq (mul_comm g a ∙ sym (ap (λ (y : ℕ). a * g + y) (zero-mul z) ∙ add-zero (a * g)))))

      above : (x z g a : ℕ) → g * a ≤ x * z → a * g + 0 * z ≤ x * z + 0 * g
      above x z g a h = le_trans (le_of_eq (ap (λ (y : ℕ). a * g + y) (zero-mul z) ∙ add-zero (a * g) ∙ mul_comm a g)) (le_trans h (le_of_eq (sym (ap (λ (y : ℕ). x * z + y) (zero-mul g) ∙ add-zero (x * z)))))

  at_next : 63 * 2 ^ 46 ≤ w % 2 ^ 53 → le_f (frac X 0 (2 ^ 64)) (exp_sum (frac 0 (mn * (2 ^ 53 - w % 2 ^ 53)) (md * 2 ^ 53))) × le_f (exp_sum (frac 0 (mn * (2 ^ 53 - w % 2 ^ 53)) (md * 2 ^ 53))) (frac (X + 652) 0 (2 ^ 64))
  at_next h =
      let n = mn * (2 ^ 53 - w % 2 ^ 53) in
      let S = exp_sum (frac 0 n (md * 2 ^ 53)) in
      let z = joined.near_down w h in
      let A = frac (both_terms n (md * 2 ^ 53)).1 (both_terms n (md * 2 ^ 53)).0 (K * (md * 2 ^ 53) ^ 29) in
      let e = sum_down n (md * 2 ^ 53) (lit< tt) in (
        le_trans_f (frac X 0 (2 ^ 64)) A S (lit< tt) (below X (K * (md * 2 ^ 53) ^ 29) (2 ^ 64) (both_terms n (md * 2 ^ 53)).1 (both_terms n (md * 2 ^ 53)).0 z.0) e.1,
        le_trans_f S A (frac (X + 652) 0 (2 ^ 64)) (lit< tt) e.0 (above (X + 652) (K * (md * 2 ^ 53) ^ 29) (2 ^ 64) (both_terms n (md * 2 ^ 53)).1 (both_terms n (md * 2 ^ 53)).0 z.1),
      )
    where
      below : (x z g a b : ℕ) → x * z + g * b ≤ g * a → x * z + b * g ≤ a * g + 0 * z
      below x z g a b h = le_trans (le_of_eq (ap (λ (y : ℕ). x * z + y) (mul_comm b g))) (le_trans h (le_of_eq (mul_comm g a ∙ sym (ap (λ (y : ℕ). a * g + y) (zero-mul z) ∙ add-zero (a * g)))))

      above : (x z g a b : ℕ) → g * a ≤ x * z + g * b → a * g + 0 * z ≤ x * z + b * g
      above x z g a b h = le_trans (le_of_eq (ap (λ (y : ℕ). a * g + y) (zero-mul z) ∙ add-zero (a * g) ∙ mul_comm a g)) (le_trans h (le_of_eq (ap (λ (y : ℕ). x * z + y) (mul_comm g b))))

-- ---- sizes of the arguments
small_argument : (f g : ℕ) → f ≤ 2 ^ 52 + 16 → g ≤ 2 ^ 52 + 16 → Bound (frac (mn * f) (mn * g) (md * 2 ^ 53)) (frac 7 0 20)
small_argument f g F G = (side (mn * g) (7 * (md * 2 ^ 53)) (mn * f * 20) (md * 2 ^ 53) (part f F), side (mn * f) (7 * (md * 2 ^ 53)) (mn * g * 20) (md * 2 ^ 53) (part g G))
  where
    part : (f : ℕ) → f ≤ 2 ^ 52 + 16 → mn * f * 20 ≤ 7 * (md * 2 ^ 53)
    part f F = le_trans (mul-le-mul_right 20 (mul-le-mul_left mn F)) (lit≤ tt)

    side : (y r x d : ℕ) → x ≤ r → x + 0 * d ≤ r + y * 20
    side y r x d h = le_trans (le_of_eq (ap (λ (z : ℕ). x + z) (zero-mul d) ∙ add-zero x)) (le_trans h (more r (y * 20)))
      where
        more : (r y : ℕ) → r ≤ r + y
        more r y = omega arith

-- x = u + (x - u)
whole_of : (x u : Frac) → Pos x → Pos u → eq_f x (add_f u (sub_f x u))
whole_of (frac p n d) (frac q m c) X U = (nums p n d q m c, back p n d q m c)
  where
    nums : (p n d q m c : ℕ) → le_f (frac p n d) (add_f (frac q m c) (sub_f (frac p n d) (frac q m c)))
    nums p n d q m c = simp ring (omega arith)

    back : (p n d q m c : ℕ) → le_f (add_f (frac q m c) (sub_f (frac p n d) (frac q m c))) (frac p n d)
    back p n d q m c = simp ring (omega arith)

near_argument : (x u : Frac) (c : ℕ) → Pos x → Pos u → c ≤ 1024 → Bound u (frac 7 0 20) → Bound (sub_f x u) (frac (c + 1) 0 (2 ^ 60)) → Bound x (frac 9 0 25)
near_argument x u c X U C h k =
    bound_eq (add_f u (sub_f x u)) x (frac 9 0 25) (add_f_pos u (sub_f x u) U (add_f_pos x (neg_f u) X (neg_f_pos u U))) (whole_of x u X U)
    (bound_up (add_f u (sub_f x u)) (add_f (frac 7 0 20) (frac (c + 1) 0 (2 ^ 60))) (frac 9 0 25) (lit< tt) (room c C) (bound_add u (sub_f x u) (frac 7 0 20) (frac (c + 1) 0 (2 ^ 60)) h k))
  where
    room : (c : ℕ) → c ≤ 1024 → le_f (add_f (frac 7 0 20) (frac (c + 1) 0 (2 ^ 60))) (frac 9 0 25)
    room c C = omega arith

-- the move and the tail in units of 1 / G, G = y 2 ^ 60
room : (c U E y : ℕ) → U ≤ E → le_f (add_f (mul_f (frac (c + 1) 0 U) (frac 36 0 25)) (frac 1 0 E)) (frac (y * (3 * c + 6)) 0 (2 * y * U))
room c U E y h = go c U E y (mul-le-mul_right (U * y) h)
  where
    go : (c U E y : ℕ) → U * (U * y) ≤ E * (U * y) → (((c + 1) * 36 + 0 * 0) * E + 1 * (U * 25)) * (2 * y * U) + 0 * (U * 25 * E) ≤ y * (3 * c + 6) * (U * 25 * E) + (((c + 1) * 0 + 0 * 36) * E + 0 * (U * 25)) * (2 * y * U)
    go c U E y h = let z = simp ring at h in simp (ring, one-mul, mul-zero, zero-mul, add-zero, zero-add) (omega arith)

-- ---- the budget
budget : (c h : ℕ) → c ≤ 1024 → h ≤ 24 * c + 48 → (x : ℕ) → 2 ^ 63 ≤ x → 2 ^ 60 * (1676 + h) + (216 + 3 * c) * h ≤ (216 + 3 * c) * x
budget c h C H x X₁ = le_trans (lin c h ((216 + 3 * c) * h) C H (le_trans (mul-le-mul (few c C) (some c h C H)) (lit≤ tt))) (le_trans (le_of_eq (turn (216 + 3 * c))) (mul-le-mul_left (216 + 3 * c) X₁))
  where
    few : (c : ℕ) → c ≤ 1024 → 216 + 3 * c ≤ 4096
    few c C = omega arith

    some : (c h : ℕ) → c ≤ 1024 → h ≤ 24 * c + 48 → h ≤ 32768
    some c h C H = omega arith

    lin : (c h y : ℕ) → c ≤ 1024 → h ≤ 24 * c + 48 → y ≤ 134217728 → 2 ^ 60 * (1676 + h) + y ≤ 2 ^ 63 * (216 + 3 * c)
    lin c h y C H Y = omega arith

    turn : (a : ℕ) → 2 ^ 63 * a ≡ a * 2 ^ 63
    turn a = mul_comm (2 ^ 63) a

-- the values of exp in the core's units: from X - h to X + 652 + h, h = 24 c + 48, X the significand
abbrev pub Bracket : ℕ → ℕ → Frac → Type 0
Bracket w c e = le_f (frac (significand_of w * 2 ^ (w / 2 ^ 53)) ((24 * c + 48) * 2 ^ (w / 2 ^ 53)) (2 ^ 1086)) e × le_f e (frac ((significand_of w + 652 + (24 * c + 48)) * 2 ^ (w / 2 ^ 53)) 0 (2 ^ 1086))

-- ---- one way of cutting: u is (f - g) ln 2 / 2 ^ 53, X / G the core's value of exp u
module _ (w c : ℕ) (v l e : Frac) (a b : ℕ) (neg : Bool) (k f g y : ℕ) (C : c ≤ 1024) (P : Pos v) (L : Pos l) (few : y ≤ 8) (some : 0 < y)
    (F : f ≤ 2 ^ 52 + 16) (G : g ≤ 2 ^ 52 + 16) (split : w + b * 2 ^ 53 + g ≡ a * 2 ^ 53 + 1023 * 2 ^ 53 + f) (bound : Bound (frac a b 1) (frac 4096 0 1))
    (lo : le_f ln2_low l) (hi : le_f l ln2_high) (near : Bound (sub_f v (mul_f (frac w (1023 * 2 ^ 53) (2 ^ 53)) M)) (frac c 0 (2 ^ 60)))
    (sums : le_f (frac (significand_of w) 0 (2 * y * 2 ^ 60)) (exp_sum (frac (mn * f) (mn * g) (md * 2 ^ 53))) × le_f (exp_sum (frac (mn * f) (mn * g) (md * 2 ^ 53))) (frac (significand_of w + 652) 0 (2 * y * 2 ^ 60)))
    (factor : Factor neg k (2 * y * 2 ^ 60) (2 ^ (w / 2 ^ 53)) (2 ^ 1086))
    (low : le_f (scale_f neg k (sub_f (exp_sum (sub_f v (mul_f (frac a b 1) l))) (exp_tail (sub_f v (mul_f (frac a b 1) l))))) e)
    (high : le_f e (scale_f neg k (add_f (exp_sum (sub_f v (mul_f (frac a b 1) l))) (exp_tail (sub_f v (mul_f (frac a b 1) l)))))) where
  abbrev t : Frac
  t = sub_f v (mul_f (frac a b 1) l)

  abbrev u : Frac
  u = frac (mn * f) (mn * g) (md * 2 ^ 53)

  abbrev Y : ℕ
  Y = 2 ^ (w / 2 ^ 53)

  abbrev h : ℕ
  h = y * (3 * c + 6)

  t_pos : Pos t
  t_pos = add_f_pos v (neg_f (mul_f (frac a b 1) l)) P (neg_f_pos (mul_f (frac a b 1) l) (mul_f_pos (frac a b 1) l (lit< tt) L))

  sum_at : (x : Frac) → Pos x → Pos (exp_sum x)
  unfolding exp_sum
  sum_at x X₁ = sum_pos x X₁ 30

  tail_at : (x : Frac) → Pos x → Pos (exp_tail x)
  unfolding exp_tail
  tail_at (frac p n d) X₁ = over_pos (mul_f (nat_f 2) (pow_f (abs_f (frac p n d)) 30)) (factorial 30) (mul_f_pos (nat_f 2) (pow_f (abs_f (frac p n d)) 30) (lit< tt) (pow_f_pos (abs_f (frac p n d)) X₁ 30)) (factorial_pos 30)

  moves : Bound (sub_f t u) (frac (c + 1) 0 (2 ^ 60))
  moves = moved_near v l w c a b f g P L split bound lo hi near

  t_size : Bound t (frac 9 0 25)
  t_size = near_argument t u c t_pos (lit< tt) C (small_argument f g F G) moves

  u_size : Bound u (frac 9 0 25)
  u_size = bound_up u (frac 7 0 20) (frac 9 0 25) (lit< tt) (lit≤ tt) (small_argument f g F G)

  units_pos : 0 < 2 * y * 2 ^ 60
  units_pos = mul-pos (mul-pos {m = 2} (lit< tt) some) (lit< tt)

  moved_sum : Bound (sub_f (exp_sum t) (exp_sum u)) (mul_f (frac (c + 1) 0 (2 ^ 60)) (frac 36 0 25))
  moved_sum = exp_moves t u (c + 1) (2 ^ 60) t_pos (lit< tt) (lit< tt) t_size u_size moves

  e_low : le_f (frac (significand_of w * 2 ^ (w / 2 ^ 53)) (h * 2 ^ (w / 2 ^ 53)) (2 ^ 1086)) e
  e_low =
      scale_low neg k (significand_of w) h (2 * y * 2 ^ 60) (2 ^ (w / 2 ^ 53)) (2 ^ 1086) (sub_f (exp_sum t) (exp_tail t)) e factor (add_f_pos (exp_sum t) (neg_f (exp_tail t)) (sum_at t t_pos) (neg_f_pos (exp_tail t) (tail_at t t_pos))) units_pos
      (sum_low (exp_sum u) (exp_sum t) (exp_tail t) (mul_f (frac (c + 1) 0 (2 ^ 60)) (frac 36 0 25)) (significand_of w) (significand_of w + 652) h (2 * y * 2 ^ 60) (sum_at u (lit< tt)) (sum_at t t_pos) (tail_at t t_pos) (lit< tt) units_pos (frac 1 0 (2 ^ 130)) (lit< tt) moved_sum (tail_le t t_pos t_size) (room c (2 ^ 60) (2 ^ 130) y (lit≤ tt)) sums.0) low

  e_high : le_f e (frac ((significand_of w + 652 + h) * 2 ^ (w / 2 ^ 53)) 0 (2 ^ 1086))
  e_high =
      scale_high neg k (significand_of w + 652 + h) (2 * y * 2 ^ 60) (2 ^ (w / 2 ^ 53)) (2 ^ 1086) (add_f (exp_sum t) (exp_tail t)) e factor (add_f_pos (exp_sum t) (exp_tail t) (sum_at t t_pos) (tail_at t t_pos)) units_pos
      (sum_high (exp_sum u) (exp_sum t) (exp_tail t) (mul_f (frac (c + 1) 0 (2 ^ 60)) (frac 36 0 25)) (significand_of w) (significand_of w + 652) h (2 * y * 2 ^ 60) (sum_at u (lit< tt)) (sum_at t t_pos) (tail_at t t_pos) (lit< tt) units_pos (frac 1 0 (2 ^ 130)) (lit< tt) moved_sum (tail_le t t_pos t_size) (room c (2 ^ 60) (2 ^ 130) y (lit≤ tt)) sums.1) high

  h_le : h ≤ 24 * c + 48
  h_le = le_trans (mul-le-mul_right (3 * c + 6) few) (lin c)
    where
      lin : (c : ℕ) → 8 * (3 * c + 6) ≤ 24 * c + 48
      lin c = omega arith

  pub by_cut : Bracket w c e
  by_cut = (
    le_trans_f (frac (significand_of w * Y) ((24 * c + 48) * Y) (2 ^ 1086)) (frac (significand_of w * Y) (h * Y) (2 ^ 1086)) e (pow_pos 1086) (less (significand_of w * Y) (h * Y) ((24 * c + 48) * Y) (mul-le-mul_right Y h_le)) e_low,
    le_trans_f e (frac ((significand_of w + 652 + h) * Y) 0 (2 ^ 1086)) (frac ((significand_of w + 652 + (24 * c + 48)) * Y) 0 (2 ^ 1086)) (pow_pos 1086) e_high (more (mul-le-mul_right Y (add (significand_of w + 652) h_le))),
  )
    where
      less : (x a b : ℕ) → a ≤ b → le_f (frac x b (2 ^ 1086)) (frac x a (2 ^ 1086))
      less x a b k = add-le-add (le_refl (x * 2 ^ 1086)) (mul-le-mul_right (2 ^ 1086) k)

      more : {a b : ℕ} → a ≤ b → le_f (frac a 0 (2 ^ 1086)) (frac b 0 (2 ^ 1086))
      more k = add-le-add (mul-le-mul_right (2 ^ 1086) k) (le_refl (0 * 2 ^ 1086))

      add : (x : ℕ) {a b : ℕ} → a ≤ b → x + a ≤ x + b
      add x k = add-le-add (le_refl x) k

-- ---- the powers of 2
two_powers : (i j k l : ℕ) → i + j ≡ k + l → 2 ^ i * 2 ^ j ≡ 2 ^ k * 2 ^ l
two_powers i j k l e = sym (pow-add 2 i j) ∙ ap (λ (z : ℕ). 2 ^ z) e ∙ pow-add 2 k l

three_powers : (i j k : ℕ) → i + (j + k) ≡ 1086 → 2 ^ i * (2 ^ j * 2 ^ k) ≡ 2 ^ 1086
three_powers i j k e = ap (λ (z : ℕ). 2 ^ i * z) (sym (pow-add 2 j k)) ∙ sym (pow-add 2 i (j + k)) ∙ ap (λ (z : ℕ). 2 ^ z) e

-- ---- the value of the core's answer
pub value_of : (x : Float) (s : Bool) (a c : ℕ) → 0 < c → HasValue x s a c → eq_f (val_f x) (sgn s a c)
value_of nan s a c P h = absurd h
value_of (inf t) s a c P h = absurd h
value_of (fin false m e) false a c P h = (le_of_eq (first (m * up e) a c (down e) h.1), le_of_eq (sym (first (m * up e) a c (down e) h.1)))
  where
    first : (x a c d : ℕ) → x * c ≡ a * d → x * c + 0 * d ≡ a * d + 0 * c
    first x a c d e = ap (λ (z : ℕ). x * c + z) (zero-mul d) ∙ add-zero (x * c) ∙ e ∙ sym (ap (λ (z : ℕ). a * d + z) (zero-mul c) ∙ add-zero (a * d))
value_of (fin true m e) true a c P h = (le_of_eq (second (m * up e) a c (down e) h.1), le_of_eq (sym (second (m * up e) a c (down e) h.1)))
  where
    second : (x a c d : ℕ) → x * c ≡ a * d → 0 * c + a * d ≡ 0 * d + x * c
    second x a c d e = ap (λ (z : ℕ). z + a * d) (zero-mul c) ∙ zero-add (a * d) ∙ sym e ∙ sym (ap (λ (z : ℕ). z + x * c) (zero-mul d) ∙ zero-add (x * c))
value_of (fin false m e) true a c P h = absurd (differ h.0)
  where
    differ : ◌≡◌ {A = Bool} false true → ⊥
    differ e = let z : ◌≡◌ {A = ℕ} 0 1 = cc in omega arith
value_of (fin true m e) false a c P h = absurd (differ h.0)
  where
    differ : ◌≡◌ {A = Bool} true false → ⊥
    differ e = let z : ◌≡◌ {A = ℕ} 0 1 = cc in omega arith

raise_value : (w : ℕ) → w < 2046 * 2 ^ 53 → HasValue (raise_of w) false ((significand_of w / 1024 + 1) / 2 * 2 ^ (w / 2 ^ 53 - 1)) (2 ^ 1074)
unfolding raise_of
raise_value w h = rw zero-add at (pack_value false (w / 2 ^ 53 - 1) ((significand_of w / 1024 + 1) / 2) (field_le w h) (near_lo (significand_of w) (significand_lo w)) (near_hi (significand_of w) (significand_hi w)))
  where
    field_le : (w : ℕ) → w < 2046 * 2 ^ 53 → w / 2 ^ 53 - 1 ≤ 2044
    field_le w h = omega arith

pub raise_finite : (w : ℕ) → w < 2046 * 2 ^ 53 → T (finite (raise_of w))
raise_finite w h = value_finite (raise_of w) false ((significand_of w / 1024 + 1) / 2 * 2 ^ (w / 2 ^ 53 - 1)) (2 ^ 1074) (raise_value w h)

-- in the units of the sums
raise_units : (w : ℕ) → 2 ^ 53 ≤ w → w < 2046 * 2 ^ 53 → eq_f (val_f (raise_of w)) (frac ((significand_of w / 1024 + 1) / 2 * 2048 * 2 ^ (w / 2 ^ 53)) 0 (2 ^ 1086))
raise_units w lo hi =
    let m = (significand_of w / 1024 + 1) / 2 in
    let v = value_of (raise_of w) false (m * 2 ^ (w / 2 ^ 53 - 1)) (2 ^ 1074) (pow_pos 1074) (raise_value w hi) in
    let a = frac (m * 2 ^ (w / 2 ^ 53 - 1)) 0 (2 ^ 1074) in
    let z = frac (m * 2048 * 2 ^ (w / 2 ^ 53)) 0 (2 ^ 1086) in
    let s = same m (2 ^ (w / 2 ^ 53 - 1)) (2 ^ (w / 2 ^ 53)) (2 ^ 1074) (2 ^ 1086) (pow_step w lo) refl in
    (le_trans_f (val_f (raise_of w)) a z (pow_pos 1074) v.0 (le_of_eq s), le_trans_f z a (val_f (raise_of w)) (pow_pos 1074) (le_of_eq (sym s)) v.1)
  where
    pow_step : (w : ℕ) → 2 ^ 53 ≤ w → 2 ^ (w / 2 ^ 53) ≡ 2 ^ (w / 2 ^ 53 - 1) * 2
    pow_step w h = ap (λ (z : ℕ). 2 ^ z) (lin w h) ∙ pow-add 2 (w / 2 ^ 53 - 1) 1
      where
        lin : (w : ℕ) → 2 ^ 53 ≤ w → w / 2 ^ 53 ≡ w / 2 ^ 53 - 1 + 1
        lin w h = omega arith

    same : (m i j c d : ℕ) → j ≡ i * 2 → d ≡ c * 4096 → m * i * d + 0 * c ≡ m * 2048 * j * c + 0 * d
    same m i j c d p q = subst (λ (j : ℕ). m * i * d + 0 * c ≡ m * 2048 * j * c + 0 * d) (sym p) (subst (λ (d : ℕ). m * i * d + 0 * c ≡ m * 2048 * (i * 2) * c + 0 * d) (sym q) (go m i c))
      where
        go : (m i c : ℕ) → m * i * (c * 4096) + 0 * c ≡ m * 2048 * (i * 2) * c + 0 * (c * 4096)
        go m i c = simp (mul_assoc, mul_comm, mul_left_comm, zero-mul) (omega arith)

-- ---- the law
module _ (w c : ℕ) (v e : Frac) (least : 2 ^ 53 ≤ w) (most : w < 2046 * 2 ^ 53) (C : c ≤ 1024) (P : Pos v) (near : Bound (sub_f v (mul_f (frac w (1023 * 2 ^ 53) (2 ^ 53)) M)) (frac c 0 (2 ^ 60))) where
  abbrev result : Frac
  result = frac ((significand_of w / 1024 + 1) / 2 * 2048 * 2 ^ (w / 2 ^ 53)) 0 (2 ^ 1086)

  by_sign : (neg : Bool) (k : ℕ) (l : Frac) → Pos l → le_f (neg_f (over_f middle 2)) (rest v neg k middle) → le_f (rest v neg k middle) (over_f middle 2) → le_f ln2_low l → le_f l ln2_high
      → le_f (scale_f neg k (sub_f (exp_sum (rest v neg k l)) (exp_tail (rest v neg k l)))) e → le_f e (scale_f neg k (add_f (exp_sum (rest v neg k l)) (exp_tail (rest v neg k l))))
      → Bracket w c e
  by_sign false k l L r₀ r₁ l₀ l₁ low high = go (cut v w c k 0 P C near r₀ r₁)
    where
      go : Same k 0 w ⊎ Next k 0 w → Bracket w c e
      go (inl s) = by_cut w c v l e k 0 false k (w % 2 ^ 53) 0 4 C P L (lit≤ tt) (lit< tt) s.1 (lit≤ tt) (sum k w s.0) (bound k w most s.0) l₀ l₁ near (at_same w (half w s.1)) (two_powers (w / 2 ^ 53) 63 k 1086 (powers k (w / 2 ^ 53) s.0)) low high
        where
          half : (w : ℕ) → w % 2 ^ 53 ≤ 2 ^ 52 + 16 → w % 2 ^ 53 < 65 * 2 ^ 46
          half w h = omega arith

          sum : (k w : ℕ) → k + 1023 ≡ 0 + w / 2 ^ 53 → w + 0 * 2 ^ 53 + 0 ≡ k * 2 ^ 53 + 1023 * 2 ^ 53 + w % 2 ^ 53
          sum k w h = omega arith

          bound : (k w : ℕ) → w < 2046 * 2 ^ 53 → k + 1023 ≡ 0 + w / 2 ^ 53 → Bound (frac k 0 1) (frac 4096 0 1)
          bound k w m h = (omega arith, omega arith)

          powers : (k q : ℕ) → k + 1023 ≡ 0 + q → q + 63 ≡ k + 1086
          powers k q h = omega arith
      go (inr s) = by_cut w c v l e k 0 false k 0 (2 ^ 53 - w % 2 ^ 53) 8 C P L (lit≤ tt) (lit< tt) (lit≤ tt) (rest_le w s.1) (sum k w s.0) (bound k w most s.0) l₀ l₁ near (at_next w (half w s.1)) (two_powers (w / 2 ^ 53) 64 k 1086 (powers k (w / 2 ^ 53) s.0)) low high
        where
          half : (w : ℕ) → 2 ^ 52 ≤ w % 2 ^ 53 + 16 → 63 * 2 ^ 46 ≤ w % 2 ^ 53
          half w h = omega arith

          rest_le : (w : ℕ) → 2 ^ 52 ≤ w % 2 ^ 53 + 16 → 2 ^ 53 - w % 2 ^ 53 ≤ 2 ^ 52 + 16
          rest_le w h = omega arith

          sum : (k w : ℕ) → k + 1023 ≡ 0 + (w / 2 ^ 53 + 1) → w + 0 * 2 ^ 53 + (2 ^ 53 - w % 2 ^ 53) ≡ k * 2 ^ 53 + 1023 * 2 ^ 53 + 0
          sum k w h = omega arith

          bound : (k w : ℕ) → w < 2046 * 2 ^ 53 → k + 1023 ≡ 0 + (w / 2 ^ 53 + 1) → Bound (frac k 0 1) (frac 4096 0 1)
          bound k w m h = (omega arith, omega arith)

          powers : (k q : ℕ) → k + 1023 ≡ 0 + (q + 1) → q + 64 ≡ k + 1086
          powers k q h = omega arith
  by_sign true k l L r₀ r₁ l₀ l₁ low high = go (cut v w c 0 k P C near r₀ r₁)
    where
      go : Same 0 k w ⊎ Next 0 k w → Bracket w c e
      go (inl s) = by_cut w c v l e 0 k true k (w % 2 ^ 53) 0 4 C P L (lit≤ tt) (lit< tt) s.1 (lit≤ tt) (sum k w s.0) (bound k w s.0) l₀ l₁ near (at_same w (half w s.1)) (three_powers (w / 2 ^ 53) 63 k (powers k (w / 2 ^ 53) s.0)) low high
        where
          half : (w : ℕ) → w % 2 ^ 53 ≤ 2 ^ 52 + 16 → w % 2 ^ 53 < 65 * 2 ^ 46
          half w h = omega arith

          sum : (k w : ℕ) → 0 + 1023 ≡ k + w / 2 ^ 53 → w + k * 2 ^ 53 + 0 ≡ 0 * 2 ^ 53 + 1023 * 2 ^ 53 + w % 2 ^ 53
          sum k w h = omega arith

          bound : (k w : ℕ) → 0 + 1023 ≡ k + w / 2 ^ 53 → Bound (frac 0 k 1) (frac 4096 0 1)
          bound k w h = (omega arith, omega arith)

          powers : (k q : ℕ) → 0 + 1023 ≡ k + q → q + (63 + k) ≡ 1086
          powers k q h = omega arith
      go (inr s) = by_cut w c v l e 0 k true k 0 (2 ^ 53 - w % 2 ^ 53) 8 C P L (lit≤ tt) (lit< tt) (lit≤ tt) (rest_le w s.1) (sum k w s.0) (bound k w s.0) l₀ l₁ near (at_next w (half w s.1)) (three_powers (w / 2 ^ 53) 64 k (powers k (w / 2 ^ 53) s.0)) low high
        where
          half : (w : ℕ) → 2 ^ 52 ≤ w % 2 ^ 53 + 16 → 63 * 2 ^ 46 ≤ w % 2 ^ 53
          half w h = omega arith

          rest_le : (w : ℕ) → 2 ^ 52 ≤ w % 2 ^ 53 + 16 → 2 ^ 53 - w % 2 ^ 53 ≤ 2 ^ 52 + 16
          rest_le w h = omega arith

          sum : (k w : ℕ) → 0 + 1023 ≡ k + (w / 2 ^ 53 + 1) → w + k * 2 ^ 53 + (2 ^ 53 - w % 2 ^ 53) ≡ 0 * 2 ^ 53 + 1023 * 2 ^ 53 + 0
          sum k w h = omega arith

          bound : (k w : ℕ) → 0 + 1023 ≡ k + (w / 2 ^ 53 + 1) → Bound (frac 0 k 1) (frac 4096 0 1)
          bound k w h = (omega arith, omega arith)

          powers : (k q : ℕ) → 0 + 1023 ≡ k + (q + 1) → q + (64 + k) ≡ 1086
          powers k q h = omega arith

  -- v within c / 2 ^ 60 of the exponent times ln 2: where every value of exp v lies
  pub raise_bracket : ExpValue v e → Bracket w c e
  raise_bracket x = by_sign x.neg x.k x.l x.proper.1 x.range.0 (lt_le_f (rest v x.neg x.k middle) (over_f middle 2) x.range.1) x.ln2.0 x.ln2.1 x.low x.high

  from_bracket : (e : Frac) → Bracket w c e → Bound (sub_f result e) (mul_f (frac (216 + 3 * c) 0 (2 ^ 60)) e)
  from_bracket (frac p n d) (i, j) =
      distance (216 + 3 * c) (2 ^ 60) (significand_of w) ((significand_of w / 1024 + 1) / 2 * 2048) (2 ^ (w / 2 ^ 53)) (2 ^ 1086) p n d (24 * c + 48) (budget c (24 * c + 48) C (le_refl (24 * c + 48)) (significand_of w) (significand_lo w)) i j (near_up (significand_of w)) (near_down (significand_of w))

  -- the core's answer is within (216 + 3 c) / 2 ^ 60 of every value of exp v, as a part of it
  pub raise_near : ExpValue v e → Within (2 ^ 60) (216 + 3 * c) (val_f (raise_of w)) e
  raise_near x =
      within_of (val_f (raise_of w)) e (216 + 3 * c) (2 ^ 60) x.proper.0 (lit< tt)
      (bound_eq (sub_f result e) (sub_f (val_f (raise_of w)) e) (mul_f (frac (216 + 3 * c) 0 (2 ^ 60)) e) (add_f_pos result (neg_f e) (pow_pos 1086) (neg_f_pos e x.proper.0))
      (add_mono_f (val_f (raise_of w)) result (neg_f e) (neg_f e) (raise_units w least most).0 (le_refl_f (neg_f e)), add_mono_f result (val_f (raise_of w)) (neg_f e) (neg_f e) (raise_units w least most).1 (le_refl_f (neg_f e)))
      (from_bracket e (raise_bracket x)))
