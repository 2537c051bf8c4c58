-- Two steps of Newton's from the table's entry: how near they come, 2 ^ 62 being one. Assumes nothing.
use mathlib.Core.Path.{◌≡◌}
use Prim.Native.Nat.{ℕ, ◌+◌, ◌-◌, ◌*◌, ◌/◌, ◌^◌, ◌≤◌, ◌<◌}
use native.Mathlib.Nat.{le_trans, le_of_eq, le_of_lt, mul-le-mul, mul-le-mul_left, mul-le-mul_right, div-mul-le_self, lt-div-mul-add, lt_of_not-le, mul-one}
use native.Mathlib.Decide.{dec_le}
use native.Mathlib.Omega.{arith}
use Rattle.number.proofs.Frac.{ring}
use Rattle.root.specs.Inverse.{Inverse}
use Rattle.root.proofs.Newton.{step_over, step_near}
use Rattle.root.proofs.Square.{root_lt, root_le}

-- 3 - y² c, and what `refined` gives
abbrev gap : ℕ → ℕ → ℕ
gap y c = 13835058055282163712 - y * y * c

abbrev pub stepped : ℕ → ℕ → ℕ
stepped y c = gap y c / 262144 * y

module _ (y c : ℕ) (few : y < 2 ^ 17) (small : y * y * c ≤ 2 ^ 62 + 2 ^ 55) where
  sum : y * y * c + gap y c ≡ 3 * 2 ^ 62
  sum = lin (y * y * c) small
    where
      lin : (u : ℕ) → u ≤ 2 ^ 62 + 2 ^ 55 → u + (13835058055282163712 - u) ≡ 13835058055282163712
      lin u h = omega arith

  not_above : stepped y c * 2 ^ 18 ≤ gap y c * y
  not_above = let h = simp ring at (mul-le-mul_right y (div-mul-le_self (gap y c) 262144)) in simp ring (omega arith)

  not_below : gap y c * y ≤ stepped y c * 2 ^ 18 + 2 ^ 35
  not_below = let h = simp ring at (mul-le-mul_right y (le_of_lt (lt-div-mul-add {a = gap y c} {b = 262144} (omega arith)))) in simp ring (omega arith)

-- y c from y² c
times : (y c d e : ℕ) → y * y * c ≤ d → c ≤ e → (m : ℕ) → d * e ≤ m * m → y * c ≤ m
times y c d e h k m l = root_le (y * c) m (le_trans (le_of_eq (swap y c)) (le_trans (mul-le-mul h k) l))
  where
    swap : (y c : ℕ) → y * c * (y * c) ≡ y * y * c * c
    swap y c = simp ring

-- ---- the first step
module _ (y c : ℕ) (few : y < 2 ^ 17) (C : c ≤ 2 ^ 30) (over : y * y * c ≤ 2 ^ 62 + 2 ^ 55) (near : 2 ^ 62 ≤ y * y * c + 2 ^ 55) where
  abbrev z : ℕ
  z = stepped y c / 35184372088832

  pub first_over : z * z * c ≤ 2 ^ 62
  first_over = simp (mul-one) at (step_over y c (2 ^ 62) (gap y c) 1 (sum y c few over) (omega arith) z (lin (stepped y c) (gap y c * y) (not_above y c few over)))
    where
      lin : (r x : ℕ) → r * 2 ^ 18 ≤ x → r / 35184372088832 * (2 * 2 ^ 62) ≤ x * 1
      lin r x h = omega arith

  pub first_near : 2 ^ 62 ≤ z * z * c + 325 * 2 ^ 40
  first_near =
      end z (times z c (2 ^ 62) (2 ^ 30) first_over C (2 ^ 46) (omega arith))
      (step_near y c (2 ^ 62) (gap y c) 1048576 (sum y c few over) (omega arith) ((z + 1) * 1048576 + 1) (2 ^ 55) (49 * 2 ^ 42) (lin (stepped y c) (gap y c * y) (not_below y c few over)) near over (omega arith) (omega arith))
    where
      lin : (r x : ℕ) → x ≤ r * 2 ^ 18 + 2 ^ 35 → x * 1048576 ≤ ((r / 35184372088832 + 1) * 1048576 + 1) * (2 * 2 ^ 62)
      lin r x h = omega arith

      end : (z : ℕ) → z * c ≤ 2 ^ 46 → 2 ^ 62 * (1048576 * 1048576) ≤ ((z + 1) * 1048576 + 1) * ((z + 1) * 1048576 + 1) * c + 49 * 2 ^ 42 * (1048576 * 1048576) → 2 ^ 62 ≤ z * z * c + 325 * 2 ^ 40
      end z h k = let a = simp ring at k in simp ring (omega arith)

-- ---- the second step, to a finer scale
module _ (y c : ℕ) (few : y < 2 ^ 17) (C : c ≤ 2 ^ 30) (over : y * y * c ≤ 2 ^ 62) (near : 2 ^ 62 ≤ y * y * c + 325 * 2 ^ 40) where
  abbrev w : ℕ
  w = stepped y c / 2147483648

  over' : y * y * c ≤ 2 ^ 62 + 2 ^ 55
  over' = le_trans over (omega arith)

  pub second_over : w * w * c ≤ 2 ^ 90
  second_over = step_over y c (2 ^ 62) (gap y c) 16384 (sum y c few over') (omega arith) w (lin (stepped y c) (gap y c * y) (not_above y c few over'))
    where
      lin : (r x : ℕ) → r * 2 ^ 18 ≤ x → r / 2147483648 * (2 * 2 ^ 62) ≤ x * 16384
      lin r x h = omega arith

  pub second_near : 2 ^ 90 ≤ w * w * c + 7 * 2 ^ 60
  second_near =
      end w (times w c (2 ^ 90) (2 ^ 30) second_over C (2 ^ 60) (omega arith))
      (step_near y c (2 ^ 62) (gap y c) 16777216 (sum y c few over') (omega arith) ((w + 1) * 1024 + 1) (325 * 2 ^ 40) (80870 * 2 ^ 18) (lin (stepped y c) (gap y c * y) (not_below y c few over')) near (le_trans over (omega arith)) (omega arith) (omega arith))
    where
      lin : (r x : ℕ) → x ≤ r * 2 ^ 18 + 2 ^ 35 → x * 16777216 ≤ ((r / 2147483648 + 1) * 1024 + 1) * (2 * 2 ^ 62)
      lin r x h = omega arith

      end : (w : ℕ) → w * c ≤ 2 ^ 60 → 2 ^ 62 * (16777216 * 16777216) ≤ ((w + 1) * 1024 + 1) * ((w + 1) * 1024 + 1) * c + 80870 * 2 ^ 18 * (16777216 * 16777216) → 2 ^ 90 ≤ w * w * c + 7 * 2 ^ 60
      end w h k = let a = simp ring at k in simp ring (omega arith)

-- ---- both, for a number a that c stands for
module _ (a y c : ℕ) (few : y < 2 ^ 17) (C : (2 ^ 28 < c) × (c ≤ 2 ^ 30) × (a ≤ c * 2 ^ 34) × (c * 2 ^ 34 ≤ a + 2 ^ 34)) (over : y * y * c ≤ 2 ^ 62 + 2 ^ 55) (near : 2 ^ 62 ≤ y * y * c + 2 ^ 55) where
  abbrev mid : ℕ
  mid = stepped y c / 35184372088832

  mid_over : mid * mid * c ≤ 2 ^ 62
  mid_over = first_over y c few C.1 over near

  pub mid_few : mid < 2 ^ 17
  mid_few = root_lt mid (2 ^ 17) (go (dec_le (2 ^ 34) (mid * mid)))
    where
      lin : (x : ℕ) → x ≤ 2 ^ 62 → 17179869184 * 268435457 ≤ x → ⊥
      lin x h k = omega arith

      go : Dec (2 ^ 34 ≤ mid * mid) → mid * mid < 2 ^ 17 * 2 ^ 17
      go (no n) = lt_of_not-le n
      go (yes p) = absurd (lin (mid * mid * c) mid_over (mul-le-mul p C.0))

  pub mid_fits : mid * mid * c ≤ 129 * 2 ^ 55
  mid_fits = le_trans mid_over (omega arith)

  abbrev last : ℕ
  last = stepped mid c / 2147483648

  pub inverse_is : Inverse a last
  inverse_is = record {
    over = le_trans (mul-le-mul_left (last * last) C.2) (up (last * last) (second_over mid c mid_few C.1 mid_over (first_near y c few C.1 over near)));
    near = down (last * last) (second_near mid c mid_few C.1 mid_over (first_near y c few C.1 over near)) (mul-le-mul_left (last * last) C.3);
  }
    where
      up : (x : ℕ) → x * c ≤ 2 ^ 90 → x * (c * 2 ^ 34) ≤ 2 ^ 62 * 2 ^ 62
      up x h = simp ring (omega arith)

      down : (x : ℕ) → 2 ^ 90 ≤ x * c + 7 * 2 ^ 60 → x * (c * 2 ^ 34) ≤ x * (a + 2 ^ 34) → 2 ^ 62 * 2 ^ 62 ≤ x * (a + 2 ^ 34) + 2 ^ 62 * (7 * 2 ^ 32)
      down x h k = let b = simp ring at k in simp ring (omega arith)
