-- How large an interval may grow: its ends stay finite, and it sound, while they keep below 2 ^ 1023. Assumes nothing.
use mathlib.Core.Path.{◌≡◌, sym, ap, ◌∙◌, subst}
use mathlib.Core.Bool.{false}
use Prim.Native.Nat.{ℕ, suc, ◌+◌, ◌*◌, ◌^◌, ◌≤◌, ◌<◌}
use native.Mathlib.Nat.{le_of_lt, mul-one, one-mul}
use native.Mathlib.Omega.{arith}
use lib.IntN.{pos}
use lib.Dec.{T, lt→ltb, lit<, lit≤}
use lib.Pow.{pow-add, pow-lt, pow_mono}
use lib.Ieee.{Float, fin, binary64, fits}
use lib.Ieee.Scale.{finite}
use Rattle.number.specs.Frac.{frac, le_f, lt_f, neg_f, add_f, val_f}
use Rattle.number.proofs.Frac.{ring}
use Rattle.interval.specs.declared.Interval.{Interval}
use Rattle.interval.specs.Interval.{point, add_i, sub_i, mul_i, div_i, neg_i}
use Rattle.interval.proofs.Bounded as B
use Rattle.interval.proofs.Bounded.{Limit, Bounded, Corners, mul_bounded, add_bounded, sub_bounded, neg_bounded, div_bounded}

-- ---- 2 ^ k
abbrev pub top : ℕ → Float
top k = fin false 1 (pos k)

below_all : (k : ℕ) → k < 1024 → 1 * 2 ^ k < 2 ^ 1024 * 1
below_all k h = subst (λ (x : ℕ). x < 2 ^ 1024 * 1) (sym (one-mul (2 ^ k))) (subst (λ (x : ℕ). 2 ^ k < x) (sym (mul-one (2 ^ 1024))) (pow-lt h))

pub top_fits : (k : ℕ) → k < 1024 → T (fits binary64 (top k))
unfolding fits
top_fits k h = lt→ltb (1 * 2 ^ k) (2 ^ 1024 * 1) (below_all k h)

limit : (k : ℕ) → k < 1024 → Limit (top k)
limit k h = record { is_finite = tt; is_fitting = top_fits k h }

whole_le : (a b : ℕ) → a ≤ b → le_f (frac (1 * a) 0 1) (frac (1 * b) 0 1)
whole_le a b h = omega arith

whole_lt : (a b : ℕ) → a < b → lt_f (frac (1 * a) 0 1) (frac (1 * b) 0 1)
whole_lt a b h = omega arith

next_lt : (k : ℕ) → lt_f (val_f (top k)) (val_f (top (suc k)))
next_lt k = whole_lt (2 ^ k) (2 ^ suc k) (pow-lt (more k))
  where
    more : (k : ℕ) → k < suc k
    more k = omega arith

-- a float, and an interval's ends, no larger than 2 ^ k
abbrev pub Within : ℕ → Float → Type 0
Within k x = B.Within (top k) x

abbrev pub Tame : ℕ → Interval → Type 0
Tame k x = Bounded (top k) x

pub widened : (j k : ℕ) → j ≤ k → (x : Interval) → Tame j x → Tame k x
widened j k h = B.widened (top j) (top k) (whole_le (2 ^ j) (2 ^ k) (pow_mono h))

-- ---- the operations
corners : (a b c : ℕ) → c ≡ a * b → Corners (frac (1 * a) 0 1) (frac (1 * b) 0 1) (frac (1 * c) 0 1)
corners a b c e =
    subst (λ (c : ℕ). Corners (frac (1 * a) 0 1) (frac (1 * b) 0 1) (frac (1 * c) 0 1)) (sym e)
    (record { under_mm = simp ring (omega arith); under_mp = simp ring (omega arith); under_pm = simp ring (omega arith); under_pp = simp ring (omega arith); over_mm = simp ring (omega arith); over_mp = simp ring (omega arith); over_pm = simp ring (omega arith); over_pp = simp ring (omega arith) })

module _ (j k : ℕ) where
  pub mul_tame : suc (j + k) < 1024 → (x y : Interval) → Tame j x → Tame k y → Tame (suc (j + k)) (mul_i x y)
  mul_tame h = mul_bounded (top j) (top k) (top (j + k)) (top (suc (j + k))) (limit (j + k) (le_of_lt h)) (limit (suc (j + k)) h) (next_lt (j + k)) (corners (2 ^ j) (2 ^ k) (2 ^ (j + k)) (pow-add 2 j k))

twice_le : (a b : ℕ) → b ≡ a * 2 → le_f (add_f (frac (1 * a) 0 1) (frac (1 * a) 0 1)) (frac (1 * b) 0 1)
twice_le a b e = omega arith

twice_ge : (a b : ℕ) → b ≡ a * 2 → le_f (neg_f (frac (1 * b) 0 1)) (add_f (neg_f (frac (1 * a) 0 1)) (neg_f (frac (1 * a) 0 1)))
twice_ge a b e = omega arith

module _ (k : ℕ) (h : suc (suc k) < 1024) where
  doubled : 2 ^ suc k ≡ 2 ^ k * 2
  doubled = ap (λ (n : ℕ). 2 ^ n) (one_more k) ∙ pow-add 2 k 1
    where
      one_more : (k : ℕ) → suc k ≡ k + 1
      one_more k = omega arith

  pub add_tame : (x y : Interval) → Tame k x → Tame k y → Tame (suc (suc k)) (add_i x y)
  add_tame = add_bounded (top k) (top k) (top (suc k)) (top (suc (suc k))) (limit (suc k) (le_of_lt h)) (limit (suc (suc k)) h) (next_lt (suc k)) (twice_le (2 ^ k) (2 ^ suc k) doubled) (twice_ge (2 ^ k) (2 ^ suc k) doubled)

  pub sub_tame : (x y : Interval) → Tame k x → Tame k y → Tame (suc (suc k)) (sub_i x y)
  sub_tame = sub_bounded (top k) (top k) (top (suc k)) (top (suc (suc k))) (limit (suc k) (le_of_lt h)) (limit (suc (suc k)) h) (next_lt (suc k)) (twice_le (2 ^ k) (2 ^ suc k) doubled) (twice_ge (2 ^ k) (2 ^ suc k) doubled)

pub neg_tame : (k : ℕ) (x : Interval) → Tame k x → Tame k (neg_i x)
neg_tame k = neg_bounded (top k)

-- ---- 1 / y, its ends from 1 on
pub record FromOne (x : Float) : Type 0 where
  pub is_finite : T (finite x)
  pub is_fitting : T (fits binary64 x)
  pub from : le_f (val_f (top 0)) (val_f x)

one : Tame 0 (point (top 0))
unfolding point fits
one = record { is_sound = tt; at_lower = itself; at_upper = itself }
  where
    itself : Within 0 (top 0)
    itself = record { is_finite = tt; is_fitting = tt; over = lit≤ tt; under = lit≤ tt }

pub recip_tame : (y : Interval) → T y.sound → FromOne y.lower → FromOne y.upper → Tame 1 (div_i (point (top 0)) y)
recip_tame y s l u =
    div_bounded (top 0) (top 0) (top 0) (top 1) (limit 0 (lit< tt)) (limit 1 (lit< tt)) (next_lt 0) (lit< tt)
    (record { under_mz = lit≤ tt; under_mi = lit≤ tt; under_pz = lit≤ tt; under_pi = lit≤ tt; over_mz = lit≤ tt; over_mi = lit≤ tt; over_pz = lit≤ tt; over_pi = lit≤ tt }) (point (top 0)) y one s (record { is_finite = l.is_finite; from = l.from }) (record { is_finite = u.is_finite; from = u.from })
