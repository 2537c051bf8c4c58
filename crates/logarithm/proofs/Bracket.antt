-- Document 01's bracket of a logarithm in the units that the program works in. Assumes nothing.
use mathlib.Core.Path.{◌≡◌, sym, ap, ap₂, ◌∙◌, subst}
use mathlib.Core.Bool.{Bool, true, false}
use Prim.Native.Nat.{ℕ, ◌+◌, ◌*◌, ◌/◌, ◌^◌, ◌≤◌, ◌<◌}
use native.Mathlib.Nat.{le_refl, le_trans, le_of_eq, add-le-add, mul_assoc, add-mul, mul-add, one-mul, mul-le-mul, mul-le-mul_right, div-mul-le_self, lt-div-mul-add, mul-pos}
use native.Mathlib.Nat as Nat
use native.Mathlib.Omega.{arith}
use lib.Dec.{lit<, lit≤}
use lib.Pow.{pow_pos}
use Rattle.number.specs.Frac.{Frac, frac, Pos, le_f, neg_f, add_f, sub_f, mul_f, sgn}
use Rattle.number.proofs.Frac.{ring, le_trans_f, add_mono_f, neg_anti_f, add_f_pos, neg_f_pos}
use Rattle.fixed_point.proofs.Horner.{ac}
use Rattle.series.specs.Sums.{eq_f}
use Rattle.series.specs.Exact.{twice_odds, odd_tail, ln2_low, ln2_high, times_low, times_high}
use Rattle.series.proofs.Constants.{mn, md, leb→le_f, ln2_low_is, ln2_high_is}
use Rattle.logarithm.specs.Logarithm.{multiple}
use Rattle.logarithm.proofs.Fractions.{mul_neg_left}
use Rattle.logarithm.proofs.OddSeries.{whole, twice_is, tail_small, tail_pos, twice_cong, twice_pos}

-- ---- sums over one denominator
pub sum_below : (g h a b a' b' e : ℕ) → g + b + b' ≤ a + a' + h → le_f (frac g h e) (add_f (frac a b e) (frac a' b' e))
sum_below g h a b a' b' e l =
    let x = simp ring at (mul-le-mul_right (e * e) l) in
    simp ring (omega arith)

pub sum_above : (g h a b a' b' e : ℕ) → a + a' + h ≤ g + b + b' → le_f (add_f (frac a b e) (frac a' b' e)) (frac g h e)
sum_above g h a b a' b' e l =
    let x = simp ring at (mul-le-mul_right (e * e) l) in
    simp ring (omega arith)

-- ---- what the part of w is at least and at most: r units 1 / e, and some more
abbrev pub low_of : Bool → ℕ → ℕ → Frac
low_of false r e = frac r 3 e
low_of true r e = frac 0 (r + 111) e

abbrev pub high_of : Bool → ℕ → ℕ → Frac
high_of false r e = frac (r + 111) 0 e
high_of true r e = frac 3 r e

-- ---- the part of w: x is z, that is n / d or its negative; r units 1 / E come near to it
module _ (s : Bool) (x : Frac) (n d S r : ℕ) (px : Pos x) (dp : 0 < d) (sp : 0 < S) (five : 5 * n ≤ d) (same : eq_f x (sgn s n d)) (few : n * S ≤ d)
    (lo : r * (whole n d dp).q ≤ 2 ^ 63 * S * (whole n d dp).p + 2 * (whole n d dp).q) (hi : 2 ^ 63 * S * (whole n d dp).p ≤ (r + 110) * (whole n d dp).q) where
  abbrev P : ℕ
  P = (whole n d dp).p

  abbrev Q : ℕ
  Q = (whole n d dp).q

  abbrev E : ℕ
  E = 2 ^ 62 * S

  twice_same : eq_f (twice_odds 24 x) (sgn s (2 * P) (1 * Q))
  twice_same = subst (eq_f (twice_odds 24 x)) (twice_is n d dp s) (twice_cong x (sgn s n d) same)

  Q-pos : 0 < 1 * Q
  Q-pos = mul-pos {m = 1} (lit< tt) (whole n d dp).positive

  -- the tail is less than a unit
  tail_unit : le_f (odd_tail 24 x) (frac 1 0 E)
  tail_unit = le_trans_f (odd_tail 24 x) (frac n 0 (d * 2 ^ 100)) (frac 1 0 E) (mul-pos {n = 2 ^ 100} dp (lit< tt)) (tail_small s x n d px dp five same) (go n S d (2 ^ 62) (2 ^ 100) (lit≤ tt) few)
    where
      go : (n S d a b : ℕ) → a ≤ b → n * S ≤ d → n * (a * S) + 0 * (d * b) ≤ 1 * (d * b) + 0 * (a * S)
      go n S d a b h k = lin (n * (a * S)) (d * b) (a * S) (le_trans (le_of_eq (t n a S)) (mul-le-mul k h))
        where
          t : (n a S : ℕ) → n * (a * S) ≡ n * S * a
          t n a S = simp ac

          lin : (x y z : ℕ) → x ≤ y → x + 0 * y ≤ 1 * y + 0 * z
          lin x y z h = omega arith

  -- two products in place
  low_numbers : r * (1 * Q) + 0 * E ≤ 2 * P * E + 2 * (1 * Q)
  low_numbers = le_trans (le_of_eq (lin r Q E)) (le_trans lo (le_of_eq (ap₂ ◌+◌ (t (2 ^ 62) S P) (ap (λ (z : ℕ). 2 * z) (sym (one-mul Q))))))
    where
      lin : (r q e : ℕ) → r * (1 * q) + 0 * e ≡ r * q
      lin r q e = ap₂ ◌+◌ (ap (λ (z : ℕ). r * z) (one-mul q)) (Nat.zero-mul e) ∙ Nat.add-zero (r * q)

      t : (a S P : ℕ) → 2 * a * S * P ≡ 2 * P * (a * S)
      t a S P = simp ac

  high_numbers : 2 * P * E ≤ (r + 110) * (1 * Q)
  high_numbers = le_trans (le_of_eq (sym (t (2 ^ 62) S P))) (le_trans hi (le_of_eq (ap (λ (z : ℕ). (r + 110) * z) (sym (one-mul Q)))))
    where
      t : (a S P : ℕ) → 2 * a * S * P ≡ 2 * P * (a * S)
      t a S P = simp ac

  E_pos : 0 < E
  E_pos = mul-pos {m = 2 ^ 62} (lit< tt) sp

  pub part_low : le_f (low_of s r E) (sub_f (twice_odds 24 x) (odd_tail 24 x))
  part_low = go s twice_same
    where
      go : (s : Bool) → eq_f (twice_odds 24 x) (sgn s (2 * P) (1 * Q)) → le_f (low_of s r E) (sub_f (twice_odds 24 x) (odd_tail 24 x))
      go false h =
          le_trans_f (frac r 3 E) (add_f (frac r 2 E) (frac 0 1 E)) (sub_f (twice_odds 24 x) (odd_tail 24 x)) (mul-pos E_pos E_pos) (sum_below r 3 r 2 0 1 E (three r))
          (add_mono_f (frac r 2 E) (twice_odds 24 x) (frac 0 1 E) (neg_f (odd_tail 24 x)) (le_trans_f (frac r 2 E) (frac (2 * P) 0 (1 * Q)) (twice_odds 24 x) Q-pos low_numbers h.1) (neg_anti_f (odd_tail 24 x) (frac 1 0 E) tail_unit))
        where
          three : (r : ℕ) → r + 2 + 1 ≤ r + 0 + 3
          three r = omega arith
      go true h =
          le_trans_f (frac 0 (r + 111) E) (add_f (frac 0 (r + 110) E) (frac 0 1 E)) (sub_f (twice_odds 24 x) (odd_tail 24 x)) (mul-pos E_pos E_pos) (sum_below 0 (r + 111) 0 (r + 110) 0 1 E (sum r))
          (add_mono_f (frac 0 (r + 110) E) (twice_odds 24 x) (frac 0 1 E) (neg_f (odd_tail 24 x)) (le_trans_f (frac 0 (r + 110) E) (frac 0 (2 * P) (1 * Q)) (twice_odds 24 x) Q-pos (both (2 * P * E) ((r + 110) * (1 * Q)) (1 * Q) E high_numbers) h.1) (neg_anti_f (odd_tail 24 x) (frac 1 0 E) tail_unit))
        where
          sum : (r : ℕ) → 0 + (r + 110) + 1 ≤ 0 + 0 + (r + 111)
          sum r = omega arith

          both : (a b q e : ℕ) → a ≤ b → 0 * q + a ≤ 0 * e + b
          both a b q e h = omega arith

  pub part_high : le_f (add_f (twice_odds 24 x) (odd_tail 24 x)) (high_of s r E)
  part_high = go s twice_same
    where
      go : (s : Bool) → eq_f (twice_odds 24 x) (sgn s (2 * P) (1 * Q)) → le_f (add_f (twice_odds 24 x) (odd_tail 24 x)) (high_of s r E)
      go false h =
          le_trans_f (add_f (twice_odds 24 x) (odd_tail 24 x)) (add_f (frac (r + 110) 0 E) (frac 1 0 E)) (frac (r + 111) 0 E) (mul-pos E_pos E_pos)
          (add_mono_f (twice_odds 24 x) (frac (r + 110) 0 E) (odd_tail 24 x) (frac 1 0 E) (le_trans_f (twice_odds 24 x) (frac (2 * P) 0 (1 * Q)) (frac (r + 110) 0 E) Q-pos h.0 (both (2 * P * E) ((r + 110) * (1 * Q)) (1 * Q) E high_numbers)) tail_unit)
          (sum_above (r + 111) 0 (r + 110) 0 1 0 E (sum r))
        where
          sum : (r : ℕ) → r + 110 + 1 + 0 ≤ r + 111 + 0 + 0
          sum r = omega arith

          both : (a b q e : ℕ) → a ≤ b → a + 0 * q ≤ b + 0 * e
          both a b q e h = omega arith
      go true h =
          le_trans_f (add_f (twice_odds 24 x) (odd_tail 24 x)) (add_f (frac 2 r E) (frac 1 0 E)) (frac 3 r E) (mul-pos E_pos E_pos)
          (add_mono_f (twice_odds 24 x) (frac 2 r E) (odd_tail 24 x) (frac 1 0 E) (le_trans_f (twice_odds 24 x) (frac 0 (2 * P) (1 * Q)) (frac 2 r E) Q-pos h.0 (both (r * (1 * Q)) (2 * P * E) (2 * (1 * Q)) E low_numbers)) tail_unit)
          (sum_above 3 r 2 r 1 0 E (three r))
        where
          three : (r : ℕ) → 2 + 1 + r ≤ 3 + r + 0
          three r = omega arith

          both : (a b c e : ℕ) → a + 0 * e ≤ b + c → 0 * e + a ≤ c + b
          both a b c e h = omega arith

  pub bracket_pos : Pos (sub_f (twice_odds 24 x) (odd_tail 24 x)) × Pos (add_f (twice_odds 24 x) (odd_tail 24 x))
  bracket_pos =
      let t = twice_pos x px in
      let u = tail_pos s x n d px dp five same in
      (add_f_pos (twice_odds 24 x) (neg_f (odd_tail 24 x)) t (neg_f_pos (odd_tail 24 x) u), add_f_pos (twice_odds 24 x) (odd_tail 24 x) t u)

-- ---- k ln 2 in units of 2 ^ -54
times_numbers : (k p n d q m c : ℕ) → p * c + m * d ≤ q * d + n * c → (k * p + 0 * n) * (1 * c) + (k * m + 0 * q) * (1 * d) ≤ (k * q + 0 * m) * (1 * d) + (k * n + 0 * p) * (1 * c)
times_numbers k p n d q m c h =
    let a = simp ring at (mul-le-mul_right k h) in
    simp ring (omega arith)

low108 : le_f (frac (12486629536330718 * 2 ^ 54 + 7525737178955839) 0 (2 ^ 108)) ln2_low
low108 = le_trans_f (frac (12486629536330718 * 2 ^ 54 + 7525737178955839) 0 (2 ^ 108)) (frac (mn * 2 ^ 159) md (md * 2 ^ 159)) ln2_low (lit< tt) (leb→le_f (frac (12486629536330718 * 2 ^ 54 + 7525737178955839) 0 (2 ^ 108)) (frac (mn * 2 ^ 159) md (md * 2 ^ 159)) tt) ln2_low_is

high108 : le_f ln2_high (frac (12486629536330718 * 2 ^ 54 + 7525737178955840) 0 (2 ^ 108))
high108 = le_trans_f ln2_high (frac (mn * 2 ^ 159 + md) 0 (md * 2 ^ 159)) (frac (12486629536330718 * 2 ^ 54 + 7525737178955840) 0 (2 ^ 108)) (lit< tt) ln2_high_is (leb→le_f (frac (mn * 2 ^ 159 + md) 0 (md * 2 ^ 159)) (frac (12486629536330718 * 2 ^ 54 + 7525737178955840) 0 (2 ^ 108)) tt)

pub times_mono : (k : ℕ) (x y : Frac) → le_f x y → le_f (mul_f (frac k 0 1) x) (mul_f (frac k 0 1) y)
times_mono k (frac p n d) (frac q m c) h = times_numbers k p n d q m c h

-- t is 2 ^ 54, y the floor
floor_lo : (k h l t y : ℕ) → y * t ≤ k * l → (k * h + y) * t ≤ k * (h * t + l)
floor_lo k h l t y e = le_trans (le_of_eq (a k h y t)) (le_trans (add-le-add (le_refl (k * (h * t))) e) (le_of_eq (sym (mul-add k (h * t) l))))
  where
    a : (k h y t : ℕ) → (k * h + y) * t ≡ k * (h * t) + y * t
    a k h y t = add-mul (k * h) y t ∙ ap (λ (x : ℕ). x + y * t) (mul_assoc k h t)

floor_hi : (k h l t y : ℕ) → k * l < y * t + t → k ≤ t → k * (h * t + (l + 1)) ≤ (k * h + y + 2) * t
floor_hi k h l t y e f = le_trans (le_of_eq (mul-add k (h * t) (l + 1) ∙ ap (λ (x : ℕ). k * (h * t) + x) (mul-add k l 1))) (le_trans (lin (k * (h * t)) (k * l) k t (y * t) e f) (le_of_eq (sym (a k h y t))))
  where
    a : (k h y t : ℕ) → (k * h + y + 2) * t ≡ k * (h * t) + y * t + 2 * t
    a k h y t = add-mul (k * h + y) 2 t ∙ ap (λ (x : ℕ). x + 2 * t) (add-mul (k * h) y t ∙ ap (λ (x : ℕ). x + y * t) (mul_assoc k h t))

    lin : (a b k t c : ℕ) → b < c + t → k ≤ t → a + (b + k * 1) ≤ a + c + 2 * t
    lin a b k t c h e = omega arith

-- a t ≤ k m, put over t and over t t
over_square : (a k m t : ℕ) → a * t ≤ k * m → le_f (frac a 0 t) (mul_f (frac k 0 1) (frac m 0 (t * t)))
over_square a k m t h =
    let x = simp ring at (mul-le-mul_right t h) in
    simp ring (omega arith)

under_square : (a k m t : ℕ) → k * m ≤ a * t → le_f (mul_f (frac k 0 1) (frac m 0 (t * t))) (frac a 0 t)
under_square a k m t h =
    let x = simp ring at (mul-le-mul_right t h) in
    simp ring (omega arith)

module _ (k : ℕ) (few : k ≤ 1025) where
  multiple_below : multiple k * 2 ^ 54 ≤ k * (12486629536330718 * 2 ^ 54 + 7525737178955839)
  unfolding multiple
  multiple_below = floor_lo k 12486629536330718 7525737178955839 (2 ^ 54) (k * 7525737178955839 / 2 ^ 54) (div-mul-le_self (k * 7525737178955839) (2 ^ 54))

  multiple_above : k * (12486629536330718 * 2 ^ 54 + 7525737178955840) ≤ (multiple k + 2) * 2 ^ 54
  unfolding multiple
  multiple_above = floor_hi k 12486629536330718 7525737178955839 (2 ^ 54) (k * 7525737178955839 / 2 ^ 54) (lt-div-mul-add {a = k * 7525737178955839} {b = 2 ^ 54} (pow_pos 54)) (le_trans few (lit≤ tt))

  pub times_low_is : le_f (frac (multiple k) 0 (2 ^ 54)) (times_low false k)
  times_low_is =
      le_trans_f (frac (multiple k) 0 (2 ^ 54)) (mul_f (frac k 0 1) (frac (12486629536330718 * 2 ^ 54 + 7525737178955839) 0 (2 ^ 108))) (times_low false k) (lit< tt)
      (over_square (multiple k) k (12486629536330718 * 2 ^ 54 + 7525737178955839) (2 ^ 54) multiple_below)
      (times_mono k (frac (12486629536330718 * 2 ^ 54 + 7525737178955839) 0 (2 ^ 108)) ln2_low low108)

  pub times_high_is : le_f (times_high false k) (frac (multiple k + 2) 0 (2 ^ 54))
  times_high_is =
      le_trans_f (times_high false k) (mul_f (frac k 0 1) (frac (12486629536330718 * 2 ^ 54 + 7525737178955840) 0 (2 ^ 108))) (frac (multiple k + 2) 0 (2 ^ 54)) (lit< tt)
      (times_mono k ln2_high (frac (12486629536330718 * 2 ^ 54 + 7525737178955840) 0 (2 ^ 108)) high108)
      (under_square (multiple k + 2) k (12486629536330718 * 2 ^ 54 + 7525737178955840) (2 ^ 54) multiple_above)

  pub times_low_neg : le_f (frac 0 (multiple k + 2) (2 ^ 54)) (times_low true k)
  times_low_neg = subst (le_f (frac 0 (multiple k + 2) (2 ^ 54))) (sym (mul_neg_left (frac k 0 1) ln2_high)) (neg_anti_f (times_high false k) (frac (multiple k + 2) 0 (2 ^ 54)) times_high_is)

  pub times_high_neg : le_f (times_high true k) (frac 0 (multiple k) (2 ^ 54))
  times_high_neg = subst (λ (x : Frac). le_f x (frac 0 (multiple k) (2 ^ 54))) (sym (mul_neg_left (frac k 0 1) ln2_low)) (neg_anti_f (frac (multiple k) 0 (2 ^ 54)) (times_low false k) times_low_is)
