-- The argument of document 01's sum against the exponent's own: v - k l, for every value l of ln 2, is near φ ln 2 / 2 ^ 53. Assumes nothing.
use mathlib.Core.Path.{◌≡◌, sym, ap, ◌∙◌}
use Prim.Native.Nat.{ℕ, ◌+◌, ◌*◌, ◌^◌, ◌≤◌}
use native.Mathlib.Nat.{mul-zero, zero-mul, one-mul, mul-one, add-zero, zero-add, le_of_eq, mul-pos, mul-le-mul_right}
use native.Mathlib.Omega.{arith}
use lib.Dec.{lit<, lit≤}
use Rattle.number.specs.Frac.{Frac, frac, Pos, le_f, neg_f, add_f, sub_f, mul_f}
use Rattle.number.proofs.Frac.{ring, le_trans_f, add_f_pos}
use Rattle.series.specs.Sums.{eq_f, pow_f, sum_f}
use Rattle.series.specs.Exact.{ln2_low, ln2_high, twice_odds, odd_tail}
use Rattle.series.proofs.Constants.{mn, md, ln2_low_is, ln2_high_is}
use Rattle.fixed_point.proofs.Horner.{ring as sums}
use Rattle.exponential.proofs.Bounds.{Bound, bound_eq, bound_up, bound_add, bound_mul}
use Rattle.exponential.proofs.Position.{M}

-- (v - k l) - u = (v - (w - x) M / T) + k (M - l), where w / T - x / T = k + u / M: k is a - b, u (f - g) M / T, M m / q
module _ (p n d lp ln ld m q a b w x T₁ f g : ℕ) (e : w + b * T₁ + g ≡ a * T₁ + x + f) where
  abbrev common : ℕ
  common = (p * ld + (a * ln + b * lp) * d + (n * ld + (a * lp + b * ln) * d)) * (q * T₁ * (d * T₁ * q * (q * ld)))

  one_side : ((p * (1 * ld) + (a * ln + b * lp) * d) * (q * T₁) + m * g * (d * (1 * ld))) * (d * (T₁ * q) * (1 * (q * ld))) + ((n * (T₁ * q) + (w * m + x * 0) * d) * (1 * (q * ld)) + (a * (0 * ld + lp * q) + b * (m * ld + ln * q)) * (d * (T₁ * q))) * (d * (1 * ld) * (q * T₁)) ≡ common + (w + b * T₁ + g) * (m * d * ld * d * T₁ * q * q * ld)
  one_side = simp (sums, one-mul, mul-zero, zero-mul, add-zero, zero-add)

  other_side : ((p * (T₁ * q) + (w * 0 + x * m) * d) * (1 * (q * ld)) + (a * (m * ld + ln * q) + b * (0 * ld + lp * q)) * (d * (T₁ * q))) * (d * (1 * ld) * (q * T₁)) + ((n * (1 * ld) + (a * lp + b * ln) * d) * (q * T₁) + m * f * (d * (1 * ld))) * (d * (T₁ * q) * (1 * (q * ld))) ≡ common + (a * T₁ + x + f) * (m * d * ld * d * T₁ * q * q * ld)
  other_side = simp (sums, one-mul, mul-zero, zero-mul, add-zero, zero-add)

  moved : eq_f (sub_f (sub_f (frac p n d) (mul_f (frac a b 1) (frac lp ln ld))) (frac (m * f) (m * g) (q * T₁))) (add_f (sub_f (frac p n d) (mul_f (frac w x T₁) (frac m 0 q))) (mul_f (frac a b 1) (sub_f (frac m 0 q) (frac lp ln ld))))
  moved =
      let same = one_side ∙ ap (λ (y : ℕ). common + y * (m * d * ld * d * T₁ * q * q * ld)) e ∙ sym other_side in
      (le_of_eq same, le_of_eq (sym same))

-- ---- ln 2's bracket is within 2 ^ -159 of M
low_pos : Pos ln2_low
unfolding ln2_low twice_odds odd_tail sum_f pow_f
low_pos = lit< tt

high_pos : Pos ln2_high
unfolding ln2_high twice_odds odd_tail sum_f pow_f
high_pos = lit< tt

gap_up : (m q p n d E : ℕ) → le_f (frac (m * E) q (q * E)) (frac p n d) → le_f (sub_f (frac m 0 q) (frac p n d)) (frac 1 0 E)
gap_up m q p n d E h = go m q p n d E h
  where
    go : (m q p n d E : ℕ) → m * E * d + n * (q * E) ≤ p * (q * E) + q * d → (m * d + n * q) * E + 0 * (q * d) ≤ 1 * (q * d) + (0 * d + p * q) * E
    go m q p n d E h = let z = simp ring at h in simp (ring, one-mul, mul-zero, zero-mul, add-zero, zero-add) (omega arith)

gap_down : (m q p n d E : ℕ) → le_f (frac p n d) (frac (m * E + q) 0 (q * E)) → le_f (neg_f (sub_f (frac m 0 q) (frac p n d))) (frac 1 0 E)
gap_down m q p n d E h = go m q p n d E h
  where
    go : (m q p n d E : ℕ) → p * (q * E) + 0 * d ≤ (m * E + q) * d + n * (q * E) → (0 * d + p * q) * E + 0 * (q * d) ≤ 1 * (q * d) + (m * d + n * q) * E
    go m q p n d E h = let z = simp (ring, zero-mul, add-zero) at h in simp (ring, one-mul, mul-zero, zero-mul, add-zero, zero-add) (omega arith)

ln2_gap : (l : Frac) → le_f ln2_low l → le_f l ln2_high → Bound (sub_f M l) (frac 1 0 (2 ^ 159))
ln2_gap (frac p n d) h k = (gap_up mn md p n d (2 ^ 159) (le_trans_f (frac (mn * 2 ^ 159) md (md * 2 ^ 159)) ln2_low (frac p n d) low_pos ln2_low_is h), gap_down mn md p n d (2 ^ 159) (le_trans_f (frac p n d) ln2_high (frac (mn * 2 ^ 159 + md) 0 (md * 2 ^ 159)) high_pos k ln2_high_is))

-- ---- together
few : (c U E : ℕ) → 4096 * U ≤ E → le_f (add_f (frac c 0 U) (mul_f (frac 4096 0 1) (frac 1 0 E))) (frac (c + 1) 0 U)
few c U E h =
    let z = simp ring at (mul-le-mul_right (U) h) in
    let y = simp ring at (mul-le-mul_right (U * U) h) in
    simp (ring, one-mul, mul-one, mul-zero, zero-mul, add-zero, zero-add) (omega arith)

pub moved_near : (v l : Frac) (w c a b f g : ℕ) → Pos v → Pos l → w + b * 2 ^ 53 + g ≡ a * 2 ^ 53 + 1023 * 2 ^ 53 + f → Bound (frac a b 1) (frac 4096 0 1) → le_f ln2_low l → le_f l ln2_high
    → Bound (sub_f v (mul_f (frac w (1023 * 2 ^ 53) (2 ^ 53)) M)) (frac c 0 (2 ^ 60)) → Bound (sub_f (sub_f v (mul_f (frac a b 1) l)) (frac (mn * f) (mn * g) (md * 2 ^ 53))) (frac (c + 1) 0 (2 ^ 60))
moved_near (frac p n d) (frac lp ln ld) w c a b f g P L e k lo hi h =
    let u = sub_f (frac p n d) (mul_f (frac w (1023 * 2 ^ 53) (2 ^ 53)) M) in
    let z = mul_f (frac a b 1) (sub_f M (frac lp ln ld)) in
    let zb = mul_f (frac 4096 0 1) (frac 1 0 (2 ^ 159)) in
    bound_eq (add_f u z) (sub_f (sub_f (frac p n d) (mul_f (frac a b 1) (frac lp ln ld))) (frac (mn * f) (mn * g) (md * 2 ^ 53))) (frac (c + 1) 0 (2 ^ 60))
    (add_f_pos u z (mul-pos P (lit< tt)) (mul-pos (lit< tt) (mul-pos (lit< tt) L)))
    (moved p n d lp ln ld mn md a b w (1023 * 2 ^ 53) (2 ^ 53) f g e)
    (bound_up (add_f u z) (add_f (frac c 0 (2 ^ 60)) zb) (frac (c + 1) 0 (2 ^ 60)) (lit< tt) (few c (2 ^ 60) (2 ^ 159) (lit≤ tt))
    (bound_add u z (frac c 0 (2 ^ 60)) zb h (bound_mul (frac a b 1) (sub_f M (frac lp ln ld)) (frac 4096 0 1) (frac 1 0 (2 ^ 159)) k (ln2_gap (frac lp ln ld) lo hi))))
