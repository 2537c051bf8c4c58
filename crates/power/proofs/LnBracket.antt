-- Document 01's bracket of ln y over one denominator, from bounds of the sum of 24 terms: y = 2 ^ (e - 1023) w, w = u / o. Assumes nothing.
use mathlib.Core.Path.{◌≡◌, refl, sym, subst}
use mathlib.Core.Bool.{Bool, true, false}
use Prim.Native.Nat.{ℕ, ◌+◌, ◌*◌, ◌^◌, ◌≤◌, ◌<◌}
use native.Mathlib.Nat.{one-mul, zero-mul, add-zero, mul-le-mul_right, mul-pos}
use native.Mathlib.Omega.{arith}
use lib.Dec.{lit<}
use Rattle.number.specs.Frac.{Frac, frac, Pos, le_f, neg_f, add_f, sub_f, mul_f, sgn}
use Rattle.number.proofs.Frac.{ring, le_trans_f, add_mono_f, neg_anti_f, add_f_pos, neg_f_pos}
use Rattle.series.specs.Sums.{eq_f}
use Rattle.series.specs.Exact.{LnValue, twice_odds, odd_tail, ln2_low, ln2_high, times_low, times_high, z_of}
use Rattle.series.proofs.Constants.{mn, md, ln2_low_is, ln2_high_is}
use Rattle.logarithm.proofs.Fractions.{mul_neg_left}
use Rattle.logarithm.proofs.OddSeries.{whole, twice_is, tail_small, tail_pos, twice_cong, twice_pos}
use Rattle.logarithm.proofs.Split.{Exponent, split, Part, z_is, z_pos}
use Rattle.logarithm.proofs.Bracket.{sum_below, sum_above}
use Rattle.logarithm.proofs.Joined.{times_pos}
use Rattle.exponential.proofs.Bounds.{scaled}

-- ln 2 is mn / md; numbers stand over md 2 ^ 159, where `unit` is 2 ^ -66 ln 2
abbrev pub D : ℕ
D = md * 2 ^ 159

abbrev pub unit : ℕ
unit = mn * 2 ^ 93

-- ---- k ln 2, k being a - b
abbrev Whole : Bool → ℕ → ℕ → ℕ → Type 0
Whole false k a b = (a ≡ k) × (b ≡ 0)
Whole true k a b = (a ≡ 0) × (b ≡ k)

-- m / q less 1 / (v W), and more
low_numbers : (m q W v k z : ℕ) → k * q ≤ z → le_f (frac (m * W * k * v) z (q * (v * W))) (mul_f (frac k 0 1) (frac (m * (v * W)) q (q * (v * W))))
low_numbers m q W v k z h =
    let x = simp ring at (mul-le-mul_right (q * (v * W)) h) in
    simp (ring, one-mul, zero-mul, add-zero) (omega arith)

high_numbers : (m q W v k z : ℕ) → k * q ≤ z → le_f (mul_f (frac k 0 1) (frac (m * (v * W) + q) 0 (q * (v * W)))) (frac (m * W * k * v + z) 0 (q * (v * W)))
high_numbers m q W v k z h =
    let x = simp ring at (mul-le-mul_right (q * (v * W)) h) in
    simp (ring, one-mul, zero-mul, add-zero) (omega arith)

module _ (k : ℕ) (few : k ≤ 6) where
  least : le_f (frac (unit * k * 2 ^ 66) (6 * md) D) (mul_f (frac k 0 1) ln2_low)
  least =
      le_trans_f (frac (unit * k * 2 ^ 66) (6 * md) D) (mul_f (frac k 0 1) (frac (mn * 2 ^ 159) md (md * 2 ^ 159))) (mul_f (frac k 0 1) ln2_low) (lit< tt)
      (low_numbers mn md (2 ^ 93) (2 ^ 66) k (6 * md) (mul-le-mul_right md few)) (scaled k 1 (frac (mn * 2 ^ 159) md (md * 2 ^ 159)) ln2_low ln2_low_is)

  most : le_f (mul_f (frac k 0 1) ln2_high) (frac (unit * k * 2 ^ 66 + 6 * md) 0 D)
  most =
      le_trans_f (mul_f (frac k 0 1) ln2_high) (mul_f (frac k 0 1) (frac (mn * 2 ^ 159 + md) 0 (md * 2 ^ 159))) (frac (unit * k * 2 ^ 66 + 6 * md) 0 D) (lit< tt)
      (scaled k 1 ln2_high (frac (mn * 2 ^ 159 + md) 0 (md * 2 ^ 159)) ln2_high_is) (high_numbers mn md (2 ^ 93) (2 ^ 66) k (6 * md) (mul-le-mul_right md few))

  whole_low : (neg : Bool) (a b : ℕ) → Whole neg k a b → le_f (frac (unit * a * 2 ^ 66) (unit * b * 2 ^ 66 + 6 * md) D) (times_low neg k)
  whole_low false a b h = subst (λ (a : ℕ). le_f (frac (unit * a * 2 ^ 66) (unit * b * 2 ^ 66 + 6 * md) D) (times_low false k)) (sym h.0) (subst (λ (b : ℕ). le_f (frac (unit * k * 2 ^ 66) (unit * b * 2 ^ 66 + 6 * md) D) (times_low false k)) (sym h.1) least)
  whole_low true a b h =
      subst (λ (a : ℕ). le_f (frac (unit * a * 2 ^ 66) (unit * b * 2 ^ 66 + 6 * md) D) (times_low true k)) (sym h.0) (subst (λ (b : ℕ). le_f (frac 0 (unit * b * 2 ^ 66 + 6 * md) D) (times_low true k)) (sym h.1)
      (subst (le_f (frac 0 (unit * k * 2 ^ 66 + 6 * md) D)) (sym (mul_neg_left (frac k 0 1) ln2_high)) (neg_anti_f (mul_f (frac k 0 1) ln2_high) (frac (unit * k * 2 ^ 66 + 6 * md) 0 D) most)))

  whole_high : (neg : Bool) (a b : ℕ) → Whole neg k a b → le_f (times_high neg k) (frac (unit * a * 2 ^ 66 + 6 * md) (unit * b * 2 ^ 66) D)
  whole_high false a b h = subst (λ (a : ℕ). le_f (times_high false k) (frac (unit * a * 2 ^ 66 + 6 * md) (unit * b * 2 ^ 66) D)) (sym h.0) (subst (λ (b : ℕ). le_f (times_high false k) (frac (unit * k * 2 ^ 66 + 6 * md) (unit * b * 2 ^ 66) D)) (sym h.1) most)
  whole_high true a b h =
      subst (λ (a : ℕ). le_f (times_high true k) (frac (unit * a * 2 ^ 66 + 6 * md) (unit * b * 2 ^ 66) D)) (sym h.0) (subst (λ (b : ℕ). le_f (times_high true k) (frac (6 * md) (unit * b * 2 ^ 66) D)) (sym h.1)
      (subst (λ (x : Frac). le_f x (frac (6 * md) (unit * k * 2 ^ 66) D)) (sym (mul_neg_left (frac k 0 1) ln2_low)) (neg_anti_f (frac (unit * k * 2 ^ 66) (6 * md) D) (mul_f (frac k 0 1) ln2_low) least)))

-- k - 1023 is a - b
parts_of : (neg : Bool) (k e : ℕ) → Exponent neg k e → (a : ℕ) × (b : ℕ) × Whole neg k a b × (a + 1023 ≡ e + b)
parts_of false k e h = (k, 0, (refl, refl), lin k e h)
  where
    lin : (k e : ℕ) → k + 1023 ≡ e → k + 1023 ≡ e + 0
    lin k e h = omega arith
parts_of true k e h = (0, k, (refl, refl), sym h)

few_of : (neg : Bool) (k e : ℕ) → Exponent neg k e → 1018 ≤ e → e ≤ 1029 → k ≤ 6
few_of false k e h l u = omega arith
few_of true k e h l u = omega arith

-- ---- the bracket. With p / q the sum of 24 terms at n / (u + o), its double with its sign is from lo - lo' to hi - hi', over D
module _ (s : Bool) (n o u e : ℕ) (op : 0 < o) (dp : 0 < u + o) (part : Part s u n o) (low : 2 * o ≤ 3 * u) (high : 3 * u < 4 * o) (least-e : 1018 ≤ e) (most-e : e ≤ 1029)
    (y l : Frac) (yp : Pos y) (given : eq_f y (frac (u * 2 ^ e) 0 (o * 2 ^ 1023))) (value : LnValue y l) where
  way : Exponent value.neg value.k e × eq_f value.w (frac u 0 o)
  way = split u o e op low high y yp given value.neg value.k value.w value.proper.1 value.splits value.range.0 value.range.1

  abbrev z : Frac
  z = z_of value.w

  z_same : eq_f z (sgn s n (u + o))
  z_same = z_is s value.w value.proper.1 u n o op part way.1

  zp : Pos z
  zp = z_pos s value.w value.proper.1 u n o op part way.1

  five : 5 * n ≤ u + o
  five = go s part
    where
      go : (s : Bool) → Part s u n o → 5 * n ≤ u + o
      go false p = omega (arith, p, high)
      go true p = omega (arith, p, low)

  twice_same : eq_f (twice_odds 24 z) (sgn s (2 * (whole n (u + o) dp).p) (1 * (whole n (u + o) dp).q))
  twice_same = subst (eq_f (twice_odds 24 z)) (twice_is n (u + o) dp s) (twice_cong z (sgn s n (u + o)) z_same)

  sum_positive : Pos (sgn s (2 * (whole n (u + o) dp).p) (1 * (whole n (u + o) dp).q))
  sum_positive = go s
    where
      go : (s : Bool) → Pos (sgn s (2 * (whole n (u + o) dp).p) (1 * (whole n (u + o) dp).q))
      go false = mul-pos {m = 1} (lit< tt) (whole n (u + o) dp).positive
      go true = mul-pos {m = 1} (lit< tt) (whole n (u + o) dp).positive

  -- the tail is at most 2 ^ -100
  tail_unit : le_f (odd_tail 24 z) (frac (md * 2 ^ 59) 0 D)
  tail_unit = le_trans_f (odd_tail 24 z) (frac n 0 ((u + o) * 2 ^ 100)) (frac (md * 2 ^ 59) 0 D) (mul-pos {n = 2 ^ 100} dp (lit< tt)) (tail_small s z n (u + o) zp dp five z_same) (go n (u + o) md (2 ^ 100) (2 ^ 59) five)
    where
      go : (n d q E F : ℕ) → 5 * n ≤ d → le_f (frac n 0 (d * E)) (frac (q * F) 0 (q * (F * E)))
      go n d q E F h =
          let x = simp ring at (mul-le-mul_right (q * (F * E)) h) in
          simp (ring, zero-mul, add-zero) (omega arith)

  tail_positive : Pos (odd_tail 24 z)
  tail_positive = tail_pos s z n (u + o) zp dp five z_same

  abbrev sum₂ : Frac
  sum₂ = sgn s (2 * (whole n (u + o) dp).p) (1 * (whole n (u + o) dp).q)

  pub from_low : (g h x x' : ℕ) → le_f (frac g h D) sum₂ → ((a b : ℕ) → a + 1023 ≡ e + b → x + (h + md * 2 ^ 59) + (unit * b * 2 ^ 66 + 6 * md) ≤ g + unit * a * 2 ^ 66 + x') → le_f (frac x x' D) l
  from_low g h x x' bound room = go (parts_of value.neg value.k e way.0)
    where
      all : le_f (frac g (h + md * 2 ^ 59) D) (sub_f (twice_odds 24 z) (odd_tail 24 z))
      all =
          le_trans_f (frac g (h + md * 2 ^ 59) D) (add_f (frac g h D) (frac 0 (md * 2 ^ 59) D)) (sub_f (twice_odds 24 z) (odd_tail 24 z)) (lit< tt) (sum_below g (h + md * 2 ^ 59) g h 0 (md * 2 ^ 59) D (three g h (md * 2 ^ 59)))
          (add_mono_f (frac g h D) (twice_odds 24 z) (frac 0 (md * 2 ^ 59) D) (neg_f (odd_tail 24 z)) (le_trans_f (frac g h D) sum₂ (twice_odds 24 z) sum_positive bound twice_same.1) (neg_anti_f (odd_tail 24 z) (frac (md * 2 ^ 59) 0 D) tail_unit))
        where
          three : (g h t : ℕ) → g + h + t ≤ g + 0 + (h + t)
          three g h t = omega arith

      go : (a : ℕ) × (b : ℕ) × Whole value.neg value.k a b × (a + 1023 ≡ e + b) → le_f (frac x x' D) l
      go (a, b, w, r) =
          le_trans_f (frac x x' D) (add_f (sub_f (twice_odds 24 z) (odd_tail 24 z)) (times_low value.neg value.k)) l
          (add_f_pos (sub_f (twice_odds 24 z) (odd_tail 24 z)) (times_low value.neg value.k) (add_f_pos (twice_odds 24 z) (neg_f (odd_tail 24 z)) (twice_pos z zp) (neg_f_pos (odd_tail 24 z) tail_positive)) (times_pos value.neg value.k).0)
          (le_trans_f (frac x x' D) (add_f (frac g (h + md * 2 ^ 59) D) (frac (unit * a * 2 ^ 66) (unit * b * 2 ^ 66 + 6 * md) D)) (add_f (sub_f (twice_odds 24 z) (odd_tail 24 z)) (times_low value.neg value.k)) (lit< tt)
          (sum_below x x' g (h + md * 2 ^ 59) (unit * a * 2 ^ 66) (unit * b * 2 ^ 66 + 6 * md) D (room a b r))
          (add_mono_f (frac g (h + md * 2 ^ 59) D) (sub_f (twice_odds 24 z) (odd_tail 24 z)) (frac (unit * a * 2 ^ 66) (unit * b * 2 ^ 66 + 6 * md) D) (times_low value.neg value.k) all (whole_low value.k (few_of value.neg value.k e way.0 least-e most-e) value.neg a b w)))
          value.low

  pub from_high : (g h x x' : ℕ) → le_f sum₂ (frac g h D) → ((a b : ℕ) → a + 1023 ≡ e + b → g + md * 2 ^ 59 + (unit * a * 2 ^ 66 + 6 * md) + x' ≤ x + h + unit * b * 2 ^ 66) → le_f l (frac x x' D)
  from_high g h x x' bound room = go (parts_of value.neg value.k e way.0)
    where
      all : le_f (add_f (twice_odds 24 z) (odd_tail 24 z)) (frac (g + md * 2 ^ 59) h D)
      all =
          le_trans_f (add_f (twice_odds 24 z) (odd_tail 24 z)) (add_f (frac g h D) (frac (md * 2 ^ 59) 0 D)) (frac (g + md * 2 ^ 59) h D) (lit< tt)
          (add_mono_f (twice_odds 24 z) (frac g h D) (odd_tail 24 z) (frac (md * 2 ^ 59) 0 D) (le_trans_f (twice_odds 24 z) sum₂ (frac g h D) sum_positive twice_same.0 bound) tail_unit)
          (sum_above (g + md * 2 ^ 59) h g h (md * 2 ^ 59) 0 D (three g h (md * 2 ^ 59)))
        where
          three : (g h t : ℕ) → g + t + h ≤ g + t + h + 0
          three g h t = omega arith

      go : (a : ℕ) × (b : ℕ) × Whole value.neg value.k a b × (a + 1023 ≡ e + b) → le_f l (frac x x' D)
      go (a, b, w, r) =
          le_trans_f l (add_f (add_f (twice_odds 24 z) (odd_tail 24 z)) (times_high value.neg value.k)) (frac x x' D)
          (add_f_pos (add_f (twice_odds 24 z) (odd_tail 24 z)) (times_high value.neg value.k) (add_f_pos (twice_odds 24 z) (odd_tail 24 z) (twice_pos z zp) tail_positive) (times_pos value.neg value.k).1)
          value.high
          (le_trans_f (add_f (add_f (twice_odds 24 z) (odd_tail 24 z)) (times_high value.neg value.k)) (add_f (frac (g + md * 2 ^ 59) h D) (frac (unit * a * 2 ^ 66 + 6 * md) (unit * b * 2 ^ 66) D)) (frac x x' D) (lit< tt)
          (add_mono_f (add_f (twice_odds 24 z) (odd_tail 24 z)) (frac (g + md * 2 ^ 59) h D) (times_high value.neg value.k) (frac (unit * a * 2 ^ 66 + 6 * md) (unit * b * 2 ^ 66) D) all (whole_high value.k (few_of value.neg value.k e way.0 least-e most-e) value.neg a b w))
          (sum_above x x' (g + md * 2 ^ 59) h (unit * a * 2 ^ 66 + 6 * md) (unit * b * 2 ^ 66) D (room a b r)))
