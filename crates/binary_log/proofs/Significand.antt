-- The logarithm of a significand is near document 01's sum of 24 terms, at every significand. Assumes nothing.
use mathlib.Core.Path.{◌≡◌, refl, sym, ap, ◌∙◌, subst}
use mathlib.Core.Bool.{Bool, true, false}
use Prim.Native.Nat.{ℕ, zero, suc, ◌+◌, ◌-◌, ◌*◌, ◌/◌, ◌%◌, ◌^◌, ◌≤◌, ◌<◌}
use native.Mathlib.Nat.{div-mul-le_self, not-suc-le-zero, le_trans, le_of_eq, le-add_right, mul-add, add-mul, mul_assoc, mul_comm, add_assoc, add_comm, mul-one, one-mul, mul-le-mul_left, mul-le-mul_right, le_of_mul-le-mul_right, eq_of_mul-eq-mul_left, mul-pos, one-le-pow, pow-zero, pow-suc}
use native.Mathlib.Decide.{dec_le}
use native.Mathlib.Omega.{arith}
use lib.Dec.{T, leb, ltb, eqb, leb→le, ltb→lt, eqb→eq, lit<, lit≤}
use lib.ListN.{get_or}
use lib.Ieee.Fits.{and_l, and_r}
use Rattle.fixed_point.specs.Horner.{horner}
use Rattle.fixed_point.proofs.Polynomial.{hom}
use Rattle.fixed_point.proofs.Horner.{ring, ac, half_of}
use Rattle.fixed_point.proofs.Bernstein.{under, under_le}
use Rattle.fixed_point.proofs.Run.{total, under_total}
use Rattle.number.proofs.Table.{at, unless}
use Rattle.series.proofs.Constants.{mn, md}
use Rattle.logarithm.proofs.CoreBounds.{common, tops}
use Rattle.binary_log.specs.Tables.{log_factors, logs, odd_terms, even_terms}
use Rattle.binary_log.specs.BinaryLog.{eight_terms, place_of, gap_of, significand_log}
use Rattle.binary_log.proofs.Terms.{ones, scale, terms_lo, terms_hi}
use Rattle.binary_log.proofs.TableTest.{u_l, v_l, x_l, c_u, c_v, c_x, near0, near1, place0, place1, place, all, rule, rules, small, smalls, lowest, units, sided, sides}
use Rattle.binary_log.proofs.Additive.{U-is, V-is, X-is, hi0, lo0, hi1, lo1}

-- p / q is document 01's sum of z ^ (2 i + 1) / (2 i + 1) over 24 terms, at z = n / d
abbrev pub Odds : ℕ → ℕ → ℕ → ℕ → Type 0
Odds n d p q = p * (common * d * (d * d) ^ 24) ≡ n * hom (tops 0 24) (n * n) (d * d) * (d * d) * q

-- f 2 ^ -61 is near the binary logarithm of w = m / 2 ^ 52, for w < 4/3: with A = p / q the sum at z = (w - 1) / (w + 1) and ln 2 = mn / md,
-- 2 A / ln 2 ≤ (f + 1) / 2 ^ 61 and (f - 34/32) / 2 ^ 61 ≤ 2 A / ln 2
abbrev pub Near : ℕ → ℕ → ℕ → Type 0
Near f p q = (2 ^ 62 * md * p ≤ mn * (f + 1) * q) × (32 * (mn * f * q) ≤ 32 * (2 ^ 62 * md * p) + 34 * (mn * q))

-- from 4/3 on the same of 1 - 2 A / ln 2, A at (2 - w) / (2 + w)
abbrev pub Near-two : ℕ → ℕ → ℕ → Type 0
Near-two f p q = (mn * 2 ^ 61 * q ≤ 2 ^ 62 * md * p + mn * (f + 1) * q) × (32 * (2 ^ 62 * md * p) + 32 * (mn * f * q) ≤ 32 * (mn * 2 ^ 61 * q) + 34 * (mn * q))

-- ---- the sum with a power of the denominator less
odd_pow : (D k : ℕ) → D * (D * D) ^ k ≡ D ^ (2 * k + 1)
odd_pow D zero = ap (λ (z : ℕ). D * z) (pow-zero (D * D)) ∙ mul-one D ∙ sym (pow-suc D 0 ∙ ap (λ (t : ℕ). t * D) (pow-zero D) ∙ one-mul D)
odd_pow D (suc k) = ap (λ (z : ℕ). D * z) (pow-suc (D * D) k) ∙ sym (mul_assoc D ((D * D) ^ k) (D * D)) ∙ ap (λ (z : ℕ). z * (D * D)) (odd_pow D k) ∙ sym (mul_assoc (D ^ (2 * k + 1)) D D) ∙ ap (λ (z : ℕ). z * D) (sym (pow-suc D (2 * k + 1))) ∙ sym (pow-suc D (suc (2 * k + 1))) ∙ ap (λ (z : ℕ). D ^ z) (lin k)
  where
    lin : (k : ℕ) → suc (suc (2 * k + 1)) ≡ 2 * suc k + 1
    lin k = omega arith

sum_is : (N D p q : ℕ) → 0 < D → Odds N D p q → p * (common * D ^ 47) ≡ N * hom (tops 0 24) (N * N) (D * D) * q
sum_is N D p q pos e = eq_of_mul-eq-mul_left (D * D) (mul-pos pos pos) _ _ (a (D * D) p common (D ^ 47) ∙ ap (λ (z : ℕ). p * z) (ap (λ (z : ℕ). common * z * (D * D)) (sym (odd_pow D 23)) ∙ b common D ((D * D) ^ 23) (D * D) ∙ ap (λ (z : ℕ). common * D * z) (sym (pow-suc (D * D) 23))) ∙ e ∙ c N (hom (tops 0 24) (N * N) (D * D)) (D * D) q)
  where
    a : (Q x K p : ℕ) → Q * (x * (K * p)) ≡ x * (K * p * Q)
    a Q x K p = simp ac

    b : (K D p Q : ℕ) → K * (D * p) * Q ≡ K * D * (p * Q)
    b K D p Q = simp ac

    c : (N H Q y : ℕ) → N * H * Q * y ≡ Q * (N * H * y)
    c N H Q y = simp ac

-- ---- the places
wide_is : (s t : ℕ) → s + t ≡ 2 ^ 45 → 2 ^ 19 * s + 2 ^ 19 * t ≡ 2 ^ 64
wide_is s t h = omega arith

module _ (s t np nq dp dq r0 r1 l : ℕ) (st : s + t ≡ 2 ^ 45) (dpos : 0 < dp * s + dq * t) (h15 : 15 * (r0 * s + r1 * t) ≤ 8 * 2 ^ 64) (p q : ℕ) (odds : Odds (np * s + nq * t) (dp * s + dq * t) p q) where
  abbrev N : ℕ
  N = np * s + nq * t

  abbrev D : ℕ
  D = dp * s + dq * t

  abbrev G : ℕ
  G = r0 * s + r1 * t

  abbrev H : ℕ
  H = hom (tops 0 24) (N * N) (D * D)

  abbrev W : ℕ
  W = 2 ^ 64

  U' : hom (u_l np nq dp dq) t s ≡ W ^ 8 * (N * H)
  U' = U-is s t np nq dp dq ∙ ap (λ (z : ℕ). z ^ 8 * (N * H)) (wide_is s t st)

  V' : hom (v_l r0 r1 dp dq) t s ≡ D ^ 47 * (G * hom (ones 1 8) G W)
  V' = V-is s t np nq dp dq r0 r1 ∙ ap (λ (z : ℕ). D ^ 47 * (G * hom (ones 1 8) G z)) (wide_is s t st)

  X' : hom (x_l dp dq) t s ≡ D ^ 47 * W ^ 8
  X' = X-is s t np nq dp dq ∙ ap (λ (z : ℕ). D ^ 47 * z ^ 8) (wide_is s t st)

  seen : (a b c a' b' c' : ℕ) → T (under a b c a' b' c' (u_l np nq dp dq) (v_l r0 r1 dp dq) (x_l dp dq))
      → a * (W ^ 8 * (N * H)) + b * (D ^ 47 * (G * hom (ones 1 8) G W)) + c * (D ^ 47 * W ^ 8) ≤ a' * (W ^ 8 * (N * H)) + b' * (D ^ 47 * (G * hom (ones 1 8) G W)) + c' * (D ^ 47 * W ^ 8)
  seen a b c a' b' c' h = go U' V' X' (under_le a b c a' b' c' s t (u_l np nq dp dq) (v_l r0 r1 dp dq) (x_l dp dq) h)
    where
      go : {u v x u' v' x' : ℕ} → u ≡ u' → v ≡ v' → x ≡ x' → a * u + b * v + c * x ≤ a' * u + b' * v + c' * x → a * u' + b * v' + c * x' ≤ a' * u' + b' * v' + c' * x'
      go e f g h = rw (sym e) (rw (sym f) (rw (sym g) h))

  Z-pos : 0 < common * scale * (D ^ 47 * W ^ 8)
  Z-pos = mul-pos {m = common * scale} {n = D ^ 47 * W ^ 8} (lit< tt) (mul-pos {m = D ^ 47} {n = W ^ 8} (one-le-pow 47 D dpos) (lit< tt))

  at0 : T (near0 l (u_l np nq dp dq) (v_l r0 r1 dp dq) (x_l dp dq))
      → (2 * 2 ^ 61 * md * p + mn * eight_terms G * q ≤ mn * (l + 1) * q)
      × (32 * (mn * l * q) ≤ 32 * (2 * 2 ^ 61 * md * p) + mn * (32 * eight_terms G + 33) * q + mn * q)
  at0 h =
      let h1 = and_l (under c_u c_v 0 0 0 (c_x * (l + 1)) (u_l np nq dp dq) (v_l r0 r1 dp dq) (x_l dp dq)) (under 0 0 (32 * c_x * l) (32 * c_u) (32 * c_v) c_x (u_l np nq dp dq) (v_l r0 r1 dp dq) (x_l dp dq)) h in
      let h2 = and_r (under c_u c_v 0 0 0 (c_x * (l + 1)) (u_l np nq dp dq) (v_l r0 r1 dp dq) (x_l dp dq)) (under 0 0 (32 * c_x * l) (32 * c_u) (32 * c_v) c_x (u_l np nq dp dq) (v_l r0 r1 dp dq) (x_l dp dq)) h in (
        hi0 common scale mn md (2 ^ 61) (N * H) (G * hom (ones 1 8) G W) (D ^ 47) (W ^ 8) p q (eight_terms G) l Z-pos (sum_is N D p q dpos odds) (terms_lo G h15) (seen c_u c_v 0 0 0 (c_x * (l + 1)) h1),
        lo0 common scale mn md (2 ^ 61) (N * H) (G * hom (ones 1 8) G W) (D ^ 47) (W ^ 8) p q (eight_terms G) l Z-pos (sum_is N D p q dpos odds) (terms_hi G h15) (seen 0 0 (32 * c_x * l) (32 * c_u) (32 * c_v) c_x h2),
      )

  at1 : T (near1 l (u_l np nq dp dq) (v_l r0 r1 dp dq) (x_l dp dq))
      → (mn * eight_terms G * q + mn * 2 ^ 61 * q ≤ 2 * 2 ^ 61 * md * p + mn * (l + 1) * q)
      × (32 * (2 * 2 ^ 61 * md * p) + 32 * (mn * l * q) ≤ mn * (32 * eight_terms G + 33) * q + 32 * (mn * 2 ^ 61 * q) + mn * q)
  at1 h =
      let h1 = and_l (under 0 c_v (c_x * 2 ^ 61) c_u 0 (c_x * (l + 1)) (u_l np nq dp dq) (v_l r0 r1 dp dq) (x_l dp dq)) (under (32 * c_u) 0 (32 * c_x * l) 0 (32 * c_v) (32 * c_x * 2 ^ 61 + c_x) (u_l np nq dp dq) (v_l r0 r1 dp dq) (x_l dp dq)) h in
      let h2 = and_r (under 0 c_v (c_x * 2 ^ 61) c_u 0 (c_x * (l + 1)) (u_l np nq dp dq) (v_l r0 r1 dp dq) (x_l dp dq)) (under (32 * c_u) 0 (32 * c_x * l) 0 (32 * c_v) (32 * c_x * 2 ^ 61 + c_x) (u_l np nq dp dq) (v_l r0 r1 dp dq) (x_l dp dq)) h in (
        hi1 common scale mn md (2 ^ 61) (N * H) (G * hom (ones 1 8) G W) (D ^ 47) (W ^ 8) p q (eight_terms G) l Z-pos (sum_is N D p q dpos odds) (terms_lo G h15) (seen 0 c_v (c_x * 2 ^ 61) c_u 0 (c_x * (l + 1)) h1),
        lo1 common scale mn md (2 ^ 61) (N * H) (G * hom (ones 1 8) G W) (D ^ 47) (W ^ 8) p q (eight_terms G) l Z-pos (sum_is N D p q dpos odds) (terms_hi G h15) (seen (32 * c_u) 0 (32 * c_x * l) 0 (32 * c_v) (32 * c_x * 2 ^ 61 + c_x) h2),
      )

-- ---- the linear forms at a significand
form : (a s t w : ℕ) → s + t ≡ w → a * s + (a + 1) * t ≡ a * w + t
form a s t w h = ap (λ (z : ℕ). a * s + z) (add-mul a 1 t ∙ ap (λ (z : ℕ). a * t + z) (one-mul t)) ∙ sym (add_assoc (a * s) (a * t) t) ∙ ap (λ (z : ℕ). z + t) (sym (mul-add a s t) ∙ ap (λ (z : ℕ). a * z) h)

form' : (a s t w : ℕ) → s + t ≡ w → (a + 1) * s + a * t ≡ a * w + s
form' a s t w h = add_comm ((a + 1) * s) (a * t) ∙ form a t s w (add_comm t s ∙ h)

module _ (j s t m : ℕ) (st : s + t ≡ 2 ^ 45) (jb : j < 128) (mb : m ≡ (128 + j) * 2 ^ 45 + t) where
  N0 : j * s + (j + 1) * t ≡ m - 2 ^ 52
  N0 = form j s t (2 ^ 45) st ∙ lin j t m mb
    where
      lin : (j t m : ℕ) → m ≡ (128 + j) * 2 ^ 45 + t → j * 2 ^ 45 + t ≡ m - 2 ^ 52
      lin j t m h = omega arith

  D0 : (256 + j) * s + (257 + j) * t ≡ m + 2 ^ 52
  D0 = ap (λ (z : ℕ). (256 + j) * s + z * t) (one j) ∙ form (256 + j) s t (2 ^ 45) st ∙ lin j t m mb
    where
      one : (j : ℕ) → 257 + j ≡ 256 + j + 1
      one j = omega arith

      lin : (j t m : ℕ) → m ≡ (128 + j) * 2 ^ 45 + t → (256 + j) * 2 ^ 45 + t ≡ m + 2 ^ 52
      lin j t m h = omega arith

  N1 : (128 - j) * s + (127 - j) * t ≡ 2 ^ 53 - m
  N1 = ap (λ (z : ℕ). z * s + (127 - j) * t) (one j jb) ∙ form' (127 - j) s t (2 ^ 45) st ∙ lin j s t m jb st mb
    where
      one : (j : ℕ) → j < 128 → 128 - j ≡ 127 - j + 1
      one j h = omega arith

      lin : (j s t m : ℕ) → j < 128 → s + t ≡ 2 ^ 45 → m ≡ (128 + j) * 2 ^ 45 + t → (127 - j) * 2 ^ 45 + s ≡ 2 ^ 53 - m
      lin j s t m h k l = omega arith

  D1 : (384 + j) * s + (385 + j) * t ≡ m + 2 ^ 53
  D1 = ap (λ (z : ℕ). (384 + j) * s + z * t) (one j) ∙ form (384 + j) s t (2 ^ 45) st ∙ lin j t m mb
    where
      one : (j : ℕ) → 385 + j ≡ 384 + j + 1
      one j = omega arith

      lin : (j t m : ℕ) → m ≡ (128 + j) * 2 ^ 45 + t → (384 + j) * 2 ^ 45 + t ≡ m + 2 ^ 53
      lin j t m h = omega arith

  -- c (129 + j) ≤ 2 ^ 18, so that nothing is cut off
  module _ (c : ℕ) (cb : c * (129 + j) ≤ 2 ^ 18) where
    step_c : c * (129 + j) ≡ c * (128 + j) + c
    step_c = ap (λ (z : ℕ). c * z) (one j) ∙ mul-add c (128 + j) 1 ∙ ap (λ (z : ℕ). c * (128 + j) + z) (mul-one c)
      where
        one : (j : ℕ) → 129 + j ≡ 128 + j + 1
        one j = omega arith

    gap_sum : (2 ^ 18 - c * (128 + j)) * s + (2 ^ 18 - c * (129 + j)) * t + c * t ≡ (2 ^ 18 - c * (128 + j)) * 2 ^ 45
    gap_sum = add_assoc ((2 ^ 18 - c * (128 + j)) * s) ((2 ^ 18 - c * (129 + j)) * t) (c * t) ∙ ap (λ (z : ℕ). (2 ^ 18 - c * (128 + j)) * s + z) (sym (add-mul (2 ^ 18 - c * (129 + j)) c t) ∙ ap (λ (z : ℕ). z * t) (lin (c * (128 + j)) c (c * (129 + j)) step_c cb)) ∙ sym (mul-add (2 ^ 18 - c * (128 + j)) s t) ∙ ap (λ (z : ℕ). (2 ^ 18 - c * (128 + j)) * z) st
      where
        lin : (a c b : ℕ) → b ≡ a + c → b ≤ 2 ^ 18 → 2 ^ 18 - b + c ≡ 2 ^ 18 - a
        lin a c b h k = omega arith

    c_m : c * m ≡ c * (128 + j) * 2 ^ 45 + c * t
    c_m = ap (λ (z : ℕ). c * z) mb ∙ mul-add c ((128 + j) * 2 ^ 45) t ∙ ap (λ (z : ℕ). z + c * t) (sym (mul_assoc c (128 + j) (2 ^ 45)))

    G-is : 128 * (2 ^ 18 - c * (128 + j)) * s + 128 * (2 ^ 18 - c * (129 + j)) * t ≡ (2 ^ 63 - c * m) * 128
    G-is = both (mul_assoc 128 (2 ^ 18 - c * (128 + j)) s) (mul_assoc 128 (2 ^ 18 - c * (129 + j)) t) ∙ lin (c * (128 + j)) c (c * (129 + j)) ((2 ^ 18 - c * (128 + j)) * s) ((2 ^ 18 - c * (129 + j)) * t) (c * t) (c * m) step_c cb gap_sum c_m
      where
        both : {x y x' y' : ℕ} → x ≡ x' → y ≡ y' → x + y ≡ x' + y'
        both {x} {y} {x'} {y'} p q = ap (λ (z : ℕ). z + y) p ∙ ap (λ (z : ℕ). x' + z) q

        lin : (a c b u v ct cm : ℕ) → b ≡ a + c → b ≤ 2 ^ 18 → u + v + ct ≡ (2 ^ 18 - a) * 2 ^ 45 → cm ≡ a * 2 ^ 45 + ct → 128 * u + 128 * v ≡ (2 ^ 63 - cm) * 128
        lin a c b u v ct cm h k p q = omega arith

    G-small : 15 * (128 * (2 ^ 18 - c * (128 + j))) ≤ 2 ^ 22 → 15 * ((2 ^ 63 - c * m) * 128) ≤ 8 * 2 ^ 64
    G-small h = lin (c * (128 + j)) (c * t) (c * m) h c_m
      where
        lin : (a ct cm : ℕ) → 15 * (128 * (2 ^ 18 - a)) ≤ 2 ^ 22 → cm ≡ a * 2 ^ 45 + ct → 15 * ((2 ^ 63 - cm) * 128) ≤ 8 * 2 ^ 64
        lin a ct cm h k = omega arith

-- ---- sizes
pub le_self : (x q : ℕ) → q ≤ 2 ^ 64 → x * q / 2 ^ 64 ≤ x
le_self x q h = le_trans (le_of_eq (ap (λ (z : ℕ). z / 2 ^ 64) (mul_comm x q))) (half_of q x h)

pub sum_small : (dd : ℕ) → dd ≤ 2 ^ 64 → horner odd_terms (dd * dd / 2 ^ 64) + horner even_terms (dd * dd / 2 ^ 64) * dd / 2 ^ 64 < 2 ^ 64
sum_small dd h =
    let q : dd * dd / 2 ^ 64 ≤ 2 ^ 64 = le_trans (le_self dd dd h) h in
    lin (under_total odd_terms (dd * dd / 2 ^ 64) q) (le_trans (le_self (horner even_terms (dd * dd / 2 ^ 64)) dd h) (under_total even_terms (dd * dd / 2 ^ 64) q))
  where
    lin : {x y : ℕ} → x ≤ total odd_terms → y ≤ total even_terms → x + y < 2 ^ 64
    lin h k = omega arith

pub terms_small : (dd : ℕ) → 15 * dd ≤ 8 * 2 ^ 64 → eight_terms dd ≤ 2 ^ 55 + 2 ^ 53
terms_small dd h = lin dd _ (le_self dd _ (lt_le (sum_small dd (lin2 dd h)))) h
  where
    lt_le : {x : ℕ} → x < 2 ^ 64 → x ≤ 2 ^ 64
    lt_le h = omega arith

    lin2 : (d : ℕ) → 15 * d ≤ 8 * 2 ^ 64 → d ≤ 2 ^ 64
    lin2 d h = omega arith

    lin : (d p : ℕ) → p ≤ d → 15 * d ≤ 8 * 2 ^ 64 → p / 256 ≤ 2 ^ 55 + 2 ^ 53
    lin d p h k = omega arith

-- ---- the sum is at least its first term, n / d
first_term : (n d p q : ℕ) → 0 < d → Odds n d p q → n * q ≤ p * d
unfolding hom
first_term n d p q pos e =
    le_of_mul-le-mul_right (le_trans (le_of_eq (a n q common ((d * d) ^ 23))) (le_trans (mul-le-mul_right q (mul-le-mul_left n (le-add_right (common * (d * d) ^ 23) (n * n * hom (tops 1 23) (n * n) (d * d))))) (le_of_eq (sym (sum_is n d p q pos e) ∙ ap (λ (z : ℕ). p * (common * z)) (sym (odd_pow d 23)) ∙ b p common d ((d * d) ^ 23))))) (mul-pos {m = common} {n = (d * d) ^ 23} (lit< tt) (one-le-pow 23 (d * d) (mul-pos pos pos)))
  where
    a : (n q K P : ℕ) → n * q * (K * P) ≡ n * (K * P) * q
    a n q K P = simp ac

    b : (p K d P : ℕ) → p * (K * (d * P)) ≡ p * d * (K * P)
    b p K d P = simp ac

-- so that a significand above one has a logarithm of a unit and more
unit : (n d p q : ℕ) → 1 ≤ n → 0 < d → d ≤ 2 ^ 54 → Odds n d p q → mn * q ≤ 2 * 2 ^ 61 * md * p
unit n d p q h pos db e = le_of_mul-le-mul_right (le_trans (le_of_eq (a mn q d)) (le_trans (mul-le-mul_right q (le_trans (mul-le-mul_left mn db) (lit≤ tt))) (le_trans (mul-le-mul_left (2 * 2 ^ 61 * md) (le_trans (le_trans (le_of_eq (sym (one-mul q))) (mul-le-mul_right q h)) (first_term n d p q pos e))) (le_of_eq (sym (mul_assoc (2 * 2 ^ 61 * md) p d)))))) pos
  where
    a : (x y z : ℕ) → x * y * z ≡ x * z * y
    a x y z = simp ac

-- ---- from the table's number and the eight terms to their difference
fin_hi0 : (A m f r d : ℕ) → A + m * r * d ≤ m * (f + r + 1) * d → A ≤ m * (f + 1) * d
fin_hi0 A m f r d h = lin (m * r * d) (le_trans h (le_of_eq (x m f r 1 d)))
  where
    x : (m f r o d : ℕ) → m * (f + r + o) * d ≡ m * (f + o) * d + m * r * d
    x m f r o d = simp ring

    lin : {A B : ℕ} (r : ℕ) → A + r ≤ B + r → A ≤ B
    lin r h = omega arith

fin_lo0 : (A m f r d : ℕ) → 32 * (m * (f + r) * d) ≤ 32 * A + m * (32 * r + 33) * d + m * d → 32 * (m * f * d) ≤ 32 * A + 34 * (m * d)
fin_lo0 A m f r d h = lin A (m * r * d) (m * f * d) (m * d) (m * (f + r) * d) (m * (32 * r + 33) * d) (x m f r d) (y m r d 32 33) h
  where
    x : (m f r d : ℕ) → m * (f + r) * d ≡ m * f * d + m * r * d
    x m f r d = simp ring

    y : (m r d k l : ℕ) → m * (k * r + l) * d ≡ k * (m * r * d) + l * (m * d)
    y m r d k l = simp ring

    lin : (A r f d u v : ℕ) → u ≡ f + r → v ≡ 32 * r + 33 * d → 32 * u ≤ 32 * A + v + d → 32 * f ≤ 32 * A + 34 * d
    lin A r f d u v p q h = omega arith

fin_hi1 : (A E m f r d : ℕ) → m * r * d + E ≤ A + m * (f + r + 1) * d → E ≤ A + m * (f + 1) * d
fin_hi1 A E m f r d h = lin A E (m * r * d) (m * (f + 1) * d) (m * (f + r + 1) * d) (x m f r 1 d) h
  where
    x : (m f r o d : ℕ) → m * (f + r + o) * d ≡ m * (f + o) * d + m * r * d
    x m f r o d = simp ring

    lin : (A E r f u : ℕ) → u ≡ f + r → r + E ≤ A + u → E ≤ A + f
    lin A E r f u p h = omega arith

fin_lo1 : (A E m f r d : ℕ) → 32 * A + 32 * (m * (f + r) * d) ≤ m * (32 * r + 33) * d + 32 * E + m * d → 32 * A + 32 * (m * f * d) ≤ 32 * E + 34 * (m * d)
fin_lo1 A E m f r d h = lin A E (m * r * d) (m * f * d) (m * d) (m * (f + r) * d) (m * (32 * r + 33) * d) (x m f r d) (y m r d 32 33) h
  where
    x : (m f r d : ℕ) → m * (f + r) * d ≡ m * f * d + m * r * d
    x m f r d = simp ring

    y : (m r d k l : ℕ) → m * (k * r + l) * d ≡ k * (m * r * d) + l * (m * d)
    y m r d k l = simp ring

    lin : (A E r f d u v : ℕ) → u ≡ f + r → v ≡ 32 * r + 33 * d → 32 * A + 32 * u ≤ v + 32 * E + d → 32 * A + 32 * f ≤ 32 * E + 34 * d
    lin A E r f d u v p q h = omega arith

-- ---- all together
pick : (b x : Bool) → T (unless b x) → (T b → T false) → T x
pick true x h f = absurd (f tt)
pick false x h f = h

-- the bounds with the table's number l and the eight terms at g apart
abbrev Raw : ℕ → ℕ → ℕ → ℕ → Type 0
Raw p q g l =
    (2 * 2 ^ 61 * md * p + mn * eight_terms g * q ≤ mn * (l + 1) * q)
    × (32 * (mn * l * q) ≤ 32 * (2 * 2 ^ 61 * md * p) + mn * (32 * eight_terms g + 33) * q + mn * q)

abbrev Raw-two : ℕ → ℕ → ℕ → ℕ → Type 0
Raw-two p q g l =
    (mn * eight_terms g * q + mn * 2 ^ 61 * q ≤ 2 * 2 ^ 61 * md * p + mn * (l + 1) * q)
    × (32 * (2 * 2 ^ 61 * md * p) + 32 * (mn * l * q) ≤ mn * (32 * eight_terms g + 33) * q + 32 * (mn * 2 ^ 61 * q) + mn * q)

abbrev factor_at : ℕ → ℕ
factor_at j = 2 ^ 18 / (129 + j)

abbrev gap_at : ℕ → ℕ → ℕ
gap_at j m = (2 ^ 63 - factor_at j * m) * 128

-- the same of numbers that are equal
moved : (n n' d d' p q : ℕ) → n ≡ n' → d ≡ d' → Odds n' d' p q → Odds n d p q
moved n n' d d' p q e f h = subst (λ (n : ℕ). Odds n d p q) (sym e) (subst (λ (d : ℕ). Odds n' d p q) (sym f) h)

module _ (j t m : ℕ) (jb : j < 128) (tb : t < 2 ^ 45) (mb : m ≡ (128 + j) * 2 ^ 45 + t) where
  abbrev s : ℕ
  s = 2 ^ 45 - t

  st : 2 ^ 45 - t + t ≡ 2 ^ 45
  st = lin t tb
    where
      lin : (t : ℕ) → t < 2 ^ 45 → 2 ^ 45 - t + t ≡ 2 ^ 45
      lin t h = omega arith

  cb : factor_at j * (129 + j) ≤ 2 ^ 18
  cb = div-mul-le_self (2 ^ 18) (129 + j)

  pl : T (place j (get_or logs j 0))
  pl = at place logs all j jb

  sm : T (small j (get_or logs j 0))
  sm = at small logs smalls j jb

  h15 : 15 * gap_at j m ≤ 8 * 2 ^ 64
  h15 = G-small j s t m st jb mb (factor_at j) cb (leb→le (15 * (128 * (2 ^ 18 - factor_at j * (128 + j)))) (2 ^ 22) (and_l (leb (15 * (128 * (2 ^ 18 - factor_at j * (128 + j)))) (2 ^ 22)) (unless (eqb j 0) (leb (2 ^ 55 + 2 ^ 53) (get_or logs j 0))) sm))

  abbrev r0 : ℕ
  r0 = 128 * (2 ^ 18 - factor_at j * (128 + j))

  abbrev r1 : ℕ
  r1 = 128 * (2 ^ 18 - factor_at j * (129 + j))

  g_is : r0 * s + r1 * t ≡ gap_at j m
  g_is = G-is j s t m st jb mb (factor_at j) cb

  h15' : 15 * (r0 * s + r1 * t) ≤ 8 * 2 ^ 64
  h15' = subst (λ (z : ℕ). 15 * z ≤ 8 * 2 ^ 64) (sym g_is) h15

  raw : (p q : ℕ) → Odds (m - 2 ^ 52) (m + 2 ^ 52) p q → j ≤ 54 → Raw p q (gap_at j m) (get_or logs j 0)
  raw p q e h =
      let p0 : T (place0 j (factor_at j) (get_or logs j 0)) = pick (ltb 54 j) (place0 j (factor_at j) (get_or logs j 0)) (and_l (unless (ltb 54 j) (place0 j (factor_at j) (get_or logs j 0))) (unless (ltb j 42) (place1 j (factor_at j) (get_or logs j 0))) pl) (λ (x : T (ltb 54 j)). absurd (not-suc-le-zero {n = 0} (never j (ltb→lt 54 j x) h))) in
      let d0 = D0 j s t m st jb mb in
      let n0 = N0 j s t m st jb mb in
      subst (λ (z : ℕ). Raw p q z (get_or logs j 0)) g_is
      (at0 s t j (j + 1) (256 + j) (257 + j) r0 r1 (get_or logs j 0) st (subst (λ (z : ℕ). 0 < z) (sym d0) (pos m)) h15' p q (moved (j * s + (j + 1) * t) (m - 2 ^ 52) ((256 + j) * s + (257 + j) * t) (m + 2 ^ 52) p q n0 d0 e) p0)
    where
      never : (j : ℕ) → 54 < j → j ≤ 54 → 1 ≤ 0
      never j h k = omega arith

      pos : (m : ℕ) → 0 < m + 2 ^ 52
      pos m = omega arith

  raw_two : (p q : ℕ) → Odds (2 ^ 53 - m) (m + 2 ^ 53) p q → 42 ≤ j → Raw-two p q (gap_at j m) (get_or logs j 0)
  raw_two p q e h =
      let p1 : T (place1 j (factor_at j) (get_or logs j 0)) = pick (ltb j 42) (place1 j (factor_at j) (get_or logs j 0)) (and_r (unless (ltb 54 j) (place0 j (factor_at j) (get_or logs j 0))) (unless (ltb j 42) (place1 j (factor_at j) (get_or logs j 0))) pl) (λ (x : T (ltb j 42)). absurd (not-suc-le-zero {n = 0} (never j (ltb→lt j 42 x) h))) in
      let d1 = D1 j s t m st jb mb in
      let n1 = N1 j s t m st jb mb in
      subst (λ (z : ℕ). Raw-two p q z (get_or logs j 0)) g_is
      (at1 s t (128 - j) (127 - j) (384 + j) (385 + j) r0 r1 (get_or logs j 0) st (subst (λ (z : ℕ). 0 < z) (sym d1) (pos m)) h15' p q (moved ((128 - j) * s + (127 - j) * t) (2 ^ 53 - m) ((384 + j) * s + (385 + j) * t) (m + 2 ^ 53) p q n1 d1 e) p1)
    where
      never : (j : ℕ) → j < 42 → 42 ≤ j → 1 ≤ 0
      never j h k = omega arith

      pos : (m : ℕ) → 0 < m + 2 ^ 53
      pos m = omega arith

-- the difference does not fall below zero: at a significand above one by the sum, which is a fraction like any other
enough : (j t m : ℕ) → j < 128 → t < 2 ^ 45 → m ≡ (128 + j) * 2 ^ 45 + t → eight_terms (gap_at j m) ≤ get_or logs j 0
unfolding horner
enough zero zero m jb tb mb = subst (λ (z : ℕ). eight_terms (gap_at 0 z) ≤ get_or logs 0 0) (sym mb) (lit≤ tt)
enough zero (suc t) m jb tb mb =
    let n = m - 2 ^ 52 in
    let d = m + 2 ^ 52 in
    let p = n * hom (tops 0 24) (n * n) (d * d) * (d * d) in
    let q = common * d * (d * d) ^ 24 in
    let o : Odds n d p q = refl in
    let r = raw zero (suc t) m jb tb mb p q o (lit≤ tt) in
    less (eight_terms (gap_at 0 m)) (get_or logs 0 0) (le_of_mul-le-mul_right (le_trans (le_of_eq (x mn (eight_terms (gap_at 0 m)) q)) (le_trans (lin (mn * eight_terms (gap_at 0 m) * q) (unit n d p q (one t m mb) (pos m) (big t m tb mb) o) r.0) (le_of_eq (y mn (get_or logs 0 0 + 1) q)))) (mul-pos {m = mn} {n = q} (lit< tt) (mul-pos (mul-pos {m = common} (lit< tt) (pos m)) (one-le-pow 24 (d * d) (mul-pos (pos m) (pos m))))))
  where
    one : (t m : ℕ) → m ≡ 128 * 2 ^ 45 + suc t → 1 ≤ m - 2 ^ 52
    one t m h = omega arith

    pos : (m : ℕ) → 0 < m + 2 ^ 52
    pos m = omega arith

    big : (t m : ℕ) → suc t < 2 ^ 45 → m ≡ 128 * 2 ^ 45 + suc t → m + 2 ^ 52 ≤ 2 ^ 54
    big t m h k = omega arith

    y : (m r d : ℕ) → m * r * d ≡ r * (m * d)
    y m r d = simp ac

    x : (m r d : ℕ) → (r + 1) * (m * d) ≡ m * r * d + m * d
    x m r d = add-mul r 1 (m * d) ∙ ap (λ (z : ℕ). r * (m * d) + z) (one-mul (m * d)) ∙ ap (λ (z : ℕ). z + m * d) (sym (y m r d))

    lin : {a c d : ℕ} (b : ℕ) → d ≤ a → a + b ≤ c → b + d ≤ c
    lin b h k = omega arith

    less : (r l : ℕ) → r + 1 ≤ l + 1 → r ≤ l
    less r l h = omega arith
enough (suc j) t m jb tb mb = le_trans (terms_small (gap_at (suc j) m) (h15 (suc j) t m jb tb mb)) (leb→le (2 ^ 55 + 2 ^ 53) (get_or logs (suc j) 0) (pick (eqb (suc j) 0) (leb (2 ^ 55 + 2 ^ 53) (get_or logs (suc j) 0)) (and_r (leb (15 * (128 * (2 ^ 18 - factor_at (suc j) * (128 + suc j)))) (2 ^ 22)) (unless (eqb (suc j) 0) (leb (2 ^ 55 + 2 ^ 53) (get_or logs (suc j) 0))) (sm (suc j) t m jb tb mb)) (λ (x : T (eqb (suc j) 0)). absurd (not-suc-le-zero {n = 0} (never j (eqb→eq (suc j) 0 x))))))
  where
    never : (j : ℕ) → suc j ≡ 0 → 1 ≤ 0
    never j h = omega arith

-- ---- at every significand of 53 bits
cut : (l r : ℕ) → r ≤ l → l ≡ l - r + r
cut l r h = omega arith

bin_j : (m : ℕ) → 2 ^ 52 ≤ m → m < 2 ^ 53 → m / 2 ^ 45 - 128 < 128
bin_j m h k = omega arith

bin_t : (m : ℕ) → m % 2 ^ 45 < 2 ^ 45
bin_t m = omega arith

bin_m : (m : ℕ) → 2 ^ 52 ≤ m → m ≡ (128 + (m / 2 ^ 45 - 128)) * 2 ^ 45 + m % 2 ^ 45
bin_m m h = omega arith

module _ (m : ℕ) (lo : 2 ^ 52 ≤ m) (hi : m < 2 ^ 53) where
  abbrev j : ℕ
  j = place_of m

  factor_is : get_or log_factors j 0 ≡ factor_at j
  factor_is = eqb→eq (get_or log_factors j 0) (factor_at j) (at rule log_factors rules j (bin_j m lo hi))

  -- the code's differences and products
  pub product_fits : get_or log_factors j 0 * m ≤ 2 ^ 63
  product_fits = le_trans (le_of_eq (ap (λ (z : ℕ). z * m) factor_is)) (le_trans (mul-le-mul_left (factor_at j) (lin m lo)) (le_trans (le_of_eq (sym (mul_assoc (factor_at j) (129 + j) (2 ^ 45)))) (mul-le-mul_right (2 ^ 45) (div-mul-le_self (2 ^ 18) (129 + j)))))
    where
      lin : (m : ℕ) → 2 ^ 52 ≤ m → m ≤ (129 + (m / 2 ^ 45 - 128)) * 2 ^ 45
      lin m h = omega arith

  pub gap_fits : gap_of m < 2 ^ 64
  gap_fits = lin (2 ^ 63 - get_or log_factors j 0 * m) (subst (λ (c : ℕ). 15 * ((2 ^ 63 - c * m) * 128) ≤ 8 * 2 ^ 64) (sym factor_is) (h15 j (m % 2 ^ 45) m (bin_j m lo hi) (bin_t m) (bin_m m lo)))
    where
      lin : (x : ℕ) → 15 * (x * 128) ≤ 8 * 2 ^ 64 → x * 128 < 2 ^ 64
      lin x h = omega arith

  pub table_fits : eight_terms (gap_of m) ≤ get_or logs j 0
  table_fits = subst (λ (c : ℕ). eight_terms ((2 ^ 63 - c * m) * 128) ≤ get_or logs j 0) (sym factor_is) (enough j (m % 2 ^ 45) m (bin_j m lo hi) (bin_t m) (bin_m m lo))

  pub log_small : significand_log m ≤ 2 ^ 61
  log_small = lin (eight_terms (gap_of m)) (leb→le (get_or logs j 0) (2 ^ 61) (at lowest logs units j (bin_j m lo hi)))
    where
      lin : {l : ℕ} (r : ℕ) → l ≤ 2 ^ 61 → l - r ≤ 2 ^ 61
      lin r h = omega arith

  gap_is : gap_at j m ≡ gap_of m
  gap_is = ap (λ (c : ℕ). (2 ^ 63 - c * m) * 128) (sym factor_is)

  -- the laws
  pub near : (p q : ℕ) → place_of m ≤ 54 → Odds (m - 2 ^ 52) (m + 2 ^ 52) p q → Near (significand_log m) p q
  near p q h o =
      let r = subst (λ (z : ℕ). Raw p q (gap_of m) z) (cut (get_or logs j 0) (eight_terms (gap_of m)) table_fits) (subst (λ (g : ℕ). Raw p q g (get_or logs j 0)) gap_is (raw j (m % 2 ^ 45) m (bin_j m lo hi) (bin_t m) (bin_m m lo) p q o h)) in
      (fin_hi0 (2 * 2 ^ 61 * md * p) mn (significand_log m) (eight_terms (gap_of m)) q r.0, fin_lo0 (2 * 2 ^ 61 * md * p) mn (significand_log m) (eight_terms (gap_of m)) q r.1)

  pub near_two : (p q : ℕ) → 42 ≤ place_of m → Odds (2 ^ 53 - m) (m + 2 ^ 53) p q → Near-two (significand_log m) p q
  near_two p q h o =
      let r = subst (λ (z : ℕ). Raw-two p q (gap_of m) z) (cut (get_or logs j 0) (eight_terms (gap_of m)) table_fits) (subst (λ (g : ℕ). Raw-two p q g (get_or logs j 0)) gap_is (raw_two j (m % 2 ^ 45) m (bin_j m lo hi) (bin_t m) (bin_m m lo) p q o h)) in
      (fin_hi1 (2 * 2 ^ 61 * md * p) (mn * 2 ^ 61 * q) mn (significand_log m) (eight_terms (gap_of m)) q r.0, fin_lo1 (2 * 2 ^ 61 * md * p) (mn * 2 ^ 61 * q) mn (significand_log m) (eight_terms (gap_of m)) q r.1)

  -- on which side of a half
  pub upper_half : 2 ^ 60 + 2 ≤ significand_log m → 46 ≤ j
  upper_half h = go (dec_le 46 j)
    where
      never : (l r : ℕ) → 2 ^ 60 + 2 ≤ l - r → l ≤ 2 ^ 60 + 1 → 1 ≤ 0
      never l r h k = omega arith

      go : Dec (46 ≤ j) → 46 ≤ j
      go (yes k) = k
      go (no k) = absurd (not-suc-le-zero {n = 0} (never (get_or logs j 0) (eight_terms (gap_of m)) h (leb→le (get_or logs j 0) (2 ^ 60 + 1) (pick (ltb 45 j) (leb (get_or logs j 0) (2 ^ 60 + 1)) (and_r (unless (ltb j 55) (leb (2 ^ 60 + 2 ^ 55 + 2 ^ 53 + 2) (get_or logs j 0))) (unless (ltb 45 j) (leb (get_or logs j 0) (2 ^ 60 + 1))) (at sided logs sides j (bin_j m lo hi))) (λ (t : T (ltb 45 j)). absurd (k (ltb→lt 45 j t)))))))

  pub lower_half : significand_log m ≤ 2 ^ 60 + 1 → j ≤ 54
  lower_half h = go (dec_le j 54)
    where
      less : (j : ℕ) → (j ≤ 54 → ⊥) → j < 55 → ⊥
      less j n h = n (omega arith)

      never : (l r : ℕ) → l - r ≤ 2 ^ 60 + 1 → r ≤ 2 ^ 55 + 2 ^ 53 → 2 ^ 60 + 2 ^ 55 + 2 ^ 53 + 2 ≤ l → 1 ≤ 0
      never l r h k n = omega arith

      go : Dec (j ≤ 54) → j ≤ 54
      go (yes k) = k
      go (no k) = absurd (not-suc-le-zero {n = 0} (never (get_or logs j 0) (eight_terms (gap_of m)) h (subst (λ (c : ℕ). eight_terms ((2 ^ 63 - c * m) * 128) ≤ 2 ^ 55 + 2 ^ 53) (sym factor_is) (terms_small (gap_at j m) (h15 j (m % 2 ^ 45) m (bin_j m lo hi) (bin_t m) (bin_m m lo)))) (leb→le (2 ^ 60 + 2 ^ 55 + 2 ^ 53 + 2) (get_or logs j 0) (pick (ltb j 55) (leb (2 ^ 60 + 2 ^ 55 + 2 ^ 53 + 2) (get_or logs j 0)) (and_l (unless (ltb j 55) (leb (2 ^ 60 + 2 ^ 55 + 2 ^ 53 + 2) (get_or logs j 0))) (unless (ltb 45 j) (leb (get_or logs j 0) (2 ^ 60 + 1))) (at sided logs sides j (bin_j m lo hi))) (λ (t : T (ltb j 55)). absurd (less j k (ltb→lt j 55 t)))))))
