-- Document 01's sum of 24 terms and its tail: at any fraction that is n / d or its negative, as the polynomial over one denominator. Assumes nothing.
use mathlib.Core.Path.{◌≡◌, refl, sym, ap, ap₂, ◌∙◌, subst}
use mathlib.Core.Bool.{Bool, true, false, ◌&&◌}
use mathlib.Core.List.{List, [], ◌∷◌, ◌++◌}
use Prim.Native.Nat.{ℕ, zero, suc, ◌+◌, ◌-◌, ◌*◌, ◌/◌, ◌^◌, ◌≤◌, ◌<◌}
use native.Mathlib.Nat.{le_trans, le_of_eq, mul_comm, mul-zero, zero-mul, add-zero, zero-add, one-mul, mul-one, mul-pos, mul-le-mul, mul-le-mul_left, mul-le-mul_right, one-le-pow, pow-suc, pow-zero, zero-lt-suc}
use native.Mathlib.Omega.{arith}
use lib.Dec.{T, eqb, eqb→eq, lit<, lit≤}
use lib.ListN.{length}
use lib.Ieee.Fits.{and_l, and_r}
use Rattle.number.specs.Frac.{Frac, frac, Pos, le_f, lt_f, zero_f, neg_f, add_f, sub_f, mul_f, inv_f, sgn}
use Rattle.series.specs.Sums.{nat_f, over_f, abs_f, eq_f, pow_f, sum_f}
use Rattle.series.specs.Exact.{odd_term, twice_odds, odd_tail}
use Rattle.fixed_point.proofs.Polynomial.{hom}
use Rattle.fixed_point.proofs.Horner.{ring, ac}
use Rattle.logarithm.proofs.CoreBounds.{common, tops}
use Rattle.number.proofs.Frac as F
use Rattle.number.proofs.Frac.{le_trans_f, add_f_pos, mul_f_pos, neg_f_pos, neg_right}
use Rattle.series.proofs.Fractions.{over_pos}
use Rattle.number.proofs.Hull.{inv_above, inv_f_pos_above}
use Rattle.logarithm.proofs.Fractions.{eq_refl_f, eq_sym_f, eq_trans_f, add_cong, neg_cong, mul_cong, over_cong, inv_cong, pow_pos, pow_cong, sum_cong, above_cong, abs_is, abs_pos, mul_plain, add_plain, pow_plain, mul_neg_neg, add_neg}

-- ---- one more term, at the end
hom_last : (ps : List ℕ) (a n d : ℕ) → hom (ps ++ (a ∷ [])) n d ≡ hom ps n d * d + a * n ^ length ps
unfolding hom
hom_last [] a n d = ap₂ (λ (x y : ℕ). a * x + y) (pow-zero d) (mul-zero n) ∙ add-zero (a * 1) ∙ ap (λ (x : ℕ). a * x) (sym (pow-zero n)) ∙ sym (zero-add (a * n ^ 0)) ∙ ap (λ (x : ℕ). x + a * n ^ 0) (sym (zero-mul d))
hom_last (p ∷ ps) a n d =
    ap₂ (λ (l x : ℕ). p * d ^ l + n * x) (length_last ps a) (hom_last ps a n d)
    ∙ ap (λ (x : ℕ). p * x + n * (hom ps n d * d + a * n ^ length ps)) (pow-suc d (length ps))
    ∙ go p a n d (d ^ length ps) (n ^ length ps) (hom ps n d)
    ∙ ap (λ (x : ℕ). (p * d ^ length ps + n * hom ps n d) * d + a * x) (sym (pow-suc n (length ps)))
  where
    length_last : (ps : List ℕ) (a : ℕ) → length (ps ++ (a ∷ [])) ≡ suc (length ps)
    length_last [] a = refl
    length_last (p ∷ ps) a = ap suc (length_last ps a)

    go : (p a n d D N H : ℕ) → p * (D * d) + n * (H * d + a * N) ≡ (p * D + n * H) * d + a * (N * n)
    go p a n d D N H = simp ring

tops_length : (i k : ℕ) → length (tops i k) ≡ k
tops_length i zero = refl
tops_length i (suc k) = ap suc (tops_length (i + 1) k)

tops_last : (i k : ℕ) → tops i (suc k) ≡ tops i k ++ (common / (2 * (i + k) + 1) ∷ [])
tops_last i zero = ap (λ (x : ℕ). common / (2 * x + 1) ∷ []) (sym (add-zero i))
tops_last i (suc k) = ap (λ (l : List ℕ). common / (2 * i + 1) ∷ l) (tops_last (i + 1) k ∙ ap (λ (x : ℕ). tops (i + 1) k ++ (common / (2 * x + 1) ∷ [])) (lin i k))
  where
    lin : (i k : ℕ) → i + 1 + k ≡ i + suc k
    lin i k = omega arith

-- 1, 3, .., 2 k - 1 divide the common denominator
abbrev dividedb : ℕ → Bool
dividedb zero = true
dividedb (suc k) = eqb (common / (2 * k + 1) * (2 * k + 1)) common && dividedb k

odd_power : (n k : ℕ) → n ^ (2 * k + 1) ≡ n * (n * n) ^ k
odd_power n zero = pow-suc n 0 ∙ ap (λ (x : ℕ). x * n) (pow-zero n) ∙ one-mul n ∙ sym (mul-one n) ∙ ap (λ (x : ℕ). n * x) (sym (pow-zero (n * n)))
odd_power n (suc k) =
    ap (λ (x : ℕ). n ^ x) (lin k) ∙ pow-suc n (suc (2 * k + 1)) ∙ ap (λ (x : ℕ). x * n) (pow-suc n (2 * k + 1) ∙ ap (λ (x : ℕ). x * n) (odd_power n k))
    ∙ go n ((n * n) ^ k) ∙ ap (λ (x : ℕ). n * x) (sym (pow-suc (n * n) k))
  where
    lin : (k : ℕ) → 2 * suc k + 1 ≡ suc (suc (2 * k + 1))
    lin k = omega arith

    go : (n x : ℕ) → n * x * n * n ≡ n * (x * (n * n))
    go n x = simp ac

-- the sum of k terms at n / d is p / q
pub record Sum (k n d : ℕ) : Type 0 where
  pub p : ℕ
  pub q : ℕ
  pub is : sum_f k (odd_term (frac n 0 d)) ≡ frac p 0 q
  pub positive : 0 < q
  pub closed : p * (common * d * (d * d) ^ k) ≡ n * hom (tops 0 k) (n * n) (d * d) * (d * d) * q

-- one step on plain numbers: o = 2 k + 1, N = (n n) ^ k, D = (d d) ^ k
step : (p q n d o a K N D H : ℕ) → a * o ≡ K → p * (K * d * D) ≡ n * H * (d * d) * q
    → (p * (d * D * o) + n * N * q) * (K * d * (D * (d * d))) ≡ n * (H * (d * d) + a * N) * (d * d) * (q * (d * D * o))
step p q n d o a K N D H e ih = s1 p q n d o K N D ∙ ap (λ (x : ℕ). x * (d * D * o * (d * d)) + n * N * q * (K * d * (D * (d * d)))) ih ∙ ap (λ (x : ℕ). n * H * (d * d) * q * (d * D * o * (d * d)) + n * N * q * (x * d * (D * (d * d)))) (sym e) ∙ s2 q n d o a N D H
  where
    s1 : (p q n d o K N D : ℕ) → (p * (d * D * o) + n * N * q) * (K * d * (D * (d * d))) ≡ p * (K * d * D) * (d * D * o * (d * d)) + n * N * q * (K * d * (D * (d * d)))
    s1 p q n d o K N D = simp ring

    s2 : (q n d o a N D H : ℕ) → n * H * (d * d) * q * (d * D * o * (d * d)) + n * N * q * (a * o * d * (D * (d * d))) ≡ n * (H * (d * d) + a * N) * (d * d) * (q * (d * D * o))
    s2 q n d o a N D H = simp ring

term_is : (n d k : ℕ) → odd_term (frac n 0 d) k ≡ frac (n * (n * n) ^ k) 0 (d * (d * d) ^ k * (2 * k + 1))
term_is n d k = ap (λ (x : Frac). over_f x (2 * k + 1)) (pow_plain n d (2 * k + 1)) ∙ ap₂ (λ (x y : ℕ). frac x 0 (y * (2 * k + 1))) (odd_power n k) (odd_power d k)

pub sum_is : (k n d : ℕ) → 0 < d → T (dividedb k) → Sum k n d
unfolding sum_f hom
sum_is zero n d h t = record { p = 0; q = 1; is = refl; positive = zero-lt-suc 0; closed = zero-mul (common * d * (d * d) ^ 0) ∙ sym (nil n (d * d)) }
  where
    nil : (n D : ℕ) → n * 0 * D * 1 ≡ 0
    nil n D = rw (mul-zero, zero-mul, zero-mul)
sum_is (suc k) n d h t =
    let s = sum_is k n d h (and_r (eqb (common / (2 * k + 1) * (2 * k + 1)) common) (dividedb k) t) in
    record {
      p = s.p * (d * (d * d) ^ k * (2 * k + 1)) + n * (n * n) ^ k * s.q;
      q = s.q * (d * (d * d) ^ k * (2 * k + 1));
      is = ap₂ add_f s.is (term_is n d k) ∙ add_plain s.p s.q (n * (n * n) ^ k) (d * (d * d) ^ k * (2 * k + 1));
      positive = mul-pos s.positive (mul-pos (mul-pos h (one-le-pow k (d * d) (mul-pos h h))) (one k));
      closed =
          ap (λ (x : ℕ). (s.p * (d * (d * d) ^ k * (2 * k + 1)) + n * (n * n) ^ k * s.q) * (common * d * x)) (pow-suc (d * d) k)
          ∙ step s.p s.q n d (2 * k + 1) (common / (2 * k + 1)) common ((n * n) ^ k) ((d * d) ^ k) (hom (tops 0 k) (n * n) (d * d)) (eqb→eq (common / (2 * k + 1) * (2 * k + 1)) common (and_l (eqb (common / (2 * k + 1) * (2 * k + 1)) common) (dividedb k) t)) s.closed
          ∙ ap (λ (x : ℕ). n * x * (d * d) * (s.q * (d * (d * d) ^ k * (2 * k + 1)))) (sym (hom_more k (n * n) (d * d)));
    }
  where
    one : (k : ℕ) → 0 < 2 * k + 1
    one k = omega arith

    hom_more : (k n d : ℕ) → hom (tops 0 (suc k)) n d ≡ hom (tops 0 k) n d * d + common / (2 * k + 1) * n ^ k
    hom_more k n d =
        ap (λ (l : List ℕ). hom l n d) (tops_last 0 k ∙ ap (λ (x : ℕ). tops 0 k ++ (common / (2 * x + 1) ∷ [])) (zero-add k))
        ∙ hom_last (tops 0 k) (common / (2 * k + 1)) n d
        ∙ ap (λ (x : ℕ). hom (tops 0 k) n d * d + common / (2 * k + 1) * n ^ x) (tops_length 0 k)

-- ---- the negative
neg_over : (x : Frac) (k : ℕ) → over_f (neg_f x) k ≡ neg_f (over_f x k)
neg_over (frac p n d) k = refl

neg_odd : (x : Frac) (k : ℕ) → pow_f (neg_f x) (2 * k + 1) ≡ neg_f (pow_f x (2 * k + 1))
unfolding pow_f
neg_odd x zero = neg_right (nat_f 1) x
neg_odd x (suc k) = ap (pow_f (neg_f x)) (lin k) ∙ ap (λ (y : Frac). mul_f (mul_f y (neg_f x)) (neg_f x)) (neg_odd x k) ∙ ap (λ (y : Frac). mul_f y (neg_f x)) (mul_neg_neg (pow_f x (2 * k + 1)) x) ∙ neg_right (mul_f (pow_f x (2 * k + 1)) x) x ∙ ap (λ (j : ℕ). neg_f (pow_f x j)) (sym (lin k))
  where
    lin : (k : ℕ) → 2 * suc k + 1 ≡ suc (suc (2 * k + 1))
    lin k = omega arith

neg_sum : (x : Frac) (k : ℕ) → sum_f k (odd_term (neg_f x)) ≡ neg_f (sum_f k (odd_term x))
unfolding sum_f
neg_sum x zero = refl
neg_sum x (suc k) = ap₂ add_f (neg_sum x k) (ap (λ (y : Frac). over_f y (2 * k + 1)) (neg_odd x k) ∙ neg_over (pow_f x (2 * k + 1)) (2 * k + 1)) ∙ add_neg (sum_f k (odd_term x)) (odd_term x k)

module _ (n d : ℕ) (positive : 0 < d) where
  pub whole : Sum 24 n d
  whole = sum_is 24 n d positive tt

  pub twice_is : (s : Bool) → twice_odds 24 (sgn s n d) ≡ sgn s (2 * whole.p) (1 * whole.q)
  unfolding twice_odds
  twice_is false = ap (mul_f (nat_f 2)) whole.is ∙ mul_plain 2 1 whole.p whole.q
  twice_is true = ap (mul_f (nat_f 2)) (neg_sum (frac n 0 d) 24 ∙ ap neg_f whole.is) ∙ neg_right (nat_f 2) (frac whole.p 0 whole.q) ∙ ap neg_f (mul_plain 2 1 whole.p whole.q)

-- ---- the tail 2 |z| ^ 49 / (49 (1 - z z)), for |z| = n / d at most 1/5: less than 2 ^ -100 of n / d
fifths : (n d k : ℕ) → 5 * n ≤ d → 5 ^ k * n ^ k ≤ d ^ k
fifths n d zero h = le_of_eq (ap₂ ◌*◌ (pow-zero 5) (pow-zero n) ∙ sym (pow-zero d))
fifths n d (suc k) h = le_trans (le_of_eq (ap₂ ◌*◌ (pow-suc 5 k) (pow-suc n k) ∙ go (5 ^ k) 5 (n ^ k) n)) (le_trans (mul-le-mul (fifths n d k h) h) (le_of_eq (sym (pow-suc d k))))
  where
    go : (a b c e : ℕ) → a * b * (c * e) ≡ a * c * (b * e)
    go a b c e = simp ac

-- t stands for 2 ^ 100 and f for 5 ^ 48; g is d d - n n
tail_numbers : (n d N D t f g : ℕ) → f * N ≤ D → 2 * t ≤ f → d * d ≤ 49 * g → 2 * (n * N) * (d * d) * (d * t) ≤ n * (d * D * (49 * g))
tail_numbers n d N D t f g h k l =
    le_trans (le_of_eq (a n N d t)) (le_trans (mul-le-mul (le_trans (mul-le-mul_right N k) h) (mul-le-mul_left (n * d) l)) (le_of_eq (b n d D (49 * g))))
  where
    a : (n N d t : ℕ) → 2 * (n * N) * (d * d) * (d * t) ≡ 2 * t * N * (n * d * (d * d))
    a n N d t = simp ac

    b : (n d D g : ℕ) → D * (n * d * g) ≡ n * (d * D * g)
    b n d D g = simp ac

rest_is : (x y : ℕ) → eq_f (mul_f (nat_f 49) (sub_f (nat_f 1) (frac x 0 y))) (frac (49 * y) (49 * x) y)
rest_is x y = (simp F.ring (omega arith), simp F.ring (omega arith))

square_is : (s : Bool) (n d : ℕ) → mul_f (sgn s n d) (sgn s n d) ≡ frac (n * n) 0 (d * d)
square_is false n d = mul_plain n d n d
square_is true n d = mul_neg_neg (frac n 0 d) (frac n 0 d) ∙ mul_plain n d n d

module _ (s : Bool) (x : Frac) (n d : ℕ) (px : Pos x) (positive : 0 < d) (five : 5 * n ≤ d) (same : eq_f x (sgn s n d)) where
  abbrev rest : Frac
  rest = mul_f (nat_f 49) (sub_f (nat_f 1) (mul_f x x))

  rest_same : eq_f rest (frac (49 * (d * d)) (49 * (n * n)) (d * d))
  rest_same =
      eq_trans_f rest (mul_f (nat_f 49) (sub_f (nat_f 1) (frac (n * n) 0 (d * d)))) (frac (49 * (d * d)) (49 * (n * n)) (d * d)) (mul-pos {m = 1} (lit< tt) (mul-pos {m = 1} (lit< tt) (mul-pos positive positive)))
      (mul_cong (nat_f 49) (nat_f 49) (sub_f (nat_f 1) (mul_f x x)) (sub_f (nat_f 1) (frac (n * n) 0 (d * d))) (eq_refl_f (nat_f 49))
      (add_cong (nat_f 1) (nat_f 1) (neg_f (mul_f x x)) (neg_f (frac (n * n) 0 (d * d))) (eq_refl_f (nat_f 1))
      (neg_cong (mul_f x x) (frac (n * n) 0 (d * d)) (subst (eq_f (mul_f x x)) (square_is s n d) (mul_cong x (sgn s n d) x (sgn s n d) same same)))))
      (rest_is (n * n) (d * d))

  squares : 25 * (n * n) ≤ d * d
  squares = le_trans (le_of_eq (go 5 n)) (mul-le-mul five five)
    where
      go : (k n : ℕ) → k * k * (n * n) ≡ k * n * (k * n)
      go k n = simp ac

  below : 49 * (n * n) < 49 * (d * d)
  below = go (n * n) (d * d) squares (mul-pos positive positive)
    where
      go : (a b : ℕ) → 25 * a ≤ b → 0 < b → 49 * a < 49 * b
      go a b h k = omega arith

  rest_above : lt_f zero_f (frac (49 * (d * d)) (49 * (n * n)) (d * d))
  rest_above = go (49 * (d * d)) (49 * (n * n)) (d * d) below
    where
      go : (a b c : ℕ) → b < a → 0 * c + b * 1 < a * 1 + 0 * c
      go a b c h = omega arith

  rest_pos : Pos rest
  rest_pos = mul_f_pos (nat_f 49) (sub_f (nat_f 1) (mul_f x x)) (lit< tt) (add_f_pos (nat_f 1) (neg_f (mul_f x x)) (lit< tt) (neg_f_pos (mul_f x x) (mul_f_pos x x px px)))

  rest_above' : lt_f zero_f rest
  rest_above' = above_cong (frac (49 * (d * d)) (49 * (n * n)) (d * d)) rest (mul-pos positive positive) rest_pos (eq_sym_f rest (frac (49 * (d * d)) (49 * (n * n)) (d * d)) rest_same) rest_above

  pub tail_pos : Pos (odd_tail 24 x)
  unfolding odd_tail
  tail_pos = mul_f_pos (mul_f (nat_f 2) (pow_f (abs_f x) 49)) (inv_f rest) (mul_f_pos (nat_f 2) (pow_f (abs_f x) 49) (lit< tt) (pow_pos (abs_f x) 49 (abs_pos x px))) (inv_f_pos_above rest rest_above')

  abbrev g : ℕ
  g = d * d - n * n

  power : eq_f (mul_f (nat_f 2) (pow_f (abs_f x) 49)) (frac (2 * n ^ 49) 0 (1 * d ^ 49))
  power =
      subst (λ (y : Frac). eq_f (mul_f (nat_f 2) (pow_f (abs_f x) 49)) y) (ap (mul_f (nat_f 2)) (pow_plain n d 49) ∙ mul_plain 2 1 (n ^ 49) (d ^ 49))
      (mul_cong (nat_f 2) (nat_f 2) (pow_f (abs_f x) 49) (pow_f (frac n 0 d) 49) (eq_refl_f (nat_f 2)) (pow_cong (abs_f x) (frac n 0 d) 49 (abs_is s x n d positive same)))

  inverse : eq_f (inv_f rest) (frac (d * d) 0 (49 * (d * d) - 49 * (n * n)))
  inverse =
      subst (eq_f (inv_f rest)) (inv_above (49 * (d * d)) (49 * (n * n)) (d * d) below)
      (inv_cong rest (frac (49 * (d * d)) (49 * (n * n)) (d * d)) rest_above' rest_above rest_same)

  pub tail_above : le_f zero_f (odd_tail 24 x)
  unfolding odd_tail
  tail_above =
      le_trans_f zero_f (frac (2 * n ^ 49 * (d * d)) 0 (1 * d ^ 49 * (49 * (d * d) - 49 * (n * n)))) (odd_tail 24 x)
      (mul-pos (mul-pos {m = 1} (lit< tt) (one-le-pow 49 d positive)) (gap (49 * (d * d)) (49 * (n * n)) below))
      (none (2 * n ^ 49 * (d * d)) (1 * d ^ 49 * (49 * (d * d) - 49 * (n * n))))
      (subst (λ (y : Frac). le_f y (odd_tail 24 x)) (mul_plain (2 * n ^ 49) (1 * d ^ 49) (d * d) (49 * (d * d) - 49 * (n * n)))
      (mul_cong (mul_f (nat_f 2) (pow_f (abs_f x) 49)) (frac (2 * n ^ 49) 0 (1 * d ^ 49)) (inv_f rest) (frac (d * d) 0 (49 * (d * d) - 49 * (n * n))) power inverse).1)
    where
      gap : (a b : ℕ) → b < a → 0 < a - b
      gap a b h = omega arith

      none : (a b : ℕ) → 0 * b + 0 * 1 ≤ a * 1 + 0 * b
      none a b = omega arith

  pub tail_small : le_f (odd_tail 24 x) (frac n 0 (d * 2 ^ 100))
  unfolding odd_tail
  tail_small =
      le_trans_f (odd_tail 24 x) (frac (2 * n ^ 49 * (d * d)) 0 (1 * d ^ 49 * (49 * (d * d) - 49 * (n * n)))) (frac n 0 (d * 2 ^ 100))
      (mul-pos (mul-pos {m = 1} (lit< tt) (one-le-pow 49 d positive)) (gap (49 * (d * d)) (49 * (n * n)) below))
      (subst (le_f (odd_tail 24 x)) (mul_plain (2 * n ^ 49) (1 * d ^ 49) (d * d) (49 * (d * d) - 49 * (n * n)))
      (mul_cong (mul_f (nat_f 2) (pow_f (abs_f x) 49)) (frac (2 * n ^ 49) 0 (1 * d ^ 49)) (inv_f rest) (frac (d * d) 0 (49 * (d * d) - 49 * (n * n))) power inverse).0)
      (last (2 * n ^ 49 * (d * d)) (d * 2 ^ 100) n (1 * d ^ 49 * (49 * (d * d) - 49 * (n * n)))
      (le_trans (le_of_eq (ap (λ (z : ℕ). 2 * z * (d * d) * (d * 2 ^ 100)) (pow-suc n 48 ∙ mul_comm (n ^ 48) n)))
      (le_trans (tail_numbers n d (n ^ 48) (d ^ 48) (2 ^ 100) (5 ^ 48) g (fifths n d 48 five) (lit≤ tt) (share (n * n) (d * d) squares))
      (le_of_eq (ap₂ (λ (y z : ℕ). n * (y * z)) (mul_comm d (d ^ 48) ∙ sym (pow-suc d 48) ∙ sym (one-mul (d ^ 49))) (times (n * n) (d * d)))))))
    where
      gap : (a b : ℕ) → b < a → 0 < a - b
      gap a b h = omega arith

      share : (a b : ℕ) → 25 * a ≤ b → b ≤ 49 * (b - a)
      share a b h = omega arith

      times : (a b : ℕ) → 49 * (b - a) ≡ 49 * b - 49 * a
      times a b = omega arith

      last : (a b c e : ℕ) → a * b ≤ c * e → a * b + 0 * e ≤ c * e + 0 * b
      last a b c e h = omega arith

-- ---- denominators stay positive
pub sum_pos : (k : ℕ) (f : ℕ → Frac) → ((i : ℕ) → Pos (f i)) → Pos (sum_f k f)
unfolding sum_f
sum_pos zero f h = lit< tt
sum_pos (suc k) f h = add_f_pos (sum_f k f) (f k) (sum_pos k f h) (h k)

pub twice_pos : (x : Frac) → Pos x → Pos (twice_odds 24 x)
unfolding twice_odds
twice_pos x h = mul_f_pos (nat_f 2) (sum_f 24 (odd_term x)) (lit< tt) (sum_pos 24 (odd_term x) (λ (i : ℕ). over_pos (pow_f x (2 * i + 1)) (2 * i + 1) (pow_pos x (2 * i + 1) h) (one i)))
  where
    one : (i : ℕ) → 0 < 2 * i + 1
    one i = omega arith

pub twice_cong : (x y : Frac) → eq_f x y → eq_f (twice_odds 24 x) (twice_odds 24 y)
unfolding twice_odds
twice_cong x y e = mul_cong (nat_f 2) (nat_f 2) (sum_f 24 (odd_term x)) (sum_f 24 (odd_term y)) (eq_refl_f (nat_f 2)) (sum_cong 24 (odd_term x) (odd_term y) (λ (i : ℕ). over_cong (pow_f x (2 * i + 1)) (pow_f y (2 * i + 1)) (2 * i + 1) (pow_cong x y (2 * i + 1) e)))
