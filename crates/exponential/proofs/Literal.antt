-- Document 01's sum of thirty terms of exp, as it is written, is that of `Terms` over 29! d ^ 29. Assumes nothing.
use mathlib.Core.Path.{◌≡◌, refl, sym, ap, ◌∙◌, subst}
use mathlib.Core.Bool.{Bool, true, false, not, ◌&&◌}
use Prim.Native.Nat.{ℕ, zero, suc, ◌+◌, ◌*◌, ◌/◌, ◌^◌, ◌<◌}
use native.Mathlib.Nat.{mul_assoc, mul_comm, mul-zero, zero-mul, add-zero, zero-add, mul-pos, zero-lt-suc, pow-suc, pow-zero, mul-one, one-mul}
use native.Mathlib.Omega.{arith}
use lib.Dec.{T, eqb, eqb→eq, lit<, lit≤}
use lib.Ieee.Fits.{and_l, and_r}
use Rattle.number.specs.Frac.{Frac, frac, le_f, add_f, mul_f, zero_f, sgn}
use Rattle.number.proofs.Frac.{ring, le_trans_f, le_refl_f, add_mono_f}
use Rattle.series.specs.Sums.{over_f, eq_f, pow_f, sum_f, factorial}
use Rattle.series.specs.Exact.{exp_term, exp_sum}
use Rattle.exponential.proofs.Terms.{K, up, turn, sum, all_terms, both_terms}

-- each k! up to 29! divides 29!
abbrev dividesb : ℕ → ℕ → Bool
dividesb i zero = true
dividesb i (suc k) = eqb (K / factorial i * factorial i) K && dividesb (suc i) k

divides : T (dividesb 1 29)
unfolding factorial
divides = tt

-- one more term: a - b over c f q is the sum so far, u - v over q d the next power, f its factorial
more : (a b c f q d u v : ℕ)
    → eq_f (add_f (frac a b (c * f * q)) (frac u v (q * d * f))) (frac (c * u + d * a) (c * v + d * b) (c * f * (q * d)))
more a b c f q d u v = (simp ring (omega arith), simp ring (omega arith))

module _ (x : Frac) (a b q d u v j : ℕ) (Q : 0 < q) (D : 0 < d) (F : 0 < factorial (suc j))
    (whole : K / factorial (suc j) * factorial (suc j) ≡ K) (power : pow_f x (suc j) ≡ frac u v (q * d)) (so_far : eq_f (sum_f (suc j) (exp_term x)) (frac a b (K * q))) where
  more_K : eq_f (add_f (frac a b (K * q)) (frac u v (q * d * factorial (suc j)))) (frac (K / factorial (suc j) * u + d * a) (K / factorial (suc j) * v + d * b) (K * (q * d)))
  more_K = subst (λ (k : ℕ). eq_f (add_f (frac a b (k * q)) (frac u v (q * d * factorial (suc j)))) (frac (K / factorial (suc j) * u + d * a) (K / factorial (suc j) * v + d * b) (k * (q * d)))) whole (more a b (K / factorial (suc j)) (factorial (suc j)) q d u v)

  middle_pos : 0 < K * q * (q * d * factorial (suc j))
  middle_pos = mul-pos (mul-pos (lit< tt) Q) (mul-pos (mul-pos Q D) F)

  pub one_more : eq_f (sum_f (suc (suc j)) (exp_term x)) (frac (K / factorial (suc j) * u + d * a) (K / factorial (suc j) * v + d * b) (K * (q * d)))
  unfolding sum_f
  one_more =
      let y = frac u v (q * d * factorial (suc j)) in
      let S = sum_f (suc j) (exp_term x) in
      let A = frac a b (K * q) in
      let R = frac (K / factorial (suc j) * u + d * a) (K / factorial (suc j) * v + d * b) (K * (q * d)) in
      subst (λ (z : Frac). eq_f (add_f S (over_f z (factorial (suc j)))) R) (sym power) (
        le_trans_f (add_f S y) (add_f A y) R middle_pos (add_mono_f S A y y so_far.0 (le_refl_f y)) more_K.0,
        le_trans_f R (add_f A y) (add_f S y) middle_pos more_K.1 (add_mono_f A S y y so_far.1 (le_refl_f y)),
      )

pub factorial_pos : (k : ℕ) → 0 < factorial k
unfolding factorial
factorial_pos zero = lit< tt
factorial_pos (suc k) = mul-pos (factorial_pos k) (zero-lt-suc k)

-- where the walk ends: the count and the power of d
count : (k j m : ℕ) → m ≡ suc k + suc j → m ≡ k + suc (suc j)
count k j m e = omega arith

powers_of : (d k q Q : ℕ) → Q ≡ q * d ^ suc k → Q ≡ q * d * d ^ k
powers_of d k q Q e = e ∙ ap (λ (z : ℕ). q * z) (pow-suc d k) ∙ go q (d ^ k) d
  where
    go : (q z d : ℕ) → q * (z * d) ≡ q * d * z
    go q z d = simp (mul_assoc, mul_comm)

-- ---- n / d
power_up : (n d p q : ℕ) → mul_f (frac p 0 q) (frac n 0 d) ≡ frac (n * p) 0 (q * d)
power_up n d p q = simp (mul-zero, zero-mul, add-zero, zero-add, mul_comm)

walk_up : (n d : ℕ) → 0 < d → (k j p a q m Q : ℕ) → T (dividesb (suc j) k) → pow_f (frac n 0 d) j ≡ frac p 0 q → 0 < q → eq_f (sum_f (suc j) (exp_term (frac n 0 d))) (frac a 0 (K * q))
    → m ≡ k + suc j → Q ≡ q * d ^ k → eq_f (sum_f m (exp_term (frac n 0 d))) (frac (up (λ (x : ℕ). n * x) (λ (x : ℕ). d * x) sum k (suc j) p a) 0 (K * Q))
unfolding up pow_f
walk_up n d D zero j p a q m Q t w P s e f =
    subst (λ (i : ℕ). eq_f (sum_f i (exp_term (frac n 0 d))) (frac a 0 (K * Q))) (sym (e ∙ zero-add (suc j)))
    (subst (λ (z : ℕ). eq_f (sum_f (suc j) (exp_term (frac n 0 d))) (frac a 0 (K * z))) (sym (f ∙ ap (λ (y : ℕ). q * y) (pow-zero d) ∙ mul-one q)) s)
walk_up n d D (suc k) j p a q m Q t w P s e f =
    let c = K / factorial (suc j) in
    let ok : c * factorial (suc j) ≡ K = eqb→eq (c * factorial (suc j)) K (and_l (eqb (c * factorial (suc j)) K) (dividesb (suc (suc j)) k) t) in
    let w' : pow_f (frac n 0 d) (suc j) ≡ frac (n * p) 0 (q * d) = ap (λ (y : Frac). mul_f y (frac n 0 d)) w ∙ power_up n d p q in
    let s' : eq_f (sum_f (suc (suc j)) (exp_term (frac n 0 d))) (frac (c * (n * p) + d * a) (c * 0 + d * 0) (K * (q * d))) = one_more (frac n 0 d) a 0 q d (n * p) 0 j P D (factorial_pos (suc j)) ok w' s in
    walk_up n d D k (suc j) (n * p) (c * (n * p) + d * a) (q * d) m Q (and_r (eqb (c * factorial (suc j)) K) (dividesb (suc (suc j)) k) t) w' (mul-pos P D)
    (subst (λ (z : ℕ). eq_f (sum_f (suc (suc j)) (exp_term (frac n 0 d))) (frac (c * (n * p) + d * a) z (K * (q * d)))) (none c d) s') (count k j m e) (powers_of d k q Q f)
  where
    none : (c d : ℕ) → c * 0 + d * 0 ≡ 0
    none c d = rw (mul-zero, mul-zero)

pub sum_up : (n d : ℕ) → 0 < d → eq_f (exp_sum (frac n 0 d)) (frac (all_terms n d) 0 (K * d ^ 29))
unfolding exp_sum sum_f pow_f factorial
sum_up n d D = walk_up n d D 29 0 1 K 1 30 (d ^ 29) divides refl (lit< tt) (first, second) refl (sym (one-mul (d ^ 29)))
  where
    first : le_f (add_f zero_f (frac 1 0 (1 * 1))) (frac K 0 (K * 1))
    first = lit≤ tt

    second : le_f (frac K 0 (K * 1)) (add_f zero_f (frac 1 0 (1 * 1)))
    second = lit≤ tt

-- ---- - n / d
-- a - b or b - a
abbrev pub side : Bool → ℕ → ℕ → ℕ → Frac
side false a b d = frac a b d
side true a b d = frac b a d

abbrev pub after : ℕ → Bool → Bool
after zero g = g
after (suc k) g = after k (not g)

power_turn : (g : Bool) (n d p q : ℕ) → mul_f (sgn g p q) (frac 0 n d) ≡ sgn (not g) (n * p) (q * d)
power_turn false n d p q = simp (mul-zero, zero-mul, add-zero, zero-add, mul_comm)
power_turn true n d p q = simp (mul-zero, zero-mul, add-zero, zero-add, mul_comm)

more_turn : (g : Bool) (n d j p a b q : ℕ) → 0 < q → 0 < d → K / factorial (suc j) * factorial (suc j) ≡ K → pow_f (frac 0 n d) (suc j) ≡ sgn (not g) (n * p) (q * d)
    → eq_f (sum_f (suc j) (exp_term (frac 0 n d))) (side g a b (K * q)) → eq_f (sum_f (suc (suc j)) (exp_term (frac 0 n d))) (side (not g) (K / factorial (suc j) * (n * p) + d * b) (d * a) (K * (q * d)))
more_turn false n d j p a b q P D ok w s =
    subst (λ (z : ℕ). eq_f (sum_f (suc (suc j)) (exp_term (frac 0 n d))) (frac z (K / factorial (suc j) * (n * p) + d * b) (K * (q * d)))) (none (K / factorial (suc j)) (d * a))
    (one_more (frac 0 n d) a b q d 0 (n * p) j P D (factorial_pos (suc j)) ok w s)
  where
    none : (c x : ℕ) → c * 0 + x ≡ x
    none c x = rw (mul-zero, zero-add)
more_turn true n d j p a b q P D ok w s =
    subst (λ (z : ℕ). eq_f (sum_f (suc (suc j)) (exp_term (frac 0 n d))) (frac (K / factorial (suc j) * (n * p) + d * b) z (K * (q * d)))) (none (K / factorial (suc j)) (d * a))
    (one_more (frac 0 n d) b a q d (n * p) 0 j P D (factorial_pos (suc j)) ok w s)
  where
    none : (c x : ℕ) → c * 0 + x ≡ x
    none c x = rw (mul-zero, zero-add)

walk_turn : (n d : ℕ) → 0 < d → (k : ℕ) (g : Bool) (j p a b q m Q : ℕ) → T (dividesb (suc j) k) → pow_f (frac 0 n d) j ≡ sgn g p q → 0 < q → eq_f (sum_f (suc j) (exp_term (frac 0 n d))) (side g a b (K * q))
    → m ≡ k + suc j → Q ≡ q * d ^ k
    → eq_f (sum_f m (exp_term (frac 0 n d))) (side (after k g) (turn (λ (x : ℕ). n * x) (λ (x : ℕ). d * x) sum k (suc j) p a b).0 (turn (λ (x : ℕ). n * x) (λ (x : ℕ). d * x) sum k (suc j) p a b).1 (K * Q))
unfolding turn pow_f
walk_turn n d D zero g j p a b q m Q t w P s e f =
    subst (λ (i : ℕ). eq_f (sum_f i (exp_term (frac 0 n d))) (side g a b (K * Q))) (sym (e ∙ zero-add (suc j)))
    (subst (λ (z : ℕ). eq_f (sum_f (suc j) (exp_term (frac 0 n d))) (side g a b (K * z))) (sym (f ∙ ap (λ (y : ℕ). q * y) (pow-zero d) ∙ mul-one q)) s)
walk_turn n d D (suc k) g j p a b q m Q t w P s e f =
    let c = K / factorial (suc j) in
    let ok : c * factorial (suc j) ≡ K = eqb→eq (c * factorial (suc j)) K (and_l (eqb (c * factorial (suc j)) K) (dividesb (suc (suc j)) k) t) in
    let w' : pow_f (frac 0 n d) (suc j) ≡ sgn (not g) (n * p) (q * d) = ap (λ (y : Frac). mul_f y (frac 0 n d)) w ∙ power_turn g n d p q in
    walk_turn n d D k (not g) (suc j) (n * p) (c * (n * p) + d * b) (d * a) (q * d) m Q (and_r (eqb (c * factorial (suc j)) K) (dividesb (suc (suc j)) k) t) w' (mul-pos P D)
    (more_turn g n d j p a b q P D ok w' s) (count k j m e) (powers_of d k q Q f)

pub sum_down : (n d : ℕ) → 0 < d → eq_f (exp_sum (frac 0 n d)) (frac (both_terms n d).1 (both_terms n d).0 (K * d ^ 29))
unfolding exp_sum sum_f pow_f factorial
sum_down n d D = walk_turn n d D 29 false 0 1 K 0 1 30 (d ^ 29) divides refl (lit< tt) (first, second) refl (sym (one-mul (d ^ 29)))
  where
    first : le_f (add_f zero_f (frac 1 0 (1 * 1))) (frac K 0 (K * 1))
    first = lit≤ tt

    second : le_f (frac K 0 (K * 1)) (add_f zero_f (frac 1 0 (1 * 1)))
    second = lit≤ tt
