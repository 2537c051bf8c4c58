-- exp of a logarithm's series: document 01's thirty terms of exp at ± T, T = 2 z (1 + z ^ 2 / 3 + .. + z ^ 22 / 23), are near (1 ± z) / (1 ∓ z). As polynomials in z the even and the odd terms have the coefficients 1, 2, 2, .., which then fall; antt computes them. Assumes nothing.
use mathlib.Core.Path.{◌≡◌, refl, sym, ap, ap₂, ◌∙◌, subst}
use mathlib.Core.List.{List, [], ◌∷◌}
use mathlib.Core.Bool.{Bool, ◌&&◌}
use Prim.Native.Nat.{ℕ, zero, suc, ◌+◌, ◌*◌, ◌/◌, ◌^◌, ◌≤◌, ◌<◌}
use native.Mathlib.Nat.{le_trans, le_of_eq, add-le-add, mul_comm, mul_assoc, add-mul, mul-add, add_comm, mul-one, one-mul, zero-mul, mul-zero, add-zero, zero-add, mul-le-mul, mul-le-mul_left, mul-le-mul_right, le_of_mul-le-mul_right, le_dest, mul-pos, one-le-pow, pow-suc, pow-zero}
use native.Mathlib.Omega.{arith}
use lib.Dec.{T, lit<}
use lib.ListN.{length}
use lib.Pow.{pow-add}
use lib.Ieee.Fits.{and_l, and_r}
use Rattle.fixed_point.proofs.Polynomial.{hom}
use Rattle.fixed_point.proofs.Horner.{ring, ac}
use Rattle.fixed_point.proofs.Bernstein.{fma, fma_is, fma_length, Acts, again, again_is, under, under_le}
use Rattle.series.specs.Sums.{factorial}
use Rattle.number.specs.Frac.{frac, neg_f, sub_f}
use Rattle.number.proofs.Frac.{add_mono_f, le_refl_f}
use Rattle.series.specs.Exact.{exp_sum}
use Rattle.exponential.proofs.Literal.{sum_up, sum_down}
use Rattle.exponential.proofs.Bounds.{Bound, bound_eq}
use Rattle.exponential.proofs.Terms.{K, up, turn, sum, all_terms, both_terms}

-- ---- lists of coefficients: with zeros behind, c times one onto another, and a polynomial in the square times one
unfoldable pub zeros : ℕ → List ℕ
zeros zero = []
zeros (suc k) = 0 ∷ zeros k

zeros_is : (k n d : ℕ) → hom (zeros k) n d ≡ 0
unfolding zeros hom
zeros_is zero n d = refl
zeros_is (suc k) n d = ap₂ ◌+◌ (zero-mul (d ^ length (zeros k))) (ap (λ (x : ℕ). n * x) (zeros_is k n d) ∙ mul-zero n)

zeros_length : (k : ℕ) → length (zeros k) ≡ k
unfolding zeros
zeros_length zero = refl
zeros_length (suc k) = ap suc (zeros_length k)

unfoldable pub pad : ℕ → ℕ → List ℕ → List ℕ
pad c k [] = zeros k
pad c k (a ∷ ls) = c * a ∷ pad c k ls

pad_length : (c k : ℕ) (ls : List ℕ) → length (pad c k ls) ≡ k + length ls
unfolding pad
pad_length c k [] = zeros_length k ∙ sym (add-zero k)
pad_length c k (a ∷ ls) = ap suc (pad_length c k ls) ∙ lin k (length ls)
  where
    lin : (k l : ℕ) → suc (k + l) ≡ k + suc l
    lin k l = omega arith

pub pad_is : (c k n d : ℕ) (ls : List ℕ) → hom (pad c k ls) n d ≡ c * d ^ k * hom ls n d
unfolding pad hom
pad_is c k n d [] = zeros_is k n d ∙ sym (mul-zero (c * d ^ k))
pad_is c k n d (a ∷ ls) =
    ap₂ (λ (l x : ℕ). c * a * d ^ l + n * x) (pad_length c k ls) (pad_is c k n d ls)
    ∙ ap (λ (x : ℕ). c * a * x + n * (c * d ^ k * hom ls n d)) (pow-add d k (length ls)) ∙ go c a n (d ^ k) (d ^ length ls) (hom ls n d)
  where
    go : (c a n p q h : ℕ) → c * a * (p * q) + n * (c * p * h) ≡ c * p * (a * q + n * h)
    go c a n p q h = simp ring

unfoldable onto : ℕ → List ℕ → List ℕ → List ℕ
onto c [] ms = ms
onto c (a ∷ ls) [] = []
onto c (a ∷ ls) (b ∷ ms) = (c * a + b) ∷ onto c ls ms

onto_length : (c k : ℕ) (ls ms : List ℕ) → length ms ≡ length ls + k → length (onto c ls ms) ≡ length ms
unfolding onto
onto_length c k [] ms h = refl
onto_length c k (a ∷ ls) [] h = h ∙ short (length ls) k h
  where
    short : (l k : ℕ) → 0 ≡ suc l + k → suc l + k ≡ 0
    short l k h = omega arith
onto_length c k (a ∷ ls) (b ∷ ms) h = ap suc (onto_length c k ls ms (lin (length ms) (length ls) k h))
  where
    lin : (m l k : ℕ) → suc m ≡ suc l + k → m ≡ l + k
    lin m l k h = omega arith

onto_is : (c k n d : ℕ) (ls ms : List ℕ) → length ms ≡ length ls + k → hom (onto c ls ms) n d ≡ c * (d ^ k * hom ls n d) + hom ms n d
unfolding onto hom
onto_is c k n d [] ms h = sym (ap (λ (x : ℕ). c * x + hom ms n d) (mul-zero (d ^ k)) ∙ ap (λ (x : ℕ). x + hom ms n d) (mul-zero c) ∙ zero-add (hom ms n d))
onto_is c k n d (a ∷ ls) [] h = never (length ls) k 0 (c * (d ^ k * hom (a ∷ ls) n d) + 0) h
  where
    never : (l k x y : ℕ) → 0 ≡ suc l + k → x ≡ y
    never l k x y h = omega arith
onto_is c k n d (a ∷ ls) (b ∷ ms) h =
    let e : length ms ≡ length ls + k = lin (length ms) (length ls) k h in
    ap₂ (λ (l x : ℕ). (c * a + b) * d ^ l + n * x) (onto_length c k ls ms e) (onto_is c k n d ls ms e)
    ∙ ap (λ (x : ℕ). (c * a + b) * x + n * (c * (d ^ k * hom ls n d) + hom ms n d)) (power e)
    ∙ go c a b n (d ^ length ls) (d ^ k) (hom ls n d) (hom ms n d)
    ∙ ap (λ (x : ℕ). c * (d ^ k * (a * d ^ length ls + n * hom ls n d)) + (b * x + n * hom ms n d)) (sym (power e))
  where
    lin : (m l k : ℕ) → suc m ≡ suc l + k → m ≡ l + k
    lin m l k h = omega arith

    power : length ms ≡ length ls + k → d ^ length ms ≡ d ^ length ls * d ^ k
    power e = ap (λ (x : ℕ). d ^ x) e ∙ pow-add d (length ls) k

    go : (c a b n p q h g : ℕ) → (c * a + b) * (p * q) + n * (c * (q * h) + g) ≡ c * (q * (a * p + n * h)) + (b * (p * q) + n * g)
    go c a b n p q h g = simp ring

-- c₀ + y (c₁ + .. + y e), y = N / D, over a power of D
abbrev pub series : List ℕ → ℕ → ℕ → ℕ → ℕ
series [] e N D = e
series (c ∷ cs) e N D = c * D ^ suc (length cs) + N * series cs e N D

unfoldable sparse : List ℕ → ℕ → List ℕ → List ℕ
sparse [] e ls = pad e 0 ls
sparse (c ∷ cs) e ls = onto c ls (0 ∷ 0 ∷ sparse cs e ls)

sparse_length : (cs : List ℕ) (e : ℕ) (ls : List ℕ) → length (sparse cs e ls) ≡ length ls + 2 * length cs
unfolding sparse
sparse_length [] e ls = pad_length e 0 ls ∙ lin (length ls)
  where
    lin : (l : ℕ) → 0 + l ≡ l + 2 * 0
    lin l = omega arith
sparse_length (c ∷ cs) e ls = onto_length c (2 * suc (length cs)) ls (0 ∷ 0 ∷ sparse cs e ls) (two (length ls) (length cs) (length (sparse cs e ls)) (sparse_length cs e ls)) ∙ two (length ls) (length cs) (length (sparse cs e ls)) (sparse_length cs e ls)
  where
    two : (l k x : ℕ) → x ≡ l + 2 * k → suc (suc x) ≡ l + 2 * suc k
    two l k x h = omega arith

pub square_pow : (d k : ℕ) → d ^ (2 * k) ≡ (d * d) ^ k
square_pow d zero = pow-zero d ∙ sym (pow-zero (d * d))
square_pow d (suc k) = ap (λ (x : ℕ). d ^ x) (lin k) ∙ pow-suc d (suc (2 * k)) ∙ ap (λ (x : ℕ). x * d) (pow-suc d (2 * k)) ∙ mul_assoc (d ^ (2 * k)) d d ∙ ap (λ (x : ℕ). x * (d * d)) (square_pow d k) ∙ sym (pow-suc (d * d) k)
  where
    lin : (k : ℕ) → 2 * suc k ≡ suc (suc (2 * k))
    lin k = omega arith

sparse_is : (cs : List ℕ) (e n d : ℕ) (ls : List ℕ) → hom (sparse cs e ls) n d ≡ series cs e (n * n) (d * d) * hom ls n d
unfolding sparse hom
sparse_is [] e n d ls = pad_is e 0 n d ls ∙ ap (λ (x : ℕ). e * x * hom ls n d) (pow-zero d) ∙ ap (λ (x : ℕ). x * hom ls n d) (mul-one e)
sparse_is (c ∷ cs) e n d ls =
    onto_is c (2 * suc (length cs)) n d ls (0 ∷ 0 ∷ sparse cs e ls) (two (length ls) (length cs) (length (sparse cs e ls)) (sparse_length cs e ls))
    ∙ ap₂ (λ (p x : ℕ). c * (p * hom ls n d) + (0 * d ^ suc (length (sparse cs e ls)) + n * (0 * d ^ length (sparse cs e ls) + n * x))) (square_pow d (suc (length cs))) (sparse_is cs e n d ls)
    ∙ go c n ((d * d) ^ suc (length cs)) (hom ls n d) (d ^ suc (length (sparse cs e ls))) (d ^ length (sparse cs e ls)) (series cs e (n * n) (d * d))
  where
    two : (l k x : ℕ) → x ≡ l + 2 * k → suc (suc x) ≡ l + 2 * suc k
    two l k x h = omega arith

    go : (c n p h u v s : ℕ) → c * (p * h) + (0 * u + n * (0 * v + n * (s * h))) ≡ (c * p + n * n * s) * h
    go c n p h u v s = simp (ring, zero-mul, zero-add)

-- ---- the terms of exp for products of any degree
module _ (s t n d e : ℕ) (N D : List ℕ → List ℕ) (actsN : Acts N n e s t) (actsD : Acts D d e s t) where
  longer : (x y : List ℕ) → length x ≡ length y → length (N x) ≡ length (D y)
  longer x y h = actsN.longer x ∙ ap (λ (l : ℕ). e + l) h ∙ sym (actsD.longer y)

  next : (c : ℕ) (x y : List ℕ) → length x ≡ length y → hom (fma c (N x) (D y)) t s ≡ c * (n * hom x t s) + d * hom y t s
  next c x y h = fma_is c s t (N x) (D y) (longer x y h) ∙ ap₂ (λ (u v : ℕ). c * u + v) (actsN.value x) (actsD.value y)

  turn_is : (k i : ℕ) (p a b : List ℕ) → length p ≡ length a → length p ≡ length b
      → (hom (turn N D fma k i p a b).0 t s ≡ (turn (λ (x : ℕ). n * x) (λ (x : ℕ). d * x) sum k i (hom p t s) (hom a t s) (hom b t s)).0)
      × (hom (turn N D fma k i p a b).1 t s ≡ (turn (λ (x : ℕ). n * x) (λ (x : ℕ). d * x) sum k i (hom p t s) (hom a t s) (hom b t s)).1)
  unfolding turn
  turn_is zero i p a b h g = (refl, refl)
  turn_is (suc k) i p a b h g =
      let c = K / factorial i in
      let ih = turn_is k (suc i) (N p) (fma c (N p) (D b)) (D a) (sym (fma_length c (N p) (D b) (longer p b g))) (longer p a h) in
      let same : turn (λ (x : ℕ). n * x) (λ (x : ℕ). d * x) sum k (suc i) (hom (N p) t s) (hom (fma c (N p) (D b)) t s) (hom (D a) t s) ≡ turn (λ (x : ℕ). n * x) (λ (x : ℕ). d * x) sum k (suc i) (n * hom p t s) (c * (n * hom p t s) + d * hom b t s) (d * hom a t s) =
      rw (actsN.value p, next c p b g, actsD.value a) in
      (ih.0 ∙ ap (λ (z : ℕ × ℕ). z.0) same, ih.1 ∙ ap (λ (z : ℕ × ℕ). z.1) same)

-- all terms are the even and the odd ones
both_are : (n d k i p a b : ℕ) → up (λ (x : ℕ). n * x) (λ (x : ℕ). d * x) sum k i p (a + b) ≡ (turn (λ (x : ℕ). n * x) (λ (x : ℕ). d * x) sum k i p a b).0 + (turn (λ (x : ℕ). n * x) (λ (x : ℕ). d * x) sum k i p a b).1
unfolding up turn
both_are n d zero i p a b = refl
both_are n d (suc k) i p a b = ap (up (λ (x : ℕ). n * x) (λ (x : ℕ). d * x) sum k (suc i) (n * p)) (go (K / factorial i * (n * p)) d a b) ∙ both_are n d k (suc i) (n * p) (K / factorial i * (n * p) + d * b) (d * a)
  where
    go : (c d a b : ℕ) → c + d * (a + b) ≡ c + d * b + d * a
    go c d a b = simp ring

-- ---- T, over a common denominator: 2 · 334639305 / (2 i + 1) for i below 12, the last apart
abbrev L : ℕ
L = 334639305

abbrev pub coefficients : List ℕ
coefficients = 669278610 ∷ 223092870 ∷ 133855722 ∷ 95611230 ∷ 74364290 ∷ 60843510 ∷ 51482970 ∷ 44618574 ∷ 39369330 ∷ 35225190 ∷ 31870410 ∷ []

abbrev pub last_one : ℕ
last_one = 29099070

abbrev times_t : List ℕ → List ℕ
times_t ls = 0 ∷ sparse coefficients last_one ls

abbrev times_u : List ℕ → List ℕ
times_u ls = pad L 23 ls

-- T is T₀ / U
abbrev pub T₀ : ℕ → ℕ → ℕ
T₀ n d = n * series coefficients last_one (n * n) (d * d)

abbrev pub U : ℕ → ℕ
U d = L * d ^ 23

T-acts : (n d : ℕ) → Acts times_t (T₀ n d) 23 d n
unfolding hom
T-acts n d = record {
  value = λ (ls : List ℕ). ap₂ (λ (x y : ℕ). x + n * y) (zero-mul (d ^ length (sparse coefficients last_one ls))) (sparse_is coefficients last_one n d ls) ∙ go n (series coefficients last_one (n * n) (d * d)) (hom ls n d);
  longer = λ (ls : List ℕ). ap suc (sparse_length coefficients last_one ls) ∙ lin (length ls);
}
  where
    go : (n s h : ℕ) → 0 + n * (s * h) ≡ n * s * h
    go n s h = zero-add (n * (s * h)) ∙ sym (mul_assoc n s h)

    lin : (l : ℕ) → suc (l + 2 * 11) ≡ 23 + l
    lin l = omega arith

U-acts : (n d : ℕ) → Acts times_u (U d) 23 d n
U-acts n d = record { value = λ (ls : List ℕ). pad_is L 23 n d ls; longer = λ (ls : List ℕ). pad_length L 23 ls }

abbrev parts : List ℕ × List ℕ
parts = turn times_t times_u fma 29 1 (1 ∷ []) (K ∷ []) (0 ∷ [])

abbrev scale : List ℕ
scale = again 29 times_u (K ∷ [])

-- K times the common denominator's power
abbrev C : ℕ
C = K * L ^ 29

-- k times 2 C at every second place, and j zeros
unfoldable falls : ℕ → ℕ → List ℕ
falls zero j = zeros j
falls (suc k) j = 2 * C ∷ 0 ∷ falls k j

-- the even terms and the odd ones fall from 2 on, and are 2 up to z ^ 23
abbrev passes : List ℕ × List ℕ → List ℕ → Bool
passes (odd, even) u =
    under 1 0 0 0 1 1 (pad 1 2 even) (0 ∷ 0 ∷ even) (fma 1 (pad 1 2 u) (0 ∷ 0 ∷ u))
    && (under 1 0 0 0 1 2 (pad 1 2 odd) (0 ∷ 0 ∷ odd) (0 ∷ pad 1 1 u)
    && (under 0 1 0 1 0 0 even (C ∷ 0 ∷ falls 11 644) (C ∷ 0 ∷ falls 11 644)
    && under 0 1 0 1 0 0 odd (0 ∷ falls 12 643) (0 ∷ falls 12 643)))

test : T (passes parts scale)
unfolding zeros pad onto sparse turn fma again under falls factorial
test = tt

-- ---- what the test says of the numbers
single : (a n d : ℕ) → hom (a ∷ []) n d ≡ a
unfolding hom
single a n d = ap₂ (λ (x y : ℕ). a * x + y) (pow-zero d) (mul-zero n) ∙ add-zero (a * 1) ∙ mul-one a

falls_length : (k j : ℕ) → length (falls k j) ≡ 2 * k + j
unfolding falls
falls_length zero j = zeros_length j ∙ sym (zero-add j)
falls_length (suc k) j = ap (λ (x : ℕ). suc (suc x)) (falls_length k j) ∙ lin k j
  where
    lin : (k j : ℕ) → suc (suc (2 * k + j)) ≡ 2 * suc k + j
    lin k j = omega arith

falls_is : (k j n d : ℕ) → hom (falls k j) n d * (d * d) + 2 * C * ((n * n) ^ k * (d ^ j * d)) ≡ hom (falls k j) n d * (n * n) + 2 * C * ((d * d) ^ k * (d ^ j * d))
unfolding falls hom
falls_is zero j n d = ap₂ (λ (x y : ℕ). x * (d * d) + 2 * C * (y * (d ^ j * d))) (zeros_is j n d) (pow-zero (n * n) ∙ sym (pow-zero (d * d))) ∙ ap (λ (x : ℕ). x + 2 * C * ((d * d) ^ 0 * (d ^ j * d))) (zero-mul (d * d) ∙ sym (zero-mul (n * n))) ∙ ap (λ (x : ℕ). x * (n * n) + 2 * C * ((d * d) ^ 0 * (d ^ j * d))) (sym (zeros_is j n d))
falls_is (suc k) j n d =
    ap (λ (q : ℕ). (2 * C * d ^ suc (length (falls k j)) + n * (0 * d ^ length (falls k j) + n * hom (falls k j) n d)) * (d * d) + 2 * C * (q * (d ^ j * d))) (pow-suc (n * n) k)
    ∙ ap (λ (p : ℕ). (2 * C * p + n * (0 * d ^ length (falls k j) + n * hom (falls k j) n d)) * (d * d) + 2 * C * ((n * n) ^ k * (n * n) * (d ^ j * d))) degree
    ∙ go (2 * C) n d ((d * d) ^ k) ((n * n) ^ k) (d ^ j * d) (d ^ length (falls k j)) (hom (falls k j) n d) (falls_is k j n d)
    ∙ ap (λ (p : ℕ). (2 * C * p + n * (0 * d ^ length (falls k j) + n * hom (falls k j) n d)) * (n * n) + 2 * C * ((d * d) ^ k * (d * d) * (d ^ j * d))) (sym degree)
    ∙ ap (λ (q : ℕ). (2 * C * d ^ suc (length (falls k j)) + n * (0 * d ^ length (falls k j) + n * hom (falls k j) n d)) * (n * n) + 2 * C * (q * (d ^ j * d))) (sym (pow-suc (d * d) k))
  where
    degree : d ^ suc (length (falls k j)) ≡ (d * d) ^ k * (d ^ j * d)
    degree = pow-suc d (length (falls k j)) ∙ ap (λ (x : ℕ). d ^ x * d) (falls_length k j) ∙ ap (λ (x : ℕ). x * d) (pow-add d (2 * k) j ∙ ap (λ (x : ℕ). x * d ^ j) (square_pow d k)) ∙ mul_assoc ((d * d) ^ k) (d ^ j) d

    go : (c n d P Q g u h : ℕ) → h * (d * d) + c * (Q * g) ≡ h * (n * n) + c * (P * g)
        → (c * (P * g) + n * (0 * u + n * h)) * (d * d) + c * (Q * (n * n) * g) ≡ (c * (P * g) + n * (0 * u + n * h)) * (n * n) + c * (P * (d * d) * g)
    go c n d P Q g u h e = s1 c n d P Q g u h ∙ ap (λ (x : ℕ). c * (P * g) * (d * d) + n * n * x) e ∙ s2 c n d P g u h
      where
        s1 : (c n d P Q g u h : ℕ) → (c * (P * g) + n * (0 * u + n * h)) * (d * d) + c * (Q * (n * n) * g) ≡ c * (P * g) * (d * d) + n * n * (h * (d * d) + c * (Q * g))
        s1 c n d P Q g u h = simp (ring, zero-mul, zero-add)

        s2 : (c n d P g u h : ℕ) → c * (P * g) * (d * d) + n * n * (h * (n * n) + c * (P * g)) ≡ (c * (P * g) + n * (0 * u + n * h)) * (n * n) + c * (P * (d * d) * g)
        s2 c n d P g u h = simp (ring, zero-mul, zero-add)

-- z = n / d: the even terms E, the odd ones O, over F
module _ (n d : ℕ) where
  abbrev E : ℕ
  E = (both_terms (T₀ n d) (U d)).1

  abbrev O : ℕ
  O = (both_terms (T₀ n d) (U d)).0

  abbrev F : ℕ
  F = U d ^ 29 * K

  terms_are : (hom parts.0 n d ≡ O) × (hom parts.1 n d ≡ E)
  terms_are =
      let r = turn_is d n (T₀ n d) (U d) 23 times_t times_u (T-acts n d) (U-acts n d) 29 1 (1 ∷ []) (K ∷ []) (0 ∷ []) refl refl in
      (r.0 ∙ ap (λ (z : ℕ × ℕ). z.0) same, r.1 ∙ ap (λ (z : ℕ × ℕ). z.1) same)
    where
      same : turn (λ (x : ℕ). T₀ n d * x) (λ (x : ℕ). U d * x) sum 29 1 (hom (1 ∷ []) n d) (hom (K ∷ []) n d) (hom (0 ∷ []) n d) ≡ turn (λ (x : ℕ). T₀ n d * x) (λ (x : ℕ). U d * x) sum 29 1 1 K 0
      same = rw (single 1 n d, single K n d, single 0 n d)

  scale_is : hom scale n d ≡ F
  scale_is = again_is 29 times_u (U d) 23 d n (U-acts n d) (K ∷ []) ∙ ap (λ (x : ℕ). U d ^ 29 * x) (single K n d)

  -- the denominator is C d ^ 667
  F-is : F ≡ C * d ^ 667
  unfolding hom pad again zeros
  F-is = sym scale_is ∙ ap₂ (λ (x y : ℕ). C * x + n * y) (ap (λ (l : ℕ). d ^ l) (zeros_length 667)) (zeros_is 667 n d) ∙ ap (λ (x : ℕ). C * d ^ 667 + x) (mul-zero n) ∙ add-zero (C * d ^ 667)

  -- the test's four parts
  abbrev even_falls : Bool
  even_falls = under 1 0 0 0 1 1 (pad 1 2 parts.1) (0 ∷ 0 ∷ parts.1) (fma 1 (pad 1 2 scale) (0 ∷ 0 ∷ scale))

  abbrev odd_falls : Bool
  odd_falls = under 1 0 0 0 1 2 (pad 1 2 parts.0) (0 ∷ 0 ∷ parts.0) (0 ∷ pad 1 1 scale)

  abbrev even_lasts : Bool
  even_lasts = under 0 1 0 1 0 0 parts.1 (C ∷ 0 ∷ falls 11 644) (C ∷ 0 ∷ falls 11 644)

  abbrev odd_lasts : Bool
  odd_lasts = under 0 1 0 1 0 0 parts.0 (0 ∷ falls 12 643) (0 ∷ falls 12 643)

  shifted : (ls : List ℕ) → hom (0 ∷ ls) n d ≡ n * hom ls n d
  unfolding hom
  shifted ls = ap (λ (x : ℕ). x + n * hom ls n d) (zero-mul (d ^ length ls)) ∙ zero-add (n * hom ls n d)

  twice_shifted : (ls : List ℕ) → hom (0 ∷ 0 ∷ ls) n d ≡ n * n * hom ls n d
  twice_shifted ls = shifted (0 ∷ ls) ∙ ap (λ (x : ℕ). n * x) (shifted ls) ∙ sym (mul_assoc n n (hom ls n d))

  squared : (ls : List ℕ) → hom (pad 1 2 ls) n d ≡ d * d * hom ls n d
  squared ls = pad_is 1 2 n d ls ∙ ap (λ (x : ℕ). x * hom ls n d) (one-mul (d ^ 2) ∙ square_pow d 1 ∙ pow-suc (d * d) 0 ∙ ap (λ (x : ℕ). x * (d * d)) (pow-zero (d * d)) ∙ one-mul (d * d))

  once_more : (ls : List ℕ) → hom (pad 1 1 ls) n d ≡ d * hom ls n d
  once_more ls = pad_is 1 1 n d ls ∙ ap (λ (x : ℕ). x * hom ls n d) (one-mul (d ^ 1) ∙ pow-suc d 0 ∙ ap (λ (x : ℕ). x * d) (pow-zero d) ∙ one-mul d)

  even_hi : d * d * E ≤ n * n * E + (d * d * F + n * n * F)
  even_hi =
      go (d * d * F) (n * n * F) (squared parts.1 ∙ ap (λ (x : ℕ). d * d * x) terms_are.1) (twice_shifted parts.1 ∙ ap (λ (x : ℕ). n * n * x) terms_are.1)
      (fma_is 1 d n (pad 1 2 scale) (0 ∷ 0 ∷ scale) (pad_length 1 2 scale ∙ two (length scale)) ∙ ap₂ (λ (x y : ℕ). 1 * x + y) (squared scale ∙ ap (λ (x : ℕ). d * d * x) scale_is) (twice_shifted scale ∙ ap (λ (x : ℕ). n * n * x) scale_is))
      (under_le 1 0 0 0 1 1 d n (pad 1 2 parts.1) (0 ∷ 0 ∷ parts.1) (fma 1 (pad 1 2 scale) (0 ∷ 0 ∷ scale)) (and_l even_falls (odd_falls && (even_lasts && odd_lasts)) test))
    where
      two : (l : ℕ) → 2 + l ≡ suc (suc l)
      two l = omega arith

      go : {u v x a b : ℕ} (c e : ℕ) → u ≡ a → v ≡ b → x ≡ 1 * c + e → 1 * u + 0 * v + 0 * x ≤ 0 * u + 1 * v + 1 * x → a ≤ b + (c + e)
      go c e p q r h = omega arith

  odd_hi : d * d * O ≤ n * n * O + 2 * (n * (d * F))
  odd_hi =
      go (squared parts.0 ∙ ap (λ (x : ℕ). d * d * x) terms_are.0) (twice_shifted parts.0 ∙ ap (λ (x : ℕ). n * n * x) terms_are.0)
      (shifted (pad 1 1 scale) ∙ ap (λ (x : ℕ). n * x) (once_more scale ∙ ap (λ (x : ℕ). d * x) scale_is))
      (under_le 1 0 0 0 1 2 d n (pad 1 2 parts.0) (0 ∷ 0 ∷ parts.0) (0 ∷ pad 1 1 scale) (and_l odd_falls (even_lasts && odd_lasts) (and_r even_falls (odd_falls && (even_lasts && odd_lasts)) test)))
    where
      go : {u v x a b c : ℕ} → u ≡ a → v ≡ b → x ≡ c → 1 * u + 0 * v + 0 * x ≤ 0 * u + 1 * v + 2 * x → a ≤ b + 2 * c
      go p q r h = omega arith

  abbrev G : ℕ
  G = hom (falls 11 644) n d

  abbrev H : ℕ
  H = hom (falls 12 643) n d

  even_lo : C * d ^ 667 + n * n * G ≤ E
  unfolding hom
  even_lo =
      go (ap₂ (λ (l x : ℕ). C * d ^ l + n * x) (ap suc (falls_length 11 644)) (shifted (falls 11 644)) ∙ ap (λ (x : ℕ). C * d ^ 667 + x) (sym (mul_assoc n n G))) terms_are.1
      (under_le 0 1 0 1 0 0 d n parts.1 (C ∷ 0 ∷ falls 11 644) (C ∷ 0 ∷ falls 11 644) (and_l even_lasts odd_lasts (and_r odd_falls (even_lasts && odd_lasts) (and_r even_falls (odd_falls && (even_lasts && odd_lasts)) test))))
    where
      go : {u v a b : ℕ} → v ≡ a → u ≡ b → 0 * u + 1 * v + 0 * v ≤ 1 * u + 0 * v + 0 * v → a ≤ b
      go p q h = omega arith

  odd_lo : n * H ≤ O
  odd_lo =
      go (shifted (falls 12 643)) terms_are.0
      (under_le 0 1 0 1 0 0 d n parts.0 (0 ∷ falls 12 643) (0 ∷ falls 12 643) (and_r even_lasts odd_lasts (and_r odd_falls (even_lasts && odd_lasts) (and_r even_falls (odd_falls && (even_lasts && odd_lasts)) test))))
    where
      go : {u v a b : ℕ} → v ≡ a → u ≡ b → 0 * u + 1 * v + 0 * v ≤ 1 * u + 0 * v + 0 * v → a ≤ b
      go p q h = omega arith

  -- from below, with what is left over from z ^ 24 on; z at most 1/5
  module _ (fifth : 5 * n ≤ d) where
    pub squares : 25 * (n * n) ≤ d * d
    squares = le_trans (le_of_eq (go 5 n)) (mul-le-mul fifth fifth)
      where
        go : (k n : ℕ) → k * k * (n * n) ≡ k * n * (k * n)
        go k n = simp ac

    pub powers : (k : ℕ) → 25 ^ k * (n * n) ^ k ≤ (d * d) ^ k
    powers zero = le_of_eq (ap₂ ◌*◌ (pow-zero 25) (pow-zero (n * n)) ∙ sym (pow-zero (d * d)))
    powers (suc k) = le_trans (le_of_eq (ap₂ ◌*◌ (pow-suc 25 k) (pow-suc (n * n) k) ∙ go (25 ^ k) 25 ((n * n) ^ k) (n * n))) (le_trans (mul-le-mul (powers k) squares) (le_of_eq (sym (pow-suc (d * d) k))))
      where
        go : (a b c e : ℕ) → a * b * (c * e) ≡ a * c * (b * e)
        go a b c e = simp ac

    -- g is what stands beside the powers
    left_over : (k c g : ℕ) → 25 ^ k * (c * ((n * n) ^ k * g)) ≤ c * ((d * d) ^ k * g)
    left_over k c g = le_trans (le_of_eq (go (25 ^ k) c ((n * n) ^ k) g)) (mul-le-mul_left c (mul-le-mul_right g (powers k)))
      where
        go : (a c q g : ℕ) → a * (c * (q * g)) ≡ c * (a * q * g)
        go a c q g = simp ac

    -- (e - f) (p - q) is not negative
    kept : (e f p q : ℕ) → f ≤ e → q ≤ p → f * p + e * q ≤ e * p + f * q
    kept e f p q h k = go (le_dest h) (le_dest k)
      where
        go : (x : ℕ) × (f + x ≡ e) → (y : ℕ) × (q + y ≡ p) → f * p + e * q ≤ e * p + f * q
        go (x, u) (y, v) = subst (λ (e : ℕ). f * p + e * q ≤ e * p + f * q) u (subst (λ (p : ℕ). f * p + (f + x) * q ≤ (f + x) * p + f * q) v (nums f x q y))
          where
            nums : (f x q y : ℕ) → f * (q + y) + (f + x) * q ≤ (f + x) * (q + y) + f * q
            nums f x q y = simp ring (omega arith)

    q_le : n * n ≤ d * d
    q_le = go (n * n) (d * d) squares
      where
        go : (q p : ℕ) → 25 * q ≤ p → q ≤ p
        go q p h = omega arith

    abbrev rest_even : ℕ
    rest_even = n * n * (2 * C * ((n * n) ^ 11 * (d ^ 644 * d)))

    abbrev rest_odd : ℕ
    rest_odd = n * (2 * C * ((n * n) ^ 12 * (d ^ 643 * d)))

    whole_power : (k j m : ℕ) → 2 * k + suc j ≡ m → (d * d) ^ k * (d ^ j * d) ≡ d ^ m
    whole_power k j m h = ap₂ ◌*◌ (sym (square_pow d k)) (sym (pow-suc d j)) ∙ sym (pow-add d (2 * k) (suc j)) ∙ ap (λ (x : ℕ). d ^ x) h

    even_low : E * (n * n) + F * (d * d + n * n) ≤ E * (d * d) + rest_even
    even_low =
        lin (E * (n * n)) (E * (d * d)) (E₀ * (d * d)) (E₀ * (n * n)) (F * (d * d + n * n)) rest_even (numbers F G (n * n) (d * d) (2 * C * ((n * n) ^ 11 * (d ^ 644 * d))) (falls_is 11 644 n d ∙ ap (λ (x : ℕ). G * (n * n) + x) power)) (kept E E₀ (d * d) (n * n) (le_trans (le_of_eq (ap (λ (x : ℕ). x + n * n * G) F-is)) even_lo) q_le)
      where
        E₀ : ℕ
        E₀ = F + n * n * G

        power : 2 * C * ((d * d) ^ 11 * (d ^ 644 * d)) ≡ 2 * F
        power = ap (λ (x : ℕ). 2 * C * x) (whole_power 11 644 667 refl) ∙ mul_assoc 2 C (d ^ 667) ∙ ap (λ (x : ℕ). 2 * x) (sym F-is)

        numbers : (f g q p a : ℕ) → g * p + a ≡ g * q + 2 * f → (f + q * g) * p + q * a ≡ (f + q * g) * q + f * (p + q)
        numbers f g q p a h = s1 f g q p a ∙ ap (λ (x : ℕ). f * p + q * x) h ∙ s2 f g q p
          where
            s1 : (f g q p a : ℕ) → (f + q * g) * p + q * a ≡ f * p + q * (g * p + a)
            s1 f g q p a = simp ring

            s2 : (f g q p : ℕ) → f * p + q * (g * q + 2 * f) ≡ (f + q * g) * q + f * (p + q)
            s2 f g q p = simp ring (omega arith)

        lin : (a b c e f r : ℕ) → c + r ≡ e + f → c + a ≤ b + e → a + f ≤ b + r
        lin a b c e f r h k = omega arith

    odd_low : O * (n * n) + 2 * (n * (d * F)) ≤ O * (d * d) + rest_odd
    odd_low =
        lin (O * (n * n)) (O * (d * d)) (n * H * (d * d)) (n * H * (n * n)) (2 * (n * (d * F))) rest_odd (numbers n H (n * n) (d * d) (2 * C * ((n * n) ^ 12 * (d ^ 643 * d))) (d * F) (falls_is 12 643 n d ∙ ap (λ (x : ℕ). H * (n * n) + x) power)) (kept O (n * H) (d * d) (n * n) odd_lo q_le)
      where
        power : 2 * C * ((d * d) ^ 12 * (d ^ 643 * d)) ≡ 2 * (d * F)
        power = ap (λ (x : ℕ). 2 * C * x) (whole_power 12 643 668 refl ∙ pow-suc d 667) ∙ go C (d ^ 667) d ∙ ap (λ (x : ℕ). 2 * (d * x)) (sym F-is)
          where
            go : (c p d : ℕ) → 2 * c * (p * d) ≡ 2 * (d * (c * p))
            go c p d = simp ac

        numbers : (n h q p a g : ℕ) → h * p + a ≡ h * q + 2 * g → n * h * p + n * a ≡ n * h * q + 2 * (n * g)
        numbers n h q p a g e = s1 n h p a ∙ ap (λ (x : ℕ). n * x) e ∙ s2 n h q g
          where
            s1 : (n h p a : ℕ) → n * h * p + n * a ≡ n * (h * p + a)
            s1 n h p a = simp ring

            s2 : (n h q g : ℕ) → n * (h * q + 2 * g) ≡ n * h * q + 2 * (n * g)
            s2 n h q g = simp ring

        lin : (a b c e f r : ℕ) → c + r ≡ e + f → c + a ≤ b + e → a + f ≤ b + r
        lin a b c e f r h k = omega arith

    -- the rests are small: 25 ^ 12 is above 2 ^ 55
    even_rest : 25 ^ 12 * rest_even ≤ 2 * (F * (d * d))
    even_rest = le_trans (le_of_eq (ap (λ (x : ℕ). 25 ^ 12 * x) (go (n * n) (2 * C) ((n * n) ^ 11) (d ^ 644 * d) ∙ ap (λ (x : ℕ). 2 * C * (x * (d ^ 644 * d))) (sym (pow-suc (n * n) 11))))) (le_trans (left_over 12 (2 * C) (d ^ 644 * d)) (le_of_eq power))
      where
        go : (q c p g : ℕ) → q * (c * (p * g)) ≡ c * (p * q * g)
        go q c p g = simp ac

        power : 2 * C * ((d * d) ^ 12 * (d ^ 644 * d)) ≡ 2 * (F * (d * d))
        power = ap (λ (x : ℕ). 2 * C * x) (whole_power 12 644 669 refl ∙ pow-add d 667 2 ∙ ap (λ (x : ℕ). d ^ 667 * x) (pow-suc d 1 ∙ ap (λ (x : ℕ). x * d) (pow-suc d 0 ∙ ap (λ (x : ℕ). x * d) (pow-zero d) ∙ one-mul d))) ∙ turn₂ C (d ^ 667) (d * d) ∙ ap (λ (x : ℕ). 2 * (x * (d * d))) (sym F-is)
          where
            turn₂ : (c p q : ℕ) → 2 * c * (p * q) ≡ 2 * (c * p * q)
            turn₂ c p q = simp ac

    odd_rest : 25 ^ 12 * rest_odd ≤ 2 * (n * (d * F))
    odd_rest = le_trans (le_of_eq (go (25 ^ 12) n (2 * C * ((n * n) ^ 12 * (d ^ 643 * d))))) (le_trans (mul-le-mul_left n (left_over 12 (2 * C) (d ^ 643 * d))) (le_of_eq power))
      where
        go : (a n r : ℕ) → a * (n * r) ≡ n * (a * r)
        go a n r = simp ac

        power : n * (2 * C * ((d * d) ^ 12 * (d ^ 643 * d))) ≡ 2 * (n * (d * F))
        power = ap (λ (x : ℕ). n * (2 * C * x)) (whole_power 12 643 668 refl ∙ pow-suc d 667) ∙ turn₂ n C (d ^ 667) d ∙ ap (λ (x : ℕ). 2 * (n * (d * x))) (sym F-is)
          where
            turn₂ : (n c p d : ℕ) → n * (2 * c * (p * d)) ≡ 2 * (n * (d * (c * p)))
            turn₂ n c p d = simp ac

    -- ---- r = d - n: the sums against (d + n) / r and r / (d + n), to 2 ^ -52
    module _ (r : ℕ) (is : d ≡ r + n) (rp : 0 < r) where
      split : (x : ℕ) → x * (d * d) ≡ x * (n * n) + x * (r * (d + n))
      split x = subst (λ (d : ℕ). x * (d * d) ≡ x * (n * n) + x * (r * (d + n))) (sym is) (go x r n)
        where
          go : (x r n : ℕ) → x * ((r + n) * (r + n)) ≡ x * (n * n) + x * (r * (r + n + n))
          go x r n = simp ring

      -- F (d + n) ^ 2, and F r ^ 2
      all : F * ((d + n) * (d + n)) ≡ F * (d * d + n * n) + 2 * (n * (d * F))
      all = go F d n
        where
          go : (f d n : ℕ) → f * ((d + n) * (d + n)) ≡ f * (d * d + n * n) + 2 * (n * (d * f))
          go f d n = simp ring (omega arith)

      less_all : F * (d * d + n * n) ≡ F * (r * r) + 2 * (n * (d * F))
      less_all = subst (λ (d : ℕ). (f : ℕ) → f * (d * d + n * n) ≡ f * (r * r) + 2 * (n * (d * f))) (sym is) (λ (f : ℕ). go f r n) F
        where
          go : (f r n : ℕ) → f * ((r + n) * (r + n) + n * n) ≡ f * (r * r) + 2 * (n * ((r + n) * f))
          go f r n = simp ring (omega arith)

      b_pos : 0 < d + n
      b_pos = subst (λ (d : ℕ). 0 < d + n) (sym is) (go r n rp)
        where
          go : (r n : ℕ) → 0 < r → 0 < r + n + n
          go r n h = omega arith

      -- 2 ^ 52 times either rest, or both, is at most F r (d + n)
      small : (x : ℕ) → 25 ^ 12 * x ≤ 2 * (F * (d * d)) + 2 * (n * (d * F)) → 2 ^ 52 * x ≤ F * (r * (d + n))
      small x h = lin x (F * (d * d)) (n * (d * F)) (F * (n * n)) (F * (r * (d + n))) h (le_trans (le_of_eq (five F n d)) (le_trans (mul-le-mul_left (F * d) fifth) (le_of_eq (mul_assoc F d d)))) (le_trans (le_of_eq (turned F n)) (mul-le-mul_left F squares)) (split F)
        where
          five : (f n d : ℕ) → 5 * (n * (d * f)) ≡ f * d * (5 * n)
          five f n d = simp ac

          turned : (f n : ℕ) → 25 * (f * (n * n)) ≡ f * (25 * (n * n))
          turned f n = simp ac

          lin : (x a c y e : ℕ) → 25 ^ 12 * x ≤ 2 * a + 2 * c → 5 * c ≤ a → 25 * y ≤ a → a ≡ y + e → 2 ^ 52 * x ≤ e
          lin x a c y e h k l m = omega arith

      plus_hi : (E + O) * r ≤ F * (d + n)
      plus_hi = le_of_mul-le-mul_right {k = d + n} (le_trans (le_of_eq (turned (E + O) r (d + n))) (le_trans (go (E * (d * d)) (E * (n * n)) (E * (r * (d + n))) (O * (d * d)) (O * (n * n)) (O * (r * (d + n))) (F * (d * d + n * n)) (2 * (n * (d * F))) (F * ((d + n) * (d + n))) ((E + O) * (r * (d + n))) (split E) (split O) (add-mul E O (r * (d + n))) all (le_trans (le_of_eq (mul_comm E (d * d))) (le_trans even_hi (le_of_eq (ap₂ ◌+◌ (mul_comm (n * n) E) (both F (d * d) (n * n)))))) (le_trans (le_of_eq (mul_comm O (d * d))) (le_trans odd_hi (le_of_eq (ap (λ (x : ℕ). x + 2 * (n * (d * F))) (mul_comm (n * n) O)))))) (le_of_eq (sym (mul_assoc F (d + n) (d + n)))))) b_pos
        where
          turned : (s r b : ℕ) → s * r * b ≡ s * (r * b)
          turned s r b = mul_assoc s r b

          both : (f p q : ℕ) → p * f + q * f ≡ f * (p + q)
          both f p q = simp ring

          go : (ep eq er op oq or f x a s : ℕ) → ep ≡ eq + er → op ≡ oq + or → s ≡ er + or → a ≡ f + x → ep ≤ eq + f → op ≤ oq + x → s ≤ a
          go ep eq er op oq or f x a s h k l m u v = omega arith

      plus_lo : 2 ^ 52 * (F * (d + n)) ≤ 2 ^ 52 * ((E + O) * r) + F * r
      plus_lo =
          le_of_mul-le-mul_right {k = d + n}
          (le_trans (le_of_eq (one F (d + n))) (le_trans (go (E * (d * d)) (E * (n * n)) (E * (r * (d + n))) (O * (d * d)) (O * (n * n)) (O * (r * (d + n))) (F * (d * d + n * n)) (2 * (n * (d * F))) (F * ((d + n) * (d + n))) ((E + O) * (r * (d + n))) (F * (r * (d + n))) rest_even rest_odd (split E) (split O) (add-mul E O (r * (d + n))) all even_low odd_low (small (rest_even + rest_odd) (le_trans (le_of_eq (mul-add (25 ^ 12) rest_even rest_odd)) (add-le-add even_rest odd_rest)))) (le_of_eq (two (E + O) r (d + n) F)))) b_pos
        where
          one : (f b : ℕ) → 2 ^ 52 * (f * b) * b ≡ 2 ^ 52 * (f * (b * b))
          one f b = mul_assoc (2 ^ 52) (f * b) b ∙ ap (λ (x : ℕ). 2 ^ 52 * x) (mul_assoc f b b)

          two : (s r b f : ℕ) → 2 ^ 52 * (s * (r * b)) + f * (r * b) ≡ (2 ^ 52 * (s * r) + f * r) * b
          two s r b f = simp ring

          go : (ep eq er op oq or f x a s e y z : ℕ) → ep ≡ eq + er → op ≡ oq + or → s ≡ er + or → a ≡ f + x → eq + f ≤ ep + y → oq + x ≤ op + z → 2 ^ 52 * (y + z) ≤ e → 2 ^ 52 * a ≤ 2 ^ 52 * s + e
          go ep eq er op oq or f x a s e y z h k l m u v w = omega arith

      minus_hi : 2 ^ 52 * (E * (d + n)) ≤ 2 ^ 52 * (O * (d + n) + F * r) + F * (d + n)
      minus_hi =
          le_of_mul-le-mul_right {k = r}
          (le_trans (le_of_eq (one E (d + n) r)) (le_trans (go (E * (d * d)) (E * (n * n)) (E * (r * (d + n))) (O * (d * d)) (O * (n * n)) (O * (r * (d + n))) (F * (d * d + n * n)) (2 * (n * (d * F))) (F * (r * r)) (F * (r * (d + n))) rest_odd (split E) (split O) less_all (le_trans (le_of_eq (mul_comm E (d * d))) (le_trans even_hi (le_of_eq (ap₂ ◌+◌ (mul_comm (n * n) E) (both F (d * d) (n * n)))))) odd_low (small rest_odd (le_trans odd_rest (more (2 * (F * (d * d))) (2 * (n * (d * F))))))) (le_of_eq (two O (d + n) r F)))) rp
        where
          both : (f p q : ℕ) → p * f + q * f ≡ f * (p + q)
          both f p q = simp ring

          more : (x y : ℕ) → y ≤ x + y
          more x y = omega arith

          one : (e b r : ℕ) → 2 ^ 52 * (e * b) * r ≡ 2 ^ 52 * (e * (r * b))
          one e b r = simp ac

          two : (o b r f : ℕ) → 2 ^ 52 * (o * (r * b) + f * (r * r)) + f * (r * b) ≡ (2 ^ 52 * (o * b + f * r) + f * b) * r
          two o b r f = simp ring

          go : (ep eq er op oq or f x a e z : ℕ) → ep ≡ eq + er → op ≡ oq + or → f ≡ a + x → ep ≤ eq + f → oq + x ≤ op + z → 2 ^ 52 * z ≤ e → 2 ^ 52 * er ≤ 2 ^ 52 * (or + a) + e
          go ep eq er op oq or f x a e z h k l u v w = omega arith

      minus_lo : 2 ^ 52 * (O * (d + n) + F * r) ≤ 2 ^ 52 * (E * (d + n)) + F * (d + n)
      minus_lo =
          le_of_mul-le-mul_right {k = r}
          (le_trans (le_of_eq (one O (d + n) r F)) (le_trans (go (E * (d * d)) (E * (n * n)) (E * (r * (d + n))) (O * (d * d)) (O * (n * n)) (O * (r * (d + n))) (F * (d * d + n * n)) (2 * (n * (d * F))) (F * (r * r)) (F * (r * (d + n))) rest_even (split E) (split O) less_all even_low (le_trans (le_of_eq (mul_comm O (d * d))) (le_trans odd_hi (le_of_eq (ap (λ (x : ℕ). x + 2 * (n * (d * F))) (mul_comm (n * n) O))))) (small rest_even (le_trans even_rest (more (2 * (F * (d * d))) (2 * (n * (d * F))))))) (le_of_eq (two E (d + n) r F)))) rp
        where
          more : (x y : ℕ) → x ≤ x + y
          more x y = omega arith

          one : (o b r f : ℕ) → 2 ^ 52 * (o * b + f * r) * r ≡ 2 ^ 52 * (o * (r * b) + f * (r * r))
          one o b r f = simp ring

          two : (e b r f : ℕ) → 2 ^ 52 * (e * (r * b)) + f * (r * b) ≡ (2 ^ 52 * (e * b) + f * b) * r
          two e b r f = simp ring

          go : (ep eq er op oq or f x a e y : ℕ) → ep ≡ eq + er → op ≡ oq + or → f ≡ a + x → eq + f ≤ ep + y → op ≤ oq + x → 2 ^ 52 * y ≤ e → 2 ^ 52 * (or + a) ≤ 2 ^ 52 * er + e
          go ep eq er op oq or f x a e y h k l u v w = omega arith

      -- ---- as distances of fractions
      d_pos : 0 < d
      d_pos = subst (λ (d : ℕ). 0 < d) (sym is) (go r n rp)
        where
          go : (r n : ℕ) → 0 < r → 0 < r + n
          go r n h = omega arith

      pub U_pos : 0 < U d
      U_pos = mul-pos {m = L} (lit< tt) (one-le-pow 23 d d_pos)

      F-pos : 0 < K * U d ^ 29
      F-pos = mul-pos {m = K} (lit< tt) (one-le-pow 29 (U d) U_pos)

      sum_is : all_terms (T₀ n d) (U d) ≡ O + E
      sum_is = both_are (T₀ n d) (U d) 29 1 1 K 0

      turned_F : F ≡ K * U d ^ 29
      turned_F = mul_comm (U d ^ 29) K

      near_sum : Bound (sub_f (frac (all_terms (T₀ n d) (U d)) 0 (K * U d ^ 29)) (frac (d + n) 0 r)) (frac 1 0 (2 ^ 52))
      near_sum = subst (λ (f : ℕ). Bound (sub_f (frac (all_terms (T₀ n d) (U d)) 0 f) (frac (d + n) 0 r)) (frac 1 0 (2 ^ 52))) turned_F (subst (λ (s : ℕ). Bound (sub_f (frac s 0 F) (frac (d + n) 0 r)) (frac 1 0 (2 ^ 52))) (add_comm E O ∙ sym sum_is) (hi (E + O) F (d + n) r plus_hi, lo (E + O) F (d + n) r plus_lo))
        where
          hi : (s f b r : ℕ) → s * r ≤ f * b → (s * r + 0 * f) * 2 ^ 52 + 0 * (f * r) ≤ 1 * (f * r) + (0 * r + b * f) * 2 ^ 52
          hi s f b r h = lin (s * r) (f * b) (b * f) (f * r) f r h (mul_comm b f)
            where
              lin : (x y w z f r : ℕ) → x ≤ y → w ≡ y → (x + 0 * f) * 2 ^ 52 + 0 * z ≤ 1 * z + (0 * r + w) * 2 ^ 52
              lin x y w z f r h e = omega arith

          lo : (s f b r : ℕ) → 2 ^ 52 * (f * b) ≤ 2 ^ 52 * (s * r) + f * r → (0 * r + b * f) * 2 ^ 52 + 0 * (f * r) ≤ 1 * (f * r) + (s * r + 0 * f) * 2 ^ 52
          lo s f b r h = lin (s * r) (f * b) (b * f) (f * r) f r h (mul_comm b f)
            where
              lin : (x y w z f r : ℕ) → 2 ^ 52 * y ≤ 2 ^ 52 * x + z → w ≡ y → (0 * r + w) * 2 ^ 52 + 0 * z ≤ 1 * z + (x + 0 * f) * 2 ^ 52
              lin x y w z f r h e = omega arith

      near_difference : Bound (sub_f (frac E O (K * U d ^ 29)) (frac r 0 (d + n))) (frac 1 0 (2 ^ 52))
      near_difference = subst (λ (f : ℕ). Bound (sub_f (frac E O f) (frac r 0 (d + n))) (frac 1 0 (2 ^ 52))) turned_F (hi E O F (d + n) r minus_hi, lo E O F (d + n) r minus_lo)
        where
          hi : (e o f b r : ℕ) → 2 ^ 52 * (e * b) ≤ 2 ^ 52 * (o * b + f * r) + f * b → (e * b + 0 * f) * 2 ^ 52 + 0 * (f * b) ≤ 1 * (f * b) + (o * b + r * f) * 2 ^ 52
          hi e o f b r h = let z = simp ring at h in simp (ring, zero-mul) (omega arith)

          lo : (e o f b r : ℕ) → 2 ^ 52 * (o * b + f * r) ≤ 2 ^ 52 * (e * b) + f * b → (o * b + r * f) * 2 ^ 52 + 0 * (f * b) ≤ 1 * (f * b) + (e * b + 0 * f) * 2 ^ 52
          lo e o f b r h = let z = simp ring at h in simp (ring, zero-mul) (omega arith)

      pub exp_plus : Bound (sub_f (exp_sum (frac (T₀ n d) 0 (U d))) (frac (d + n) 0 r)) (frac 1 0 (2 ^ 52))
      exp_plus =
          let s = sum_up (T₀ n d) (U d) U_pos in
          let x = frac (all_terms (T₀ n d) (U d)) 0 (K * U d ^ 29) in
          let y = frac (d + n) 0 r in
          bound_eq (sub_f x y) (sub_f (exp_sum (frac (T₀ n d) 0 (U d))) y) (frac 1 0 (2 ^ 52)) (mul-pos F-pos rp)
          (add_mono_f (exp_sum (frac (T₀ n d) 0 (U d))) x (neg_f y) (neg_f y) s.0 (le_refl_f (neg_f y)), add_mono_f x (exp_sum (frac (T₀ n d) 0 (U d))) (neg_f y) (neg_f y) s.1 (le_refl_f (neg_f y))) near_sum

      pub exp_minus : Bound (sub_f (exp_sum (frac 0 (T₀ n d) (U d))) (frac r 0 (d + n))) (frac 1 0 (2 ^ 52))
      exp_minus =
          let s = sum_down (T₀ n d) (U d) U_pos in
          let x = frac E O (K * U d ^ 29) in
          let y = frac r 0 (d + n) in
          bound_eq (sub_f x y) (sub_f (exp_sum (frac 0 (T₀ n d) (U d))) y) (frac 1 0 (2 ^ 52)) (mul-pos F-pos b_pos)
          (add_mono_f (exp_sum (frac 0 (T₀ n d) (U d))) x (neg_f y) (neg_f y) s.0 (le_refl_f (neg_f y)), add_mono_f x (exp_sum (frac 0 (T₀ n d) (U d))) (neg_f y) (neg_f y) s.1 (le_refl_f (neg_f y))) near_difference
