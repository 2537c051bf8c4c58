-- Horner's rule in fixed point against the exact polynomial at a fraction n / d: bounds from below and from above. Assumes nothing.
use mathlib.Core.Path.{◌≡◌, sym, ap, ◌∙◌}
use mathlib.Core.List.{List, [], ◌∷◌}
use mathlib.Core.Bool.{Bool, true, false, ◌&&◌}
use Prim.Native.Nat.{ℕ, zero, suc, ◌+◌, ◌*◌, ◌/◌, ◌^◌, ◌≤◌, ◌<◌}
use native.Mathlib.Nat.{le_trans, le_of_eq, add-le-add, mul-add, add-mul, mul_assoc, mul_comm, mul_left_comm, add_assoc, add_comm, add_left_comm, mul-le-mul, mul-le-mul_left, mul-le-mul_right, le_of_mul-le-mul_right, div-mul-le_self, div-le_of_le-mul, lt-div-mul-add, le_of_lt, zero-mul, one-mul, pow-suc}
use native.Mathlib.Omega.{arith}
use lib.Dec.{T, leb, leb→le, lit<, lit≤}
use lib.ListN.{length}
use lib.Ieee.Fits.{and_l, and_r}
use Rattle.fixed_point.specs.Horner.{horner}
use Rattle.fixed_point.proofs.Polynomial.{hom}

pub ruleset ring = (mul-add, add-mul, mul_assoc, mul_comm, mul_left_comm, add_assoc, add_comm, add_left_comm)

pub ruleset ac = (mul_assoc, mul_comm, mul_left_comm)

-- ---- one step, from below
pub step_lo : (c a K s f h Q W n d p H : ℕ) → 0 < W → c * K ≤ a * s → f * W ≤ h * Q → Q * d ≤ n * W → h * K * p ≤ s * H * d
    → (c + f) * K * (p * d) ≤ s * (a * p + n * H) * d
step_lo c a K s f h Q W n d p H w h1 h2 h3 h4 =
    let e1 : c * K * (p * d) ≤ a * s * (p * d) = mul-le-mul_right (p * d) h1 in
    let e2 : f * W * (K * p * d) ≤ h * Q * (K * p * d) = mul-le-mul_right (K * p * d) h2 in
    let e3 : h * Q * (K * p * d) ≡ h * K * p * (Q * d) = simp ac in
    let e4 : h * K * p * (Q * d) ≤ s * H * d * (n * W) = mul-le-mul h4 h3 in
    let e5 : f * K * (p * d) * W ≡ f * W * (K * p * d) = simp ac in
    let e6 : s * H * d * (n * W) ≡ s * (n * H) * d * W = simp ac in
    let e7 : f * K * (p * d) ≤ s * (n * H) * d = le_of_mul-le-mul_right (le_trans (le_of_eq e5) (le_trans e2 (le_trans (le_of_eq e3) (le_trans e4 (le_of_eq e6))))) w in
    le_trans (le_of_eq (split c f K (p * d))) (le_trans (add-le-add e1 e7) (le_of_eq (join a s p n H d)))
  where
    split : (c f K x : ℕ) → (c + f) * K * x ≡ c * K * x + f * K * x
    split c f K x = simp ring

    join : (a s p n H d : ℕ) → a * s * (p * d) + s * (n * H) * d ≡ s * (a * p + n * H) * d
    join a s p n H d = simp ring

-- ---- one step, from above: E' is E / g and one more
pub step_hi : (c a K s f h Q W n d p H e E E' g : ℕ) → 0 < W → a * s ≤ (c + 1) * K → h * Q ≤ (f + 1) * W → h ≤ W → n * W ≤ (Q + e) * d → g * n ≤ d → E ≤ E' * g
    → s * H * d ≤ (h + E) * K * p
    → s * (a * p + n * H) * d ≤ (c + f + (2 + e + E')) * K * (p * d)
step_hi c a K s f h Q W n d p H e E E' g w h1 h2 h3 h4 h5 h6 h7 =
    let t1 : n * h * W ≤ (f + 1 + e) * d * W =
    le_trans (le_of_eq (x1 n h W)) (le_trans (mul-le-mul_left h h4) (le_trans (le_of_eq (x2 h Q e d)) (le_trans (mul-le-mul_right d (add-le-add h2 (mul-le-mul_right e h3))) (le_of_eq (x3 f W e d))))) in
    let t2 : n * h ≤ (f + 1 + e) * d = le_of_mul-le-mul_right t1 w in
    let t3 : n * E ≤ E' * d = le_trans (mul-le-mul_left n h6) (le_trans (le_of_eq (x4 n E' g)) (mul-le-mul_left E' h5)) in
    let t4 : n * (h + E) ≤ (f + 1 + e + E') * d = le_trans (le_of_eq (mul-add n h E)) (le_trans (add-le-add t2 t3) (le_of_eq (sym (add-mul (f + 1 + e) E' d)))) in
    let t5 : n * (s * H * d) ≤ n * ((h + E) * K * p) = mul-le-mul_left n h7 in
    let t6 : n * ((h + E) * K * p) ≤ (f + 1 + e + E') * d * (K * p) = le_trans (le_of_eq (x5 n (h + E) K p)) (mul-le-mul_right (K * p) t4) in
    let t7 : a * s * (p * d) ≤ (c + 1) * K * (p * d) = mul-le-mul_right (p * d) h1 in
    le_trans (le_of_eq (x6 s a p n H d)) (le_trans (add-le-add t7 (le_trans t5 t6)) (le_of_eq (x7 c f e E' K p d)))
  where
    x1 : (n h W : ℕ) → n * h * W ≡ h * (n * W)
    x1 n h W = simp ac

    x2 : (h Q e d : ℕ) → h * ((Q + e) * d) ≡ (h * Q + h * e) * d
    x2 h Q e d = simp ring

    x3 : (f W e d : ℕ) → ((f + 1) * W + W * e) * d ≡ (f + 1 + e) * d * W
    x3 f W e d = simp ring

    x4 : (n E' g : ℕ) → n * (E' * g) ≡ E' * (g * n)
    x4 n E' g = simp ac

    x5 : (n x K p : ℕ) → n * (x * K * p) ≡ n * x * (K * p)
    x5 n x K p = simp ac

    x6 : (s a p n H d : ℕ) → s * (a * p + n * H) * d ≡ a * s * (p * d) + n * (s * H * d)
    x6 s a p n H d = simp ring

    x7 : (c f e E' K p d : ℕ) → (c + 1) * K * (p * d) + (f + 1 + e + E') * d * (K * p) ≡ (c + f + (2 + e + E')) * K * (p * d)
    x7 c f e E' K p d = two c f e E' (K * (p * d)) ((c + 1) * K * (p * d)) ((f + 1 + e + E') * d * (K * p)) (mul_assoc (c + 1) K (p * d)) (y (f + 1 + e + E') d K p) ∙ sym (mul_assoc (c + f + (2 + e + E')) K (p * d))
      where
        y : (x d K p : ℕ) → x * d * (K * p) ≡ x * (K * (p * d))
        y x d K p = simp ac

        two : (c f e E' X u v : ℕ) → u ≡ (c + 1) * X → v ≡ (f + 1 + e + E') * X → u + v ≡ (c + f + (2 + e + E')) * X
        two c f e E' X u v p q = ap (λ (z : ℕ). z + v) p ∙ ap (λ (z : ℕ). (c + 1) * X + z) q ∙ sym (add-mul (c + 1) (f + 1 + e + E') X) ∙ ap (λ (z : ℕ). z * X) (lin c f e E')
          where
            lin : (c f e E' : ℕ) → c + 1 + (f + 1 + e + E') ≡ c + f + (2 + e + E')
            lin c f e E' = omega arith

-- ---- the tests on coefficients, which antt computes
-- each c / s is at most its a / K, and there are no more of the c
abbrev pub belowb : ℕ → ℕ → List ℕ → List ℕ → Bool
belowb K s [] ps = true
belowb K s (c ∷ cs) [] = false
belowb K s (c ∷ cs) (a ∷ ps) = leb (c * K) (a * s) && belowb K s cs ps

-- each a / K is at most its (c + 1) / s; those that no c stands for are at most m
abbrev pub aboveb : ℕ → ℕ → ℕ → List ℕ → List ℕ → Bool
aboveb K s m [] [] = true
aboveb K s m [] (a ∷ ps) = leb a m && aboveb K s m [] ps
aboveb K s m (c ∷ cs) [] = false
aboveb K s m (c ∷ cs) (a ∷ ps) = leb (a * s) ((c + 1) * K) && aboveb K s m cs ps

-- the error after k steps with the factor at most 1 / g, e the error of q, t that of the start
abbrev pub err : ℕ → ℕ → ℕ → ℕ → ℕ
err g e t zero = t
err g e t (suc k) = 2 + e + (err g e t k / g + 1)

-- each coefficient is at most 2 ^ 63, so that Horner's sums stay at 2 ^ 64 or below for q at most a half
abbrev pub smallb : List ℕ → Bool
smallb [] = true
smallb (c ∷ cs) = leb c (2 ^ 63) && smallb cs

pub half_of : (h Q : ℕ) → h ≤ 2 ^ 64 → h * Q / 2 ^ 64 ≤ Q
half_of h Q u = div-le_of_le-mul (2 ^ 64) (mul-le-mul_right Q u)

pub fits : (cs : List ℕ) (Q : ℕ) → Q ≤ 2 ^ 63 → T (smallb cs) → horner cs Q ≤ 2 ^ 64
unfolding horner
fits [] Q q t = lit≤ tt
fits (c ∷ cs) Q q t =
    both c (horner cs Q * Q / 2 ^ 64) Q (leb→le c (2 ^ 63) (and_l (leb c (2 ^ 63)) (smallb cs) t)) (half_of (horner cs Q) Q (fits cs Q q (and_r (leb c (2 ^ 63)) (smallb cs) t))) q
  where
    both : (c x Q : ℕ) → c ≤ 2 ^ 63 → x ≤ Q → Q ≤ 2 ^ 63 → c + x ≤ 2 ^ 64
    both c x Q a b d = omega arith

module _ (K s Q n d : ℕ) where
  -- from below
  pub lower : (cs ps : List ℕ) → T (belowb K s cs ps) → Q * d ≤ n * 2 ^ 64 → horner cs Q * K * d ^ length ps ≤ s * hom ps n d * d
  unfolding horner hom
  lower [] ps t hq = le_trans (le_of_eq (rw (zero-mul, zero-mul))) (nothing (s * hom ps n d * d))
    where
      nothing : (x : ℕ) → 0 ≤ x
      nothing x = omega arith
  lower (c ∷ cs) [] t hq = absurd t
  lower (c ∷ cs) (a ∷ ps) t hq =
      let f = horner cs Q * Q / 2 ^ 64 in
      rw (pow-suc d (length ps))
      (step_lo c a K s f (horner cs Q) Q (2 ^ 64) n d (d ^ length ps) (hom ps n d) (lit< tt)
      (leb→le (c * K) (a * s) (and_l (leb (c * K) (a * s)) (belowb K s cs ps) t))
      (div-mul-le_self (horner cs Q * Q) (2 ^ 64))
      hq
      (lower cs ps (and_r (leb (c * K) (a * s)) (belowb K s cs ps) t) hq))

  -- the terms that the program leaves out
  pub rest : (m : ℕ) (ps : List ℕ) → T (aboveb K s m [] ps) → 2 * n ≤ d → hom ps n d * d ≤ 2 * m * d ^ length ps
  unfolding hom
  rest m [] t h = le_trans (le_of_eq (zero-mul d)) (nothing (2 * m * d ^ 0))
    where
      nothing : (x : ℕ) → 0 ≤ x
      nothing x = omega arith
  rest m (a ∷ ps) t h =
      let p = d ^ length ps in
      let H = hom ps n d in
      let am : a ≤ m = leb→le a m (and_l (leb a m) (aboveb K s m [] ps) t) in
      let ih : H * d ≤ 2 * m * p = rest m ps (and_r (leb a m) (aboveb K s m [] ps) t) h in
      rw (pow-suc d (length ps)) (one a m n d p H am h ih)
    where
      z1 : (a p n H d : ℕ) → (a * p + n * H) * d ≡ a * (p * d) + n * (H * d)
      z1 a p n H d = simp ring

      z2 : (n m p : ℕ) → n * (2 * m * p) ≡ m * p * (2 * n)
      z2 n m p = simp ac

      z3 : (m p d : ℕ) → m * (p * d) + m * p * d ≡ 2 * m * (p * d)
      z3 m p d = dbl (m * (p * d)) (m * p * d) (2 * m * (p * d)) (mul_assoc m p d) (mul_assoc 2 m (p * d))
        where
          dbl : (x y z : ℕ) → y ≡ x → z ≡ 2 * x → x + y ≡ z
          dbl x y z p q = omega arith

      one : (a m n d p H : ℕ) → a ≤ m → 2 * n ≤ d → H * d ≤ 2 * m * p → (a * p + n * H) * d ≤ 2 * m * (p * d)
      one a m n d p H am h ih =
          le_trans (le_of_eq (z1 a p n H d))
          (le_trans (add-le-add (mul-le-mul_right (p * d) am) (le_trans (mul-le-mul_left n ih) (le_trans (le_of_eq (z2 n m p)) (mul-le-mul_left (m * p) h))))
          (le_of_eq (z3 m p d)))

  -- from above
  pub upper : (g e m t : ℕ) (cs ps : List ℕ) → T (aboveb K s m cs ps) → n * 2 ^ 64 ≤ (Q + e) * d → g * n ≤ d → 2 ≤ g
      → s * (2 * m) ≤ t * K
      → Q ≤ 2 ^ 63 → T (smallb cs)
      → s * hom ps n d * d ≤ (horner cs Q + err g e t (length cs)) * K * d ^ length ps
  unfolding horner hom
  upper g e m t [] ps ok hq hg g2 tt' qh sm =
      let two : 2 * n ≤ d = le_trans (mul-le-mul_right n g2) hg in
      base s m t K (hom ps n d) d (d ^ length ps) (rest m ps ok two) tt'
    where
      b1 : (s H d : ℕ) → s * H * d ≡ s * (H * d)
      b1 s H d = mul_assoc s H d

      b2 : (s m p : ℕ) → s * (2 * m * p) ≡ s * (2 * m) * p
      b2 s m p = sym (mul_assoc s (2 * m) p)

      z : (t K p : ℕ) → t * K * p ≡ (0 + t) * K * p
      z t K p = ap (λ (x : ℕ). x * K * p) (lin t)
        where
          lin : (t : ℕ) → t ≡ 0 + t
          lin t = omega arith

      base : (s m t K H d p : ℕ) → H * d ≤ 2 * m * p → s * (2 * m) ≤ t * K → s * H * d ≤ (0 + t) * K * p
      base s m t K H d p h k = le_trans (le_of_eq (b1 s H d)) (le_trans (mul-le-mul_left s h) (le_trans (le_of_eq (b2 s m p)) (le_trans (mul-le-mul_right p k) (le_of_eq (z t K p)))))
  upper g e m t (c ∷ cs) [] ok hq hg g2 tt' qh sm = absurd ok
  upper g e m t (c ∷ cs) (a ∷ ps) ok hq hg g2 tt' qh sm =
      let sm' = and_r (leb c (2 ^ 63)) (smallb cs) sm in
      let h = horner cs Q in
      let f = h * Q / 2 ^ 64 in
      let E = err g e t (length cs) in
      rw (pow-suc d (length ps))
      (step_hi c a K s f h Q (2 ^ 64) n d (d ^ length ps) (hom ps n d) e E (E / g + 1) g (lit< tt)
      (leb→le (a * s) ((c + 1) * K) (and_l (leb (a * s) ((c + 1) * K)) (aboveb K s m cs ps) ok))
      (next (h * Q))
      (fits cs Q qh sm') hq hg (over E g g2)
      (upper g e m t cs ps (and_r (leb (a * s) ((c + 1) * K)) (aboveb K s m cs ps) ok) hq hg g2 tt' qh sm'))
    where
      next : (x : ℕ) → x ≤ (x / 2 ^ 64 + 1) * 2 ^ 64
      next x = omega arith

      over : (E g : ℕ) → 2 ≤ g → E ≤ (E / g + 1) * g
      over E g h = le_trans (le_of_lt (lt-div-mul-add {a = E} {b = g} (pos g h))) (le_of_eq (fin (E / g) g))
        where
          pos : (g : ℕ) → 2 ≤ g → 0 < g
          pos g h = omega arith

          fin : (x g : ℕ) → x * g + g ≡ (x + 1) * g
          fin x g = simp (add-mul, one-mul)
