-- Horner's rule where q may also be too large, by e units: the bound from below with an error. With `Horner.upper` it bounds on both sides. Assumes nothing.
use mathlib.Core.Path.{◌≡◌}
use mathlib.Core.List.{List, [], ◌∷◌}
use Prim.Native.Nat.{ℕ, zero, suc, ◌+◌, ◌*◌, ◌/◌, ◌^◌, ◌≤◌, ◌<◌}
use native.Mathlib.Nat.{le_refl, le_trans, le_of_eq, add-le-add, add-mul, mul_assoc, mul-le-mul_left, mul-le-mul_right, le_of_mul-le-mul_right, div-mul-le_self, lt-div-mul-add, le_of_lt, zero-mul, one-mul, pow-suc}
use native.Mathlib.Omega.{arith}
use lib.Dec.{T, leb, leb→le, lit<}
use lib.ListN.{length}
use lib.Ieee.Fits.{and_l, and_r}
use Rattle.fixed_point.specs.Horner.{horner}
use Rattle.fixed_point.proofs.Polynomial.{hom}
use Rattle.fixed_point.proofs.Horner.{ring, ac, belowb, smallb, fits}

-- the error after k steps
abbrev pub under : ℕ → ℕ → ℕ → ℕ
under g e zero = 0
under g e (suc k) = e + (under g e k / g + 1)

pub step_lo2 : (c a K s f h Q W n d p H e E E' g : ℕ) → 0 < W → c * K ≤ a * s → f * W ≤ h * Q → Q * d ≤ n * W + e * d → h ≤ W → g * n ≤ d → E ≤ E' * g → h * K * p ≤ s * H * d + E * K * p
    → (c + f) * K * (p * d) ≤ s * (a * p + n * H) * d + (e + E') * K * (p * d)
step_lo2 c a K s f h Q W n d p H e E E' g w h1 h2 h3 h4 h5 h6 h7 =
    let t1 : f * d * W ≤ (n * h + e * d) * W =
    le_trans (le_of_eq (x1 f d W)) (le_trans (mul-le-mul_right d h2) (le_trans (le_of_eq (mul_assoc h Q d)) (le_trans (mul-le-mul_left h h3) (le_trans (le_of_eq (x2 h n W e d)) (le_trans (add-le-add (le_refl (n * h * W)) (mul-le-mul_right (e * d) h4)) (le_of_eq (x3 n h W e d))))))) in
    let t2 : f * d ≤ n * h + e * d = le_of_mul-le-mul_right t1 w in
    let t3 : f * d * (K * p) ≤ n * (h * K * p) + e * d * (K * p) = le_trans (mul-le-mul_right (K * p) t2) (le_of_eq (x4 n h e d K p)) in
    let t4 : n * (h * K * p) ≤ n * (s * H * d) + n * E * (K * p) = le_trans (mul-le-mul_left n h7) (le_of_eq (x5 n s H d E K p)) in
    let t5 : n * E * (K * p) ≤ E' * d * (K * p) = mul-le-mul_right (K * p) (le_trans (mul-le-mul_left n h6) (le_trans (le_of_eq (x6 n E' g)) (mul-le-mul_left E' h5))) in
    let t6 : c * K * (p * d) ≤ a * s * (p * d) = mul-le-mul_right (p * d) h1 in
    lin (c * K * (p * d)) (f * d * (K * p)) (n * (h * K * p)) (e * d * (K * p)) (n * (s * H * d)) (n * E * (K * p)) (E' * d * (K * p)) (a * s * (p * d)) ((c + f) * K * (p * d)) (s * (a * p + n * H) * d) ((e + E') * K * (p * d)) t3 t4 t5 t6 (y1 c f K p d) (y2 s a p n H d) (y3 e E' K p d)
  where
    x1 : (f d W : ℕ) → f * d * W ≡ f * W * d
    x1 f d W = simp ac

    x2 : (h n W e d : ℕ) → h * (n * W + e * d) ≡ n * h * W + h * (e * d)
    x2 h n W e d = simp ring

    x3 : (n h W e d : ℕ) → n * h * W + W * (e * d) ≡ (n * h + e * d) * W
    x3 n h W e d = simp ring

    x4 : (n h e d K p : ℕ) → (n * h + e * d) * (K * p) ≡ n * (h * K * p) + e * d * (K * p)
    x4 n h e d K p = simp ring

    x5 : (n s H d E K p : ℕ) → n * (s * H * d + E * K * p) ≡ n * (s * H * d) + n * E * (K * p)
    x5 n s H d E K p = simp ring

    x6 : (n E' g : ℕ) → n * (E' * g) ≡ E' * (g * n)
    x6 n E' g = simp ac

    y1 : (c f K p d : ℕ) → (c + f) * K * (p * d) ≡ c * K * (p * d) + f * d * (K * p)
    y1 c f K p d = simp ring

    y2 : (s a p n H d : ℕ) → s * (a * p + n * H) * d ≡ a * s * (p * d) + n * (s * H * d)
    y2 s a p n H d = simp ring

    y3 : (e E' K p d : ℕ) → (e + E') * K * (p * d) ≡ e * d * (K * p) + E' * d * (K * p)
    y3 e E' K p d = simp ring

    lin : (ck fk nh ed ns ne ed' as' L r1 r2 : ℕ) → fk ≤ nh + ed → nh ≤ ns + ne → ne ≤ ed' → ck ≤ as' → L ≡ ck + fk → r1 ≡ as' + ns → r2 ≡ ed + ed' → L ≤ r1 + r2
    lin ck fk nh ed ns ne ed' as' L r1 r2 a b c d e f g = omega arith

module _ (K s Q n d : ℕ) where
  pub lower2 : (g e : ℕ) (cs ps : List ℕ) → T (belowb K s cs ps) → Q * d ≤ n * 2 ^ 64 + e * d → g * n ≤ d → 2 ≤ g → Q ≤ 2 ^ 63 → T (smallb cs)
      → horner cs Q * K * d ^ length ps ≤ s * hom ps n d * d + under g e (length cs) * K * d ^ length ps
  unfolding horner hom
  lower2 g e [] ps t hq hg g2 qh sm = le_trans (le_of_eq (rw (zero-mul, zero-mul))) (nothing (s * hom ps n d * d + 0 * K * d ^ length ps))
    where
      nothing : (x : ℕ) → 0 ≤ x
      nothing x = omega arith
  lower2 g e (c ∷ cs) [] t hq hg g2 qh sm = absurd t
  lower2 g e (c ∷ cs) (a ∷ ps) t hq hg g2 qh sm =
      let sm' = and_r (leb c (2 ^ 63)) (smallb cs) sm in
      let h = horner cs Q in
      let E = under g e (length cs) in
      rw (pow-suc d (length ps))
      (step_lo2 c a K s (h * Q / 2 ^ 64) h Q (2 ^ 64) n d (d ^ length ps) (hom ps n d) e E (E / g + 1) g (lit< tt)
      (leb→le (c * K) (a * s) (and_l (leb (c * K) (a * s)) (belowb K s cs ps) t))
      (div-mul-le_self (h * Q) (2 ^ 64))
      hq (fits cs Q qh sm') hg (over E g g2)
      (lower2 g e cs ps (and_r (leb (c * K) (a * s)) (belowb K s cs ps) t) hq hg g2 qh sm'))
    where
      over : (E g : ℕ) → 2 ≤ g → E ≤ (E / g + 1) * g
      over E g h = le_trans (le_of_lt (lt-div-mul-add {a = E} {b = g} (pos g h))) (le_of_eq (fin (E / g) g))
        where
          pos : (g : ℕ) → 2 ≤ g → 0 < g
          pos g h = omega arith

          fin : (x g : ℕ) → x * g + g ≡ (x + 1) * g
          fin x g = simp (add-mul, one-mul)
