-- Exponent 1 gives the base, and so is within 2 ^ -48 of every value of document 01's bracket: exp of ln x is near x. Assumes nothing.
use mathlib.Core.Path.{◌≡◌, refl, sym, ap, ◌∙◌, subst}
use Prim.Native.Nat.{ℕ, ◌+◌, ◌-◌, ◌*◌, ◌^◌, ◌≤◌, ◌<◌}
use native.Mathlib.Nat.{le_trans, le_of_eq, add-mul, one-mul, zero-mul, mul-zero, add-zero, mul-le-mul_right, le_of_mul-le-mul_right, le_dest, mul-pos}
use native.Mathlib.Omega.{arith}
use lib.Dec.{lit<, lit≤}
use Rattle.number.specs.Frac.{Frac, frac, Pos, le_f, zero_f, neg_f, add_f, sub_f, mul_f}
use Rattle.number.proofs.Frac.{ring, le_trans_f, le_refl_f, add_mono_f, add_f_pos, mul_f_pos, neg_f_pos}
use Rattle.fixed_point.proofs.Horner.{ring as sums}
use Rattle.series.specs.Sums.{nat_f, abs_f, eq_f}
use Rattle.series.specs.Distance.{within}
use Rattle.series.proofs.Fractions.{abs_pos}
use Rattle.exponential.proofs.Bounds.{Bound, bound_eq, bound_up, bound_add, scaled}
use Rattle.exponential.proofs.Value.{Within, abs_le, le_abs}

-- ---- two values that are near one number, and one of them near x: the other is near x
abs_neg : (x : Frac) → le_f (neg_f x) (abs_f x)
abs_neg (frac p n d) = go p n d (more p n)
  where
    more : (p n : ℕ) → n ≤ (p - n) + (n - p) + p
    more p n = omega arith

    go : (p n d : ℕ) → n ≤ (p - n) + (n - p) + p → n * d + 0 * d ≤ ((p - n) + (n - p)) * d + p * d
    go p n d h = le_trans (le_of_eq (ap (λ (y : ℕ). n * d + y) (zero-mul d) ∙ add-zero (n * d))) (le_trans (mul-le-mul_right d h) (le_of_eq (add-mul ((p - n) + (n - p)) p d)))

pub turned : (x a : Frac) → Bound x a → Bound (neg_f x) a
turned (frac p n d) a h = (h.1, h.0)

-- a distance as a bound
over : (b a y c e k : ℕ) → le_f (mul_f (nat_f b) (frac y 0 c)) (mul_f (nat_f a) (frac e 0 k)) → le_f (frac y 0 c) (mul_f (frac a 0 b) (frac e 0 k))
over b a y c e k h = go b a y c e k h
  where
    go : (b a y c e k : ℕ) → (b * y + 0 * 0) * (1 * k) + (a * 0 + 0 * e) * (1 * c) ≤ (a * e + 0 * 0) * (1 * c) + (b * 0 + 0 * y) * (1 * k) → y * (b * k) + (a * 0 + 0 * e) * c ≤ (a * e + 0 * 0) * c + 0 * (b * k)
    go b a y c e k h = let z = simp (ring, one-mul, mul-zero, zero-mul, add-zero) at h in simp (ring, mul-zero, zero-mul, add-zero) z

near_abs : (r e : Frac) (a : ℕ) → Pos r → Pos e → Within (2 ^ 60) a r e → Bound (sub_f r e) (mul_f (frac a 0 (2 ^ 60)) (abs_f e))
near_abs (frac p n d) (frac q m c) a R E h =
    let x = sub_f (frac p n d) (frac q m c) in
    let y = over (2 ^ 60) a ((p * c + m * d - (n * c + q * d)) + (n * c + q * d - (p * c + m * d))) (d * c) ((q - m) + (m - q)) c h in
    (le_trans_f x (abs_f x) (mul_f (frac a 0 (2 ^ 60)) (abs_f (frac q m c))) (mul-pos R E) (le_abs x) y, le_trans_f (neg_f x) (abs_f x) (mul_f (frac a 0 (2 ^ 60)) (abs_f (frac q m c))) (mul-pos R E) (abs_neg x) y)

-- x - e = (r - e) - (r - f) - (f - x)
three : (x r e f : Frac) → eq_f (sub_f x e) (add_f (sub_f r e) (add_f (neg_f (sub_f r f)) (neg_f (sub_f f x))))
three (frac a b c) (frac p n d) (frac x x' u) (frac w w' t) = (le_of_eq (simp sums), le_of_eq (simp sums))

two : (x y : Frac) → eq_f y (add_f (sub_f y x) x)
two (frac a b c) (frac p n d) = (le_of_eq (simp sums), le_of_eq (simp sums))

-- ε (1 + η) x + η x, and (1 + η) x
grown : (c : ℕ) (x : Frac) → le_f (add_f (mul_f (frac c 0 (2 ^ 60)) x) x) (mul_f (frac (2 ^ 60 + c) 0 (2 ^ 60)) x)
grown c (frac p n d) = go c (2 ^ 60) p n d
  where
    go : (c u p n d : ℕ) → le_f (add_f (mul_f (frac c 0 u) (frac p n d)) (frac p n d)) (mul_f (frac (u + c) 0 u) (frac p n d))
    go c u p n d = simp (ring, zero-mul, add-zero) (omega arith)

joined : (a c u n y d : ℕ) → a * c ≤ 2 * u → le_f (add_f (mul_f (frac a 0 u) (mul_f (frac (u + c) 0 u) (frac (n + y) n d))) (mul_f (frac c 0 u) (frac (n + y) n d))) (mul_f (frac (a + c + 2) 0 u) (frac (n + y) n d))
joined a c u n y d h =
    let z = simp ring at (mul-le-mul_right (y * u * u * d * d) h) in
    simp (ring, zero-mul, add-zero) (omega arith)

-- D is at most 498 E plus 1012 x, in parts of 2 ^ 60, and x at most E plus D: D is at most E / 2 ^ 48
last : (D E x : Frac) → Pos D → Pos E → Pos x → le_f D (add_f (mul_f (frac 498 0 (2 ^ 60)) E) (mul_f (frac 1012 0 (2 ^ 60)) x)) → le_f x (add_f E D) → (δ c e k : ℕ) → D ≡ frac δ 0 c → E ≡ frac e 0 k → le_f (mul_f (nat_f (2 ^ 48)) D) E
last D E x DP EP XP h l δ c e k p q =
    subst (λ (D : Frac). le_f (mul_f (nat_f (2 ^ 48)) D) E) (sym p) (subst (λ (E : Frac). le_f (mul_f (nat_f (2 ^ 48)) (frac δ 0 c)) E) (sym q)
    (numbers δ c e k (subst Pos p DP) (subst Pos q EP)
    (subst (λ (D : Frac). le_f D (add_f (mul_f (frac 498 0 (2 ^ 60)) (frac e 0 k)) (mul_f (frac 1012 0 (2 ^ 60)) (add_f (frac e 0 k) D)))) p
    (subst (λ (E : Frac). le_f D (add_f (mul_f (frac 498 0 (2 ^ 60)) E) (mul_f (frac 1012 0 (2 ^ 60)) (add_f E D)))) q
    (le_trans_f D (add_f (mul_f (frac 498 0 (2 ^ 60)) E) (mul_f (frac 1012 0 (2 ^ 60)) x)) (add_f (mul_f (frac 498 0 (2 ^ 60)) E) (mul_f (frac 1012 0 (2 ^ 60)) (add_f E D)))
    (add_f_pos (mul_f (frac 498 0 (2 ^ 60)) E) (mul_f (frac 1012 0 (2 ^ 60)) x) (mul_f_pos (frac 498 0 (2 ^ 60)) E (lit< tt) EP) (mul_f_pos (frac 1012 0 (2 ^ 60)) x (lit< tt) XP)) h
    (add_mono_f (mul_f (frac 498 0 (2 ^ 60)) E) (mul_f (frac 498 0 (2 ^ 60)) E) (mul_f (frac 1012 0 (2 ^ 60)) x) (mul_f (frac 1012 0 (2 ^ 60)) (add_f E D)) (le_refl_f (mul_f (frac 498 0 (2 ^ 60)) E)) (scaled 1012 (2 ^ 60) x (add_f E D) l)))))))
  where
    numbers : (δ c e k : ℕ) → 0 < c → 0 < k → le_f (frac δ 0 c) (add_f (mul_f (frac 498 0 (2 ^ 60)) (frac e 0 k)) (mul_f (frac 1012 0 (2 ^ 60)) (add_f (frac e 0 k) (frac δ 0 c)))) → le_f (mul_f (nat_f (2 ^ 48)) (frac δ 0 c)) (frac e 0 k)
    numbers δ c e k C E h = fin δ c e k (lin (δ * k) (e * c) (le_of_mul-le-mul_right {k = c * k} (le_of_mul-le-mul_right {k = 2 ^ 60} (same (2 ^ 60) δ c e k h) (lit< tt)) (mul-pos C E)))
      where
        same : (u δ c e k : ℕ) → le_f (frac δ 0 c) (add_f (mul_f (frac 498 0 u) (frac e 0 k)) (mul_f (frac 1012 0 u) (add_f (frac e 0 k) (frac δ 0 c)))) → u * (δ * k) * (c * k) * u ≤ (1510 * (e * c) + 1012 * (δ * k)) * (c * k) * u
        same u δ c e k h = let z = simp (ring, mul-zero, zero-mul, add-zero) at h in simp ring (omega arith)

        lin : (x y : ℕ) → 2 ^ 60 * x ≤ 1510 * y + 1012 * x → 2 ^ 48 * x ≤ y
        lin x y h = omega arith

        fin : (δ c e k : ℕ) → 2 ^ 48 * (δ * k) ≤ e * c → (2 ^ 48 * δ + 0 * 0) * k + 0 * (1 * c) ≤ e * (1 * c) + (2 ^ 48 * 0 + 0 * δ) * k
        fin δ c e k h = let z = simp ring at h in simp (ring, one-mul, mul-zero, zero-mul, add-zero) (omega arith)

module _ (x r e f : Frac) (X : Pos x) (R : Pos r) (E : Pos e) (F : Pos f) (above : le_f zero_f x) (he : Within (2 ^ 60) 498 r e) (hf : Within (2 ^ 60) 498 r f) (hx : Bound (sub_f f x) (mul_f (frac 512 0 (2 ^ 60)) x)) where
  abbrev ε : Frac
  ε = frac 498 0 (2 ^ 60)

  abbrev η : Frac
  η = frac 512 0 (2 ^ 60)

  -- |x| ≤ x
  itself : Bound x x
  itself = (le_refl_f x, go x above)
    where
      go : (x : Frac) → le_f zero_f x → le_f (neg_f x) x
      go (frac p n d) h = nums p n d h
        where
          nums : (p n d : ℕ) → 0 * d + n * 1 ≤ p * 1 + 0 * d → n * d + n * d ≤ p * d + p * d
          nums p n d h = let z = mul-le-mul_right d (le_trans (le_of_eq (sym (a n d))) (le_trans h (le_of_eq (b p d)))) in lin (n * d) (p * d) z
            where
              a : (n d : ℕ) → 0 * d + n * 1 ≡ n
              a n d = omega arith

              b : (p d : ℕ) → p * 1 + 0 * d ≡ p
              b p d = omega arith

              lin : (x y : ℕ) → x ≤ y → x + x ≤ y + y
              lin x y h = omega arith

  η_pos : Pos (mul_f η x)
  η_pos = mul_f_pos η x (lit< tt) X

  f_le : le_f (abs_f f) (mul_f (frac (2 ^ 60 + 512) 0 (2 ^ 60)) x)
  f_le =
      abs_le f (mul_f (frac (2 ^ 60 + 512) 0 (2 ^ 60)) x)
      (bound_eq (add_f (sub_f f x) x) f (mul_f (frac (2 ^ 60 + 512) 0 (2 ^ 60)) x) (add_f_pos (sub_f f x) x (add_f_pos f (neg_f x) F (neg_f_pos x X)) X) (two x f)
      (bound_up (add_f (sub_f f x) x) (add_f (mul_f η x) x) (mul_f (frac (2 ^ 60 + 512) 0 (2 ^ 60)) x) (add_f_pos (mul_f η x) x η_pos X) (grown 512 x) (bound_add (sub_f f x) x (mul_f η x) x hx itself)))

  together : le_f (add_f (mul_f ε (mul_f (frac (2 ^ 60 + 512) 0 (2 ^ 60)) x)) (mul_f η x)) (mul_f (frac 1012 0 (2 ^ 60)) x)
  together = go x above
    where
      go : (x : Frac) → le_f zero_f x → le_f (add_f (mul_f ε (mul_f (frac (2 ^ 60 + 512) 0 (2 ^ 60)) x)) (mul_f η x)) (mul_f (frac 1012 0 (2 ^ 60)) x)
      go (frac p n d) h = by (le_dest (plain p n d h))
        where
          plain : (p n d : ℕ) → 0 * d + n * 1 ≤ p * 1 + 0 * d → n ≤ p
          plain p n d h = omega arith

          by : (y : ℕ) × (n + y ≡ p) → le_f (add_f (mul_f ε (mul_f (frac (2 ^ 60 + 512) 0 (2 ^ 60)) (frac p n d))) (mul_f η (frac p n d))) (mul_f (frac 1012 0 (2 ^ 60)) (frac p n d))
          by (y, q) = subst (λ (p : ℕ). le_f (add_f (mul_f ε (mul_f (frac (2 ^ 60 + 512) 0 (2 ^ 60)) (frac p n d))) (mul_f η (frac p n d))) (mul_f (frac 1012 0 (2 ^ 60)) (frac p n d))) q (joined 498 512 (2 ^ 60) n y d (lit≤ tt))

  apart : le_f (abs_f (sub_f x e)) (add_f (mul_f ε (abs_f e)) (mul_f (frac 1012 0 (2 ^ 60)) x))
  apart =
      let a = sub_f r e in
      let b = neg_f (sub_f r f) in
      let c = neg_f (sub_f f x) in
      let s = add_f a (add_f b c) in
      let A = add_f_pos r (neg_f e) R (neg_f_pos e E) in
      let B = neg_f_pos (sub_f r f) (add_f_pos r (neg_f f) R (neg_f_pos f F)) in
      let C₁ = neg_f_pos (sub_f f x) (add_f_pos f (neg_f x) F (neg_f_pos x X)) in
      let εE = mul_f_pos ε (abs_f e) (lit< tt) (abs_pos e E) in
      let εF = mul_f_pos ε (abs_f f) (lit< tt) (abs_pos f F) in
      let inner : le_f (add_f (mul_f ε (abs_f f)) (mul_f η x)) (mul_f (frac 1012 0 (2 ^ 60)) x) = le_trans_f (add_f (mul_f ε (abs_f f)) (mul_f η x)) (add_f (mul_f ε (mul_f (frac (2 ^ 60 + 512) 0 (2 ^ 60)) x)) (mul_f η x)) (mul_f (frac 1012 0 (2 ^ 60)) x) (add_f_pos (mul_f ε (mul_f (frac (2 ^ 60 + 512) 0 (2 ^ 60)) x)) (mul_f η x) (mul_f_pos ε (mul_f (frac (2 ^ 60 + 512) 0 (2 ^ 60)) x) (lit< tt) (mul_f_pos (frac (2 ^ 60 + 512) 0 (2 ^ 60)) x (lit< tt) X)) η_pos) (add_mono_f (mul_f ε (abs_f f)) (mul_f ε (mul_f (frac (2 ^ 60 + 512) 0 (2 ^ 60)) x)) (mul_f η x) (mul_f η x) (scaled 498 (2 ^ 60) (abs_f f) (mul_f (frac (2 ^ 60 + 512) 0 (2 ^ 60)) x) f_le) (le_refl_f (mul_f η x))) together in
      abs_le (sub_f x e) (add_f (mul_f ε (abs_f e)) (mul_f (frac 1012 0 (2 ^ 60)) x))
      (bound_eq s (sub_f x e) (add_f (mul_f ε (abs_f e)) (mul_f (frac 1012 0 (2 ^ 60)) x)) (add_f_pos a (add_f b c) A (add_f_pos b c B C₁)) (three x r e f)
      (bound_up s (add_f (mul_f ε (abs_f e)) (add_f (mul_f ε (abs_f f)) (mul_f η x))) (add_f (mul_f ε (abs_f e)) (mul_f (frac 1012 0 (2 ^ 60)) x)) (add_f_pos (mul_f ε (abs_f e)) (add_f (mul_f ε (abs_f f)) (mul_f η x)) εE (add_f_pos (mul_f ε (abs_f f)) (mul_f η x) εF η_pos))
      (add_mono_f (mul_f ε (abs_f e)) (mul_f ε (abs_f e)) (add_f (mul_f ε (abs_f f)) (mul_f η x)) (mul_f (frac 1012 0 (2 ^ 60)) x) (le_refl_f (mul_f ε (abs_f e))) inner)
      (bound_add a (add_f b c) (mul_f ε (abs_f e)) (add_f (mul_f ε (abs_f f)) (mul_f η x)) (near_abs r e 498 R E he)
      (bound_add b c (mul_f ε (abs_f f)) (mul_f η x) (turned (sub_f r f) (mul_f ε (abs_f f)) (near_abs r f 498 R F hf)) (turned (sub_f f x) (mul_f η x) hx)))))

  -- x ≤ |e| + |x - e|
  triangle : le_f x (add_f (abs_f e) (abs_f (sub_f x e)))
  triangle =
      le_trans_f x (add_f (sub_f x e) e) (add_f (abs_f e) (abs_f (sub_f x e))) (add_f_pos (sub_f x e) e (add_f_pos x (neg_f e) X (neg_f_pos e E)) E) (two e x).0
      (le_trans_f (add_f (sub_f x e) e) (add_f (abs_f (sub_f x e)) (abs_f e)) (add_f (abs_f e) (abs_f (sub_f x e))) (add_f_pos (abs_f (sub_f x e)) (abs_f e) (abs_pos (sub_f x e) (add_f_pos x (neg_f e) X (neg_f_pos e E))) (abs_pos e E))
      (add_mono_f (sub_f x e) (abs_f (sub_f x e)) e (abs_f e) (le_abs (sub_f x e)) (le_abs e)) (swap (abs_f (sub_f x e)) (abs_f e)))
    where
      swap : (a b : Frac) → le_f (add_f a b) (add_f b a)
      swap (frac p n d) (frac q m c) = le_of_eq (simp sums)

  pub close : within (2 ^ 48) x e
  close = go x e X E apart triangle
    where
      go : (x e : Frac) → Pos x → Pos e → le_f (abs_f (sub_f x e)) (add_f (mul_f ε (abs_f e)) (mul_f (frac 1012 0 (2 ^ 60)) x)) → le_f x (add_f (abs_f e) (abs_f (sub_f x e))) → within (2 ^ 48) x e
      go (frac p n d) (frac q m c) X E h k = last (abs_f (sub_f (frac p n d) (frac q m c))) (abs_f (frac q m c)) (frac p n d) (mul-pos X E) E X h k _ _ _ _ refl refl
