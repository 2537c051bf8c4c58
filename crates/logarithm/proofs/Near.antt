-- When a fraction keeps document 01's distance from every value of a bracket. Assumes nothing.
use mathlib.Core.Path.{◌≡◌, refl, sym, ap, ap₂, ◌∙◌, subst}
use mathlib.Core.Bool.{Bool, true, false}
use Prim.Native.Nat.{ℕ, ◌+◌, ◌-◌, ◌*◌, ◌^◌, ◌≤◌, ◌<◌}
use native.Mathlib.Nat.{le_trans, le_of_eq, le_of_lt, lt_of_not-le, mul_comm, mul_assoc, add-mul, mul-add, mul-zero, zero-mul, one-mul, add-zero, mul-le-mul_right, le_of_mul-le-mul_right, add-sub_of_le, add_comm, mul-pos, le_antisymm}
use native.Mathlib.Decide.{dec_le}
use native.Mathlib.Omega.{arith}
use lib.Dec.{lit<}
use Rattle.number.specs.Frac.{Frac, frac, le_f, neg_f, sgn}
use Rattle.number.proofs.Frac.{ring, neg_anti_f}
use Rattle.series.specs.Sums.{eq_f}
use Rattle.series.specs.Distance.{within}
use Rattle.logarithm.proofs.Fractions.{neg_cong}

-- ---- b |r - v| ≤ |v|, r = (p - n) / d and v = (q - m) / c, from what holds on either side; a - e stands for r - v
one_side : (b a e q m d c : ℕ) → e ≤ a → b * a + m * d ≤ b * e + q * d
    → (b * (a - e + (e - a)) + 0 * 0) * c + 0 * (1 * (d * c)) ≤ (q - m + (m - q)) * (1 * (d * c)) + (b * 0 + 0 * (a - e + (e - a))) * c
one_side b a e q m d c l h = subst (λ (z : ℕ). b * z + m * d ≤ b * e + q * d → (b * (z - e + (e - z)) + 0 * 0) * c + 0 * (1 * (d * c)) ≤ (q - m + (m - q)) * (1 * (d * c)) + (b * 0 + 0 * (z - e + (e - z))) * c) (add-sub_of_le l) (λ k. go (a - e) k) h
  where
    size : (t e : ℕ) → e + t - e + (e - (e + t)) ≡ t
    size t e = omega arith

    form : (b t c d x : ℕ) → b * t ≤ x * d → (b * t + 0 * 0) * c + 0 * (1 * (d * c)) ≤ x * (1 * (d * c)) + (b * 0 + 0 * t) * c
    form b t c d x h = le_trans (le_of_eq (ap₂ ◌+◌ (ap (λ (z : ℕ). (b * t + z) * c) (zero-mul 0) ∙ ap (λ (z : ℕ). z * c) (add-zero (b * t))) (zero-mul (1 * (d * c))) ∙ add-zero (b * t * c)))
        (le_trans (mul-le-mul_right c h) (le_trans (le_of_eq (mul_assoc x d c ∙ ap (λ (z : ℕ). x * z) (sym (one-mul (d * c))))) (more (x * (1 * (d * c))) ((b * 0 + 0 * t) * c))))
      where
        more : (x y : ℕ) → x ≤ x + y
        more x y = omega arith

    most : (q m : ℕ) → q ≤ m + (q - m + (m - q))
    most q m = omega arith

    under : (x y b : ℕ) → x + y ≤ b + y → x ≤ b
    under x y b h = omega arith

    -- b t + m d ≤ q d
    part : (b t e m q d : ℕ) → b * (e + t) + m * d ≤ b * e + q * d → b * t ≤ (q - m + (m - q)) * d
    part b t e m q d k =
        let u : b * t + m * d ≤ q * d = lin (b * e) (b * t) (m * d) (q * d) (le_trans (le_of_eq (ap (λ (z : ℕ). z + m * d) (sym (mul-add b e t)))) k) in
        under (b * t) (m * d) ((q - m + (m - q)) * d) (le_trans u (le_trans (mul-le-mul_right d (most q m)) (le_of_eq (add-mul m (q - m + (m - q)) d ∙ add_comm (m * d) ((q - m + (m - q)) * d)))))
      where
        lin : (x y z w : ℕ) → x + y + z ≤ x + w → y + z ≤ w
        lin x y z w h = omega arith

    go : (t : ℕ) → b * (e + t) + m * d ≤ b * e + q * d → (b * (e + t - e + (e - (e + t))) + 0 * 0) * c + 0 * (1 * (d * c)) ≤ (q - m + (m - q)) * (1 * (d * c)) + (b * 0 + 0 * (e + t - e + (e - (e + t)))) * c
    go t k = subst (λ (z : ℕ). (b * z + 0 * 0) * c + 0 * (1 * (d * c)) ≤ (q - m + (m - q)) * (1 * (d * c)) + (b * 0 + 0 * z) * c) (sym (size t e)) (form b t c d (q - m + (m - q)) (part b t e m q d k))

sides : (b p n d q m c : ℕ) → b * (p * c + m * d) + m * d ≤ b * (n * c + q * d) + q * d → b * (n * c + q * d) + m * d ≤ b * (p * c + m * d) + q * d → within b (frac p n d) (frac q m c)
sides b p n d q m c h k = go (dec_le (n * c + q * d) (p * c + m * d))
  where
    swap : (x y : ℕ) → y - x + (x - y) ≡ x - y + (y - x)
    swap x y = add_comm (y - x) (x - y)

    go : Dec (n * c + q * d ≤ p * c + m * d) → within b (frac p n d) (frac q m c)
    go (yes l) = one_side b (p * c + m * d) (n * c + q * d) q m d c l h
    go (no l) = subst (λ (z : ℕ). (b * z + 0 * 0) * c + 0 * (1 * (d * c)) ≤ (q - m + (m - q)) * (1 * (d * c)) + (b * 0 + 0 * z) * c) (swap (p * c + m * d) (n * c + q * d)) (one_side b (n * c + q * d) (p * c + m * d) q m d c (le_of_lt (lt_of_not-le l)) k)

-- r is A / C, and v lies from L / E up to U / E
-- b r ≤ (b + 1) v
upper_side : (b p n d q m c A C L E : ℕ) → 0 < C → 0 < E → p * C ≡ A * d + n * C → L * c + m * E ≤ q * E → b * A * E ≤ (b + 1) * L * C → b * (p * c + m * d) + m * d ≤ b * (n * c + q * d) + q * d
upper_side b p n d q m c A C L E cp ep e l h =
    le_of_mul-le-mul_right {k = C * E}
    (let x = simp ring at (ap (λ (z : ℕ). z * (b * c * E)) e) in
    let y = simp ring at (mul-le-mul_right (C * d) l) in
    let y' = simp ring at (mul-le-mul_right (b * (C * d)) l) in
    let z = simp ring at (mul-le-mul_right (c * d) h) in
    simp ring (omega arith))
    (mul-pos cp ep)

-- b v ≤ b r + v, b being k + 1
lower_side : (k p n d q m c A C U E : ℕ) → 0 < C → 0 < E → p * C ≡ A * d + n * C → q * E ≤ U * c + m * E → k * U * C ≤ (k + 1) * A * E → (k + 1) * (n * c + q * d) + m * d ≤ (k + 1) * (p * c + m * d) + q * d
lower_side k p n d q m c A C U E cp ep e l h =
    le_of_mul-le-mul_right {k = C * E}
    (let x = simp ring at (ap (λ (z : ℕ). z * (c * E)) e) in
    let x' = simp ring at (ap (λ (z : ℕ). z * (k * c * E)) e) in
    let y = simp ring at (mul-le-mul_right (k * (C * d)) l) in
    let z = simp ring at (mul-le-mul_right (c * d) h) in
    simp ring (omega arith))
    (mul-pos cp ep)

-- both signs in one: L / E ≤ |v| ≤ U / E, v negative where s is true
abbrev pub Low : Bool → ℕ → ℕ → Frac → Type 0
Low false L E v = le_f (frac L 0 E) v
Low true L E v = le_f v (frac 0 L E)

abbrev pub High : Bool → ℕ → ℕ → Frac → Type 0
High false U E v = le_f v (frac U 0 E)
High true U E v = le_f (frac 0 U E) v

plain_near : (b k : ℕ) → b ≡ k + 1 → (r v : Frac) (A C L U E : ℕ) → 0 < C → 0 < E → eq_f r (frac A 0 C) → le_f (frac L 0 E) v → le_f v (frac U 0 E) → b * A * E ≤ (b + 1) * L * C → k * U * C ≤ b * A * E → within b r v
plain_near b k e (frac p n d) (frac q m c) A C L U E cp ep same l u h h' =
    let x = lin (p * C) (A * d) (n * C) (le_antisymm same.0 same.1) in
    sides b p n d q m c (upper_side b p n d q m c A C L E cp ep x (low (L * c) (m * E) (q * E) l) h)
    (subst (λ (z : ℕ). z * (n * c + q * d) + m * d ≤ z * (p * c + m * d) + q * d) (sym e) (lower_side k p n d q m c A C U E cp ep x (high (q * E) (m * E) (U * c) u) (subst (λ (z : ℕ). k * U * C ≤ z * A * E) e h')))
  where
    lin : (x y z : ℕ) → x + 0 * d ≡ y + z → x ≡ y + z
    lin x y z h = omega arith

    low : (x y z : ℕ) → x + y ≤ z + 0 * c → x + y ≤ z
    low x y z h = omega arith

    high : (x y z : ℕ) → x + 0 * c ≤ z + y → x ≤ z + y
    high x y z h = omega arith

within_neg : (b : ℕ) (r v : Frac) → within b (neg_f r) (neg_f v) → within b r v
within_neg b (frac p n d) (frac q m c) h =
    subst (λ (z : ℕ). (b * z + 0 * 0) * c + 0 * (1 * (d * c)) ≤ (q - m + (m - q)) * (1 * (d * c)) + (b * 0 + 0 * z) * c) (add_comm (n * c + q * d - (p * c + m * d)) (p * c + m * d - (n * c + q * d)))
    (subst (λ (z : ℕ). (b * (n * c + q * d - (p * c + m * d) + (p * c + m * d - (n * c + q * d))) + 0 * 0) * c + 0 * (1 * (d * c)) ≤ z * (1 * (d * c)) + (b * 0 + 0 * (n * c + q * d - (p * c + m * d) + (p * c + m * d - (n * c + q * d)))) * c) (add_comm (m - q) (q - m)) h)

neg_low : (L E : ℕ) (v : Frac) → le_f v (frac 0 L E) → le_f (frac L 0 E) (neg_f v)
neg_low L E (frac q m c) h = neg_anti_f (frac q m c) (frac 0 L E) h

neg_high : (U E : ℕ) (v : Frac) → le_f (frac 0 U E) v → le_f (neg_f v) (frac U 0 E)
neg_high U E (frac q m c) h = neg_anti_f (frac 0 U E) (frac q m c) h

signed_near : (b k : ℕ) → b ≡ k + 1 → (s : Bool) (r v : Frac) (A C L U E : ℕ) → 0 < C → 0 < E → eq_f r (sgn s A C) → Low s L E v → High s U E v → b * A * E ≤ (b + 1) * L * C → k * U * C ≤ b * A * E → within b r v
signed_near b k e false r v A C L U E cp ep same l u h h' = plain_near b k e r v A C L U E cp ep same l u h h'
signed_near b k e true r v A C L U E cp ep same l u h h' = within_neg b r v (plain_near b k e (neg_f r) (neg_f v) A C L U E cp ep (neg_cong r (frac 0 A C) same) (neg_low L E v l) (neg_high U E v u) h h')

-- ---- what a number y of units 1 / E keeps: it is rounded to A / C, and v lies within e units of it
pub rounded_near : (s : Bool) (r v : Frac) (y e A C E : ℕ) → 0 < C → 0 < E → eq_f r (sgn s A C) → A * E * 2 ^ 53 ≤ y * (2 ^ 53 + 1) * C → y * (2 ^ 53 - 1) * C ≤ A * E * 2 ^ 53 → 2 ^ 49 * e ≤ y
    → Low s (y - e) E v → High s (y + e) E v → within (2 ^ 48) r v
rounded_near s r v y e A C E cp ep same h k far l u =
    signed_near (2 ^ 48) 281474976710655 refl s r v A C (y - e) (y + e) E cp ep same l u
    (le_trans (le_of_eq (mul_assoc (2 ^ 48) A E)) (le_trans (first (A * E) ((y - e) * C) (le_trans h (le_trans (mul-le-mul_right C (one y e far)) (le_of_eq (t (y - e) (2 ^ 53 + 32) C))))) (le_of_eq (sym (mul_assoc (2 ^ 48 + 1) (y - e) C)))))
    (le_trans (le_of_eq (mul_assoc 281474976710655 (y + e) C)) (le_trans (second (A * E) ((y + e) * C) (le_trans (le_of_eq (sym (t (y + e) (2 ^ 53 - 32) C))) (le_trans (mul-le-mul_right C (two y e far)) k))) (le_of_eq (sym (mul_assoc (2 ^ 48) A E)))))
  where
    one : (y e : ℕ) → 2 ^ 49 * e ≤ y → y * (2 ^ 53 + 1) ≤ (y - e) * (2 ^ 53 + 32)
    one y e h = omega arith

    two : (y e : ℕ) → 2 ^ 49 * e ≤ y → (y + e) * (2 ^ 53 - 32) ≤ y * (2 ^ 53 - 1)
    two y e h = omega arith

    t : (x y z : ℕ) → x * y * z ≡ x * z * y
    t x y z = mul_assoc x y z ∙ ap (λ (w : ℕ). x * w) (mul_comm y z) ∙ sym (mul_assoc x z y)

    first : (a u : ℕ) → a * 2 ^ 53 ≤ u * (2 ^ 53 + 32) → 2 ^ 48 * a ≤ (2 ^ 48 + 1) * u
    first a u h = omega arith

    second : (a u : ℕ) → u * (2 ^ 53 - 32) ≤ a * 2 ^ 53 → 281474976710655 * u ≤ 2 ^ 48 * a
    second a u h = omega arith

-- nothing is the only value of an empty bracket at 0
pub zero_near : (b k : ℕ) → b ≡ k + 1 → (r v : Frac) → eq_f r (frac 0 0 1) → le_f (frac 0 0 1) v → le_f v (frac 0 0 1) → within b r v
zero_near b k e r v same l u = plain_near b k e r v 0 1 0 0 1 (lit< tt) (lit< tt) same l u (le_of_eq (none b ∙ sym (none (b + 1)))) (le_of_eq (none k ∙ sym (none b)))
  where
    none : (x : ℕ) → x * 0 * 1 ≡ 0
    none x = ap (λ (z : ℕ). z * 1) (mul-zero x) ∙ zero-mul 1
