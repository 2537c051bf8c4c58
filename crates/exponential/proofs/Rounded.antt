-- The product and the quotient of f64s as rounded fractions, and a rounded fraction against its neighbours on a grid. Assumes nothing.
use mathlib.Core.Path.{◌≡◌, refl, sym, ap, ◌∙◌, subst}
use mathlib.Core.Bool.{Bool, true, false, true≢false}
use Prim.Native.Nat.{ℕ, ◌+◌, ◌*◌, ◌^◌, ◌≤◌, ◌<◌}
use native.Mathlib.Nat.{mul_assoc, mul_comm, mul_left_comm, zero-mul, mul-one, le_trans, lt_of_lt_of_le, mul-pos, mul-le-mul_left, mul-lt-mul_of_pos_right, le_of_mul-le-mul_right}
use native.Mathlib.Omega.{arith}
use lib.IntN.{pos}
use lib.Dec.{T, eqb, eqb→eq, not_T, lit≤}
use lib.Pow.{pow_pos, pow_mono}
use lib.Ieee.{Float, nan, inf, fin, up, down, unlike, binary64, of_int, mul, div, round, le, lt, eq}
use lib.Ieee.Back.{round_whole}
use lib.Ieee.Bits.{is_false}
use lib.Ieee.Exact.{HasValue, units_val, round_exact}
use lib.Ieee.Fits.{down_pos, round_is}
use lib.Ieee.Order.{kept, drop, transfer, round_mono}
use lib.Ieee.Scale.{grid, overflow, finite, round_val, round_under, round_same}
use Rattle.exponential.proofs.Decode.{or_le}

-- ---- whole numbers, products and quotients
abbrev pub whole : ℕ → Float
whole n = of_int binary64 (pos n)

pub whole_is : (n : ℕ) → n ≤ 2 ^ 53 → HasValue (whole n) false n 1
unfolding of_int
whole_is n h = round_whole binary64 false n h

-- a sign that no minus turns
same : (t s : Bool) → t ≡ s → unlike t false ≡ s
same false s p = p
same true s p = p

-- x = a / c times a whole number b
pub product_is : (s : Bool) (x y : Float) (a c b : ℕ) → 0 < c → HasValue x s a c → HasValue y false b 1 → mul binary64 x y ≡ round binary64 s (a * b) c
unfolding mul
product_is s nan y a c b P h k = absurd h
product_is s (inf t) y a c b P h k = absurd h
product_is s (fin t m e) nan a c b P h k = absurd k
product_is s (fin t m e) (inf u) a c b P h k = absurd k
product_is s (fin t m e) (fin true n d) a c b P h k = absurd (true≢false k.0)
product_is s (fin t m e) (fin false n d) a c b P h k = subst (λ (v : Bool). round binary64 v (m * up e * (n * up d)) (down e * down d) ≡ round binary64 s (a * b) c) (sym (same t s h.0)) (round_same binary64 s (m * up e * (n * up d)) (down e * down d) (a * b) c (mul-pos (down_pos e) (down_pos d)) P (cross (m * up e) (n * up d) (down e) (down d) h.1 k.1))
  where
    cross : (x y e d : ℕ) → x * c ≡ a * e → y * 1 ≡ b * d → x * y * c ≡ a * b * (e * d)
    cross x y e d p q = one x y c ∙ ap (λ (z : ℕ). z * y) p ∙ ap (λ (z : ℕ). a * e * z) (sym (mul-one y) ∙ q) ∙ two a b e d
      where
        one : (x y c : ℕ) → x * y * c ≡ x * c * y
        one x y c = simp (mul_assoc, mul_comm)

        two : (a b e d : ℕ) → a * e * (b * d) ≡ a * b * (e * d)
        two a b e d = simp (mul_assoc, mul_comm, mul_left_comm)

-- x = a / c over a whole number b
pub quotient_is : (s : Bool) (x y : Float) (a c b : ℕ) → 0 < c → 0 < b → HasValue x s a c → HasValue y false b 1 → div binary64 x y ≡ round binary64 s a (c * b)
unfolding div
quotient_is s nan y a c b C P h k = absurd h
quotient_is s (inf t) y a c b C P h k = absurd h
quotient_is s (fin t m e) nan a c b C P h k = absurd k
quotient_is s (fin t m e) (inf u) a c b C P h k = absurd k
quotient_is s (fin t m e) (fin true n d) a c b C P h k = absurd (true≢false k.0)
quotient_is s (fin t m e) (fin false n d) a c b C P h k = rw (is_false (eqb n 0) (not_T (eqb n 0) (λ (u : T (eqb n 0)). some (eqb→eq n 0 u)))) (subst (λ (v : Bool). round binary64 v (m * up e * down d) (n * up d * down e) ≡ round binary64 s a (c * b)) (sym (same t s h.0)) (round_same binary64 s (m * up e * down d) (n * up d * down e) a (c * b) (mul-pos (subst (λ (x : ℕ). 0 < x) (sym k.1 ∙ mul-one (n * up d)) (mul-pos P (down_pos d))) (down_pos e)) (mul-pos C P) (cross (m * up e) (n * up d) (down e) (down d) h.1 k.1)))
  where
    some : n ≡ 0 → ⊥
    some p = none (b * down d) (mul-pos P (down_pos d)) (sym k.1 ∙ ap (λ (n : ℕ). n * up d * 1) p ∙ ap (λ (x : ℕ). x * 1) (zero-mul (up d)))
      where
        none : (x : ℕ) → 0 < x → x ≡ 0 → ⊥
        none x h e = omega arith

    cross : (x y e d : ℕ) → x * c ≡ a * e → y * 1 ≡ b * d → x * d * (c * b) ≡ a * (y * e)
    cross x y e d p q = one x d c b ∙ ap (λ (z : ℕ). z * (b * d)) p ∙ ap (λ (z : ℕ). a * e * z) (sym q ∙ mul-one y) ∙ two a e y
      where
        one : (x d c b : ℕ) → x * d * (c * b) ≡ x * c * (b * d)
        one x d c b = simp (mul_assoc, mul_comm, mul_left_comm)

        two : (a e y : ℕ) → a * e * y ≡ a * (y * e)
        two a e y = simp (mul_assoc, mul_comm)

-- the order of two f64s, as numbers
le_values : (x y : Float) (a c b d : ℕ) → HasValue x false a c → HasValue y false b d → T (le x y) → a * d ≤ b * c
unfolding le lt eq
le_values nan y a c b d h k l = absurd h
le_values (inf s) y a c b d h k l = absurd h
le_values (fin true m e) y a c b d h k l = absurd (true≢false h.0)
le_values (fin false m e) nan a c b d h k l = absurd k
le_values (fin false m e) (inf s) a c b d h k l = absurd k
le_values (fin false m e) (fin true n f) a c b d h k l = absurd (true≢false k.0)
le_values (fin false m e) (fin false n f) a c b d h k l = transfer a b c d (m * up e) (n * up f) (down e) (down f) (down_pos e) (down_pos f) (sym h.1) (sym k.1) (or_le (m * up e * down f) (n * up f * down e) _ l)

between_finite : (x r y : Float) (a c b d : ℕ) → HasValue x false a c → HasValue y false b d → T (le x r) → T (le r y) → T (finite r)
unfolding le lt eq
between_finite nan r y a c b d h k l u = absurd h
between_finite (inf s) r y a c b d h k l u = absurd h
between_finite (fin s m e) r nan a c b d h k l u = absurd k
between_finite (fin s m e) r (inf t) a c b d h k l u = absurd k
between_finite (fin s m e) nan (fin t n f) a c b d h k l u = absurd l
between_finite (fin s m e) (inf true) (fin t n f) a c b d h k l u = absurd l
between_finite (fin s m e) (inf false) (fin t n f) a c b d h k l u = absurd u
between_finite (fin s m e) (fin v o g) (fin t n f) a c b d h k l u = tt

-- ---- a / b between k and k + 1 times 2 ^ j units: so is the rounded number
grid_at : (k j : ℕ) → k < 2 ^ 53 → j ≤ 2000 → HasValue (round binary64 false (k * 2 ^ j) (2 ^ 1074)) false (k * 2 ^ j) (2 ^ 1074)
grid_at k j h l = round_exact binary64 false (k * 2 ^ j) (2 ^ 1074) k j (pow_pos 1074) h (lt_of_lt_of_le (mul-lt-mul_of_pos_right {k = 2 ^ j} h (pow_pos j)) (le_trans (mul-le-mul_left (2 ^ 53) (pow_mono l)) (lit≤ tt))) refl

module _ (a b k j : ℕ) (P : 0 < b) (most : k + 1 < 2 ^ 53) (J : j ≤ 2000) (lo : k * 2 ^ j * b ≤ a * 2 ^ 1074) (hi : a * 2 ^ 1074 ≤ (k + 1) * 2 ^ j * b) where
  low : HasValue (round binary64 false (k * 2 ^ j) (2 ^ 1074)) false (k * 2 ^ j) (2 ^ 1074)
  low = grid_at k j (less k most) J
    where
      less : (k : ℕ) → k + 1 < 2 ^ 53 → k < 2 ^ 53
      less k h = omega arith

  high : HasValue (round binary64 false ((k + 1) * 2 ^ j) (2 ^ 1074)) false ((k + 1) * 2 ^ j) (2 ^ 1074)
  high = grid_at (k + 1) j most J

  from : T (le (round binary64 false (k * 2 ^ j) (2 ^ 1074)) (round binary64 false a b))
  from = round_mono binary64 (k * 2 ^ j) (2 ^ 1074) a b (pow_pos 1074) P lo

  to : T (le (round binary64 false a b) (round binary64 false ((k + 1) * 2 ^ j) (2 ^ 1074)))
  to = round_mono binary64 a b ((k + 1) * 2 ^ j) (2 ^ 1074) P (pow_pos 1074) hi

  abbrev pub z : ℕ
  z = grid binary64 a b

  in_range : z < overflow binary64
  in_range = round_under binary64 a b (between_finite (round binary64 false (k * 2 ^ j) (2 ^ 1074)) (round binary64 false a b) (round binary64 false ((k + 1) * 2 ^ j) (2 ^ 1074)) (k * 2 ^ j) (2 ^ 1074) ((k + 1) * 2 ^ j) (2 ^ 1074) low high from to)

  -- with either sign
  pub rounded_value : (s : Bool) → HasValue (round binary64 s a b) s z (2 ^ 1074)
  rounded_value s = subst (λ (x : Float). HasValue x s z (2 ^ 1074)) (sym (round_is binary64 s a b)) (units_val binary64 s (kept 53 (a * 2 ^ 1074) b) (drop 53 (a * 2 ^ 1074) b) in_range)

  pub rounded_lo : k * 2 ^ j ≤ z
  rounded_lo = le_of_mul-le-mul_right {k = 2 ^ 1074} (le_values (round binary64 false (k * 2 ^ j) (2 ^ 1074)) (round binary64 false a b) (k * 2 ^ j) (2 ^ 1074) z (2 ^ 1074) low (round_val binary64 a b in_range) from) (pow_pos 1074)

  pub rounded_hi : z ≤ (k + 1) * 2 ^ j
  rounded_hi = le_of_mul-le-mul_right {k = 2 ^ 1074} (le_values (round binary64 false a b) (round binary64 false ((k + 1) * 2 ^ j) (2 ^ 1074)) z (2 ^ 1074) ((k + 1) * 2 ^ j) (2 ^ 1074) (round_val binary64 a b in_range) high to) (pow_pos 1074)
