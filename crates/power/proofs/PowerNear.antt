-- The power's distance: within 2 ^ -50 of every value of document 01's bracket. Assumes nothing.
use mathlib.Core.Path.{◌≡◌, refl, sym, ap, ap₂, ◌∙◌, subst}
use mathlib.Core.Bool.{Bool, true, false, cond, beq}
use Prim.Native.Nat.{ℕ, ◌+◌, ◌-◌, ◌*◌, ◌/◌, ◌^◌, ◌≤◌, ◌<◌}
use native.Mathlib.Nat.{le_trans, le_of_eq, lt_of_le_of_lt, add-le-add, mul_comm, mul_assoc, one-mul, zero-mul, mul-zero, add-zero, zero-add, mul-le-mul, mul-le-mul_right, le_of_mul-le-mul_right, div-mul-le_self, div-le_of_le-mul}
use native.Mathlib.Omega.{arith}
use lib.IntN.{ℤ}
use lib.Dec.{T, leb, lit<, lit≤}
use lib.Ieee.{Float, fin, up, down, binary64, fits, to_bits}
use lib.Ieee.Bits.{is_true}
use borrow.Author.Tests.{lt-ltb}
use Rattle.number.specs.Ans.{held, refused, ◌>>=◌, demand}
use Rattle.number.specs.Frac.{Frac, frac, Pos, le_f, neg_f, add_f, sub_f, mul_f, sgn, val_f}
use Rattle.number.proofs.Frac.{ring, val_f_pos, sgn_pos, add_f_pos, mul_f_pos, neg_f_pos, neg_right, le_refl_f}
use Rattle.number.specs.Domain.{base_inside, exponent_inside}
use Rattle.series.specs.Sums.{eq_f}
use Rattle.series.specs.Exact.{PowerValue}
use Rattle.series.specs.Distance.{within}
use Rattle.series.proofs.Constants.{leb→le_f}
use Rattle.series.proofs.Close.{Close}
use Rattle.fixed_point.proofs.Horner.{ring as sums}
use Rattle.logarithm.proofs.Fractions.{mul_plain, mul_neg_left, mul_neg_neg}
use Rattle.exponential.specs.Raise.{raise_of}
use Rattle.exponential.proofs.Bounds.{Bound, bound_eq, bound_up, bound_add, bound_mul}
use Rattle.exponential.proofs.Position.{M}
use Rattle.exponential.proofs.Value.{Within}
use Rattle.exponential.proofs.RaiseNear.{raise_finite, raise_near}
use Rattle.binary_log.specs.BinaryLog.{log_of}
use Rattle.power.specs.Power.{exponent_size, exponent_of, product_of, word_of, power_of, powf_of}
use Rattle.power.specs.declared.FixedExponent.{FixedExponent}
use Rattle.power.proofs.Exponents.{finite_is, sign_is, size_le, size_below, size_above, value_is}
use Rattle.power.proofs.LogNear.{signed_log, log_near, log_le}
use Rattle.power.proofs.Stages.{sum_range, difference_range}

-- ---- the product's floors: |y| is A / D, Y its size in units of 2 ^ -56; L the logarithm's in units of 2 ^ -61; V their product's in units of 2 ^ -53
module _ (A D Y L v : ℕ) (below : Y * D ≤ A * 2 ^ 56) (above : A * 2 ^ 56 ≤ (Y + 1) * D) (five : L ≤ 5 * 2 ^ 61) (v₀ : v * 2 ^ 64 ≤ Y * L) (v₁ : Y * L ≤ (v + 1) * 2 ^ 64) where
  product_lo : v * 256 * D ≤ A * L
  product_lo = le_of_mul-le-mul_right {k = 2 ^ 56} (le_trans (le_of_eq (a v D)) (le_trans (mul-le-mul_right D v₀) (le_trans (le_of_eq (b Y L D)) (le_trans (mul-le-mul_right L below) (le_of_eq (b A (2 ^ 56) L)))))) (lit< tt)
    where
      a : (v D : ℕ) → v * 256 * D * 2 ^ 56 ≡ v * 2 ^ 64 * D
      a v D = simp (mul_assoc, mul_comm) (omega arith)

      b : (x y z : ℕ) → x * y * z ≡ x * z * y
      b x y z = simp (mul_assoc, mul_comm)

  product_hi : A * L ≤ (8 * v + 13) * 32 * D
  product_hi = le_of_mul-le-mul_right {k = 2 ^ 56} (le_trans (le_of_eq (b A L (2 ^ 56))) (le_trans (mul-le-mul_right L above) (le_trans (le_of_eq (c Y D L)) (le_trans (mul-le-mul_right D (add-le-add v₁ five)) (le_of_eq (d v D)))))) (lit< tt)
    where
      b : (x y z : ℕ) → x * y * z ≡ x * z * y
      b x y z = simp (mul_assoc, mul_comm)

      c : (Y D L : ℕ) → (Y + 1) * D * L ≡ (Y * L + L) * D
      c Y D L = simp (ring, one-mul)

      d : (v D : ℕ) → ((v + 1) * 2 ^ 64 + 5 * 2 ^ 61) * D ≡ (8 * v + 13) * 32 * D * 2 ^ 56
      d v D = ap (λ (z : ℕ). z * D) (lin v) ∙ b ((8 * v + 13) * 32) (2 ^ 56) D
        where
          lin : (v : ℕ) → (v + 1) * 2 ^ 64 + 5 * 2 ^ 61 ≡ (8 * v + 13) * 32 * 2 ^ 56
          lin v = omega arith

-- ---- as a distance of fractions, T being 2 ^ 53
module _ (a D v T₁ : ℕ) (lo : v * 256 * D ≤ a) (hi : a ≤ (8 * v + 13) * 32 * D) where
  gap_sum : (x : ℕ) → Bound (sub_f (frac a 0 (D * (256 * T₁))) (frac (x + v) x T₁)) (frac 13 0 (8 * T₁))
  gap_sum x = (one a D v T₁ x hi, two a D v T₁ x lo)
    where
      one : (a D v T₁ x : ℕ) → a ≤ (8 * v + 13) * 32 * D → le_f (sub_f (frac a 0 (D * (256 * T₁))) (frac (x + v) x T₁)) (frac 13 0 (8 * T₁))
      one a D v T₁ x h = let z = simp ring at (mul-le-mul_right (T₁ * T₁ * 8) h) in simp (ring, zero-mul, add-zero) (omega arith)

      two : (a D v T₁ x : ℕ) → v * 256 * D ≤ a → le_f (neg_f (sub_f (frac a 0 (D * (256 * T₁))) (frac (x + v) x T₁))) (frac 13 0 (8 * T₁))
      two a D v T₁ x h = let z = simp ring at (mul-le-mul_right (T₁ * T₁ * 8) h) in simp (ring, zero-mul, add-zero, zero-add) (omega arith)

  gap_difference : (w : ℕ) → Bound (sub_f (frac 0 a (D * (256 * T₁))) (frac w (w + v) T₁)) (frac 13 0 (8 * T₁))
  gap_difference w = (one a D v T₁ w lo, two a D v T₁ w hi)
    where
      one : (a D v T₁ w : ℕ) → v * 256 * D ≤ a → le_f (sub_f (frac 0 a (D * (256 * T₁))) (frac w (w + v) T₁)) (frac 13 0 (8 * T₁))
      one a D v T₁ w h = let z = simp ring at (mul-le-mul_right (T₁ * T₁ * 8) h) in simp (ring, zero-mul, add-zero, zero-add) (omega arith)

      two : (a D v T₁ w : ℕ) → a ≤ (8 * v + 13) * 32 * D → le_f (neg_f (sub_f (frac 0 a (D * (256 * T₁))) (frac w (w + v) T₁))) (frac 13 0 (8 * T₁))
      two a D v T₁ w h = let z = simp ring at (mul-le-mul_right (T₁ * T₁ * 8) h) in simp (ring, zero-mul, add-zero, zero-add) (omega arith)

-- y log2 x against the word
word_near : (s t : Bool) (A D L v : ℕ) → v ≤ 1022 * 2 ^ 53 → v * 256 * D ≤ A * L → A * L ≤ (8 * v + 13) * 32 * D
    → Bound (sub_f (mul_f (sgn s A D) (sgn t L (2 ^ 61))) (frac (cond (beq t s) (1023 * 2 ^ 53 + v) (1023 * 2 ^ 53 - v)) (1023 * 2 ^ 53) (2 ^ 53))) (frac 13 0 (2 ^ 56))
word_near s t A D L v small lo hi = go s t
  where
    less : (v : ℕ) → v ≤ 1022 * 2 ^ 53 → 1023 * 2 ^ 53 - v + v ≡ 1023 * 2 ^ 53
    less v h = omega arith

    plus : (p : Frac) → p ≡ frac (A * L) 0 (D * 2 ^ 61) → Bound (sub_f p (frac (1023 * 2 ^ 53 + v) (1023 * 2 ^ 53) (2 ^ 53))) (frac 13 0 (2 ^ 56))
    plus p e = subst (λ (p : Frac). Bound (sub_f p (frac (1023 * 2 ^ 53 + v) (1023 * 2 ^ 53) (2 ^ 53))) (frac 13 0 (2 ^ 56))) (sym e) (gap_sum (A * L) D v (2 ^ 53) lo hi (1023 * 2 ^ 53))

    minus : (p : Frac) → p ≡ frac 0 (A * L) (D * 2 ^ 61) → Bound (sub_f p (frac (1023 * 2 ^ 53 - v) (1023 * 2 ^ 53) (2 ^ 53))) (frac 13 0 (2 ^ 56))
    minus p e = subst (λ (p : Frac). Bound (sub_f p (frac (1023 * 2 ^ 53 - v) (1023 * 2 ^ 53) (2 ^ 53))) (frac 13 0 (2 ^ 56))) (sym e) (subst (λ (y : ℕ). Bound (sub_f (frac 0 (A * L) (D * 2 ^ 61)) (frac (1023 * 2 ^ 53 - v) y (2 ^ 53))) (frac 13 0 (2 ^ 56))) (less v small) (gap_difference (A * L) D v (2 ^ 53) lo hi (1023 * 2 ^ 53 - v)))

    go : (s t : Bool) → Bound (sub_f (mul_f (sgn s A D) (sgn t L (2 ^ 61))) (frac (cond (beq t s) (1023 * 2 ^ 53 + v) (1023 * 2 ^ 53 - v)) (1023 * 2 ^ 53) (2 ^ 53))) (frac 13 0 (2 ^ 56))
    go false false = plus (mul_f (frac A 0 D) (frac L 0 (2 ^ 61))) (mul_plain A D L (2 ^ 61))
    go true true = plus (mul_f (frac 0 A D) (frac 0 L (2 ^ 61))) (mul_neg_neg (frac A 0 D) (frac L 0 (2 ^ 61)) ∙ mul_plain A D L (2 ^ 61))
    go true false = minus (mul_f (frac 0 A D) (frac L 0 (2 ^ 61))) (mul_neg_left (frac A 0 D) (frac L 0 (2 ^ 61)) ∙ ap neg_f (mul_plain A D L (2 ^ 61)))
    go false true = minus (mul_f (frac A 0 D) (frac 0 L (2 ^ 61))) (neg_right (frac A 0 D) (frac L 0 (2 ^ 61)) ∙ ap neg_f (mul_plain A D L (2 ^ 61)))

-- ---- y l - w M = y (l - k M) + (y k - w) M
parts : (y l k w m : Frac) → eq_f (sub_f (mul_f y l) (mul_f w m)) (add_f (mul_f y (sub_f l (mul_f k m))) (mul_f (sub_f (mul_f y k) w) m))
parts (frac a b c) (frac p n d) (frac x x' u) (frac w w' t) (frac m m' q) = (le_of_eq (simp sums), le_of_eq (simp sums))

-- 192 · 24 / 2 ^ 66 plus 13 / 2 ^ 56 ln 2 is at most 217 / 2 ^ 60
sizes : le_f (add_f (mul_f (frac 192 0 1) (frac 24 0 (2 ^ 66))) (mul_f (frac 13 0 (2 ^ 56)) M)) (frac 217 0 (2 ^ 60))
sizes = leb→le_f (add_f (mul_f (frac 192 0 1) (frac 24 0 (2 ^ 66))) (mul_f (frac 13 0 (2 ^ 56)) M)) (frac 217 0 (2 ^ 60)) tt

module _ (y l k w : Frac) (Y : Pos y) (L : Pos l) (K : Pos k) (W : Pos w) (hy : Bound y (frac 192 0 1)) (hl : Bound (sub_f l (mul_f k M)) (frac 24 0 (2 ^ 66))) (hw : Bound (sub_f (mul_f y k) w) (frac 13 0 (2 ^ 56))) where
  product_near : Bound (sub_f (mul_f y l) (mul_f w M)) (frac 217 0 (2 ^ 60))
  product_near =
      let a = mul_f y (sub_f l (mul_f k M)) in
      let b = mul_f (sub_f (mul_f y k) w) M in
      let a' = mul_f (frac 192 0 1) (frac 24 0 (2 ^ 66)) in
      let b' = mul_f (frac 13 0 (2 ^ 56)) M in
      let MP : Pos M = lit< tt in
      let A = mul_f_pos y (sub_f l (mul_f k M)) Y (add_f_pos l (neg_f (mul_f k M)) L (neg_f_pos (mul_f k M) (mul_f_pos k M K MP))) in
      let B = mul_f_pos (sub_f (mul_f y k) w) M (add_f_pos (mul_f y k) (neg_f w) (mul_f_pos y k Y K) (neg_f_pos w W)) MP in
      bound_eq (add_f a b) (sub_f (mul_f y l) (mul_f w M)) (frac 217 0 (2 ^ 60)) (add_f_pos a b A B) (parts y l k w M)
      (bound_up (add_f a b) (add_f a' b') (frac 217 0 (2 ^ 60)) (lit< tt) sizes
      (bound_add a b a' b' (bound_mul y (sub_f l (mul_f k M)) (frac 192 0 1) (frac 24 0 (2 ^ 66)) hy hl) (bound_mul (sub_f (mul_f y k) w) M (frac 13 0 (2 ^ 56)) M hw (le_refl_f M, lit≤ tt))))

-- ---- the law
loosen : (r e : Frac) → Within (2 ^ 60) (216 + 3 * 217) r e → within (2 ^ 50) r e
loosen (frac p n d) (frac q k c) h = go ((p * c + k * d - (n * c + q * d)) + (n * c + q * d - (p * c + k * d))) ((q - k) + (k - q)) c (d * c) h
  where
    go : (x y c z : ℕ) → (2 ^ 60 * x + 0 * 0) * (1 * c) + ((216 + 3 * 217) * 0 + 0 * y) * (1 * z) ≤ ((216 + 3 * 217) * y + 0 * 0) * (1 * z) + (2 ^ 60 * 0 + 0 * x) * (1 * c) → (2 ^ 50 * x + 0 * 0) * c + 0 * (1 * z) ≤ y * (1 * z) + (2 ^ 50 * 0 + 0 * x) * c
    go x y c z h =
        let u = simp (ring, one-mul, mul-zero, zero-mul, add-zero) at h in
        simp (ring, one-mul, mul-zero, zero-mul, add-zero) (omega arith)

-- the exponent's value in fixed point
exponent_is : (y : Float) → T (exponent_inside y) → (exponent_of y).size ≡ exponent_size (to_bits binary64 y)
exponent_is y h = ap (λ (r : FixedExponent). r.size) (sym (value_is y true (sym (is_true (exponent_inside y) h)) (exponent_size (to_bits binary64 y)) refl refl))

negative_is : (y : Float) → T (exponent_inside y) → (exponent_of y).negative ≡ leb (2 ^ 63) (to_bits binary64 y)
negative_is y h = ap (λ (r : FixedExponent). r.negative) (sym (value_is y true (sym (is_true (exponent_inside y) h)) (exponent_size (to_bits binary64 y)) refl refl))

next : (x : ℕ) → x ≤ (x / 2 ^ 64 + 1) * 2 ^ 64
next x = omega arith

-- 192 · 5 is below the product's limit
product_le : (Y L : ℕ) → Y ≤ 192 * 2 ^ 56 → L ≤ 5 * 2 ^ 61 → Y * L / 2 ^ 64 ≤ 960 * 2 ^ 53
product_le Y L h k = div-le_of_le-mul (2 ^ 64) (le_trans (mul-le-mul h k) (lit≤ tt))

module _ (x : Float) (fx : T (fits binary64 x)) (hx : T (base_inside x)) (s : Bool) (m : ℕ) (e : ℤ) (fy : T (fits binary64 (fin s m e))) (hy : T (exponent_inside (fin s m e))) (bound : m * up e ≤ 192 * down e) where
  abbrev y : Float
  y = fin s m e

  abbrev L : ℕ
  L = (log_of x).size

  abbrev Y : ℕ
  Y = exponent_size (to_bits binary64 y)

  abbrev v : ℕ
  v = Y * L / 2 ^ 64

  v_le : v ≤ 1022 * 2 ^ 53
  v_le = le_trans (product_le Y L (size_le s m e fy bound) (log_le x fx hx)) (lit≤ tt)

  product_v : product_of L Y ≡ v
  product_v = ap (λ (t : Bool). cond t v (1022 * 2 ^ 53)) (lt-ltb v (1022 * 2 ^ 53) (lt_of_le_of_lt (product_le Y L (size_le s m e fy bound) (log_le x fx hx)) (lit< tt)))

  word_is : word_of (log_of x) (exponent_of y) ≡ cond (beq (log_of x).negative s) (1023 * 2 ^ 53 + v) (1023 * 2 ^ 53 - v)
  unfolding word_of
  word_is =
      ap₂ (λ (t : Bool) (n : ℕ). cond (beq (log_of x).negative t) (1023 * 2 ^ 53 + product_of L n) (1023 * 2 ^ 53 - product_of L n)) (negative_is y hy ∙ sym (sign_is s m e fy bound)) (exponent_is y hy)
      ∙ ap (λ (n : ℕ). cond (beq (log_of x).negative s) (1023 * 2 ^ 53 + n) (1023 * 2 ^ 53 - n)) product_v

  word_range : (t : Bool) → (2 ^ 53 ≤ cond t (1023 * 2 ^ 53 + v) (1023 * 2 ^ 53 - v)) × (cond t (1023 * 2 ^ 53 + v) (1023 * 2 ^ 53 - v) < 2046 * 2 ^ 53)
  word_range true = sum_range v v_le
  word_range false = difference_range v v_le

  y_bound : Bound (val_f y) (frac 192 0 1)
  y_bound = go s
    where
      go : (s : Bool) → Bound (sgn s (m * up e) (down e)) (frac 192 0 1)
      go false = (one (m * up e) (down e) bound, two (m * up e) (down e))
        where
          one : (a d : ℕ) → a ≤ 192 * d → a * 1 + 0 * d ≤ 192 * d + 0 * 1
          one a d h = omega arith

          two : (a d : ℕ) → 0 * 1 + 0 * d ≤ 192 * d + a * 1
          two a d = omega arith
      go true = (two (m * up e) (down e), one (m * up e) (down e) bound)
        where
          one : (a d : ℕ) → a ≤ 192 * d → a * 1 + 0 * d ≤ 192 * d + 0 * 1
          one a d h = omega arith

          two : (a d : ℕ) → 0 * 1 + 0 * d ≤ 192 * d + a * 1
          two a d = omega arith

  raised_near : (r : Frac) → PowerValue (val_f x) (val_f y) r → Close (within (2 ^ 50)) (raise_of (word_of (log_of x) (exponent_of y))) r
  raised_near r p =
      subst (λ (w : ℕ). Close (within (2 ^ 50)) (raise_of w) r) (sym word_is) (
        raise_finite w (word_range t).1,
        loosen (val_f (raise_of w)) r
            (raise_near w 217 (mul_f (val_f y) p.l) r (word_range t).0 (word_range t).1 (lit≤ tt) (mul_f_pos (val_f y) p.l (val_f_pos y) p.is_ln.proper.0)
            (product_near (val_f y) p.l (signed_log (log_of x)) (frac w (1023 * 2 ^ 53) (2 ^ 53)) (val_f_pos y) p.is_ln.proper.0 (sgn_pos (log_of x).negative L (2 ^ 61) (lit< tt)) (lit< tt) y_bound (log_near x fx hx p.l p.is_ln)
            (word_near s (log_of x).negative (m * up e) (down e) L v v_le (product_lo (m * up e) (down e) Y L v below above (log_le x fx hx) (div-mul-le_self (Y * L) (2 ^ 64)) (next (Y * L))) (product_hi (m * up e) (down e) Y L v below above (log_le x fx hx) (div-mul-le_self (Y * L) (2 ^ 64)) (next (Y * L)))))
            p.is_exp),
      )
    where
      t : Bool
      t = beq (log_of x).negative s

      w : ℕ
      w = cond (beq (log_of x).negative s) (1023 * 2 ^ 53 + v) (1023 * 2 ^ 53 - v)

      below : Y * down e ≤ m * up e * 2 ^ 56
      below = size_below s m e fy bound

      above : m * up e * 2 ^ 56 ≤ (Y + 1) * down e
      above = size_above s m e fy bound

-- 'The distance holds from every value in the bracket': whatever value `powf` holds, at all f64 x and y but the exponent 1, where it is x itself; and it is finite
pub power_near : (x y r : Float) (e : Frac) → T (fits binary64 x) → T (fits binary64 y) → (exponent_of y).one ≡ false → powf_of x y ≡ held r → PowerValue (val_f x) (val_f y) e → Close (within (2 ^ 50)) r e
unfolding powf_of ◌>>=◌ demand power_of
power_near x y r e fx fy other h p = go (base_inside x) (exponent_inside y) refl refl h
  where
    never : refused 6 ≡ held r → ⊥
    never e = let z : ◌≡◌ {A = ℕ} 0 1 = cc in omega arith

    same : (a : Float) → held a ≡ held r → a ≡ r
    same a e = cc

    at : T (base_inside x) → T (exponent_inside y) → Close (within (2 ^ 50)) (raise_of (word_of (log_of x) (exponent_of y))) e
    at hx hy = by (finite_is y hy)
      where
        by : (s : Bool) × (m : ℕ) × (t : ℤ) × (y ≡ fin s m t) × (m * up t ≤ 192 * down t) → Close (within (2 ^ 50)) (raise_of (word_of (log_of x) (exponent_of y))) e
        by (s, m, t, q, b) = subst (λ (z : Float). Close (within (2 ^ 50)) (raise_of (word_of (log_of x) (exponent_of z))) e) (sym q) (raised_near x fx hx s m t (subst (λ (z : Float). T (fits binary64 z)) q fy) (subst (λ (z : Float). T (exponent_inside z)) q hy) b e (subst (λ (z : Float). PowerValue (val_f x) (val_f z) e) q p))

    go : (s t : Bool) → base_inside x ≡ s → exponent_inside y ≡ t → (demand 6 s >>= λ _. demand 6 t >>= λ _. held (power_of (log_of x) (exponent_of y))) ≡ held r → Close (within (2 ^ 50)) r e
    go false t q k h = absurd (never h)
    go true false q k h = absurd (never h)
    go true true q k h =
        subst (λ (z : Float). Close (within (2 ^ 50)) z e)
        (sym (ap (λ (t : Bool). cond t (log_of x).base (raise_of (word_of (log_of x) (exponent_of y)))) other) ∙ same (power_of (log_of x) (exponent_of y)) h)
        (at (subst T (sym q) tt) (subst T (sym k) tt))
