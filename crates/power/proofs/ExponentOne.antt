-- The exponent 1: the base is within 2 ^ -48 of every value of exp of its ln. Assumes nothing.
use mathlib.Core.Path.{◌≡◌, refl, sym, ap, ap₂, ◌∙◌, subst}
use mathlib.Core.Bool.{Bool, true, false}
use Prim.Native.Nat.{ℕ, ◌+◌, ◌-◌, ◌*◌, ◌/◌, ◌%◌, ◌^◌, ◌≤◌, ◌<◌}
use native.Mathlib.Nat.{le_trans, le_of_eq, le_of_lt, lt_of_not-le, mul_comm, mul_assoc, mul_left_comm, one-mul, zero-mul, mul-zero, add-zero, zero-add, mul-le-mul_left, mul-le-mul_right, le_of_mul-le-mul_right, mul-pos}
use native.Mathlib.Decide.{dec_le}
use native.Mathlib.Omega.{arith}
use lib.Pow.{pow-add}
use lib.Dec.{T, lit<, lit≤}
use lib.Ieee.{Float, binary64, fits, to_bits}
use Rattle.number.specs.Frac.{Frac, frac, Pos, le_f, lt_f, zero_f, neg_f, add_f, sub_f, mul_f, sgn, val_f}
use Rattle.number.proofs.Frac.{ring, le_trans_f, le_refl_f, lt_le_f, le_lt_trans_f, lt_le_trans_f, neg_anti_f, add_f_pos, mul_f_pos, neg_f_pos, sgn_pos, val_f_pos}
use Rattle.number.specs.Domain.{base_inside}
use Rattle.fixed_point.proofs.Horner.{ring as sums}
use Rattle.series.specs.Sums.{over_f, eq_f, scale_f}
use Rattle.series.specs.Exact.{middle, rest, exp_sum, LnValue, PowerValue}
use Rattle.series.specs.Distance.{within}
use Rattle.series.proofs.Constants.{mn, md, middle_is, leb→le_f}
use Rattle.logarithm.proofs.Split.{Exponent}
use Rattle.logarithm.proofs.Fractions.{add_cong, mul_cong, eq_refl_f, eq_trans_f}
use Rattle.exponential.proofs.Bounds.{Bound, bound_eq, bound_up, bound_add, bound_mul}
use Rattle.exponential.proofs.Position.{M}
use Rattle.exponential.specs.Raise.{raise_of}
use Rattle.exponential.proofs.RaiseNear.{raise_near}
use Rattle.binary_log.specs.BinaryLog.{place_of, significand_log}
use Rattle.binary_log.proofs.Base.{base_bits}
use Rattle.binary_log.proofs.Significand.{Near, Near-two, near, near_two, log_small, upper_half, lower_half}
use Rattle.logarithm.proofs.OddSeries.{Sum, whole}
use Rattle.power.proofs.Compose.{T₀, U, U_pos, exp_plus, exp_minus}
use Rattle.power.proofs.SeriesCut.{low, cut_near}
use Rattle.power.proofs.LogNear.{by_parts, scaled_value, power_is}
use Rattle.power.proofs.OneNear.{turned, close}
use Rattle.power.proofs.ExpLn.{half_is, half_pos, v_pos, moved_value, value_near}

-- ---- a number t a little nearer to 0 than τ = ± X / Y, which is at most 1/2 plus 2 ^ -60 of ln 2
module _ (s : Bool) (X Y : ℕ) (Yp : 0 < Y) (bound : X * md * 2 ^ 61 ≤ mn * (2 ^ 60 + 2) * Y) where
  abbrev t : Frac
  t = sgn s (X * (2 ^ 57 - 1)) (Y * 2 ^ 57)

  abbrev τ : Frac
  τ = sgn s X Y

  t_pos : Pos t
  t_pos = sgn_pos s (X * (2 ^ 57 - 1)) (Y * 2 ^ 57) (mul-pos Yp (lit< tt))

  τ_pos : Pos τ
  τ_pos = sgn_pos s X Y Yp

  -- X / Y is at most 9/25
  few : 25 * X ≤ 9 * Y
  few = le_of_mul-le-mul_right {k = md * 2 ^ 61} (le_trans (le_of_eq (a 25 X md (2 ^ 61))) (le_trans (mul-le-mul_left 25 bound) (le_trans (le_of_eq (b 25 (mn * (2 ^ 60 + 2)) Y)) (le_trans (mul-le-mul_right Y (lit≤ {m = 25 * (mn * (2 ^ 60 + 2))} {n = 9 * (md * 2 ^ 61)} tt)) (le_of_eq (c 9 (md * 2 ^ 61) Y)))))) (lit< tt)
    where
      a : (k x m u : ℕ) → k * x * (m * u) ≡ k * (x * m * u)
      a k x m u = simp mul_assoc

      b : (k x y : ℕ) → k * (x * y) ≡ k * x * y
      b k x y = sym (mul_assoc k x y)

      c : (k x y : ℕ) → k * x * y ≡ k * y * x
      c k x y = simp (mul_assoc, mul_comm)

  -- both are small
  t_small : Bound t (frac 9 0 25)
  t_small = go s
    where
      side : (x y : ℕ) → 25 * x ≤ 9 * y → x * (2 ^ 57 - 1) * 25 + 0 * (y * 2 ^ 57) ≤ 9 * (y * 2 ^ 57) + 0 * 25
      side x y h = omega arith

      other : (x y : ℕ) → 0 * 25 + 0 * (y * 2 ^ 57) ≤ 9 * (y * 2 ^ 57) + x * (2 ^ 57 - 1) * 25
      other x y = omega arith

      go : (s : Bool) → Bound (sgn s (X * (2 ^ 57 - 1)) (Y * 2 ^ 57)) (frac 9 0 25)
      go false = (side X Y few, other X Y)
      go true = (other X Y, side X Y few)

  τ_small : Bound τ (frac 9 0 25)
  τ_small = go s
    where
      side : (x y : ℕ) → 25 * x ≤ 9 * y → x * 25 + 0 * y ≤ 9 * y + 0 * 25
      side x y h = omega arith

      other : (x y : ℕ) → 0 * 25 + 0 * y ≤ 9 * y + x * 25
      other x y = omega arith

      go : (s : Bool) → Bound (sgn s X Y) (frac 9 0 25)
      go false = (side X Y few, other X Y)
      go true = (other X Y, side X Y few)

  -- and near each other
  t_near : Bound (sub_f t τ) (frac 3 0 (2 ^ 60))
  t_near = go s
    where
      below : (x y u v : ℕ) → u ≡ v + 1 → le_f (sub_f (frac (x * v) 0 (y * u)) (frac x 0 y)) (frac 3 0 (8 * u))
      below x y u v e = subst (λ (u : ℕ). le_f (sub_f (frac (x * v) 0 (y * u)) (frac x 0 y)) (frac 3 0 (8 * u))) (sym e) (simp (ring, one-mul, zero-mul, add-zero, zero-add) (omega arith))

      above : (x y u v : ℕ) → u ≡ v + 1 → 8 * x ≤ 3 * y → le_f (neg_f (sub_f (frac (x * v) 0 (y * u)) (frac x 0 y))) (frac 3 0 (8 * u))
      above x y u v e h = subst (λ (u : ℕ). le_f (neg_f (sub_f (frac (x * v) 0 (y * u)) (frac x 0 y))) (frac 3 0 (8 * u))) (sym e) (let z = simp ring at (mul-le-mul_right (y * (v + 1)) h) in simp (ring, one-mul, zero-mul, add-zero, zero-add) (omega arith))

      eight : (x y : ℕ) → 25 * x ≤ 9 * y → 8 * x ≤ 3 * y
      eight x y h = omega arith

      plus : Bound (sub_f (frac (X * (2 ^ 57 - 1)) 0 (Y * 2 ^ 57)) (frac X 0 Y)) (frac 3 0 (2 ^ 60))
      plus = (below X Y (2 ^ 57) (2 ^ 57 - 1) refl, above X Y (2 ^ 57) (2 ^ 57 - 1) refl (eight X Y few))

      go : (s : Bool) → Bound (sub_f (sgn s (X * (2 ^ 57 - 1)) (Y * 2 ^ 57)) (sgn s X Y)) (frac 3 0 (2 ^ 60))
      go false = plus
      go true = (plus.1, plus.0)

  -- t is within half of ln 2
  less : lt_f (frac (X * (2 ^ 57 - 1)) 0 (Y * 2 ^ 57)) (frac mn 0 (md * 2))
  less = fin X Y mn md (lin (X * md) (mn * Y) (mul-pos {m = mn} (lit< tt) Yp) (le_trans bound (le_of_eq (a mn (2 ^ 60 + 2) Y))))
    where
      a : (m c y : ℕ) → m * c * y ≡ m * y * c
      a m c y = simp (mul_assoc, mul_comm)

      lin : (a b : ℕ) → 0 < b → a * 2 ^ 61 ≤ b * (2 ^ 60 + 2) → a * (2 ^ 57 - 1) * 2 < b * 2 ^ 57
      lin a b h k = omega arith

      fin : (x y m q : ℕ) → x * q * (2 ^ 57 - 1) * 2 < m * y * 2 ^ 57 → x * (2 ^ 57 - 1) * (q * 2) + 0 * (y * 2 ^ 57) < m * (y * 2 ^ 57) + 0 * (q * 2)
      fin x y m q h = subst (λ (z : ℕ). z < m * (y * 2 ^ 57) + 0 * (q * 2)) (sym (c x q (2 ^ 57 - 1) y)) (subst (λ (z : ℕ). x * q * (2 ^ 57 - 1) * 2 < z) (sym (e m y (2 ^ 57) q)) h)
        where
          c : (x q v y : ℕ) → x * v * (q * 2) + 0 * (y * 2 ^ 57) ≡ x * q * v * 2
          c x q v y = ap₂ ◌+◌ (b x v q) (zero-mul (y * 2 ^ 57)) ∙ add-zero (x * q * v * 2)
            where
              b : (x v q : ℕ) → x * v * (q * 2) ≡ x * q * v * 2
              b x v q = simp (mul_assoc, mul_comm, mul_left_comm)

          e : (m y u q : ℕ) → m * (y * u) + 0 * (q * 2) ≡ m * y * u
          e m y u q = ap₂ ◌+◌ (sym (mul_assoc m y u)) (zero-mul (q * 2)) ∙ add-zero (m * y * u)

  t_range : le_f (neg_f (over_f middle 2)) t × lt_f t (over_f middle 2)
  t_range = go s
    where
      scaled_pos : 0 < Y * 2 ^ 57
      scaled_pos = mul-pos Yp (lit< tt)

      far : lt_f (frac (X * (2 ^ 57 - 1)) 0 (Y * 2 ^ 57)) (over_f middle 2)
      far = lt_le_trans_f (frac (X * (2 ^ 57 - 1)) 0 (Y * 2 ^ 57)) (frac mn 0 (md * 2)) (over_f middle 2) (lit< tt) half_pos less half_is.1

      zero_low : le_f (neg_f (over_f middle 2)) (frac 0 0 1)
      zero_low = le_trans_f (neg_f (over_f middle 2)) (frac 0 mn (md * 2)) (frac 0 0 1) (lit< tt) (neg_anti_f (frac mn 0 (md * 2)) (over_f middle 2) half_is.1) (lit≤ tt)

      zero_high : lt_f (frac 0 0 1) (over_f middle 2)
      zero_high = lt_le_trans_f (frac 0 0 1) (frac mn 0 (md * 2)) (over_f middle 2) (lit< tt) half_pos (lit< tt) half_is.1

      go : (s : Bool) → le_f (neg_f (over_f middle 2)) (sgn s (X * (2 ^ 57 - 1)) (Y * 2 ^ 57)) × lt_f (sgn s (X * (2 ^ 57 - 1)) (Y * 2 ^ 57)) (over_f middle 2)
      go false = (le_trans_f (neg_f (over_f middle 2)) (frac 0 0 1) (frac (X * (2 ^ 57 - 1)) 0 (Y * 2 ^ 57)) (lit< tt) zero_low (small (X * (2 ^ 57 - 1)) (Y * 2 ^ 57)), far)
        where
          small : (x y : ℕ) → 0 * y + 0 * 1 ≤ x * 1 + 0 * y
          small x y = omega arith
      go true = (neg_anti_f (frac (X * (2 ^ 57 - 1)) 0 (Y * 2 ^ 57)) (over_f middle 2) (lt_le_f (frac (X * (2 ^ 57 - 1)) 0 (Y * 2 ^ 57)) (over_f middle 2) far), le_lt_trans_f (frac 0 (X * (2 ^ 57 - 1)) (Y * 2 ^ 57)) (frac 0 0 1) (over_f middle 2) scaled_pos (lit< tt) (small (X * (2 ^ 57 - 1)) (Y * 2 ^ 57)) zero_high)
        where
          small : (x y : ℕ) → 0 * 1 + 0 * y ≤ 0 * y + x * 1
          small x y = omega arith

-- ---- twice the sum of 24 terms, p / q, is near the binary logarithm times ln 2: h is 2 ^ 60, ln 2 is m / l
one_hi : (m l h g p q : ℕ) → m ≤ 2 * l → 2 * (2 * h) * l * p ≤ m * (g + 1) * q → le_f (sub_f (frac (2 * p) 0 (1 * q)) (mul_f (frac g 0 (2 * h)) (frac m 0 l))) (frac 1 0 h)
one_hi m l h g p q c k =
    let y = simp ring at (mul-le-mul_right (q * h) c) in
    let z = simp (ring, one-mul) at (mul-le-mul_right h k) in
    simp (ring, one-mul, mul-zero, zero-mul, add-zero, zero-add) (omega arith)

one_lo : (m l h g p q : ℕ) → 34 * m ≤ 64 * l → 32 * (m * g * q) ≤ 32 * (2 * (2 * h) * l * p) + 34 * (m * q) → le_f (neg_f (sub_f (frac (2 * p) 0 (1 * q)) (mul_f (frac g 0 (2 * h)) (frac m 0 l)))) (frac 1 0 h)
one_lo m l h g p q c k =
    let y = simp ring at (mul-le-mul_right (q * h) c) in
    let z = simp ring at (mul-le-mul_right h k) in
    simp (ring, one-mul, mul-zero, zero-mul, add-zero, zero-add) (omega arith)

two_hi : (m l h g p q : ℕ) → 34 * m ≤ 64 * l → 32 * (2 * (2 * h) * l * p) + 32 * (m * g * q) ≤ 32 * (m * (2 * h) * q) + 34 * (m * q) → le_f (neg_f (sub_f (frac 0 (2 * p) (1 * q)) (mul_f (frac g (2 * h) (2 * h)) (frac m 0 l)))) (frac 1 0 h)
two_hi m l h g p q c k =
    let y = simp ring at (mul-le-mul_right (q * h) c) in
    let z = simp ring at (mul-le-mul_right h k) in
    simp (ring, one-mul, mul-zero, zero-mul, add-zero, zero-add) (omega arith)

two_lo : (m l h g p q : ℕ) → m ≤ 2 * l → m * (2 * h) * q ≤ 2 * (2 * h) * l * p + m * (g + 1) * q → le_f (sub_f (frac 0 (2 * p) (1 * q)) (mul_f (frac g (2 * h) (2 * h)) (frac m 0 l))) (frac 1 0 h)
two_lo m l h g p q c k =
    let y = simp ring at (mul-le-mul_right (q * h) c) in
    let z = simp (ring, one-mul) at (mul-le-mul_right h k) in
    simp (ring, one-mul, mul-zero, zero-mul, add-zero, zero-add) (omega arith)

one_log : (g p q : ℕ) → Near g p q → Bound (sub_f (frac (2 * p) 0 (1 * q)) (mul_f (frac g 0 (2 ^ 61)) M)) (frac 1 0 (2 ^ 60))
one_log g p q h = (one_hi mn md (2 ^ 60) g p q (lit≤ tt) h.0, one_lo mn md (2 ^ 60) g p q (lit≤ tt) h.1)

two_log : (g p q : ℕ) → Near-two g p q → Bound (sub_f (frac 0 (2 * p) (1 * q)) (mul_f (frac g (2 ^ 61) (2 ^ 61)) M)) (frac 1 0 (2 ^ 60))
two_log g p q h = (two_lo mn md (2 ^ 60) g p q (lit≤ tt) h.0, two_hi mn md (2 ^ 60) g p q (lit≤ tt) h.1)

-- ---- the word for the core: f plus g 2 ^ -61, cut to 2 ^ -53
abbrev word_for : ℕ → ℕ → ℕ
word_for f g = f * 2 ^ 53 + g / 256

module _ (f g : ℕ) where
  abbrev log : Frac
  log = frac (f * 2 ^ 61 + g) (1023 * 2 ^ 61) (2 ^ 61)

  abbrev word : Frac
  word = frac (word_for f g) (1023 * 2 ^ 53) (2 ^ 53)

  cut_word : Bound (sub_f log word) (frac 1 0 (2 ^ 53))
  cut_word = (hi f g (g / 256) 1023 (2 ^ 53) (next g), lo f g (g / 256) 1023 (2 ^ 53) (whole g))
    where
      next : (g : ℕ) → g ≤ 256 * (g / 256) + 256
      next g = omega arith

      whole : (g : ℕ) → 256 * (g / 256) ≤ g
      whole g = omega arith

      hi : (f g h x t : ℕ) → g ≤ 256 * h + 256 → le_f (sub_f (frac (f * (256 * t) + g) (x * (256 * t)) (256 * t)) (frac (f * t + h) (x * t) t)) (frac 1 0 t)
      hi f g h x t k = let z = simp ring at (mul-le-mul_right (t * t) k) in simp (ring, one-mul, zero-mul, add-zero) (omega arith)

      lo : (f g h x t : ℕ) → 256 * h ≤ g → le_f (neg_f (sub_f (frac (f * (256 * t) + g) (x * (256 * t)) (256 * t)) (frac (f * t + h) (x * t) t))) (frac 1 0 t)
      lo f g h x t k = let z = simp ring at (mul-le-mul_right (t * t) k) in simp (ring, one-mul, zero-mul, add-zero) (omega arith)

  -- what is near the logarithm times ln 2 is near the word times ln 2
  near_word : (v : Frac) → Pos v → Bound (sub_f v (mul_f log M)) (frac 5 0 (2 ^ 60)) → Bound (sub_f v (mul_f word M)) (frac 94 0 (2 ^ 60))
  near_word v vp h =
      bound_eq (add_f (sub_f v (mul_f log M)) (mul_f (sub_f log word) M)) (sub_f v (mul_f word M)) (frac 94 0 (2 ^ 60)) (add_f_pos (sub_f v (mul_f log M)) (mul_f (sub_f log word) M) (add_f_pos v (neg_f (mul_f log M)) vp (lit< tt)) (lit< tt)) (through v log word M)
      (bound_up (add_f (sub_f v (mul_f log M)) (mul_f (sub_f log word) M)) (add_f (frac 5 0 (2 ^ 60)) (mul_f (frac 1 0 (2 ^ 53)) M)) (frac 94 0 (2 ^ 60)) (lit< tt) (leb→le_f (add_f (frac 5 0 (2 ^ 60)) (mul_f (frac 1 0 (2 ^ 53)) M)) (frac 94 0 (2 ^ 60)) tt)
      (bound_add (sub_f v (mul_f log M)) (mul_f (sub_f log word) M) (frac 5 0 (2 ^ 60)) (mul_f (frac 1 0 (2 ^ 53)) M) h (bound_mul (sub_f log word) M (frac 1 0 (2 ^ 53)) M cut_word (le_refl_f M, lit≤ tt))))
    where
      through : (v a b m : Frac) → eq_f (sub_f v (mul_f b m)) (add_f (sub_f v (mul_f a m)) (mul_f (sub_f a b) m))
      through (frac p n d) (frac q k c) (frac x y z) (frac u w t) = (le_of_eq (simp sums), le_of_eq (simp sums))

-- ---- k ln 2 plus t, where k plus the rest y - y' of the logarithm is the logarithm
move : (a b x x' y y' u m q p n d : ℕ) → x + b * u + y' ≡ x' + a * u + y → eq_f (sub_f (add_f (mul_f (frac a b 1) (frac m 0 q)) (frac p n d)) (mul_f (frac x x' u) (frac m 0 q))) (sub_f (frac p n d) (mul_f (frac y y' u) (frac m 0 q)))
move a b x x' y y' u m q p n d e =
    let z = simp ring at (ap (λ (w : ℕ). w * (m * q * q * d * d * u)) e) in
    (simp (ring, one-mul, zero-mul, add-zero, zero-add) (omega arith), simp (ring, one-mul, zero-mul, add-zero, zero-add) (omega arith))

module _ (neg : Bool) (k e f g y y' : ℕ) (is : Exponent neg k e) (whole : e * 2 ^ 61 ≡ f * 2 ^ 61 + y') (part : y ≡ g) (t : Frac) (tp : Pos t) (near : Bound (sub_f t (mul_f (frac y y' (2 ^ 61)) M)) (frac 5 0 (2 ^ 60))) where
  same_move : eq_f (sub_f (add_f (mul_f (sgn neg k 1) M) t) (mul_f (log f g) M)) (sub_f t (mul_f (frac y y' (2 ^ 61)) M))
  same_move = go neg is t
    where
      up : (k e f g y y' : ℕ) → k + 1023 ≡ e → e * 2 ^ 61 ≡ f * 2 ^ 61 + y' → y ≡ g → f * 2 ^ 61 + g + 0 * 2 ^ 61 + y' ≡ 1023 * 2 ^ 61 + k * 2 ^ 61 + y
      up k e f g y y' h w p = omega arith

      down : (k e f g y y' : ℕ) → e + k ≡ 1023 → e * 2 ^ 61 ≡ f * 2 ^ 61 + y' → y ≡ g → f * 2 ^ 61 + g + k * 2 ^ 61 + y' ≡ 1023 * 2 ^ 61 + 0 * 2 ^ 61 + y
      down k e f g y y' h w p = omega arith

      go : (neg : Bool) → Exponent neg k e → (t : Frac) → eq_f (sub_f (add_f (mul_f (sgn neg k 1) M) t) (mul_f (log f g) M)) (sub_f t (mul_f (frac y y' (2 ^ 61)) M))
      go false h (frac p n d) = move k 0 (f * 2 ^ 61 + g) (1023 * 2 ^ 61) y y' (2 ^ 61) mn md p n d (up k e f g y y' h whole part)
      go true h (frac p n d) = move 0 k (f * 2 ^ 61 + g) (1023 * 2 ^ 61) y y' (2 ^ 61) mn md p n d (down k e f g y y' h whole part)

  pub moved_near : Bound (sub_f (add_f (mul_f (sgn neg k 1) middle) t) (mul_f (log f g) M)) (frac 5 0 (2 ^ 60))
  moved_near =
      let a = add_f (mul_f (sgn neg k 1) M) t in
      let b = add_f (mul_f (sgn neg k 1) middle) t in
      let kp = sgn_pos neg k 1 (lit< tt) in
      let ap₁ = add_f_pos (mul_f (sgn neg k 1) M) t (mul_f_pos (sgn neg k 1) M kp (lit< tt)) tp in
      bound_eq (sub_f a (mul_f (log f g) M)) (sub_f b (mul_f (log f g) M)) (frac 5 0 (2 ^ 60)) (add_f_pos a (neg_f (mul_f (log f g) M)) ap₁ (lit< tt))
      (add_cong b a (neg_f (mul_f (log f g) M)) (neg_f (mul_f (log f g) M)) (add_cong (mul_f (sgn neg k 1) middle) (mul_f (sgn neg k 1) M) t t (mul_cong (sgn neg k 1) (sgn neg k 1) middle M (eq_refl_f (sgn neg k 1)) middle_is) (eq_refl_f t)) (eq_refl_f (neg_f (mul_f (log f g) M))))
      (bound_eq (sub_f t (mul_f (frac y y' (2 ^ 61)) M)) (sub_f a (mul_f (log f g) M)) (frac 5 0 (2 ^ 60)) (add_f_pos t (neg_f (mul_f (frac y y' (2 ^ 61)) M)) tp (lit< tt)) same_move near)

-- ---- x is 2 ^ k w
power_of : (neg : Bool) (k e m c Z : ℕ) → Exponent neg k e → 2 ^ 1023 * c ≡ 2 * Z → eq_f (frac (m * 2 ^ e) 0 Z) (scale_f neg k (frac (2 * m) 0 c))
power_of false k e m c Z h w = go (2 ^ e) (2 ^ k) (2 ^ 1023) m c Z (ap (λ (x : ℕ). 2 ^ x) (sym h) ∙ pow-add 2 k 1023) w
  where
    go : (E P Q m c Z : ℕ) → E ≡ P * Q → Q * c ≡ 2 * Z → eq_f (frac (m * E) 0 Z) (mul_f (frac P 0 1) (frac (2 * m) 0 c))
    go E P Q m c Z h w = subst (λ (E : ℕ). eq_f (frac (m * E) 0 Z) (mul_f (frac P 0 1) (frac (2 * m) 0 c))) (sym h) (let z = simp ring at (ap (λ (x : ℕ). x * (m * P)) w) in (simp (ring, one-mul, mul-zero, zero-mul, add-zero) (omega arith), simp (ring, one-mul, mul-zero, zero-mul, add-zero) (omega arith)))
power_of true k e m c Z h w = go (2 ^ e) (2 ^ k) (2 ^ 1023) m c Z (sym (pow-add 2 e k) ∙ ap (λ (x : ℕ). 2 ^ x) h) w
  where
    go : (E P Q m c Z : ℕ) → E * P ≡ Q → Q * c ≡ 2 * Z → eq_f (frac (m * E) 0 Z) (frac (2 * m) 0 (c * P))
    go E P Q m c Z h w = let z = simp ring at (ap (λ (x : ℕ). x * m) (ap (λ (x : ℕ). x * c) h ∙ w)) in (simp (ring, zero-mul, add-zero) (omega arith), simp (ring, zero-mul, add-zero) (omega arith))

choose : (e : ℕ) → (neg : Bool) × (k : ℕ) × Exponent neg k e
choose e = go (dec_le 1023 e)
  where
    up : (e : ℕ) → 1023 ≤ e → e - 1023 + 1023 ≡ e
    up e h = omega arith

    down : (e : ℕ) → e < 1023 → e + (1023 - e) ≡ 1023
    down e h = omega arith

    go : Dec (1023 ≤ e) → (neg : Bool) × (k : ℕ) × Exponent neg k e
    go (yes h) = (false, e - 1023, up e h)
    go (no h) = (true, 1023 - e, down e (lt_of_not-le h))

three_near : (t τ a c : Frac) → Pos t → Pos τ → Pos a → Pos c → Bound (sub_f t τ) (frac 3 0 (2 ^ 60)) → Bound (sub_f a τ) (frac 1 0 (2 ^ 60)) → Bound (sub_f a c) (frac 1 0 (2 ^ 60)) → Bound (sub_f t c) (frac 5 0 (2 ^ 60))
three_near t τ a c T₁ Τ A C h k l =
    let x = sub_f t τ in
    let y = neg_f (sub_f a τ) in
    let z = sub_f a c in
    let sub_pos : (u v : Frac) → Pos u → Pos v → Pos (sub_f u v) = λ (u v : Frac) (P : Pos u) (Q : Pos v). add_f_pos u (neg_f v) P (neg_f_pos v Q) in
    bound_eq (add_f x (add_f y z)) (sub_f t c) (frac 5 0 (2 ^ 60)) (add_f_pos x (add_f y z) (sub_pos t τ T₁ Τ) (add_f_pos y z (neg_f_pos (sub_f a τ) (sub_pos a τ A Τ)) (sub_pos a c A C))) (through t τ a c)
    (bound_up (add_f x (add_f y z)) (add_f (frac 3 0 (2 ^ 60)) (add_f (frac 1 0 (2 ^ 60)) (frac 1 0 (2 ^ 60)))) (frac 5 0 (2 ^ 60)) (lit< tt) (lit≤ tt)
    (bound_add x (add_f y z) (frac 3 0 (2 ^ 60)) (add_f (frac 1 0 (2 ^ 60)) (frac 1 0 (2 ^ 60))) h (bound_add y z (frac 1 0 (2 ^ 60)) (frac 1 0 (2 ^ 60)) (turned (sub_f a τ) (frac 1 0 (2 ^ 60)) k) l)))
  where
    through : (t τ a c : Frac) → eq_f (sub_f t c) (add_f (sub_f t τ) (add_f (neg_f (sub_f a τ)) (sub_f a c)))
    through (frac p n d) (frac q m e) (frac u v w) (frac x y z) = (le_of_eq (simp sums), le_of_eq (simp sums))

signed : (s : Bool) (a c X Y : ℕ) (b : Frac) → Bound (sub_f (frac a 0 c) (frac X 0 Y)) b → Bound (sub_f (sgn s a c) (sgn s X Y)) b
signed false a c X Y b h = h
signed true a c X Y b h = (h.1, h.0)

-- ---- the bound of X / Y from those of p / q: h is 2 ^ 60, ln 2 is m / l
star_one : (X Y p q m l g : ℕ) → 0 < q → X * q ≤ 2 * p * Y → 2 ^ 62 * l * p ≤ m * (g + 1) * q → g ≤ 2 ^ 60 + 1 → X * l * 2 ^ 61 ≤ m * (2 ^ 60 + 2) * Y
star_one X Y p q m l g Q h k c =
    le_of_mul-le-mul_right {k = q}
    (le_trans (le_of_eq (a X l (2 ^ 61) q)) (le_trans (mul-le-mul_right (l * 2 ^ 61) h) (le_trans (le_of_eq (b p Y l)) (le_trans (mul-le-mul_right Y k) (le_trans (mul-le-mul_right Y (mul-le-mul_right q (mul-le-mul_left m (lin g c)))) (le_of_eq (d m (2 ^ 60 + 2) q Y))))))) Q
  where
    a : (x l u q : ℕ) → x * l * u * q ≡ x * q * (l * u)
    a x l u q = simp (mul_assoc, mul_comm, mul_left_comm)

    b : (p y l : ℕ) → 2 * p * y * (l * 2 ^ 61) ≡ 2 ^ 62 * l * p * y
    b p y l = simp (mul_assoc, mul_comm, mul_left_comm) (omega arith)

    d : (m c q y : ℕ) → m * c * q * y ≡ m * c * y * q
    d m c q y = simp (mul_assoc, mul_comm)

    lin : (g : ℕ) → g ≤ 2 ^ 60 + 1 → g + 1 ≤ 2 ^ 60 + 2
    lin g h = omega arith

star_two : (p q m l g : ℕ) → 32 * (2 ^ 62 * l * p) + 32 * (m * g * q) ≤ 32 * (m * 2 ^ 61 * q) + 34 * (m * q) → 2 ^ 60 + 2 ≤ g → 2 ^ 62 * l * p ≤ m * (2 ^ 60 + 1 + 1) * q
star_two p q m l g h c = lin (2 ^ 62 * l * p) (m * g * q) (m * q) (m * 2 ^ 61 * q) (m * (2 ^ 60 + 1 + 1) * q) h (le_trans (mul-le-mul_right (m * q) c) (le_of_eq (u g m q))) (u (2 ^ 61) m q) (u (2 ^ 60 + 2) m q)
  where
    u : (c m q : ℕ) → c * (m * q) ≡ m * c * q
    u c m q = simp (mul_assoc, mul_comm)

    lin : (a b e f r : ℕ) → 32 * a + 32 * b ≤ 32 * f + 34 * e → (2 ^ 60 + 2) * e ≤ b → 2 ^ 61 * e ≡ f → (2 ^ 60 + 2) * e ≡ r → a ≤ r
    lin a b e f r h k l m = omega arith

size_of : (b r h : ℕ) → 261 * r ≤ 512 * b → le_f (frac 261 0 h) (mul_f (frac 512 0 h) (frac b 0 r))
size_of b r h k = let z = simp ring at (mul-le-mul_right h k) in simp (ring, mul-zero, zero-mul, add-zero) (omega arith)

-- ---- the base
module _ (x : Float) (fx : T (fits binary64 x)) (hx : T (base_inside x)) where
  abbrev f : ℕ
  f = to_bits binary64 x / 2 ^ 52

  abbrev m : ℕ
  m = to_bits binary64 x % 2 ^ 52 + 2 ^ 52

  abbrev g : ℕ
  g = significand_log m

  m_lo : 2 ^ 52 ≤ m
  m_lo = go (to_bits binary64 x)
    where
      go : (b : ℕ) → 2 ^ 52 ≤ b % 2 ^ 52 + 2 ^ 52
      go b = omega arith

  m_hi : m < 2 ^ 53
  m_hi = go (to_bits binary64 x)
    where
      go : (b : ℕ) → b % 2 ^ 52 + 2 ^ 52 < 2 ^ 53
      go b = omega arith

  f_lo : 1018 ≤ f
  f_lo = go (to_bits binary64 x) (base_bits x fx hx).0
    where
      go : (b : ℕ) → 1018 * 2 ^ 52 ≤ b → 1018 ≤ b / 2 ^ 52
      go b h = omega arith

  word_range : (2 ^ 53 ≤ word_for f g) × (word_for f g < 2046 * 2 ^ 53)
  word_range = go (to_bits binary64 x) g (base_bits x fx hx).0 (base_bits x fx hx).1 (log_small m m_lo m_hi)
    where
      go : (b g : ℕ) → 1018 * 2 ^ 52 ≤ b → b ≤ 1028 * 2 ^ 52 → g ≤ 2 ^ 61 → (2 ^ 53 ≤ b / 2 ^ 52 * 2 ^ 53 + g / 256) × (b / 2 ^ 52 * 2 ^ 53 + g / 256 < 2046 * 2 ^ 53)
      go b g h k l = (omega arith, omega arith)

  above : le_f zero_f (val_f x)
  above = le_trans_f zero_f (frac (m * 2 ^ f) 0 (2 ^ 1074 * 2)) (val_f x) (lit< tt) (small (m * 2 ^ f) (2 ^ 1074 * 2)) (scaled_value x fx hx f 2 (power_is x fx hx f 1 (one f f_lo))).1
    where
      one : (f : ℕ) → 1018 ≤ f → f ≡ f - 1 + 1
      one f h = omega arith

      small : (a c : ℕ) → 0 * c + 0 * 1 ≤ a * 1 + 0 * c
      small a c = omega arith

  -- ln x times 1 is near the word
  argument_near : (l : Frac) → LnValue (val_f x) l → Bound (sub_f (mul_f (frac 1 0 1) l) (mul_f (word f g) M)) (frac 94 0 (2 ^ 60))
  argument_near l h =
      near_word f g (mul_f (frac 1 0 1) l) (mul_f_pos (frac 1 0 1) l (lit< tt) h.proper.0)
      (bound_eq (sub_f l (mul_f (log f g) M)) (sub_f (mul_f (frac 1 0 1) l) (mul_f (log f g) M)) (frac 5 0 (2 ^ 60)) (add_f_pos l (neg_f (mul_f (log f g) M)) h.proper.0 (lit< tt)) (add_cong (mul_f (frac 1 0 1) l) l (neg_f (mul_f (log f g) M)) (neg_f (mul_f (log f g) M)) (once l) (eq_refl_f (neg_f (mul_f (log f g) M))))
      (bound_up (sub_f l (mul_f (log f g) M)) (frac 24 0 (2 ^ 66)) (frac 5 0 (2 ^ 60)) (lit< tt) (lit≤ tt) (by_parts x fx hx l (f * 2 ^ 61 + g) (1023 * 2 ^ 61) (turn f g) h)))
    where
      turn : (f g : ℕ) → f * 2 ^ 61 + g + 1023 * 2 ^ 61 ≡ 1023 * 2 ^ 61 + g + f * 2 ^ 61
      turn f g = omega arith

      once : (l : Frac) → eq_f (mul_f (frac 1 0 1) l) l
      once (frac p n d) = (le_of_eq (simp (sums, one-mul, zero-mul)), le_of_eq (simp (sums, one-mul, zero-mul)))

  module _ (s : Bool) (e y' X Y p q : ℕ) (w : Frac) (whole : e * 2 ^ 61 ≡ f * 2 ^ 61 + y') (Yp : 0 < Y) (qp : 0 < q) (bound : X * md * 2 ^ 61 ≤ mn * (2 ^ 60 + 2) * Y) (cut : Bound (sub_f (frac (2 * p) 0 (1 * q)) (frac X 0 Y)) (frac 1 0 (2 ^ 60)))
      (part : Bound (sub_f (sgn s (2 * p) (1 * q)) (mul_f (frac g y' (2 ^ 61)) M)) (frac 1 0 (2 ^ 60))) (wp : Pos w) (is : (neg : Bool) (k : ℕ) → Exponent neg k e → eq_f (val_f x) (scale_f neg k w))
      (sum : Bound (sub_f (exp_sum (sgn s X Y)) w) (frac 1 0 (2 ^ 52))) (size : le_f (frac 261 0 (2 ^ 60)) (mul_f (frac 512 0 (2 ^ 60)) w)) where
    t_log : Bound (sub_f (t s X Y Yp bound) (mul_f (frac g y' (2 ^ 61)) M)) (frac 5 0 (2 ^ 60))
    t_log = three_near (t s X Y Yp bound) (sgn s X Y) (sgn s (2 * p) (1 * q)) (mul_f (frac g y' (2 ^ 61)) M) (t_pos s X Y Yp bound) (τ_pos s X Y Yp bound) (sgn_pos s (2 * p) (1 * q) (mul-pos {m = 1} (lit< tt) qp)) (lit< tt) (t_near s X Y Yp bound) (signed s (2 * p) (1 * q) X Y (frac 1 0 (2 ^ 60)) cut) part

    found : (r : Frac) → PowerValue (val_f x) (frac 1 0 1) r → within (2 ^ 48) (val_f x) r
    found r h = go (choose e)
      where
        go : (neg : Bool) × (k : ℕ) × Exponent neg k e → within (2 ^ 48) (val_f x) r
        go (neg, k, o) =
            let u = t s X Y Yp bound in
            let up = t_pos s X Y Yp bound in
            let range = t_range s X Y Yp bound in
            let c = moved_value neg k u up range.0 range.1 in
            close (val_f x) (val_f (raise_of (word_for f g))) r (scale_f neg k (exp_sum (rest (add_f (mul_f (sgn neg k 1) middle) u) neg k middle))) (val_f_pos x) (val_f_pos (raise_of (word_for f g))) h.is_exp.proper.0 c.proper.0 above
            (raise_near (word_for f g) 94 (mul_f (frac 1 0 1) h.l) r word_range.0 word_range.1 (lit≤ tt) (mul_f_pos (frac 1 0 1) h.l (lit< tt) h.is_ln.proper.0) (argument_near h.l h.is_ln) h.is_exp)
            (raise_near (word_for f g) 94 (add_f (mul_f (sgn neg k 1) middle) u) (scale_f neg k (exp_sum (rest (add_f (mul_f (sgn neg k 1) middle) u) neg k middle))) word_range.0 word_range.1 (lit≤ tt) (v_pos neg k u up range.0 range.1) (near_word f g (add_f (mul_f (sgn neg k 1) middle) u) (v_pos neg k u up range.0 range.1) (moved_near neg k e f g g y' o whole refl u up t_log)) c)
            (value_near neg k u up range.0 range.1 (sgn s X Y) w (val_f x) (τ_pos s X Y Yp bound) wp (val_f_pos x) (is neg k o) (t_small s X Y Yp bound) (τ_small s X Y Yp bound) (t_near s X Y Yp bound) sum size)

  -- the significand's logarithm is at most a half, and at least a half
  lower : g ≤ 2 ^ 60 + 1 → (r : Frac) → PowerValue (val_f x) (frac 1 0 1) r → within (2 ^ 48) (val_f x) r
  lower h =
      found false f 0 (T₀ n d) (U d) o.p o.q (frac (d + n) 0 (2 ^ 53)) (all f) (U_pos n d fifth (2 ^ 53) is (lit< tt)) o.positive
      (star_one (T₀ n d) (U d) o.p o.q mn md g o.positive (low n d o.p o.q fifth dp o.closed) b.0 h)
      (cut_near n d o.p o.q fifth dp o.closed) (one_log g o.p o.q b) (lit< tt)
      (λ (neg : Bool) (k : ℕ) (e : Exponent neg k f). subst (λ (a : ℕ). eq_f (val_f x) (scale_f neg k (frac a 0 (2 ^ 53)))) (sym (twice m m_lo)) (eq_trans_f (val_f x) (frac (m * 2 ^ f) 0 (2 ^ 1074 * 2)) (scale_f neg k (frac (2 * m) 0 (2 ^ 53))) (lit< tt) (scaled_value x fx hx f 2 (power_is x fx hx f 1 (one f f_lo))) (power_of neg k f m (2 ^ 53) (2 ^ 1074 * 2) e refl)))
      (exp_plus n d fifth (2 ^ 53) is (lit< tt)) (size_of (d + n) (2 ^ 53) (2 ^ 60) (size m m_lo))
    where
      n : ℕ
      n = m - 2 ^ 52

      d : ℕ
      d = m + 2 ^ 52

      place : place_of m ≤ 54
      place = lower_half m m_lo m_hi h

      fifth : 5 * (m - 2 ^ 52) ≤ m + 2 ^ 52
      fifth = go m place
        where
          go : (m : ℕ) → m / 2 ^ 45 - 128 ≤ 54 → 5 * (m - 2 ^ 52) ≤ m + 2 ^ 52
          go m h = omega arith

      dp : 0 < m + 2 ^ 52
      dp = go m
        where
          go : (m : ℕ) → 0 < m + 2 ^ 52
          go m = omega arith

      is : m + 2 ^ 52 ≡ 2 ^ 53 + (m - 2 ^ 52)
      is = go m m_lo
        where
          go : (m : ℕ) → 2 ^ 52 ≤ m → m + 2 ^ 52 ≡ 2 ^ 53 + (m - 2 ^ 52)
          go m h = omega arith

      o : Sum 24 (m - 2 ^ 52) (m + 2 ^ 52)
      o = whole (m - 2 ^ 52) (m + 2 ^ 52) dp

      b : Near g o.p o.q
      b = near m m_lo m_hi o.p o.q place o.closed

      all : (f : ℕ) → f * 2 ^ 61 ≡ f * 2 ^ 61 + 0
      all f = omega arith

      one : (f : ℕ) → 1018 ≤ f → f ≡ f - 1 + 1
      one f h = omega arith

      twice : (m : ℕ) → 2 ^ 52 ≤ m → m + 2 ^ 52 + (m - 2 ^ 52) ≡ 2 * m
      twice m h = omega arith

      size : (m : ℕ) → 2 ^ 52 ≤ m → 261 * 2 ^ 53 ≤ 512 * (m + 2 ^ 52 + (m - 2 ^ 52))
      size m h = omega arith

  upper : 2 ^ 60 + 2 ≤ g → (r : Frac) → PowerValue (val_f x) (frac 1 0 1) r → within (2 ^ 48) (val_f x) r
  upper h =
      found true (f + 1) (2 ^ 61) (T₀ n d) (U d) o.p o.q (frac (2 * m) 0 (d + n)) (more f) (U_pos n d fifth (2 * m) is rp) o.positive
      (star_one (T₀ n d) (U d) o.p o.q mn md (2 ^ 60 + 1) o.positive (low n d o.p o.q fifth dp o.closed) (star_two o.p o.q mn md g b.1 h) (lit≤ tt))
      (cut_near n d o.p o.q fifth dp o.closed) (two_log g o.p o.q b) (both_pos m)
      (λ (neg : Bool) (k : ℕ) (e : Exponent neg k (f + 1)). subst (λ (a : ℕ). eq_f (val_f x) (scale_f neg k (frac (2 * m) 0 a))) (sym (sum m (le_of_lt m_hi))) (eq_trans_f (val_f x) (frac (m * 2 ^ (f + 1)) 0 (2 ^ 1074 * 4)) (scale_f neg k (frac (2 * m) 0 (2 ^ 54))) (lit< tt) (scaled_value x fx hx (f + 1) 4 (power_is x fx hx (f + 1) 2 (two f f_lo))) (power_of neg k (f + 1) m (2 ^ 54) (2 ^ 1074 * 4) e refl)))
      (exp_minus n d fifth (2 * m) is rp) (size_of (2 * m) (d + n) (2 ^ 60) (size m place (le_of_lt m_hi)))
    where
      n : ℕ
      n = 2 ^ 53 - m

      d : ℕ
      d = m + 2 ^ 53

      place : 46 ≤ place_of m
      place = upper_half m m_lo m_hi h

      far : 42 ≤ place_of m
      far = le_trans (lit≤ tt) place

      fifth : 5 * (2 ^ 53 - m) ≤ m + 2 ^ 53
      fifth = go m place
        where
          go : (m : ℕ) → 46 ≤ m / 2 ^ 45 - 128 → 5 * (2 ^ 53 - m) ≤ m + 2 ^ 53
          go m h = omega arith

      dp : 0 < m + 2 ^ 53
      dp = go m
        where
          go : (m : ℕ) → 0 < m + 2 ^ 53
          go m = omega arith

      is : m + 2 ^ 53 ≡ 2 * m + (2 ^ 53 - m)
      is = go m (le_of_lt m_hi)
        where
          go : (m : ℕ) → m ≤ 2 ^ 53 → m + 2 ^ 53 ≡ 2 * m + (2 ^ 53 - m)
          go m h = omega arith

      rp : 0 < 2 * m
      rp = go m m_lo
        where
          go : (m : ℕ) → 2 ^ 52 ≤ m → 0 < 2 * m
          go m h = omega arith

      o : Sum 24 (2 ^ 53 - m) (m + 2 ^ 53)
      o = whole (2 ^ 53 - m) (m + 2 ^ 53) dp

      b : Near-two g o.p o.q
      b = near_two m m_lo m_hi o.p o.q far o.closed

      more : (f : ℕ) → (f + 1) * 2 ^ 61 ≡ f * 2 ^ 61 + 2 ^ 61
      more f = omega arith

      two : (f : ℕ) → 1018 ≤ f → f + 1 ≡ f - 1 + 2
      two f h = omega arith

      both_pos : (m : ℕ) → 0 < m + 2 ^ 53 + (2 ^ 53 - m)
      both_pos m = omega arith

      sum : (m : ℕ) → m ≤ 2 ^ 53 → m + 2 ^ 53 + (2 ^ 53 - m) ≡ 2 ^ 54
      sum m h = omega arith

      size : (m : ℕ) → 46 ≤ m / 2 ^ 45 - 128 → m ≤ 2 ^ 53 → 261 * (m + 2 ^ 53 + (2 ^ 53 - m)) ≤ 512 * (2 * m)
      size m h k = omega arith

  -- exp of 1 times ln x is near x
  pub one_near : (r : Frac) → PowerValue (val_f x) (frac 1 0 1) r → within (2 ^ 48) (val_f x) r
  one_near = go (dec_le (2 ^ 60 + 2) g)
    where
      less : (g : ℕ) → g < 2 ^ 60 + 2 → g ≤ 2 ^ 60 + 1
      less g h = omega arith

      go : Dec (2 ^ 60 + 2 ≤ g) → (r : Frac) → PowerValue (val_f x) (frac 1 0 1) r → within (2 ^ 48) (val_f x) r
      go (yes h) = upper h
      go (no h) = lower (less g (lt_of_not-le h))
