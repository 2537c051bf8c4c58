-- exp_m1's distance from document 01's values for an argument of at least 1/4 in size. Assumes nothing.
use mathlib.Core.Path.{◌≡◌, refl, sym, ap, ◌∙◌, subst}
use mathlib.Core.Bool.{Bool, false, ◌&&◌}
use Prim.Native.Nat.{ℕ, ◌+◌, ◌-◌, ◌*◌, ◌/◌, ◌%◌, ◌^◌, ◌≤◌, ◌<◌}
use native.Mathlib.Nat.{add-mul, mul_assoc, zero-mul, one-mul, mul-one, add-zero, zero-add, le_trans, le_of_eq, le_of_lt, mul-le-mul, mul-le-mul_left, mul-le-mul_right, div-mul-le_self, lt-div-mul-add, div-le_of_le-mul}
use native.Mathlib.Decide.{dec_le}
use native.Mathlib.Omega.{arith}
use lib.Dec.{T, leb, ltb, leb→le, lit<, lit≤}
use borrow.Author.Tests.{le-ltb}
use lib.ListN.{get_or}
use lib.Pow.{pow_pos, pow-add, pow_mono}
use lib.Ieee.Fits.{and_l, and_r}
use Rattle.number.specs.Frac.{Frac, frac, Pos, le_f, neg_f, sub_f}
use Rattle.number.proofs.Frac.{ring, le_trans_f, neg_anti_f, add_f_pos, neg_f_pos}
use Rattle.series.specs.Sums.{nat_f, eq_f}
use Rattle.series.specs.Distance.{within}
use Rattle.series.proofs.Close.{Close}
use Rattle.fixed_point.specs.Horner.{horner}
use Rattle.number.proofs.Table.{every, at, unless}
use Rattle.exponential.specs.Powers.{powers, terms}
use Rattle.exponential.specs.Raise.{significand_of}
use Rattle.exponential.specs.ExpM1.{below_of, above_of}
use Rattle.exponential.proofs.Digits.{place, significand_lo, significand_hi, scaled_le, series_le, low_le}
use Rattle.exponential.proofs.RaiseNear.{Bracket}
use Rattle.exponential.proofs.PackedNear.{Sized, packed_plus, packed_minus}

-- ---- the units: 2 ^ q / 2 ^ 1086 is twice W over twice D
halved : (q : ℕ) → 1 ≤ q → 2 ^ q ≡ 2 * 2 ^ (q - 1)
halved q h = ap (λ (x : ℕ). 2 ^ x) (lin q h) ∙ pow-add 2 1 (q - 1)
  where
    lin : (q : ℕ) → 1 ≤ q → q ≡ 1 + (q - 1)
    lin q h = omega arith

-- a value e of exp from (X - h) W / D to (Z) W / D
half_low : (X h Y W p n d : ℕ) → Y ≡ 2 * W → le_f (frac (X * Y) (h * Y) (2 ^ 1086)) (frac p n d) → X * W * d + n * 2 ^ 1085 ≤ p * 2 ^ 1085 + h * W * d
half_low X h Y W p n d e l = go X h W p n d (2 ^ 1085) (subst (λ (Y : ℕ). X * Y * d + n * 2 ^ 1086 ≤ p * 2 ^ 1086 + h * Y * d) e l)
  where
    go : (X h W p n d D : ℕ) → X * (2 * W) * d + n * (2 * D) ≤ p * (2 * D) + h * (2 * W) * d → X * W * d + n * D ≤ p * D + h * W * d
    go X h W p n d D l = let k = simp ring at l in simp ring (omega arith)

half_high : (Z Y W p n d : ℕ) → Y ≡ 2 * W → le_f (frac p n d) (frac (Z * Y) 0 (2 ^ 1086)) → p * 2 ^ 1085 ≤ Z * W * d + n * 2 ^ 1085
half_high Z Y W p n d e l = go Z W p n d (2 ^ 1085) (subst (λ (Y : ℕ). p * 2 ^ 1086 + 0 * d ≤ Z * Y * d + n * 2 ^ 1086) e l)
  where
    go : (Z W p n d D : ℕ) → p * (2 * D) + 0 * d ≤ Z * (2 * W) * d + n * (2 * D) → p * D ≤ Z * W * d + n * D
    go Z W p n d D l = let k = simp (ring, zero-mul, add-zero) at l in simp ring (omega arith)

-- ---- above: y = X - o, o W ≤ D ≤ (o + 1) W
module _ (X o W D h p n d : ℕ) (fits : o ≤ X) (lo : o * W ≤ D) (hi : D ≤ (o + 1) * W) where
  above_low : X * W * d + n * D ≤ p * D + h * W * d → le_f (frac ((X - o) * W) ((652 + h) * W) D) (sub_f (frac p n d) (nat_f 1))
  above_low l = go (X - o) o W D h p n d (subst (λ (X : ℕ). X * W * d + n * D ≤ p * D + h * W * d) (sym (back X o fits)) l) (mul-le-mul_right d hi)
    where
      back : (X o : ℕ) → o ≤ X → X - o + o ≡ X
      back X o h = omega arith

      go : (y o W D h p n d : ℕ) → (y + o) * W * d + n * D ≤ p * D + h * W * d → D * d ≤ (o + 1) * W * d → le_f (frac (y * W) ((652 + h) * W) D) (sub_f (frac p n d) (nat_f 1))
      go y o W D h p n d l k =
          let a = simp ring at l in
          let b = simp (ring, one-mul) at k in
          simp (ring, one-mul, mul-one, zero-mul, add-zero, zero-add) (omega arith)

  above_high : p * D ≤ (X + 652 + h) * W * d + n * D → le_f (sub_f (frac p n d) (nat_f 1)) (frac ((X - o + (652 + h)) * W) 0 D)
  above_high l = go (X - o) o W D h p n d (subst (λ (X : ℕ). p * D ≤ (X + 652 + h) * W * d + n * D) (sym (back X o fits)) l) (mul-le-mul_right d lo)
    where
      back : (X o : ℕ) → o ≤ X → X - o + o ≡ X
      back X o h = omega arith

      go : (y o W D h p n d : ℕ) → p * D ≤ (y + o + 652 + h) * W * d + n * D → o * W * d ≤ D * d → le_f (sub_f (frac p n d) (nat_f 1)) (frac ((y + (652 + h)) * W) 0 D)
      go y o W D h p n d l k =
          let a = simp ring at l in
          let b = simp ring at k in
          simp (ring, one-mul, mul-one, zero-mul, add-zero, zero-add) (omega arith)

-- ---- below: y = T - o, D = T W; o W ≤ X V ≤ (o + 1) W, 2 V ≤ W
module _ (X o V₁ W T₁ D h a p n d : ℕ) (fits : o ≤ T₁) (whole : D ≡ T₁ * W) (lo : o * W ≤ X * V₁) (hi : X * V₁ ≤ (o + 1) * W) (half : 2 * V₁ ≤ W) (room : 654 + h ≤ 2 * a) where
  back : T₁ - o + o ≡ T₁
  back = go T₁ o fits
    where
      go : (X o : ℕ) → o ≤ X → X - o + o ≡ X
      go X o h = omega arith

  whole_is : D ≡ (T₁ - o + o) * W
  whole_is = whole ∙ ap (λ (x : ℕ). x * W) (sym back)

  below_low : p * D ≤ (X + 652 + h) * V₁ * d + n * D → le_f (frac ((T₁ - o) * W) (a * W) D) (neg_f (sub_f (frac p n d) (nat_f 1)))
  below_low l = fin (T₁ - o) o W D p n d a (X * V₁) (V₁ * d) h (le_trans l (le_of_eq (ap (λ (x : ℕ). x + n * D) (parts X V₁ h d)))) (mul-le-mul_right d hi) (mul-le-mul_left (652 + h) (le_trans (le_of_eq (sym (mul_assoc 2 V₁ d))) (mul-le-mul_right d half))) (mul-le-mul_right (W * d) room) (ap (λ (x : ℕ). x * d) whole_is)
    where
      parts : (X v h d : ℕ) → (X + 652 + h) * v * d ≡ X * v * d + (652 + h) * (v * d)
      parts X v h d = simp ring (omega arith)

      fin : (y o W D p n d a s v h : ℕ) → p * D ≤ s * d + (652 + h) * v + n * D → s * d ≤ (o + 1) * W * d → (652 + h) * (2 * v) ≤ (652 + h) * (W * d) → (654 + h) * (W * d) ≤ 2 * a * (W * d) → D * d ≡ (y + o) * W * d
          → le_f (frac (y * W) (a * W) D) (neg_f (sub_f (frac p n d) (nat_f 1)))
      fin y o W D p n d a s v h i j k l e =
          let i' = simp ring at i in
          let j' = simp (ring, one-mul) at j in
          let k' = simp ring at k in
          let l' = simp ring at l in
          let e' = simp ring at e in
          simp (ring, one-mul, mul-one, zero-mul, add-zero, zero-add) (omega arith)

  below_high : X * V₁ * d + n * D ≤ p * D + h * V₁ * d → le_f (neg_f (sub_f (frac p n d) (nat_f 1))) (frac ((T₁ - o + a) * W) 0 D)
  below_high l = fin (T₁ - o) o W D p n d a (X * V₁) (V₁ * d) h (le_trans l (le_of_eq (ap (λ (x : ℕ). p * D + x) (mul_assoc h V₁ d)))) (mul-le-mul_right d lo) (mul-le-mul_left h (le_trans (le_of_eq (sym (mul_assoc 2 V₁ d))) (mul-le-mul_right d half))) (mul-le-mul_right (W * d) room) (ap (λ (x : ℕ). x * d) whole_is)
    where
      fin : (y o W D p n d a s v h : ℕ) → s * d + n * D ≤ p * D + h * v → o * W * d ≤ s * d → h * (2 * v) ≤ h * (W * d) → (654 + h) * (W * d) ≤ 2 * a * (W * d) → D * d ≡ (y + o) * W * d
          → le_f (neg_f (sub_f (frac p n d) (nat_f 1))) (frac ((y + a) * W) 0 D)
      fin y o W D p n d a s v h i j k l e =
          let i' = simp ring at i in
          let j' = simp ring at j in
          let k' = simp ring at k in
          let l' = simp ring at l in
          let e' = simp ring at e in
          simp (ring, one-mul, mul-one, zero-mul, add-zero, zero-add) (omega arith)

-- ---- the significand's range away from 1
-- from the place 42 on the powers are at least 5/4, up to the place 100 at most 1.72
abbrev ranged : ℕ → ℕ → Bool
ranged j e = unless (ltb j 42) (leb (2 ^ 63 + 2 ^ 61) e) && unless (ltb 100 j) (leb e 15851465176301844309)

all_ranged : T (every ranged 0 powers)
all_ranged = tt

powers_ge : (j : ℕ) → j < 128 → 42 ≤ j → 2 ^ 63 + 2 ^ 61 ≤ get_or powers j 0
powers_ge j h k = leb→le (2 ^ 63 + 2 ^ 61) (get_or powers j 0) (given (ltb j 42) (leb (2 ^ 63 + 2 ^ 61) (get_or powers j 0)) (le-ltb j 42 k) (and_l (unless (ltb j 42) (leb (2 ^ 63 + 2 ^ 61) (get_or powers j 0))) (unless (ltb 100 j) (leb (get_or powers j 0) 15851465176301844309)) (at ranged powers all_ranged j h)))
  where
    given : (b c : Bool) → b ≡ false → T (unless b c) → T c
    given b c e t = subst (λ (b : Bool). T (unless b c)) e t

powers_le : (j : ℕ) → j < 128 → j ≤ 100 → get_or powers j 0 ≤ 15851465176301844309
powers_le j h k = leb→le (get_or powers j 0) 15851465176301844309 (given (ltb 100 j) (leb (get_or powers j 0) 15851465176301844309) (le-ltb 100 j k) (and_r (unless (ltb j 42) (leb (2 ^ 63 + 2 ^ 61) (get_or powers j 0))) (unless (ltb 100 j) (leb (get_or powers j 0) 15851465176301844309)) (at ranged powers all_ranged j h)))
  where
    given : (b c : Bool) → b ≡ false → T (unless b c) → T c
    given b c e t = subst (λ (b : Bool). T (unless b c)) e t

significand_ge : (w : ℕ) → 42 * 2 ^ 46 ≤ w % 2 ^ 53 → 2 ^ 63 + 2 ^ 61 ≤ significand_of w
unfolding significand_of
significand_ge w h = more _ _ (powers_ge (w / 2 ^ 46 % 128) (place w) (first w h))
  where
    first : (w : ℕ) → 42 * 2 ^ 46 ≤ w % 2 ^ 53 → 42 ≤ w / 2 ^ 46 % 128
    first w h = omega arith

    more : (e x : ℕ) → 2 ^ 63 + 2 ^ 61 ≤ e → 2 ^ 63 + 2 ^ 61 ≤ e + x
    more e x h = omega arith

-- 2 (2 ^ 63 - 2 ^ 60) is 1.75 times 2 ^ 63
significand_le : (w : ℕ) → w % 2 ^ 53 < 101 * 2 ^ 46 → significand_of w ≤ 2 * (2 ^ 63 - 2 ^ 60)
unfolding significand_of
significand_le w h = go (get_or powers (w / 2 ^ 46 % 128) 0) _ (powers_le (w / 2 ^ 46 % 128) (place w) (last w h)) (rest_le w)
  where
    last : (w : ℕ) → w % 2 ^ 53 < 101 * 2 ^ 46 → w / 2 ^ 46 % 128 ≤ 100
    last w h = omega arith

    rest_le : (w : ℕ) → w % 2 ^ 46 * 2 ^ 18 * horner terms (w % 2 ^ 46 * 2 ^ 18) / 2 ^ 64 ≤ 12820991510198240000
    rest_le w = scaled_le (w % 2 ^ 46 * 2 ^ 18) (horner terms (w % 2 ^ 46 * 2 ^ 18)) (low_le w) (series_le (w % 2 ^ 46 * 2 ^ 18) (low_le w))

    go : (e g : ℕ) → e ≤ 15851465176301844309 → g ≤ 12820991510198240000 → e + e * g / 2 ^ 64 / 128 ≤ 2 * (2 ^ 63 - 2 ^ 60)
    go e g a b = lin e (e * g / 2 ^ 64) a (div-le_of_le-mul (2 ^ 64) (le_trans (mul-le-mul a b) (lit≤ tt)))
      where
        lin : (e x : ℕ) → e ≤ 15851465176301844309 → x ≤ 12820991510198240000 → e + x / 128 ≤ 2 * (2 ^ 63 - 2 ^ 60)
        lin e x h k = omega arith

-- ---- the laws: w as exp_m1 has it from 1/4 on
pub sized_eq : (y a k : ℕ) (x z : Frac) → Pos z → eq_f x z → Sized y a k z → Sized y a k x
sized_eq y a k x z P e s = (le_trans_f (frac (y * 2 ^ k) (a * 2 ^ k) (2 ^ 1085)) z x P s.0 e.1, le_trans_f x z (frac ((y + a) * 2 ^ k) 0 (2 ^ 1085)) P e.0 s.1)

pub minus_one_pos : (e : Frac) → Pos e → Pos (sub_f e (nat_f 1))
minus_one_pos e P = add_f_pos e (neg_f (nat_f 1)) P (lit< tt)

module _ (w : ℕ) (least : 1023 * 2 ^ 53 + 42 * 2 ^ 46 ≤ w) (most : w < 2046 * 2 ^ 53) where
  abbrev one : ℕ
  one = 2 ^ 63 / 2 ^ (w / 2 ^ 53 - 1023)

  one_lo : one * 2 ^ (w / 2 ^ 53 - 1) ≤ 2 ^ 1085
  one_lo = le_trans (le_of_eq (ap (λ (x : ℕ). one * x) (split w least) ∙ sym (mul_assoc one (2 ^ (w / 2 ^ 53 - 1023)) (2 ^ 1022)))) (mul-le-mul_right (2 ^ 1022) (div-mul-le_self (2 ^ 63) (2 ^ (w / 2 ^ 53 - 1023))))
    where
      split : (w : ℕ) → 1023 * 2 ^ 53 + 42 * 2 ^ 46 ≤ w → 2 ^ (w / 2 ^ 53 - 1) ≡ 2 ^ (w / 2 ^ 53 - 1023) * 2 ^ 1022
      split w h = ap (λ (x : ℕ). 2 ^ x) (lin w h) ∙ pow-add 2 (w / 2 ^ 53 - 1023) 1022
        where
          lin : (w : ℕ) → 1023 * 2 ^ 53 + 42 * 2 ^ 46 ≤ w → w / 2 ^ 53 - 1 ≡ w / 2 ^ 53 - 1023 + 1022
          lin w h = omega arith

  one_hi : 2 ^ 1085 ≤ (one + 1) * 2 ^ (w / 2 ^ 53 - 1)
  one_hi = le_trans (mul-le-mul_right (2 ^ 1022) (le_trans (le_of_lt (lt-div-mul-add {a = 2 ^ 63} {b = 2 ^ (w / 2 ^ 53 - 1023)} (pow_pos (w / 2 ^ 53 - 1023)))) (le_of_eq (more one (2 ^ (w / 2 ^ 53 - 1023)))))) (le_of_eq (mul_assoc (one + 1) (2 ^ (w / 2 ^ 53 - 1023)) (2 ^ 1022) ∙ ap (λ (x : ℕ). (one + 1) * x) (sym (split w least))))
    where
      more : (x g : ℕ) → x * g + g ≡ (x + 1) * g
      more x g = simp (add-mul, one-mul)

      split : (w : ℕ) → 1023 * 2 ^ 53 + 42 * 2 ^ 46 ≤ w → 2 ^ (w / 2 ^ 53 - 1) ≡ 2 ^ (w / 2 ^ 53 - 1023) * 2 ^ 1022
      split w h = ap (λ (x : ℕ). 2 ^ x) (lin w h) ∙ pow-add 2 (w / 2 ^ 53 - 1023) 1022
        where
          lin : (w : ℕ) → 1023 * 2 ^ 53 + 42 * 2 ^ 46 ≤ w → w / 2 ^ 53 - 1 ≡ w / 2 ^ 53 - 1023 + 1022
          lin w h = omega arith

  gap : one + 2 ^ 61 ≤ significand_of w
  gap = go (dec_le 1 (w / 2 ^ 53 - 1023))
    where
      none : (k : ℕ) → (1 ≤ k → ⊥) → k ≡ 0
      none k h = omega arith

      fraction : (w : ℕ) → 1023 * 2 ^ 53 + 42 * 2 ^ 46 ≤ w → w / 2 ^ 53 - 1023 ≡ 0 → 42 * 2 ^ 46 ≤ w % 2 ^ 53
      fraction w h e = omega arith

      less : {x y : ℕ} → x ≤ 2 ^ 62 → 2 ^ 63 ≤ y → x + 2 ^ 61 ≤ y
      less h k = omega arith

      go : Dec (1 ≤ w / 2 ^ 53 - 1023) → one + 2 ^ 61 ≤ significand_of w
      go (yes k) = less (div-le_of_le-mul (2 ^ (w / 2 ^ 53 - 1023)) (le_trans (lit≤ tt) (mul-le-mul_right (2 ^ 62) (pow_mono k)))) (significand_lo w)
      go (no k) = let e = none (w / 2 ^ 53 - 1023) k in subst (λ (n : ℕ). 2 ^ 63 / 2 ^ n + 2 ^ 61 ≤ significand_of w) (sym e) (significand_ge w (fraction w least e))

  pub above_near : (e x : Frac) → Pos e → Pos x → Bracket w 242 e → eq_f x (sub_f e (nat_f 1)) → Close (within (2 ^ 48)) (above_of w) x
  unfolding above_of
  above_near e x P X₁ b s =
      packed_plus (significand_of w - one) 6508 (w / 2 ^ 53 - 1) x (positive one (significand_of w) gap) (small one (significand_of w) gap (significand_hi w)) (low w least) (high w most) X₁ (le_trans (lit≤ tt) (mul-le-mul_left 31 (large one (significand_of w) gap)))
      (sized_eq (significand_of w - one) 6508 (w / 2 ^ 53 - 1) x (sub_f e (nat_f 1)) (minus_one_pos e P) s (at_e e b))
    where
      positive : (o X : ℕ) → o + 2 ^ 61 ≤ X → 0 < X - o
      positive o X h = omega arith

      small : (o X : ℕ) → o + 2 ^ 61 ≤ X → X < 2 ^ 64 → X - o < 2 ^ 64
      small o X h k = omega arith

      large : (o X : ℕ) → o + 2 ^ 61 ≤ X → 2 ^ 61 ≤ X - o
      large o X h = omega arith

      fits : (o X : ℕ) → o + 2 ^ 61 ≤ X → o ≤ X
      fits o X h = omega arith

      low : (w : ℕ) → 1023 * 2 ^ 53 + 42 * 2 ^ 46 ≤ w → 64 ≤ w / 2 ^ 53 - 1
      low w h = omega arith

      high : (w : ℕ) → w < 2046 * 2 ^ 53 → w / 2 ^ 53 - 1 ≤ 2044
      high w h = omega arith

      some : (w : ℕ) → 1023 * 2 ^ 53 + 42 * 2 ^ 46 ≤ w → 1 ≤ w / 2 ^ 53
      some w h = omega arith

      at_e : (e : Frac) → Bracket w 242 e → Sized (significand_of w - one) 6508 (w / 2 ^ 53 - 1) (sub_f e (nat_f 1))
      at_e (frac p n d) b = (
        above_low (significand_of w) one (2 ^ (w / 2 ^ 53 - 1)) (2 ^ 1085) 5856 p n d (fits one (significand_of w) gap) one_lo one_hi (half_low (significand_of w) 5856 (2 ^ (w / 2 ^ 53)) (2 ^ (w / 2 ^ 53 - 1)) p n d (halved (w / 2 ^ 53) (some w least)) b.0),
        above_high (significand_of w) one (2 ^ (w / 2 ^ 53 - 1)) (2 ^ 1085) 5856 p n d (fits one (significand_of w) gap) one_lo one_hi (half_high (significand_of w + 652 + 5856) (2 ^ (w / 2 ^ 53)) (2 ^ (w / 2 ^ 53 - 1)) p n d (halved (w / 2 ^ 53) (some w least)) b.1),
      )

-- w at most 1023 - 27/128
module _ (w : ℕ) (least : 2 ^ 53 ≤ w) (most : w < 1022 * 2 ^ 53 + 101 * 2 ^ 46) where
  abbrev part : ℕ
  part = significand_of w / 2 ^ (1023 - w / 2 ^ 53)

  units : 2 ^ (1023 - w / 2 ^ 53) * 2 ^ (w / 2 ^ 53 - 1) ≡ 2 ^ 1022
  units = sym (pow-add 2 (1023 - w / 2 ^ 53) (w / 2 ^ 53 - 1)) ∙ ap (λ (x : ℕ). 2 ^ x) (lin w least most)
    where
      lin : (w : ℕ) → 2 ^ 53 ≤ w → w < 1022 * 2 ^ 53 + 101 * 2 ^ 46 → 1023 - w / 2 ^ 53 + (w / 2 ^ 53 - 1) ≡ 1022
      lin w h k = omega arith

  part_lo : part * 2 ^ 1022 ≤ significand_of w * 2 ^ (w / 2 ^ 53 - 1)
  part_lo = le_trans (le_of_eq (ap (λ (x : ℕ). part * x) (sym units) ∙ sym (mul_assoc part (2 ^ (1023 - w / 2 ^ 53)) (2 ^ (w / 2 ^ 53 - 1))))) (mul-le-mul_right (2 ^ (w / 2 ^ 53 - 1)) (div-mul-le_self (significand_of w) (2 ^ (1023 - w / 2 ^ 53))))

  part_hi : significand_of w * 2 ^ (w / 2 ^ 53 - 1) ≤ (part + 1) * 2 ^ 1022
  part_hi = le_trans (mul-le-mul_right (2 ^ (w / 2 ^ 53 - 1)) (le_trans (le_of_lt (lt-div-mul-add {a = significand_of w} {b = 2 ^ (1023 - w / 2 ^ 53)} (pow_pos (1023 - w / 2 ^ 53)))) (le_of_eq (more part (2 ^ (1023 - w / 2 ^ 53)))))) (le_of_eq (mul_assoc (part + 1) (2 ^ (1023 - w / 2 ^ 53)) (2 ^ (w / 2 ^ 53 - 1)) ∙ ap (λ (x : ℕ). (part + 1) * x) units))
    where
      more : (x g : ℕ) → x * g + g ≡ (x + 1) * g
      more x g = simp (add-mul, one-mul)

  half_unit : 2 * 2 ^ (w / 2 ^ 53 - 1) ≤ 2 ^ 1022
  half_unit = le_trans (le_of_eq (sym (halved (w / 2 ^ 53) (some w least)))) (pow_mono (last w most))
    where
      some : (w : ℕ) → 2 ^ 53 ≤ w → 1 ≤ w / 2 ^ 53
      some w h = omega arith

      last : (w : ℕ) → w < 1022 * 2 ^ 53 + 101 * 2 ^ 46 → w / 2 ^ 53 ≤ 1022
      last w h = omega arith

  room_below : part + 2 ^ 60 ≤ 2 ^ 63
  room_below = go (dec_le 2 (1023 - w / 2 ^ 53))
    where
      single : (w : ℕ) → w < 1022 * 2 ^ 53 + 101 * 2 ^ 46 → (2 ≤ 1023 - w / 2 ^ 53 → ⊥) → 1023 - w / 2 ^ 53 ≡ 1
      single w h k = omega arith

      fraction : (w : ℕ) → w < 1022 * 2 ^ 53 + 101 * 2 ^ 46 → (2 ≤ 1023 - w / 2 ^ 53 → ⊥) → w % 2 ^ 53 < 101 * 2 ^ 46
      fraction w h k = omega arith

      less : {x : ℕ} → x ≤ 2 ^ 62 → x + 2 ^ 60 ≤ 2 ^ 63
      less h = omega arith

      near : {x : ℕ} → x ≤ 2 ^ 63 - 2 ^ 60 → x + 2 ^ 60 ≤ 2 ^ 63
      near h = omega arith

      go : Dec (2 ≤ 1023 - w / 2 ^ 53) → part + 2 ^ 60 ≤ 2 ^ 63
      go (yes k) = less (div-le_of_le-mul (2 ^ (1023 - w / 2 ^ 53)) (le_trans (le_of_lt (significand_hi w)) (le_trans (lit≤ tt) (mul-le-mul_right (2 ^ 62) (pow_mono k)))))
      go (no k) = subst (λ (n : ℕ). significand_of w / 2 ^ n + 2 ^ 60 ≤ 2 ^ 63) (sym (single w most k)) (near (div-le_of_le-mul 2 (significand_le w (fraction w most k))))

  pub below_near : (e x : Frac) → Pos e → Pos x → Bracket w 242 e → eq_f x (sub_f e (nat_f 1)) → Close (within (2 ^ 48)) (below_of w) x
  unfolding below_of
  below_near e x P X₁ b s =
      packed_minus (2 ^ 63 - part) 3255 1022 x (positive part room_below) (small part) (lit≤ tt) (lit≤ tt) X₁ (le_trans (lit≤ tt) (mul-le-mul_left 31 (large part room_below)))
      (sized_eq (2 ^ 63 - part) 3255 1022 (neg_f x) (neg_f (sub_f e (nat_f 1))) (neg_f_pos (sub_f e (nat_f 1)) (minus_one_pos e P)) (neg_anti_f (sub_f e (nat_f 1)) x s.1, neg_anti_f x (sub_f e (nat_f 1)) s.0) (at_e e b))
    where
      positive : (p : ℕ) → p + 2 ^ 60 ≤ 2 ^ 63 → 0 < 2 ^ 63 - p
      positive p h = omega arith

      small : (p : ℕ) → 2 ^ 63 - p < 2 ^ 64
      small p = omega arith

      large : (p : ℕ) → p + 2 ^ 60 ≤ 2 ^ 63 → 2 ^ 60 ≤ 2 ^ 63 - p
      large p h = omega arith

      fits : (p : ℕ) → p + 2 ^ 60 ≤ 2 ^ 63 → p ≤ 2 ^ 63
      fits p h = omega arith

      some : (w : ℕ) → 2 ^ 53 ≤ w → 1 ≤ w / 2 ^ 53
      some w h = omega arith

      at_e : (e : Frac) → Bracket w 242 e → Sized (2 ^ 63 - part) 3255 1022 (neg_f (sub_f e (nat_f 1)))
      at_e (frac p n d) b = (
        below_low (significand_of w) part (2 ^ (w / 2 ^ 53 - 1)) (2 ^ 1022) (2 ^ 63) (2 ^ 1085) 5856 3255 p n d (fits part room_below) refl part_lo part_hi half_unit (lit≤ tt) (half_high (significand_of w + 652 + 5856) (2 ^ (w / 2 ^ 53)) (2 ^ (w / 2 ^ 53 - 1)) p n d (halved (w / 2 ^ 53) (some w least)) b.1),
        below_high (significand_of w) part (2 ^ (w / 2 ^ 53 - 1)) (2 ^ 1022) (2 ^ 63) (2 ^ 1085) 5856 3255 p n d (fits part room_below) refl part_lo part_hi half_unit (lit≤ tt) (half_low (significand_of w) 5856 (2 ^ (w / 2 ^ 53)) (2 ^ (w / 2 ^ 53 - 1)) p n d (halved (w / 2 ^ 53) (some w least)) b.0),
      )
