-- The eight terms in fixed point, even and odd ones apart, against the exact ones over ln 2. Assumes nothing.
use mathlib.Core.Path.{◌≡◌, refl, sym, ap, ◌∙◌}
use mathlib.Core.List.{List, [], ◌∷◌}
use Prim.Native.Nat.{ℕ, zero, suc, ◌+◌, ◌-◌, ◌*◌, ◌/◌, ◌^◌, ◌≤◌, ◌<◌}
use native.Mathlib.Nat.{suc_inj, le_trans, le_of_eq, add-le-add, mul-add, add-mul, mul_assoc, mul-zero, add-zero, mul-le-mul, mul-le-mul_left, mul-le-mul_right, le_of_mul-le-mul_right, mul-pos, pow-zero, pow-suc, div-mul-le_self}
use native.Mathlib.Omega.{arith}
use lib.Dec.{lit<, lit≤}
use lib.ListN.{length}
use Rattle.fixed_point.specs.Horner.{horner}
use Rattle.fixed_point.proofs.Polynomial.{hom}
use Rattle.series.proofs.Constants.{mn, md}
use Rattle.binary_log.specs.Tables.{odd_terms, even_terms}
use Rattle.binary_log.specs.BinaryLog.{eight_terms}
use Rattle.fixed_point.proofs.Horner.{ring, ac, lower, upper, step_hi, fits}

-- md 840 64 ^ (8 - i) / i for i = 1 .. 8, and the same for every second i
abbrev pub ones : ℕ → ℕ → List ℕ
ones i zero = []
ones i (suc k) = md * (840 / i) * 64 ^ (8 - i) ∷ ones (i + 1) k

abbrev skips : ℕ → ℕ → List ℕ
skips i zero = []
skips i (suc k) = md * (840 / i) * 64 ^ (8 - i) ∷ skips (i + 2) k

abbrev pub scale : ℕ
scale = 840 * 64 ^ 8

-- ---- every second term
unfoldable mix : List ℕ → List ℕ → List ℕ
mix [] os = []
mix (a ∷ es) [] = []
mix (a ∷ es) (b ∷ os) = a ∷ b ∷ mix es os

mix_pow : (d : ℕ) (es os : List ℕ) → length es ≡ length os → d ^ length (mix es os) ≡ (d * d) ^ length es
unfolding mix
mix_pow d [] os h = pow-zero d ∙ sym (pow-zero (d * d))
mix_pow d (a ∷ es) [] h = impossible (length es) (d ^ 0) ((d * d) ^ suc (length es)) h
  where
    impossible : (n x y : ℕ) → suc n ≡ 0 → x ≡ y
    impossible n x y h = omega arith
mix_pow d (a ∷ es) (b ∷ os) h = pow-suc d (suc (length (mix es os))) ∙ ap (λ (z : ℕ). z * d) (pow-suc d (length (mix es os)) ∙ ap (λ (z : ℕ). z * d) (mix_pow d es os (suc_inj h))) ∙ mul_assoc ((d * d) ^ length es) d d ∙ sym (pow-suc (d * d) (length es))

split : (n d : ℕ) (es os : List ℕ) → length es ≡ length os → hom (mix es os) n d ≡ d * hom es (n * n) (d * d) + n * hom os (n * n) (d * d)
unfolding mix hom
split n d [] [] h = sym (go d n)
  where
    go : (d n : ℕ) → d * 0 + n * 0 ≡ 0
    go d n = simp (mul-zero, add-zero)
split n d [] (b ∷ os) h = impossible (length os) 0 (d * 0 + n * hom (b ∷ os) (n * n) (d * d)) h
  where
    impossible : (n x y : ℕ) → 0 ≡ suc n → x ≡ y
    impossible n x y h = omega arith
split n d (a ∷ es) [] h = impossible (length es) 0 (d * hom (a ∷ es) (n * n) (d * d) + n * 0) h
  where
    impossible : (n x y : ℕ) → suc n ≡ 0 → x ≡ y
    impossible n x y h = omega arith
split n d (a ∷ es) (b ∷ os) h =
    let e : length es ≡ length os = suc_inj h in
    ap (λ (z : ℕ). a * z + n * (b * d ^ length (mix es os) + n * hom (mix es os) n d)) (pow-suc d (length (mix es os)))
    ∙ ap (λ (z : ℕ). a * (z * d) + n * (b * z + n * hom (mix es os) n d)) (mix_pow d es os e)
    ∙ ap (λ (z : ℕ). a * ((d * d) ^ length es * d) + n * (b * (d * d) ^ length es + n * z)) (split n d es os e)
    ∙ go a b n d ((d * d) ^ length es) (hom es (n * n) (d * d)) (hom os (n * n) (d * d))
    ∙ ap (λ (l : ℕ). d * (a * (d * d) ^ length es + n * n * hom es (n * n) (d * d)) + n * (b * (d * d) ^ l + n * n * hom os (n * n) (d * d))) e
  where
    go : (a b n d D E O : ℕ) → a * (D * d) + n * (b * D + n * (d * E + n * O)) ≡ d * (a * D + n * n * E) + n * (b * D + n * n * O)
    go a b n d D E O = simp ring

pub ones_split : (n d : ℕ) → hom (ones 1 8) n d ≡ d * hom (skips 1 4) (n * n) (d * d) + n * hom (skips 2 4) (n * n) (d * d)
unfolding mix
ones_split n d = split n d (skips 1 4) (skips 2 4) refl

-- ---- the joins on plain numbers
join_lo : (a o f dd P W K Y E O S : ℕ) → 0 < W → a * K * Y ≤ S * E * (W * W) → o * K * Y ≤ S * O * (W * W) → f * W ≤ o * dd → P * W ≤ dd * (a + f)
    → P * K * Y ≤ S * (dd * (W * E + dd * O))
join_lo a o f dd P W K Y E O S pos ha ho hf hp =
    le_of_mul-le-mul_right (le_trans (le_of_eq (x1 P K Y W)) (le_trans (mul-le-mul_right (K * Y * W) hp) (le_trans (le_of_eq (x2 dd a f K Y W)) (le_trans (mul-le-mul_left dd (add-le-add (mul-le-mul_right W ha) (le_trans (mul-le-mul_right (K * Y) hf) (le_trans (le_of_eq (x4 o dd K Y)) (mul-le-mul_right dd ho))))) (le_of_eq (x3 dd S E W O)))))) (mul-pos pos pos)
  where
    x1 : (P K Y W : ℕ) → P * K * Y * (W * W) ≡ P * W * (K * Y * W)
    x1 P K Y W = simp ac

    x2 : (dd a f K Y W : ℕ) → dd * (a + f) * (K * Y * W) ≡ dd * (a * K * Y * W + f * W * (K * Y))
    x2 dd a f K Y W = simp ring

    x4 : (o dd K Y : ℕ) → o * dd * (K * Y) ≡ o * K * Y * dd
    x4 o dd K Y = simp ac

    x3 : (dd S E W O : ℕ) → dd * (S * E * (W * W) * W + S * O * (W * W) * dd) ≡ S * (dd * (W * E + dd * O)) * (W * W)
    x3 dd S E W O = simp ring

join_hi : (a o f dd P W K Y E O S : ℕ) → 0 < W → S * E * (W * W) ≤ (a + 5) * K * Y → S * O * (W * W) ≤ (o + 5) * K * Y → o * dd ≤ (f + 1) * W → dd * (a + f) ≤ (P + 1) * W → 15 * dd ≤ 8 * W
    → S * (dd * (W * E + dd * O)) ≤ (P + 6) * K * Y
join_hi a o f dd P W K Y E O S pos ha ho hf hp h15 =
    le_of_mul-le-mul_right (le_trans (le_of_eq (sym (x3 dd S E W O))) (le_trans (mul-le-mul_left dd (add-le-add (mul-le-mul_right W ha) (mul-le-mul_right dd ho))) (le_trans (le_of_eq (x2 dd (a + 5) (o + 5) K Y W)) (le_trans (mul-le-mul_right (K * Y) (mul-le-mul_left dd inner)) (le_trans (le_of_eq (x5 dd (a + f + 9) W K Y)) (le_trans (mul-le-mul_right (W * (K * Y)) outer) (le_of_eq (x6 (P + 6) W K Y)))))))) (mul-pos pos pos)
  where
    x3 : (dd S E W O : ℕ) → dd * (S * E * (W * W) * W + S * O * (W * W) * dd) ≡ S * (dd * (W * E + dd * O)) * (W * W)
    x3 dd S E W O = simp ring

    x2 : (dd a o K Y W : ℕ) → dd * (a * K * Y * W + o * K * Y * dd) ≡ dd * (a * W + o * dd) * (K * Y)
    x2 dd a o K Y W = simp ring

    x5 : (dd h W K Y : ℕ) → dd * (h * W) * (K * Y) ≡ dd * h * (W * (K * Y))
    x5 dd h W K Y = simp ac

    x6 : (p W K Y : ℕ) → p * W * (W * (K * Y)) ≡ p * K * Y * (W * W)
    x6 p W K Y = simp ac

    inner : (a + 5) * W + (o + 5) * dd ≤ (a + f + 9) * W
    inner = lin (a * W) (f * W) (o * dd) W dd ((a + 5) * W) ((o + 5) * dd) ((a + f + 9) * W) ((f + 1) * W) (add-mul a 5 W) (add-mul o 5 dd) (add-mul (a + f) 9 W ∙ ap (λ (z : ℕ). z + 9 * W) (add-mul a f W)) (add-mul f 1 W) hf h15
      where
        lin : (aW fW od W dd x y z u : ℕ) → x ≡ aW + 5 * W → y ≡ od + 5 * dd → z ≡ aW + fW + 9 * W → u ≡ fW + 1 * W → od ≤ u → 15 * dd ≤ 8 * W → x + y ≤ z
        lin aW fW od W dd x y z u p q r s h k = omega arith

    outer : dd * (a + f + 9) ≤ (P + 6) * W
    outer = lin (dd * (a + f)) (P * W) W dd (dd * (a + f + 9)) ((P + 6) * W) ((P + 1) * W) (mul-add dd (a + f) 9) (add-mul P 6 W) (add-mul P 1 W) hp h15
      where
        lin : (dh pW W dd x y u : ℕ) → x ≡ dh + dd * 9 → y ≡ pW + 6 * W → u ≡ pW + 1 * W → dh ≤ u → 15 * dd ≤ 8 * W → x ≤ y
        lin dh pW W dd x y u p q r h k = omega arith

-- ---- the instance
abbrev lower_scale : ℕ
lower_scale = 840 * 64 ^ 7 * mn

abbrev WW : ℕ
WW = 2 ^ 64 * 2 ^ 64

succ_of : (x : ℕ) → x ≤ (x / 2 ^ 64 + 1) * 2 ^ 64
succ_of x = omega arith

module _ (dd : ℕ) (h15 : 15 * dd ≤ 8 * 2 ^ 64) where
  q_lo : dd * dd / 2 ^ 64 * (2 ^ 64 * 2 ^ 64) ≤ dd * dd * 2 ^ 64
  q_lo = le_trans (le_of_eq (sym (mul_assoc (dd * dd / 2 ^ 64) (2 ^ 64) (2 ^ 64)))) (mul-le-mul_right (2 ^ 64) (div-mul-le_self (dd * dd) (2 ^ 64)))

  q_hi : dd * dd * 2 ^ 64 ≤ (dd * dd / 2 ^ 64 + 1) * (2 ^ 64 * 2 ^ 64)
  q_hi = le_trans (mul-le-mul_right (2 ^ 64) (succ_of (dd * dd))) (le_of_eq (mul_assoc (dd * dd / 2 ^ 64 + 1) (2 ^ 64) (2 ^ 64)))

  third : 3 * (dd * dd) ≤ 2 ^ 64 * 2 ^ 64
  third = lin (dd * dd) (2 ^ 64 * 2 ^ 64) (le_trans (le_of_eq (sq 15 dd)) (le_trans (mul-le-mul h15 h15) (le_of_eq (sym (sq 8 (2 ^ 64))))))
    where
      sq : (k n : ℕ) → k * k * (n * n) ≡ k * n * (k * n)
      sq k n = simp ac

      lin : (x y : ℕ) → 225 * x ≤ 64 * y → 3 * x ≤ y
      lin x y h = omega arith

  q63 : dd * dd / 2 ^ 64 ≤ 2 ^ 63
  q63 = small (dd * dd / 2 ^ 64) (le_of_mul-le-mul_right (le_trans (le_of_eq (mul_assoc 3 (dd * dd / 2 ^ 64) (2 ^ 64))) (le_trans (mul-le-mul_left 3 (div-mul-le_self (dd * dd) (2 ^ 64))) third)) (lit< tt))
    where
      small : (x : ℕ) → 3 * x ≤ 2 ^ 64 → x ≤ 2 ^ 63
      small x h = omega arith

  even_lo : horner odd_terms (dd * dd / 2 ^ 64) * lower_scale * WW ^ 4 ≤ 2 ^ 63 * hom (skips 1 4) (dd * dd) WW * WW
  even_lo = lower lower_scale (2 ^ 63) (dd * dd / 2 ^ 64) (dd * dd) WW odd_terms (skips 1 4) tt q_lo

  odd_lo : horner even_terms (dd * dd / 2 ^ 64) * lower_scale * WW ^ 4 ≤ 2 ^ 63 * hom (skips 2 4) (dd * dd) WW * WW
  odd_lo = lower lower_scale (2 ^ 63) (dd * dd / 2 ^ 64) (dd * dd) WW even_terms (skips 2 4) tt q_lo

  odd_hi : 2 ^ 63 * hom (skips 2 4) (dd * dd) WW * WW ≤ (horner even_terms (dd * dd / 2 ^ 64) + 5) * lower_scale * WW ^ 4
  odd_hi = upper lower_scale (2 ^ 63) (dd * dd / 2 ^ 64) (dd * dd) WW 3 1 0 0 even_terms (skips 2 4) tt q_hi third (lit≤ tt) (lit≤ tt) q63 tt

  abbrev odd_terms' : List ℕ
  odd_terms' = 1082886808092799 ∷ 158625997279 ∷ 27662178 ∷ []

  even_hi : 2 ^ 63 * hom (skips 1 4) (dd * dd) WW * WW ≤ (horner odd_terms (dd * dd / 2 ^ 64) + 5) * lower_scale * WW ^ 4
  unfolding horner hom
  even_hi =
      step_hi 13306513097844322491 (md * 840 * 64 ^ 7) lower_scale (2 ^ 63) (horner odd_terms' (dd * dd / 2 ^ 64) * (dd * dd / 2 ^ 64) / 2 ^ 64) (horner odd_terms' (dd * dd / 2 ^ 64)) (dd * dd / 2 ^ 64) (2 ^ 64) (dd * dd) WW (WW ^ 3) (hom (skips 3 3) (dd * dd) WW) 1 5 2 3 (lit< tt)
      (lit≤ tt) (succ_of (horner odd_terms' (dd * dd / 2 ^ 64) * (dd * dd / 2 ^ 64))) (fits odd_terms' (dd * dd / 2 ^ 64) q63 tt) q_hi third (lit≤ tt)
      (upper lower_scale (2 ^ 63) (dd * dd / 2 ^ 64) (dd * dd) WW 3 1 0 0 odd_terms' (skips 3 3) tt q_hi third (lit≤ tt) (lit≤ tt) q63 tt)

  abbrev a0 : ℕ
  a0 = horner odd_terms (dd * dd / 2 ^ 64)

  abbrev o0 : ℕ
  o0 = horner even_terms (dd * dd / 2 ^ 64)

  abbrev PP : ℕ
  PP = dd * (a0 + o0 * dd / 2 ^ 64) / 2 ^ 64

  P-lo : PP * lower_scale * WW ^ 4 ≤ 2 ^ 63 * (dd * hom (ones 1 8) dd (2 ^ 64))
  P-lo = le_trans (join_lo a0 o0 (o0 * dd / 2 ^ 64) dd PP (2 ^ 64) lower_scale (WW ^ 4) (hom (skips 1 4) (dd * dd) WW) (hom (skips 2 4) (dd * dd) WW) (2 ^ 63) (lit< tt) even_lo odd_lo (div-mul-le_self (o0 * dd) (2 ^ 64)) (div-mul-le_self (dd * (a0 + o0 * dd / 2 ^ 64)) (2 ^ 64)))
      (le_of_eq (ap (λ (z : ℕ). 2 ^ 63 * (dd * z)) (sym (ones_split dd (2 ^ 64)))))

  P-hi : 2 ^ 63 * (dd * hom (ones 1 8) dd (2 ^ 64)) ≤ (PP + 6) * lower_scale * WW ^ 4
  P-hi = le_trans (le_of_eq (ap (λ (z : ℕ). 2 ^ 63 * (dd * z)) (ones_split dd (2 ^ 64))))
      (join_hi a0 o0 (o0 * dd / 2 ^ 64) dd PP (2 ^ 64) lower_scale (WW ^ 4) (hom (skips 1 4) (dd * dd) WW) (hom (skips 2 4) (dd * dd) WW) (2 ^ 63) (lit< tt) even_hi odd_hi (succ_of (o0 * dd)) (succ_of (dd * (a0 + o0 * dd / 2 ^ 64))) h15)

  -- one unit of 2 ^ -61 plus a part in 32
  pub terms_lo : eight_terms dd * (mn * scale * (2 ^ 64) ^ 8) ≤ 2 ^ 61 * (dd * hom (ones 1 8) dd (2 ^ 64))
  terms_lo = last (PP / 256) PP lower_scale (WW ^ 4) (2 ^ 61) (dd * hom (ones 1 8) dd (2 ^ 64)) (div-mul-le_self PP 256) P-lo
    where
      last : (r p K Y e g : ℕ) → r * 256 ≤ p → p * K * Y ≤ 4 * e * g → r * (64 * K * Y) ≤ e * g
      last r p K Y e g h k = lin (r * (K * Y)) (e * g) (r * (64 * K * Y)) (4 * e * g) (r * 256 * (K * Y)) (p * (K * Y)) (p * K * Y) (x r 64 K Y) (mul_assoc 4 e g) (y r 256 (K * Y)) (mul_assoc p K Y) (mul-le-mul_right (K * Y) h) k
        where
          x : (r n K Y : ℕ) → r * (n * K * Y) ≡ n * (r * (K * Y))
          x r n K Y = simp ac

          y : (r n k : ℕ) → r * n * k ≡ n * (r * k)
          y r n k = simp ac

          lin : (u g a b c d d' : ℕ) → a ≡ 64 * u → b ≡ 4 * g → c ≡ 256 * u → d' ≡ d → c ≤ d → d' ≤ b → a ≤ g
          lin u g a b c d d' p q r s h k = omega arith

  pub terms_hi : 32 * (2 ^ 61 * (dd * hom (ones 1 8) dd (2 ^ 64))) ≤ (32 * eight_terms dd + 33) * (mn * scale * (2 ^ 64) ^ 8)
  terms_hi = last (PP / 256) PP lower_scale (WW ^ 4) (2 ^ 61) (dd * hom (ones 1 8) dd (2 ^ 64)) (up PP) P-hi
    where
      up : (x : ℕ) → x + 6 ≤ x / 256 * 256 + 261
      up x = omega arith

      last : (r p K Y e g : ℕ) → p + 6 ≤ r * 256 + 261 → 4 * e * g ≤ (p + 6) * K * Y → 32 * (e * g) ≤ (32 * r + 33) * (64 * K * Y)
      last r p K Y e g h k = lin (r * (K * Y)) (K * Y) (e * g) ((32 * r + 33) * (64 * K * Y)) (4 * e * g) ((r * 256 + 261) * (K * Y)) ((p + 6) * (K * Y)) ((p + 6) * K * Y) (x (32 * r + 33) 64 K Y ∙ ap (λ (z : ℕ). 64 * z) (add-mul (32 * r) 33 (K * Y) ∙ ap (λ (z : ℕ). z + 33 * (K * Y)) (mul_assoc 32 r (K * Y)))) (mul_assoc 4 e g) (add-mul (r * 256) 261 (K * Y) ∙ ap (λ (z : ℕ). z + 261 * (K * Y)) (y r 256 (K * Y))) (mul_assoc (p + 6) K Y) (mul-le-mul_right (K * Y) h) k
        where
          x : (r n K Y : ℕ) → r * (n * K * Y) ≡ n * (r * (K * Y))
          x r n K Y = simp ac

          y : (r n k : ℕ) → r * n * k ≡ n * (r * k)
          y r n k = simp ac

          lin : (u v g a b c d d' : ℕ) → a ≡ 64 * (32 * u + 33 * v) → b ≡ 4 * g → c ≡ 256 * u + 261 * v → d' ≡ d → d ≤ c → b ≤ d' → 32 * g ≤ a
          lin u v g a b c d d' p q r s h k = omega arith
