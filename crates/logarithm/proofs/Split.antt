-- y = 2 ^ k w with 2/3 ≤ w < 4/3 in one way only; and z = (w - 1) / (w + 1) of that w. Assumes nothing.
use mathlib.Core.Path.{◌≡◌, sym, ap, ap₂, ◌∙◌, subst}
use mathlib.Core.Bool.{Bool, true, false}
use Prim.Native.Nat.{ℕ, suc, ◌+◌, ◌-◌, ◌*◌, ◌^◌, ◌≤◌, ◌<◌}
use native.Mathlib.Nat.{le_trans, le_of_eq, not-le_of_lt, le_antisymm, mul_comm, mul_assoc, add-mul, one-mul, mul-le-mul_left, mul-le-mul_right, le_of_mul-le-mul_right, eq_of_mul-eq-mul_right, add-sub_of_le, mul-pos}
use native.Mathlib.Nat as Nat
use native.Mathlib.Decide.{dec_le}
use native.Mathlib.Omega.{arith}
use lib.Dec.{lit<}
use lib.Pow.{pow_pos, pow-add}
use Rattle.number.specs.Frac.{Frac, frac, Pos, le_f, lt_f, zero_f, neg_f, add_f, sub_f, mul_f, inv_f, sgn}
use Rattle.number.proofs.Frac.{ring, sgn_pos, add_f_pos, mul_f_pos}
use Rattle.number.proofs.Hull.{inv_above, inv_f_pos_above}
use Rattle.fixed_point.proofs.Horner.{ac}
use Rattle.series.specs.Sums.{nat_f, eq_f, scale_f}
use Rattle.series.specs.Exact.{z_of}
use Rattle.logarithm.proofs.Fractions.{eq_refl_f, eq_sym_f, eq_trans_f, add_cong, mul_cong, inv_cong, above_cong}

-- ---- two numbers less than a factor of 2 apart are not moved apart by powers of 2
less_not : (g h a b : ℕ) → 0 < h → g < 2 * h → g * 2 ^ a ≡ h * 2 ^ b → a < b → ⊥
less_not g h a b p l e k = not-le_of_lt l (le_of_mul-le-mul_right {k = 2 ^ a} (le_trans (le_of_eq (go h (2 ^ a))) (le_trans (mul-le-mul_left h (le_trans (le_of_eq (sym (twice a))) (more a b k))) (le_of_eq (sym e)))) (pow_pos a))
  where
    go : (h x : ℕ) → 2 * h * x ≡ h * (2 * x)
    go h x = simp ac

    twice : (a : ℕ) → 2 ^ suc a ≡ 2 * 2 ^ a
    twice a = Nat.pow-suc 2 a ∙ mul_comm (2 ^ a) 2

    more : (a b : ℕ) → a < b → 2 ^ suc a ≤ 2 ^ b
    more a b h = lib.Pow.pow_mono h

same_power : (g h a b : ℕ) → 0 < g → 0 < h → g < 2 * h → h < 2 * g → g * 2 ^ a ≡ h * 2 ^ b → a ≡ b
same_power g h a b p q l m e = go (dec_le a b) (dec_le b a)
  where
    lt : (x y : ℕ) → (x ≤ y → ⊥) → y < x
    lt x y n = Nat.lt_of_not-le n

    go : Dec (a ≤ b) → Dec (b ≤ a) → a ≡ b
    go (yes u) (yes v) = le_antisymm u v
    go (no u) v = absurd (less_not h g b a p m (sym e) (lt a b u))
    go (yes u) (no v) = absurd (less_not g h a b q l e (lt b a v))

-- k - 1023, as the relation of k ln 2 has it
abbrev pub Exponent : Bool → ℕ → ℕ → Type 0
Exponent false k e = k + 1023 ≡ e
Exponent true k e = e + k ≡ 1023

module _ (u₀ d₀ e : ℕ) (dp : 0 < d₀) (lo : 2 * d₀ ≤ 3 * u₀) (hi : 3 * u₀ < 4 * d₀) where
  -- from the numbers: y is u₀ 2 ^ e / (d₀ 2 ^ 1023), and u 2 ^ a / (d 2 ^ b)
  unique : (u d a b : ℕ) → 0 < d → 2 * d ≤ 3 * u → 3 * u < 4 * d → u₀ * 2 ^ e * (d * 2 ^ b) ≡ u * 2 ^ a * (d₀ * 2 ^ 1023) → (e + b ≡ a + 1023) × (u₀ * d ≡ u * d₀)
  unique u d a b p l h q =
      let eq : u₀ * d * 2 ^ (e + b) ≡ u * d₀ * 2 ^ (a + 1023) = ap (λ (x : ℕ). u₀ * d * x) (pow-add 2 e b) ∙ s u₀ d (2 ^ e) (2 ^ b) ∙ q ∙ s' u d₀ (2 ^ a) (2 ^ 1023) ∙ ap (λ (x : ℕ). u * d₀ * x) (sym (pow-add 2 a 1023)) in
      let k = same_power (u₀ * d) (u * d₀) (e + b) (a + 1023) (mul-pos (pos u₀ d₀ lo dp) p) (mul-pos (pos u d l p) dp) (near u₀ d₀ u d p hi l) (near u d u₀ d₀ dp h lo) eq in
      (k, eq_of_mul-eq-mul_right (2 ^ (e + b)) (pow_pos (e + b)) (u₀ * d) (u * d₀) (eq ∙ ap (λ (x : ℕ). u * d₀ * 2 ^ x) (sym k)))
    where
      s : (u d x y : ℕ) → u * d * (x * y) ≡ u * x * (d * y)
      s u d x y = simp ac

      s' : (u d x y : ℕ) → u * x * (d * y) ≡ u * d * (x * y)
      s' u d x y = simp ac

      pos : (u d : ℕ) → 2 * d ≤ 3 * u → 0 < d → 0 < u
      pos u d h k = omega arith

      -- 3 u < 4 d and 2 d' ≤ 3 u' give u d' < 2 u' d
      near : (u d u' d' : ℕ) → 0 < d' → 3 * u < 4 * d → 2 * d' ≤ 3 * u' → u * d' < 2 * (u' * d)
      near u d u' d' p h k = lin (u * d') (u' * d) (d * d') d' p (le_trans (le_of_eq (s3 u d')) (le_trans (mul-le-mul_right d' (one (3 * u) (4 * d) h)) (le_of_eq (mul_assoc 4 d d')))) (le_trans (le_of_eq (s2 d d')) (le_trans (mul-le-mul_right d k) (le_of_eq (mul_assoc 3 u' d))))
        where
          one : (x y : ℕ) → x < y → x + 1 ≤ y
          one x y h = omega arith

          s3 : (u d : ℕ) → 3 * (u * d) + d ≡ (3 * u + 1) * d
          s3 u d = sym (add-mul (3 * u) 1 d ∙ ap₂ ◌+◌ (mul_assoc 3 u d) (one-mul d))

          s2 : (d d' : ℕ) → 2 * (d * d') ≡ 2 * d' * d
          s2 d d' = simp ac

          lin : (x y z d : ℕ) → 0 < d → 3 * x + d ≤ 4 * z → 2 * z ≤ 3 * y → x < 2 * y
          lin x y z d p h k = omega arith

  -- the same of a fraction w, whatever stands for it
  module _ (y : Frac) (yp : Pos y) (given : eq_f y (frac (u₀ * 2 ^ e) 0 (d₀ * 2 ^ 1023))) where
    plain : (p n d : ℕ) → le_f (frac 2 0 3) (frac p n d) → 0 < d → n ≤ p
    plain p n d h q = omega arith

    over : (p n d : ℕ) → n ≤ p → le_f (frac 2 0 3) (frac p n d) → 2 * d ≤ 3 * (p - n)
    over p n d l h = omega arith

    under : (p n d : ℕ) → n ≤ p → lt_f (frac p n d) (frac 4 0 3) → 3 * (p - n) < 4 * d
    under p n d l h = omega arith

    -- the cross product, with n + u for p
    times : (u n d x X Y : ℕ) → eq_f (frac X 0 Y) (frac (x * (n + u) + 0 * n) (x * n + 0 * (n + u)) (1 * d)) → X * (d * 1) ≡ u * x * Y
    times u n d x X Y h =
        let a = simp ring at h.0 in
        let b = simp ring at h.1 in
        simp ring (omega arith)

    parts : (u n d x X Y : ℕ) → eq_f (frac X 0 Y) (frac (n + u) n (d * x)) → X * (d * x) ≡ u * 1 * Y
    parts u n d x X Y h =
        let a = simp ring at h.0 in
        let b = simp ring at h.1 in
        simp ring (omega arith)

    pub split : (neg : Bool) (k : ℕ) (w : Frac) → Pos w → eq_f y (scale_f neg k w) → le_f (frac 2 0 3) w → lt_f w (frac 4 0 3) → Exponent neg k e × eq_f w (frac u₀ 0 d₀)
    split neg k (frac p n d) wp s l h = go neg s
      where
        le : n ≤ p
        le = plain p n d l wp

        u : ℕ
        u = p - n

        back : n + (p - n) ≡ p
        back = add-sub_of_le le

        value : u₀ * d ≡ (p - n) * d₀ → eq_f (frac p n d) (frac u₀ 0 d₀)
        value q = subst (λ (z : ℕ). eq_f (frac z n d) (frac u₀ 0 d₀)) back (fin (p - n) q)
          where
            fin : (u : ℕ) → u₀ * d ≡ u * d₀ → eq_f (frac (n + u) n d) (frac u₀ 0 d₀)
            fin u q =
                let a = simp ring at q in
                (simp ring (omega arith), simp ring (omega arith))

        end : (a b : ℕ) → u₀ * 2 ^ e * (d * 2 ^ b) ≡ (p - n) * 2 ^ a * (d₀ * 2 ^ 1023) → (e + b ≡ a + 1023) × (u₀ * d ≡ (p - n) * d₀)
        end a b q = unique (p - n) d a b wp (over p n d le l) (under p n d le h) q

        go : (neg : Bool) → eq_f y (scale_f neg k (frac p n d)) → Exponent neg k e × eq_f (frac p n d) (frac u₀ 0 d₀)
        go false s =
            let f : eq_f (frac (u₀ * 2 ^ e) 0 (d₀ * 2 ^ 1023)) (scale_f false k (frac p n d)) = eq_trans_f (frac (u₀ * 2 ^ e) 0 (d₀ * 2 ^ 1023)) y (scale_f false k (frac p n d)) yp (eq_sym_f y (frac (u₀ * 2 ^ e) 0 (d₀ * 2 ^ 1023)) given) s in
            let r = end k 0 (times (p - n) n d (2 ^ k) (u₀ * 2 ^ e) (d₀ * 2 ^ 1023) (subst (λ (z : ℕ). eq_f (frac (u₀ * 2 ^ e) 0 (d₀ * 2 ^ 1023)) (scale_f false k (frac z n d))) (sym back) f)) in
            (lin e k r.0, value r.1)
          where
            lin : (e k : ℕ) → e + 0 ≡ k + 1023 → k + 1023 ≡ e
            lin e k h = omega arith
        go true s =
            let f : eq_f (frac (u₀ * 2 ^ e) 0 (d₀ * 2 ^ 1023)) (scale_f true k (frac p n d)) = eq_trans_f (frac (u₀ * 2 ^ e) 0 (d₀ * 2 ^ 1023)) y (scale_f true k (frac p n d)) yp (eq_sym_f y (frac (u₀ * 2 ^ e) 0 (d₀ * 2 ^ 1023)) given) s in
            let r = end 0 k (parts (p - n) n d (2 ^ k) (u₀ * 2 ^ e) (d₀ * 2 ^ 1023) (subst (λ (z : ℕ). eq_f (frac (u₀ * 2 ^ e) 0 (d₀ * 2 ^ 1023)) (scale_f true k (frac z n d))) (sym back) f)) in
            (lin e k r.0, value r.1)
          where
            lin : (e k : ℕ) → e + k ≡ 0 + 1023 → e + k ≡ 1023
            lin e k h = omega arith

-- ---- z of that w, which is (o + n) / o, or (o - n) / o where s is true
abbrev pub Part : Bool → ℕ → ℕ → ℕ → Type 0
Part false u n o = u ≡ o + n
Part true u n o = u + n ≡ o

module _ (s : Bool) (w : Frac) (wp : Pos w) (u n o : ℕ) (op : 0 < o) (part : Part s u n o) (same : eq_f w (frac u 0 o)) where
  less_one : (s : Bool) → Part s u n o → eq_f (sub_f (frac u 0 o) (nat_f 1)) (sgn s n o)
  less_one false e = subst (λ (x : ℕ). eq_f (sub_f (frac x 0 o) (nat_f 1)) (frac n 0 o)) (sym e) (simp ring (omega arith), simp ring (omega arith))
  less_one true e = subst (λ (x : ℕ). eq_f (sub_f (frac u 0 x) (nat_f 1)) (frac 0 n x)) e (simp ring (omega arith), simp ring (omega arith))

  more_one : eq_f (add_f (frac u 0 o) (nat_f 1)) (frac (u + o) 0 o)
  more_one = (simp ring (omega arith), simp ring (omega arith))

  top : eq_f (sub_f w (nat_f 1)) (sgn s n o)
  top = eq_trans_f (sub_f w (nat_f 1)) (sub_f (frac u 0 o) (nat_f 1)) (sgn s n o) (mul-pos {n = 1} op (lit< tt)) (add_cong w (frac u 0 o) (neg_f (nat_f 1)) (neg_f (nat_f 1)) same (eq_refl_f (neg_f (nat_f 1)))) (less_one s part)

  bottom : eq_f (add_f w (nat_f 1)) (frac (u + o) 0 o)
  bottom = eq_trans_f (add_f w (nat_f 1)) (add_f (frac u 0 o) (nat_f 1)) (frac (u + o) 0 o) (mul-pos {n = 1} op (lit< tt)) (add_cong w (frac u 0 o) (nat_f 1) (nat_f 1) same (eq_refl_f (nat_f 1))) more_one

  plus_pos : 0 < u + o
  plus_pos = omega arith

  bottom_above : lt_f zero_f (frac (u + o) 0 o)
  bottom_above = go (u + o) plus_pos
    where
      go : (x : ℕ) → 0 < x → 0 * o + 0 * 1 < x * 1 + 0 * o
      go x h = omega arith

  bottom_pos : Pos (add_f w (nat_f 1))
  bottom_pos = add_f_pos w (nat_f 1) wp (lit< tt)

  bottom_above' : lt_f zero_f (add_f w (nat_f 1))
  bottom_above' = above_cong (frac (u + o) 0 o) (add_f w (nat_f 1)) op bottom_pos (eq_sym_f (add_f w (nat_f 1)) (frac (u + o) 0 o) bottom) bottom_above

  inverse : eq_f (inv_f (add_f w (nat_f 1))) (frac o 0 (u + o))
  inverse = subst (eq_f (inv_f (add_f w (nat_f 1)))) (inv_above (u + o) 0 o plus_pos ∙ ap (frac o 0) (all (u + o))) (inv_cong (add_f w (nat_f 1)) (frac (u + o) 0 o) bottom_above' bottom_above bottom)
    where
      all : (x : ℕ) → x - 0 ≡ x
      all x = omega arith

  shorten : (s : Bool) → eq_f (mul_f (sgn s n o) (frac o 0 (u + o))) (sgn s n (u + o))
  shorten false = (simp ring (omega arith), simp ring (omega arith))
  shorten true = (simp ring (omega arith), simp ring (omega arith))

  pub z_is : eq_f (z_of w) (sgn s n (u + o))
  z_is =
      eq_trans_f (z_of w) (mul_f (sgn s n o) (frac o 0 (u + o))) (sgn s n (u + o)) (mul_f_pos (sgn s n o) (frac o 0 (u + o)) (sgn_pos s n o op) plus_pos)
      (mul_cong (sub_f w (nat_f 1)) (sgn s n o) (inv_f (add_f w (nat_f 1))) (frac o 0 (u + o)) top inverse) (shorten s)

  pub z_pos : Pos (z_of w)
  z_pos = mul_f_pos (sub_f w (nat_f 1)) (inv_f (add_f w (nat_f 1))) (add_f_pos w (neg_f (nat_f 1)) wp (lit< tt)) (inv_f_pos_above (add_f w (nat_f 1)) bottom_above')
