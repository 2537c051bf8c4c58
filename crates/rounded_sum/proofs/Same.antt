-- Fractions that are the same: each at most the other. Assumes nothing.
use mathlib.Core.Path.{◌≡◌, ap, ◌∙◌, subst}
use mathlib.Core.Logic.{◌⊎◌, inl, inr}
use mathlib.Core.Bool.{true, false, ◌&&◌, cond}
use Prim.Native.Nat.{ℕ, ◌+◌, ◌-◌, ◌*◌, ◌≤◌, ◌<◌}
use native.Mathlib.Nat.{le_antisymm, eq-zero-or-pos, mul-pos, lt_of_not-le}
use native.Mathlib.Decide.{dec_le}
use native.Mathlib.Omega.{arith}
use lib.IntN.{pos}
use lib.Dec.{T, ltb}
use lib.Ieee.{Float, nan, inf, fin, binary64, round, add, sum, up, down}
use borrow.Author.Tests.{lt-ltb, le-ltb}
use lib.Ieee.Scale.{finite, round_same}
use Rattle.number.specs.Frac.{Frac, frac, Pos, add_f, sub_f, neg_f, val_f}
use Rattle.number.proofs.Frac.{ring, le_refl_f, le_trans_f, add_mono_f, neg_anti_f}
use Rattle.rounded_sum.specs.RoundedSum.{Same, nearest_to}

pub same_refl : (x : Frac) → Same x x
same_refl x = (le_refl_f x, le_refl_f x)

pub same_sym : (x y : Frac) → Same x y → Same y x
same_sym x y h = (h.1, h.0)

pub same_trans : (x y z : Frac) → Pos y → Same x y → Same y z → Same x z
same_trans x y z Y h k = (le_trans_f x y z Y h.0 k.0, le_trans_f z y x Y k.1 h.1)

pub same_add : (x x' y y' : Frac) → Same x x' → Same y y' → Same (add_f x y) (add_f x' y')
same_add x x' y y' h k = (add_mono_f x x' y y' h.0 k.0, add_mono_f x' x y' y h.1 k.1)

pub same_neg : (x y : Frac) → Same x y → Same (neg_f x) (neg_f y)
same_neg x y h = (neg_anti_f y x h.1, neg_anti_f x y h.0)

pub same_sub : (x x' y y' : Frac) → Same x x' → Same y y' → Same (sub_f x y) (sub_f x' y')
same_sub x x' y y' h k = same_add x x' (neg_f y) (neg_f y') h (same_neg y y' k)

pub add_turn : (x y : Frac) → Same (add_f x y) (add_f y x)
add_turn (frac p n d) (frac q m c) = (simp ring (omega arith), simp ring (omega arith))

-- s + ((x + y) - s) is x + y
pub put_back : (q s : Frac) → Same (add_f s (sub_f q s)) q
put_back (frac p n d) (frac r m c) = (simp ring (omega arith), simp ring (omega arith))

-- ---- the same fraction has one nearest float
pub nearest_same : (x y : Frac) → Pos x → Pos y → Same x y → nearest_to x ≡ nearest_to y
unfolding nearest_to
nearest_same (frac p n d) (frac q m c) D C h = go (dec_le n p) (dec_le m q)
  where
    e : p * c + m * d ≡ q * d + n * c
    e = le_antisymm h.0 h.1

    -- by the differences
    above : (u v : ℕ) → p ≡ n + u → q ≡ m + v → u * c ≡ v * d
    above u v g k =
        let e' = subst (λ (z : ℕ). z * c + m * d ≡ q * d + n * c) g e in
        let e'' = subst (λ (z : ℕ). (n + u) * c + m * d ≡ z * d + n * c) k e' in
        let w = simp ring at e'' in
        simp ring (omega arith)

    below : (u v : ℕ) → n ≡ p + u → m ≡ q + v → u * c ≡ v * d
    below u v g k =
        let e' = subst (λ (z : ℕ). p * c + m * d ≡ q * d + z * c) g e in
        let e'' = subst (λ (z : ℕ). p * c + z * d ≡ q * d + (p + u) * c) k e' in
        let w = simp ring at e'' in
        simp ring (omega arith)

    -- one above and the other below
    mixed : (u v : ℕ) → p ≡ n + u → m ≡ q + v → 0 < v → ⊥
    mixed u v g k H =
        let e' = subst (λ (z : ℕ). z * c + m * d ≡ q * d + n * c) g e in
        let e'' = subst (λ (z : ℕ). (n + u) * c + z * d ≡ q * d + n * c) k e' in
        let w = simp ring at e'' in
        let s = mul-pos H D in
        let s' = simp ring at s in
        omega arith

    mixed' : (u v : ℕ) → n ≡ p + u → q ≡ m + v → 0 < u → ⊥
    mixed' u v g k H =
        let e' = subst (λ (z : ℕ). p * c + m * d ≡ q * d + z * c) g e in
        let e'' = subst (λ (z : ℕ). p * c + m * d ≡ z * d + (p + u) * c) k e' in
        let w = simp ring at e'' in
        let s = mul-pos H C in
        let s' = simp ring at s in
        omega arith

    whole : (a b : ℕ) → b ≤ a → a ≡ b + (a - b)
    whole a b h = omega arith

    gap : (a b : ℕ) → a < b → 0 < b - a
    gap a b h = omega arith

    less : (a b : ℕ) → a < b → a ≤ b
    less a b h = omega arith

    go : Dec (n ≤ p) → Dec (m ≤ q) → cond (ltb p n) (round binary64 true (n - p) d) (round binary64 false (p - n) d) ≡ cond (ltb q m) (round binary64 true (m - q) c) (round binary64 false (q - m) c)
    go (yes g) (yes k) = rw (le-ltb p n g, le-ltb q m k) (round_same binary64 false (p - n) d (q - m) c D C (above (p - n) (q - m) (whole p n g) (whole q m k)))
    go (yes g) (no k) = let l = lt_of_not-le k in absurd (mixed (p - n) (m - q) (whole p n g) (whole m q (less q m l)) (gap q m l))
    go (no g) (yes k) = let l = lt_of_not-le g in absurd (mixed' (n - p) (q - m) (whole n p (less p n l)) (whole q m k) (gap p n l))
    go (no g) (no k) =
        let l = lt_of_not-le g in
        let r = lt_of_not-le k in
        rw (lt-ltb p n l, lt-ltb q m r) (round_same binary64 true (n - p) d (m - q) c D C (below (n - p) (m - q) (whole n p (less p n l)) (whole m q (less q m r))))

-- ---- a finite float, +0 added: the nearest to its own fraction, -0 becoming +0
pub plus_zero : (x : Float) → T (finite x) → add binary64 x (fin false 0 (pos 0)) ≡ nearest_to (val_f x)
unfolding add sum nearest_to
plus_zero nan t = absurd t
plus_zero (inf s) t = absurd t
plus_zero (fin false m e) t = go (m * up e) (down e)
  where
    zero_le : (x : ℕ) → 0 ≤ x
    zero_le x = omega arith

    top : (x d : ℕ) → x * 1 + 0 * 1 * d ≡ x - 0
    top x d = omega arith

    bottom : (d : ℕ) → d * 1 ≡ d
    bottom d = omega arith

    go : (x d : ℕ) → round binary64 false (x * 1 + 0 * 1 * d) (d * 1) ≡ cond (ltb x 0) (round binary64 true (0 - x) d) (round binary64 false (x - 0) d)
    go x d = rw (le-ltb x 0 (zero_le x)) (ap (λ (z : ℕ). round binary64 false z (d * 1)) (top x d) ∙ ap (λ (z : ℕ). round binary64 false (x - 0) z) (bottom d))
plus_zero (fin true m e) t = go (m * up e) (down e) (eq-zero-or-pos (m * up e))
  where
    none : (x d : ℕ) → 0 * 1 * d ≤ x
    none x d = omega arith

    bottom : (d : ℕ) → d * 1 ≡ d
    bottom d = omega arith

    go : (x d : ℕ) → (x ≡ 0) ⊎ (0 < x)
        → cond (ltb (x * 1) (0 * 1 * d)) (round binary64 false (0 * 1 * d - x * 1) (d * 1)) (round binary64 (true && ltb (0 * 1 * d) (x * 1)) (x * 1 - 0 * 1 * d) (d * 1))
        ≡ cond (ltb 0 x) (round binary64 true (x - 0) d) (round binary64 false (0 - x) d)
    go x d (inl z) =
        rw (le-ltb (x * 1) (0 * 1 * d) (none (x * 1) d), le-ltb (0 * 1 * d) (x * 1) (empty x d z), le-ltb 0 x (empty' x z))
        (ap (λ (y : ℕ). round binary64 false y (d * 1)) (zeros x d z) ∙ ap (λ (y : ℕ). round binary64 false (0 - x) y) (bottom d))
      where
        empty : (x d : ℕ) → x ≡ 0 → x * 1 ≤ 0 * 1 * d
        empty x d z = omega arith

        empty' : (x : ℕ) → x ≡ 0 → x ≤ 0
        empty' x z = omega arith

        zeros : (x d : ℕ) → x ≡ 0 → x * 1 - 0 * 1 * d ≡ 0 - x
        zeros x d z = omega arith
    go x d (inr h) =
        rw (le-ltb (x * 1) (0 * 1 * d) (none (x * 1) d), lt-ltb (0 * 1 * d) (x * 1) (some x d h), lt-ltb 0 x h)
        (ap (λ (y : ℕ). round binary64 true y (d * 1)) (all x d) ∙ ap (λ (y : ℕ). round binary64 true (x - 0) y) (bottom d))
      where
        some : (x d : ℕ) → 0 < x → 0 * 1 * d < x * 1
        some x d h = omega arith

        all : (x d : ℕ) → x * 1 - 0 * 1 * d ≡ x - 0
        all x d = omega arith
