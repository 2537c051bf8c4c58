-- A finite value in units of the format's least: how its bits follow from them, and that more bits lie further from zero. Assumes nothing.
use Rattle.std.proofs.Common.{◌≡◌, ℕ, zero, suc, ◌+◌, ◌-◌, ◌*◌, ◌/◌, ◌%◌, ◌^◌, ◌<◌, ◌≤◌, Bool, cond, ◌&&◌, T, eqb, ltb, leb, ◌⊎◌, ℤ, sym, refl, ap, ◌∙◌, subst, inl, inr, zero-le, le_trans, le_of_eq, lt_of_le_of_lt, le_of_lt, add_assoc, lt_irrefl, mul-le-mul_right, suc-mul, lt_of_mul-lt-mul_right, eq-or-lt_of_le, mul-lt-mul_of_pos_right, mul-pos, lt_of_not-le, le-div_iff_mul-le, zero-mul, not-le_of_lt, mul-div_cancel, arith, ltb→lt, leb→le, pow_pos, pow-add}
use native.Mathlib.Nat.{zero-div}
use lib.Pow.{shr_mono}
use lib.Ieee.{Float, fin, Format, binary32, binary64, prec, emax, low, up, down, size, fits, hid, top, ones, to_bits, of_bits}
use lib.Ieee.Digits.{size-le, size_reaches}
use lib.Ieee.Bits.{of_bits-to_bits}
use lib.Ieee.Fits.{down_pos, and_l, and_r, kept-lt, two, two-le_pos}
use lib.Ieee.Positive.{num, den}
use Rattle.number.proofs.Frac.{ring}
use Rattle.number.proofs.Grid.{size_mono, all_in_use, fewer}
use Rattle.number.proofs.Round.{place, under_top}

-- ---- the bits of a magnitude of n units
abbrev pub mag_bits : Format → ℕ → ℕ
mag_bits f n = (size n - prec f) * hid f + n / 2 ^ (size n - prec f)

lead : (f : Format) (n : ℕ) → 0 < size n - prec f → hid f ≤ n / 2 ^ (size n - prec f)
lead f n K =
    let p = prec f in
    let k = size n - p in
    (le-div_iff_mul-le (pow_pos k)).1 (le_trans (le_of_eq (sym (pow-add 2 (p - 1) k))) (size_reaches n (p - 1 + k) (all_in_use (size n) p (two-le_pos p (two f)) K)))

twice : (f : Format) → 2 ^ prec f ≡ 2 * hid f
twice binary32 = refl
twice binary64 = refl

pub mag_mono : (f : Format) (n n' : ℕ) → n ≤ n' → mag_bits f n ≤ mag_bits f n'
mag_mono f n n' h =
    let k = size n - prec f in
    let k' = size n' - prec f in
    elim (eq-or-lt_of_le (fewer (size n) (size n') (prec f) (size_mono n n' h))) [
      | inl e ↦ subst (λ (j : ℕ). j * hid f + n / 2 ^ j ≤ mag_bits f n') (sym e) (join (k' * hid f) (n / 2 ^ k') (n' / 2 ^ k') (shr_mono k' h))
      | inr l ↦
          apart k k' (hid f) (n / 2 ^ k) (n' / 2 ^ k') (subst (λ (w : ℕ). n / 2 ^ k < w) (twice f) (kept-lt (prec f) n)) (lead f n' (lt_of_le_of_lt zero-le l))
          (suc-mul k (hid f)) (mul-le-mul_right (hid f) l)
    ]
  where
    join : (c x y : ℕ) → x ≤ y → c + x ≤ c + y
    join c x y h = omega arith

    apart : (k k' w x y : ℕ) → x < 2 * w → w ≤ y → suc k * w ≡ k * w + w → suc k * w ≤ k' * w → k * w + x ≤ k' * w + y
    apart k k' w x y a b e c = omega arith

mag_back : (f : Format) (n n' : ℕ) → mag_bits f n < mag_bits f n' → n < n'
mag_back f n n' h = lt_of_not-le (λ (g : n' ≤ n). not-le_of_lt h (mag_mono f n' n g))

-- ---- a finite value that fits, in units: exact
abbrev pub in_units : Format → ℕ → ℤ → ℕ
in_units f m e = m * up e * 2 ^ low f / down e

pub bits_are : (f : Format) (s : Bool) (m : ℕ) (e : ℤ) → to_bits f (fin s m e) ≡ cond s (top f) 0 + mag_bits f (in_units f m e)
unfolding to_bits
bits_are f s m e =
    let n = in_units f m e in
    add_assoc (cond s (top f) 0) ((size n - prec f) * hid f) (n / 2 ^ (size n - prec f))

pub record Known (f : Format) (m : ℕ) (e : ℤ) : Type 0 where
  pub exact : m * up e * 2 ^ low f ≡ in_units f m e * down e
  pub under : in_units f m e < 2 ^ low f * 2 ^ suc (emax f)

pub known : (f : Format) (s : Bool) (m : ℕ) (e : ℤ) → T (fits f (fin s m e)) → Known f m e
unfolding fits
known f s zero e h =
    let z : 0 * up e * 2 ^ low f ≡ 0 = ap (λ (x : ℕ). x * 2 ^ low f) (zero-mul (up e)) ∙ zero-mul (2 ^ low f) in
    let u : in_units f 0 e ≡ 0 = ap (λ (x : ℕ). x / down e) z ∙ zero-div (down e) in
    record {
      exact = z ∙ sym (ap (λ (x : ℕ). x * down e) u ∙ zero-mul (down e));
      under = subst (λ (x : ℕ). x < 2 ^ low f * 2 ^ suc (emax f)) (sym u) (mul-pos (pow_pos (low f)) (pow_pos (suc (emax f))));
    }
known f s (suc m) e h =
    let A = eqb (suc m % 2) 1 in
    let B = ltb (suc m) (2 ^ prec f) in
    let C = leb (down e) (2 ^ low f) in
    let D = ltb (suc m * up e) (2 ^ suc (emax f) * down e) in
    let pl = place (low f) e (leb→le (down e) (2 ^ low f) (and_r (A && B) C (and_l (A && B && C) D h))) in
    let w : in_units f (suc m) e ≡ suc m * 2 ^ pl.0 = ap (λ (x : ℕ). x / down e) (pl.1 (suc m)) ∙ mul-div_cancel (suc m * 2 ^ pl.0) (down_pos e) in
    record {
      exact = pl.1 (suc m) ∙ ap (λ (x : ℕ). x * down e) (sym w);
      under = subst (λ (x : ℕ). x < 2 ^ low f * 2 ^ suc (emax f)) (sym w)
          (under_top (suc m * 2 ^ pl.0) (suc m * up e) (down e) (2 ^ low f) (2 ^ suc (emax f)) (down_pos e) (pow_pos (low f)) (pl.1 (suc m)) (ltb→lt (suc m * up e) (2 ^ suc (emax f) * down e) (and_r (A && B && C) D h)));
    }

-- the magnitude's bits stay below those of an infinity
pub mag_under : (f : Format) (n : ℕ) → n < 2 ^ low f * 2 ^ suc (emax f) → mag_bits f n < ones f * hid f
mag_under f n h =
    let p = prec f in
    let k = size n - p in
    bound f (size n) (n / 2 ^ k) (size-le n (low f + suc (emax f)) (subst (λ (x : ℕ). n < x) (sym (pow-add 2 (low f) (suc (emax f)))) h)) (kept-lt p n)
  where
    bound : (f : Format) (z y : ℕ) → z ≤ low f + suc (emax f) → y < 2 ^ prec f → (z - prec f) * hid f + y < ones f * hid f
    bound binary32 z y a b = omega arith
    bound binary64 z y a b = omega arith

-- ---- the bits of a magnitude are in the order of its value
module _ (f : Format) (s : Bool) (m n : ℕ) (e d : ℤ) (p : T (fits f (fin s m e))) (q : T (fits f (fin s n d))) where
  abbrev M : ℕ
  M = mag_bits f (in_units f m e)

  abbrev N : ℕ
  N = mag_bits f (in_units f n d)

  -- in units, by cross products
  fewer_units : (X Y c b u v l : ℕ) → 0 < l → X * l ≡ u * c → Y * l ≡ v * b → X * b < Y * c → u < v
  fewer_units X Y c b u v l L g h k =
      let a = mul-lt-mul_of_pos_right {k = l} k L in
      let g' = ap (λ (x : ℕ). x * b) g in
      let h' = ap (λ (x : ℕ). x * c) h in
      lt_of_mul-lt-mul_right (c * b) (simp ring (omega (arith, simp ring at a, simp ring at g', simp ring at h')))

  less_value : (X Y c b u v l : ℕ) → 0 < c → 0 < b → X * l ≡ u * c → Y * l ≡ v * b → u < v → X * b < Y * c
  less_value X Y c b u v l C B g h k =
      let a = mul-lt-mul_of_pos_right {k = c * b} k (mul-pos C B) in
      let g' = ap (λ (x : ℕ). x * b) g in
      let h' = ap (λ (x : ℕ). x * c) h in
      lt_of_mul-lt-mul_right l (simp ring (omega (arith, simp ring at a, simp ring at g', simp ring at h')))

  pub further : M < N → m * up e * down d < n * up d * down e
  further h =
      less_value (m * up e) (n * up d) (down e) (down d) (in_units f m e) (in_units f n d) (2 ^ low f) (down_pos e) (down_pos d) (known f s m e p).exact (known f s n d q).exact
      (mag_back f (in_units f m e) (in_units f n d) h)

  -- equal bits are an equal value, so that the order is strict
  pub more_bits : m * up e * down d < n * up d * down e → M < N
  more_bits h =
      let u = fewer_units (m * up e) (n * up d) (down e) (down d) (in_units f m e) (in_units f n d) (2 ^ low f) (pow_pos (low f)) (known f s m e p).exact (known f s n d q).exact h in
      go (eq-or-lt_of_le (mag_mono f (in_units f m e) (in_units f n d) (le_of_lt u)))
    where
      go : (M ≡ N) ⊎ (M < N) → M < N
      go (inl z) =
          let same : fin s m e ≡ fin s n d =
          sym (of_bits-to_bits f (fin s m e) p) ∙ ap (of_bits f) (bits_are f s m e ∙ ap (λ (x : ℕ). cond s (top f) 0 + x) z ∙ sym (bits_are f s n d)) ∙ of_bits-to_bits f (fin s n d) q in
          absurd (lt_irrefl (m * up e * down e) (subst (λ (y : Float). m * up e * den y < num y * down e) (sym same) h))
      go (inr l) = l
