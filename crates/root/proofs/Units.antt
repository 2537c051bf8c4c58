-- Floats that are not negative, counted in units of 2 ^ -1074, and what that says of fractions. Assumes nothing.
use mathlib.Core.Path.{◌≡◌, refl, sym, ap, ◌∙◌, subst, subst₂}
use mathlib.Core.Bool.{Bool, true, false}
use Prim.Native.Nat.{ℕ, zero, suc, ◌+◌, ◌-◌, ◌*◌, ◌/◌, ◌%◌, ◌^◌, ◌≤◌, ◌<◌}
use native.Mathlib.Nat.{zero-lt-suc, zero-mul, mul-pos, le_of_eq, lt_of_mul-lt-mul_right, mul_assoc, mul_comm, mul-lt-mul_of_pos_right}
use native.Mathlib.Omega.{arith}
use native.Mathlib.Decide.{dec_le}
use lib.Dec.{T, lt→ltb}
use lib.IntN.{ℤ}
use lib.Pow.{pow_pos}
use lib.Ieee.{Float, nan, inf, fin, fits, binary64, to_bits, up, down}
use lib.Ieee.Exact.{HasValue}
use lib.Ieee.Fits.{up_pos, down_pos}
use lib.Ieee.Positive.{positive, value_pos, first_pos}
use lib.Ieee.Scale.{finite}
use Rattle.number.specs.Frac.{Frac, frac, le_f, lt_f, zero_f, val_f}
use Rattle.number.proofs.Frac.{ring, val_f_pos, le_lt_trans_f, lt_le_f}
use Rattle.root.specs.Root.{midpoint, square_f}
use Rattle.root.proofs.Domain.{pattern, value_small_of, value_normal_of}
use Rattle.root.proofs.Midpoint.{square_above, square_below}

-- x is n units of 1 / u
pub record Counts (u : ℕ) (x : Float) (n : ℕ) : Type 0 where
  pub upper : ℕ
  pub lower : ℕ
  pub sure : 0 < lower
  pub is : val_f x ≡ frac upper 0 lower
  pub cross : upper * u ≡ n * lower

module _ (u : ℕ) (U : 0 < u) where
  less : {x y : Float} {a b : ℕ} → Counts u x a → Counts u y b → lt_f (val_f x) (val_f y) → a < b
  less {x} {y} {a} {b} X Y h =
      lt_of_mul-lt-mul_right (X.lower * Y.lower)
      (go a b X.upper X.lower Y.upper Y.lower X.cross Y.cross (subst₂ (λ (p q : Frac). lt_f p q) X.is Y.is h))
    where
      go : (a b q c o l : ℕ) → q * u ≡ a * c → o * u ≡ b * l → lt_f (frac q 0 c) (frac o 0 l) → a * (c * l) < b * (c * l)
      go a b q c o l e f h =
          let k = simp ring at (mul-lt-mul_of_pos_right {k = u} h U) in
          let p : q * u * l ≡ a * (c * l) = ap (λ (z : ℕ). z * l) e ∙ mul_assoc a c l in
          let s : o * u * c ≡ b * (c * l) = ap (λ (z : ℕ). z * c) f ∙ mul_assoc b l c ∙ ap (λ (z : ℕ). b * z) (mul_comm l c) in
          let t : q * u * l < o * u * c = simp ring (omega arith) in
          subst₂ (λ (x y : ℕ). x < y) p s t

  module _ {x r y : Float} {n a b : ℕ} (X : Counts u x n) (R : Counts u r a) (Y : Counts u y b) where
    under : 4 * n * u < (a + b) * (a + b) → lt_f (val_f x) (square_f (midpoint r y))
    under h =
        rw (X.is, R.is, Y.is)
        (square_above X.upper X.lower R.upper R.lower Y.upper Y.lower n a b u U X.sure R.sure Y.sure X.cross R.cross Y.cross h)

    over : (a + b) * (a + b) < 4 * n * u → lt_f (square_f (midpoint r y)) (val_f x)
    over h =
        rw (X.is, R.is, Y.is)
        (square_below X.upper X.lower R.upper R.lower Y.upper Y.lower n a b u U X.sure R.sure Y.sure X.cross R.cross Y.cross h)

-- ---- units of 2 ^ -1074
abbrev pub Units : Float → ℕ → Type 0
Units x n = Counts (2 ^ 1074) x n

pub units : (x : Float) (n : ℕ) → HasValue x false n (2 ^ 1074) → Units x n
units nan n v = absurd v
units (inf s) n v = absurd v
units (fin true m e) n v = absurd (subst T v.0 tt)
units (fin false m e) n v = record { upper = m * up e; lower = down e; sure = down_pos e; is = refl; cross = v.1 }

pub no_units : (s : Bool) (e : ℤ) → Units (fin s zero e) 0
no_units s e = record { upper = 0; lower = down e; sure = down_pos e; is = is s; cross = zero-mul (2 ^ 1074) ∙ sym (zero-mul (down e)) }
  where
    is : (s : Bool) → val_f (fin s zero e) ≡ frac 0 0 (down e)
    is true = ap (λ (z : ℕ). frac 0 z (down e)) (zero-mul (up e))
    is false = ap (λ (z : ℕ). frac z 0 (down e)) (zero-mul (up e))

pub units_lt : {x y : Float} {a b : ℕ} → Units x a → Units y b → lt_f (val_f x) (val_f y) → a < b
units_lt = less (2 ^ 1074) (pow_pos 1074)

pub midpoint_above : {x r y : Float} {n a b : ℕ} → Units x n → Units r a → Units y b → 4 * n * 2 ^ 1074 < (a + b) * (a + b) → lt_f (val_f x) (square_f (midpoint r y))
midpoint_above = under (2 ^ 1074) (pow_pos 1074)

pub midpoint_below : {x r y : Float} {n a b : ℕ} → Units x n → Units r a → Units y b → (a + b) * (a + b) < 4 * n * 2 ^ 1074 → lt_f (square_f (midpoint r y)) (val_f x)
midpoint_below = over (2 ^ 1074) (pow_pos 1074)

-- what is in units is not negative, nor is a float above it
pub at_least_zero : {x : Float} {a : ℕ} → Units x a → le_f zero_f (val_f x)
at_least_zero X = subst (λ (z : Frac). le_f zero_f z) (sym X.is) (zero_le X.upper X.lower)
  where
    zero_le : (q c : ℕ) → le_f zero_f (frac q 0 c)
    zero_le q c = omega arith

pub above_zero : {x : Float} {a : ℕ} (y : Float) → Units x a → lt_f (val_f x) (val_f y) → le_f zero_f (val_f y)
above_zero {x} y X h = lt_le_f zero_f (val_f y) (le_lt_trans_f zero_f (val_f x) (val_f y) (zero-lt-suc 0) (val_f_pos x) (at_least_zero X) h)

-- ---- a positive float is m 2 ^ e units, with an m of 53 digits at most
pub record Significand (x : Float) : Type 0 where
  pub m : ℕ
  pub e : ℕ
  pub some : 0 < m
  pub short : m < 2 ^ 53
  pub few : e ≤ 2045
  pub value : HasValue x false (m * 2 ^ e) (2 ^ 1074)

pub significand : (x : Float) → T (fits binary64 x) → T (positive x) → Significand x
significand x f p = go (dec_le (to_bits binary64 x / 4503599627370496) 0)
  where
    some : (m e : ℕ) → HasValue x false (m * 2 ^ e) (2 ^ 1074) → 0 < m
    some m e v = first_pos m (2 ^ e) (value_pos x (m * 2 ^ e) (2 ^ 1074) p (pow_pos 1074) v)

    make : (m e : ℕ) → m < 2 ^ 53 → e ≤ 2045 → HasValue x false (m * 2 ^ e) (2 ^ 1074) → Significand x
    make m e h k v = record { m = m; e = e; some = some m e v; short = h; few = k; value = v }

    go : Dec (to_bits binary64 x / 4503599627370496 ≤ 0) → Significand x
    go (yes z) = make (to_bits binary64 x % 4503599627370496) 0 (omega arith) (omega arith) (value_small_of x f p (omega arith))
    go (no z) =
        make (to_bits binary64 x % 4503599627370496 + 4503599627370496) (to_bits binary64 x / 4503599627370496 - 1) (omega arith) (let h = (pattern x f p).1 in omega arith)
        (value_normal_of x f p (λ h. z (le_of_eq h)))

-- ---- and so is every float that is not negative, either zero being 0
pub record Candidate (y : Float) : Type 0 where
  pub m : ℕ
  pub e : ℕ
  pub short : m < 2 ^ 53
  pub value : Units y (m * 2 ^ e)

pub candidate : (y : Float) → T (fits binary64 y) → T (finite y) → le_f zero_f (val_f y) → Candidate y
candidate nan f g h = absurd g
candidate (inf s) f g h = absurd g
candidate (fin s zero e) f g h = record { m = 0; e = 0; short = pow_pos 53; value = no_units s e }
candidate (fin true (suc m) e) f g h = absurd (clash (suc m * up e) (down e) (mul-pos (zero-lt-suc m) (up_pos e)) h)
  where
    clash : (z d : ℕ) → 0 < z → le_f zero_f (frac 0 z d) → ⊥
    clash z d p h = omega arith
candidate (fin false (suc m) e) f g h = of (significand (fin false (suc m) e) f (lt→ltb 0 (suc m) (zero-lt-suc m)))
  where
    of : Significand (fin false (suc m) e) → Candidate (fin false (suc m) e)
    of S = record { m = S.m; e = S.e; short = S.short; value = units (fin false (suc m) e) (S.m * 2 ^ S.e) S.value }
