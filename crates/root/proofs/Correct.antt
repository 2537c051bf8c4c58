-- The root is correctly rounded, as `Nearest` says, for every float that it accepts; and only one value is. Assumes nothing.
use mathlib.Core.Path.{◌≡◌, refl, sym, ap, ◌∙◌, subst}
use mathlib.Core.Logic.{◌⊎◌, inl, inr}
use mathlib.Core.Bool.{Bool, true, false}
use Prim.Native.Nat.{ℕ, zero, suc, ◌+◌, ◌-◌, ◌*◌, ◌/◌, ◌^◌, ◌≤◌, ◌<◌}
use native.Mathlib.Nat.{zero-lt-suc, zero-mul, mul-pos, le_of_eq, lt_of_le_of_lt, lt_of_lt_of_le, add_comm, mul_assoc, mul_comm, mul-lt-mul_of_pos_right}
use native.Mathlib.Omega.{arith}
use lib.Dec.{T, lt→ltb}
use lib.IntN.{ℤ}
use lib.Pow.{pow-add}
use lib.Ieee.{Float, nan, inf, fin, fits, binary64}
use lib.Ieee.Bits.{of_bits-fits}
use lib.Ieee.Exact.{HasValue}
use lib.Ieee.Positive.{positive}
use lib.Ieee.Scale.{finite}
use Rattle.number.specs.Ans.{held, refused}
use Rattle.number.specs.Frac.{le_f, lt_f, val_f}
use Rattle.number.proofs.Frac.{le_or_lt, lt_le_f, lt_irrefl_f}
use Rattle.root.specs.Root.{whole_root, positive_root, root, midpoint, square_f, Nearest}
use Rattle.root.proofs.Align.{zeros, double, moved, moved_fits, moved_long, exact, positive_is}
use Rattle.root.proofs.Domain.{root_of}
use Rattle.root.proofs.Pattern.{value_packed}
use Rattle.root.proofs.Rounded.{above_float, below_float}
use Rattle.root.proofs.Units.{Units, units, no_units, units_lt, midpoint_above, midpoint_below, at_least_zero, above_zero, Significand, significand, Candidate, candidate}
use Rattle.root.proofs.Whole.{Whole, whole_root_is, digits_54}

-- ---- a positive float x of m 2 ^ e units
module _ (x : Float) (S : Significand x) where
  -- its root is s 2 ^ h units, s half of the whole root w of n
  abbrev n : ℕ
  n = moved S.m S.e * 2 ^ 44

  abbrev w : ℕ
  w = whole_root 54 n

  abbrev s : ℕ
  s = (w + 1) / 2

  abbrev h : ℕ
  h = double S.m S.e / 2

  abbrev r : Float
  r = positive_root (S.m * 2 ^ S.e)

  whole : Whole w n
  whole = whole_root_is 54 n (mul-lt-mul_of_pos_right {k = 17592186044416} (moved_fits S.m S.e S.some S.short) (omega arith))

  span : (2 ^ 53 ≤ w) × (w < 2 ^ 54)
  span = digits_54 (moved S.m S.e) (moved_long S.m S.e S.some S.short) (moved_fits S.m S.e S.some S.short)

  result : HasValue r false (s * 2 ^ h) (2 ^ 1074)
  result =
      subst (λ (z : Float). HasValue z false (s * 2 ^ h) (2 ^ 1074)) (sym (positive_is S.m S.e S.some S.short))
      (value_packed h s (field (zeros S.m) S.e S.few) (low w span.0) (high w span.1))
    where
      field : (l e : ℕ) → e ≤ 2045 → (1033 + e - l) / 2 ≤ 2044
      field l e k = omega arith

      low : (w : ℕ) → 9007199254740992 ≤ w → 4503599627370496 ≤ (w + 1) / 2
      low w k = omega arith

      high : (w : ℕ) → w < 18014398509481984 → (w + 1) / 2 ≤ 9007199254740992
      high w k = omega arith

  -- four times x's units are n times the square of 2 ^ h
  scale : 4 * (S.m * 2 ^ S.e) * 2 ^ 1074 ≡ n * (2 ^ h * 2 ^ h)
  scale = quarter (S.m * 2 ^ S.e) ∙ exact S.m S.e S.some S.short ∙ ap (λ (z : ℕ). n * z) (ap (λ (z : ℕ). 2 ^ z) (twice h) ∙ pow-add 2 h h)
    where
      quarter : (k : ℕ) → 4 * k * 2 ^ 1074 ≡ k * 2 ^ 1076
      quarter k = ap (λ (z : ℕ). z * 2 ^ 1074) (mul_comm 4 k) ∙ mul_assoc k 4 (2 ^ 1074)

      twice : (k : ℕ) → 2 * k ≡ k + k
      twice k = omega arith

  even : n ≡ 2 * (moved S.m S.e * 2 ^ 43)
  even = go (moved S.m S.e)
    where
      go : (a : ℕ) → a * 17592186044416 ≡ 2 * (a * 8796093022208)
      go a = omega arith

  own : Units x (S.m * 2 ^ S.e)
  own = units x (S.m * 2 ^ S.e) S.value

  rounded : Units r (s * 2 ^ h)
  rounded = units r (s * 2 ^ h) result

  nearest_positive : Nearest r x
  nearest_positive = record {
    is_float = subst (λ (z : Float). T (fits binary64 z)) (sym (positive_is S.m S.e S.some S.short)) (of_bits-fits binary64 (h * 4503599627370496 + s));
    is_finite = counted r result;
    not_negative = at_least_zero rounded;
    above = λ y f g l. up y l (candidate y f g (above_zero y rounded l));
    below = λ y f g k l. down y l (candidate y f g k);
  }
    where
      counted : (x : Float) → HasValue x false (s * 2 ^ h) (2 ^ 1074) → T (finite x)
      counted nan v = v
      counted (inf t) v = v
      counted (fin t m e) v = tt

      up : (y : Float) → lt_f (val_f r) (val_f y) → Candidate y → lt_f (val_f x) (square_f (midpoint r y))
      up y l c =
          midpoint_above own rounded c.value
          (lt_of_le_of_lt (le_of_eq scale) (above_float n (moved S.m S.e * 2 ^ 43) w s h even whole refl span.0 c.m c.e c.short (units_lt rounded c.value l)))

      down : (y : Float) → lt_f (val_f y) (val_f r) → Candidate y → lt_f (square_f (midpoint y r)) (val_f x)
      down y l c =
          midpoint_below own c.value rounded
          (subst (λ (z : ℕ). z * z < 4 * (S.m * 2 ^ S.e) * 2 ^ 1074) (add_comm (s * 2 ^ h) (c.m * 2 ^ c.e))
          (lt_of_lt_of_le (below_float n (moved S.m S.e * 2 ^ 43) w s h even whole refl span.0 c.m c.e c.short (units_lt c.value rounded l)) (le_of_eq (sym scale))))

-- ---- either zero
nearest_zero : (t : Bool) (e : ℤ) → T (fits binary64 (fin t zero e)) → Nearest (fin t zero e) (fin t zero e)
nearest_zero t e f = record {
  is_float = f;
  is_finite = tt;
  not_negative = at_least_zero (no_units t e);
  above = λ y g k l. up y l (candidate y g k (above_zero y (no_units t e) l));
  below = λ y g k m l. absurd (none y l (candidate y g k m));
}
  where
    up : (y : Float) → lt_f (val_f (fin t zero e)) (val_f y) → Candidate y → lt_f (val_f (fin t zero e)) (square_f (midpoint (fin t zero e) y))
    up y l c =
        midpoint_above (no_units t e) (no_units t e) c.value
        (subst (λ (z : ℕ). z < (0 + c.m * 2 ^ c.e) * (0 + c.m * 2 ^ c.e)) (sym (zero-mul (2 ^ 1074))) (squared (c.m * 2 ^ c.e) (units_lt (no_units t e) c.value l)))
      where
        some : (b : ℕ) → 0 < b → 0 < 0 + b
        some b k = omega arith

        squared : (b : ℕ) → 0 < b → 0 < (0 + b) * (0 + b)
        squared b k = mul-pos (some b k) (some b k)

    none : (y : Float) → lt_f (val_f y) (val_f (fin t zero e)) → Candidate y → ⊥
    none y l c = clash (c.m * 2 ^ c.e) (units_lt c.value (no_units t e) l)
      where
        clash : (b : ℕ) → b < 0 → ⊥
        clash b k = omega arith

held_is : {x y : Float} → held x ≡ held y → x ≡ y
held_is h = cc

never : {A : Type 0} (r : Float) → refused 6 ≡ held r → A
never r h = let z : ◌≡◌ {A = ℕ} 0 1 = cc in absurd (omega arith)

-- the value of every accepted float is the nearest to its root
pub nearest : (x r : Float) → T (fits binary64 x) → root x ≡ held r → Nearest r x
unfolding root
nearest nan r f h = never r h
nearest (inf t) r f h = never r h
nearest (fin t zero e) r f h = subst (λ (z : Float). Nearest z (fin t zero e)) (held_is h) (nearest_zero t e f)
nearest (fin true (suc m) e) r f h = never r h
nearest (fin false (suc m) e) r f h = go (significand (fin false (suc m) e) f p)
  where
    p : T (positive (fin false (suc m) e))
    p = lt→ltb 0 (suc m) (zero-lt-suc m)

    go : Significand (fin false (suc m) e) → Nearest r (fin false (suc m) e)
    go S = subst (λ (z : Float). Nearest z (fin false (suc m) e)) (held_is (sym (root_of (fin false (suc m) e) (S.m * 2 ^ S.e) p S.value) ∙ h)) (nearest_positive (fin false (suc m) e) S)

-- a value is a float
pub root_fits : (x r : Float) → T (fits binary64 x) → root x ≡ held r → T (fits binary64 r)
root_fits x r f h = (nearest x r f h).is_float

-- two floats that are nearest to one root are equal as fractions: each is at most the other
pub nearest_le : (x r q : Float) → Nearest r x → Nearest q x → le_f (val_f r) (val_f q)
nearest_le x r q R Q = go (le_or_lt (val_f r) (val_f q))
  where
    go : le_f (val_f r) (val_f q) ⊎ lt_f (val_f q) (val_f r) → le_f (val_f r) (val_f q)
    go (inl h) = h
    go (inr h) =
        absurd (lt_irrefl_f (val_f x) (square_f (midpoint q r)) (lt_le_f (val_f x) (square_f (midpoint q r)) (Q.above r R.is_float R.is_finite h)) (R.below q Q.is_float Q.is_finite Q.not_negative h))
