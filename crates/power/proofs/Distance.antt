-- THE LAWS: whatever `powf` holds is finite and within 2 ^ -48 of every value of document 01's bracket, at all bases and exponents of the domain, and within 2 ^ -50 at every exponent but 1. Assumes nothing.
use mathlib.Core.Path.{◌≡◌, refl, sym, ap, ◌∙◌, subst}
use mathlib.Core.Bool.{Bool, true, false}
use Prim.Native.Nat.{ℕ, ◌+◌, ◌-◌, ◌*◌, ◌^◌, ◌≤◌}
use native.Mathlib.Nat.{one-mul, mul-zero, zero-mul, add-zero}
use native.Mathlib.Omega.{arith}
use lib.Dec.{T, eqb→eq}
use lib.Ieee.{Float, nan, inf, fin, binary64, of_bits, of_fields, odd, to_bits, fits, le, lt, eq}
use lib.Ieee.Bits.{of_bits-to_bits, is_true}
use lib.Ieee.Scale.{finite}
use Rattle.number.specs.Ans.{held, refused, ◌>>=◌, demand}
use Rattle.number.specs.Frac.{Frac, frac, val_f}
use Rattle.number.proofs.Frac.{ring}
use Rattle.number.specs.Domain.{base_inside, exponent_inside}
use Rattle.series.specs.Exact.{PowerValue}
use Rattle.series.specs.Distance.{within}
use Rattle.series.proofs.Close.{Close}
use Rattle.binary_log.specs.BinaryLog.{log_of}
use Rattle.power.specs.Power.{exponent_of, exponent_size, power_of, powf_of}
use Rattle.power.specs.declared.FixedExponent.{FixedExponent}
use Rattle.power.proofs.Exponents.{value_is}
use Rattle.power.proofs.Corners.{exponent_one}
use Rattle.power.proofs.PowerNear.{power_near}
use Rattle.power.proofs.ExponentOne.{one_near}

-- 2 ^ -50 is at most 2 ^ -48
loosen : (r e : Frac) → within (2 ^ 50) r e → within (2 ^ 48) r e
loosen (frac p n d) (frac q k c) h = go ((p * c + k * d - (n * c + q * d)) + (n * c + q * d - (p * c + k * d))) ((q - k) + (k - q)) c (d * c) h
  where
    go : (x y c z : ℕ) → (2 ^ 50 * x + 0 * 0) * c + 0 * (1 * z) ≤ y * (1 * z) + (2 ^ 50 * 0 + 0 * x) * c → (2 ^ 48 * x + 0 * 0) * c + 0 * (1 * z) ≤ y * (1 * z) + (2 ^ 48 * 0 + 0 * x) * c
    go x y c z h =
        let u = simp (ring, one-mul, mul-zero, zero-mul, add-zero) at h in
        simp (ring, one-mul, mul-zero, zero-mul, add-zero) (omega arith)

one_value : val_f (of_bits binary64 0x3ff0_0000_0000_0000) ≡ frac 1 0 1
unfolding of_bits of_fields odd
one_value = refl

-- the exponent whose flag stands is 1
flag_is : (y : Float) → T (fits binary64 y) → T (exponent_inside y) → (exponent_of y).one ≡ true → y ≡ of_bits binary64 0x3ff0_0000_0000_0000
flag_is y f h e = sym (of_bits-to_bits binary64 y f) ∙ ap (of_bits binary64) (eqb→eq (to_bits binary64 y) 0x3ff0_0000_0000_0000 (subst T (sym e ∙ ap (λ (r : FixedExponent). r.one) (sym (value_is y true (sym (is_true (exponent_inside y) h)) (exponent_size (to_bits binary64 y)) refl refl))) tt))

-- what is held is inside both domains
inside : (x y r : Float) → powf_of x y ≡ held r → T (base_inside x) × T (exponent_inside y)
unfolding powf_of ◌>>=◌ demand
inside x y r h = go (base_inside x) (exponent_inside y) h
  where
    never : refused 6 ≡ held r → ⊥
    never e = let z : ◌≡◌ {A = ℕ} 0 1 = cc in omega arith

    go : (s t : Bool) → (demand 6 s >>= λ _. demand 6 t >>= λ _. held (power_of (log_of x) (exponent_of y))) ≡ held r → T s × T t
    go false t h = absurd (never h)
    go true false h = absurd (never h)
    go true true h = (tt, tt)

-- a base of the domain is finite
base_finite : (x : Float) → T (base_inside x) → T (finite x)
unfolding base_inside of_bits le lt eq
base_finite nan h = h
base_finite (inf false) h = h
base_finite (inf true) h = h
base_finite (fin s m e) h = tt

-- 'The distance holds from every value in the bracket'
pub power_distance : (x y r : Float) (e : Frac) → T (fits binary64 x) → T (fits binary64 y) → powf_of x y ≡ held r → PowerValue (val_f x) (val_f y) e → Close (within (2 ^ 48)) r e
power_distance x y r e fx fy h p = go (exponent_of y).one refl
  where
    same : held x ≡ held r → x ≡ r
    same e = cc

    go : (t : Bool) → (exponent_of y).one ≡ t → Close (within (2 ^ 48)) r e
    go false q =
        let c = power_near x y r e fx fy q h p in
        (c.0, loosen (val_f r) e c.1)
    go true q =
        let i = inside x y r h in
        let o = flag_is y fy i.1 q in
        subst (λ (z : Float). Close (within (2 ^ 48)) z e) (same (sym (exponent_one x i.0) ∙ ap (powf_of x) (sym o) ∙ h))
        (base_finite x i.0, one_near x fx i.0 e (subst (λ (v : Frac). PowerValue (val_f x) v e) (ap val_f o ∙ one_value) p))

pub power_distance_50 : (x y r : Float) (e : Frac) → T (fits binary64 x) → T (fits binary64 y) → (y ≡ of_bits binary64 0x3ff0_0000_0000_0000 → ⊥) → powf_of x y ≡ held r → PowerValue (val_f x) (val_f y) e → within (2 ^ 50) (val_f r) e
power_distance_50 x y r e fx fy other h p = go (exponent_of y).one refl
  where
    go : (t : Bool) → (exponent_of y).one ≡ t → within (2 ^ 50) (val_f r) e
    go false q = (power_near x y r e fx fy q h p).1
    go true q = absurd (other (flag_is y fy (inside x y r h).1 q))
