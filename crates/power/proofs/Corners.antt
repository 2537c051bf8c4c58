-- The corners of the power, exactly: exponent 1 gives the base, exponents 0 and base 1 give 1; and the rows of document 01's table. Assumes nothing.
use mathlib.Core.Path.{◌≡◌, refl, ap, ◌∙◌}
use mathlib.Core.Bool.{Bool, true, false, cond, beq}
use Prim.Native.Nat.{ℕ, ◌+◌, ◌-◌, ◌*◌, ◌/◌, ◌^◌}
use native.Mathlib.Nat.{zero-mul, mul-zero}
use lib.Dec.{T, leb}
use lib.Ieee.{Float, binary64, of_bits, of_fields, odd, to_bits, le, lt, eq, neg}
use lib.Ieee.Bits.{is_true}
use Rattle.number.specs.Ans.{held, refused, ◌>>=◌, demand}
use Rattle.number.specs.Domain.{base_inside, exponent_inside}
use Rattle.fixed_point.specs.Horner.{horner}
use Rattle.exponential.specs.Raise.{raise_of, significand_of}
use Rattle.binary_log.specs.BinaryLog.{log_of}
use Rattle.binary_log.specs.declared.Log.{Log}
use Rattle.power.specs.Power.{exponent_of, word_of, power_of, powf_of}
use Rattle.power.specs.declared.FixedExponent.{FixedExponent}

abbrev one : Float
one = of_bits binary64 0x3ff0_0000_0000_0000

-- inside both domains `powf` is the stages' composition
pub composed : (x y : Float) → T (base_inside x) → T (exponent_inside y) → powf_of x y ≡ held (power_of (log_of x) (exponent_of y))
unfolding powf_of ◌>>=◌ demand
composed x y h k = rw (is_true (base_inside x) h, is_true (exponent_inside y) k)

-- ---- exponent 1
log_base_is : (x : Float) → (log_of x).base ≡ x
unfolding log_of
log_base_is x = go (base_inside x) (leb 1023 (to_bits binary64 x / 2 ^ 52)) _ _ _ refl refl refl
  where
    go : (s t : Bool) (a b c : Log) → a.base ≡ x → b.base ≡ x → c.base ≡ x → (cond {A = Log} s (cond {A = Log} t a b) c).base ≡ x
    go true true a b c p q r = p
    go true false a b c p q r = q
    go false t a b c p q r = r

one_inside : T (exponent_inside one)
unfolding exponent_inside of_bits neg le lt eq
one_inside = tt

one_is : (exponent_of one).one ≡ true
unfolding exponent_of exponent_inside of_bits of_fields odd neg le lt eq to_bits
one_is = refl

pub exponent_one : (x : Float) → T (base_inside x) → powf_of x one ≡ held x
unfolding power_of
exponent_one x h = composed x one h one_inside ∙ ap held (base (log_of x) (exponent_of one) one_is ∙ log_base_is x)
  where
    base : (l : Log) (y : FixedExponent) → y.one ≡ true → power_of l y ≡ l.base
    base l y e = ap (λ (t : Bool). cond t l.base (raise_of (word_of l y))) e

-- ---- a product of 0
middle_is : raise_of (1023 * 2 ^ 53) ≡ one
unfolding raise_of significand_of horner
middle_is = refl

no_product : (l : Log) (y : FixedExponent) → y.size * l.size ≡ 0 → word_of l y ≡ 1023 * 2 ^ 53
unfolding word_of
no_product l y e = rw e (go (beq l.negative y.negative))
  where
    go : (t : Bool) → cond t (1023 * 2 ^ 53 + 0) (1023 * 2 ^ 53 - 0) ≡ 1023 * 2 ^ 53
    go true = refl
    go false = refl

-- ---- exponents 0: either zero
module _ (y : Float) (inside : T (exponent_inside y)) (size : (exponent_of y).size ≡ 0) (other : (exponent_of y).one ≡ false) where
  no_exponent : (x : Float) → T (base_inside x) → powf_of x y ≡ held one
  unfolding power_of
  no_exponent x h = composed x y h inside ∙ ap held (power (log_of x) (exponent_of y) other size)
    where
      power : (l : Log) (y : FixedExponent) → y.one ≡ false → y.size ≡ 0 → power_of l y ≡ one
      power l y e z = ap (λ (t : Bool). cond t l.base (raise_of (word_of l y))) e ∙ ap raise_of (no_product l y (ap (λ (n : ℕ). n * l.size) z ∙ zero-mul l.size)) ∙ middle_is

pub exponent_zero : (x : Float) → T (base_inside x) → powf_of x (of_bits binary64 0) ≡ held one
unfolding exponent_of exponent_inside of_bits of_fields odd neg le lt eq to_bits
exponent_zero x h = no_exponent (of_bits binary64 0) tt refl refl x h

pub exponent_minus_zero : (x : Float) → T (base_inside x) → powf_of x (of_bits binary64 0x8000_0000_0000_0000) ≡ held one
unfolding exponent_of exponent_inside of_bits of_fields odd neg le lt eq to_bits
exponent_minus_zero x h = no_exponent (of_bits binary64 0x8000_0000_0000_0000) tt refl refl x h

-- ---- base 1
base_one_inside : T (base_inside one)
unfolding base_inside of_bits le lt eq
base_one_inside = tt

log_one : (log_of one).size ≡ 0
unfolding log_of base_inside of_bits of_fields odd le lt eq to_bits horner
log_one = refl

pub base_one : (y : Float) → T (exponent_inside y) → powf_of one y ≡ held one
unfolding power_of
base_one y h = composed one y base_one_inside h ∙ ap held (power (exponent_of y))
  where
    power : (y : FixedExponent) → power_of (log_of one) y ≡ one
    power y = go y.one
      where
        go : (t : Bool) → cond t (log_of one).base (raise_of (word_of (log_of one) y)) ≡ one
        go true = log_base_is one
        go false = ap raise_of (no_product (log_of one) y (ap (λ (n : ℕ). y.size * n) log_one ∙ mul-zero y.size)) ∙ middle_is

-- ---- 'power base 32 accepted, next f64 up 6'
inside_32 : T (base_inside (of_bits binary64 0x4040_0000_0000_0000))
unfolding base_inside of_bits le lt eq
inside_32 = tt

pub base_32 : (y : Float) → T (exponent_inside y) → powf_of (of_bits binary64 0x4040_0000_0000_0000) y ≡ held (power_of (log_of (of_bits binary64 0x4040_0000_0000_0000)) (exponent_of y))
base_32 y h = composed (of_bits binary64 0x4040_0000_0000_0000) y inside_32 h

outside_32 : base_inside (of_bits binary64 0x4040_0000_0000_0001) ≡ false
unfolding base_inside of_bits le lt eq
outside_32 = refl

pub base_above_32 : (y : Float) → powf_of (of_bits binary64 0x4040_0000_0000_0001) y ≡ refused 6
unfolding powf_of ◌>>=◌ demand
base_above_32 y = rw outside_32
