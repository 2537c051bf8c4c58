-- The ways of the word for the core, of the power and of `powf`. Assumes nothing.
use mathlib.Core.Path.{◌≡◌, sym, ap, ◌∙◌}
use mathlib.Core.Bool.{Bool, true, false, cond, beq}
use Prim.Native.Nat.{ℕ, ◌+◌, ◌-◌, ◌*◌, ◌^◌, ◌≤◌, ◌<◌}
use native.Mathlib.Omega.{arith}
use lib.Ieee.{Float}
use Rattle.number.specs.Ans.{held, refused, ◌>>=◌, demand}
use Rattle.number.specs.Domain.{base_inside, exponent_inside}
use Rattle.exponential.specs.Raise.{raise_of}
use Rattle.binary_log.specs.BinaryLog.{log_of}
use Rattle.binary_log.specs.declared.Log.{Log}
use Rattle.power.specs.Power.{exponent_of, product_of, word_of, power_of, powf_of}
use Rattle.power.specs.declared.FixedExponent.{FixedExponent}

-- ---- the word
pub sum_range : (v : ℕ) → v ≤ 1022 * 2 ^ 53 → (2 ^ 53 ≤ 1023 * 2 ^ 53 + v) × (1023 * 2 ^ 53 + v < 2046 * 2 ^ 53)
sum_range v h = (omega arith, omega arith)

pub difference_range : (v : ℕ) → v ≤ 1022 * 2 ^ 53 → (2 ^ 53 ≤ 1023 * 2 ^ 53 - v) × (1023 * 2 ^ 53 - v < 2046 * 2 ^ 53)
difference_range v h = (omega arith, omega arith)

module _ (l : Log) (y : FixedExponent) (v : ℕ) (is : v ≡ product_of l.size y.size) where
  pub sum_is : beq l.negative y.negative ≡ true → 1023 * 2 ^ 53 + v ≡ word_of l y
  unfolding word_of
  sum_is h = rw (h, is)

  pub difference_is : beq l.negative y.negative ≡ false → 1023 * 2 ^ 53 - v ≡ word_of l y
  unfolding word_of
  difference_is h = rw (h, is)

-- ---- the power
module _ (l : Log) (y : FixedExponent) where
  pub base_is : y.one ≡ true → l.base ≡ power_of l y
  unfolding power_of
  base_is h = rw h

  pub raised_is : (w : ℕ) (r : Float) → y.one ≡ false → w ≡ word_of l y → r ≡ raise_of w → r ≡ power_of l y
  unfolding power_of
  raised_is w r h p q = q ∙ ap raise_of p ∙ sym (ap (λ (t : Bool). cond t l.base (raise_of (word_of l y))) h)

-- ---- `powf`, s and t being the tests' answers
module _ (x y : Float) (s : Bool) (of : s ≡ base_inside x) where
  pub no_base : s ≡ false → refused 6 ≡ powf_of x y
  unfolding powf_of ◌>>=◌ demand
  no_base h = rw (← of, h)

  module _ (t : Bool) (is : t ≡ exponent_inside y) where
    pub no_exponent : s ≡ true → t ≡ false → refused 6 ≡ powf_of x y
    unfolding powf_of ◌>>=◌ demand
    no_exponent h k = rw (← of, h, ← is, k)

    pub value_is : (r : Float) (l : Log) (e : FixedExponent) → s ≡ true → t ≡ true → l ≡ log_of x → e ≡ exponent_of y → r ≡ power_of l e → held r ≡ powf_of x y
    unfolding powf_of ◌>>=◌ demand
    value_is r l e h k p q z = rw (← of, h, ← is, k, ← p, ← q, z)
