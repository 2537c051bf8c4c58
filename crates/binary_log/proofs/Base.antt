-- The base's domain: what it says of the bits, and the ways of `logOf`. Assumes nothing.
use mathlib.Core.Path.{◌≡◌, sym, ◌∙◌, subst}
use mathlib.Core.Bool.{Bool, true, false, not}
use Prim.Native.Nat.{ℕ, ◌+◌, ◌-◌, ◌*◌, ◌/◌, ◌%◌, ◌^◌, ◌≤◌, ◌<◌}
use native.Mathlib.Nat.{not-le_of_lt}
use lib.Dec.{T, leb, leb→le, le→leb, not_T, lit<, lit≤}
use lib.Ieee.{Float, binary64, fits, is_nan, of_bits, to_bits, le}
use lib.Ieee.Bits.{is_true, is_false}
use lib.Ieee.Fits.{and_l, and_r}
use lib.Ieee.Positive.{positive, between}
use Rattle.number.specs.Domain.{base_inside}
use Rattle.fixed_point.proofs.Decode.{bits_from, bits_to}
use Rattle.logarithm.proofs.Domain.{no_nan}
use Rattle.binary_log.specs.BinaryLog.{significand_log, log_of}
use Rattle.binary_log.specs.declared.Log.{Log}

abbrev least : Float
least = of_bits binary64 0x3fa0_0000_0000_0000

abbrev greatest : Float
greatest = of_bits binary64 0x4040_0000_0000_0000

-- ---- the bits of a base inside
least_positive : T (positive least)
unfolding of_bits
least_positive = tt

greatest_positive : T (positive greatest)
unfolding of_bits
greatest_positive = tt

pub base_no_nan : (x : Float) → T (base_inside x) → T (not (is_nan x))
unfolding base_inside
base_no_nan x h = no_nan x greatest (is_true (le x greatest) (and_r (le least x) (le x greatest) h))

pub base_bits : (x : Float) → T (fits binary64 x) → T (base_inside x) → (1018 * 2 ^ 52 ≤ to_bits binary64 x) × (to_bits binary64 x ≤ 1028 * 2 ^ 52)
unfolding base_inside
base_bits x f h =
    let l = and_l (le least x) (le x greatest) h in
    let u = and_r (le least x) (le x greatest) h in
    let p = between least x greatest least_positive greatest_positive l u in
    (bits_from x f p 0x3fa0_0000_0000_0000 (lit≤ tt) (lit< tt) l, bits_to x f p 0x4040_0000_0000_0000 (lit≤ tt) (lit< tt) u)

-- ---- the ways of the definition, t being the test's answer
module _ (x : Float) (t : Bool) (is : t ≡ base_inside x) where
  pub accepted : t ≡ true → T (base_inside x)
  accepted h = subst T (sym h ∙ is) tt

  pub outside_is : t ≡ false → ◌≡◌ {A = Log} (record { base = x; size = 0; negative = false }) (log_of x)
  unfolding log_of
  outside_is h = rw (← is, h)

  module _ (b g : ℕ) (of : b ≡ to_bits binary64 x) (log : g ≡ significand_log (b % 2 ^ 52 + 2 ^ 52)) (inside : t ≡ true) where
    pub up_is : 1023 ≤ b / 2 ^ 52 → ◌≡◌ {A = Log} (record { base = x; size = (b / 2 ^ 52 - 1023) * 2 ^ 61 + g; negative = false }) (log_of x)
    unfolding log_of
    up_is h = rw (← of, ← is, inside, is_true (leb 1023 (b / 2 ^ 52)) (le→leb 1023 (b / 2 ^ 52) h), log)

    pub down_is : b / 2 ^ 52 < 1023 → ◌≡◌ {A = Log} (record { base = x; size = (1023 - b / 2 ^ 52) * 2 ^ 61 - g; negative = true }) (log_of x)
    unfolding log_of
    down_is h = rw (← of, ← is, inside, is_false (leb 1023 (b / 2 ^ 52)) (not_T (leb 1023 (b / 2 ^ 52)) (λ (u : T (leb 1023 (b / 2 ^ 52))). not-le_of_lt h (leb→le 1023 (b / 2 ^ 52) u))), log)
