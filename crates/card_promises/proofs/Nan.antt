-- A pattern of a NaN on a card: the number is the NaN, and lies in no limits of the parameters (2). Assumes nothing.
use Prim.Native.Nat.{ℕ, ◌%◌, ◌<◌}
use lib.Ieee.{Float, nan, inf, fin, le, lt, eq}
use lib.ListN.{get_or}
use mathlib.Core.Path.{◌≡◌, refl, sym}
use mathlib.Core.Bool.{Bool, true, false, ◌&&◌}
use mathlib.Core.List.{List}
use Rattle.number.specs.Arith.{decimal}
use Rattle.number.proofs.Bits.{nan_read}
use Rattle.limits.specs.Limits.{in_limits, component_within}
use Rattle.card_lists.specs.Lists.{number_at}

-- the patterns of a NaN are those whose digits below the sign are above those of the infinity
pub nan_number : (values : List ℕ) (k : ℕ) → 0x7ff0_0000_0000_0000 < get_or values k 0 % 0x8000_0000_0000_0000 → number_at values k ≡ nan
nan_number values k h = sym (nan_read (get_or values k 0) h)

not_above : (low : Float) → le low nan ≡ false
unfolding le lt eq
not_above nan = refl
not_above (inf s) = refl
not_above (fin s m e) = refl

-- of sigma, epsilon_k, a mass, an m, or a pair's number
pub nan_outside : (low high : Float) → in_limits low high nan ≡ false
unfolding in_limits
nan_outside low high = rw (not_above low)

and_none : (a b : Bool) → b ≡ false → (a && b) ≡ false
and_none true b p = p
and_none false b p = refl

-- of an exponent la
pub nan_exponents : (sigma epsilon_k lr la : Float) → component_within (record { sigma = sigma; epsilon_k = epsilon_k; lr = lr; la = nan }) ≡ false
unfolding component_within le lt eq
nan_exponents sigma epsilon_k lr la = and_none (in_limits (decimal false 5 1) (decimal false 16 0) sigma && in_limits (decimal false 1 1) (decimal false 5000 0) epsilon_k) _ (rw (not_less (decimal false 3 0)))
  where
    not_less : (x : Float) → lt x nan ≡ false
    not_less nan = refl
    not_less (inf s) = refl
    not_less (fin s m e) = refl

-- of an exponent lr
pub nan_lr : (sigma epsilon_k la : Float) → component_within (record { sigma = sigma; epsilon_k = epsilon_k; lr = nan; la = la }) ≡ false
unfolding component_within le lt eq
nan_lr sigma epsilon_k la = and_none (in_limits (decimal false 5 1) (decimal false 16 0) sigma && in_limits (decimal false 1 1) (decimal false 5000 0) epsilon_k) _ (and_none (lt (decimal false 3 0) la && lt la nan) _ refl)
