-- The whole power of a dual number by the exponent's two cases, as the code makes them, over any arithmetic. Assumes nothing.
use Prim.Native.Nat.{ℕ, zero, suc, ◌+◌, ◌-◌}
use native.Mathlib.Numerals.{add-one}
use native.Mathlib.Omega.{arith}
use mathlib.Core.Path.{◌≡◌, refl}
use lib.IntN.{pos}
use lib.Ieee as Ieee
use lib.Ieee.{binary64}
use Rattle.number.specs.Arith.{Arith, zero64}
use Rattle.dual.specs.Dual.{DualOf, pow_d, down_d}

module _ (A : Arith) (x : DualOf A.Num) where
  pub pow_zero : (n : ℕ) (r z : A.Num) → n ≡ 0 → r ≡ A.pow x.re 0 → z ≡ A.lit zero64 → record { re = r; eps = z } ≡ pow_d A x n
  unfolding pow_d
  pow_zero n r z e p q = rw (e, p, q)

  pub pow_above : (n : ℕ) (r b k : A.Num) → (n ≡ 0 → ⊥) → r ≡ A.pow x.re n → b ≡ A.pow x.re (n - 1) → k ≡ A.lit (Ieee.of_int binary64 (pos n))
      → record { re = r; eps = A.mul (A.mul k b) x.eps } ≡ pow_d A x n
  unfolding pow_d
  pow_above zero r b k h p q s = absurd (h refl)
  pow_above (suc n) r b k h p q s = let e : suc n - 1 ≡ n = omega arith in rw (p, q, s, e)

  pub down_zero : (n : ℕ) (r z : A.Num) → n ≡ 0 → r ≡ A.pow_down x.re 0 → z ≡ A.lit zero64 → record { re = r; eps = z } ≡ down_d A x n
  unfolding down_d
  down_zero n r z e p q = rw (e, p, q)

  pub down_above : (n : ℕ) (r b k : A.Num) → (n ≡ 0 → ⊥) → r ≡ A.pow_down x.re n → b ≡ A.pow_down x.re (n + 1) → k ≡ A.lit (Ieee.neg (Ieee.of_int binary64 (pos n)))
      → record { re = r; eps = A.mul (A.mul k b) x.eps } ≡ down_d A x n
  unfolding down_d
  down_above zero r b k h p q s = absurd (h refl)
  down_above (suc n) r b k h p q s = rw (p, q, s, add-one)
