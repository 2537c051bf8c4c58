-- What the test of the sign's bit tells. Assumes nothing.
use mathlib.Core.Path.{◌≡◌, sym, subst, ◌∙◌}
use mathlib.Core.Bool.{Bool, true, false}
use Prim.Native.Nat.{ℕ, ◌^◌, ◌≤◌, ◌<◌}
use native.Mathlib.Nat.{lt_of_not-le}
use lib.Dec.{T, leb, leb→le, le→leb}

module _ (b : ℕ) (t : Bool) (is : t ≡ leb (2 ^ 63) b) where
  pub set : t ≡ true → 2 ^ 63 ≤ b
  set h = leb→le (2 ^ 63) b (subst T (sym h ∙ is) tt)

  pub not_set : t ≡ false → b < 2 ^ 63
  not_set h = lt_of_not-le (λ u. subst T (sym is ∙ h) (le→leb (2 ^ 63) b u))
