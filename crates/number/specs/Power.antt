-- Document 01's whole power, over a bare product: start with 1; for each binary digit of the exponent from the lowest, multiply by the current square if the digit is 1; squared again only if a digit is left.
use Rattle.std.specs.Prelude.{ℕ, zero, suc, ◌/◌, ◌%◌, Bool, cond, List, [], ◌∷◌, ◌==◌}

-- the binary digits of n, lowest first, of which there are at most k
unfoldable pub digits : ℕ → ℕ → List Bool
digits zero n = []
digits (suc k) n = cond (n == 0) [] ((n % 2 == 1) ∷ digits k (n / 2))

module _ {N : Type 0} (mul : N → N → N) where
  -- from the digits that are left, the current square and the product so far
  unfoldable pub pow_digits : List Bool → N → N → N
  pow_digits [] sq acc = acc
  pow_digits (d ∷ []) sq acc = cond d (mul acc sq) acc
  pow_digits (d ∷ (e ∷ ds)) sq acc = pow_digits (e ∷ ds) (mul sq sq) (cond d (mul acc sq) acc)

  -- the power n of x, for an n of at most 32 digits
  unfoldable pub pow_up : N → N → ℕ → N
  pow_up one x n = pow_digits (digits 32 n) x one
