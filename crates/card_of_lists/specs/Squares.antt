-- What a card's writer has tested of its pairs' numbers.
use Rattle.std.specs.Prelude.{◌≡◌, ◌≤◌, ◌*◌, ℕ, Float, length, List}
use Rattle.sizes.specs.Sizes.{side}

-- the pairs' numbers of n components, each kind of them in its square
abbrev pub Squares : ℕ → List Float → List Float → Type 0
Squares n k l = (n ≤ side) × (length k ≡ n * n) × (length l ≡ n * n)
