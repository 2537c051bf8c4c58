-- A polynomial in fixed point, as the elementary functions work it.
use Rattle.std.specs.Prelude.{ℕ, ◌+◌, ◌*◌, ◌/◌, ◌^◌, List, [], ◌∷◌}

-- c₀ + q (c₁ + q (c₂ + ..)), q in units of 2 ^ -64, each product rounded down
unfoldable pub horner : List ℕ → ℕ → ℕ
horner [] q = 0
horner (c ∷ cs) q = c + horner cs q * q / 2 ^ 64
