-- The rule of the table of reciprocals, by one computed test, and what it says of the entry for a number. Assumes nothing.
use mathlib.Core.Path.{◌≡◌, subst}
use mathlib.Core.Bool.{Bool, true, ◌&&◌}
use mathlib.Core.List.{List, [], ◌∷◌}
use Prim.Native.Nat.{ℕ, ◌+◌, ◌-◌, ◌*◌, ◌/◌, ◌^◌, ◌≤◌, ◌<◌}
use native.Mathlib.Nat.{le_trans, mul-le-mul_left}
use native.Mathlib.Omega.{arith}
use lib.Dec.{T, leb, leb→le}
use lib.ListN.{get_or}
use lib.Ieee.Fits.{and_l, and_r}
use Rattle.root.specs.Reciprocals.{reciprocals}
use Rattle.number.proofs.Table.{every, at}

-- what Newton's steps ask of the entry y for the first eight digits j: of each pair that the left one is at most the right one
abbrev entry : ℕ → ℕ → List (ℕ × ℕ)
entry j y = (y + 1, 2 ^ 17) ∷ (2 ^ 62, y * y * (j * 2 ^ 22) + 2 ^ 55) ∷ (y * y * ((j + 1) * 2 ^ 22), 2 ^ 62 + 2 ^ 55) ∷ []

abbrev tests : List (ℕ × ℕ) → Bool
tests [] = true
tests (p ∷ ps) = leb p.0 p.1 && tests ps

abbrev Holds : List (ℕ × ℕ) → Type 0
Holds [] = Prim.Unit {0}
Holds (p ∷ ps) = (p.0 ≤ p.1) × Holds ps

passed : (ps : List (ℕ × ℕ)) → T (tests ps) → Holds ps
passed [] t = tt
passed (p ∷ ps) t = (leb→le p.0 p.1 (and_l (leb p.0 p.1) (tests ps) t), passed ps (and_r (leb p.0 p.1) (tests ps) t))

rule : T (every (λ (i y : ℕ). tests (entry (i + 64) y)) 0 reciprocals)
rule = tt

looked : (j : ℕ) → 64 ≤ j → j < 256 → Holds (entry j (get_or reciprocals (j - 64) 0))
looked j h k =
    passed (entry j (get_or reciprocals (j - 64) 0))
    (subst (λ (z : ℕ). T (tests (entry z (get_or reciprocals (j - 64) 0)))) (back j h) (at (λ (i y : ℕ). tests (entry (i + 64) y)) reciprocals rule (j - 64) (under j h k)))
  where
    back : (j : ℕ) → 64 ≤ j → j - 64 + 64 ≡ j
    back j h = omega arith

    under : (j : ℕ) → 64 ≤ j → j < 256 → j - 64 < 192
    under j h k = omega arith

-- ---- the start, for a number a of 63 or 64 digits
abbrev pub chosen : ℕ → ℕ
chosen a = get_or reciprocals (a / 72057594037927936 - 64) 0

abbrev pub scaled : ℕ → ℕ
scaled a = a / 17179869184 + 1

module _ (a : ℕ) (long : 2 ^ 62 ≤ a) (fits : a < 2 ^ 64) where
  holds : Holds (entry (a / 72057594037927936) (chosen a))
  holds = looked (a / 72057594037927936) (omega arith) (omega arith)

  pub start_few : chosen a < 2 ^ 17
  start_few = lin (chosen a) holds.0
    where
      lin : (y : ℕ) → y + 1 ≤ 131072 → y < 131072
      lin y h = omega arith

  pub start_over : chosen a * chosen a * scaled a ≤ 2 ^ 62 + 2 ^ 55
  start_over = le_trans (mul-le-mul_left (chosen a * chosen a) (lin a)) holds.1.1.0
    where
      lin : (a : ℕ) → a / 17179869184 + 1 ≤ (a / 72057594037927936 + 1) * 4194304
      lin a = omega arith

  pub start_near : 2 ^ 62 ≤ chosen a * chosen a * scaled a + 2 ^ 55
  start_near = end _ _ (mul-le-mul_left (chosen a * chosen a) (lin a)) holds.1.0
    where
      lin : (a : ℕ) → a / 72057594037927936 * 4194304 ≤ a / 17179869184 + 1
      lin a = omega arith

      end : (x y : ℕ) → x ≤ y → 2 ^ 62 ≤ x + 2 ^ 55 → 2 ^ 62 ≤ y + 2 ^ 55
      end x y h k = omega arith

  pub scaled_size : (2 ^ 28 < scaled a) × (scaled a ≤ 2 ^ 30) × (a ≤ scaled a * 2 ^ 34) × (scaled a * 2 ^ 34 ≤ a + 2 ^ 34)
  scaled_size = (omega arith, omega arith, omega arith, omega arith)
