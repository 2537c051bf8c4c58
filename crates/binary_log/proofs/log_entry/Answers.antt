-- `log_entry` meets its contract. Assumes nothing.
use Rattle.std.proofs.Common.{◌≡◌, ℕ, zero, suc, List, [], ◌∷◌, get_or, length, refl, arith}
use native.Mathlib.Nat.{suc_inj}
use Rattle.binary_log.specs.Tables.{log_factors, logs}
use Rattle.binary_log.proofs.log_entry.Goals as goal

-- two lists as one of pairs
abbrev pairs : List ℕ → List ℕ → List (ℕ × ℕ)
pairs [] ys = []
pairs (x ∷ xs) [] = []
pairs (x ∷ xs) (y ∷ ys) = (x, y) ∷ pairs xs ys

paired : (xs ys : List ℕ) → length xs ≡ length ys → (j : ℕ) → get_or (pairs xs ys) j (0, 0) ≡ (get_or xs j 0, get_or ys j 0)
paired [] [] h j = refl
paired [] (y ∷ ys) h j = absurd (omega arith)
paired (x ∷ xs) [] h j = absurd (omega arith)
paired (x ∷ xs) (y ∷ ys) h zero = refl
paired (x ∷ xs) (y ∷ ys) h (suc j) = paired xs ys (suc_inj h) j

pub returns : goal.returns
returns c = paired log_factors logs refl c.args.j
