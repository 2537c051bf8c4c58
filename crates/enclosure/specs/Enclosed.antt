-- A constant as the code has it: the Rust's float and the two that enclose it.
use Rattle.std.specs.Prelude.{◌≡◌, true, List, [], ◌∷◌}
use Rattle.number.specs.Arith.{Constant, nearest, node}
use Rattle.number.specs.Functions.{Decimal}
use Rattle.enclosure.specs.declared.Enclosed.{Enclosed}
use Rattle.enclosure.specs.Constants.{below, above}
use Rattle.enclosure.specs.Enclosure.{constant_e}

unfoldable pub enclosed : Constant → Enclosed
enclosed c = record { value = nearest c; below = below c; above = above c }

-- what the code has is a constant whose ends are finite
pub record IsEnclosed (c : Constant) (e : Enclosed) : Type 0 where
  pub is : e ≡ enclosed c
  pub sound : (constant_e c).ends.sound ≡ true

-- the decimals of a rule
abbrev pub table_of : List Decimal → List Enclosed
table_of [] = []
table_of (e ∷ l) = enclosed (node e.minus e.digits e.places) ∷ table_of l
